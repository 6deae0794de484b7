use Rattle.std.proofs.Common.{◌≡◌, inl, refl, subst, sym}
use Rattle.std.specs.Option.{MatchOption}
use Rattle.mu_server.specs.Holding.{Life}
use Rattle.mu_server.specs.Opening.{Opens}
use Rattle.held_server.specs.Servers.{OpensOne}
use Rattle.held_server.proofs.calls.opened_in.Goals as goal

pub returns-in-Ok-Some : goal.returns-in-Ok-Some
returns-in-Ok-Some c =
    let old = c.args.held.now.server.connections.items in
    let new = c.open.new.self.connections.items in
    subst (λ told. OpensOne told.number c.args.held.now (record { server = c.open.new.self }) told.status) (sym c.of.ensures)
    (record {
      store = c.open.ensures.store;
      opens = inl (refl, subst (λ opened. MatchOption opened (new ≡ old) (λ number. (life : Life) → Opens life number old new)) c.in-Ok-Some.field-0-is c.in-Ok-Some.ensures.opens);
    })
