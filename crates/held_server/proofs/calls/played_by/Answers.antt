use Rattle.std.proofs.Common.{◌∙◌, inl, refl, subst, sym}
use Rattle.held_server.specs.Servers.{Plays}
use Rattle.held_server.proofs.OfServers.{no_byte}
use Rattle.held_server.proofs.calls.played_by.Goals as goal

pub returns-in-Ok : goal.returns-in-Ok
returns-in-Ok c =
    subst (λ told. Plays told.number c.args.held.now (record { server = c.play.new.self }) told.status) (sym c.of.ensures)
    (record {
      serves = c.in-Ok.ensures;
      told = inl (refl, λ none. c.is_waiting.ensures (no_byte c.is_waiting.result (sym c.from.ensures ∙ none)));
    })
