use Rattle.std.proofs.Common.{subst, sym, ◌≡◌, ℕ}
use Rattle.mu_library.specs.declared.replicas.Asked.{Asked}
use Rattle.mu_library.specs.Replicas.{AsksNext, OfReplica, none_asked}
use Rattle.libmu.proofs.mu_replica_next.Goals as goal

pub returns : goal.returns
returns g c =
    let asked : Asked = c.next_access-asked.result in
    (asked, c.of.ensures, subst (λ (s : ℕ). OfReplica (asked ≡ none_asked 1) (AsksNext g.at.0 g.at.1 asked) c.args.replica.now.held c.next_access-asked.new.handle.held s) (sym c.from.ensures) c.next_access-asked.ensures)
