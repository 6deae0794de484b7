use Rattle.std.proofs.Common.{subst, sym, ◌≡◌, ℕ}
use Rattle.mu_library.specs.declared.replicas.Asked.{Asked}
use Rattle.mu_library.specs.Replicas.{TakesNextFound, OfReplica, none_asked}
use Rattle.libmu.proofs.mu_replica_take_next.Goals as goal

pub returns : goal.returns
returns g c =
    let asked : Asked = c.take_word_and_next-asked.result in
    (asked, c.of.ensures, subst (λ (s : ℕ). OfReplica (asked ≡ none_asked 1) (TakesNextFound g.at.0 g.at.1 c.args.found asked) c.args.replica.now.held c.take_word_and_next-asked.new.handle.held s) (sym c.from.ensures) c.take_word_and_next-asked.ensures)
