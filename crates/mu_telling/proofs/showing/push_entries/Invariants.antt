-- The entries at the positions before this one were added.
use Rattle.std.proofs.Common.{◌++◌, ◌≡◌}
use Rattle.mu_model.specs.Answers.{answer_of}
use Rattle.mu_model.specs.declared.event.Verb.{Verb}
use Rattle.mu_telling.specs.Held.{AtId}
use Rattle.mu_telling.specs.Shown.{entry_fact, given_below}
use Rattle.mu_telling.proofs.showing.push_entries.Given as goal

abbrev pub invariant-loop-position : goal.invariant-loop-position
invariant-loop-position l =
    AtId l.walk l.region (λ c past. l.facts.items
    ≡ l.initial.facts.items ++ given_below l.position (λ i. entry_fact l.region i (answer_of c l.region past (Verb.Look l.region i))))
