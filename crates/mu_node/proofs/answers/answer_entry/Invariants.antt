use Rattle.std.proofs.Common.{◌≡◌, ◌≤◌, List, Some, length, take, ℕ}
use Rattle.std.specs.List.{slice_get}
use Rattle.kv_store.specs.Commands.{Request}
use Rattle.mu_model.specs.declared.config.Config.{Config}
use Rattle.mu_model.specs.declared.event.Event.{Event}
use Rattle.mu_model.specs.Contents.{IsConfig}
use Rattle.mu_model.specs.Knowledge.{applied}
use Rattle.mu_model.specs.Parts.{IsPossible}
use Rattle.mu_knowledge.specs.RowWords.{ReadsKnown}
use Rattle.mu_follow.specs.Follow.{StandsForFollow}
use Rattle.mu_follow.specs.Groups.{AreSpelled, group_of, group_size}
use Rattle.mu_node.specs.Answers.{HasAnswered}
use Rattle.mu_node.proofs.answers.answer_entry.Given as goal

abbrev pub invariant-loop-t : goal.invariant-loop-t
invariant-loop-t l =
    (c : Config) (r : ℕ) (mine : List Event) (commands : List Request) (i : ℕ) → IsConfig c → IsPossible c r mine → ReadsKnown c r mine → AreSpelled c commands → StandsForFollow c r mine l.follow
    → slice_get (applied c r mine) i ≡ Some l.fn.ready.value → l.fn.ready.rows ≡ group_size c l.fn.ready.value → length (group_of c commands l.fn.ready.value) ≤ l.initial.answers.left
    → HasAnswered (take l.t (group_of c commands l.fn.ready.value)) l.initial.answers l.answers
