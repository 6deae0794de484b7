use Rattle.std.proofs.Common.{◌≡◌, ◌-◌, List, take, ℕ}
use Rattle.kv_store.specs.Commands.{Request}
use Rattle.mu_model.specs.declared.config.Config.{Config}
use Rattle.mu_model.specs.declared.event.Event.{Event}
use Rattle.mu_model.specs.Contents.{IsConfig}
use Rattle.mu_model.specs.Knowledge.{applied}
use Rattle.mu_model.specs.Parts.{IsPossible}
use Rattle.mu_knowledge.specs.RowWords.{ReadsKnown}
use Rattle.mu_follow.specs.Follow.{StandsForFollow}
use Rattle.mu_follow.specs.Groups.{AreSpelled}
use Rattle.mu_node.specs.Answers.{HoldsAnswers}
use Rattle.mu_node.proofs.answers.apply_ready.Given as goal

abbrev pub invariant-loop-ready : goal.invariant-loop-ready
invariant-loop-ready l = record {
  stands : (c : Config) (r : ℕ) (mine : List Event) → StandsForFollow c r mine l.initial.follow → StandsForFollow c r mine l.follow;
  config : l.follow.config ≡ l.initial.follow.config;
  answers :
      (c : Config) (r : ℕ) (mine : List Event) (commands : List Request) → IsConfig c → IsPossible c r mine → ReadsKnown c r mine → AreSpelled c commands → StandsForFollow c r mine l.initial.follow
      → HoldsAnswers c commands (take l.initial.follow.progress.handed (applied c r mine)) l.initial.answers → HoldsAnswers c commands (take l.follow.progress.handed (applied c r mine)) l.answers;
}

abbrev pub decreases-loop-ready : goal.decreases-loop-ready
decreases-loop-ready l = l.follow.rows.applied - l.follow.progress.handed
