use Rattle.std.proofs.Common.{List, ℕ, ◌≡◌, ◌<◌, length}
use Rattle.std.specs.Prelude.{slice_index}
use Rattle.mu_model.specs.declared.config.Config.{Config}
use Rattle.mu_model.specs.declared.event.Event.{Event}
use Rattle.mu_model.specs.Contents.{IsConfig}
use Rattle.mu_model.specs.Ends.{head_known}
use Rattle.mu_model.specs.Parts.{IsPossible}
use Rattle.mu_follow.specs.Follow.{StandsForFollow}
use Rattle.mu_node.proofs.ending.heads_known.Given as goal

abbrev pub invariant-loop-q : goal.invariant-loop-q
invariant-loop-q l = record {
  seven : length l.heads ≡ 7;
  known : (c : Config) (mine : List Event) → IsConfig c → IsPossible c l.r mine → StandsForFollow c l.r mine l.follow → (k : ℕ) → k < l.q → slice_index l.heads k ≡ head_known l.r mine k;
}
