use Rattle.std.proofs.Common.{◌≡◌, ◌≤◌, ◌∷◌, [], length, map, take}
use Rattle.mu_events.specs.Events.{sides}
use Rattle.mu_events.specs.Steps.{step_after}
use Rattle.mu_text.specs.Lines.{words}
use Rattle.mu_events.proofs.events.step_named.Given as goal

-- the words so far stand behind the name, and the rest is left
abbrev pub invariant-loop-behind : goal.invariant-loop-behind
invariant-loop-behind l = record {
  few : l.count ≤ 4;
  room : length l.items ≡ 4;
  same : step_after (l.name ∷ map (λ word. word.now) (take l.count l.items)) (sides (words l.rest)) ≡ step_after (l.name ∷ []) (sides (words l.text));
}

abbrev pub decreases-loop-behind : goal.decreases-loop-behind
decreases-loop-behind l = length (words l.rest)
