use Rattle.std.proofs.Common.{◌-◌, ◌≡◌, map, take, ◌≤◌, ◌++◌, length, []}
use Rattle.std.specs.Option.{option_map_or}
use Rattle.mu_text.specs.Lines.{words}
use Rattle.mu_text.proofs.line_words.split_words.Given as goal

abbrev pub invariant-loop-count : goal.invariant-loop-count
invariant-loop-count l = record {
  few : l.count ≤ 14;
  room : length l.items ≡ 14;
  taken : words l.line ≡ map (λ word. word.now) (take l.count l.items) ++ option_map_or (λ rest. words rest.now) l.rest [];
}

abbrev pub decreases-loop-count : goal.decreases-loop-count
decreases-loop-count l = 14 - l.count
