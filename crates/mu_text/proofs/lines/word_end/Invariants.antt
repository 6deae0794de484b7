use Rattle.std.proofs.Common.{ℕ, true, ◌<◌, ◌≡◌}
use Rattle.std.specs.Prelude.{slice_index}
use Rattle.memchr.specs.Find.{is_byte}
use Rattle.mu_text.specs.declared.TheConstants.{SPACE}
use Rattle.mu_text.proofs.lines.word_end.Given as goal

abbrev pub invariant-loop-i : goal.invariant-loop-i
invariant-loop-i l = (k : ℕ) → k < l.i → is_byte SPACE (slice_index l.line k) ≡ true → ⊥
