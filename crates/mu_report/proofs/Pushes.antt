-- Words that are added to a line, one after the other.
use Rattle.std.proofs.Common.{List, [], ◌∷◌, None, Some, ℕ, ◌++◌, ◌≡◌, refl}
use Rattle.std.specs.declared.option.Option.{Option}
use Rattle.mu_events.specs.Lines.{event_line}
use Rattle.mu_outcome.specs.declared.fault.Broken.{Broken}
use Rattle.mu_mistakes.specs.Misreads.{flaw_lines}
use Rattle.mu_report.specs.Reasons.{explained_lines, fault_words, first_words}

-- the line of the list, the event and what is wrong with it
pub both_parts : (events line : ℕ) (o : Option Broken) (broken : Broken) (first told wrong : List ℕ) → o ≡ Some broken → first ≡ first_words events line o
    → told ≡ event_line broken.event → wrong ≡ fault_words broken.fault → first ∷ told ∷ wrong ∷ [] ≡ explained_lines events line o
both_parts events line o broken first told wrong some spelled is also = rw spelled (rw is (rw also (rw some refl)))

-- the line of a flaw, if there is one, and another
pub after_flaw : (flaw : Option (List ℕ)) (last : List ℕ) → flaw_lines flaw [] ++ (last ∷ []) ≡ flaw_lines flaw (last ∷ [])
after_flaw None last = refl
after_flaw (Some told) last = refl
