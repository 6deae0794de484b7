-- verdict line: what is said of a list of events, as a line.
use Rattle.std.specs.Prelude.{ℕ, List, ◌++◌, codes}
use Rattle.std.specs.Fmt.{decimal}
use Rattle.mu_events.specs.Lines.{answer_words}
use Rattle.mu_outcome.specs.declared.verdict.Verdict.{Verdict}
use Rattle.mu_outcome.specs.declared.verdict.Verdict.TheVariants.{Legal, Illegal}
use Rattle.mu_outcome.specs.declared.verdict.Wrong.{Wrong}
use Rattle.mu_outcome.specs.declared.verdict.Wrong.TheVariants.{NotAllowed, WrongAnswer}

-- why an event breaks a list
abbrev pub wrong_words : Wrong → List ℕ
wrong_words NotAllowed = codes "not allowed"
wrong_words (WrongAnswer expected) = codes "expected " ++ answer_words expected

-- what is said of a list of this many events
abbrev pub verdict_line : ℕ → Verdict → List ℕ
verdict_line events Legal = codes "legal " ++ decimal events
verdict_line events (Illegal index cause) =
    codes "illegal " ++ decimal index ++ codes " " ++ wrong_words cause
