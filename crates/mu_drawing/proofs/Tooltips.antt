-- The line that the tooltip of an event names spells it.
use Rattle.std.proofs.Common.{◌≡◌, ◌+◌, ◌-◌, ℕ, Bool, true, false, List, length, Ok, Err, subst, arith}
use Rattle.std.specs.declared.result.Result.{Result}
use Rattle.mu_input.specs.declared.job.InputEnd.{InputEnd}
use Rattle.mu_picture.specs.declared.pictures.Extent.{Extent}
use Rattle.mu_input.specs.Readings.{Fits}
use Rattle.mu_input.specs.Traces.{Trace, trace}
use Rattle.mu_verdict.proofs.EventLines.{event_line_is, few_events}
use Rattle.mu_text.specs.Lines.{lines}
use Rattle.mu_drawing.specs.Answers.{Draws, TellsOfEvents, TooltipsNameLines, told_with}

pub tooltips_name_lines : (bytes : List ℕ) (spelled : Trace) → trace bytes ≡ Fits spelled → TooltipsNameLines bytes spelled
tooltips_name_lines bytes spelled fits index event there =
    let few = few_events bytes spelled fits in
    event_line_is bytes spelled (length (lines bytes) - length spelled.events + index) index event fits there (omega (arith, few))

-- what is told of the events of a trace is told of its bytes
pub draws : (bytes : List ℕ) (asked : Extent) (spelled : Trace) (line : ℕ) (result : Result (List ℕ × Bool) InputEnd) → trace bytes ≡ Fits spelled → line ≡ length (lines bytes) - length spelled.events
    → TellsOfEvents spelled.job line spelled.events asked (told_with result) → Draws bytes asked (told_with result)
draws bytes asked spelled line result fits place tells = by_result result (subst (λ n. TellsOfEvents spelled.job n spelled.events asked (told_with result)) place tells)
  where
    by_result : (r : Result (List ℕ × Bool) InputEnd) → TellsOfEvents spelled.job (length (lines bytes) - length spelled.events) spelled.events asked (told_with r) → Draws bytes asked (told_with r)
    by_result (Ok (sheet, true)) told = record { spelled = spelled; fits = fits; tells = told; tooltips = tooltips_name_lines bytes spelled fits }
    by_result (Ok (sheet, false)) told = record { spelled = spelled; fits = fits; tells = told; tooltips = tooltips_name_lines bytes spelled fits }
    by_result (Err InputEnd.NoMemory) told = tt
    by_result (Err (InputEnd.Refused at cause)) told = absurd told
