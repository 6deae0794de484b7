-- What is told of a picture and its drawing.
use Rattle.std.proofs.Common.{◌≡◌, Bool, true, false, List, None, Some, Ok, ℕ, ap, take}
use Rattle.std.specs.Prelude.{is_none, not, option_map}
use Rattle.std.specs.declared.option.Option.{Option}
use Rattle.mu_input.specs.declared.job.Job.{Job}
use Rattle.mu_model.specs.declared.event.Event.{Event}
use Rattle.mu_outcome.specs.Breaks.{Explains}
use Rattle.mu_outcome.specs.declared.fault.Broken.{Broken}
use Rattle.mu_picture.specs.Drawing.{svg_of}
use Rattle.mu_picture.specs.Marks.{IsPictureOf, legal_front}
use Rattle.mu_picture.specs.Xml.{IsDocument}
use Rattle.mu_picture.specs.declared.pictures.Extent.{Extent}
use Rattle.mu_picture.specs.declared.pictures.Picture.{Picture}
use Rattle.mu_drawing.specs.Answers.{TellsOfEvents, breach_with, told_with}
use Rattle.mu_drawing.proofs.MarkSteps.{marks_are_of_their_steps, of_first}

pub tells_of_events : (job : Job) (line : ℕ) (events : List Event) (asked : Extent) (picture : Picture) (broken : Option Broken) (sheet : List ℕ) → Explains job.config events broken
    → IsPictureOf job.config job.script (legal_front events broken) asked.brief asked.first asked.last picture → sheet ≡ svg_of job line picture (option_map breach_with broken) → IsDocument sheet
    → TellsOfEvents job line events asked (told_with (Ok (sheet, is_none broken)))
tells_of_events job line events asked picture None sheet explains is drawn document =
    record {
      legal = explains;
      picture = picture;
      is = is;
      theirs = marks_are_of_their_steps job.config job.script events asked.brief asked.first asked.last picture is;
      drawn = drawn;
      document = document;
    }
tells_of_events job line events asked picture (Some broken) sheet explains is drawn document =
    record {
      broken = broken;
      draws = record {
        breaks = explains;
        picture = picture;
        is = is;
        theirs = of_first broken.index events picture.marks.items (marks_are_of_their_steps job.config job.script (take broken.index events) asked.brief asked.first asked.last picture is);
        drawn = drawn;
        document = document;
      };
    }

-- a truth value, from its contrary
pub turned : (t s : Bool) → not t ≡ s → t ≡ not s
turned true s e = ap not e
turned false s e = ap not e
