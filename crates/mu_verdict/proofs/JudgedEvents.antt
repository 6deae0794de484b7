-- What is known of a trace whose events are judged as they are read.
use Rattle.std.proofs.Common.{◌≡◌, ℕ, List, [], ◌∷◌, ◌++◌, length, take, sym, ap, subst, ◌∙◌, append_assoc}
use Rattle.std.proofs.Math.Seq.{take-append_seam}
use Rattle.mu_judge.specs.Judges.{StandsForJudge}
use Rattle.mu_judge.specs.declared.judge.Judge.{Judge}
use Rattle.mu_input.specs.Traces.{EventsLeft, GoesOn, HasRead, HasReadAll}
use Rattle.mu_input.specs.declared.job.Job.{Job}
use Rattle.mu_verdict.proofs.TakenEvents.{history_push}
use Rattle.mu_verdict.specs.Judged.{IsJudged}
use Rattle.mu_model.proofs.Lists.{get_front, get_push_here}
use Rattle.mu_model.specs.Histories.{history}
use Rattle.mu_model.specs.Legal.{IsLegal}
use Rattle.mu_model.specs.declared.event.Event.{Event}
use Rattle.mu_outcome.specs.Verdicts.{IsWrong}
use Rattle.mu_outcome.specs.declared.verdict.Verdict.{Verdict}
use Rattle.mu_outcome.specs.declared.verdict.Wrong.{Wrong}

-- some events were read and are legal, and the judge has the states that they lead to
pub record HasJudged (bytes : List ℕ) (job : Job) (lines : EventsLeft) (judge : Judge) : Type 0 where
  pub past : List Event
  pub read : HasRead bytes job past lines
  pub stands : StandsForJudge job.config (history past) judge

-- one more that may follow
pub judges_more : (bytes : List ℕ) (job : Job) (past : List Event) (e : Event) (lines : EventsLeft) (judge : Judge) → HasRead bytes job (past ++ e ∷ []) lines → StandsForJudge job.config (e ∷ history past) judge → HasJudged bytes job lines judge
judges_more bytes job past e lines judge read stands =
    record { past = past ++ e ∷ []; read = read; stands = subst (λ h. StandsForJudge job.config h judge) (sym (history_push past e)) stands }

-- all of them
pub judges_all : (bytes : List ℕ) (job : Job) (past : List Event) (count : ℕ) (lines : EventsLeft) → HasReadAll bytes job past lines → IsLegal job.config past → count ≡ lines.count → IsJudged bytes count Verdict.Legal
judges_all bytes job past count lines read legal is =
    record { spelled = record { job = job; events = past }; fits = read.fits; count = is ∙ read.count; judges = legal }

-- one that breaks the list, whatever comes behind it
pub judges_break : (bytes : List ℕ) (job : Job) (past : List Event) (e : Event) (index all : ℕ) (cause : Wrong) → index ≡ length past → GoesOn bytes job (past ++ e ∷ []) all → IsLegal job.config past → IsWrong job.config (history past) e cause
    → IsJudged bytes all (Verdict.Illegal index cause)
judges_break bytes job past e index all cause place goes legal wrong =
    let front : take index (past ++ e ∷ [] ++ goes.more) ≡ past =
    ap (λ n. take n (past ++ e ∷ [] ++ goes.more)) place ∙ ap (take (length past)) (append_assoc past (e ∷ []) goes.more) ∙ take-append_seam past (e ∷ goes.more) in
    record {
      spelled = record { job = job; events = past ++ e ∷ [] ++ goes.more };
      fits = goes.fits;
      count = goes.count;
      judges = record {
        event = e;
        there = get_front (past ++ e ∷ []) goes.more index e (get_push_here past index e place);
        before = subst (λ l. IsLegal job.config l) (sym front) legal;
        wrong = subst (λ l. IsWrong job.config (history l) e cause) (sym front) wrong;
      };
    }
