use Rattle.std.proofs.Common.{List, Some, ℕ, ◌≡◌, take, sym, subst}
use Rattle.std.specs.List.{slice_get}
use Rattle.mu_model.specs.declared.config.Config.{Config}
use Rattle.mu_model.specs.declared.event.Event.{Event}
use Rattle.mu_model.specs.Histories.{history}
use Rattle.mu_model.specs.Legal.{IsLegal}
use Rattle.mu_outcome.proofs.Faults.{fault_is_wrong}
use Rattle.mu_outcome.specs.Breaks.{cause_of, Explains, IsBroken, IsFault}
use Rattle.mu_outcome.specs.Verdicts.{BreaksAt, IsWrong}
use Rattle.mu_outcome.specs.declared.fault.Fault.{Fault}
use Rattle.mu_outcome.specs.declared.verdict.Wrong.{Wrong}
use Rattle.mu_judge.proofs.judging.verdict_of.Goals as goal

-- what is wrong with an event, told without its reason
breaks_at : (c : Config) (events : List Event) (i : ℕ) (e : Event) (fault : Fault) (cause : Wrong) → slice_get events i ≡ Some e → IsLegal c (take i events) → IsFault c (history (take i events)) e fault → cause ≡ cause_of fault → BreaksAt c events i cause
breaks_at c events i e fault cause there before wrong is =
    record { event = e; there = there; before = before; wrong = subst (λ w. IsWrong c (history (take i events)) e w) (sym is) (fault_is_wrong c (history (take i events)) e fault wrong) }

pub returns-in-Some : goal.returns-in-Some
returns-in-Some c k events told =
    let broken = c.in-Some.broken in
    let is : IsBroken k events broken = subst (λ found. Explains k events found) c.in-Some.is told in
    breaks_at k events broken.index broken.event broken.fault c.cause.result is.there is.before is.fault c.cause.ensures

pub returns-in-None : goal.returns-in-None
returns-in-None c k events told = subst (λ found. Explains k events found) c.in-None.is told
