-- What is wrong with an event, with its reason or without.
use Rattle.std.specs.Prelude.{List}
use Rattle.mu_model.specs.declared.config.Config.{Config}
use Rattle.mu_model.specs.declared.event.Event.{Event}
use Rattle.mu_model.specs.Histories.{part}
use Rattle.mu_model.proofs.Reasons.{reason_denies}
use Rattle.mu_outcome.specs.declared.fault.Fault.{Fault}
use Rattle.mu_outcome.specs.Breaks.{cause_of, IsFault}
use Rattle.mu_outcome.specs.Verdicts.{IsWrong}

-- a fault is the cause that it has without its reason
pub fault_is_wrong : (c : Config) (past : List Event) (e : Event) (fault : Fault) → IsFault c past e fault → IsWrong c past e (cause_of fault)
fault_is_wrong c past e (Fault.NotAllowed reason) is = reason_denies c e.by (part e.by past) e.verb reason is
fault_is_wrong c past e (Fault.WrongAnswer expected) is = is
