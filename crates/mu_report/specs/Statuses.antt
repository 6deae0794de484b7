-- status for: the status of the program after what it says.
use Rattle.std.specs.Prelude.{None, Some}
use Rattle.std.specs.declared.option.Option.{Option}
use Rattle.mu_outcome.specs.declared.status.Status.{Status}
use Rattle.mu_outcome.specs.declared.verdict.Verdict.{Verdict}
use Rattle.mu_outcome.specs.Outcomes.{status_after}
use Rattle.mu_outcome.specs.declared.fault.Broken.{Broken}
use Rattle.mu_report.specs.declared.said.Said.{Said}

-- the status of a verdict
abbrev pub verdict_status : Verdict → Status
verdict_status Verdict.Legal = Status.Done
verdict_status (Verdict.Illegal index cause) = Status.Illegal

-- the status if this was found to break a list, if anything was
abbrev pub broken_status : Option Broken → Status
broken_status None = Status.Done
broken_status (Some broken) = Status.Illegal

-- the status of an answer, once it is written
abbrev pub status_for : Said → Status
status_for Said.Usage = Status.Usage
status_for (Said.Refused line cause) = Status.Refused
status_for (Said.Ran outcome) = status_after outcome
status_for (Said.Traced outcome) = status_after outcome
status_for (Said.Summed outcome) = status_after outcome
status_for (Said.Booked outcome book) = status_after outcome
status_for (Said.Lived outcome lived) = status_after outcome
status_for (Said.Judged events verdict) = verdict_status verdict
status_for (Said.Explained events line broken) = broken_status broken
status_for (Said.Noted events strays) = Status.Done
status_for (Said.Shown moment) = Status.Done
status_for (Said.Told account) = status_after account.outcome
status_for (Said.Attested counts) = Status.Done
status_for (Said.Flawed flawed) = Status.Illegal
status_for (Said.Misread misread) = Status.Refused
status_for (Said.Promised promises) = Status.Done
status_for Said.ReadFault = Status.ReadFault
status_for Said.NoMemory = Status.NoMemory
status_for Said.TooLong = Status.TooLong
