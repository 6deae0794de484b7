-- status: the numbers of the statuses with which a program ends.
use Rattle.std.specs.Prelude.{ℕ}
use Rattle.mu_outcome.specs.declared.status.Status.{Status}

abbrev pub code_of : Status → ℕ
code_of Status.Done = 0
code_of Status.Usage = 1
code_of Status.Refused = 2
code_of Status.Unfinished = 3
code_of Status.ReadFault = 4
code_of Status.WriteFault = 5
code_of Status.NoMemory = 6
code_of Status.Illegal = 7
code_of Status.TooLong = 8
