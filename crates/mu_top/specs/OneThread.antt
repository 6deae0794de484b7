-- task alone: the tasks that a single thread can be asked for.
use Rattle.mu_top.specs.declared.alone.Alone.{Alone}
use Rattle.mu_top.specs.declared.asking.Task.{Task}

-- the task of the program that it is
abbrev pub task_alone : Alone → Task
task_alone Alone.Replay = Task.Replay
task_alone Alone.Trace = Task.Trace
task_alone Alone.Check = Task.Check
task_alone Alone.Why = Task.Why
task_alone Alone.Tell = Task.Tell
task_alone (Alone.Show count) = Task.Show count
task_alone Alone.Attest = Task.Attest
task_alone Alone.Book = Task.Book
