-- The first separator stands at none of the places before this one.
use Rattle.std.proofs.Common.{◌≡◌, take, drop}
use Rattle.judge_traces.specs.Traces.{cut}
use Rattle.judge_traces.proofs.Cuts.{behind}
use Rattle.judge_traces.proofs.cutting.cut.Given as goal

abbrev pub invariant-loop-place : goal.invariant-loop-place
invariant-loop-place l = behind (take l.place l.bytes) (cut (drop l.place l.bytes)) ≡ cut l.bytes
