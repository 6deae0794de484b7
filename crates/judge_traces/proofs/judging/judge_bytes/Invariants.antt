-- The traces before the rest were judged, and the sink took all lines.
use Rattle.std.proofs.Common.{◌≡◌, ◌≤◌, length}
use Rattle.judge_traces.proofs.Judgings.{JudgedUpTo}
use Rattle.judge_traces.proofs.judging.judge_bytes.Given as goal

abbrev pub invariant-loop-trace : goal.invariant-loop-trace
invariant-loop-trace g l = record {
  before : JudgedUpTo l.bytes l.rest (g.K.Sink.written l.initial.sink) (g.K.Sink.written l.sink) l.legal;
  faults : g.K.Sink.faults l.sink ≡ g.K.Sink.faults l.initial.sink;
  within : length l.rest ≤ length l.bytes;
}

abbrev pub decreases-loop-trace : goal.decreases-loop-trace
decreases-loop-trace g l = length l.rest
