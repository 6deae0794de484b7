-- The session is under way; the bytes that are held and those that may still come grow fewer.
use Rattle.std.proofs.Common.{◌+◌, length}
use Rattle.mu_serve.specs.UnderWay.{UnderWay}
use Rattle.mu_serve.proofs.serving.last_halt.Given as goal

abbrev pub invariant-lines : goal.invariant-lines
invariant-lines g l =
    UnderWay
    (record {
      left = g.S.Source.left l.initial.source;
      read = g.S.Source.faults l.initial.source;
      written = g.K.Sink.written l.initial.sink;
      wrote = g.K.Sink.faults l.initial.sink;
      incoming = l.initial.incoming;
      talk = l.initial.session;
    })
    (record {
      left = g.S.Source.left l.source;
      read = g.S.Source.faults l.source;
      written = g.K.Sink.written l.sink;
      wrote = g.K.Sink.faults l.sink;
      incoming = l.incoming;
      talk = l.session;
    })

abbrev pub decreases-lines : goal.decreases-lines
decreases-lines g l = l.incoming.room + length l.incoming.held
