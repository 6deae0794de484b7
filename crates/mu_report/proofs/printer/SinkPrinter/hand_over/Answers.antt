use Rattle.std.proofs.Common.{arith, refl}
use Rattle.mu_report.specs.Printing.{over}
use Rattle.mu_report.proofs.Writing.{wrote_part}
use Rattle.mu_report.proofs.printer.SinkPrinter.hand_over.Goals as goal

pub returns-in-Err-clause-written : goal.returns-in-Err-clause-written
returns-in-Err-clause-written g c =
    wrote_part g.K.Sink.written g.K.Sink.faults (over c.args.self.now) _ _ c.in-Err.fault.taken c.if-self.false refl c.as_slice.ensures c.in-Err.ensures.part c.in-Err.ensures.short
    (λ fits. omega (arith, fits, c.saturating_add-self-in-Err.ensures)) c.in-Err.ensures.fault c.in-Err.ensures.never_falls
