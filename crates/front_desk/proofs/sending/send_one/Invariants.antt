use Rattle.crossbeam_queue.specs.Passes.{view}
use Rattle.front_desk.specs.Sendings.{Sends, sent_by}
use Rattle.front_desk.proofs.sending.send_one.Given as goal

abbrev pub invariant-loop : goal.invariant-loop
invariant-loop g l = Sends l.line l.command.client (sent_by (view l.fn.pass)) l.pass
