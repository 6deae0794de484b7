use Rattle.std.proofs.Common.{ap, arith}
use Rattle.std.proofs.lemmas.List.{take_all}
use Rattle.match_book.proofs.Fronts.{stands_same}
use Rattle.mu_outcome.specs.Entries.{commands_in}
use Rattle.mu_top.proofs.BookedLogs.{entry_count, entry_stands}
use Rattle.mu_top.proofs.booking.apply_log.Goals as goal

pub apply_all-requires : goal.apply_all-requires
apply_all-requires c =
    omega (arith, entry_count c.args.job.now c.args.log.now c.loop-value.value-index c.commands_of.result.now c.loop-value-test.true c.commands_of.ensures, c.loop-value.invariant.room)

pub loop-value-preserved : goal.loop-value-preserved
loop-value-preserved c = record {
  stands = entry_stands c.args.job.now c.args.log.now c.loop-value.value-index c.commands_of.result.now _ _ c.loop-value-test.true c.commands_of.ensures c.requires.different c.apply_all.ensures.stands c.loop-value.invariant.stands;
  room = omega (arith, entry_count c.args.job.now c.args.log.now c.loop-value.value-index c.commands_of.result.now c.loop-value-test.true c.commands_of.ensures, c.loop-value.invariant.room, c.apply_all.ensures.room);
}

pub returns : goal.returns
returns c = stands_same _ _ _ (ap (commands_in c.args.job.now) (take_all c.loop-value.value-index c.args.log.now (omega arith))) c.loop-value.invariant.stands
