use Rattle.std.proofs.Common.{◌++◌, ap, append-nil, sym, arith}
use Rattle.std.proofs.lemmas.List.{take_all}
use Rattle.match_book.proofs.Fronts.{stands_next, stands_same}
use Rattle.match_book.proofs.book.Book.apply_all.Goals as goal

pub loop-command-init : goal.loop-command-init
loop-command-init c = record {
  room = omega arith;
  stands = λ before once stands. stands_same _ _ _ (sym (append-nil before)) stands;
}

pub loop-command-preserved : goal.loop-command-preserved
loop-command-preserved c = record {
  room = omega (arith, c.loop-command.invariant.room, c.apply.ensures.room);
  stands = λ before once stands.
      stands_next before c.args.commands.now c.loop-command.command-index c.command-item.result _ _ c.loop-command-test.true c.command-item.is c.apply.ensures.stands once (c.loop-command.invariant.stands before once stands);
}

pub returns-clause-stands : goal.returns-clause-stands
returns-clause-stands c = λ before once stands.
    stands_same _ _ _ (ap (λ l. before ++ l) (take_all c.loop-command.command-index c.args.commands.now (omega arith))) (c.loop-command.invariant.stands before once stands)
