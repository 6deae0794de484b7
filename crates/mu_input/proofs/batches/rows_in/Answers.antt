use Rattle.std.proofs.Common.{arith, refl, subst, ap, length, length-append, ◌∷◌, []}
use Rattle.mu_input.proofs.Cuts.{AreInTurn, AreInTurn-rest, AreInTurn-session, followers_below, rows_of-more, HaveHeads-more}
use Rattle.mu_input.proofs.batches.rows_in.Goals as goal

pub loop-command-init : goal.loop-command-init
loop-command-init c =
    let none = c.requires.empty in
    record {
      rows = rw none refl;
      heads = λ more have. rw none have;
      turn = AreInTurn-session c.args.commands.now c.requires.session;
      room = omega (arith, c.requires.room, ap length none);
    }

pub row_of-requires-clause-below : goal.row_of-requires-clause-below
row_of-requires-clause-below c =
    followers_below c.args.width c.in-Some.command.now c.in-Some.after.now c.requires.least c.requires.most (subst AreInTurn c.in-Some.ensures c.loop-command.invariant.turn)

pub loop-command-preserved : goal.loop-command-preserved
loop-command-preserved c =
    let l = c.loop-command in
    let old = l.invariant in
    let command = c.in-Some.command.now in
    let after = c.in-Some.after.now in
    record {
      rows = rows_of-more c.args.width c.args.commands.now l.left.now command after l.rows.items c.push_reserved.new.self.items c.row_of.result c.in-Some.ensures c.row_of.ensures.words c.push_reserved.ensures.items old.rows;
      heads = HaveHeads-more c.args.width c.args.commands.now l.left.now command after l.rows.items c.push_reserved.new.self.items c.row_of.result c.in-Some.ensures c.row_of.ensures.head c.push_reserved.ensures.items old.heads;
      turn = AreInTurn-rest command after (subst AreInTurn c.in-Some.ensures old.turn);
      room = omega (arith, old.room, ap length c.push_reserved.ensures.items, length-append l.rows.items (c.row_of.result ∷ []), ap length c.in-Some.ensures, c.push_reserved.ensures.capacity);
    }
