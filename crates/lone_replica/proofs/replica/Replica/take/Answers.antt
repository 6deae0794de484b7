use Rattle.std.proofs.Common.{sym, ◌∙◌}
use Rattle.lone_replica.proofs.Judging.{err_ok, right_taken}
use Rattle.lone_replica.proofs.replica.Replica.take.Goals as goal

pub returns-in-Err-clause-right : goal.returns-in-Err-clause-right
returns-in-Err-clause-right g c may =
    let old = c.args.self.now in
    sym c.in-Err.is ∙ (c.judged.ensures ∙ right_taken g.at.0 old.id g.at.1 old.accesses.shape old.node old.due c.args.word c.requires.parts.good c.requires.node may)

pub returns-in-Err-clause-takes : goal.returns-in-Err-clause-takes
returns-in-Err-clause-takes g c may =
    let old = c.args.self.now in
    absurd (err_ok c.in-Err.why c.judged.result c.in-Err.is (c.judged.ensures ∙ right_taken g.at.0 old.id g.at.1 old.accesses.shape old.node old.due c.args.word c.requires.parts.good c.requires.node may))
