use Rattle.std.proofs.Common.{refl}
use Rattle.mu_follow.specs.declared.kind.Kind.{Kind}
use Rattle.mu_follow.proofs.Stays.{heads_noted}
use Rattle.mu_follow.proofs.follow.Follow.note_head.Goals as goal

pub returns-clause-stands : goal.returns-clause-stands
returns-clause-stands c mine n kind held =
    let e = c.args.event.now in
    heads_noted c.args.self.now.config e.by n e mine c.args.self.now c.note.new.self Kind.Head kind refl refl refl refl refl refl held (c.note.ensures mine held.heads)
