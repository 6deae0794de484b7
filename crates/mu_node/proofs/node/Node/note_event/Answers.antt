use Rattle.std.proofs.Common.{subst, ◌∷◌}
use Rattle.mu_model.specs.Allowed.{Needs}
use Rattle.mu_agree.proofs.Possible.{parts_shorten_law}
use Rattle.mu_follow.specs.Follow.{AwaitsEntry, StandsForFollow}
use Rattle.mu_node.proofs.Leads.{parts_take}
use Rattle.mu_node.proofs.node.Node.note_event.Goals as goal

pub returns-clause-stands : goal.returns-clause-stands
returns-clause-stands c mine possible held none =
    let k = c.args.self.now.follow.config in
    let r = c.args.event.now.by in
    let now = c.args.event.now ∷ mine in
    parts_take (StandsForFollow k r mine) (StandsForFollow k r now) k r mine now c.args.self.now c.note.new.self c.note-2.new.self c.note-3.new.self held
    (c.note.ensures k.replicas r mine (λ drains. (subst (λ v. Needs k r mine v) drains (parts_shorten_law k r mine _ possible).allowed.may).1.0) held.grants)
    (c.note-2.ensures k r mine held.replicas held.watch) (c.note-3.ensures.stands mine possible held.follow none)

pub returns-clause-awaits : goal.returns-clause-awaits
returns-clause-awaits c mine entry possible held some =
    let k = c.args.self.now.follow.config in
    let r = c.args.event.now.by in
    let now = c.args.event.now ∷ mine in
    parts_take (StandsForFollow k r mine) (AwaitsEntry k r mine) k r mine now c.args.self.now c.note.new.self c.note-2.new.self c.note-3.new.self held
    (c.note.ensures k.replicas r mine (λ drains. (subst (λ v. Needs k r mine v) drains (parts_shorten_law k r mine _ possible).allowed.may).1.0) held.grants)
    (c.note-2.ensures k r mine held.replicas held.watch) (c.note-3.ensures.awaits mine entry possible held.follow some)
