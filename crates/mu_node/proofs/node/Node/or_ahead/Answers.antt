use Rattle.std.proofs.Common.{◌∙◌, ◌<◌, ap, length, subst, sym}
use Rattle.mu_agree.proofs.Within.{known_few}
use Rattle.mu_follow.specs.CatchingUp.{or_else}
use Rattle.mu_lead.specs.Ahead.{ahead_at}
use Rattle.mu_node.specs.Due.{held_write_due}
use Rattle.mu_node.proofs.node.Node.or_ahead.Goals as goal

pub returns-in-Eager : goal.returns-in-Eager
returns-in-Eager c k r mine good possible held =
    let node = c.args.self.now in
    let lead = node.lead in
    let values = c.known.ensures k r mine (length mine) held.beside.follow in
    let few = known_few k r mine good possible in
    c.word_ahead.ensures (subst (λ l. length l < 65536) (sym values) few)
    ∙ (ap (λ l. ahead_at lead.config lead.id l lead.written.items lead.place) values
    ∙ (ap (λ z. held_write_due z k r mine lead) (sym c.in-Eager.is) ∙ ap (λ d. or_else d (held_write_due node.zeal k r mine lead)) (sym c.in-None.is)))
