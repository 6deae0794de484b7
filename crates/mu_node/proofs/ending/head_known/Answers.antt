use Rattle.std.proofs.Common.{◌≡◌, ◌∙◌, ◌<◌, ap, arith, sym, refl, Some}
use Rattle.std.proofs.lemmas.Bool.{ne_eqb}
use Rattle.mu_model.specs.Histories.{or_zero}
use Rattle.mu_model.specs.Room.{last_head}
use Rattle.mu_follow.specs.Published.{head_heard}
use Rattle.mu_node.proofs.Heads.{heads_fit}
use Rattle.mu_node.proofs.ending.head_known.Goals as goal

pub returns-in-Some : goal.returns-in-Some
returns-in-Some c k mine small good possible follow =
    let r = c.args.r in
    let q = c.args.q in
    let is : head_heard r q mine ≡ Some c.in-Some.head = sym (c.head_of.ensures k r mine small follow) ∙ c.in-Some.is in
    let last : last_head r q mine ≡ c.in-Some.head = ap or_zero is in
    let low = heads_fit k r q mine good possible in
    let fits : c.in-Some.head < 65536 = omega (arith, low, last) in
    c.as_head.ensures fits ∙ (sym last ∙ sym (rw (ne_eqb q r c.if-q-r.false) refl))
