use Rattle.std.proofs.Common.{◌≡◌, ◌∙◌, ap, arith, false, sym}
use Rattle.std.specs.Prelude.{not}
use Rattle.std.proofs.lemmas.Bool.{ne_eqb}
use Rattle.mu_model.specs.Ends.{is_at_least}
use Rattle.mu_follow.specs.Published.{head_heard}
use Rattle.mu_node.proofs.ending.is_done.Goals as goal

pub returns-else-there : goal.returns-else-there
returns-else-there c k mine low scores follow =
    let r = c.args.r in
    let q = c.args.q in
    let head = c.head_of.ensures k r mine (omega (arith, low, scores.scores.few)) follow in
    let there : is_at_least c.args.full (head_heard r q mine) ≡ false = ap (is_at_least c.args.full) (sym head) ∙ (sym c.reaches-there.ensures ∙ c.if-there.false) in
    rw (ne_eqb q r c.if-own.false, there) (ap not (c.alive-failed.ensures k r mine low scores))
