use Rattle.std.proofs.Common.{◌≡◌, ◌∙◌, ap, false, sym}
use Rattle.std.specs.Prelude.{not}
use Rattle.std.proofs.lemmas.Bool.{ne_eqb}
use Rattle.mu_model.specs.Ends.{is_at_least}
use Rattle.mu_follow.specs.Published.{head_heard}
use Rattle.mu_course.proofs.finishing.is_done.Goals as goal

pub returns-else-there : goal.returns-else-there
returns-else-there c k mine low scores heads =
    let r = c.args.r in
    let q = c.args.q in
    let head = c.of.ensures r mine c.requires heads in
    let there : is_at_least c.args.full (head_heard r q mine) ≡ false = ap (is_at_least c.args.full) (sym head) ∙ (sym c.reaches-there.ensures ∙ c.if-there.false) in
    rw (ne_eqb q r c.if-own.false, there) (ap not (c.alive-failed.ensures k.replicas r mine low scores))
