use Rattle.std.proofs.Common.{[], ◌∷◌, ◌∙◌, arith, length, refl}
use Rattle.mu_model.proofs.Parts.{part_is_possible}
use Rattle.mu_model.proofs.Reasons.{met_where_allowed}
use Rattle.mu_model.specs.Histories.{part}
use Rattle.mu_model.specs.Points.{needs}
use Rattle.mu_model.specs.declared.reason.Reason.{Reason}
use Rattle.mu_regions.proofs.Range.{in_range}
use Rattle.mu_course.proofs.walk.Walk.fault.Goals as goal

pub returns-in_default : goal.returns-in_default
returns-in_default c = λ past held.
    let k = c.args.config.now in
    let e = c.args.event.now in
    let mine = part e.by past in
    let over = c.in_default.ensures past k held in
    record { before = []; after = Reason.Budget (length mine) ∷ needs k e.by mine e.verb; order = refl; met = tt; fails = λ low. omega (arith, over, low) }

pub returns-then-is_same : goal.returns-then-is_same
returns-then-is_same c = λ past held.
    let k = c.args.config.now in
    let e = c.args.event.now in
    let mine = part e.by past in
    let course = c.in-Some.ensures past k held in
    let allowed = (met_where_allowed k e.by mine e.verb).0 (c.in_default-why_not.ensures e.by mine (part_is_possible k e.by past held.legal) course.replica) in
    let told = c.answer-expected.ensures past k (in_range k e.by _ e.verb allowed) held in
    record { allowed = allowed; answer = c.is_same.ensures.0 c.if-is_same.true ∙ told }
