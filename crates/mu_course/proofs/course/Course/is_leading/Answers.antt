use Rattle.std.proofs.Common.{◌&&◌, ◌∙◌, not, ap}
use Rattle.mu_model.specs.Leaderships.{has_begun, is_over}
use Rattle.mu_course.proofs.course.Course.is_leading.Goals as goal

pub returns : goal.returns
returns c = λ k r mine stands.
    let given_up = c.args.self.now.resigned in
    c.is_under_way.ensures
    ∙ (ap (λ b. b && (not c.is_over-over.result && not given_up)) (c.has_begun-begun.ensures r mine stands.replica.leadership)
    ∙ (ap (λ o. has_begun r mine && (not o && not given_up)) (c.is_over-over.ensures r mine stands.replica.leadership)
    ∙ ap (λ g. has_begun r mine && (not (is_over r mine) && not g)) stands.resigned))
