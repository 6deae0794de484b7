use Rattle.std.proofs.Common.{◌&&◌, ◌==◌, ◌∙◌, length, not, ap}
use Rattle.mu_model.specs.Scores.{leader}
use Rattle.mu_model.specs.Steps.{is_beat}
use Rattle.mu_model.specs.Stretches.{is_odd}
use Rattle.mu_course.proofs.course.Course.yields.Goals as goal

pub returns : goal.returns
returns c = λ k r mine stands.
    let e = c.args.event.now in
    let state = c.args.self.now.replica in
    c.is_yield.ensures
    ∙ (ap (λ b. b && (c.is_odd_step.result && not (c.leader.result == state.replica))) c.is_beat.ensures
    ∙ (ap (λ o. is_beat e && (o && not (c.leader.result == state.replica))) c.is_odd_step.ensures
    ∙ (ap (λ n. is_beat e && (is_odd n && not (c.leader.result == state.replica))) stands.replica.steps
    ∙ (ap (λ w. is_beat e && (is_odd (length mine) && not (w == state.replica))) (c.leader.ensures k r mine stands.scores)
    ∙ ap (λ q. is_beat e && (is_odd (length mine) && not (leader k r mine == q))) stands.replica.replica))))
