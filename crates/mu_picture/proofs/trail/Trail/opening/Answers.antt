use Rattle.std.proofs.Common.{◌∙◌, ap, Some}
use Rattle.mu_course.specs.Resigning.{is_leading}
use Rattle.mu_model.specs.Histories.{part}
use Rattle.mu_model.specs.Regions.{fence}
use Rattle.mu_picture.specs.Openings.{opening_with}
use Rattle.mu_picture.specs.Standings.{standing_of}
use Rattle.mu_picture.proofs.trail.Trail.opening.Goals as goal

pub returns : goal.returns
returns c = λ past k script low held.
    let r = c.args.r in
    let standing = c.of-standing.result in
    let leads = c.leads-leads.result in
    let named = c.named_leader-named.result in
    let saw = Some (fence r past) in
    c.opening_with.ensures
    ∙ (ap (λ f. opening_with f standing leads named) (c.fence-fence.ensures past k low held.walk)
    ∙ (ap (λ s. opening_with saw s leads named) (c.of-standing.ensures k script past low held.standings)
    ∙ (ap (λ l. opening_with saw (standing_of k script r past) l named) (c.leads-leads.ensures past k low held.walk)
    ∙ ap (λ n. opening_with saw (standing_of k script r past) (is_leading k r (part r past)) n) (c.named_leader-named.ensures past k low held.walk))))
