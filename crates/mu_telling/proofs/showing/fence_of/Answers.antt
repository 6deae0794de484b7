use Rattle.std.proofs.Common.{◌≡◌, ◌∙◌, None, Some, ap, sym}
use Rattle.mu_model.specs.Regions.{fence}
use Rattle.mu_outcome.specs.declared.moment.Fact.{Fact}
use Rattle.mu_telling.proofs.showing.fence_of.Goals as goal

pub returns-in-None : goal.returns-in-None
returns-in-None c = λ past s low held.
    absurd (let clash : None ≡ Some (fence c.args.region past) = sym c.in-None.is ∙ c.fence.ensures past s low held in cc)

pub returns-in-Some : goal.returns-in-Some
returns-in-Some c = λ past s low held.
    let same : Some c.in-Some.fence ≡ Some (fence c.args.region past) = sym c.in-Some.is ∙ c.fence.ensures past s low held in
    let found : c.in-Some.fence ≡ fence c.args.region past = cc in
    ap (λ f. Some (Fact.Fence c.args.region f)) found
