use Rattle.std.proofs.Common.{arith, refl, sym, ◌∙◌}
use Rattle.std.proofs.lemmas.Bool.{false≢true}
use Rattle.mu_model.specs.Legal.{IsLegalHistory, MayFollow}
use Rattle.mu_model.proofs.Budgets.{short_history}
use Rattle.mu_regions.proofs.Range.{in_range}
use Rattle.mu_judge.proofs.judge.Judge.takes_named.Goals as goal

pub returns-then-not-may_follow : goal.returns-then-not-may_follow
returns-then-not-may_follow c = λ past held. (refl, λ f. false≢true (sym c.if-not-may_follow.true ∙ (c.may_follow.ensures past held).1 f))

pub returns : goal.returns
returns c = λ past held.
    let config = c.args.config.now in
    let follows = (c.may_follow.ensures past held).0 c.if-not-may_follow.false in
    let short = short_history config past held.legal c.requires.replicas.1 c.requires.budget.1 in
    let legal : IsLegalHistory config past × MayFollow config past c.args.event.now = (held.legal, follows) in
    record {
      legal = legal;
      regions = c.take.ensures config past (omega (arith, short)) (in_range config _ _ _ follows.allowed).near held.regions;
      replicas = c.take-2.ensures past legal held.replicas;
    }
