use Rattle.std.proofs.Common.{◌∙◌, subst, sym, ℕ}
use Rattle.mu_model.specs.declared.config.Config.{Config}
use Rattle.mu_model.specs.declared.event.Verb.{Verb}
use Rattle.mu_model.specs.Allowed.{Allowed}
use Rattle.mu_model.specs.Parts.{IsPossible}
use Rattle.lone_words.specs.Accesses.{StandsForAccesses}
use Rattle.lone_replica.proofs.Standing.{lives_alone}
use Rattle.lone_replica.proofs.replica.Replica.decide.Goals as goal

pub access_of-access-requires : goal.access_of-access-requires
access_of-access-requires g c =
    let old = c.args.self.now in
    let k = g.at.0 in
    let mine = g.at.1.0 in
    let parts = c.requires.0.parts in
    let beside = (lives_alone k old.id g.at.1 old c.requires.0 c.requires.1.0).beside in
    let decided = c.decide-decision.ensures.decided in
    let keeps = c.decide-decision.ensures.keeps in
    let new = c.decide-decision.new.self in
    let verb = c.decide-decision.result.plan.verb in
    let back = sym parts.accesses.id in
    let here = subst (λ (z : Config). Allowed z new.id mine verb) (keeps.config ∙ beside.follow.config) decided.allowed in
    let there = subst (λ (i : ℕ). Allowed k i mine verb) (keeps.id ∙ (beside.id ∙ back)) here in
    record {
      config = parts.good;
      possible = subst (λ (i : ℕ). IsPossible k i mine) back parts.possible;
      stands = subst (λ (i : ℕ). StandsForAccesses k i g.at.1 old.accesses) back parts.accesses;
      allowed = subst (λ (v : Verb). Allowed k old.accesses.id mine v) (sym c.verb-verb.ensures) there;
    }
