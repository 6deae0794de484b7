use Rattle.std.proofs.Common.{◌≡◌, ◌∙◌, ◌+◌, ◌∷◌, Some, length, subst, sym}
use Rattle.mu_model.specs.Parts.{IsPossible}
use Rattle.mu_model.proofs.Basics.{none_some, same_some}
use Rattle.mu_follow.specs.Follow.{AwaitsEntry, HoldsFollow, StandsForFollow, commit_of}
use Rattle.mu_node.proofs.Leads.{parts_take}
use Rattle.mu_node.proofs.node.Node.learn.Goals as goal

pub returns-in-Some-clause-none : goal.returns-in-Some-clause-none
returns-in-Some-clause-none c none = absurd (none_some c.in-Some.value (sym none ∙ (sym c.committed_in.ensures ∙ c.in-Some.is)))

pub returns-in-Some-clause-stands : goal.returns-in-Some-clause-stands
returns-in-Some-clause-stands c k r mine e value is few possible some held =
    let follow = c.args.self.now.follow in
    let own = held.follow.config in
    let same : c.in-Some.value ≡ value = same_some c.in-Some.value value (sym c.in-Some.is ∙ (c.committed_in.ensures ∙ is)) in
    let at : c.as_head.result ≡ c.args.position = c.as_head.ensures few in
    let told : commit_of k r mine e ≡ Some (c.as_head.result, c.in-Some.value) = subst (λ p. commit_of k r mine e ≡ Some (p, c.in-Some.value)) (sym at) (subst (λ v. commit_of k r mine e ≡ Some (c.args.position, v)) (sym same) some) in
    let learnt = c.learn.ensures.stands r mine e (subst (λ x. IsPossible x r (e ∷ mine)) (sym own) possible) (subst (λ x. commit_of x r mine e ≡ Some (c.as_head.result, c.in-Some.value)) (sym own) told) (subst (λ x. HoldsFollow x r mine (length mine + 1) follow) (sym own) held.follow) in
    parts_take (AwaitsEntry k r mine) (StandsForFollow k r (e ∷ mine)) k r (e ∷ mine) (e ∷ mine) c.args.self.now c.args.self.now.grants c.args.self.now.watch c.learn.new.self held held.grants held.watch
    (subst (λ x. HoldsFollow x r (e ∷ mine) (length (e ∷ mine)) c.learn.new.self) own learnt)

pub returns-in-None-clause-stands : goal.returns-in-None-clause-stands
returns-in-None-clause-stands c k r mine e value is few possible some held = absurd (none_some value (sym c.in-None.is ∙ (c.committed_in.ensures ∙ is)))
