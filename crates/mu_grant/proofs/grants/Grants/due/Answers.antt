use Rattle.std.proofs.Common.{true, ◌≡◌, refl, subst, sym, ◌∙◌, true≢false}
use Rattle.mu_model.specs.declared.event.Verb.{Verb}
use Rattle.mu_model.specs.Allowed.{Needs}
use Rattle.mu_grant.specs.Stands.{is_of_place}
use Rattle.mu_grant.proofs.Places.{gives, grant_given, not_none, of_drain, of_grant, of_look}
use Rattle.mu_grant.proofs.grants.Grants.due.Goals as goal

pub returns-in-1 : goal.returns-in-1
returns-in-1 c config r mine held left = rw c.in-1.is (gives config r mine 1 c.given-in-1.result left held.inside
    (λ verb is.
    let only = c.given-in-1.ensures.only verb is in
    subst (λ v. (is_of_place 1 v ≡ true) × Needs config r mine v) (sym only.1) (refl, (c.may_look_target.ensures config r mine held).0 only.0))
    (λ is verb placed needs.
    true≢false (sym ((c.may_look_target.ensures config r mine held).1 (subst (λ v. Needs config r mine v) (sym (of_look verb placed)) needs)) ∙ c.given-in-1.ensures.none is)))

pub returns-in-2 : goal.returns-in-2
returns-in-2 c config r mine held left = rw c.in-2.is (gives config r mine 2 c.given-in-2.result left held.inside
    (λ verb is.
    let only = c.given-in-2.ensures.only verb is in
    subst (λ v. (is_of_place 2 v ≡ true) × Needs config r mine v) (sym only.1) (refl, (c.may_drain.ensures config r mine held).0 only.0))
    (λ is verb placed needs.
    true≢false (sym ((c.may_drain.ensures config r mine held).1 (subst (λ v. Needs config r mine v) (sym (of_drain verb placed)) needs)) ∙ c.given-in-2.ensures.none is)))

pub returns-in-3 : goal.returns-in-3
returns-in-3 c config r mine held left = rw c.in-3.is (gives config r mine 3 c.granting.result left held.inside
    (λ verb is.
    let grant = grant_given c.next_owner.result c.granting.result verb c.granting.ensures.some c.granting.ensures.none is in
    subst (λ v. (is_of_place 3 v ≡ true) × Needs config r mine v) grant.2 (refl, c.next_owner.ensures.found config r grant.0 mine held grant.1))
    (λ is verb placed needs.
    let grant = of_grant verb placed in
    not_none (Verb.Grant grant.0) c.granting.result is (c.granting.ensures.some grant.0 (c.next_owner.ensures.only config r grant.0 mine held (subst (λ v. Needs config r mine v) grant.1 needs)))))
