use Rattle.std.proofs.Common.{[], ap, subst, sym, ◌++◌, ◌∷◌, ◌∙◌}
use Rattle.std.specs.Prelude.{is_some}
use Rattle.std.proofs.lemmas.Bool.{false≢true}
use Rattle.mu_model.specs.declared.event.Verb.{Verb}
use Rattle.mu_model.specs.declared.reason.Reason.{Reason}
use Rattle.mu_model.specs.Points.{bounds, points}
use Rattle.mu_model.specs.Reasons.{Finds}
use Rattle.mu_replicas.proofs.Points.{denies, less, low, tells}
use Rattle.mu_replicas.proofs.replica.Replica.why_no_enter.Goals as goal

pub returns-in-None : goal.returns-in-None
returns-in-None c r mine held start =
    let k = c.args.config.now in
    let p = c.args.p in
    let one = c.why_no_region-found.ensures r mine held start in
    subst (λ t. Finds k r mine (points k r mine (Verb.Enter p t)) c.needs.result.reason) (sym c.in-None.is)
    (c.needs.ensures k r mine (bounds r mine ++ Reason.NoRegion p ∷ []) one (λ m. (λ t. false≢true t, λ h. absurd h)))

pub returns-in-Min : goal.returns-in-Min
returns-in-Min c r mine held start =
    let k = c.args.config.now in
    let p = c.args.p in
    let few = c.requires.replicas.1 in
    let one = c.why_no_region-found.ensures r mine held start in
    let two = c.needs-in-Min.ensures k r mine (bounds r mine ++ Reason.NoRegion p ∷ []) one (λ m. tells _ _ (c.is_some.ensures ∙ ap is_some (c.noted_grant.ensures r mine (low _ _ m.1.1.0 few) held.leadership))) in
    let three = c.needs-in-Min-2.ensures k r mine (bounds r mine ++ Reason.NoRegion p ∷ Reason.NotGranted p ∷ []) two (λ m. denies _ _ (c.is_over.ensures r mine held.leadership)) in
    let four = c.needs-in-Min-3.ensures k r mine (bounds r mine ++ Reason.NoRegion p ∷ Reason.NotGranted p ∷ Reason.Over ∷ []) three (λ m. tells _ _ (c.has_read.ensures r mine (low _ _ m.1.1.0 few) held.leadership)) in
    subst (λ t. Finds k r mine (points k r mine (Verb.Enter p t)) c.needs-in-Min-4.result.reason) (sym c.in-Min.is)
    (c.needs-in-Min-4.ensures k r mine (bounds r mine ++ Reason.NoRegion p ∷ Reason.NotGranted p ∷ Reason.Over ∷ Reason.MinimumUnread p ∷ []) four (λ m. c.is_confirmed.ensures r mine held))

pub returns-in-Place : goal.returns-in-Place
returns-in-Place c r mine held start =
    let k = c.args.config.now in
    let p = c.args.p in
    let few = c.requires.replicas.1 in
    let one = c.why_no_region-found.ensures r mine held start in
    let two = c.needs-in-Place.ensures k r mine (bounds r mine ++ Reason.NoRegion p ∷ []) one (λ m. tells _ _ (c.is_member.ensures r mine (low _ _ m.1.1.0 few) held.leadership)) in
    let three = c.needs-in-Place-2.ensures k r mine (bounds r mine ++ Reason.NoRegion p ∷ Reason.NotMember p ∷ []) two (λ m. denies _ _ (c.is_over-in-Place.ensures r mine held.leadership)) in
    subst (λ t. Finds k r mine (points k r mine (Verb.Enter p t)) c.needs-in-Place-3.result.reason) (sym c.in-Place.is)
    (c.needs-in-Place-3.ensures k r mine (bounds r mine ++ Reason.NoRegion p ∷ Reason.NotMember p ∷ Reason.Over ∷ []) three (λ m. less _ _))
