-- While an `Enter` is open, the fence and the last `Close` name its target, and nothing changed the named word since the host looked at it.
use Rattle.std.proofs.Common.{◌≡◌, ℕ, Bool, true, false, ◌&&◌, ◌==◌, List, ◌∷◌, refl, sym, ◌∙◌, ap, Some, subst, eqb-true, true≢false}
use Rattle.mu_model.specs.declared.config.Config.{Config}
use Rattle.mu_model.specs.declared.event.Answer.{Answer}
use Rattle.mu_model.specs.declared.event.Event.{Event}
use Rattle.mu_model.specs.declared.event.Target.{Target}
use Rattle.mu_model.specs.declared.event.Verb.{Verb}
use Rattle.mu_model.specs.Allowed.{Needs}
use Rattle.mu_model.specs.Answers.{drained, entered_or_lost, put_answer}
use Rattle.mu_model.specs.Entering.{open_target}
use Rattle.mu_model.specs.Histories.{part}
use Rattle.mu_model.specs.Leaderships.{is_first_ask, noted_grant}
use Rattle.mu_model.specs.Legal.{IsLegalHistory}
use Rattle.mu_model.specs.Regions.{fence, fence_closing, fence_owner, fence_target}
use Rattle.mu_model.specs.Serving.{has_target, looked_since_close}
use Rattle.mu_model.proofs.Basics.{same_some}
use Rattle.mu_agree.proofs.Access.{entered_holds, grant_needs, no_target, not_granted, noted_grant_is_owned, opened_is_held, slot_holds}
use Rattle.mu_agree.proofs.Legal.{legal_induction, event_after}
use Rattle.mu_agree.proofs.Minimum.{not_other, one_owner}
use Rattle.mu_words.specs.Standing.{close_target, changed_since_look}

-- an open `Enter` that wasn't drained is the one that the fence names
abbrev pub TargetIs : ℕ → ℕ → List Event → Type 0
TargetIs r p past = (t : Target) → open_target r p past ≡ Some t → has_target t ≡ true → drained r p past ≡ false → (fence_target p past ≡ t) × (fence_closing p past ≡ true → close_target p past ≡ t)

is_ask : (c : Config) (r p by q : ℕ) (past : List Event) → TargetIs r p past → (t : Bool) → is_first_ask r by (Verb.Ask q) ≡ t → TargetIs r p (event_after c past by (Verb.Ask q) ∷ past)
is_ask c r p by q past s true h = rw h (λ t e. cc)
is_ask c r p by q past s false h = rw h s

is_put_min : (c : Config) (r p by q b : ℕ) (past : List Event) → TargetIs r p past → (t : Bool) → ((by == r) && (q == p)) ≡ t → TargetIs r p (event_after c past by (Verb.PutMin q b) ∷ past)
is_put_min c r p by q b past s true h = rw h (λ t e f g. absurd (no_target t e f))
is_put_min c r p by q b past s false h = rw h s

is_put_slot : (c : Config) (r p by q i b v : ℕ) (past : List Event) → TargetIs r p past → (t : Bool) → ((by == r) && (q == p)) ≡ t → TargetIs r p (event_after c past by (Verb.PutSlot q i b v) ∷ past)
is_put_slot c r p by q i b v past s true h = rw h (λ t e f g. absurd (no_target t e f))
is_put_slot c r p by q i b v past s false h = rw h s

is_close : (c : Config) (r p by : ℕ) (past : List Event) → TargetIs r p past → (t : Bool) → (by == p) ≡ t → TargetIs r p (event_after c past by Verb.Close ∷ past)
is_close c r p by past s true h = rw h (λ t e f g. let k = s t e f g in (k.0, λ _. ap (λ x. fence_target x past) (eqb-true by p h) ∙ k.0))
is_close c r p by past s false h = rw h s

is_drain : (c : Config) (r p by : ℕ) (past : List Event) → TargetIs r p past → (t : Bool) → (by == p) ≡ t → TargetIs r p (event_after c past by Verb.Drain ∷ past)
is_drain c r p by past s true h = rw h (λ t e f g. absurd (true≢false g))
is_drain c r p by past s false h = rw h s

is_grant : (c : Config) (r p by w : ℕ) (past : List Event) → IsLegalHistory c past → Needs c by (part by past) (Verb.Grant w) → TargetIs r p past → (t : Bool) → (by == p) ≡ t → TargetIs r p (event_after c past by (Verb.Grant w) ∷ past)
is_grant c r p by w past h may s true k =
    rw k (λ t e f g. absurd (not_granted p r past (opened_is_held c r p past h t e f g) (grant_needs c p w past (subst (λ x. Needs c x (part x past) (Verb.Grant w)) (eqb-true by p k) may))))
is_grant c r p by w past h may s false k = rw k s

pub enters_at : (c : Config) (past : List Event) (by q p : ℕ) → IsLegalHistory c past → entered_or_lost (noted_grant by q past) (fence q past) ≡ Answer.Entered → (q == p) ≡ true → (fence_owner p past ≡ Some by) × (fence_closing p past ≡ false)
enters_at c past by q p h e hy = entered_holds by p past (noted_grant_is_owned c by p past h) (subst (λ z. entered_or_lost (noted_grant by z past) (fence z past) ≡ Answer.Entered) (eqb-true q p hy) e)

is_enter : (c : Config) (r p by q : ℕ) (t : Target) (past : List Event) → IsLegalHistory c past → TargetIs r p past
    → (a : Answer) → entered_or_lost (noted_grant by q past) (fence q past) ≡ a → (x : Bool) → (by == r) ≡ x → (y : Bool) → (q == p) ≡ y
    → TargetIs r p (record { by = by; verb = Verb.Enter q t; answer = a } ∷ past)
is_enter c r p by q t past h s Answer.Entered e true hx true hy =
    rw (hx, hy) (λ u e' f g. (same_some t u e', λ k. absurd (true≢false (sym k ∙ (enters_at c past by q p h e hy).1))))
is_enter c r p by q t past h s Answer.Entered e true hx false hy = rw (hx, hy) s
is_enter c r p by q t past h s Answer.Entered e false hx true hy =
    rw (hx, hy) (λ u e' f g. absurd (one_owner r by (fence_owner p past) ((opened_is_held c r p past h u e' f g).by_owner) (enters_at c past by q p h e hy).0 hx))
is_enter c r p by q t past h s Answer.Entered e false hx false hy = rw (hx, hy) s
is_enter c r p by q t past h s a e true hx true hy = rw (hx, hy) (λ u e' f g. absurd (no_target u e' f))
is_enter c r p by q t past h s a e true hx false hy = rw (hx, hy) s
is_enter c r p by q t past h s a e false hx y hy = rw hx s

is_step : (c : Config) (r p by : ℕ) (v : Verb) (past : List Event) → IsLegalHistory c past → Needs c by (part by past) v → TargetIs r p past → TargetIs r p (event_after c past by v ∷ past)
is_step c r p by (Verb.Ask q) past h may s = is_ask c r p by q past s (is_first_ask r by (Verb.Ask q)) refl
is_step c r p by (Verb.Enter q t) past h may s = is_enter c r p by q t past h s (entered_or_lost (noted_grant by q past) (fence q past)) refl (by == r) refl (q == p) refl
is_step c r p by (Verb.PutMin q b) past h may s = is_put_min c r p by q b past s ((by == r) && (q == p)) refl
is_step c r p by (Verb.PutSlot q i b v) past h may s = is_put_slot c r p by q i b v past s ((by == r) && (q == p)) refl
is_step c r p by Verb.Close past h may s = is_close c r p by past s (by == p) refl
is_step c r p by Verb.Drain past h may s = is_drain c r p by past s (by == p) refl
is_step c r p by (Verb.Grant w) past h may s = is_grant c r p by w past h may s (by == p) refl
is_step c r p by v past h may s = s

pub target_is : (c : Config) (r p : ℕ) (past : List Event) → IsLegalHistory c past → TargetIs r p past
target_is c r p = legal_induction c (TargetIs r p) (λ t e. cc) (λ past by v h may s. is_step c r p by v past h may.may s)

-- another can't land a slot while r owns p
pub not_other_slot : (c : Config) (r p by q i b v : ℕ) (past : List Event) → IsLegalHistory c past → Needs c by (part by past) (Verb.PutSlot q i b v) → put_answer (drained by q past) ≡ Answer.Done → (by == r) ≡ false → (q == p) ≡ true → fence_owner p past ≡ Some r → ⊥
not_other_slot c r p by q i b v past h may e hx hy o =
    let k = slot_holds c by q i b v past h may e in
    one_owner r by (fence_owner p past) o (subst (λ z. fence_owner z past ≡ Some by) (eqb-true q p hy) k.by_owner) hx

-- once the word that the closed fence names was changed since the host looked at it, nobody has an open `Enter`
abbrev pub Single : Config → ℕ → ℕ → List Event → Type 0
Single c r p past =
    fence_closing p past ≡ true → looked_since_close p past ≡ true → changed_since_look c p past ≡ true
    → (t : Target) → open_target r p past ≡ Some t → has_target t ≡ true → drained r p past ≡ false → ⊥

single_ask : (c : Config) (r p by q : ℕ) (past : List Event) → Single c r p past → (t : Bool) → is_first_ask r by (Verb.Ask q) ≡ t → Single c r p (event_after c past by (Verb.Ask q) ∷ past)
single_ask c r p by q past s true h = rw h (λ k l m t e. cc)
single_ask c r p by q past s false h = rw h s

single_min : (c : Config) (r p by q b : ℕ) (past : List Event) → IsLegalHistory c past → Needs c by (part by past) (Verb.PutMin q b) → Single c r p past
    → (a : Answer) → put_answer (drained by q past) ≡ a → (x : Bool) → (by == r) ≡ x → (y : Bool) → (q == p) ≡ y
    → Single c r p (record { by = by; verb = Verb.PutMin q b; answer = a } ∷ past)
single_min c r p by q b past h may s a e true hx true hy = rw (hx, hy) (λ k l m t e' f g. no_target t e' f)
single_min c r p by q b past h may s Answer.Done e false hx true hy = rw (hx, hy) (λ k l m t e' f g. not_other c r p by q b past h may e hx hy (opened_is_held c r p past h t e' f g).by_owner)
single_min c r p by q b past h may s Answer.Done e false hx false hy = rw (hx, hy) s
single_min c r p by q b past h may s Answer.Done e true hx false hy = rw (hx, hy) s
single_min c r p by q b past h may s a e true hx false hy = rw (hx, hy) s
single_min c r p by q b past h may s a e false hx y hy = rw hx s

single_slot : (c : Config) (r p by q i b v : ℕ) (past : List Event) → IsLegalHistory c past → Needs c by (part by past) (Verb.PutSlot q i b v) → Single c r p past
    → (a : Answer) → put_answer (drained by q past) ≡ a → (x : Bool) → (by == r) ≡ x → (y : Bool) → (q == p) ≡ y
    → Single c r p (record { by = by; verb = Verb.PutSlot q i b v; answer = a } ∷ past)
single_slot c r p by q i b v past h may s a e true hx true hy = rw (hx, hy) (λ k l m t e' f g. no_target t e' f)
single_slot c r p by q i b v past h may s Answer.Done e false hx true hy = rw (hx, hy) (λ k l m t e' f g. not_other_slot c r p by q i b v past h may e hx hy (opened_is_held c r p past h t e' f g).by_owner)
single_slot c r p by q i b v past h may s Answer.Done e false hx false hy = rw (hx, hy) s
single_slot c r p by q i b v past h may s Answer.Done e true hx false hy = rw (hx, hy) s
single_slot c r p by q i b v past h may s a e true hx false hy = rw (hx, hy) s
single_slot c r p by q i b v past h may s a e false hx y hy = rw hx s

single_enter : (c : Config) (r p by q : ℕ) (t : Target) (past : List Event) → IsLegalHistory c past → Single c r p past
    → (a : Answer) → entered_or_lost (noted_grant by q past) (fence q past) ≡ a → (x : Bool) → (by == r) ≡ x → (y : Bool) → (q == p) ≡ y
    → Single c r p (record { by = by; verb = Verb.Enter q t; answer = a } ∷ past)
single_enter c r p by q t past h s Answer.Entered e true hx true hy = rw (hx, hy) (λ k l m u e' f g. true≢false (sym k ∙ (enters_at c past by q p h e hy).1))
single_enter c r p by q t past h s Answer.Entered e true hx false hy = rw (hx, hy) s
single_enter c r p by q t past h s Answer.Entered e false hx y hy = rw hx s
single_enter c r p by q t past h s a e true hx true hy = rw (hx, hy) (λ k l m u e' f g. no_target u e' f)
single_enter c r p by q t past h s a e true hx false hy = rw (hx, hy) s
single_enter c r p by q t past h s a e false hx y hy = rw hx s

single_close : (c : Config) (r p by : ℕ) (past : List Event) → Single c r p past → (t : Bool) → (by == p) ≡ t → Single c r p (event_after c past by Verb.Close ∷ past)
single_close c r p by past s true h = rw h (λ k l. absurd (true≢false (sym l)))
single_close c r p by past s false h = rw h s

single_look : (c : Config) (r p by : ℕ) (past : List Event) → Single c r p past → (t : Bool) → (by == p) ≡ t → Single c r p (event_after c past by Verb.LookTarget ∷ past)
single_look c r p by past s true h = rw h (λ k l m. absurd (true≢false (sym m)))
single_look c r p by past s false h = rw h s

single_drain : (c : Config) (r p by : ℕ) (past : List Event) → Single c r p past → (t : Bool) → (by == p) ≡ t → Single c r p (event_after c past by Verb.Drain ∷ past)
single_drain c r p by past s true h = rw h (λ k l m t e f g. true≢false g)
single_drain c r p by past s false h = rw h s

single_grant : (c : Config) (r p by w : ℕ) (past : List Event) → Single c r p past → (t : Bool) → (by == p) ≡ t → Single c r p (event_after c past by (Verb.Grant w) ∷ past)
single_grant c r p by w past s true h = rw h (λ k. absurd (true≢false (sym k)))
single_grant c r p by w past s false h = rw h s

single_step : (c : Config) (r p by : ℕ) (v : Verb) (past : List Event) → IsLegalHistory c past → Needs c by (part by past) v → Single c r p past → Single c r p (event_after c past by v ∷ past)
single_step c r p by (Verb.Ask q) past h may s = single_ask c r p by q past s (is_first_ask r by (Verb.Ask q)) refl
single_step c r p by (Verb.Enter q t) past h may s = single_enter c r p by q t past h s (entered_or_lost (noted_grant by q past) (fence q past)) refl (by == r) refl (q == p) refl
single_step c r p by (Verb.PutMin q b) past h may s = single_min c r p by q b past h may s (put_answer (drained by q past)) refl (by == r) refl (q == p) refl
single_step c r p by (Verb.PutSlot q i b v) past h may s = single_slot c r p by q i b v past h may s (put_answer (drained by q past)) refl (by == r) refl (q == p) refl
single_step c r p by Verb.Close past h may s = single_close c r p by past s (by == p) refl
single_step c r p by Verb.LookTarget past h may s = single_look c r p by past s (by == p) refl
single_step c r p by Verb.Drain past h may s = single_drain c r p by past s (by == p) refl
single_step c r p by (Verb.Grant w) past h may s = single_grant c r p by w past s (by == p) refl
single_step c r p by v past h may s = s

pub single : (c : Config) (r p : ℕ) (past : List Event) → IsLegalHistory c past → Single c r p past
single c r p = legal_induction c (Single c r p) (λ k l m t e. cc) (λ past by v h may s. single_step c r p by v past h may.may s)
