-- The minimum word of a region stays as the leader that holds it saw or wrote it.
use Rattle.std.proofs.Common.{◌≡◌, ℕ, ◌+◌, ◌*◌, ◌≤◌, Bool, true, false, ◌&&◌, ◌==◌, List, ◌∷◌, refl, sym, ◌∙◌, ap, arith, Some, subst, eqb-true, true≢false}
use Rattle.std.proofs.lemmas.Bool.{false_from_ne_true}
use Rattle.mu_model.specs.declared.config.Config.{Config}
use Rattle.mu_model.specs.declared.event.Answer.{Answer}
use Rattle.mu_model.specs.declared.event.Event.{Event}
use Rattle.mu_model.specs.declared.event.Target.{Target}
use Rattle.mu_model.specs.declared.event.Verb.{Verb}
use Rattle.mu_model.specs.Allowed.{Needs}
use Rattle.mu_model.specs.Answers.{drained, entered_or_lost, put_answer}
use Rattle.mu_model.specs.Entering.{min_read_under, open_target}
use Rattle.mu_model.specs.Histories.{has, part, since}
use Rattle.mu_model.specs.Leaderships.{is_first_ask, noted_grant}
use Rattle.mu_model.specs.Legal.{IsLegalHistory}
use Rattle.mu_model.specs.Regions.{fence, fence_grant, fence_owner, is_drain_of, is_grant_of}
use Rattle.mu_model.proofs.Basics.{same_some}
use Rattle.mu_agree.proofs.Access.{drained_law, entered_facts, entered_holds, noted_grant_is_owned, open_target-part, opened_is_held, put_done_undrained}
use Rattle.mu_agree.proofs.Legal.{legal_induction, event_after}
use Rattle.mu_agree.proofs.Minimum.{entered_read, not_other, read_under_seen, seen_law}
use Rattle.mu_words.specs.Standing.{stamp, target_word}
use Rattle.mu_words.specs.Verbs.{with_content}
use Rattle.mu_words.proofs.Limits.{Limits}
use Rattle.mu_words.proofs.Tracking.{kept_in_history}
use Rattle.mu_words.proofs.Ranges.{min_fits}
use Rattle.mu_model.proofs.Putting.{MayEnter}

abbrev pub min_word : Config → ℕ → List Event → ℕ
min_word c p past = target_word c p Target.Min past

abbrev pub SeenMin : Config → ℕ → ℕ → List Event → Type 0
SeenMin c r p past =
    (g : ℕ) → g ≡ fence_grant p past → fence_owner p past ≡ Some r → min_read_under r p g past ≡ true → has (is_drain_of p) (since (is_grant_of p) past) ≡ false
    → (kept_in_history c r p Target.Min past).0 ≡ min_word c p past

abbrev pub FixedMin : Config → ℕ → ℕ → List Event → Type 0
FixedMin c r p past = open_target r p past ≡ Some Target.Min → drained r p past ≡ false → (kept_in_history c r p Target.Min past).1 ≡ min_word c p past

abbrev pub MinTie : Config → ℕ → ℕ → List Event → Type 0
MinTie c r p past = SeenMin c r p past × FixedMin c r p past

tie_ask : (c : Config) (r p by q : ℕ) (past : List Event) → MinTie c r p past → (t : Bool) → is_first_ask r by (Verb.Ask q) ≡ t → MinTie c r p (event_after c past by (Verb.Ask q) ∷ past)
tie_ask c r p by q past s true h = rw h (s.0, λ e. cc)
tie_ask c r p by q past s false h = rw h s

tie_min : (c : Config) (r p by q : ℕ) (past : List Event) → MinTie c r p past → (x : Bool) → (by == r) ≡ x → (y : Bool) → (q == p) ≡ y → MinTie c r p (event_after c past by (Verb.Min q) ∷ past)
tie_min c r p by q past s true hx true hy = rw (hx, hy) (λ g e o m d. ap (λ z. target_word c z Target.Min past) (eqb-true q p hy), s.1)
tie_min c r p by q past s true hx false hy = rw (hx, hy) s
tie_min c r p by q past s false hx y hy = rw hx s

-- a put leaves the stamp
put_word : (c : Config) (p b : ℕ) (past : List Event) → Limits c → IsLegalHistory c past → (k : ℕ) → k ≡ min_word c p past → with_content k b ≡ stamp c p Target.Min past * 140737488355328 + b
put_word c p b past l h k e = let m = min_fits c p past l h in omega (arith, e)

own_open : (c : Config) (r p by q b : ℕ) (past : List Event) → Needs c by (part by past) (Verb.PutMin q b) → put_answer (drained by q past) ≡ Answer.Done → (by == r) ≡ true → (q == p) ≡ true → (open_target r p past ≡ Some Target.Min) × (drained r p past ≡ false)
own_open c r p by q b past may e hx hy =
    let at_r = subst (λ z. Needs c z (part z past) (Verb.PutMin q b)) (eqb-true by r hx) may in
    let at_p = subst (λ z. Needs c r (part r past) (Verb.PutMin z b)) (eqb-true q p hy) at_r in
    let d = subst (λ z. drained r z past ≡ false) (eqb-true q p hy) (subst (λ z. drained z q past ≡ false) (eqb-true by r hx) (put_done_undrained (drained by q past) e)) in
    (sym (open_target-part r p past) ∙ at_p.1.1.0, d)

tie_put : (c : Config) (r p by q b : ℕ) (past : List Event) → Limits c → IsLegalHistory c past → Needs c by (part by past) (Verb.PutMin q b) → MinTie c r p past
    → (a : Answer) → put_answer (drained by q past) ≡ a → (x : Bool) → (by == r) ≡ x → (y : Bool) → (q == p) ≡ y
    → MinTie c r p (record { by = by; verb = Verb.PutMin q b; answer = a } ∷ past)
tie_put c r p by q b past l h may s Answer.Done e true hx true hy =
    let o = own_open c r p by q b past may e hx hy in
    rw (hx, hy) (λ g k w m d. put_word c p b past l h (kept_in_history c r p Target.Min past).1 (s.1 o.0 o.1), λ e'. cc)
tie_put c r p by q b past l h may s Answer.Done e true hx false hy = rw (hx, hy) s
tie_put c r p by q b past l h may s Answer.Done e false hx true hy =
    rw (hx, hy) (λ g k w m d. absurd (not_other c r p by q b past h may e hx hy w), λ e' d. absurd (not_other c r p by q b past h may e hx hy (opened_is_held c r p past h Target.Min e' refl d).by_owner))
tie_put c r p by q b past l h may s Answer.Done e false hx false hy = rw (hx, hy) s
tie_put c r p by q b past l h may s a e true hx true hy = rw (hx, hy) (s.0, λ e'. cc)
tie_put c r p by q b past l h may s a e true hx false hy = rw (hx, hy) s
tie_put c r p by q b past l h may s a e false hx y hy = rw hx s

tie_slot : (c : Config) (r p by q i b v : ℕ) (past : List Event) → MinTie c r p past → (t : Bool) → ((by == r) && (q == p)) ≡ t → MinTie c r p (event_after c past by (Verb.PutSlot q i b v) ∷ past)
tie_slot c r p by q i b v past s true h = rw h (s.0, λ e. cc)
tie_slot c r p by q i b v past s false h = rw h s

tie_drain : (c : Config) (r p by : ℕ) (past : List Event) → MinTie c r p past → (t : Bool) → (by == p) ≡ t → MinTie c r p (event_after c past by Verb.Drain ∷ past)
tie_drain c r p by past s true h = rw h (λ g e o m d. absurd (true≢false d), λ e d. absurd (true≢false d))
tie_drain c r p by past s false h = rw h s

tie_grant : (c : Config) (r p by w : ℕ) (past : List Event) → IsLegalHistory c past → MinTie c r p past → (t : Bool) → (by == p) ≡ t → MinTie c r p (event_after c past by (Verb.Grant w) ∷ past)
tie_grant c r p by w past h s true k =
    rw k (λ g e o m d. absurd (let n : g ≤ fence_grant p past = seen_law c r p past h g (read_under_seen r p g past m) in omega arith), s.1)
tie_grant c r p by w past h s false k = rw k s

tie_enter : (c : Config) (r p by q : ℕ) (t : Target) (past : List Event) → IsLegalHistory c past → MayEnter c by (part by past) q t → MinTie c r p past
    → (a : Answer) → entered_or_lost (noted_grant by q past) (fence q past) ≡ a → (x : Bool) → (by == r) ≡ x → (y : Bool) → (q == p) ≡ y
    → MinTie c r p (record { by = by; verb = Verb.Enter q t; answer = a } ∷ past)
tie_enter c r p by q t past h may s Answer.Entered e true hx true hy =
    let at_p = subst (λ z. entered_or_lost (noted_grant by z past) (fence z past) ≡ Answer.Entered) (eqb-true q p hy) e in
    let at_r = subst (λ z. entered_or_lost (noted_grant z p past) (fence p past) ≡ Answer.Entered) (eqb-true by r hx) at_p in
    let may_p = subst (λ z. MayEnter c by (part by past) z t) (eqb-true q p hy) may in
    let may_r = subst (λ z. MayEnter c z (part z past) p t) (eqb-true by r hx) may_p in
    let k = entered_facts (noted_grant r p past) (fence p past) at_r in
    let o = entered_holds r p past (noted_grant_is_owned c r p past h) at_r in
    let d = false_from_ne_true (has (is_drain_of p) (since (is_grant_of p) past)) (λ d. true≢false (sym (drained_law c p past h d).0 ∙ o.1)) in
    rw (hx, hy) (s.0, λ e' _. s.0 k.g (sym k.same) o.0 (entered_read c r p k.g t past may_r (same_some t Target.Min e') k.is) d)
tie_enter c r p by q t past h may s Answer.Entered e true hx false hy = rw (hx, hy) s
tie_enter c r p by q t past h may s Answer.Entered e false hx y hy = rw hx s
tie_enter c r p by q t past h may s a e true hx true hy = rw (hx, hy) (s.0, λ e'. cc)
tie_enter c r p by q t past h may s a e true hx false hy = rw (hx, hy) s
tie_enter c r p by q t past h may s a e false hx y hy = rw hx s

tie_step : (c : Config) (r p by : ℕ) (v : Verb) (past : List Event) → Limits c → IsLegalHistory c past → Needs c by (part by past) v → MinTie c r p past → MinTie c r p (event_after c past by v ∷ past)
tie_step c r p by (Verb.Ask q) past l h may s = tie_ask c r p by q past s (is_first_ask r by (Verb.Ask q)) refl
tie_step c r p by (Verb.Min q) past l h may s = tie_min c r p by q past s (by == r) refl (q == p) refl
tie_step c r p by (Verb.Enter q t) past l h may s = tie_enter c r p by q t past h may.1 s (entered_or_lost (noted_grant by q past) (fence q past)) refl (by == r) refl (q == p) refl
tie_step c r p by (Verb.PutMin q b) past l h may s = tie_put c r p by q b past l h may s (put_answer (drained by q past)) refl (by == r) refl (q == p) refl
tie_step c r p by (Verb.PutSlot q i b v) past l h may s = tie_slot c r p by q i b v past s ((by == r) && (q == p)) refl
tie_step c r p by Verb.Drain past l h may s = tie_drain c r p by past s (by == p) refl
tie_step c r p by (Verb.Grant w) past l h may s = tie_grant c r p by w past h s (by == p) refl
tie_step c r p by v past l h may s = s

pub min_tie : (c : Config) (r p : ℕ) (past : List Event) → Limits c → IsLegalHistory c past → MinTie c r p past
min_tie c r p past l h = legal_induction c (MinTie c r p) (λ g e o m. cc, λ e. cc) (λ past by v h may s. tie_step c r p by v past l h may.may s) past h
