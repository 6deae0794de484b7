-- After a drain the word that was seen stands no more.
use Rattle.std.proofs.Common.{◌≡◌, ℕ, ◌+◌, ◌*◌, ◌%◌, ◌<◌, Bool, true, false, cond, ◌&&◌, not, ◌==◌, List, ◌∷◌, refl, sym, ◌∙◌, ap, arith, Some, subst, eqb-true, true≢false}
use Rattle.std.proofs.lemmas.Bool.{and_from, false_from_ne_true}
use Rattle.mu_model.specs.declared.config.Config.{Config}
use Rattle.mu_model.specs.declared.event.Answer.{Answer}
use Rattle.mu_model.specs.declared.event.Event.{Event}
use Rattle.mu_model.specs.declared.event.Target.{Target}
use Rattle.mu_model.specs.declared.event.Verb.{Verb}
use Rattle.mu_model.specs.Allowed.{Needs}
use Rattle.mu_model.specs.Answers.{drained, entered_or_lost, is_enter_of, put_answer}
use Rattle.mu_model.specs.Entering.{open_target}
use Rattle.mu_model.specs.Histories.{has, part, since}
use Rattle.mu_model.specs.Leaderships.{is_first_ask, noted_grant}
use Rattle.mu_model.specs.Legal.{IsLegalHistory}
use Rattle.mu_model.specs.Placing.{looked_before_entering}
use Rattle.mu_model.specs.Regions.{fence, is_close_of}
use Rattle.mu_model.specs.Serving.{has_target, is_target_look, looked_since_close}
use Rattle.mu_model.proofs.Basics.{same_number}
use Rattle.mu_model.proofs.Owned.{IsOwnTest, has-part, since-part}
use Rattle.mu_agree.proofs.Access.{closes-own, no_target}
use Rattle.mu_agree.proofs.Legal.{legal_induction, event_after}
use Rattle.mu_words.specs.Standing.{content, stamp, target_word, is_same_target, changed_since_look, close_target, drain_took}
use Rattle.mu_words.proofs.Limits.{Limits}
use Rattle.mu_words.proofs.Tracking.{kept_in_history}
use Rattle.mu_words.proofs.Opening.{target_is, single}
use Rattle.mu_words.proofs.Entries.{content_fits}
use Rattle.mu_words.proofs.Loading.{drain_target}
use Rattle.mu_words.proofs.MinTies.{min_tie}
use Rattle.mu_words.proofs.PlaceTies.{fixed_tie, before_quiet}

target_look-own : (r : ℕ) → IsOwnTest r (λ e. is_target_look r e.by e.verb)
target_look-own r = record { own = λ e h. go e.by e.verb h }
  where
    go : (by : ℕ) (v : Verb) → (by == r) ≡ false → is_target_look r by v ≡ false
    go by Verb.LookTarget h = h
    go by v h = refl

pub looked_since_close-part : (r : ℕ) (past : List Event) → looked_since_close r (part r past) ≡ looked_since_close r past
looked_since_close-part r past =
    ap (has (λ e. is_target_look r e.by e.verb)) (since-part (is_close_of r) r (closes-own r) past) ∙ has-part (λ e. is_target_look r e.by e.verb) r (target_look-own r) (since (is_close_of r) past)

pub same_self : (t : Target) → has_target t ≡ true → is_same_target t t ≡ true
same_self Target.None h = h
same_self Target.Min h = refl
same_self (Target.Place s) h = same_number s

-- the exchange of a `Drain` takes if an `Enter` is open
pub drain_takes : (c : Config) (r p : ℕ) (t : Target) (past : List Event) → IsLegalHistory c past → Needs c p (part p past) Verb.Drain
    → open_target r p past ≡ Some t → has_target t ≡ true → drained r p past ≡ false → drain_took c p t past p Verb.Drain ≡ true
drain_takes c r p t past h may o f d =
    let k = drain_target p past may.0 in
    let named = (target_is c r p past h t o f d).1 k.0 in
    let looked = sym (looked_since_close-part p past) ∙ may.1.0 in
    let unchanged = false_from_ne_true (changed_since_look c p past) (λ e. single c r p past h k.0 looked e t o f d) in
    and_from (p == p) (is_same_target t (close_target p past) && not (changed_since_look c p past)) (same_number p)
    (and_from (is_same_target t (close_target p past)) (not (changed_since_look c p past)) (subst (λ x. is_same_target t x ≡ true) (sym named) (same_self t f)) (ap not unchanged))

-- readiness: what must hold of the history for the kept word to be of use
pub record Readiness (ready : List Event → Bool) (r p : ℕ) : Type 0 where
  pub quiet : (e : Event) (past : List Event) → is_enter_of r p e ≡ false → ready (e ∷ past) ≡ true → ready past ≡ true

abbrev pub Outdated : Config → ℕ → ℕ → Target → (List Event → Bool) → List Event → Type 0
Outdated c r p t ready past = open_target r p past ≡ Some t → drained r p past ≡ true → ready past ≡ true → (kept_in_history c r p t past).1 < stamp c p t past * 140737488355328

abbrev Fixed : Config → ℕ → ℕ → Target → (List Event → Bool) → List Event → Type 0
Fixed c r p t ready past = open_target r p past ≡ Some t → drained r p past ≡ false → ready past ≡ true → (kept_in_history c r p t past).1 ≡ target_word c p t past

out_ask : (c : Config) (r p by q : ℕ) (t : Target) (ready : List Event → Bool) (past : List Event) → Readiness ready r p → Outdated c r p t ready past → (x : Bool) → is_first_ask r by (Verb.Ask q) ≡ x → Outdated c r p t ready (event_after c past by (Verb.Ask q) ∷ past)
out_ask c r p by q t ready past y s true h = rw h (λ o. cc)
out_ask c r p by q t ready past y s false h = rw h (λ o d f. s o d (y.quiet (event_after c past by (Verb.Ask q)) past refl f))

out_min : (c : Config) (r p by q : ℕ) (t : Target) (ready : List Event → Bool) (past : List Event) → Readiness ready r p → Outdated c r p t ready past → (x : Bool) → (is_same_target t Target.Min && ((by == r) && (q == p))) ≡ x → Outdated c r p t ready (event_after c past by (Verb.Min q) ∷ past)
out_min c r p by q t ready past y s true h = rw h (λ o d f. s o d (y.quiet (event_after c past by (Verb.Min q)) past refl f))
out_min c r p by q t ready past y s false h = rw h (λ o d f. s o d (y.quiet (event_after c past by (Verb.Min q)) past refl f))

out_look : (c : Config) (r p by q i : ℕ) (t : Target) (ready : List Event → Bool) (past : List Event) → Readiness ready r p → Outdated c r p t ready past → (x : Bool) → (is_same_target t (Target.Place (i % c.ring)) && ((by == r) && (q == p))) ≡ x → Outdated c r p t ready (event_after c past by (Verb.Look q i) ∷ past)
out_look c r p by q i t ready past y s true h = rw h (λ o d f. s o d (y.quiet (event_after c past by (Verb.Look q i)) past refl f))
out_look c r p by q i t ready past y s false h = rw h (λ o d f. s o d (y.quiet (event_after c past by (Verb.Look q i)) past refl f))

out_put : (c : Config) (r p by q b : ℕ) (t : Target) (ready : List Event → Bool) (past : List Event) → has_target t ≡ true → Readiness ready r p → Outdated c r p t ready past → (a : Answer) → (x : Bool) → ((by == r) && (q == p)) ≡ x → (z : Bool) → is_same_target t Target.Min ≡ z
    → Outdated c r p t ready (record { by = by; verb = Verb.PutMin q b; answer = a } ∷ past)
out_put c r p by q b t ready past g y s a true h z k = rw h (λ o. absurd (no_target t o g))
out_put c r p by q b t ready past g y s Answer.Done false h true k = rw (h, k) (λ o d f. s o d (y.quiet (record { by = by; verb = Verb.PutMin q b; answer = Answer.Done }) past refl f))
out_put c r p by q b t ready past g y s Answer.Done false h false k = rw (h, k) (λ o d f. s o d (y.quiet (record { by = by; verb = Verb.PutMin q b; answer = Answer.Done }) past refl f))
out_put c r p by q b t ready past g y s a false h z k = rw h (λ o d f. s o d (y.quiet (record { by = by; verb = Verb.PutMin q b; answer = a }) past refl f))

out_slot : (c : Config) (r p by q i b v : ℕ) (t : Target) (ready : List Event → Bool) (past : List Event) → has_target t ≡ true → Readiness ready r p → Outdated c r p t ready past → (x : Bool) → ((by == r) && (q == p)) ≡ x → Outdated c r p t ready (event_after c past by (Verb.PutSlot q i b v) ∷ past)
out_slot c r p by q i b v t ready past g y s true h = rw h (λ o. absurd (no_target t o g))
out_slot c r p by q i b v t ready past g y s false h = rw h (λ o d f. s o d (y.quiet (event_after c past by (Verb.PutSlot q i b v)) past refl f))

out_enter : (c : Config) (r p by q : ℕ) (u t : Target) (ready : List Event → Bool) (past : List Event) → Readiness ready r p → Outdated c r p t ready past → (a : Answer) → (x : Bool) → ((by == r) && (q == p)) ≡ x
    → Outdated c r p t ready (record { by = by; verb = Verb.Enter q u; answer = a } ∷ past)
out_enter c r p by q u t ready past y s a true h = rw h (λ o d. absurd (true≢false (sym d)))
out_enter c r p by q u t ready past y s Answer.Entered false h = rw h (λ o d f. s o d (y.quiet (record { by = by; verb = Verb.Enter q u; answer = Answer.Entered }) past h f))
out_enter c r p by q u t ready past y s a false h = rw h (λ o d f. s o d (y.quiet (record { by = by; verb = Verb.Enter q u; answer = a }) past h f))

-- a `Drain` raises the stamp above the kept word
drain_above : (kept st content : ℕ) (took dr : Bool) → content < 140737488355328 → (dr ≡ false → (kept ≡ st * 140737488355328 + content) × (took ≡ true)) → (dr ≡ true → kept < st * 140737488355328) → kept < cond took (st + 1) st * 140737488355328
drain_above kept st content true true h f g = let k = g refl in omega arith
drain_above kept st content false true h f g = g refl
drain_above kept st content true false h f g = let k = (f refl).0 in omega arith
drain_above kept st content false false h f g = absurd (true≢false (sym (f refl).1))

out_drain : (c : Config) (r p by : ℕ) (t : Target) (ready : List Event → Bool) (past : List Event) → Limits c → IsLegalHistory c past → Needs c by (part by past) Verb.Drain → has_target t ≡ true → Readiness ready r p → Fixed c r p t ready past → Outdated c r p t ready past
    → (x : Bool) → (by == p) ≡ x → Outdated c r p t ready (event_after c past by Verb.Drain ∷ past)
out_drain c r p by t ready past l h may g y m s true k =
    let may_p = subst (λ z. Needs c z (part z past) Verb.Drain) (eqb-true by p k) may in
    λ o d f.
    let f' = y.quiet (event_after c past by Verb.Drain) past refl f in
    drain_above (kept_in_history c r p t past).1 (stamp c p t past) (content c p t past) (drain_took c p t past by Verb.Drain) (drained r p past) (content_fits c p t past l h)
    (λ n. (m o n f', subst (λ z. drain_took c p t past z Verb.Drain ≡ true) (sym (eqb-true by p k)) (drain_takes c r p t past h may_p o g n)))
    (λ n. s o n f')
out_drain c r p by t ready past l h may g y m s false k = rw k (λ o d f. s o d (y.quiet (event_after c past by Verb.Drain) past refl f))

out_step : (c : Config) (r p by : ℕ) (t : Target) (ready : List Event → Bool) (v : Verb) (past : List Event) → Limits c → IsLegalHistory c past → Needs c by (part by past) v → has_target t ≡ true → Readiness ready r p → Fixed c r p t ready past → Outdated c r p t ready past → Outdated c r p t ready (event_after c past by v ∷ past)
out_step c r p by t ready (Verb.Ask q) past l h may g y m s = out_ask c r p by q t ready past y s (is_first_ask r by (Verb.Ask q)) refl
out_step c r p by t ready (Verb.Min q) past l h may g y m s = out_min c r p by q t ready past y s (is_same_target t Target.Min && ((by == r) && (q == p))) refl
out_step c r p by t ready (Verb.Look q i) past l h may g y m s = out_look c r p by q i t ready past y s (is_same_target t (Target.Place (i % c.ring)) && ((by == r) && (q == p))) refl
out_step c r p by t ready (Verb.Enter q u) past l h may g y m s = out_enter c r p by q u t ready past y s (entered_or_lost (noted_grant by q past) (fence q past)) ((by == r) && (q == p)) refl
out_step c r p by t ready (Verb.PutMin q b) past l h may g y m s = out_put c r p by q b t ready past g y s (put_answer (drained by q past)) ((by == r) && (q == p)) refl (is_same_target t Target.Min) refl
out_step c r p by t ready (Verb.PutSlot q i b v) past l h may g y m s = out_slot c r p by q i b v t ready past g y s ((by == r) && (q == p)) refl
out_step c r p by t ready Verb.Drain past l h may g y m s = out_drain c r p by t ready past l h may g y m s (by == p) refl
out_step c r p by t ready v past l h may g y m s = λ o d f. s o d (y.quiet (event_after c past by v) past refl f)

pub outdated : (c : Config) (r p : ℕ) (t : Target) (ready : List Event → Bool) (past : List Event) → Limits c → IsLegalHistory c past → has_target t ≡ true → Readiness ready r p → ((past : List Event) → IsLegalHistory c past → Fixed c r p t ready past) → Outdated c r p t ready past
outdated c r p t ready past l h g y m = legal_induction c (Outdated c r p t ready) (λ o. cc) (λ past by v h may s. out_step c r p by t ready v past l h may.may g y (m past h) s) past h

pub min_outdated : (c : Config) (r p : ℕ) (past : List Event) → Limits c → IsLegalHistory c past → open_target r p past ≡ Some Target.Min → drained r p past ≡ true → (kept_in_history c r p Target.Min past).1 < stamp c p Target.Min past * 140737488355328
min_outdated c r p past l h o d =
    outdated c r p Target.Min (λ _. true) past l h refl (record { quiet = λ e past n f. refl }) (λ past h o d f. (min_tie c r p past l h).1 o d) o d refl

pub place_outdated : (c : Config) (r p i : ℕ) (past : List Event) → Limits c → IsLegalHistory c past → open_target r p past ≡ Some (Target.Place (i % c.ring)) → drained r p past ≡ true → looked_before_entering c r p i past ≡ true
    → (kept_in_history c r p (Target.Place (i % c.ring)) past).1 < stamp c p (Target.Place (i % c.ring)) past * 140737488355328
place_outdated c r p i past l h o d f =
    outdated c r p (Target.Place (i % c.ring)) (looked_before_entering c r p i) past l h refl (record { quiet = λ e past n f. before_quiet c r p i e past n f }) (λ past h o d f. (fixed_tie c r p i past h (i % c.ring) o d f).is) o d f
