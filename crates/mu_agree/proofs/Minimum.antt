-- The minimum of a region never goes down.
use Rattle.std.proofs.Common.{◌≡◌, ℕ, ◌<◌, ◌≤◌, inl, inr, max, Bool, true, false, cond, ◌&&◌, ◌||◌, ◌==◌, List, [], ◌∷◌, ◌++◌, refl, sym, ◌∙◌, ap, arith, Some, None, subst, eqb-true}
use Rattle.std.specs.declared.option.Option.{Option}
use Rattle.std.specs.Prelude.{is_some}
use Rattle.std.proofs.lemmas.Bool.{and_parts, or_cases, eqb-false}
use Rattle.std.proofs.lemmas.List.{reverse-append}
use mathlib.Core.List.{reverse}
use Rattle.mu_model.specs.declared.config.Config.{Config}
use Rattle.mu_model.specs.declared.event.Event.{Event}
use Rattle.mu_model.specs.declared.event.Target.{Target}
use Rattle.mu_model.specs.declared.event.Verb.{Verb}
use Rattle.mu_model.specs.declared.event.Answer.{Answer}
use Rattle.mu_agree.specs.Laws.{MinimumRises}
use Rattle.mu_model.specs.Allowed.{Needs}
use Rattle.mu_model.specs.Answers.{drained, entered_or_lost, put_answer}
use Rattle.mu_model.specs.Entering.{grant_seen, min_read, min_read_since, min_read_under, number_allowed, open_target}
use Rattle.mu_model.specs.Histories.{earlier_or, has, newest, or_zero, part}
use Rattle.mu_model.specs.Leaderships.{begins_leadership, is_first_ask, leadership, noted_grant, proposal_number}
use Rattle.mu_model.specs.Legal.{IsLegalHistory}
use Rattle.mu_model.specs.Regions.{fence, fence_grant, fence_owner, region_min}
use Rattle.mu_model.proofs.Owned.{IsOwnTest, IsOwn, newest-part, since-part, has-part, begins-own, noted-part}
use Rattle.mu_agree.proofs.Legal.{event_after, legal_induction, legal_onward}
use Rattle.mu_agree.proofs.Numbers.{greatest_own_put, number-part, fresh_by, fresh}
use Rattle.mu_agree.proofs.Access.{noted_grant_is_owned, opened_is_held, min_holds, put_done_undrained, entered_holds, entered_facts, open_target-part}
use Rattle.mu_model.proofs.Basics.{same_some}
use Rattle.mu_model.proofs.Putting.{MayPutMin, MayEnter, min_facts}

-- the number of the leadership is the greatest that was put
abbrev pub TopIs : ℕ → List Event → Type 0
TopIs r past = (m : ℕ) → proposal_number r past ≡ Some m → greatest_own_put r past ≡ m

-- the number of a leadership is the one that its first put had
pub number_first : (r b : ℕ) (past : List Event) (o : Option ℕ) → number_allowed r past b o → (m : ℕ) → o ≡ Some m → b ≡ m
number_first r b past None h m e = cc
number_first r b past (Some x) h m e = h ∙ same_some x m e

pub first_by : (r by p b : ℕ) (past : List Event) → MayPutMin by (part by past) p b → (by == r) ≡ true → (m : ℕ) → proposal_number r past ≡ Some m → b ≡ m
first_by r by p b past may h m e =
    let k : MayPutMin r (part r past) p b = subst (λ x. MayPutMin x (part x past) p b) (eqb-true by r h) may in
    number_first r b (part r past) (proposal_number r (part r past)) k.numbered m (number-part r past ∙ e)

top_case : (t b : ℕ) (o : Option ℕ) → (o ≡ None → t < b) → ((m : ℕ) → o ≡ Some m → b ≡ m) → ((m : ℕ) → o ≡ Some m → t ≡ m) → (m : ℕ) → earlier_or (Some b) o ≡ Some m → max b t ≡ m
top_case t b None f g k m e = let i : b ≡ m = same_some b m e in let j : t < b = f refl in omega arith
top_case t b (Some x) f g k m e = let i : b ≡ m = g m e in let j : t ≡ m = k m e in omega arith

top_put : (c : Config) (r by p b : ℕ) (past : List Event) → MayPutMin by (part by past) p b → TopIs r past → (t : Bool) → (by == r) ≡ t → TopIs r (event_after c past by (Verb.PutMin p b) ∷ past)
top_put c r by p b past may s true h = rw h (top_case (greatest_own_put r past) b (proposal_number r past) (λ e. (fresh_by r by p b past may h e).0) (first_by r by p b past may h) s)
top_put c r by p b past may s false h = rw h s

top_ask : (c : Config) (r by q : ℕ) (past : List Event) → TopIs r past → (t : Bool) → is_first_ask r by (Verb.Ask q) ≡ t → TopIs r (event_after c past by (Verb.Ask q) ∷ past)
top_ask c r by q past s true h = rw h (λ m e. cc)
top_ask c r by q past s false h = rw h s

top_step : (c : Config) (r by : ℕ) (v : Verb) (past : List Event) → Needs c by (part by past) v → TopIs r past → TopIs r (event_after c past by v ∷ past)
top_step c r by (Verb.Ask q) past may s = top_ask c r by q past s (is_first_ask r by (Verb.Ask q)) refl
top_step c r by (Verb.PutMin p b) past may s = top_put c r by p b past (min_facts c by (part by past) p b may) s (by == r) refl
top_step c r by v past may s = s

pub top_is : (c : Config) (r : ℕ) (past : List Event) → IsLegalHistory c past → TopIs r past
top_is c r = legal_induction c (TopIs r) (λ m e. cc) (λ past by v h may s. top_step c r by v past may.may s)

-- all that r put is at most what it may put next
at_most_next : (r b : ℕ) (past : List Event) (o : Option ℕ) → (o ≡ None → greatest_own_put r past < b) → ((m : ℕ) → o ≡ Some m → b ≡ m) → ((m : ℕ) → o ≡ Some m → greatest_own_put r past ≡ m) → greatest_own_put r past ≤ b
at_most_next r b past None f g k = let j : greatest_own_put r past < b = f refl in omega arith
at_most_next r b past (Some x) f g k = let i : b ≡ x = g x refl in let j : greatest_own_put r past ≡ x = k x refl in omega arith

pub top_below : (c : Config) (r p b : ℕ) (past : List Event) → IsLegalHistory c past → MayPutMin r (part r past) p b → greatest_own_put r past ≤ b
top_below c r p b past h may =
    at_most_next r b past (proposal_number r past) (λ e. (fresh r p b past may e).0)
    (λ m e. number_first r b (part r past) (proposal_number r (part r past)) may.numbered m (number-part r past ∙ e)) (top_is c r past h)

-- a grant that r saw was given
abbrev pub Seen' : ℕ → ℕ → List Event → Type 0
Seen' r p past = (g : ℕ) → has (λ e. grant_seen r p g e.by e.verb e.answer) past ≡ true → g ≤ fence_grant p past

seen_fence : (c : Config) (r p by q : ℕ) (past : List Event) → Seen' r p past → (x : Bool) → (by == r) ≡ x → (y : Bool) → (q == p) ≡ y → Seen' r p (event_after c past by (Verb.Fence q) ∷ past)
seen_fence c r p by q past s true hx true hy = rw (hx, hy) (λ g. go g (fence_grant q past == g) refl)
  where
    go : (g : ℕ) (t : Bool) → (fence_grant q past == g) ≡ t → cond t true (has (λ e. grant_seen r p g e.by e.verb e.answer) past) ≡ true → g ≤ fence_grant p past
    go g true k e = let i : fence_grant p past ≡ g = subst (λ x. fence_grant x past ≡ g) (eqb-true q p hy) (eqb-true (fence_grant q past) g k) in omega arith
    go g false k e = s g e
seen_fence c r p by q past s true hx false hy = rw (hx, hy) s
seen_fence c r p by q past s false hx y hy = rw hx s

seen_ask : (c : Config) (r p by q : ℕ) (past : List Event) → Seen' r p past → (t : Bool) → is_first_ask r by (Verb.Ask q) ≡ t → Seen' r p (event_after c past by (Verb.Ask q) ∷ past)
seen_ask c r p by q past s t h = s

seen_grant : (c : Config) (r p by w : ℕ) (past : List Event) → Seen' r p past → (t : Bool) → (by == p) ≡ t → Seen' r p (event_after c past by (Verb.Grant w) ∷ past)
seen_grant c r p by w past s true h = rw h (λ g e. let k : g ≤ fence_grant p past = s g e in omega arith)
seen_grant c r p by w past s false h = rw h s

seen_step : (c : Config) (r p by : ℕ) (v : Verb) (past : List Event) → Seen' r p past → Seen' r p (event_after c past by v ∷ past)
seen_step c r p by (Verb.Ask q) past s = seen_ask c r p by q past s (is_first_ask r by (Verb.Ask q)) refl
seen_step c r p by (Verb.Fence q) past s = seen_fence c r p by q past s (by == r) refl (q == p) refl
seen_step c r p by (Verb.Grant w) past s = seen_grant c r p by w past s (by == p) refl
seen_step c r p by v past s = s

pub seen_law : (c : Config) (r p : ℕ) (past : List Event) → IsLegalHistory c past → Seen' r p past
seen_law c r p = legal_induction c (Seen' r p) (λ g e. cc) (λ past by v h may s. seen_step c r p by v past s)

-- a test that passes is enough
pub second_passes : (t b : Bool) → b ≡ true → cond t true b ≡ true
second_passes true b h = refl
second_passes false b h = h

pub read_under_seen : (r p g : ℕ) (past : List Event) → min_read_under r p g past ≡ true → has (λ e. grant_seen r p g e.by e.verb e.answer) past ≡ true
read_under_seen r p g [] e = cc
read_under_seen r p g (e ∷ past) h =
    elim (or_cases (is_some (min_read r p e.by e.verb e.answer) && has (λ f. grant_seen r p g f.by f.verb f.answer) past) (min_read_under r p g past) h) [
      | inl k ↦ second_passes (grant_seen r p g e.by e.verb e.answer) (has (λ f. grant_seen r p g f.by f.verb f.answer) past) (and_parts (is_some (min_read r p e.by e.verb e.answer)) (has (λ f. grant_seen r p g f.by f.verb f.answer) past) k).1
      | inr k ↦ second_passes (grant_seen r p g e.by e.verb e.answer) (has (λ f. grant_seen r p g f.by f.verb f.answer) past) (read_under_seen r p g past k)
    ]

abbrev pub last_read : ℕ → ℕ → List Event → ℕ
last_read r p past = or_zero (newest (λ e. min_read r p e.by e.verb e.answer) past)

-- while r owns p under the grant with which it read the minimum, the minimum is what it read or put
abbrev pub MinKnown : ℕ → ℕ → List Event → Type 0
MinKnown r p past = (g : ℕ) → g ≡ fence_grant p past → fence_owner p past ≡ Some r → min_read_under r p g past ≡ true → region_min p past ≤ max (last_read r p past) (greatest_own_put r past)

known_ask : (c : Config) (r p by q : ℕ) (past : List Event) → MinKnown r p past → (t : Bool) → is_first_ask r by (Verb.Ask q) ≡ t → MinKnown r p (event_after c past by (Verb.Ask q) ∷ past)
known_ask c r p by q past s t h = s

known_min : (c : Config) (r p by q : ℕ) (past : List Event) → MinKnown r p past → (x : Bool) → (by == r) ≡ x → (y : Bool) → (q == p) ≡ y → MinKnown r p (event_after c past by (Verb.Min q) ∷ past)
known_min c r p by q past s true hx true hy = rw (hx, hy) (λ g e o m. let i : region_min q past ≡ region_min p past = ap (λ x. region_min x past) (eqb-true q p hy) in omega arith)
known_min c r p by q past s true hx false hy = rw (hx, hy) s
known_min c r p by q past s false hx y hy = rw hx s

pub one_owner : (r s : ℕ) (o : Option ℕ) → o ≡ Some r → o ≡ Some s → (s == r) ≡ false → ⊥
one_owner r s o e f h = eqb-false s r h (sym (same_some r s (sym e ∙ f)))

-- another can't land while r owns p
pub not_other : (c : Config) (r p by q b : ℕ) (past : List Event) → IsLegalHistory c past → Needs c by (part by past) (Verb.PutMin q b) → put_answer (drained by q past) ≡ Answer.Done → (by == r) ≡ false → (q == p) ≡ true → fence_owner p past ≡ Some r → ⊥
not_other c r p by q b past h may e hx hy o =
    let k = min_holds c by q b past h may e in
    one_owner r by (fence_owner p past) o (subst (λ z. fence_owner z past ≡ Some by) (eqb-true q p hy) k.by_owner) hx

known_put : (c : Config) (r p by q b : ℕ) (past : List Event) → IsLegalHistory c past → Needs c by (part by past) (Verb.PutMin q b) → MinKnown r p past
    → (a : Answer) → put_answer (drained by q past) ≡ a → (x : Bool) → (by == r) ≡ x → (y : Bool) → (q == p) ≡ y
    → MinKnown r p (record { by = by; verb = Verb.PutMin q b; answer = a } ∷ past)
known_put c r p by q b past h may s Answer.Done e true hx true hy = rw (hx, hy) (λ g e o m. omega arith)
known_put c r p by q b past h may s Answer.Done e true hx false hy = rw (hx, hy) (λ g e o m. let k = s g e o m in omega arith)
known_put c r p by q b past h may s Answer.Done e false hx true hy = rw (hx, hy) (λ g e' o m. absurd (not_other c r p by q b past h may e hx hy o))
known_put c r p by q b past h may s Answer.Done e false hx false hy = rw (hx, hy) s
known_put c r p by q b past h may s a e true hx y hy = rw hx (λ g e o m. let k = s g e o m in omega arith)
known_put c r p by q b past h may s a e false hx y hy = rw hx s

known_grant : (c : Config) (r p by w : ℕ) (past : List Event) → IsLegalHistory c past → MinKnown r p past → (t : Bool) → (by == p) ≡ t → MinKnown r p (event_after c past by (Verb.Grant w) ∷ past)
known_grant c r p by w past h s true k =
    rw k (λ g e o m. absurd (let n : g ≤ fence_grant p past = seen_law c r p past h g (read_under_seen r p g past m) in omega arith))
known_grant c r p by w past h s false k = rw k s

known_step : (c : Config) (r p by : ℕ) (v : Verb) (past : List Event) → IsLegalHistory c past → Needs c by (part by past) v → MinKnown r p past → MinKnown r p (event_after c past by v ∷ past)
known_step c r p by (Verb.Ask q) past h may s = known_ask c r p by q past s (is_first_ask r by (Verb.Ask q)) refl
known_step c r p by (Verb.Min q) past h may s = known_min c r p by q past s (by == r) refl (q == p) refl
known_step c r p by (Verb.PutMin q b) past h may s = known_put c r p by q b past h may s (put_answer (drained by q past)) refl (by == r) refl (q == p) refl
known_step c r p by (Verb.Grant w) past h may s = known_grant c r p by w past h s (by == p) refl
known_step c r p by v past h may s = s

pub min_known : (c : Config) (r p : ℕ) (past : List Event) → IsLegalHistory c past → MinKnown r p past
min_known c r p = legal_induction c (MinKnown r p) (λ g e o m. cc) (λ past by v h may s. known_step c r p by v past h may.may s)

min_read-own : (r p : ℕ) → IsOwn r (λ e. min_read r p e.by e.verb e.answer)
min_read-own r p = record { own = λ e h. go e.by e.verb e.answer h }
  where
    go : (by : ℕ) (v : Verb) (a : Answer) → (by == r) ≡ false → min_read r p by v a ≡ None
    go by (Verb.Min q) (Answer.Number x) h = rw h refl
    go by v a h = refl

pub grant_seen-own : (r p g : ℕ) → IsOwnTest r (λ e. grant_seen r p g e.by e.verb e.answer)
grant_seen-own r p g = record { own = λ e h. go e.by e.verb e.answer h }
  where
    go : (by : ℕ) (v : Verb) (a : Answer) → (by == r) ≡ false → grant_seen r p g by v a ≡ false
    go by (Verb.Fence q) (Answer.Seen f) h = rw h refl
    go by v a h = refl

last_read-part : (r p : ℕ) (past : List Event) → last_read r p (part r past) ≡ last_read r p past
last_read-part r p past = ap or_zero (newest-part (λ e. min_read r p e.by e.verb e.answer) r (min_read-own r p) past)

read_under-part : (r p g : ℕ) (past : List Event) → min_read_under r p g (part r past) ≡ min_read_under r p g past
read_under-part r p g [] = refl
read_under-part r p g (e ∷ past) = go (e.by == r) refl (read_under-part r p g past)
  where
    go : (t : Bool) → (e.by == r) ≡ t → min_read_under r p g (part r past) ≡ min_read_under r p g past → min_read_under r p g (cond t (e ∷ part r past) (part r past)) ≡ min_read_under r p g (e ∷ past)
    go true h ih =
        ap (λ x. (is_some (min_read r p e.by e.verb e.answer) && x) || min_read_under r p g (part r past)) (has-part (λ f. grant_seen r p g f.by f.verb f.answer) r (grant_seen-own r p g) past)
        ∙ ap (λ x. (is_some (min_read r p e.by e.verb e.answer) && has (λ f. grant_seen r p g f.by f.verb f.answer) past) || x) ih
    go false h ih = ih ∙ sym (ap (λ o. (is_some o && has (λ f. grant_seen r p g f.by f.verb f.answer) past) || min_read_under r p g past) ((min_read-own r p).own e h))

pub leadership-part : (r : ℕ) (past : List Event) → leadership r (part r past) ≡ part r (leadership r past)
leadership-part r past = since-part (begins_leadership r) r (begins-own r) past

since_under : (r p : ℕ) (past : List Event) (g : ℕ) (o : Option ℕ) → o ≡ Some g → min_read_since r p past o ≡ true → min_read_under r p g past ≡ true
since_under r p past g None e h = cc
since_under r p past g (Some x) e h = subst (λ z. min_read_under r p z past ≡ true) (same_some x g e) h

-- who enters for the minimum has read it under the grant
pub entered_read : (c : Config) (r p g : ℕ) (t : Target) (past : List Event) → MayEnter c r (part r past) p t → t ≡ Target.Min → noted_grant r p past ≡ Some g → min_read_under r p g past ≡ true
entered_read c r p g Target.None past may e n = absurd may.0
entered_read c r p g (Target.Place s) past may e n = cc
entered_read c r p g Target.Min past may e n =
    sym (read_under-part r p g past) ∙ since_under r p (part r past) g (noted_grant r p (part r past)) (noted-part r p past ∙ n) may.1.1.0

abbrev pub OpenMin : ℕ → ℕ → List Event → Type 0
OpenMin r p past = open_target r p past ≡ Some Target.Min → drained r p past ≡ false → region_min p past ≤ max (last_read r p past) (greatest_own_put r past)

open_ask : (c : Config) (r p by q : ℕ) (past : List Event) → OpenMin r p past → (t : Bool) → is_first_ask r by (Verb.Ask q) ≡ t → OpenMin r p (event_after c past by (Verb.Ask q) ∷ past)
open_ask c r p by q past s true h = rw h (λ e d. cc)
open_ask c r p by q past s false h = rw h s

open_min : (c : Config) (r p by q : ℕ) (past : List Event) → OpenMin r p past → (x : Bool) → (by == r) ≡ x → (y : Bool) → (q == p) ≡ y → OpenMin r p (event_after c past by (Verb.Min q) ∷ past)
open_min c r p by q past s true hx true hy = rw (hx, hy) (λ e d. let i : region_min q past ≡ region_min p past = ap (λ x. region_min x past) (eqb-true q p hy) in omega arith)
open_min c r p by q past s true hx false hy = rw (hx, hy) s
open_min c r p by q past s false hx y hy = rw hx s

open_drain : (c : Config) (r p by : ℕ) (past : List Event) → OpenMin r p past → (t : Bool) → (by == p) ≡ t → OpenMin r p (event_after c past by Verb.Drain ∷ past)
open_drain c r p by past s true h = rw h (λ e d. cc)
open_drain c r p by past s false h = rw h s

open_slot : (c : Config) (r p by q i b v : ℕ) (past : List Event) → OpenMin r p past → (t : Bool) → ((by == r) && (q == p)) ≡ t → OpenMin r p (event_after c past by (Verb.PutSlot q i b v) ∷ past)
open_slot c r p by q i b v past s true h = rw h (λ e d. cc)
open_slot c r p by q i b v past s false h = rw h s

open_put : (c : Config) (r p by q b : ℕ) (past : List Event) → IsLegalHistory c past → Needs c by (part by past) (Verb.PutMin q b) → OpenMin r p past
    → (a : Answer) → put_answer (drained by q past) ≡ a → (x : Bool) → (by == r) ≡ x → (y : Bool) → (q == p) ≡ y
    → OpenMin r p (record { by = by; verb = Verb.PutMin q b; answer = a } ∷ past)
open_put c r p by q b past h may s Answer.Done e true hx true hy = rw (hx, hy) (λ e d. cc)
open_put c r p by q b past h may s Answer.Done e true hx false hy = rw (hx, hy) (λ e d. let k = s e d in omega arith)
open_put c r p by q b past h may s Answer.Done e false hx true hy = rw (hx, hy) (λ e' d. absurd (not_other c r p by q b past h may e hx hy (opened_is_held c r p past h Target.Min e' refl d).by_owner))
open_put c r p by q b past h may s Answer.Done e false hx false hy = rw (hx, hy) s
open_put c r p by q b past h may s a e true hx true hy = rw (hx, hy) (λ e d. cc)
open_put c r p by q b past h may s a e true hx false hy = rw (hx, hy) (λ e d. let k = s e d in omega arith)
open_put c r p by q b past h may s a e false hx y hy = rw hx s

open_enter : (c : Config) (r p by q : ℕ) (t : Target) (past : List Event) → IsLegalHistory c past → MayEnter c by (part by past) q t → OpenMin r p past
    → (a : Answer) → entered_or_lost (noted_grant by q past) (fence q past) ≡ a → (x : Bool) → (by == r) ≡ x → (y : Bool) → (q == p) ≡ y
    → OpenMin r p (record { by = by; verb = Verb.Enter q t; answer = a } ∷ past)
open_enter c r p by q t past h may s Answer.Entered e true hx true hy =
    let at_p = subst (λ z. entered_or_lost (noted_grant by z past) (fence z past) ≡ Answer.Entered) (eqb-true q p hy) e in
    let at_r = subst (λ z. entered_or_lost (noted_grant z p past) (fence p past) ≡ Answer.Entered) (eqb-true by r hx) at_p in
    let may_p = subst (λ z. MayEnter c by (part by past) z t) (eqb-true q p hy) may in
    let may_r = subst (λ z. MayEnter c z (part z past) p t) (eqb-true by r hx) may_p in
    let k = entered_facts (noted_grant r p past) (fence p past) at_r in
    let o = entered_holds r p past (noted_grant_is_owned c r p past h) at_r in
    rw (hx, hy) (λ e' d. min_known c r p past h k.g (sym k.same) o.0 (entered_read c r p k.g t past may_r (same_some t Target.Min e') k.is))
open_enter c r p by q t past h may s Answer.Entered e true hx false hy = rw (hx, hy) s
open_enter c r p by q t past h may s Answer.Entered e false hx y hy = rw hx s
open_enter c r p by q t past h may s a e true hx true hy = rw (hx, hy) (λ e d. cc)
open_enter c r p by q t past h may s a e true hx false hy = rw (hx, hy) s
open_enter c r p by q t past h may s a e false hx y hy = rw hx s

open_step : (c : Config) (r p by : ℕ) (v : Verb) (past : List Event) → IsLegalHistory c past → Needs c by (part by past) v → OpenMin r p past → OpenMin r p (event_after c past by v ∷ past)
open_step c r p by (Verb.Ask q) past h may s = open_ask c r p by q past s (is_first_ask r by (Verb.Ask q)) refl
open_step c r p by (Verb.Min q) past h may s = open_min c r p by q past s (by == r) refl (q == p) refl
open_step c r p by (Verb.Enter q t) past h may s = open_enter c r p by q t past h may.1 s (entered_or_lost (noted_grant by q past) (fence q past)) refl (by == r) refl (q == p) refl
open_step c r p by (Verb.PutMin q b) past h may s = open_put c r p by q b past h may s (put_answer (drained by q past)) refl (by == r) refl (q == p) refl
open_step c r p by (Verb.PutSlot q i b v) past h may s = open_slot c r p by q i b v past s ((by == r) && (q == p)) refl
open_step c r p by Verb.Drain past h may s = open_drain c r p by past s (by == p) refl
open_step c r p by v past h may s = s

pub open_min_law : (c : Config) (r p : ℕ) (past : List Event) → IsLegalHistory c past → OpenMin r p past
open_min_law c r p = legal_induction c (OpenMin r p) (λ e d. cc) (λ past by v h may s. open_step c r p by v past h may.may s)

-- a minimum that lands is at least the one before
pub min_lands : (c : Config) (r p b : ℕ) (past : List Event) → IsLegalHistory c past → Needs c r (part r past) (Verb.PutMin p b) → put_answer (drained r p past) ≡ Answer.Done → region_min p past ≤ b
min_lands c r p b past h may e =
    let k = open_min_law c r p past h (sym (open_target-part r p past) ∙ (min_facts c r (part r past) p b may).entered) (put_done_undrained (drained r p past) e) in
    let t = top_below c r p b past h (min_facts c r (part r past) p b may) in
    let l : last_read r p past ≤ b = rw (← last_read-part r p past) (min_facts c r (part r past) p b may).read in
    omega arith

rises_put : (c : Config) (p by q b m : ℕ) (past : List Event) → IsLegalHistory c past → Needs c by (part by past) (Verb.PutMin q b) → m ≤ region_min p past
    → (a : Answer) → put_answer (drained by q past) ≡ a → (y : Bool) → (q == p) ≡ y
    → m ≤ region_min p (record { by = by; verb = Verb.PutMin q b; answer = a } ∷ past)
rises_put c p by q b m past h may s Answer.Done e true hy =
    let k = min_lands c by q b past h may e in let i : region_min q past ≡ region_min p past = ap (λ x. region_min x past) (eqb-true q p hy) in rw hy (omega arith)
rises_put c p by q b m past h may s Answer.Done e false hy = rw hy s
rises_put c p by q b m past h may s a e y hy = s

pub rises_step : (c : Config) (p by m : ℕ) (v : Verb) (past : List Event) → IsLegalHistory c past → Needs c by (part by past) v → m ≤ region_min p past → m ≤ region_min p (event_after c past by v ∷ past)
rises_step c p by m (Verb.PutMin q b) past h may s = rises_put c p by q b m past h may s (put_answer (drained by q past)) refl (q == p) refl
rises_step c p by m v past h may s = s

pub rises : (c : Config) (p : ℕ) (newer older : List Event) → IsLegalHistory c (newer ++ older) → region_min p older ≤ region_min p (newer ++ older)
rises c p newer older h = legal_onward c (λ past. region_min p older ≤ region_min p past) older (omega arith) (λ past by v h may s. rises_step c p by (region_min p older) v past h may.may s) newer h

rises_along : (c : Config) (p : ℕ) (newer older all : List Event) → all ≡ newer ++ older → IsLegalHistory c all → region_min p older ≤ region_min p all
rises_along c p newer older all e = rw e (rises c p newer older)

pub minimum_rises_law : MinimumRises
minimum_rises_law c earlier later p = rises_along c p (reverse later) (reverse earlier) (reverse (earlier ++ later)) (reverse-append earlier later)
