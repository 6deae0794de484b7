-- While a leader that isn't over writes a member, the member's minimum is the leader's number.
use Rattle.std.proofs.Common.{◌≡◌, ℕ, ◌%◌, ◌≤◌, Bool, true, false, cond, ◌&&◌, ◌||◌, not, ◌==◌, List, [], ◌∷◌, refl, sym, ◌∙◌, ap, arith, Some, None, subst, eqb-true, true≢false}
use Rattle.std.specs.declared.option.Option.{Option}
use Rattle.std.specs.Prelude.{if◌then◌else◌, is_some}
use Rattle.std.proofs.lemmas.Bool.{or_parts}
use Rattle.mu_model.specs.declared.config.Config.{Config}
use Rattle.mu_model.specs.declared.event.Event.{Event}
use Rattle.mu_model.specs.declared.event.Fence.{Fence}
use Rattle.mu_model.specs.declared.event.Target.{Target}
use Rattle.mu_model.specs.declared.event.Verb.{Verb}
use Rattle.mu_model.specs.declared.event.Answer.{Answer}
use Rattle.mu_model.specs.Allowed.{Needs}
use Rattle.mu_model.specs.Answers.{drained, entered_or_lost, put_answer}
use Rattle.mu_model.specs.Entering.{open_target}
use Rattle.mu_model.specs.Histories.{earlier_or, newer_or, part}
use Rattle.mu_model.specs.Leaderships.{begins_leadership, ends_leadership, grant_at_joining, grant_for, is_above, is_changed, is_first_ask, is_member, is_over, lands_min, noted_grant, owner_is, proposal_number}
use Rattle.mu_model.specs.Legal.{IsLegalHistory}
use Rattle.mu_model.specs.Regions.{fence, fence_grant, fence_owner, region_min}
use Rattle.mu_model.specs.Serving.{has_target}
use Rattle.mu_agree.proofs.Entering.{slot_entered}
use Rattle.mu_agree.proofs.Legal.{event_after, legal_induction}
use Rattle.mu_agree.proofs.Numbers.{number-part}
use Rattle.mu_agree.proofs.Access.{opened_is_held, min_holds, put_done_undrained, entered_facts, open_target-part, grant_needs, not_granted, no_target}
use Rattle.mu_agree.proofs.Minimum.{first_by, not_other}
use Rattle.mu_model.proofs.Basics.{same_some}
use Rattle.mu_model.proofs.Owned.{begins-own, noted-part}
use Rattle.mu_model.proofs.Putting.{MayEnter, min_facts, put_facts}

lands_min-own : (r p by : ℕ) (v : Verb) (a : Answer) → (by == r) ≡ false → lands_min r p by v a ≡ false
lands_min-own r p by (Verb.PutMin q b) Answer.Done h = rw h refl
lands_min-own r p by v a h = refl

pub joined_under-part : (r p : ℕ) (past : List Event) → grant_at_joining r p (part r past) ≡ grant_at_joining r p past
joined_under-part r p [] = refl
joined_under-part r p (e ∷ past) = go (e.by == r) refl (joined_under-part r p past)
  where
    go : (t : Bool) → (e.by == r) ≡ t → grant_at_joining r p (part r past) ≡ grant_at_joining r p past → grant_at_joining r p (cond t (e ∷ part r past) (part r past)) ≡ grant_at_joining r p (e ∷ past)
    go true h ih =
        ap (λ x. cond (begins_leadership r e) None (cond (lands_min r p e.by e.verb e.answer) (newer_or x (Some (noted_grant r p (part r past)))) x)) ih
        ∙ ap (λ n. cond (begins_leadership r e) None (cond (lands_min r p e.by e.verb e.answer) (newer_or (grant_at_joining r p past) (Some n)) (grant_at_joining r p past))) (noted-part r p past)
    go false h ih = ih ∙ sym (rw ((begins-own r).own e h, lands_min-own r p e.by e.verb e.answer h) refl)

ends-own : (r by : ℕ) (v : Verb) (a : Answer) (past : List Event) → (by == r) ≡ false → ends_leadership r past by v a ≡ false
ends-own r by (Verb.Enter p t) (Answer.Lost f) past h = h
ends-own r by (Verb.PutMin p b) Answer.Missed past h = h
ends-own r by (Verb.PutSlot p i b v) Answer.Missed past h = h
ends-own r by (Verb.Min p) (Answer.Number x) past h = rw h refl
ends-own r by (Verb.Fence p) (Answer.Seen f) past h = rw h refl
ends-own r by v a past h = refl

ends-part : (r by : ℕ) (v : Verb) (a : Answer) (past : List Event) → ends_leadership r (part r past) by v a ≡ ends_leadership r past by v a
ends-part r by (Verb.Min p) (Answer.Number x) past = ap (λ n. (by == r) && is_above n x) (number-part r past)
ends-part r by (Verb.Fence p) (Answer.Seen f) past = ap (λ j. (by == r) && is_changed j f) (joined_under-part r p past)
ends-part r by (Verb.Enter p t) (Answer.Lost f) past = refl
ends-part r by (Verb.PutMin p b) Answer.Missed past = refl
ends-part r by (Verb.PutSlot p i b v) Answer.Missed past = refl
ends-part r by v a past = refl

pub over-part : (r : ℕ) (past : List Event) → is_over r (part r past) ≡ is_over r past
over-part r [] = refl
over-part r (e ∷ past) = go (e.by == r) refl (over-part r past)
  where
    go : (t : Bool) → (e.by == r) ≡ t → is_over r (part r past) ≡ is_over r past → is_over r (cond t (e ∷ part r past) (part r past)) ≡ is_over r (e ∷ past)
    go true h ih =
        ap (λ x. cond (begins_leadership r e) false (x || is_over r (part r past))) (ends-part r e.by e.verb e.answer past)
        ∙ ap (λ x. cond (begins_leadership r e) false (ends_leadership r past e.by e.verb e.answer || x)) ih
    go false h ih = ih ∙ sym (rw ((begins-own r).own e h, ends-own r e.by e.verb e.answer past h) refl)

-- the grant under which p became a member
abbrev pub join_grant : ℕ → ℕ → List Event → Option ℕ
join_grant r p [] = None
join_grant r p (e ∷ past) =
    cond (begins_leadership r e) None (cond (lands_min r p e.by e.verb e.answer) (newer_or (join_grant r p past) (Some (fence_grant p past))) (join_grant r p past))

-- while that grant stands, r is the owner and the minimum is its number
abbrev pub JoinedIs : ℕ → Option ℕ → ℕ → Option ℕ → Option ℕ → ℕ → Type 0
JoinedIs r joined grant owner num least = (g : ℕ) → joined ≡ Some g → (g ≤ grant) × (g ≡ grant → (owner ≡ Some r) × (num ≡ Some least))

abbrev pub Joining : ℕ → ℕ → List Event → Type 0
Joining r p past = JoinedIs r (join_grant r p past) (fence_grant p past) (fence_owner p past) (proposal_number r past) (region_min p past)

joining_ask : (c : Config) (r p by q : ℕ) (past : List Event) → Joining r p past → (t : Bool) → is_first_ask r by (Verb.Ask q) ≡ t → Joining r p (event_after c past by (Verb.Ask q) ∷ past)
joining_ask c r p by q past s true h = rw h (λ g e. cc)
joining_ask c r p by q past s false h = rw h s

joining_grant : (c : Config) (r p by w : ℕ) (past : List Event) → Joining r p past → (t : Bool) → (by == p) ≡ t → Joining r p (event_after c past by (Verb.Grant w) ∷ past)
joining_grant c r p by w past s true h = rw h (λ g e. (omega (arith, (s g e).0), λ k. absurd (omega (arith, (s g e).0))))
joining_grant c r p by w past s false h = rw h s

pub number_with : (b : ℕ) (o : Option ℕ) → ((m : ℕ) → o ≡ Some m → b ≡ m) → earlier_or (Some b) o ≡ Some b
number_with b None f = refl
number_with b (Some x) f = ap Some (sym (f x refl))

pub number_stays : (b m : ℕ) (o : Option ℕ) → o ≡ Some m → earlier_or (Some b) o ≡ Some m
number_stays b m None e = cc
number_stays b m (Some x) e = e

joined_lands : (r b grant : ℕ) (owner num old : Option ℕ) (least : ℕ) (joined : Option ℕ) → owner ≡ Some r → num ≡ Some b → JoinedIs r joined grant owner old least → JoinedIs r (newer_or joined (Some grant)) grant owner num b
joined_lands r b grant owner num old least None o n s g e = let k : grant ≡ g = same_some grant g e in (omega arith, λ _. (o, n))
joined_lands r b grant owner num old least (Some x) o n s g e = ((s g e).0, λ _. (o, n))

owner_lands : (c : Config) (r p by q b : ℕ) (past : List Event) → IsLegalHistory c past → Needs c by (part by past) (Verb.PutMin q b) → put_answer (drained by q past) ≡ Answer.Done → (by == r) ≡ true → (q == p) ≡ true → fence_owner p past ≡ Some r
owner_lands c r p by q b past h may e hx hy =
    subst (λ z. fence_owner z past ≡ Some r) (eqb-true q p hy) ((min_holds c by q b past h may e).by_owner ∙ ap Some (eqb-true by r hx))

joining_put : (c : Config) (r p by q b : ℕ) (past : List Event) → IsLegalHistory c past → Needs c by (part by past) (Verb.PutMin q b) → Joining r p past
    → (a : Answer) → put_answer (drained by q past) ≡ a → (x : Bool) → (by == r) ≡ x → (y : Bool) → (q == p) ≡ y
    → Joining r p (record { by = by; verb = Verb.PutMin q b; answer = a } ∷ past)
joining_put c r p by q b past h may s Answer.Done e true hx true hy = rw (hx, hy) (joined_lands r b (fence_grant p past) (fence_owner p past) (earlier_or (Some b) (proposal_number r past)) (proposal_number r past) (region_min p past) (join_grant r p past) (owner_lands c r p by q b past h may e hx hy) (number_with b (proposal_number r past) (first_by r by q b past (min_facts c by (part by past) q b may) hx)) s)
joining_put c r p by q b past h may s Answer.Done e true hx false hy = rw (hx, hy) (λ g k. ((s g k).0, λ i. (((s g k).1 i).0, number_stays b (region_min p past) (proposal_number r past) ((s g k).1 i).1)))
joining_put c r p by q b past h may s Answer.Done e false hx true hy = rw (hx, hy) (λ g k. ((s g k).0, λ i. absurd (not_other c r p by q b past h may e hx hy ((s g k).1 i).0)))
joining_put c r p by q b past h may s Answer.Done e false hx false hy = rw (hx, hy) s
joining_put c r p by q b past h may s a e true hx y hy = rw hx (λ g k. ((s g k).0, λ i. (((s g k).1 i).0, number_stays b (region_min p past) (proposal_number r past) ((s g k).1 i).1)))
joining_put c r p by q b past h may s a e false hx y hy = rw hx s

joining_step : (c : Config) (r p by : ℕ) (v : Verb) (past : List Event) → IsLegalHistory c past → Needs c by (part by past) v → Joining r p past → Joining r p (event_after c past by v ∷ past)
joining_step c r p by (Verb.Ask q) past h may s = joining_ask c r p by q past s (is_first_ask r by (Verb.Ask q)) refl
joining_step c r p by (Verb.PutMin q b) past h may s = joining_put c r p by q b past h may s (put_answer (drained by q past)) refl (by == r) refl (q == p) refl
joining_step c r p by (Verb.Grant w) past h may s = joining_grant c r p by w past s (by == p) refl
joining_step c r p by v past h may s = s

pub joining : (c : Config) (r p : ℕ) (past : List Event) → IsLegalHistory c past → Joining r p past
joining c r p = legal_induction c (Joining r p) (λ g e. cc) (λ past by v h may s. joining_step c r p by v past h may.may s)

-- while an `Enter` is open, the noted grant is the one that stands
abbrev pub OpenNoted : ℕ → ℕ → List Event → Type 0
OpenNoted r p past = (t : Target) (g : ℕ) → open_target r p past ≡ Some t → has_target t ≡ true → drained r p past ≡ false → noted_grant r p past ≡ Some g → g ≡ fence_grant p past

note_ask : (c : Config) (r p by q : ℕ) (past : List Event) → OpenNoted r p past → (t : Bool) → is_first_ask r by (Verb.Ask q) ≡ t → OpenNoted r p (event_after c past by (Verb.Ask q) ∷ past)
note_ask c r p by q past s true h = rw h (λ t g e. cc)
note_ask c r p by q past s false h = rw h s

seen_grant : (r g : ℕ) (f : Fence) → grant_for r (Some f) ≡ Some g → g ≡ f.grant
seen_grant r g f e = go (not f.closing && owner_is r f.owner) e
  where
    go : (t : Bool) → cond t (Some f.grant) None ≡ Some g → g ≡ f.grant
    go true e = sym (same_some f.grant g e)
    go false e = cc

note_fence : (c : Config) (r p by q : ℕ) (past : List Event) → OpenNoted r p past → (x : Bool) → (by == r) ≡ x → (y : Bool) → (q == p) ≡ y → OpenNoted r p (event_after c past by (Verb.Fence q) ∷ past)
note_fence c r p by q past s true hx true hy = rw (hx, hy) (λ t g e f d n. seen_grant r g (fence q past) n ∙ ap (λ z. fence_grant z past) (eqb-true q p hy))
note_fence c r p by q past s true hx false hy = rw (hx, hy) s
note_fence c r p by q past s false hx y hy = rw hx s

note_put_min : (c : Config) (r p by q b : ℕ) (past : List Event) → OpenNoted r p past → (t : Bool) → ((by == r) && (q == p)) ≡ t → OpenNoted r p (event_after c past by (Verb.PutMin q b) ∷ past)
note_put_min c r p by q b past s true h = rw h (λ t g e f. absurd (no_target t e f))
note_put_min c r p by q b past s false h = rw h s

note_put_slot : (c : Config) (r p by q i b v : ℕ) (past : List Event) → OpenNoted r p past → (t : Bool) → ((by == r) && (q == p)) ≡ t → OpenNoted r p (event_after c past by (Verb.PutSlot q i b v) ∷ past)
note_put_slot c r p by q i b v past s true h = rw h (λ t g e f. absurd (no_target t e f))
note_put_slot c r p by q i b v past s false h = rw h s

note_drain : (c : Config) (r p by : ℕ) (past : List Event) → OpenNoted r p past → (t : Bool) → (by == p) ≡ t → OpenNoted r p (event_after c past by Verb.Drain ∷ past)
note_drain c r p by past s true h = rw h (λ t g e f d. cc)
note_drain c r p by past s false h = rw h s

note_grant : (c : Config) (r p by w : ℕ) (past : List Event) → IsLegalHistory c past → Needs c by (part by past) (Verb.Grant w) → OpenNoted r p past → (t : Bool) → (by == p) ≡ t → OpenNoted r p (event_after c past by (Verb.Grant w) ∷ past)
note_grant c r p by w past h may s true k =
    rw k (λ t g e f d n. absurd (not_granted p r past (opened_is_held c r p past h t e f d) (grant_needs c p w past (subst (λ x. Needs c x (part x past) (Verb.Grant w)) (eqb-true by p k) may))))
note_grant c r p by w past h may s false k = rw k s

note_enter : (r p by q : ℕ) (t : Target) (past : List Event) → OpenNoted r p past
    → (a : Answer) → entered_or_lost (noted_grant by q past) (fence q past) ≡ a → (x : Bool) → (by == r) ≡ x → (y : Bool) → (q == p) ≡ y
    → OpenNoted r p (record { by = by; verb = Verb.Enter q t; answer = a } ∷ past)
note_enter r p by q t past s Answer.Entered e true hx true hy =
    let at_p = subst (λ z. entered_or_lost (noted_grant by z past) (fence z past) ≡ Answer.Entered) (eqb-true q p hy) e in
    let at_r = subst (λ z. entered_or_lost (noted_grant z p past) (fence p past) ≡ Answer.Entered) (eqb-true by r hx) at_p in
    let k = entered_facts (noted_grant r p past) (fence p past) at_r in
    rw (hx, hy) (λ t' g e' f d n. same_some g k.g (sym n ∙ k.is) ∙ sym k.same)
note_enter r p by q t past s Answer.Entered e true hx false hy = rw (hx, hy) s
note_enter r p by q t past s Answer.Entered e false hx y hy = rw hx s
note_enter r p by q t past s a e true hx true hy = rw (hx, hy) (λ t' g e' f. absurd (no_target t' e' f))
note_enter r p by q t past s a e true hx false hy = rw (hx, hy) s
note_enter r p by q t past s a e false hx y hy = rw hx s

note_step : (c : Config) (r p by : ℕ) (v : Verb) (past : List Event) → IsLegalHistory c past → Needs c by (part by past) v → OpenNoted r p past → OpenNoted r p (event_after c past by v ∷ past)
note_step c r p by (Verb.Ask q) past h may s = note_ask c r p by q past s (is_first_ask r by (Verb.Ask q)) refl
note_step c r p by (Verb.Fence q) past h may s = note_fence c r p by q past s (by == r) refl (q == p) refl
note_step c r p by (Verb.Enter q t) past h may s = note_enter r p by q t past s (entered_or_lost (noted_grant by q past) (fence q past)) refl (by == r) refl (q == p) refl
note_step c r p by (Verb.PutMin q b) past h may s = note_put_min c r p by q b past s ((by == r) && (q == p)) refl
note_step c r p by (Verb.PutSlot q i b v) past h may s = note_put_slot c r p by q i b v past s ((by == r) && (q == p)) refl
note_step c r p by Verb.Drain past h may s = note_drain c r p by past s (by == p) refl
note_step c r p by (Verb.Grant w) past h may s = note_grant c r p by w past h may s (by == p) refl
note_step c r p by v past h may s = s

pub open_noted : (c : Config) (r p : ℕ) (past : List Event) → IsLegalHistory c past → OpenNoted r p past
open_noted c r p = legal_induction c (OpenNoted r p) (λ t g e. cc) (λ past by v h may s. note_step c r p by v past h may.may s)

-- what was noted at a joining, if it is a grant, is the grant of the joining; and if nothing is told
-- of a joining, there was none
pub record JoinPair (o : Option (Option ℕ)) (j : Option ℕ) : Type 0 where
  pub is : (g : ℕ) → o ≡ Some (Some g) → j ≡ Some g
  pub none : o ≡ None → j ≡ None

-- what r noted when p joined its leadership is the grant under which p joined
abbrev pub JoinNoted : ℕ → ℕ → List Event → Type 0
JoinNoted r p past = JoinPair (grant_at_joining r p past) (join_grant r p past)

-- before a joining nothing is told of one
pair_none : JoinPair None None
pair_none = record { is = λ g e. cc; none = λ e. refl }

-- a put by which a region joins keeps the pair, if what is noted then is the region's grant
pair_lands : (grant : ℕ) (n : Option ℕ) (o : Option (Option ℕ)) (j : Option ℕ) → ((g : ℕ) → n ≡ Some g → g ≡ grant) → JoinPair o j → JoinPair (newer_or o (Some n)) (newer_or j (Some grant))
pair_lands grant n None None f s = record { is = λ g e. ap Some (sym (f g (same_some n (Some g) e))); none = λ e. cc }
pair_lands grant n None (Some x) f s = absurd (let e : Some x ≡ None = s.none refl in cc)
pair_lands grant n (Some o) None f s = record { is = λ g e. (let k : None ≡ Some g = s.is g e in cc); none = λ e. cc }
pair_lands grant n (Some o) (Some x) f s = record { is = s.is; none = λ e. cc }

-- an ask keeps the pair: one that begins a leadership forgets what joined before
pair_ask : (c : Config) (r p by q : ℕ) (past : List Event) → JoinNoted r p past → (t : Bool) → is_first_ask r by (Verb.Ask q) ≡ t → JoinNoted r p (event_after c past by (Verb.Ask q) ∷ past)
pair_ask c r p by q past s true h = rw h pair_none
pair_ask c r p by q past s false h = rw h s

-- when a number of r lands at p, what r has noted of p is the grant of p
lands_noted : (c : Config) (r p by q b : ℕ) (past : List Event) → IsLegalHistory c past → Needs c by (part by past) (Verb.PutMin q b) → put_answer (drained by q past) ≡ Answer.Done → (by == r) ≡ true → (q == p) ≡ true → (g : ℕ) → noted_grant r p past ≡ Some g → g ≡ fence_grant p past
lands_noted c r p by q b past h may e hx hy g n =
    let at_r = subst (λ z. Needs c z (part z past) (Verb.PutMin q b)) (eqb-true by r hx) may in
    let at_p = subst (λ z. Needs c r (part r past) (Verb.PutMin z b)) (eqb-true q p hy) at_r in
    let d = subst (λ z. drained r z past ≡ false) (eqb-true q p hy) (subst (λ z. drained z q past ≡ false) (eqb-true by r hx) (put_done_undrained (drained by q past) e)) in
    open_noted c r p past h Target.Min g (sym (open_target-part r p past) ∙ at_p.1.1.0) refl d n

-- a put of a number keeps the pair
pair_put : (c : Config) (r p by q b : ℕ) (past : List Event) → IsLegalHistory c past → Needs c by (part by past) (Verb.PutMin q b) → JoinNoted r p past
    → (a : Answer) → put_answer (drained by q past) ≡ a → (x : Bool) → (by == r) ≡ x → (y : Bool) → (q == p) ≡ y
    → JoinNoted r p (record { by = by; verb = Verb.PutMin q b; answer = a } ∷ past)
pair_put c r p by q b past h may s Answer.Done e true hx true hy =
    rw (hx, hy) (pair_lands (fence_grant p past) (noted_grant r p past) (grant_at_joining r p past) (join_grant r p past) (lands_noted c r p by q b past h may e hx hy) s)
pair_put c r p by q b past h may s Answer.Done e true hx false hy = rw (hx, hy) s
pair_put c r p by q b past h may s Answer.Done e false hx y hy = rw hx s
pair_put c r p by q b past h may s a e x hx y hy = s

-- each step keeps the pair
pair_step : (c : Config) (r p by : ℕ) (v : Verb) (past : List Event) → IsLegalHistory c past → Needs c by (part by past) v → JoinNoted r p past → JoinNoted r p (event_after c past by v ∷ past)
pair_step c r p by (Verb.Ask q) past h may s = pair_ask c r p by q past s (is_first_ask r by (Verb.Ask q)) refl
pair_step c r p by (Verb.PutMin q b) past h may s = pair_put c r p by q b past h may s (put_answer (drained by q past)) refl (by == r) refl (q == p) refl
pair_step c r p by v past h may s = s

-- in a legal history what r noted when p joined is the grant under which p joined
pub join_noted : (c : Config) (r p : ℕ) (past : List Event) → IsLegalHistory c past → JoinNoted r p past
join_noted c r p = legal_induction c (JoinNoted r p) pair_none (λ past by v h may s. pair_step c r p by v past h may.may s)

-- until the leadership is over, what is noted of a member is what was noted when it joined
abbrev pub StaysNoted : ℕ → ℕ → List Event → Type 0
StaysNoted r p past = (o : Option ℕ) (g : ℕ) → is_over r past ≡ false → grant_at_joining r p past ≡ Some o → noted_grant r p past ≡ Some g → o ≡ Some g

stays_ask : (c : Config) (r p by q : ℕ) (past : List Event) → StaysNoted r p past → (t : Bool) → is_first_ask r by (Verb.Ask q) ≡ t → StaysNoted r p (event_after c past by (Verb.Ask q) ∷ past)
stays_ask c r p by q past s true h = rw h (λ o g v j. cc)
stays_ask c r p by q past s false h = rw h s

unchanged : (o : Option ℕ) (j : Option (Option ℕ)) (f : Fence) (g : ℕ) → j ≡ Some o → is_changed j f ≡ false → g ≡ f.grant → o ≡ Some g
unchanged o None f g e h k = cc
unchanged o (Some None) f g e h k = cc
unchanged o (Some (Some x)) f g e h k = sym (same_some (Some x) o e) ∙ ap Some (sym (eqb-true f.grant x (not_not (f.grant == x) (or_parts f.closing (not (f.grant == x)) h).1)) ∙ sym k)
  where
    not_not : (t : Bool) → not t ≡ false → t ≡ true
    not_not true e = refl
    not_not false e = cc

stays_fence : (c : Config) (r p by q : ℕ) (past : List Event) → StaysNoted r p past → (x : Bool) → (by == r) ≡ x → (y : Bool) → (q == p) ≡ y → StaysNoted r p (event_after c past by (Verb.Fence q) ∷ past)
stays_fence c r p by q past s true hx true hy =
    rw (hx, hy) (λ o g v j n.
    unchanged o (grant_at_joining r q past) (fence q past) g (ap (λ z. grant_at_joining r z past) (eqb-true q p hy) ∙ j) (or_parts (is_changed (grant_at_joining r q past) (fence q past)) (is_over r past) v).0 (seen_grant r g (fence q past) n))
stays_fence c r p by q past s true hx false hy = rw (hx, hy) (λ o g v j n. s o g (or_parts (is_changed (grant_at_joining r q past) (fence q past)) (is_over r past) v).1 j n)
stays_fence c r p by q past s false hx y hy = rw hx s

stays_lands : (n : Option ℕ) (j : Option (Option ℕ)) (o : Option ℕ) (g : ℕ) → ((o : Option ℕ) → j ≡ Some o → o ≡ Some g) → newer_or j (Some n) ≡ Some o → n ≡ Some g → o ≡ Some g
stays_lands n None o g f e k = sym (same_some n o e) ∙ k
stays_lands n (Some x) o g f e k = f o e

stays_put : (r p by q b : ℕ) (past : List Event) → StaysNoted r p past → (a : Answer) → (x : Bool) → (by == r) ≡ x → (y : Bool) → (q == p) ≡ y → StaysNoted r p (record { by = by; verb = Verb.PutMin q b; answer = a } ∷ past)
stays_put r p by q b past s Answer.Done true hx true hy = rw (hx, hy) (λ o g v j n. stays_lands (noted_grant r p past) (grant_at_joining r p past) o g (λ o' j'. s o' g v j' n) j n)
stays_put r p by q b past s Answer.Done true hx false hy = rw (hx, hy) s
stays_put r p by q b past s Answer.Done false hx y hy = rw hx s
stays_put r p by q b past s Answer.Missed true hx y hy = rw hx (λ o g v. cc)
stays_put r p by q b past s Answer.Missed false hx y hy = rw hx s
stays_put r p by q b past s a x hx y hy = s

stays_slot : (r p by q i b v : ℕ) (past : List Event) → StaysNoted r p past → (a : Answer) → StaysNoted r p (record { by = by; verb = Verb.PutSlot q i b v; answer = a } ∷ past)
stays_slot r p by q i b v past s Answer.Missed = λ o g w j n. s o g (or_parts (by == r) (is_over r past) w).1 j n
stays_slot r p by q i b v past s a = s

stays_enter : (r p by q : ℕ) (t : Target) (past : List Event) → StaysNoted r p past → (a : Answer) → StaysNoted r p (record { by = by; verb = Verb.Enter q t; answer = a } ∷ past)
stays_enter r p by q t past s (Answer.Lost f) = λ o g w j n. s o g (or_parts (by == r) (is_over r past) w).1 j n
stays_enter r p by q t past s a = s

stays_step : (c : Config) (r p by : ℕ) (v : Verb) (past : List Event) → StaysNoted r p past → StaysNoted r p (event_after c past by v ∷ past)
stays_step c r p by (Verb.Ask q) past s = stays_ask c r p by q past s (is_first_ask r by (Verb.Ask q)) refl
stays_step c r p by (Verb.Fence q) past s = stays_fence c r p by q past s (by == r) refl (q == p) refl
stays_step c r p by (Verb.Min q) past s = λ o g w j n. s o g (or_parts ((by == r) && is_above (proposal_number r past) (region_min q past)) (is_over r past) w).1 j n
stays_step c r p by (Verb.Enter q t) past s = stays_enter r p by q t past s (entered_or_lost (noted_grant by q past) (fence q past))
stays_step c r p by (Verb.PutMin q b) past s = stays_put r p by q b past s (put_answer (drained by q past)) (by == r) refl (q == p) refl
stays_step c r p by (Verb.PutSlot q i b v) past s = stays_slot r p by q i b v past s (put_answer (drained by q past))
stays_step c r p by v past s = s

pub stays_noted : (c : Config) (r p : ℕ) (past : List Event) → IsLegalHistory c past → StaysNoted r p past
stays_noted c r p = legal_induction c (StaysNoted r p) (λ o g v j. cc) (λ past by v h may s. stays_step c r p by v past s)

-- a member of a leadership that isn't over, while the noted grant stands, has the leadership's number as its minimum
member_least : (c : Config) (r p g : ℕ) (past : List Event) (o : Option (Option ℕ)) → IsLegalHistory c past → grant_at_joining r p past ≡ o → is_some o ≡ true → is_over r past ≡ false → noted_grant r p past ≡ Some g → g ≡ fence_grant p past → proposal_number r past ≡ Some (region_min p past)
member_least c r p g past None h e m v n k = cc
member_least c r p g past (Some o) h e m v n k =
    let i = stays_noted c r p past h o g v e n in
    let j = (join_noted c r p past h).is g (e ∙ ap Some i) in
    ((joining c r p past h g j).1 k).1

-- who writes a member's places under an open `Enter` has its minimum as number
abbrev pub OpenPlace : ℕ → ℕ → List Event → Type 0
OpenPlace r p past = (s : ℕ) → open_target r p past ≡ Some (Target.Place s) → drained r p past ≡ false → proposal_number r past ≡ Some (region_min p past)

place_ask : (c : Config) (r p by q : ℕ) (past : List Event) → OpenPlace r p past → (t : Bool) → is_first_ask r by (Verb.Ask q) ≡ t → OpenPlace r p (event_after c past by (Verb.Ask q) ∷ past)
place_ask c r p by q past s true h = rw h (λ t e. cc)
place_ask c r p by q past s false h = rw h s

place_put_slot : (c : Config) (r p by q i b v : ℕ) (past : List Event) → OpenPlace r p past → (t : Bool) → ((by == r) && (q == p)) ≡ t → OpenPlace r p (event_after c past by (Verb.PutSlot q i b v) ∷ past)
place_put_slot c r p by q i b v past s true h = rw h (λ t e. cc)
place_put_slot c r p by q i b v past s false h = rw h s

place_drain : (c : Config) (r p by : ℕ) (past : List Event) → OpenPlace r p past → (t : Bool) → (by == p) ≡ t → OpenPlace r p (event_after c past by Verb.Drain ∷ past)
place_drain c r p by past s true h = rw h (λ t e d. cc)
place_drain c r p by past s false h = rw h s

place_put : (c : Config) (r p by q b : ℕ) (past : List Event) → IsLegalHistory c past → Needs c by (part by past) (Verb.PutMin q b) → OpenPlace r p past
    → (a : Answer) → put_answer (drained by q past) ≡ a → (x : Bool) → (by == r) ≡ x → (y : Bool) → (q == p) ≡ y
    → OpenPlace r p (record { by = by; verb = Verb.PutMin q b; answer = a } ∷ past)
place_put c r p by q b past h may s Answer.Done e true hx true hy = rw (hx, hy) (λ t e d. cc)
place_put c r p by q b past h may s Answer.Done e true hx false hy = rw (hx, hy) (λ t e d. number_stays b (region_min p past) (proposal_number r past) (s t e d))
place_put c r p by q b past h may s Answer.Done e false hx true hy = rw (hx, hy) (λ t e' d. absurd (not_other c r p by q b past h may e hx hy (opened_is_held c r p past h (Target.Place t) e' refl d).by_owner))
place_put c r p by q b past h may s Answer.Done e false hx false hy = rw (hx, hy) s
place_put c r p by q b past h may s a e true hx true hy = rw (hx, hy) (λ t e d. cc)
place_put c r p by q b past h may s a e true hx false hy = rw (hx, hy) (λ t e d. number_stays b (region_min p past) (proposal_number r past) (s t e d))
place_put c r p by q b past h may s a e false hx y hy = rw hx s

-- what allows an `Enter` for a place
pub place_needs : (c : Config) (r p s : ℕ) (t : Target) (past : List Event) → MayEnter c r (part r past) p t → t ≡ Target.Place s → (is_member r p past ≡ true) × (is_over r past ≡ false)
place_needs c r p s Target.None past may e = absurd may.0
place_needs c r p s Target.Min past may e = cc
place_needs c r p s (Target.Place x) past may e = (ap is_some (sym (joined_under-part r p past)) ∙ may.0, sym (over-part r past) ∙ may.1.0)

place_enter : (c : Config) (r p by q : ℕ) (t : Target) (past : List Event) → IsLegalHistory c past → MayEnter c by (part by past) q t → OpenPlace r p past
    → (a : Answer) → entered_or_lost (noted_grant by q past) (fence q past) ≡ a → (x : Bool) → (by == r) ≡ x → (y : Bool) → (q == p) ≡ y
    → OpenPlace r p (record { by = by; verb = Verb.Enter q t; answer = a } ∷ past)
place_enter c r p by q t past h may s Answer.Entered e true hx true hy =
    let at_p = subst (λ z. entered_or_lost (noted_grant by z past) (fence z past) ≡ Answer.Entered) (eqb-true q p hy) e in
    let at_r = subst (λ z. entered_or_lost (noted_grant z p past) (fence p past) ≡ Answer.Entered) (eqb-true by r hx) at_p in
    let may_p = subst (λ z. MayEnter c by (part by past) z t) (eqb-true q p hy) may in
    let may_r = subst (λ z. MayEnter c z (part z past) p t) (eqb-true by r hx) may_p in
    let k = entered_facts (noted_grant r p past) (fence p past) at_r in
    rw (hx, hy) (λ x e' d. let m = place_needs c r p x t past may_r (same_some t (Target.Place x) e') in member_least c r p k.g past (grant_at_joining r p past) h refl m.0 m.1 k.is (sym k.same))
place_enter c r p by q t past h may s Answer.Entered e true hx false hy = rw (hx, hy) s
place_enter c r p by q t past h may s Answer.Entered e false hx y hy = rw hx s
place_enter c r p by q t past h may s a e true hx true hy = rw (hx, hy) (λ x e d. cc)
place_enter c r p by q t past h may s a e true hx false hy = rw (hx, hy) s
place_enter c r p by q t past h may s a e false hx y hy = rw hx s

place_step : (c : Config) (r p by : ℕ) (v : Verb) (past : List Event) → IsLegalHistory c past → Needs c by (part by past) v → OpenPlace r p past → OpenPlace r p (event_after c past by v ∷ past)
place_step c r p by (Verb.Ask q) past h may s = place_ask c r p by q past s (is_first_ask r by (Verb.Ask q)) refl
place_step c r p by (Verb.Enter q t) past h may s = place_enter c r p by q t past h may.1 s (entered_or_lost (noted_grant by q past) (fence q past)) refl (by == r) refl (q == p) refl
place_step c r p by (Verb.PutMin q b) past h may s = place_put c r p by q b past h may s (put_answer (drained by q past)) refl (by == r) refl (q == p) refl
place_step c r p by (Verb.PutSlot q i b v) past h may s = place_put_slot c r p by q i b v past s ((by == r) && (q == p)) refl
place_step c r p by Verb.Drain past h may s = place_drain c r p by past s (by == p) refl
place_step c r p by v past h may s = s

pub open_place : (c : Config) (r p : ℕ) (past : List Event) → IsLegalHistory c past → OpenPlace r p past
open_place c r p = legal_induction c (OpenPlace r p) (λ t e. cc) (λ past by v h may s. place_step c r p by v past h may.may s)

-- the number of a slot that lands is the region's minimum
pub slot_number : (c : Config) (r p i b v : ℕ) (past : List Event) → IsLegalHistory c past → Needs c r (part r past) (Verb.PutSlot p i b v) → put_answer (drained r p past) ≡ Answer.Done → b ≡ region_min p past
slot_number c r p i b v past h may e =
    same_some b (region_min p past) (sym (put_facts c r (part r past) p i b v may).numbered ∙ number-part r past
    ∙ open_place c r p past h (i % c.ring) (sym (open_target-part r p past) ∙ slot_entered c r p i b v (part r past) (put_facts c r (part r past) p i b v may)) (put_done_undrained (drained r p past) e))

-- who joined stays a member
kept : (t u : Bool) (old new : Option (Option ℕ)) → t ≡ false → is_some old ≡ true → is_some (if t then None else (if u then newer_or old new else old)) ≡ true
kept true u old new h k = absurd (true≢false h)
kept false true None new h k = absurd (true≢false (sym k))
kept false true (Some x) new h k = refl
kept false false old new h k = k

pub member_on : (r p : ℕ) (e : Event) (past : List Event) → begins_leadership r e ≡ false → is_member r p past ≡ true → is_member r p (e ∷ past) ≡ true
member_on r p e past b m = kept (begins_leadership r e) (lands_min r p e.by e.verb e.answer) (grant_at_joining r p past) (Some (noted_grant r p past)) b m
