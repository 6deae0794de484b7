-- A put that missed shows why: its region was closed, or granted on.
use Rattle.std.proofs.Common.{◌≡◌, ℕ, ◌%◌, ◌+◌, ◌<◌, ◌≤◌, ◌⊎◌, inl, inr, Bool, true, false, cond, ◌&&◌, ◌==◌, List, [], ◌∷◌, ◌++◌, refl, sym, ◌∙◌, ap, arith, Some, subst, eqb-true, true≢false}
use Rattle.std.proofs.lemmas.Bool.{and_parts}
use Rattle.std.proofs.lemmas.List.{append_assoc, reverse-append}
use mathlib.Core.List.{reverse}
use Rattle.mu_model.specs.declared.config.Config.{Config}
use Rattle.mu_model.specs.declared.event.Answer.{Answer}
use Rattle.mu_model.specs.declared.event.Event.{Event}
use Rattle.mu_model.specs.declared.event.Target.{Target}
use Rattle.mu_model.specs.declared.event.Verb.{Verb}
use Rattle.mu_model.specs.Allowed.{Allowed, Needs}
use Rattle.mu_model.specs.Answers.{answer_of, drained, entered_or_lost, is_enter_by, is_enter_of, put_answer}
use Rattle.mu_model.specs.Entering.{open_target}
use Rattle.mu_model.specs.Histories.{has, part, since}
use Rattle.mu_model.specs.Leaderships.{is_first_ask, noted_grant}
use Rattle.mu_model.specs.Legal.{IsLegalHistory, MayFollow}
use Rattle.mu_model.specs.Regions.{fence, fence_closing, fence_grant, is_close_of, is_drain_of, is_grant_of}
use Rattle.mu_model.specs.Serving.{has_target, must_drain, names_target}
use Rattle.mu_model.specs.Steps.{is_missed_at, is_missed_at_verb}
use Rattle.mu_model.proofs.Basics.{none_some}
use Rattle.mu_model.proofs.Owned.{noted-part}
use Rattle.mu_agree.proofs.Access.{entered_facts, last_close, must_drain-part, no_target, noted_grant_is_owned, open_target-part, reversed_at}
use Rattle.mu_agree.proofs.Entering.{slot_entered}
use Rattle.mu_agree.proofs.Legal.{event_after, legal_induction, legal_older}
use Rattle.mu_agree.specs.Laws.{IsShutOut, MissesShutOut}
use Rattle.mu_agree.specs.Possible.{PartFencesShowMisses, entered_under}
use Rattle.mu_agree.proofs.Possible.{answered, at_event, earlier, same_fence}
use Rattle.mu_model.proofs.Putting.{put_facts, min_facts}

-- the region is closing, or was granted on since the grant g
abbrev pub IsMoved : ℕ → ℕ → List Event → Type 0
IsMoved p g past = (fence_closing p past ≡ true) ⊎ (g < fence_grant p past)

-- and so it stays
moved_on : (p g : ℕ) (e : Event) (past : List Event) → g ≤ fence_grant p past → IsMoved p g past → (g ≤ fence_grant p (e ∷ past)) × IsMoved p g (e ∷ past)
moved_on p g e past l m = go (is_grant_of p e) (is_close_of p e) m
  where
    go : (t u : Bool) → IsMoved p g past → (g ≤ cond t (fence_grant p past + 1) (fence_grant p past)) × ((has (is_close_of p) (cond t [] (e ∷ since (is_grant_of p) past)) ≡ true) ⊎ (g < cond t (fence_grant p past + 1) (fence_grant p past)))
    go true u m = (omega arith, inr (omega arith))
    go false u (inl k) = (l, inl (more (is_close_of p e) k))
      where
        more : (t : Bool) → fence_closing p past ≡ true → cond t true (has (is_close_of p) (since (is_grant_of p) past)) ≡ true
        more true k = refl
        more false k = k
    go false u (inr k) = (l, inr k)

moved_along : (p g : ℕ) (newer older : List Event) → g ≤ fence_grant p older → IsMoved p g older → (g ≤ fence_grant p (newer ++ older)) × IsMoved p g (newer ++ older)
moved_along p g [] older l m = (l, m)
moved_along p g (e ∷ newer) older l m = let k = moved_along p g newer older l m in moved_on p g e (newer ++ older) k.0 k.1

-- if r entered p under the grant g: it was given, and if p was drained since, p is moved
pub record Under (p g : ℕ) (drained_since : Bool) (past : List Event) : Type 0 where
  pub given : g ≤ fence_grant p past
  pub moved : drained_since ≡ true → IsMoved p g past

abbrev EntersUnder : ℕ → ℕ → List Event → Type 0
EntersUnder r p past = (g : ℕ) → entered_under r p past ≡ Some g → Under p g (drained r p past) past

-- a step that is no `Enter` of r at p
under_on : (r p : ℕ) (e : Event) (past : List Event) → is_enter_of r p e ≡ false → (is_drain_of p e ≡ true → fence_closing p past ≡ true) → EntersUnder r p past → EntersUnder r p (e ∷ past)
under_on r p e past n d s g k =
    let same : entered_under r p (e ∷ past) ≡ entered_under r p past = ap (λ t. cond t (noted_grant r p past) (entered_under r p past)) n in
    let old = s g (sym same ∙ k) in
    record { given = grows old.given; moved = λ h. later old (by_drain (is_drain_of p e) refl (ap (λ t. has (is_drain_of p) (cond t [] (e ∷ since (is_enter_of r p) past))) (sym n) ∙ h)) }
  where
    grows : g ≤ fence_grant p past → g ≤ fence_grant p (e ∷ past)
    grows l = go (is_grant_of p e)
      where
        go : (t : Bool) → g ≤ cond t (fence_grant p past + 1) (fence_grant p past)
        go true = omega arith
        go false = l

    by_drain : (t : Bool) → is_drain_of p e ≡ t → cond t true (drained r p past) ≡ true → (fence_closing p past ≡ true) ⊎ (drained r p past ≡ true)
    by_drain true h k = inl (d h)
    by_drain false h k = inr k

    later : Under p g (drained r p past) past → (fence_closing p past ≡ true) ⊎ (drained r p past ≡ true) → IsMoved p g (e ∷ past)
    later old (inl h) = (moved_on p g e past old.given (inl h)).1
    later old (inr h) = (moved_on p g e past old.given (old.moved h)).1

-- an `Enter` of r at p: it was noted, and nothing was drained since
under_entered : (c : Config) (r p by : ℕ) (past : List Event) (v : Verb) → IsLegalHistory c past → is_enter_of r p (event_after c past by v) ≡ true → EntersUnder r p (event_after c past by v ∷ past)
under_entered c r p by past v h n g k =
    let is : noted_grant r p past ≡ Some g = ap (λ t. cond t (noted_grant r p past) (entered_under r p past)) (sym n) ∙ k in
    record { given = grows (noted_grant_is_owned c r p past h g is).0; moved = λ m. absurd (true≢false (sym m ∙ ap (λ t. has (is_drain_of p) (cond t [] (event_after c past by v ∷ since (is_enter_of r p) past))) n)) }
  where
    grows : g ≤ fence_grant p past → g ≤ fence_grant p (event_after c past by v ∷ past)
    grows l = go (is_grant_of p (event_after c past by v))
      where
        go : (t : Bool) → g ≤ cond t (fence_grant p past + 1) (fence_grant p past)
        go true = omega arith
        go false = l

-- who drains is closing
drains_closed : (c : Config) (p by : ℕ) (v : Verb) (past : List Event) → Needs c by (part by past) v → is_drain_of p (event_after c past by v) ≡ true → fence_closing p past ≡ true
drains_closed c p by Verb.Drain past may d =
    let here : must_drain p past ≡ true = sym (must_drain-part p past) ∙ (subst (λ z. Needs c z (part z past) Verb.Drain) (eqb-true by p d) may).0 in
    (and_parts (fence_closing p past) (names_target (last_close p past)) here).0
drains_closed c p by v past may d = absurd (true≢false (sym d))

under_step : (c : Config) (r p by : ℕ) (v : Verb) (past : List Event) → IsLegalHistory c past → Allowed c by (part by past) v → EntersUnder r p past → EntersUnder r p (event_after c past by v ∷ past)
under_step c r p by v past h may s = go (is_enter_of r p (event_after c past by v)) refl
  where
    go : (t : Bool) → is_enter_of r p (event_after c past by v) ≡ t → EntersUnder r p (event_after c past by v ∷ past)
    go true n = under_entered c r p by past v h n
    go false n = under_on r p (event_after c past by v) past n (drains_closed c p by v past may.may) s

under : (c : Config) (r p : ℕ) (past : List Event) → IsLegalHistory c past → EntersUnder r p past
under c r p = legal_induction c (EntersUnder r p) (λ g k. absurd (none_some g k)) (λ past by v h may s. under_step c r p by v past h may s)

-- the grant of the last `Enter` is the same on the part
enters-own : (r p : ℕ) (e : Event) → (e.by == r) ≡ false → is_enter_of r p e ≡ false
enters-own r p e h = go e.by e.verb h
  where
    go : (by : ℕ) (v : Verb) → (by == r) ≡ false → is_enter_by r p by v ≡ false
    go by (Verb.Enter q t) h = rw h refl
    go by v h = refl

entered_under-part : (r p : ℕ) (past : List Event) → entered_under r p (part r past) ≡ entered_under r p past
entered_under-part r p [] = refl
entered_under-part r p (e ∷ past) = go (e.by == r) refl (entered_under-part r p past)
  where
    go : (t : Bool) → (e.by == r) ≡ t → entered_under r p (part r past) ≡ entered_under r p past → entered_under r p (cond t (e ∷ part r past) (part r past)) ≡ entered_under r p (e ∷ past)
    go true h ih = ap (λ o. cond (is_enter_of r p e) o (entered_under r p (part r past))) (noted-part r p past) ∙ ap (cond (is_enter_of r p e) (noted_grant r p past)) ih
    go false h ih = ih ∙ ap (λ t. cond t (noted_grant r p past) (entered_under r p past)) (sym (enters-own r p e h))

-- a put that missed was drained
missed_drained : (c : Config) (r p : ℕ) (v : Verb) (past : List Event) → is_missed_at_verb p v (answer_of c r past v) ≡ true → drained r p past ≡ true
missed_drained c r p (Verb.PutMin q b) past m = go (drained r q past) refl m
  where
    go : (t : Bool) → drained r q past ≡ t → is_missed_at_verb p (Verb.PutMin q b) (put_answer t) ≡ true → drained r p past ≡ true
    go true d k = subst (λ z. drained r z past ≡ true) (eqb-true q p k) d
    go false d k = absurd (true≢false (sym k))
missed_drained c r p (Verb.PutSlot q i b w) past m = go (drained r q past) refl m
  where
    go : (t : Bool) → drained r q past ≡ t → is_missed_at_verb p (Verb.PutSlot q i b w) (put_answer t) ≡ true → drained r p past ≡ true
    go true d k = subst (λ z. drained r z past ≡ true) (eqb-true q p k) d
    go false d k = absurd (true≢false (sym k))
missed_drained c r p v past m = absurd (true≢false (sym m))

pub part_fences_show_misses_law : PartFencesShowMisses
part_fences_show_misses_law c r p g mine between e f x poss m u v a =
    let s = at_event c r (between ++ e ∷ mine) f poss in
    let t = earlier c r s.older between mine e s.legal s.part_is in
    let missed : is_missed_at_verb p e.verb (answer_of c r t.older e.verb) ≡ true = subst (λ z. is_missed_at_verb p e.verb z ≡ true) (t.follows.answer ∙ ap (λ z. answer_of c z t.older e.verb) t.own) m in
    let enters : entered_under r p t.older ≡ Some g = sym (entered_under-part r p t.older) ∙ ap (entered_under r p) t.part_is ∙ u in
    let k = under c r p t.older t.legal g enters in
    let moved = moved_along p g (t.newer ++ e ∷ []) t.older k.given (k.moved (missed_drained c r p e.verb t.older missed)) in
    let now : IsMoved p g s.older = subst (IsMoved p g) (append_assoc t.newer (e ∷ []) t.older ∙ sym t.is) moved.1 in
    let seen : Answer.Seen x ≡ Answer.Seen (fence p s.older) = sym a ∙ answered c r (between ++ e ∷ mine) f (Verb.Fence p) poss v in
    let is = same_fence x (fence p s.older) seen in
    subst (λ y. (y.closing ≡ true) ⊎ (g < y.grant)) (sym is) now

-- r entered p under a grant that it had noted
pub record HasEntered (r p : ℕ) (past : List Event) : Type 0 where
  pub grant : ℕ
  pub noted : entered_under r p past ≡ Some grant

-- a replica with an open `Enter` at p had noted a grant before it
abbrev OpenedUnder : ℕ → ℕ → List Event → Type 0
OpenedUnder r p past = (t : Target) → open_target r p past ≡ Some t → has_target t ≡ true → HasEntered r p past

opened_ask : (c : Config) (r p by q : ℕ) (past : List Event) → OpenedUnder r p past → (t : Bool) → is_first_ask r by (Verb.Ask q) ≡ t → OpenedUnder r p (event_after c past by (Verb.Ask q) ∷ past)
opened_ask c r p by q past o true h = rw h (λ t e. cc)
opened_ask c r p by q past o false h = rw h (λ t e f. let k = o t e f in record { grant = k.grant; noted = k.noted })

opened_put_min : (c : Config) (r p by q b : ℕ) (past : List Event) → OpenedUnder r p past → (t : Bool) → ((by == r) && (q == p)) ≡ t → OpenedUnder r p (event_after c past by (Verb.PutMin q b) ∷ past)
opened_put_min c r p by q b past o true h = rw h (λ t e f. absurd (no_target t e f))
opened_put_min c r p by q b past o false h = rw h (λ t e f. let k = o t e f in record { grant = k.grant; noted = k.noted })

opened_put_slot : (c : Config) (r p by q i b v : ℕ) (past : List Event) → OpenedUnder r p past → (t : Bool) → ((by == r) && (q == p)) ≡ t → OpenedUnder r p (event_after c past by (Verb.PutSlot q i b v) ∷ past)
opened_put_slot c r p by q i b v past o true h = rw h (λ t e f. absurd (no_target t e f))
opened_put_slot c r p by q i b v past o false h = rw h (λ t e f. let k = o t e f in record { grant = k.grant; noted = k.noted })

opened_enter : (c : Config) (r p by q : ℕ) (t : Target) (past : List Event) → OpenedUnder r p past
    → (a : Answer) → entered_or_lost (noted_grant by q past) (fence q past) ≡ a → (x : Bool) → (by == r) ≡ x → (y : Bool) → (q == p) ≡ y
    → OpenedUnder r p (record { by = by; verb = Verb.Enter q t; answer = a } ∷ past)
opened_enter c r p by q t past o Answer.Entered e true hx true hy =
    let at_p = subst (λ z. entered_or_lost (noted_grant by z past) (fence z past) ≡ Answer.Entered) (eqb-true q p hy) e in
    let facts = entered_facts (noted_grant r p past) (fence p past) (subst (λ z. entered_or_lost (noted_grant z p past) (fence p past) ≡ Answer.Entered) (eqb-true by r hx) at_p) in
    λ t' e' f. record { grant = facts.g; noted = rw (hx, hy) facts.is }
opened_enter c r p by q t past o Answer.Entered e false hx y hy = rw hx (λ t' e' f. let k = o t' e' f in record { grant = k.grant; noted = rw hx k.noted })
opened_enter c r p by q t past o Answer.Entered e true hx false hy = rw (hx, hy) (λ t' e' f. let k = o t' e' f in record { grant = k.grant; noted = rw (hx, hy) k.noted })
opened_enter c r p by q t past o a e true hx true hy = rw (hx, hy) (λ t' e' f. absurd (no_target t' e' f))
opened_enter c r p by q t past o a e false hx y hy = rw hx (λ t' e' f. let k = o t' e' f in record { grant = k.grant; noted = rw hx k.noted })
opened_enter c r p by q t past o a e true hx false hy = rw (hx, hy) (λ t' e' f. let k = o t' e' f in record { grant = k.grant; noted = rw (hx, hy) k.noted })

opened_step : (c : Config) (r p by : ℕ) (v : Verb) (past : List Event) → OpenedUnder r p past → OpenedUnder r p (event_after c past by v ∷ past)
opened_step c r p by (Verb.Ask q) past o = opened_ask c r p by q past o (is_first_ask r by (Verb.Ask q)) refl
opened_step c r p by (Verb.Enter q t) past o =
    opened_enter c r p by q t past o (entered_or_lost (noted_grant by q past) (fence q past)) refl (by == r) refl (q == p) refl
opened_step c r p by (Verb.PutMin q b) past o = opened_put_min c r p by q b past o ((by == r) && (q == p)) refl
opened_step c r p by (Verb.PutSlot q i b v) past o = opened_put_slot c r p by q i b v past o ((by == r) && (q == p)) refl
opened_step c r p by v past o = λ t e f. let k = o t e f in record { grant = k.grant; noted = k.noted }

opened_under : (c : Config) (r p : ℕ) (past : List Event) → IsLegalHistory c past → OpenedUnder r p past
opened_under c r p = legal_induction c (OpenedUnder r p) (λ t e. cc) (λ past by v h may o. opened_step c r p by v past o)

-- who misses at p had entered it under a noted grant
put_entered : (c : Config) (p by : ℕ) (v : Verb) (a : Answer) (past : List Event) → IsLegalHistory c past → Needs c by (part by past) v → is_missed_at_verb p v a ≡ true → HasEntered by p past
put_entered c p by (Verb.PutMin q b) Answer.Missed past h may m =
    subst (λ z. HasEntered by z past) (eqb-true q p m) (opened_under c by q past h Target.Min (sym (open_target-part by q past) ∙ (min_facts c by (part by past) q b may).entered) refl)
put_entered c p by (Verb.PutSlot q i b w) Answer.Missed past h may m =
    subst (λ z. HasEntered by z past) (eqb-true q p m) (opened_under c by q past h (Target.Place (i % c.ring)) (sym (open_target-part by q past) ∙ slot_entered c by q i b w (part by past) (put_facts c by (part by past) q i b w may)) refl)
put_entered c p by v a past h may m = absurd (true≢false (sym m))

shut_out : (c : Config) (p : ℕ) (e : Event) (newer older : List Event) → IsLegalHistory c older → MayFollow c older e → is_missed_at p e ≡ true → IsShutOut e.by p older (newer ++ e ∷ older)
shut_out c p e newer older h f m =
    let entered = put_entered c p e.by e.verb e.answer older h f.allowed.may m in
    let missed : is_missed_at_verb p e.verb (answer_of c e.by older e.verb) ≡ true = subst (λ z. is_missed_at_verb p e.verb z ≡ true) f.answer m in
    let k = under c e.by p older h entered.grant entered.noted in
    let moved = moved_along p entered.grant (newer ++ e ∷ []) older k.given (k.moved (missed_drained c e.by p e.verb older missed)) in
    record { grant = entered.grant; noted = entered.noted; shut = subst (IsMoved p entered.grant) (append_assoc newer (e ∷ []) older) moved.1 }

pub misses_shut_out_law : MissesShutOut
misses_shut_out_law c earlier between later e p h m =
    let is : reverse (earlier ++ e ∷ (between ++ later)) ≡ reverse later ++ (reverse between ++ (e ∷ reverse earlier)) =
    reversed_at earlier (between ++ later) e ∙ ap (λ z. z ++ (e ∷ reverse earlier)) (reverse-append between later) ∙ append_assoc (reverse later) (reverse between) (e ∷ reverse earlier) in
    let whole : IsLegalHistory c (reverse later ++ (reverse between ++ (e ∷ reverse earlier))) = subst (IsLegalHistory c) is h in
    let here : IsLegalHistory c (e ∷ reverse earlier) = legal_older c (reverse between) (e ∷ reverse earlier) (legal_older c (reverse later) (reverse between ++ (e ∷ reverse earlier)) whole) in
    subst (IsShutOut e.by p (reverse earlier)) (sym (reversed_at earlier between e)) (shut_out c p e (reverse between) (reverse earlier) here.0 here.1 m)
