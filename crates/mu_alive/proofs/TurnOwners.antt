-- If replicas ask in turn, the last one keeps the regions that are granted to it.
use Rattle.std.proofs.Common.{◌≡◌, ◌≢◌, ◌++◌, ◌⊎◌, ℕ, ◌<◌, ◌≤◌, inl, inr, Bool, true, false, cond, ◌&&◌, not, ◌==◌, List, [], ◌∷◌, refl, sym, ◌∙◌, ap, arith, Some, None, subst, eqb-true, true≢false, ◌≢◌, zero, suc}
use Rattle.std.specs.declared.option.Option.{Option}
use Rattle.std.specs.Prelude.{max, nat_lt}
use Rattle.std.proofs.lemmas.Bool.{and_from, and_parts, cases_eq, cases_lt, cases_order, eq-eqb, lt-ltb, ltb-true, ne_eqb}
use Rattle.mu_model.specs.declared.config.Config.{Config}
use Rattle.mu_model.specs.declared.event.Answer.{Answer}
use Rattle.mu_model.specs.declared.event.Event.{Event}
use Rattle.mu_model.specs.declared.event.Verb.{Verb}
use Rattle.mu_model.specs.Allowed.{Allowed, Needs}
use Rattle.mu_model.specs.Histories.{all_below, before, has, newer_or, or_zero, part, since}
use Rattle.mu_model.specs.Leaderships.{grant_for, has_begun, is_first_ask, noted_grant, owner_is}
use Rattle.mu_model.specs.Legal.{IsLegalHistory}
use Rattle.mu_model.specs.Regions.{asks, fence, fence_closing, fence_grant, fence_owner, is_close_of, is_grant_of, granted_by}
use Rattle.mu_model.specs.Serving.{has_unserved_ask, is_grant_to, read_while_owner, seen_asks, served, served_as_owner, served_by_grant, ask_read}
use Rattle.mu_model.proofs.Basics.{same_number, same_some}
use Rattle.mu_model.proofs.Owned.{IsOwnTest, before-part, has-part, since-part, IsOwn, newest-part}
use Rattle.mu_model.proofs.Scans.{all_at}
use Rattle.mu_agree.proofs.Access.{grant_needs, closes-own, grants-own}
use Rattle.mu_agree.proofs.Legal.{event_after, legal_induction}
use Rattle.mu_alive.specs.Turns.{AreInTurn, IsInTurn}
use Rattle.mu_alive.proofs.Turns.{none_seen, not_begun, turn_induction}
use Rattle.mu_pace.proofs.Pasts.{begun_on}

ask_read-own : (r w : ℕ) → IsOwn r (λ e. ask_read r w e.by e.verb e.answer)
ask_read-own r w = record { own = λ e h. go e.by e.verb e.answer h }
  where
    go : (by : ℕ) (v : Verb) (a : Answer) → (by == r) ≡ false → ask_read r w by v a ≡ None
    go by (Verb.ReadAsk q) (Answer.Number x) h = rw h refl
    go by v a h = refl

granted_by-own : (r : ℕ) → IsOwn r (λ e. granted_by r e.by e.verb)
granted_by-own r = record { own = λ e h. go e.by e.verb h }
  where
    go : (by : ℕ) (v : Verb) → (by == r) ≡ false → granted_by r by v ≡ None
    go by (Verb.Grant w) h = rw h refl
    go by v h = refl

pub owner-part : (p : ℕ) (past : List Event) → fence_owner p (part p past) ≡ fence_owner p past
owner-part p past = newest-part (λ e. granted_by p e.by e.verb) p (granted_by-own p) past

pub seen-part : (p w : ℕ) (past : List Event) → seen_asks p w (part p past) ≡ seen_asks p w past
seen-part p w past = ap or_zero (newest-part (λ e. ask_read p w e.by e.verb e.answer) p (ask_read-own p w) past)

-- some number below n passes if not all fail
some_passes : (n : ℕ) (f : ℕ → Bool) → all_below n (λ w. not (f w)) ≡ false → (w : ℕ) × (f w ≡ true)
some_passes zero f none = absurd (true≢false none)
some_passes (suc n) f none = go (f n) refl none (some_passes n f)
  where
    go : (t : Bool) → f n ≡ t → (not t && all_below n (λ w. not (f w))) ≡ false → (all_below n (λ w. not (f w)) ≡ false → (w : ℕ) × (f w ≡ true)) → (w : ℕ) × (f w ≡ true)
    go true is rest ih = (n, is)
    go false is rest ih = ih rest

pub owner_named : (a : ℕ) (o : Option ℕ) → owner_is a o ≡ true → o ≡ Some a
owner_named a None h = absurd (true≢false (sym h))
owner_named a (Some w) h = ap Some (eqb-true w a h)

-- nobody above r has asked
abbrev pub IsHighest : ℕ → List Event → Type 0
IsHighest r past = (w : ℕ) → r < w → has_begun w past ≡ false

-- no other than r has asked
abbrev pub IsLone : ℕ → List Event → Type 0
IsLone r past = (w : ℕ) → w ≢ r → has_begun w past ≡ false

pub lone_before : (r : ℕ) (newer older : List Event) → IsLone r (newer ++ older) → IsLone r older
lone_before r [] older lone = lone
lone_before r (e ∷ newer) older lone = lone_before r newer older (λ w other. not_begun w e (newer ++ older) (lone w other))

highest_before : (r : ℕ) (e : Event) (past : List Event) → IsHighest r (e ∷ past) → IsHighest r past
highest_before r e past high w above = not_begun w e past (high w above)

-- an induction over the histories in turn in which nobody above r has asked
pub top_induction : (c : Config) (r : ℕ) (P : List Event → Type 0) → P []
    → ((past : List Event) (by : ℕ) (v : Verb) → IsLegalHistory c past → AreInTurn past → IsInTurn past (event_after c past by v) → IsHighest r past → Allowed c by (part by past) v → P past → P (event_after c past by v ∷ past))
    → (past : List Event) → IsLegalHistory c past → AreInTurn past → IsHighest r past → P past
top_induction c r P base step =
    turn_induction c (λ past. IsHighest r past → P past) (λ _. base)
    (λ past by v legal turns turn may ih high. let before = highest_before r (event_after c past by v) past high in step past by v legal turns turn before may (ih before))

-- what a host has served its part says too
grants_to-own : (p w : ℕ) → IsOwnTest p (λ e. is_grant_to p w e.by e.verb)
grants_to-own p w = record { own = λ e h. go e.by e.verb h }
  where
    go : (by : ℕ) (v : Verb) → (by == p) ≡ false → is_grant_to p w by v ≡ false
    go by (Verb.Grant q) h = rw h refl
    go by v h = refl

pub closing-part : (p : ℕ) (past : List Event) → fence_closing p (part p past) ≡ fence_closing p past
closing-part p past = ap (has (is_close_of p)) (since-part (is_grant_of p) p (grants-own p) past) ∙ has-part (is_close_of p) p (closes-own p) (since (is_grant_of p) past)

as_owner-part : (p w : ℕ) (past : List Event) → served_as_owner p w (part p past) ≡ served_as_owner p w past
as_owner-part p w [] = refl
as_owner-part p w (e ∷ past) = go (e.by == p) refl (as_owner-part p w past)
  where
    unread : (by : ℕ) (v : Verb) (a : Answer) → (by == p) ≡ false → read_while_owner p w past by v a ≡ None
    unread by (Verb.ReadAsk q) (Answer.Number x) h = rw h refl
    unread by v a h = refl

    closed : fence_closing p (part p past) ≡ fence_closing p past
    closed = closing-part p past

    same : (by : ℕ) (v : Verb) (a : Answer) → read_while_owner p w (part p past) by v a ≡ read_while_owner p w past by v a
    same by (Verb.ReadAsk q) (Answer.Number x) = ap (λ o. cond ((by == p) && ((q == w) && (owner_is w o && not (fence_closing p (part p past))))) (Some x) None) (owner-part p past) ∙ ap (λ t. cond ((by == p) && ((q == w) && (owner_is w (fence_owner p past) && not t))) (Some x) None) closed
    same by v a = refl

    go : (t : Bool) → (e.by == p) ≡ t → served_as_owner p w (part p past) ≡ served_as_owner p w past → served_as_owner p w (cond t (e ∷ part p past) (part p past)) ≡ newer_or (read_while_owner p w past e.by e.verb e.answer) (served_as_owner p w past)
    go true own ih = ap (λ o. newer_or o (served_as_owner p w (part p past))) (same e.by e.verb e.answer) ∙ ap (λ o. newer_or (read_while_owner p w past e.by e.verb e.answer) o) ih
    go false other ih = ih ∙ sym (ap (λ o. newer_or o (served_as_owner p w past)) (unread e.by e.verb e.answer other))

pub served-part : (p w : ℕ) (past : List Event) → served p w (part p past) ≡ served p w past
served-part p w past =
    ap (λ l. max (seen_asks p w l) (or_zero (served_as_owner p w (part p past)))) (before-part (λ e. is_grant_to p w e.by e.verb) p (grants_to-own p w) past)
    ∙ ap (λ n. max n (or_zero (served_as_owner p w (part p past)))) (seen-part p w (before (λ e. is_grant_to p w e.by e.verb) past))
    ∙ ap (λ o. max (served_by_grant p w past) (or_zero o)) (as_owner-part p w past)

-- who waits at a host isn't its owner, and has asks that weren't served
pub record Waits (p w : ℕ) (past : List Event) : Type 0 where
  pub other : fence_owner p past ≡ Some w → ⊥
  pub more : served p w past < seen_asks p w past

pub waits : (p w : ℕ) (past : List Event) → has_unserved_ask p (part p past) w ≡ true → Waits p w past
waits p w past is =
    let parts = and_parts (not (owner_is w (fence_owner p (part p past)))) (nat_lt (served p w (part p past)) (seen_asks p w (part p past))) is in
    let low = ltb-true (served p w (part p past)) (seen_asks p w (part p past)) parts.1 in
    let a = served-part p w past in
    let b = seen-part p w past in
    record { other = λ owns. not_owner (fence_owner p (part p past)) (owner-part p past ∙ owns) parts.0; more = omega (arith, low, a, b) }
  where
    not_owner : (o : Option ℕ) → o ≡ Some w → not (owner_is w o) ≡ true → ⊥
    not_owner o owns is = true≢false (sym is ∙ ap (λ x. not (owner_is w x)) owns ∙ ap not (same_number w))

-- who doesn't wait is the owner, or was served
rests : (p w : ℕ) (past : List Event) → has_unserved_ask p (part p past) w ≡ false → (fence_owner p past ≡ Some w) ⊎ (seen_asks p w past ≤ served p w past)
rests p w past is = elim (cases_lt (served p w past) (seen_asks p w past)) [
  | inl more ↦ inl (named (fence_owner p past) refl more)
  | inr less ↦ inr less
]
  where
    waiting : served p w past < seen_asks p w past → owner_is w (fence_owner p past) ≡ false → ⊥
    waiting more other =
        let a = served-part p w past in
        let b = seen-part p w past in
        true≢false (sym (and_from (not (owner_is w (fence_owner p (part p past)))) (nat_lt (served p w (part p past)) (seen_asks p w (part p past))) (ap (λ o. not (owner_is w o)) (owner-part p past) ∙ ap not other) (lt-ltb (served p w (part p past)) (seen_asks p w (part p past)) (omega (arith, more, a, b)))) ∙ is)

    named : (o : Option ℕ) → fence_owner p past ≡ o → served p w past < seen_asks p w past → fence_owner p past ≡ Some w
    named None same more = absurd (waiting more (ap (owner_is w) same))
    named (Some x) same more = elim (cases_eq x w) [
      | inl here ↦ same ∙ ap Some here
      | inr other ↦ absurd (waiting more (ap (owner_is w) same ∙ ne_eqb x w other))
    ]

-- an owner has asked
abbrev pub OwnerBegun : ℕ → List Event → Type 0
OwnerBegun p past = (w : ℕ) → fence_owner p past ≡ Some w → has_begun w past ≡ true

pub waiter_begun : (c : Config) (p w : ℕ) (past : List Event) → IsLegalHistory c past → Waits p w past → has_begun w past ≡ true
waiter_begun c p w past legal waits = go (has_begun w past) refl
  where
    go : (t : Bool) → has_begun w past ≡ t → t ≡ true
    go true is = refl
    go false is = absurd (let none = none_seen c p w past legal is in let more = waits.more in omega (arith, none, more))

owner_begun_step : (c : Config) (p by : ℕ) (v : Verb) (past : List Event) → IsLegalHistory c past → Needs c by (part by past) v → OwnerBegun p past → OwnerBegun p (event_after c past by v ∷ past)
owner_begun_step c p by (Verb.Grant q) past legal may s = go (by == p) refl
  where
    go : (t : Bool) → (by == p) ≡ t → OwnerBegun p (event_after c past by (Verb.Grant q) ∷ past)
    go true h = rw h (λ w is.
        let at_p = subst (λ x. Needs c x (part x past) (Verb.Grant q)) (eqb-true by p h) may in
        let waiting = waits p q past (and_parts (has_unserved_ask p (part p past) q) (all_below q (λ x. not (has_unserved_ask p (part p past) x))) at_p.1.1.1.0).0 in
        subst (λ x. has_begun x past ≡ true) (same_some q w is) (waiter_begun c p q past legal waiting))
    go false h = rw h s
owner_begun_step c p by (Verb.Ask q) past legal may s = λ w is. begun_on w (event_after c past by (Verb.Ask q)) past (s w is)
owner_begun_step c p by v past legal may s = s

pub owner_begun : (c : Config) (p : ℕ) (past : List Event) → IsLegalHistory c past → OwnerBegun p past
owner_begun c p = legal_induction c (OwnerBegun p) (λ w is. cc) (λ past by v h may s. owner_begun_step c p by v past h may.may s)

-- an owner's asks are served
abbrev OwnerServed : ℕ → List Event → Type 0
OwnerServed p past = (w : ℕ) → fence_owner p past ≡ Some w → seen_asks p w past ≤ served p w past

served_step : (c : Config) (p by : ℕ) (v : Verb) (past : List Event) → IsInTurn past (event_after c past by v) → OwnerServed p past → OwnerServed p (event_after c past by v ∷ past)
served_step c p by (Verb.ReadAsk q) past turn s = λ w owns. go w owns (by == p) refl (q == w) refl
  where
    go : (w : ℕ) → fence_owner p past ≡ Some w → (t : Bool) → (by == p) ≡ t → (u : Bool) → (q == w) ≡ u → seen_asks p w (event_after c past by (Verb.ReadAsk q) ∷ past) ≤ served p w (event_after c past by (Verb.ReadAsk q) ∷ past)
    go w owns true ht true hu =
        let open_now = subst (λ x. fence_closing x past ≡ false) (eqb-true by p ht) (turn.resting q refl) in
        rw (ht, hu, owns, open_now, same_number w) (omega arith)
    go w owns true ht false hu = rw (ht, hu) (s w owns)
    go w owns false ht u hu = rw ht (s w owns)
served_step c p by (Verb.Grant q) past turn s = go (by == p) refl
  where
    go : (t : Bool) → (by == p) ≡ t → OwnerServed p (event_after c past by (Verb.Grant q) ∷ past)
    go true h = rw h (λ w is. rw (eq-eqb q w (same_some q w is)) (omega arith))
    go false h = rw h s
served_step c p by v past turn s = s

owner_served : (c : Config) (p : ℕ) (past : List Event) → IsLegalHistory c past → AreInTurn past → OwnerServed p past
owner_served c p = turn_induction c (OwnerServed p) (λ w is. cc) (λ past by v h turns turn may s. served_step c p by v past turn s)

-- while r owns a region it isn't closing, and who asked before was served
abbrev pub LowerServed : ℕ → ℕ → List Event → Type 0
LowerServed p r past = (w : ℕ) → w < r → seen_asks p w past ≤ served p w past

abbrev pub OwnedTop : ℕ → ℕ → List Event → Type 0
OwnedTop r p past = fence_owner p past ≡ Some r → (fence_closing p past ≡ false) × LowerServed p r past

-- so nobody waits there
nobody_waits : (c : Config) (r p : ℕ) (past : List Event) → IsLegalHistory c past → IsHighest r past → fence_owner p past ≡ Some r → LowerServed p r past → (w : ℕ) → Waits p w past → ⊥
nobody_waits c r p past legal high owns low w waiting = elim (cases_order w r) [
  | inl same ↦ waiting.other (owns ∙ ap Some (sym same))
  | inr (inl below) ↦ (let l = low w below in let m = waiting.more in omega (arith, l, m))
  | inr (inr above) ↦ true≢false (sym (waiter_begun c p w past legal waiting) ∙ high w above)
]

top_close : (c : Config) (r p by : ℕ) (past : List Event) → IsLegalHistory c past → IsHighest r past → Needs c by (part by past) Verb.Close → OwnedTop r p past → (t : Bool) → (by == p) ≡ t → OwnedTop r p (event_after c past by Verb.Close ∷ past)
top_close c r p by past legal high may s true h = λ owns.
    let at_p = subst (λ x. Needs c x (part x past) Verb.Close) (eqb-true by p h) may in
    let some = some_passes c.replicas (has_unserved_ask p (part p past)) at_p.1.0 in
    absurd (nobody_waits c r p past legal high owns (s owns).1 some.0 (waits p some.0 past some.1))
top_close c r p by past legal high may s false h = rw h s

top_grant : (c : Config) (r p by q : ℕ) (past : List Event) → IsLegalHistory c past → OwnerServed p past → Needs c by (part by past) (Verb.Grant q) → OwnedTop r p past → (t : Bool) → (by == p) ≡ t → OwnedTop r p (event_after c past by (Verb.Grant q) ∷ past)
top_grant c r p by q past legal served_now may s true h = rw h (λ is. (refl, λ w below. lower w below is))
  where
    at_p : Needs c p (part p past) (Verb.Grant q)
    at_p = subst (λ x. Needs c x (part x past) (Verb.Grant q)) (eqb-true by p h) may

    none_lower : all_below q (λ x. not (has_unserved_ask p (part p past) x)) ≡ true
    none_lower = (and_parts (has_unserved_ask p (part p past) q) (all_below q (λ x. not (has_unserved_ask p (part p past) x))) at_p.1.1.1.0).1

    not_true : (t : Bool) → not t ≡ true → t ≡ false
    not_true true h = absurd (true≢false (sym h))
    not_true false h = refl

    was_served : (w : ℕ) → w < q → seen_asks p w past ≤ served p w past
    was_served w below = elim (rests p w past (not_true (has_unserved_ask p (part p past) w) (all_at q (λ x. not (has_unserved_ask p (part p past) x)) none_lower w below))) [
      | inl owns ↦ served_now w owns
      | inr fits ↦ fits
    ]

    lower : (w : ℕ) → w < r → Some q ≡ Some r → seen_asks p w past ≤ max (seen_asks p w (cond (true && (q == w)) past (before (λ e. is_grant_to p w e.by e.verb) past))) (or_zero (served_as_owner p w past))
    lower w below is =
        let same = same_some q r is in
        let other : (q == w) ≡ false = ne_eqb q w (λ e. omega (arith, e, same, below)) in
        let l = was_served w (omega (arith, same, below)) in
        rw other l
top_grant c r p by q past legal served_now may s false h = rw h s

top_read : (c : Config) (r p by q : ℕ) (past : List Event) → IsLegalHistory c past → IsInTurn past (event_after c past by (Verb.ReadAsk q)) → OwnedTop r p past → OwnedTop r p (event_after c past by (Verb.ReadAsk q) ∷ past)
top_read c r p by q past legal turn s = λ owns. ((s owns).0, λ w below. go owns w below (by == p) refl (q == w) refl)
  where
    go : fence_owner p past ≡ Some r → (w : ℕ) → w < r → (t : Bool) → (by == p) ≡ t → (u : Bool) → (q == w) ≡ u → seen_asks p w (event_after c past by (Verb.ReadAsk q) ∷ past) ≤ served p w (event_after c past by (Verb.ReadAsk q) ∷ past)
    go owns w below true ht true hu =
        let here = eqb-true q w hu in
        let host = eqb-true by p ht in
        let same : asks q by past ≡ seen_asks p w past = turn.fresh q r refl (omega (arith, here, below)) (owner_begun c p past legal r owns) ∙ ap (λ x. seen_asks x q past) host ∙ ap (λ x. seen_asks p x past) here in
        let other : (r == w) ≡ false = ne_eqb r w (λ e. omega (arith, e, below)) in
        let l = (s owns).1 w below in
        rw (ht, hu, owns, other) (omega (arith, same, l))
    go owns w below true ht false hu = rw (ht, hu) ((s owns).1 w below)
    go owns w below false ht u hu = rw ht ((s owns).1 w below)

top_step : (c : Config) (r p by : ℕ) (v : Verb) (past : List Event) → IsLegalHistory c past → AreInTurn past → IsInTurn past (event_after c past by v) → IsHighest r past → Needs c by (part by past) v → OwnedTop r p past → OwnedTop r p (event_after c past by v ∷ past)
top_step c r p by Verb.Close past legal turns turn high may s = top_close c r p by past legal high may s (by == p) refl
top_step c r p by (Verb.Grant q) past legal turns turn high may s = top_grant c r p by q past legal (owner_served c p past legal turns) may s (by == p) refl
top_step c r p by (Verb.ReadAsk q) past legal turns turn high may s = top_read c r p by q past legal turn s
top_step c r p by v past legal turns turn high may s = s

pub owned_top : (c : Config) (r p : ℕ) (past : List Event) → IsLegalHistory c past → AreInTurn past → IsHighest r past → OwnedTop r p past
owned_top c r p = top_induction c r (OwnedTop r p) (λ is. cc) (λ past by v legal turns turn high may s. top_step c r p by v past legal turns turn high may.may s)

-- so a region that r owns isn't closing
abbrev pub StaysOpen : ℕ → ℕ → List Event → Type 0
StaysOpen r p past = fence_owner p past ≡ Some r → fence_closing p past ≡ false

pub stays_open : (c : Config) (r p : ℕ) (past : List Event) → IsLegalHistory c past → AreInTurn past → IsHighest r past → StaysOpen r p past
stays_open c r p past legal turns high owns = (owned_top c r p past legal turns high owns).0

-- a host that granted to r grants to nobody else
pub no_grant : (c : Config) (r p by q : ℕ) (past : List Event) → StaysOpen r p past → Needs c by (part by past) (Verb.Grant q) → (by == p) ≡ true → fence_owner p past ≡ Some r → ⊥
no_grant c r p by q past top may h owns =
    true≢false (sym (grant_needs c p q past (subst (λ x. Needs c x (part x past) (Verb.Grant q)) (eqb-true by p h) may)).0 ∙ top owns)

-- a grant that r noted is the one that stands
abbrev pub NotesStanding : ℕ → ℕ → List Event → Type 0
NotesStanding r p past = (g : ℕ) → noted_grant r p past ≡ Some g → (g ≡ fence_grant p past) × (fence_owner p past ≡ Some r)

notes_seen : (r p g : ℕ) (past : List Event) → grant_for r (Some (fence p past)) ≡ Some g → (g ≡ fence_grant p past) × (fence_owner p past ≡ Some r)
notes_seen r p g past is = go (not (fence_closing p past) && owner_is r (fence_owner p past)) refl is
  where
    go : (t : Bool) → (not (fence_closing p past) && owner_is r (fence_owner p past)) ≡ t → cond t (Some (fence_grant p past)) None ≡ Some g → (g ≡ fence_grant p past) × (fence_owner p past ≡ Some r)
    go true h k = (sym (same_some (fence_grant p past) g k), owner_named r (fence_owner p past) (and_parts (not (fence_closing p past)) (owner_is r (fence_owner p past)) h).1)
    go false h k = cc

notes_ask : (c : Config) (r p by q : ℕ) (past : List Event) → NotesStanding r p past → (t : Bool) → is_first_ask r by (Verb.Ask q) ≡ t → NotesStanding r p (event_after c past by (Verb.Ask q) ∷ past)
notes_ask c r p by q past n true h = rw h (λ g e. cc)
notes_ask c r p by q past n false h = rw h n

notes_fence : (c : Config) (r p by q : ℕ) (past : List Event) → NotesStanding r p past → (t : Bool) → (by == r) ≡ t → (u : Bool) → (q == p) ≡ u → NotesStanding r p (event_after c past by (Verb.Fence q) ∷ past)
notes_fence c r p by q past n true ht true hu = rw (ht, hu) (λ g e. notes_seen r p g past (subst (λ x. grant_for r (Some (fence x past)) ≡ Some g) (eqb-true q p hu) e))
notes_fence c r p by q past n true ht false hu = rw (ht, hu) n
notes_fence c r p by q past n false ht u hu = rw ht n

notes_grant : (c : Config) (r p by q : ℕ) (past : List Event) → StaysOpen r p past → Needs c by (part by past) (Verb.Grant q) → NotesStanding r p past → (t : Bool) → (by == p) ≡ t → NotesStanding r p (event_after c past by (Verb.Grant q) ∷ past)
notes_grant c r p by q past top may n true h = λ g e. absurd (no_grant c r p by q past top may h (n g e).1)
notes_grant c r p by q past top may n false h = rw h n

pub notes_step : (c : Config) (r p by : ℕ) (v : Verb) (past : List Event) → StaysOpen r p past → Needs c by (part by past) v → NotesStanding r p past → NotesStanding r p (event_after c past by v ∷ past)
notes_step c r p by (Verb.Ask q) past top may n = notes_ask c r p by q past n (is_first_ask r by (Verb.Ask q)) refl
notes_step c r p by (Verb.Fence q) past top may n = notes_fence c r p by q past n (by == r) refl (q == p) refl
notes_step c r p by (Verb.Grant q) past top may n = notes_grant c r p by q past top may n (by == p) refl
notes_step c r p by v past top may n = n

pub notes_standing : (c : Config) (r p : ℕ) (past : List Event) → IsLegalHistory c past → AreInTurn past → IsHighest r past → NotesStanding r p past
notes_standing c r p = top_induction c r (NotesStanding r p) (λ g e. cc) (λ past by v legal turns turn high may n. notes_step c r p by v past (stays_open c r p past legal turns high) may.may n)

-- a fence of a region that r owns notes the grant
pub seen_again : (r p : ℕ) (past : List Event) → StaysOpen r p past → fence_owner p past ≡ Some r → grant_for r (Some (fence p past)) ≡ Some (fence_grant p past)
seen_again r p past top owns = is (fence_closing p past) (fence_owner p past) (top owns) owns
  where
    is : (t : Bool) (owner : Option ℕ) → t ≡ false → owner ≡ Some r → cond (not t && owner_is r owner) (Some (fence_grant p past)) None ≡ Some (fence_grant p past)
    is t owner ht ho = rw (ht, ho, same_number r) refl
