-- A put lands only while its writer holds the region.
use Rattle.std.proofs.Common.{◌≡◌, ℕ, ◌%◌, ◌≤◌, Bool, true, false, cond, ◌&&◌, not, ◌==◌, List, [], ◌∷◌, ◌++◌, refl, sym, ◌∙◌, ap, arith, Some, None, subst, eqb-true, true≢false}
use Rattle.std.specs.declared.option.Option.{Option}
use Rattle.std.proofs.lemmas.Bool.{and_parts, and_from, false_from_ne_true}
use Rattle.mu_model.specs.declared.config.Config.{Config}
use Rattle.mu_model.specs.declared.event.Event.{Event}
use Rattle.mu_model.specs.declared.event.Fence.{Fence}
use Rattle.mu_model.specs.declared.event.Target.{Target}
use Rattle.mu_model.specs.declared.event.Verb.{Verb}
use Rattle.mu_model.specs.declared.event.Answer.{Answer}
use Rattle.mu_agree.specs.Laws.{OnlyOwnersPut, is_landing}
use Rattle.mu_model.specs.Allowed.{Needs}
use Rattle.mu_model.specs.Answers.{answer_of, drained, entered_or_lost, put_answer}
use Rattle.mu_model.specs.Entering.{enter_open, open_target}
use Rattle.mu_model.specs.Histories.{has, newest, part, since}
use Rattle.mu_model.specs.Leaderships.{begins_leadership, grant_for, is_first_ask, noted_grant, owner_is}
use Rattle.mu_model.specs.Legal.{IsLegalHistory, MayFollow}
use Rattle.mu_model.specs.Regions.{fence, fence_closing, fence_grant, fence_owner, fence_target, is_close_by, is_close_of, is_drain_by, is_drain_of, is_grant_by, is_grant_of}
use Rattle.mu_model.specs.Serving.{close_seen, drained_since_close, has_target, must_drain, names_target}
use Rattle.mu_model.proofs.Owned.{IsOwnTest, IsOwn, newest-part, since-part, has-part, begins-own}
use Rattle.std.proofs.lemmas.List.{reverse-append, append_assoc}
use mathlib.Core.List.{reverse}
use Rattle.mu_agree.proofs.Entering.{slot_entered}
use Rattle.mu_agree.proofs.Legal.{event_after, legal_induction, legal_older}
use Rattle.mu_model.proofs.Basics.{same_some}
use Rattle.mu_model.proofs.Putting.{MayEnter, put_facts, min_facts}

-- what r noted of p is a grant that was given, and while it stands r is the owner
abbrev pub NotedIs : ℕ → Option ℕ → ℕ → Option ℕ → Type 0
NotedIs r note grant owner = (g : ℕ) → note ≡ Some g → (g ≤ grant) × (g ≡ grant → owner ≡ Some r)

abbrev pub Noting : ℕ → ℕ → List Event → Type 0
Noting r p past = NotedIs r (noted_grant r p past) (fence_grant p past) (fence_owner p past)

noted_now : (r g : ℕ) (owner : Option ℕ) → owner_is r owner ≡ true → owner ≡ Some r
noted_now r g None h = cc
noted_now r g (Some w) h = ap Some (eqb-true w r h)

noting_seen : (r : ℕ) (f : Fence) → NotedIs r (grant_for r (Some f)) f.grant f.owner
noting_seen r f g e = go (not f.closing && owner_is r f.owner) refl e
  where
    go : (t : Bool) → (not f.closing && owner_is r f.owner) ≡ t → cond t (Some f.grant) None ≡ Some g → (g ≤ f.grant) × (g ≡ f.grant → f.owner ≡ Some r)
    go true h k = let i : f.grant ≡ g = same_some f.grant g k in (omega arith, λ _. noted_now r g f.owner (and_parts (not f.closing) (owner_is r f.owner) h).1)
    go false h k = cc

noting_ask : (c : Config) (r p by q : ℕ) (past : List Event) → Noting r p past → (t : Bool) → is_first_ask r by (Verb.Ask q) ≡ t → Noting r p (event_after c past by (Verb.Ask q) ∷ past)
noting_ask c r p by q past n true h = rw h (λ g e. cc)
noting_ask c r p by q past n false h = rw h n

noting_fence : (c : Config) (r p by q : ℕ) (past : List Event) → Noting r p past → (t : Bool) → ((by == r) && (q == p)) ≡ t → Noting r p (event_after c past by (Verb.Fence q) ∷ past)
noting_fence c r p by q past n true h =
    rw h (subst (λ x. NotedIs r (grant_for r (Some (fence x past))) (fence_grant p past) (fence_owner p past)) (sym (eqb-true q p (and_parts (by == r) (q == p) h).1)) (noting_seen r (fence p past)))
noting_fence c r p by q past n false h = rw h n

noting_grant : (c : Config) (r p by w : ℕ) (past : List Event) → Noting r p past → (t : Bool) → (by == p) ≡ t → Noting r p (event_after c past by (Verb.Grant w) ∷ past)
noting_grant c r p by w past n true h = rw h (λ g e. (omega (arith, (n g e).0), λ k. absurd (omega (arith, (n g e).0))))
noting_grant c r p by w past n false h = rw h n

noting_step : (c : Config) (r p by : ℕ) (v : Verb) (past : List Event) → Noting r p past → Noting r p (event_after c past by v ∷ past)
noting_step c r p by (Verb.Ask q) past n = noting_ask c r p by q past n (is_first_ask r by (Verb.Ask q)) refl
noting_step c r p by (Verb.Fence q) past n = noting_fence c r p by q past n ((by == r) && (q == p)) refl
noting_step c r p by (Verb.Grant w) past n = noting_grant c r p by w past n (by == p) refl
noting_step c r p by v past n = n

pub noted_grant_is_owned : (c : Config) (r p : ℕ) (past : List Event) → IsLegalHistory c past → Noting r p past
noted_grant_is_owned c r p = legal_induction c (Noting r p) (λ g e. cc) (λ past by v h may n. noting_step c r p by v past n)

-- what r holds of a region, by its fence, the last answer of `Close` and whether it was drained since
pub record Held (r : ℕ) (owner : Option ℕ) (target : Target) (closing : Bool) (seen : Option Fence) (drained_since : Bool) : Type 0 where
  pub by_owner : owner ≡ Some r
  pub with_target : has_target target ≡ true
  pub closed : closing ≡ true → (names_target seen ≡ true) × (drained_since ≡ false)

abbrev pub last_close : ℕ → List Event → Option Fence
last_close p past = newest (λ e. close_seen p e.by e.verb e.answer) past

abbrev pub Holds : ℕ → ℕ → List Event → Type 0
Holds r p past = Held r (fence_owner p past) (fence_target p past) (fence_closing p past) (last_close p past) (drained_since_close p past)

-- a replica with an open `Enter` at p that wasn't drained since holds p
abbrev pub Opened : ℕ → ℕ → List Event → Type 0
Opened r p past = (t : Target) → open_target r p past ≡ Some t → has_target t ≡ true → drained r p past ≡ false → Holds r p past

pub grants-own : (r : ℕ) → IsOwnTest r (is_grant_of r)
grants-own r = record { own = λ e h. go e.by e.verb h }
  where
    go : (by : ℕ) (v : Verb) → (by == r) ≡ false → is_grant_by r by v ≡ false
    go by (Verb.Grant w) h = h
    go by v h = refl

pub closes-own : (r : ℕ) → IsOwnTest r (is_close_of r)
closes-own r = record { own = λ e h. go e.by e.verb h }
  where
    go : (by : ℕ) (v : Verb) → (by == r) ≡ false → is_close_by r by v ≡ false
    go by Verb.Close h = h
    go by v h = refl

pub drains-own : (r : ℕ) → IsOwnTest r (is_drain_of r)
drains-own r = record { own = λ e h. go e.by e.verb h }
  where
    go : (by : ℕ) (v : Verb) → (by == r) ≡ false → is_drain_by r by v ≡ false
    go by Verb.Drain h = h
    go by v h = refl

close_seen-own : (r : ℕ) → IsOwn r (λ e. close_seen r e.by e.verb e.answer)
close_seen-own r = record { own = λ e h. go e.by e.verb e.answer h }
  where
    go : (by : ℕ) (v : Verb) (a : Answer) → (by == r) ≡ false → close_seen r by v a ≡ None
    go by Verb.Close (Answer.Seen f) h = rw h refl
    go by v a h = refl

closing-part : (r : ℕ) (past : List Event) → fence_closing r (part r past) ≡ fence_closing r past
closing-part r past = ap (has (is_close_of r)) (since-part (is_grant_of r) r (grants-own r) past) ∙ has-part (is_close_of r) r (closes-own r) (since (is_grant_of r) past)

pub drained_since-part : (r : ℕ) (past : List Event) → drained_since_close r (part r past) ≡ drained_since_close r past
drained_since-part r past = ap (has (is_drain_of r)) (since-part (is_close_of r) r (closes-own r) past) ∙ has-part (is_drain_of r) r (drains-own r) (since (is_close_of r) past)

pub last_close-part : (r : ℕ) (past : List Event) → last_close r (part r past) ≡ last_close r past
last_close-part r past = newest-part (λ e. close_seen r e.by e.verb e.answer) r (close_seen-own r) past

pub must_drain-part : (r : ℕ) (past : List Event) → must_drain r (part r past) ≡ must_drain r past
must_drain-part r past = ap (λ t. t && names_target (last_close r (part r past))) (closing-part r past) ∙ ap (λ o. fence_closing r past && names_target o) (last_close-part r past)

opened_ask : (c : Config) (r p by q : ℕ) (past : List Event) → Opened r p past → (t : Bool) → is_first_ask r by (Verb.Ask q) ≡ t → Opened r p (event_after c past by (Verb.Ask q) ∷ past)
opened_ask c r p by q past o true h = rw h (λ t e. cc)
opened_ask c r p by q past o false h = rw h o

pub no_target : (t : Target) → Some Target.None ≡ Some t → has_target t ≡ true → ⊥
no_target t e f = true≢false (sym f ∙ ap has_target (sym (same_some Target.None t e)))

opened_put_min : (c : Config) (r p by q b : ℕ) (past : List Event) → Opened r p past → (t : Bool) → ((by == r) && (q == p)) ≡ t → Opened r p (event_after c past by (Verb.PutMin q b) ∷ past)
opened_put_min c r p by q b past o true h = rw h (λ t e f g. absurd (no_target t e f))
opened_put_min c r p by q b past o false h = rw h o

opened_put_slot : (c : Config) (r p by q i b v : ℕ) (past : List Event) → Opened r p past → (t : Bool) → ((by == r) && (q == p)) ≡ t → Opened r p (event_after c past by (Verb.PutSlot q i b v) ∷ past)
opened_put_slot c r p by q i b v past o true h = rw h (λ t e f g. absurd (no_target t e f))
opened_put_slot c r p by q i b v past o false h = rw h o

opened_close : (c : Config) (r p by : ℕ) (past : List Event) → Opened r p past → (t : Bool) → (by == p) ≡ t → Opened r p (event_after c past by Verb.Close ∷ past)
opened_close c r p by past o true h =
    rw h (λ t e f g. let k = o t e f g in record {
      by_owner = k.by_owner;
      with_target = k.with_target;
      closed = λ _. (subst (λ x. has_target (fence_target x past) ≡ true) (sym (eqb-true by p h)) k.with_target, refl);
    })
opened_close c r p by past o false h = rw h o

opened_drain : (c : Config) (r p by : ℕ) (past : List Event) → Opened r p past → (t : Bool) → (by == p) ≡ t → Opened r p (event_after c past by Verb.Drain ∷ past)
opened_drain c r p by past o true h = rw h (λ t e f g. absurd (true≢false g))
opened_drain c r p by past o false h = rw h o

-- what allows a `Grant`
pub grant_needs : (c : Config) (p w : ℕ) (past : List Event) → Needs c p (part p past) (Verb.Grant w) → (fence_closing p past ≡ true) × (must_drain p past ≡ true → drained_since_close p past ≡ true)
grant_needs c p w past may =
    (sym (closing-part p past) ∙ may.1.0, λ m. sym (drained_since-part p past) ∙ may.1.1.0 (must_drain-part p past ∙ m))

pub not_granted : (p r : ℕ) (past : List Event) → Holds r p past → (fence_closing p past ≡ true) × (must_drain p past ≡ true → drained_since_close p past ≡ true) → ⊥
not_granted p r past k needs =
    let facts = k.closed needs.0 in
    true≢false (sym (needs.1 (and_from (fence_closing p past) (names_target (last_close p past)) needs.0 facts.0)) ∙ facts.1)

opened_grant : (c : Config) (r p by w : ℕ) (past : List Event) → Needs c by (part by past) (Verb.Grant w) → Opened r p past → (t : Bool) → (by == p) ≡ t → Opened r p (event_after c past by (Verb.Grant w) ∷ past)
opened_grant c r p by w past may o true h =
    rw h (λ t e f g. absurd (not_granted p r past (o t e f g) (grant_needs c p w past (subst (λ x. Needs c x (part x past) (Verb.Grant w)) (eqb-true by p h) may))))
opened_grant c r p by w past may o false h = rw h o

pub record IsEntered (note : Option ℕ) (f : Fence) : Type 0 where
  pub g : ℕ
  pub is : note ≡ Some g
  pub not_closing : f.closing ≡ false
  pub same : f.grant ≡ g

pub entered_facts : (o : Option ℕ) (f : Fence) → entered_or_lost o f ≡ Answer.Entered → IsEntered o f
entered_facts None f e = cc
entered_facts (Some g) f e = go f.closing refl (f.grant == g) refl e
  where
    go : (t : Bool) → f.closing ≡ t → (u : Bool) → (f.grant == g) ≡ u → cond (not t && u) Answer.Entered (Answer.Lost f) ≡ Answer.Entered → IsEntered (Some g) f
    go true h u k e = cc
    go false h true k e = record { g = g; is = refl; not_closing = h; same = eqb-true f.grant g k }
    go false h false k e = cc

pub enter_target : (c : Config) (r : ℕ) (past : List Event) (p : ℕ) (t : Target) → MayEnter c r past p t → has_target t ≡ true
enter_target c r past p Target.None h = absurd h.0
enter_target c r past p Target.Min h = refl
enter_target c r past p (Target.Place s) h = refl

-- who enters holds the region
pub entered_holds : (r p : ℕ) (past : List Event) → Noting r p past → entered_or_lost (noted_grant r p past) (fence p past) ≡ Answer.Entered → (fence_owner p past ≡ Some r) × (fence_closing p past ≡ false)
entered_holds r p past n e = let k = entered_facts (noted_grant r p past) (fence p past) e in ((n k.g k.is).1 (sym k.same), k.not_closing)

opened_enter : (r p by q : ℕ) (t : Target) (past : List Event) → has_target t ≡ true → Noting r p past → Opened r p past
    → (a : Answer) → entered_or_lost (noted_grant by q past) (fence q past) ≡ a → (x : Bool) → (by == r) ≡ x → (y : Bool) → (q == p) ≡ y
    → Opened r p (record { by = by; verb = Verb.Enter q t; answer = a } ∷ past)
opened_enter r p by q t past ht n o Answer.Entered e true hx true hy =
    let at_p = subst (λ z. entered_or_lost (noted_grant by z past) (fence z past) ≡ Answer.Entered) (eqb-true q p hy) e in
    let facts = entered_holds r p past n (subst (λ z. entered_or_lost (noted_grant z p past) (fence p past) ≡ Answer.Entered) (eqb-true by r hx) at_p) in
    rw (hx, hy) (λ t' e' f g. record { by_owner = facts.0; with_target = ht; closed = λ k. absurd (true≢false (sym k ∙ facts.1)) })
opened_enter r p by q t past ht n o Answer.Entered e false hx true hy =
    rw (hx, hy) (λ t' e' f g. let k = o t' e' f g in record { by_owner = k.by_owner; with_target = ht; closed = k.closed })
opened_enter r p by q t past ht n o Answer.Entered e true hx false hy = rw (hx, hy) o
opened_enter r p by q t past ht n o Answer.Entered e false hx false hy = rw (hx, hy) o
opened_enter r p by q t past ht n o a e true hx true hy = rw (hx, hy) (λ t' e' f g. absurd (no_target t' e' f))
opened_enter r p by q t past ht n o a e true hx false hy = rw (hx, hy) o
opened_enter r p by q t past ht n o a e false hx y hy = rw hx o

opened_step : (c : Config) (r p by : ℕ) (v : Verb) (past : List Event) → IsLegalHistory c past → Needs c by (part by past) v → Opened r p past → Opened r p (event_after c past by v ∷ past)
opened_step c r p by (Verb.Ask q) past h may o = opened_ask c r p by q past o (is_first_ask r by (Verb.Ask q)) refl
opened_step c r p by (Verb.Enter q t) past h may o =
    opened_enter r p by q t past (enter_target c by (part by past) q t may.1) (noted_grant_is_owned c r p past h) o (entered_or_lost (noted_grant by q past) (fence q past)) refl (by == r) refl (q == p) refl
opened_step c r p by (Verb.PutMin q b) past h may o = opened_put_min c r p by q b past o ((by == r) && (q == p)) refl
opened_step c r p by (Verb.PutSlot q i b v) past h may o = opened_put_slot c r p by q i b v past o ((by == r) && (q == p)) refl
opened_step c r p by Verb.Close past h may o = opened_close c r p by past o (by == p) refl
opened_step c r p by Verb.Drain past h may o = opened_drain c r p by past o (by == p) refl
opened_step c r p by (Verb.Grant w) past h may o = opened_grant c r p by w past may o (by == p) refl
opened_step c r p by v past h may o = o

pub opened_is_held : (c : Config) (r p : ℕ) (past : List Event) → IsLegalHistory c past → Opened r p past
opened_is_held c r p = legal_induction c (Opened r p) (λ t e. cc) (λ past by v h may o. opened_step c r p by v past h may.may o)

-- a region drained under this grant is closing, and was drained since it closed
abbrev pub Drained : ℕ → List Event → Type 0
Drained p past = has (is_drain_of p) (since (is_grant_of p) past) ≡ true → (fence_closing p past ≡ true) × (drained_since_close p past ≡ true)

drained_close : (c : Config) (p by : ℕ) (past : List Event) → Needs c by (part by past) Verb.Close → Drained p past → (t : Bool) → (by == p) ≡ t → Drained p (event_after c past by Verb.Close ∷ past)
drained_close c p by past may d true h =
    let k : fence_closing p past ≡ false = sym (closing-part p past) ∙ (subst (λ x. Needs c x (part x past) Verb.Close) (eqb-true by p h) may).0 in
    rw h (λ e. absurd (true≢false (sym (d e).0 ∙ k)))
drained_close c p by past may d false h = rw h d

drained_drain : (c : Config) (p by : ℕ) (past : List Event) → Needs c by (part by past) Verb.Drain → Drained p past → (t : Bool) → (by == p) ≡ t → Drained p (event_after c past by Verb.Drain ∷ past)
drained_drain c p by past may d true h =
    let k : must_drain p past ≡ true = sym (must_drain-part p past) ∙ (subst (λ x. Needs c x (part x past) Verb.Drain) (eqb-true by p h) may).0 in
    rw h (λ e. ((and_parts (fence_closing p past) (names_target (last_close p past)) k).0, refl))
drained_drain c p by past may d false h = rw h d

drained_grant : (c : Config) (p by w : ℕ) (past : List Event) → Drained p past → (t : Bool) → (by == p) ≡ t → Drained p (event_after c past by (Verb.Grant w) ∷ past)
drained_grant c p by w past d true h = rw h (λ e. absurd (true≢false (sym e)))
drained_grant c p by w past d false h = rw h d

drained_step : (c : Config) (p by : ℕ) (v : Verb) (past : List Event) → Needs c by (part by past) v → Drained p past → Drained p (event_after c past by v ∷ past)
drained_step c p by Verb.Close past may d = drained_close c p by past may d (by == p) refl
drained_step c p by Verb.Drain past may d = drained_drain c p by past may d (by == p) refl
drained_step c p by (Verb.Grant w) past may d = drained_grant c p by w past d (by == p) refl
drained_step c p by v past may d = d

pub drained_law : (c : Config) (p : ℕ) (past : List Event) → IsLegalHistory c past → Drained p past
drained_law c p = legal_induction c (Drained p) (λ e. absurd (true≢false (sym e))) (λ past by v h may d. drained_step c p by v past may.may d)

-- who may put, and isn't drained, owns the region, and nobody drained it
pub record MayLand (r p : ℕ) (past : List Event) : Type 0 where
  pub by_owner : fence_owner p past ≡ Some r
  pub undrained : has (is_drain_of p) (since (is_grant_of p) past) ≡ false

pub held_lands : (c : Config) (r p : ℕ) (past : List Event) → IsLegalHistory c past → Holds r p past → MayLand r p past
held_lands c r p past h k = record {
  by_owner = k.by_owner;
  undrained = false_from_ne_true (has (is_drain_of p) (since (is_grant_of p) past)) (λ e.
      let d = drained_law c p past h e in true≢false (sym d.1 ∙ (k.closed d.0).1));
}

enter_open-own : (r p : ℕ) → IsOwn r (λ e. enter_open r p e.by e.verb e.answer)
enter_open-own r p = record { own = λ e h. go e.by e.verb e.answer h }
  where
    go : (by : ℕ) (v : Verb) (a : Answer) → (by == r) ≡ false → enter_open r p by v a ≡ None
    go by (Verb.Enter q t) Answer.Entered h = rw h refl
    go by (Verb.Enter q t) a h = rw h refl
    go by (Verb.PutMin q b) a h = rw h refl
    go by (Verb.PutSlot q i b v) a h = rw h refl
    go by v a h = refl

pub open_target-part : (r p : ℕ) (past : List Event) → open_target r p (part r past) ≡ open_target r p past
open_target-part r p past =
    ap (newest (λ e. enter_open r p e.by e.verb e.answer)) (since-part (begins_leadership r) r (begins-own r) past)
    ∙ newest-part (λ e. enter_open r p e.by e.verb e.answer) r (enter_open-own r p) (since (begins_leadership r) past)

pub put_done_undrained : (t : Bool) → put_answer t ≡ Answer.Done → t ≡ false
put_done_undrained true e = cc
put_done_undrained false e = refl

pub min_holds : (c : Config) (r p b : ℕ) (past : List Event) → IsLegalHistory c past → Needs c r (part r past) (Verb.PutMin p b) → put_answer (drained r p past) ≡ Answer.Done → Holds r p past
min_holds c r p b past h may e = opened_is_held c r p past h Target.Min (sym (open_target-part r p past) ∙ (min_facts c r (part r past) p b may).entered) refl (put_done_undrained (drained r p past) e)

pub slot_holds : (c : Config) (r p i b v : ℕ) (past : List Event) → IsLegalHistory c past → Needs c r (part r past) (Verb.PutSlot p i b v) → put_answer (drained r p past) ≡ Answer.Done → Holds r p past
slot_holds c r p i b v past h may e = opened_is_held c r p past h (Target.Place (i % c.ring)) (sym (open_target-part r p past) ∙ slot_entered c r p i b v (part r past) (put_facts c r (part r past) p i b v may)) refl (put_done_undrained (drained r p past) e)

landing_answer : (p q b : ℕ) (a : Answer) → is_landing p (Verb.PutMin q b) a ≡ true → (a ≡ Answer.Done) × (q ≡ p)
landing_answer p q b Answer.Done e = (refl, eqb-true q p e)
landing_answer p q b a e = absurd (true≢false (sym e))

landing_slot : (p q i b v : ℕ) (a : Answer) → is_landing p (Verb.PutSlot q i b v) a ≡ true → (a ≡ Answer.Done) × (q ≡ p)
landing_slot p q i b v Answer.Done e = (refl, eqb-true q p e)
landing_slot p q i b v a e = absurd (true≢false (sym e))

lands_at : (c : Config) (p by : ℕ) (v : Verb) (past : List Event) → IsLegalHistory c past → Needs c by (part by past) v → is_landing p v (answer_of c by past v) ≡ true → Holds by p past
lands_at c p by (Verb.PutMin q b) past h may e =
    let k = landing_answer p q b (put_answer (drained by q past)) e in
    subst (λ x. Holds by x past) k.1 (min_holds c by q b past h may k.0)
lands_at c p by (Verb.PutSlot q i b v) past h may e =
    let k = landing_slot p q i b v (put_answer (drained by q past)) e in
    subst (λ x. Holds by x past) k.1 (slot_holds c by q i b v past h may k.0)
lands_at c p by v past h may e = absurd (true≢false (sym e))

pub landed : (c : Config) (p : ℕ) (e : Event) (past : List Event) → IsLegalHistory c past → MayFollow c past e → is_landing p e.verb e.answer ≡ true → MayLand e.by p past
landed c p e past h m k = held_lands c e.by p past h (lands_at c p e.by e.verb past h m.allowed.may (sym (ap (is_landing p e.verb) m.answer) ∙ k))

onlys : (c : Config) (p : ℕ) (e : Event) (newer older all : List Event) → all ≡ newer ++ (e ∷ older) → IsLegalHistory c all → is_landing p e.verb e.answer ≡ true
    → (fence_owner p older ≡ Some e.by) × (has (is_drain_of p) (since (is_grant_of p) older) ≡ false)
onlys c p e newer older all is h k =
    let legal : IsLegalHistory c (e ∷ older) = legal_older c newer (e ∷ older) (subst (IsLegalHistory c) is h) in
    let m = landed c p e older legal.0 legal.1 k in
    (m.by_owner, m.undrained)

pub reversed_at : (earlier later : List Event) (e : Event) → reverse (earlier ++ e ∷ later) ≡ reverse later ++ (e ∷ reverse earlier)
reversed_at earlier later e = reverse-append earlier (e ∷ later) ∙ ap (λ x. x ++ reverse earlier) (reverse-append (e ∷ []) later) ∙ append_assoc (reverse later) (e ∷ []) (reverse earlier)

pub only_owners_put_law : OnlyOwnersPut
only_owners_put_law c earlier later e p h k = onlys c p e (reverse later) (reverse earlier) (reverse (earlier ++ e ∷ later)) (reversed_at earlier later e) h k
