-- A leadership that the least begins once it owns each region that goes on is never over.
use Rattle.std.proofs.Common.{◌≡◌, ◌⊎◌, ℕ, ◌<◌, ◌≤◌, ◌==◌, ◌&&◌, ◌||◌, not, inl, inr, Bool, true, false, cond, Some, None, List, [], ◌∷◌, ◌++◌, refl, sym, ◌∙◌, ap, arith, subst, eqb-true, true≢false, append_assoc}
use Rattle.std.specs.declared.option.Option.{Option}
use Rattle.std.specs.Prelude.{is_some}
use Rattle.std.proofs.lemmas.Bool.{and_parts, cases_lt, eq-eqb, ne_eqb, not-true}
use Rattle.mu_model.specs.declared.config.Config.{Config}
use Rattle.mu_model.specs.declared.event.Answer.{Answer}
use Rattle.mu_model.specs.declared.event.Event.{Event}
use Rattle.mu_model.specs.declared.event.Target.{Target}
use Rattle.mu_model.specs.declared.event.Verb.{Verb}
use Rattle.mu_model.specs.Allowed.{Allowed, Needs}
use Rattle.mu_model.specs.Answers.{answer_of, drained, entered_or_lost, put_answer}
use Rattle.mu_model.specs.Entering.{any_min_read, number_allowed, open_target, enter_open}
use Rattle.mu_model.specs.Histories.{greatest, has, how_many, newer_or, newest, oldest, or_zero, part, earlier_or}
use Rattle.mu_model.specs.Leaderships.{begins_leadership, fence_seen, grant_at_joining, grant_for, is_first_ask, is_over, leadership, noted_grant, number_put, owner_is, proposal_number, lands_min, ends_leadership}
use Rattle.mu_model.specs.Legal.{IsLegalHistory}
use Rattle.mu_model.specs.Regions.{fence, fence_closing, fence_grant, fence_owner, min_landed, region_min}
use Rattle.mu_model.specs.Serving.{has_target}
use Rattle.mu_model.specs.Steps.{is_asking, is_fencing}
use Rattle.mu_model.proofs.Basics.{same_number, same_some, none_some}
use Rattle.mu_model.proofs.Owned.{begins-own, IsOwn, greatest-part, since-part, noted-part}
use Rattle.mu_model.proofs.Parts.{filter-append}
use Rattle.mu_agree.specs.Laws.{is_landing}
use Rattle.mu_agree.proofs.Access.{entered_facts, landed, no_target, open_target-part}
use Rattle.mu_agree.proofs.Legal.{event_after, legal_older}
use Rattle.mu_agree.proofs.Numbers.{number-part}
use Rattle.mu_agree.specs.Moments.{AtEachStep}
use Rattle.mu_pace.proofs.Counting.{steps_before}
use Rattle.mu_alive.specs.Clearing.{Clears}
use Rattle.mu_alive.specs.Resuming.{FollowsListing, PutsFirst, is_min_of}
use Rattle.mu_alive.specs.Settling.{KeepGoing}
use Rattle.mu_alive.proofs.Beginning.{begins_now}
use Rattle.mu_alive.proofs.Clearing.{keeps_regions}
use Rattle.mu_alive.proofs.Noting.{reads_fence, some_read, NotesIt, note_step}
use Rattle.mu_alive.proofs.Settling.{goes_on_before}
use Rattle.mu_alive.proofs.TurnFences.{AtTurn, MembersHeld, OpensHeld, members_step, opens_step, over_step}
use Rattle.mu_alive.proofs.TurnOwners.{NotesStanding, closing-part, notes_step, owner-part, owner_named}

-- the event is a read by a of the minimum of p
abbrev pub reads_min : ℕ → ℕ → Event → Bool
reads_min a p e = is_min_of p e && (e.by == a)

-- a read that is in the part of a is its own
some_min : (a p : ℕ) (past : List Event) → has (is_min_of p) (part a past) ≡ true → has (reads_min a p) past ≡ true
some_min a p [] some = some
some_min a p (e ∷ past) some = go (e.by == a) refl some (some_min a p past)
  where
    here : (m t : Bool) → t ≡ true → cond m true (has (is_min_of p) (part a past)) ≡ true → (has (is_min_of p) (part a past) ≡ true → has (reads_min a p) past ≡ true) → cond (m && t) true (has (reads_min a p) past) ≡ true
    here true t h some ih = ap (λ u. cond u true (has (reads_min a p) past)) h
    here false t h some ih = ih some

    later : (t : Bool) → has (reads_min a p) past ≡ true → cond t true (has (reads_min a p) past) ≡ true
    later true h = refl
    later false h = h

    go : (t : Bool) → (e.by == a) ≡ t → has (is_min_of p) (cond t (e ∷ part a past) (part a past)) ≡ true → (has (is_min_of p) (part a past) ≡ true → has (reads_min a p) past ≡ true) → cond (is_min_of p e && (e.by == a)) true (has (reads_min a p) past) ≡ true
    go true own some ih = here (is_min_of p e) (e.by == a) own some ih
    go false own some ih = later (is_min_of p e && (e.by == a)) (ih some)

any_min_read-own : (r : ℕ) → IsOwn r (λ e. any_min_read r e.by e.verb e.answer)
any_min_read-own r = record { own = λ e h. go e.by e.verb e.answer h }
  where
    go : (by : ℕ) (v : Verb) (a : Answer) → (by == r) ≡ false → any_min_read r by v a ≡ None
    go by (Verb.Min p) (Answer.Number x) h = rw h refl
    go by v a h = refl

-- the number of a leadership is above each minimum that it read before, and below none that it reads later
pub record Bounds (number : Option ℕ) (read : Bool) (least most : ℕ) : Type 0 where
  pub before : number ≡ None → read ≡ true → least ≤ most
  pub after : (b : ℕ) → number ≡ Some b → least ≤ b

abbrev pub CountsMin : ℕ → ℕ → List Event → Type 0
CountsMin a p past = Bounds (proposal_number a past) (has (reads_min a p) (leadership a past)) (region_min p past) (greatest (λ e. any_min_read a e.by e.verb e.answer) (leadership a past))

counts_ask : (c : Config) (a p by q : ℕ) (past : List Event) → CountsMin a p past → (t : Bool) → is_first_ask a by (Verb.Ask q) ≡ t → CountsMin a p (event_after c past by (Verb.Ask q) ∷ past)
counts_ask c a p by q past s true h = rw h (record { before = λ n r. absurd (true≢false (sym r)); after = λ b n. cc })
counts_ask c a p by q past s false h = rw h (record { before = s.before; after = s.after })

counts_read : (c : Config) (a p by q : ℕ) (past : List Event) → CountsMin a p past → (t : Bool) → (by == a) ≡ t → (u : Bool) → (q == p) ≡ u → CountsMin a p (event_after c past by (Verb.Min q) ∷ past)
counts_read c a p by q past s true ht true hu = rw (ht, hu) (record { before = λ n r. (let same = ap (λ x. region_min x past) (eqb-true q p hu) in omega (arith, same)); after = s.after })
counts_read c a p by q past s true ht false hu = rw (ht, hu) (record { before = λ n r. (let l = s.before n r in omega (arith, l)); after = s.after })
counts_read c a p by q past s false ht true hu = rw (ht, hu) (record { before = s.before; after = s.after })
counts_read c a p by q past s false ht false hu = rw (ht, hu) (record { before = s.before; after = s.after })

-- what the put of a number gives
record PutsWell (a p by b : ℕ) (lands : Bool) (number : Option ℕ) (least : ℕ) : Type 0 where
  own : lands ≡ true → by ≡ a
  first : (by == a) ≡ true → number ≡ None → least ≤ b
  same : (by == a) ≡ true → (x : ℕ) → number ≡ Some x → b ≡ x

counts_put : (a p by q b : ℕ) (answer : Answer) (past : List Event) → CountsMin a p past → PutsWell a p by b (is_landing p (Verb.PutMin q b) answer) (proposal_number a past) (region_min p past) → CountsMin a p (record { by = by; verb = Verb.PutMin q b; answer = answer } ∷ past)
counts_put a p by q b answer past s w = record { before = λ n r. early n r (by == a) refl; after = λ x n. late x n (by == a) refl }
  where
    now : List Event
    now = record { by = by; verb = Verb.PutMin q b; answer = answer } ∷ past

    -- the minimum is the number, or what it was
    least : (region_min p now ≡ b) × (is_landing p (Verb.PutMin q b) answer ≡ true) ⊎ (region_min p now ≡ region_min p past)
    least = go answer (q == p) refl
      where
        go : (y : Answer) (t : Bool) → (q == p) ≡ t → (or_zero (newer_or (min_landed p (Verb.PutMin q b) y) (newest (λ e. min_landed p e.verb e.answer) past)) ≡ b) × (is_landing p (Verb.PutMin q b) y ≡ true) ⊎ (or_zero (newer_or (min_landed p (Verb.PutMin q b) y) (newest (λ e. min_landed p e.verb e.answer) past)) ≡ region_min p past)
        go Answer.Done true h = inl (rw h refl, h)
        go Answer.Done false h = inr (rw h refl)
        go y t h = inr refl

    number : (t : Bool) → (by == a) ≡ t → proposal_number a now ≡ cond t (earlier_or (Some b) (proposal_number a past)) (proposal_number a past)
    number true h = rw h refl
    number false h = rw h refl

    some : (o : Option ℕ) → earlier_or (Some b) o ≡ None → ⊥
    some None is = cc
    some (Some x) is = cc

    early : proposal_number a now ≡ None → has (reads_min a p) (leadership a past) ≡ true → (t : Bool) → (by == a) ≡ t → region_min p now ≤ greatest (λ e. any_min_read a e.by e.verb e.answer) (leadership a past)
    early n r true h = absurd (some (proposal_number a past) (sym (number true h) ∙ n))
    early n r false h = elim least [
      | inl landed_it ↦ absurd (true≢false (sym (eq-eqb by a (w.own landed_it.1)) ∙ h))
      | inr same ↦ (let l = s.before (sym (number false h) ∙ n) r in omega (arith, l, same))
    ]

    late : (x : ℕ) → proposal_number a now ≡ Some x → (t : Bool) → (by == a) ≡ t → region_min p now ≤ x
    late x n true h = of (proposal_number a past) refl (sym (number true h) ∙ n)
      where
        of : (o : Option ℕ) → proposal_number a past ≡ o → earlier_or (Some b) o ≡ Some x → region_min p now ≤ x
        of None is e =
            let here = same_some b x e in
            let low = w.first h is in
            elim least [ inl landed_it ↦ (let l = landed_it.0 in omega (arith, l, here)) | inr same ↦ omega (arith, same, low, here) ]
        of (Some y) is e =
            let here = same_some y x e in
            let number = w.same h y is in
            let low = s.after y is in
            elim least [ inl landed_it ↦ (let l = landed_it.0 in omega (arith, l, here, number)) | inr same ↦ omega (arith, same, low, here) ]
    late x n false h = elim least [
      | inl landed_it ↦ absurd (true≢false (sym (eq-eqb by a (w.own landed_it.1)) ∙ h))
      | inr same ↦ (let l = s.after x (sym (number false h) ∙ n) in omega (arith, l, same))
    ]

counts_step : (c : Config) (a p by : ℕ) (v : Verb) (past : List Event) → CountsMin a p past → ((q b : ℕ) → v ≡ Verb.PutMin q b → PutsWell a p by b (is_landing p (Verb.PutMin q b) (answer_of c by past v)) (proposal_number a past) (region_min p past)) → CountsMin a p (event_after c past by v ∷ past)
counts_step c a p by (Verb.Ask q) past s w = counts_ask c a p by q past s (is_first_ask a by (Verb.Ask q)) refl
counts_step c a p by (Verb.Min q) past s w = counts_read c a p by q past s (by == a) refl (q == p) refl
counts_step c a p by (Verb.PutMin q b) past s w = counts_put a p by q b (put_answer (drained by q past)) past s (w q b refl)
counts_step c a p by v past s w = record { before = s.before; after = s.after }

-- a holds the region for good: what it notes, has entered and put there
pub record Holds (a p : ℕ) (past : List Event) : Type 0 where
  pub notes : NotesStanding a p past
  pub opens : OpensHeld a p past
  pub members : MembersHeld a p past
  pub noted : NotesIt a p past
  pub counts : CountsMin a p past

-- or never notes it in this leadership
pub record Shunned (noted : Option ℕ) (opened : Option Target) (joined : Option (Option ℕ)) : Type 0 where
  pub note : noted ≡ None
  pub opens : (t : Target) → opened ≡ Some t → has_target t ≡ true → ⊥
  pub members : joined ≡ None

abbrev pub Shuns : ℕ → ℕ → List Event → Type 0
Shuns a p past = Shunned (noted_grant a p past) (open_target a p past) (grant_at_joining a p past)

-- a fence that grants to a
abbrev pub grants_to : ℕ → ℕ → List Event → Bool
grants_to a p past = not (fence_closing p past) && owner_is a (fence_owner p past)

shuns_fence : (c : Config) (a p by q : ℕ) (past : List Event) → grants_to a p past ≡ false → Shuns a p past → (t : Bool) → (by == a) ≡ t → (u : Bool) → (q == p) ≡ u → Shuns a p (event_after c past by (Verb.Fence q) ∷ past)
shuns_fence c a p by q past shut s true ht true hu = rw (ht, hu) (record { note = subst (λ x. grant_for a (Some (fence x past)) ≡ None) (sym (eqb-true q p hu)) (ap (λ t. cond t (Some (fence_grant p past)) None) shut); opens = s.opens; members = s.members })
shuns_fence c a p by q past shut s true ht false hu = rw (ht, hu) (record { note = s.note; opens = s.opens; members = s.members })
shuns_fence c a p by q past shut s false ht u hu = rw ht (record { note = s.note; opens = s.opens; members = s.members })

shuns_ask : (c : Config) (a p by q : ℕ) (past : List Event) → Shuns a p past → (t : Bool) → is_first_ask a by (Verb.Ask q) ≡ t → Shuns a p (event_after c past by (Verb.Ask q) ∷ past)
shuns_ask c a p by q past s true h = rw h (record { note = refl; opens = λ t e. cc; members = refl })
shuns_ask c a p by q past s false h = rw h (record { note = s.note; opens = s.opens; members = s.members })

shuns_enter : (a p by q : ℕ) (t : Target) (past : List Event) → Shuns a p past → (answer : Answer) → entered_or_lost (noted_grant by q past) (fence q past) ≡ answer → (x : Bool) → (by == a) ≡ x → (y : Bool) → (q == p) ≡ y → Shuns a p (record { by = by; verb = Verb.Enter q t; answer = answer } ∷ past)
shuns_enter a p by q t past s Answer.Entered e true hx true hy =
    let at_p = subst (λ z. entered_or_lost (noted_grant by z past) (fence z past) ≡ Answer.Entered) (eqb-true q p hy) e in
    let at_a = subst (λ z. entered_or_lost (noted_grant z p past) (fence p past) ≡ Answer.Entered) (eqb-true by a hx) at_p in
    let k = entered_facts (noted_grant a p past) (fence p past) at_a in
    absurd (let n = sym k.is ∙ s.note in cc)
shuns_enter a p by q t past s Answer.Entered e true hx false hy = rw (hx, hy) (record { note = s.note; opens = s.opens; members = s.members })
shuns_enter a p by q t past s Answer.Entered e false hx y hy = rw hx (record { note = s.note; opens = s.opens; members = s.members })
shuns_enter a p by q t past s answer e true hx true hy = rw (hx, hy) (record { note = s.note; opens = λ t' e' f. absurd (no_target t' e' f); members = s.members })
shuns_enter a p by q t past s answer e true hx false hy = rw (hx, hy) (record { note = s.note; opens = s.opens; members = s.members })
shuns_enter a p by q t past s answer e false hx y hy = rw hx (record { note = s.note; opens = s.opens; members = s.members })

shuns_put_slot : (c : Config) (a p by q i b v : ℕ) (past : List Event) → Shuns a p past → (t : Bool) → ((by == a) && (q == p)) ≡ t → Shuns a p (event_after c past by (Verb.PutSlot q i b v) ∷ past)
shuns_put_slot c a p by q i b v past s true h = rw h (record { note = s.note; opens = λ t e f. absurd (no_target t e f); members = s.members })
shuns_put_slot c a p by q i b v past s false h = rw h (record { note = s.note; opens = s.opens; members = s.members })

shuns_put_min : (c : Config) (a p by q b : ℕ) (past : List Event) → Needs c by (part by past) (Verb.PutMin q b) → Shuns a p past → (answer : Answer) → (x : Bool) → (by == a) ≡ x → (y : Bool) → (q == p) ≡ y → Shuns a p (record { by = by; verb = Verb.PutMin q b; answer = answer } ∷ past)
shuns_put_min c a p by q b past may s answer true hx true hy =
    let at_a = subst (λ z. Needs c z (part z past) (Verb.PutMin q b)) (eqb-true by a hx) may in
    let at_p = subst (λ z. Needs c a (part a past) (Verb.PutMin z b)) (eqb-true q p hy) at_a in
    absurd (s.opens Target.Min (sym (open_target-part a p past) ∙ at_p.1.1.0) refl)
shuns_put_min c a p by q b past may s Answer.Done true hx false hy = rw (hx, hy) (record { note = s.note; opens = s.opens; members = s.members })
shuns_put_min c a p by q b past may s Answer.Done false hx y hy = rw hx (record { note = s.note; opens = s.opens; members = s.members })
shuns_put_min c a p by q b past may s answer true hx false hy = rw (hx, hy) (record { note = s.note; opens = s.opens; members = s.members })
shuns_put_min c a p by q b past may s answer false hx y hy = rw hx (record { note = s.note; opens = s.opens; members = s.members })

shuns_step : (c : Config) (a p by : ℕ) (v : Verb) (past : List Event) → grants_to a p past ≡ false → Needs c by (part by past) v → Shuns a p past → Shuns a p (event_after c past by v ∷ past)
shuns_step c a p by (Verb.Ask q) past shut may s = shuns_ask c a p by q past s (is_first_ask a by (Verb.Ask q)) refl
shuns_step c a p by (Verb.Fence q) past shut may s = shuns_fence c a p by q past shut s (by == a) refl (q == p) refl
shuns_step c a p by (Verb.Enter q t) past shut may s = shuns_enter a p by q t past s (entered_or_lost (noted_grant by q past) (fence q past)) refl (by == a) refl (q == p) refl
shuns_step c a p by (Verb.PutMin q b) past shut may s = shuns_put_min c a p by q b past may s (put_answer (drained by q past)) (by == a) refl (q == p) refl
shuns_step c a p by (Verb.PutSlot q i b v) past shut may s = shuns_put_slot c a p by q i b v past s ((by == a) && (q == p)) refl
shuns_step c a p by v past shut may s = record { note = s.note; opens = s.opens; members = s.members }

-- the leadership that a begins once it owns each region that goes on
pub record Begins (c : Config) (live : ℕ → Bool) (a : ℕ) (latest : List Event) (e : Event) (later newer older : List Event) : Type 0 where
  pub on : KeepGoing c live a (latest ++ (e ∷ (later ++ newer))) older
  pub clear : (p : ℕ) → p < c.replicas → live p ≡ true → Clears c live a p later newer older
  pub owns : (p : ℕ) → p < c.replicas → live p ≡ true → fence_owner p (later ++ (newer ++ older)) ≡ Some a
  pub own : e.by ≡ a
  pub asks : is_asking 0 e ≡ true
  pub listed : AtEachStep (FollowsListing c a) (part a (latest ++ (e ∷ (later ++ (newer ++ older)))))

-- the same of fewer events
pub begins_before : (c : Config) (live : ℕ → Bool) (a : ℕ) (top latest : List Event) (e : Event) (later newer older : List Event) → Begins c live a (top ++ latest) e later newer older → Begins c live a latest e later newer older
begins_before c live a top latest e later newer older k = record {
  on = goes_on_before c live a top (latest ++ (e ∷ (later ++ newer))) older (subst (λ l. KeepGoing c live a l older) (append_assoc top latest (e ∷ (later ++ newer))) k.on);
  clear = k.clear;
  owns = k.owns;
  own = k.own;
  asks = k.asks;
  listed =
      steps_before (FollowsListing c a) (part a top) (part a (latest ++ (e ∷ (later ++ (newer ++ older)))))
      (subst (AtEachStep (FollowsListing c a)) (ap (part a) (append_assoc top latest (e ∷ (later ++ (newer ++ older)))) ∙ filter-append (λ f. f.by == a) top (latest ++ (e ∷ (later ++ (newer ++ older))))) k.listed);
}

-- all events up to some later one
abbrev pub upto : List Event → Event → List Event → List Event → List Event → List Event
upto latest e later newer older = latest ++ (e ∷ (later ++ (newer ++ older)))

pub whole_of : (latest : List Event) (e : Event) (later newer older : List Event) → (latest ++ (e ∷ (later ++ newer))) ++ older ≡ upto latest e later newer older
whole_of latest e later newer older = append_assoc latest (e ∷ (later ++ newer)) older ∙ ap (λ l. latest ++ (e ∷ l)) (append_assoc later newer older)

pub legal_of : (c : Config) (live : ℕ → Bool) (a : ℕ) (latest : List Event) (e : Event) (later newer older : List Event) → Begins c live a latest e later newer older → IsLegalHistory c (upto latest e later newer older)
legal_of c live a latest e later newer older k = subst (IsLegalHistory c) (whole_of latest e later newer older) k.on.legal

-- who is none of the replicas makes no events
none_outside : (c : Config) (p : ℕ) (past : List Event) → IsLegalHistory c past → c.replicas ≤ p → part p past ≡ []
none_outside c p [] legal high = refl
none_outside c p (e ∷ past) legal high = ap (λ t. cond t (e ∷ part p past) (part p past)) (ne_eqb e.by p (λ same. (let low = legal.1.allowed.replica in omega (arith, same, low, high)))) ∙ none_outside c p past legal.0 high

-- what the fence of a region says to a stays: a region that goes on grants to it, and another makes no events
frozen : (a p : ℕ) (xs past : List Event) → part p xs ≡ [] → grants_to a p (xs ++ past) ≡ grants_to a p past
frozen a p xs past none =
    let same : part p (xs ++ past) ≡ part p past = filter-append (λ e. e.by == p) xs past ∙ ap (λ l. l ++ part p past) none in
    let closing = sym (closing-part p (xs ++ past)) ∙ ap (fence_closing p) same ∙ closing-part p past in
    let owner = sym (owner-part p (xs ++ past)) ∙ ap (fence_owner p) same ∙ owner-part p past in
    ap (λ t. not t && owner_is a (fence_owner p (xs ++ past))) closing ∙ ap (λ o. not (fence_closing p past) && owner_is a o) owner

pub grants_stay : (c : Config) (live : ℕ → Bool) (a : ℕ) (latest : List Event) (e : Event) (later newer older : List Event) → Begins c live a latest e later newer older → (p : ℕ) → p < c.replicas → live p ≡ true → (fence_owner p (upto latest e later newer older) ≡ Some a) × (fence_closing p (upto latest e later newer older) ≡ false)
grants_stay c live a latest e later newer older k p low lives =
    let all = keeps_regions c live a p (latest ++ (e ∷ [])) later newer older (subst (λ l. KeepGoing c live a l older) (sym (append_assoc latest (e ∷ []) (later ++ newer))) k.on) (k.clear p low lives) (k.owns p low lives) in
    let same : (latest ++ (e ∷ [])) ++ (later ++ (newer ++ older)) ≡ upto latest e later newer older = append_assoc latest (e ∷ []) (later ++ (newer ++ older)) in
    (ap (fence_owner p) (sym same) ∙ all.0, ap (fence_closing p) (sym same) ∙ all.2)

-- a region that doesn't go on is as it was
stays_frozen : (c : Config) (live : ℕ → Bool) (a : ℕ) (latest : List Event) (e : Event) (later newer older : List Event) → Begins c live a latest e later newer older → (p : ℕ) → (p < c.replicas → live p ≡ false) → grants_to a p (upto latest e later newer older) ≡ grants_to a p (later ++ (newer ++ older))
stays_frozen c live a latest e later newer older k p gone = ap (grants_to a p) (sym (append_assoc latest (e ∷ []) (later ++ (newer ++ older)))) ∙ frozen a p (latest ++ (e ∷ [])) (later ++ (newer ++ older)) none
  where
    first_empty : (xs ys : List Event) → xs ++ ys ≡ [] → xs ≡ []
    first_empty [] ys is = refl
    first_empty (x ∷ xs) ys is = cc

    none : part p (latest ++ (e ∷ [])) ≡ []
    none = elim (cases_lt p c.replicas) [
      | inl low ↦ first_empty (part p (latest ++ (e ∷ []))) (part p (later ++ newer)) (sym (filter-append (λ f. f.by == p) (latest ++ (e ∷ [])) (later ++ newer)) ∙ ap (part p) (append_assoc latest (e ∷ []) (later ++ newer)) ∙ k.on.quiet p low (gone low))
      | inr high ↦ first_empty (part p (latest ++ (e ∷ []))) (part p (later ++ (newer ++ older))) (sym (filter-append (λ f. f.by == p) (latest ++ (e ∷ [])) (later ++ (newer ++ older))) ∙ ap (part p) (append_assoc latest (e ∷ []) (later ++ (newer ++ older))) ∙ none_outside c p (upto latest e later newer older) (legal_of c live a latest e later newer older k) high)
    ]

-- a region that goes on grants to a
open_grants : (a p : ℕ) (past : List Event) → fence_owner p past ≡ Some a → fence_closing p past ≡ false → grants_to a p past ≡ true
open_grants a p past owns shut = rw (shut, owns, same_number a) refl

-- so whether a region grants to a stays
grants_same : (c : Config) (live : ℕ → Bool) (a : ℕ) (latest : List Event) (e : Event) (later newer older : List Event) → Begins c live a latest e later newer older → (p : ℕ) → grants_to a p (upto latest e later newer older) ≡ grants_to a p (later ++ (newer ++ older))
grants_same c live a latest e later newer older k p = elim (cases_lt p c.replicas) [
  | inl low ↦ go low (live p) refl
  | inr high ↦ stays_frozen c live a latest e later newer older k p (λ low. absurd (omega (arith, low, high)))
]
  where
    go : p < c.replicas → (t : Bool) → live p ≡ t → grants_to a p (upto latest e later newer older) ≡ grants_to a p (later ++ (newer ++ older))
    go low true lives =
        let now = grants_stay c live a latest e later newer older k p low lives in
        let clear = k.clear p low lives in
        let then = keeps_regions c live a p [] later newer older clear.on clear (k.owns p low lives) in
        open_grants a p (upto latest e later newer older) now.0 now.1 ∙ sym (open_grants a p (later ++ (newer ++ older)) then.0 then.2)
    go low false gone = stays_frozen c live a latest e later newer older k p (λ _. gone)

-- what such a grant says
record Grants (a p : ℕ) (past : List Event) : Type 0 where
  owns : fence_owner p past ≡ Some a
  open_now : fence_closing p past ≡ false

grants_parts : (a p : ℕ) (past : List Event) → grants_to a p past ≡ true → Grants a p past
grants_parts a p past is =
    let parts = and_parts (not (fence_closing p past)) (owner_is a (fence_owner p past)) is in
    record { owns = owner_named a (fence_owner p past) parts.1; open_now = not-true (fence_closing p past) parts.0 }

-- the first ask of a leadership
begins_fresh : (a : ℕ) (e : Event) (past : List Event) → begins_leadership a e ≡ true → leadership a (e ∷ past) ≡ []
begins_fresh a e past b = ap (λ t. cond t [] (e ∷ leadership a past)) b

joined_none : (a p : ℕ) (e : Event) (past : List Event) → begins_leadership a e ≡ true → grant_at_joining a p (e ∷ past) ≡ None
joined_none a p e past b = ap (λ t. cond t None (cond (lands_min a p e.by e.verb e.answer) (newer_or (grant_at_joining a p past) (Some (noted_grant a p past))) (grant_at_joining a p past))) b

noted_none : (a p : ℕ) (e : Event) (past : List Event) → begins_leadership a e ≡ true → noted_grant a p (e ∷ past) ≡ None
noted_none a p e past b = ap (λ l. grant_for a (newest (λ f. fence_seen a p f.by f.verb f.answer) l)) (begins_fresh a e past b)

opened_none : (a p : ℕ) (e : Event) (past : List Event) → begins_leadership a e ≡ true → open_target a p (e ∷ past) ≡ None
opened_none a p e past b = ap (newest (λ f. enter_open a p f.by f.verb f.answer)) (begins_fresh a e past b)

number_none : (a : ℕ) (e : Event) (past : List Event) → begins_leadership a e ≡ true → proposal_number a (e ∷ past) ≡ None
number_none a e past b = ap (oldest (λ f. number_put a f.by f.verb)) (begins_fresh a e past b)

holds_first : (a p : ℕ) (e : Event) (past : List Event) → begins_leadership a e ≡ true → fence_owner p (e ∷ past) ≡ Some a → Holds a p (e ∷ past)
holds_first a p e past b owns = record {
  notes = λ g n. absurd (none_some g (sym (noted_none a p e past b) ∙ n));
  opens = λ t o h. absurd (none_some t (sym (opened_none a p e past b) ∙ o));
  members = λ o j. absurd (none_some o (sym (joined_none a p e past b) ∙ j));
  noted = record { owns = owns; noted = λ r. absurd (true≢false (sym r ∙ ap (has (reads_fence a p)) (begins_fresh a e past b))) };
  counts = record { before = λ n r. absurd (true≢false (sym r ∙ ap (has (reads_min a p)) (begins_fresh a e past b))); after = λ x n. absurd (none_some x (sym (number_none a e past b) ∙ n)) };
}

shuns_first : (a p : ℕ) (e : Event) (past : List Event) → begins_leadership a e ≡ true → Shuns a p (e ∷ past)
shuns_first a p e past b = record { note = noted_none a p e past b; opens = λ t o h. absurd (none_some t (sym (opened_none a p e past b) ∙ o)); members = joined_none a p e past b }

-- the put of a number by a region's holder
puts_well : (c : Config) (a p by q b : ℕ) (past : List Event) → p < c.replicas → IsLegalHistory c past → Allowed c by (part by past) (Verb.PutMin q b) → fence_owner p past ≡ Some a → Holds a p past
    → ((by == a) ≡ true → FollowsListing c a (part a past) (event_after c past by (Verb.PutMin q b))) → PutsWell a p by b (is_landing p (Verb.PutMin q b) (put_answer (drained by q past))) (proposal_number a past) (region_min p past)
puts_well c a p by q b past low legal may owns s listed = record { own = own; first = first; same = same }
  where
    e : Event
    e = event_after c past by (Verb.PutMin q b)

    own : is_landing p (Verb.PutMin q b) (put_answer (drained by q past)) ≡ true → by ≡ a
    own lands = let k = landed c p e past legal (record { allowed = may; answer = refl }) lands in same_some by a (sym k.by_owner ∙ owns)

    numbered : (by == a) ≡ true → number_allowed a (part a past) b (proposal_number a past)
    numbered h = subst (number_allowed a (part a past) b) (number-part a past) ((subst (λ z. Needs c z (part z past) (Verb.PutMin q b)) (eqb-true by a h) may.may).1.1.1.1.0)

    mine : leadership a (part a past) ≡ part a (leadership a past)
    mine = since-part (begins_leadership a) a (begins-own a) past

    same : (by == a) ≡ true → (x : ℕ) → proposal_number a past ≡ Some x → b ≡ x
    same h x is = subst (number_allowed a (part a past) b) is (numbered h)

    first : (by == a) ≡ true → proposal_number a past ≡ None → region_min p past ≤ b
    first h none =
        let k = listed h in
        let puts : PutsFirst a (part a past) e = record { region = q; number = b; puts = refl; first = number-part a past ∙ none } in
        let fenced = k.fenced p low puts in
        let many = ap (how_many (is_fencing p)) mine in
        let noted = s.noted.noted (some_read a p (leadership a past) (omega (arith, fenced, many))) in
        let read = k.read p low puts (ap is_some (noted-part a p past) ∙ noted) in
        let least = s.counts.before none (some_min a p (leadership a past) (sym (ap (has (is_min_of p)) mine) ∙ read)) in
        let allowed = subst (number_allowed a (part a past) b) none (numbered h) in
        let below = allowed.2 in
        let most = ap (greatest (λ f. any_min_read a f.by f.verb f.answer)) mine ∙ greatest-part (λ f. any_min_read a f.by f.verb f.answer) a (any_min_read-own a) (leadership a past) in
        omega (arith, least, below, most)

holds_step : (c : Config) (a p by : ℕ) (v : Verb) (past : List Event) → p < c.replicas → IsLegalHistory c past → Allowed c by (part by past) v → Grants a p past → ((by == a) ≡ true → FollowsListing c a (part a past) (event_after c past by v)) → Holds a p past → Holds a p (event_after c past by v ∷ past)
holds_step c a p by v past low legal may g listed s = record {
  notes = notes_step c a p by v past (λ _. g.open_now) may.may s.notes;
  opens = opens_step c a p by v past (λ _. g.open_now) s.notes may.may s.opens;
  members = members_step c a p by v past (λ _. g.open_now) s.opens may.may s.members;
  noted = note_step c a p by v past (λ _. g.open_now) may.may s.noted;
  counts = counts_step c a p by v past s.counts (λ q b is. put v may listed q b is);
}
  where
    put : (v : Verb) → Allowed c by (part by past) v → ((by == a) ≡ true → FollowsListing c a (part a past) (event_after c past by v)) → (q b : ℕ) → v ≡ Verb.PutMin q b → PutsWell a p by b (is_landing p (Verb.PutMin q b) (answer_of c by past v)) (proposal_number a past) (region_min p past)
    put (Verb.PutMin x y) may listed q b is =
        let b_is : y ≡ b = cc in
        let q_is : x ≡ q = cc in
        subst (λ z. PutsWell a p by z (is_landing p (Verb.PutMin q z) (put_answer (drained by x past))) (proposal_number a past) (region_min p past)) b_is
        (subst (λ z. PutsWell a p by y (is_landing p (Verb.PutMin z y) (put_answer (drained by x past))) (proposal_number a past) (region_min p past)) q_is
        (puts_well c a p by x y past low legal may g.owns s listed))
    put v may listed q b is = absurd (let k = is in cc)

-- along the leadership
listed_at : (c : Config) (a : ℕ) (f : Event) (past : List Event) → AtEachStep (FollowsListing c a) (part a (f ∷ past)) → (f.by == a) ≡ true → FollowsListing c a (part a past) f
listed_at c a f past all own = (subst (AtEachStep (FollowsListing c a)) (ap (λ t. cond t (f ∷ part a past) (part a past)) own) all).1

holds_on : (c : Config) (live : ℕ → Bool) (a : ℕ) (latest : List Event) (e : Event) (later newer older : List Event) → Begins c live a latest e later newer older → (p : ℕ) → p < c.replicas → grants_to a p (later ++ (newer ++ older)) ≡ true → Holds a p (upto latest e later newer older)
holds_on c live a [] e later newer older k p low grants = holds_first a p e (later ++ (newer ++ older)) (begins_now a e k.own k.asks) (grants_parts a p (upto [] e later newer older) (grants_same c live a [] e later newer older k p ∙ grants)).owns
holds_on c live a (f ∷ latest) e later newer older k p low grants =
    let before = begins_before c live a (f ∷ []) latest e later newer older k in
    let legal = legal_of c live a (f ∷ latest) e later newer older k in
    let g = grants_parts a p (upto latest e later newer older) (grants_same c live a latest e later newer older before p ∙ grants) in
    subst (λ y. Holds a p (record { by = f.by; verb = f.verb; answer = y } ∷ upto latest e later newer older)) (sym legal.1.answer)
    (holds_step c a p f.by f.verb (upto latest e later newer older) low legal.0 legal.1.allowed g
    (λ own. subst (λ y. FollowsListing c a (part a (upto latest e later newer older)) (record { by = f.by; verb = f.verb; answer = y })) legal.1.answer (listed_at c a f (upto latest e later newer older) k.listed own))
    (holds_on c live a latest e later newer older before p low grants))

shuns_on : (c : Config) (live : ℕ → Bool) (a : ℕ) (latest : List Event) (e : Event) (later newer older : List Event) → Begins c live a latest e later newer older → (p : ℕ) → grants_to a p (later ++ (newer ++ older)) ≡ false → Shuns a p (upto latest e later newer older)
shuns_on c live a [] e later newer older k p shut = shuns_first a p e (later ++ (newer ++ older)) (begins_now a e k.own k.asks)
shuns_on c live a (f ∷ latest) e later newer older k p shut =
    let before = begins_before c live a (f ∷ []) latest e later newer older k in
    let legal = legal_of c live a (f ∷ latest) e later newer older k in
    subst (λ y. Shuns a p (record { by = f.by; verb = f.verb; answer = y } ∷ upto latest e later newer older)) (sym legal.1.answer)
    (shuns_step c a p f.by f.verb (upto latest e later newer older) (grants_same c live a latest e later newer older before p ∙ shut) legal.1.allowed.may (shuns_on c live a latest e later newer older before p shut))

-- a region of none of the replicas grants to nobody
outside_shut : (c : Config) (a p : ℕ) (past : List Event) → IsLegalHistory c past → grants_to a p past ≡ true → p < c.replicas
outside_shut c a p past legal grants = elim (cases_lt p c.replicas) [
  | inl low ↦ low
  | inr high ↦ absurd (none_some a (sym (sym (owner-part p past) ∙ ap (fence_owner p) (none_outside c p past legal high)) ∙ (grants_parts a p past grants).owns))
]

-- so what is needed at each event of a
at_leadership : (c : Config) (live : ℕ → Bool) (a : ℕ) (latest : List Event) (e : Event) (later newer older : List Event) → Begins c live a latest e later newer older → AtTurn c a (upto latest e later newer older)
at_leadership c live a latest e later newer older k = record {
  top = λ p some. top p some (grants_to a p base) refl;
  notes = λ p. notes p (grants_to a p base) refl;
  opens = λ p. opens p (grants_to a p base) refl;
  members = λ p. members p (grants_to a p base) refl;
  within = λ p b some is. within p b some is (grants_to a p base) refl;
}
  where
    base : List Event
    base = later ++ (newer ++ older)

    now : List Event
    now = upto latest e later newer older

    holds : (p : ℕ) → grants_to a p base ≡ true → Holds a p now
    holds p is = holds_on c live a latest e later newer older k p (outside_shut c a p base (legal_older c (latest ++ (e ∷ [])) base (subst (IsLegalHistory c) (sym (append_assoc latest (e ∷ []) base)) (legal_of c live a latest e later newer older k))) is) is

    shuns : (p : ℕ) → grants_to a p base ≡ false → Shuns a p now
    shuns p is = shuns_on c live a latest e later newer older k p is

    unnoted : (p : ℕ) → grants_to a p base ≡ false → is_some (noted_grant a p now) ≡ true → ⊥
    unnoted p is some = true≢false (sym some ∙ ap is_some (shuns p is).note)

    top : (p : ℕ) → is_some (noted_grant a p now) ≡ true → (t : Bool) → grants_to a p base ≡ t → fence_closing p now ≡ false
    top p some true is = (grants_parts a p now (grants_same c live a latest e later newer older k p ∙ is)).open_now
    top p some false is = absurd (unnoted p is some)

    notes : (p : ℕ) → (t : Bool) → grants_to a p base ≡ t → NotesStanding a p now
    notes p true is = (holds p is).notes
    notes p false is = λ g n. absurd (none_some g (sym (shuns p is).note ∙ n))

    opens : (p : ℕ) → (t : Bool) → grants_to a p base ≡ t → OpensHeld a p now
    opens p true is = (holds p is).opens
    opens p false is = λ t o h. absurd ((shuns p is).opens t o h)

    members : (p : ℕ) → (t : Bool) → grants_to a p base ≡ t → MembersHeld a p now
    members p true is = (holds p is).members
    members p false is = λ o j. absurd (none_some o (sym (shuns p is).members ∙ j))

    within : (p b : ℕ) → is_some (noted_grant a p now) ≡ true → proposal_number a now ≡ Some b → (t : Bool) → grants_to a p base ≡ t → region_min p now ≤ b
    within p b some is true grants = (holds p grants).counts.after b is
    within p b some is false shut = absurd (unnoted p shut some)

-- the leadership isn't over
pub endures : (c : Config) (live : ℕ → Bool) (a : ℕ) (latest : List Event) (e : Event) (later newer older : List Event) → Begins c live a latest e later newer older → is_over a (upto latest e later newer older) ≡ false
endures c live a [] e later newer older k = ap (λ t. cond t false (ends_leadership a (later ++ (newer ++ older)) e.by e.verb e.answer || is_over a (later ++ (newer ++ older)))) (begins_now a e k.own k.asks)
endures c live a (f ∷ latest) e later newer older k =
    let before = begins_before c live a (f ∷ []) latest e later newer older k in
    let legal = legal_of c live a (f ∷ latest) e later newer older k in
    subst (λ y. is_over a (record { by = f.by; verb = f.verb; answer = y } ∷ upto latest e later newer older) ≡ false) (sym legal.1.answer)
    (over_step c a f.by f.verb (upto latest e later newer older) (λ own. at_leadership c live a latest e later newer older before) legal.1.allowed.may (endures c live a latest e later newer older before))

-- and each fence that it reads of a region that goes on notes a grant
pub notes_live : (c : Config) (live : ℕ → Bool) (a : ℕ) (latest : List Event) (e : Event) (later newer older : List Event) → Begins c live a latest e later newer older → (p : ℕ) → p < c.replicas → live p ≡ true → has (reads_fence a p) (leadership a (upto latest e later newer older)) ≡ true → is_some (noted_grant a p (upto latest e later newer older)) ≡ true
notes_live c live a latest e later newer older k p low lives read =
    let now = grants_stay c live a latest e later newer older k p low lives in
    (holds_on c live a latest e later newer older k p low (sym (grants_same c live a latest e later newer older k p) ∙ open_grants a p (upto latest e later newer older) now.0 now.1)).noted.noted read
