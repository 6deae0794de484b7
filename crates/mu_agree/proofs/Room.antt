-- No place is used again while a replica without a mark still has to read it.
use Rattle.std.proofs.Common.{◌≡◌, ℕ, suc, ◌+◌, ◌-◌, ◌/◌, ◌%◌, ◌<◌, ◌≤◌, ◌⊎◌, inl, inr, Bool, true, false, cond, ◌&&◌, ◌||◌, ◌==◌, List, [], ◌∷◌, ◌++◌, length, reverse, refl, sym, ◌∙◌, ap, arith, Some, None, subst, eqb-true, true≢false, set, length-set}
use Rattle.std.specs.declared.option.Option.{Option}
use Rattle.std.specs.Prelude.{nat_lt, nat_le, if◌then◌else◌}
use Rattle.std.specs.List.{slice_get}
use Rattle.std.proofs.lemmas.List.{length_push}
use Rattle.std.proofs.lemmas.Bool.{and_parts, or_cases, ltb-true, leb-true, le-leb, cases_eq}
use Rattle.mu_model.specs.declared.config.Config.{Config}
use Rattle.mu_model.specs.declared.event.Event.{Event}
use Rattle.mu_model.specs.declared.event.Verb.{Verb}
use Rattle.mu_model.specs.declared.event.Answer.{Answer}
use Rattle.mu_agree.specs.Agreement.{HeadWithinFuo, IsMarked, LogWithinFuo, LooksAreKept, PlacesAreKept}
use Rattle.mu_model.specs.Allowed.{Needs}
use Rattle.mu_model.specs.Answers.{answer_of, drained, put_answer, shown}
use Rattle.mu_model.specs.Contents.{is_mark, marked}
use Rattle.mu_model.specs.Histories.{has, history, max_with, newer_or, newest, or_zero, part}
use Rattle.mu_model.specs.Knowledge.{known}
use Rattle.mu_model.specs.Leaderships.{begins_leadership, leadership}
use Rattle.mu_model.specs.Legal.{IsLegalHistory, MayFollow}
use Rattle.mu_model.specs.Placing.{fuo_read_or_raised, is_within_ring, reaches_head}
use Rattle.mu_model.specs.Regions.{region_fuo, region_head, region_log}
use Rattle.mu_model.specs.Room.{head_read, last_head}
use Rattle.mu_agree.proofs.Legal.{event_after, legal_induction, legal_older}
use Rattle.mu_agree.proofs.Access.{reversed_at}
use Rattle.mu_agree.proofs.Slots.{put_in'}
use Rattle.mu_model.proofs.Scans.{all_at, front_length}
use Rattle.mu_agree.proofs.Landings.{at_part, has_cases, has_implied, has_since}
use Rattle.mu_agree.proofs.Landed.{lands_within, landed_within}
use Rattle.mu_agree.proofs.Choice.{chosen_somewhere}
use Rattle.mu_agree.proofs.Tame.{chosen_stays, known_longer}
use Rattle.mu_agree.proofs.Phases.{known_chosen}
use Rattle.mu_model.proofs.Putting.{IsNew, MayPutSlot, head_applied, head_reached, put_facts}

-- a mark stays
pub marked_stays : (c : Config) (q : ℕ) (e : Event) (past : List Event) → IsMarked c q past → IsMarked c q (e ∷ past)
marked_stays c q e past m = record { position = m.position; value = m.value; chosen = (m.chosen.0, chosen_stays c m.position m.chosen.0 m.value e past m.chosen.1); mark = m.mark }

pub record Marking (c : Config) (q : ℕ) (values : List ℕ) : Type 0 where
  pub at : ℕ
  pub value : ℕ
  pub is : slice_get values at ≡ Some value
  pub mark : is_mark c q value ≡ true

pub marking : (c : Config) (q : ℕ) (values : List ℕ) → marked c q values ≡ true → Marking c q values
marking c q [] h = absurd (true≢false (sym h))
marking c q (v ∷ vs) h = elim (or_cases (is_mark c q v) (marked c q vs) h) [
  | inl k ↦ record { at = 0; value = v; is = refl; mark = k }
  | inr k ↦ (let m = marking c q vs k in record { at = suc m.at; value = m.value; is = m.is; mark = m.mark })
]

-- a known mark is chosen
pub known_mark : (c : Config) (r q : ℕ) (past : List Event) → IsLegalHistory c past → marked c q (known c r (part r past)) ≡ true → IsMarked c q past
known_mark c r q past h m =
    let k = marking c q (known c r (part r past)) m in
    let x = known_chosen c r k.at k.value past h k.is in
    record { position = k.at; value = k.value; chosen = (x.b, x.is); mark = k.mark }

-- heads that were read are at most the heads
abbrev pub HeadsRead : ℕ → ℕ → List Event → Type 0
HeadsRead r q past = last_head r q (part r past) ≤ region_head q past

heads_read_own : (r q by p : ℕ) (past : List Event) → HeadsRead r q past → (t : Bool) → ((by == r) && (p == q)) ≡ t → or_zero (newer_or (cond t (Some (region_head p past)) None) (newest (λ e. head_read r q e.by e.verb e.answer) (part r past))) ≤ region_head q past
heads_read_own r q by p past s true h = let e : region_head p past ≡ region_head q past = ap (λ z. region_head z past) (eqb-true p q (and_parts (by == r) (p == q) h).1) in omega arith
heads_read_own r q by p past s false h = s

head_rises : (q h : ℕ) (past : List Event) (t : Bool) → region_head q past ≤ max_with (cond t (Some h) None) (region_head q past)
head_rises q h past true = omega arith
head_rises q h past false = omega arith

heads_step : (c : Config) (r q by : ℕ) (v : Verb) (past : List Event) → HeadsRead r q past → HeadsRead r q (event_after c past by v ∷ past)
heads_step c r q by (Verb.Head p) past s = at_part (λ J. last_head r q J ≤ region_head q past) r (event_after c past by (Verb.Head p)) past s (λ _. heads_read_own r q by p past s ((by == r) && (p == q)) refl)
heads_step c r q by (Verb.RaiseHead h) past s =
    let up = head_rises q h past (by == q) in
    let s' : last_head r q (part r past) ≤ region_head q (event_after c past by (Verb.RaiseHead h) ∷ past) = omega arith in
    at_part (λ J. last_head r q J ≤ region_head q (event_after c past by (Verb.RaiseHead h) ∷ past)) r (event_after c past by (Verb.RaiseHead h)) past s' (λ _. s')
heads_step c r q by v past s = at_part (λ J. last_head r q J ≤ region_head q past) r (event_after c past by v) past s (λ _. s)

pub heads_read : (c : Config) (r q : ℕ) (past : List Event) → IsLegalHistory c past → HeadsRead r q past
heads_read c r q = legal_induction c (HeadsRead r q) (omega arith) (λ past by v h may s. heads_step c r q by v past s)

-- no log is longer than a head and the ring, unless a mark is chosen
abbrev pub HasRoom : Config → ℕ → List Event → Type 0
HasRoom c q past = (p : ℕ) → (length (region_log p past) ≤ region_head q past + c.ring) ⊎ IsMarked c q past

-- room for a put
room_to_put : (c : Config) (q r p i b v : ℕ) (past : List Event) → q < c.replicas → IsLegalHistory c past → HasRoom c q past → MayPutSlot c r (part r past) p i b v → (i < region_head q past + c.ring) ⊎ IsMarked c q past
room_to_put c q r p i b v past l h s may = elim may.value [ inl k ↦ copy k | inr new ↦ fresh new ]
  where
    copy : slice_get (known c r (part r past)) i ≡ Some v → (i < region_head q past + c.ring) ⊎ IsMarked c q past
    copy k =
        let x = known_chosen c r i v past h k in
        let m = chosen_somewhere c i x.b v past x.is in
        let w = landed_within c m.who i x.b v past h m.passes in
        elim (s m.who) [ inl n ↦ inl (omega arith) | inr n ↦ inr n ]

    fresh : IsNew c r (part r past) i v → (i < region_head q past + c.ring) ⊎ IsMarked c q past
    fresh new =
        let a = all_at c.replicas (λ z. marked c z (known c r (part r past)) || nat_lt (i + 0) (last_head r z (part r past) + c.ring)) new.room q l in
        elim (or_cases (marked c q (known c r (part r past))) (nat_lt (i + 0) (last_head r q (part r past) + c.ring)) a) [
          | inl m ↦ inr (known_mark c r q past h m)
          | inr m ↦ (let k = ltb-true (i + 0) (last_head r q (part r past) + c.ring) m in let u = heads_read c r q past h in inl (omega arith))
        ]

pub length_put_room : (log : List (ℕ × ℕ)) (i n : ℕ) (z : ℕ × ℕ) → i ≤ length log → length log ≤ n → i < n → length (put_in' log i z) ≤ n
length_put_room log i n z l m k = go (i == length log) refl
  where
    go : (t : Bool) → (i == length log) ≡ t → length (cond t (log ++ z ∷ []) (set log i z)) ≤ n
    go true h = let x = eqb-true i (length log) h in let e = length_push log z in omega arith
    go false h = let e = length-set log i z in omega arith

room_slot : (c : Config) (q by p' j n w : ℕ) (past : List Event) → q < c.replicas → IsLegalHistory c past → Needs c by (part by past) (Verb.PutSlot p' j n w) → HasRoom c q past → (a : Answer) → HasRoom c q (record { by = by; verb = Verb.PutSlot p' j n w; answer = a } ∷ past)
room_slot c q by p' j n w past l h may s Answer.Done p = elim (room_to_put c q by p' j n w past l h s (put_facts c by (part by past) p' j n w may)) [
  | inr m ↦ inr (marked_stays c q (record { by = by; verb = Verb.PutSlot p' j n w; answer = Answer.Done }) past m)
  | inl k ↦ elim (s p) [
    | inr m ↦ inr (marked_stays c q (record { by = by; verb = Verb.PutSlot p' j n w; answer = Answer.Done }) past m)
    | inl o ↦ inl (go (p' == p) refl k o)
  ]
]
  where
    go : (t : Bool) → (p' == p) ≡ t → j < region_head q past + c.ring → length (region_log p past) ≤ region_head q past + c.ring → length (cond t (put_in' (region_log p past) j (n, w)) (region_log p past)) ≤ region_head q past + c.ring
    go true e k o = length_put_room (region_log p past) j (region_head q past + c.ring) (n, w) (subst (λ z. j ≤ length (region_log z past)) (eqb-true p' p e) (lands_within c p' by j n w past h may)) o k
    go false e k o = o
room_slot c q by p' j n w past l h may s a p = elim (s p) [ inl o ↦ inl o | inr m ↦ inr (marked_stays c q (record { by = by; verb = Verb.PutSlot p' j n w; answer = a }) past m) ]

room_step : (c : Config) (q by : ℕ) (v : Verb) (past : List Event) → q < c.replicas → IsLegalHistory c past → Needs c by (part by past) v → HasRoom c q past → HasRoom c q (event_after c past by v ∷ past)
room_step c q by (Verb.PutSlot p' j n w) past l h may s = room_slot c q by p' j n w past l h may s (put_answer (drained by p' past))
room_step c q by (Verb.RaiseHead k) past l h may s = λ p. elim (s p) [
  | inl o ↦ inl (let up = head_rises q k past (by == q) in omega arith)
  | inr m ↦ inr (marked_stays c q (event_after c past by (Verb.RaiseHead k)) past m)
]
room_step c q by v past l h may s = λ p. elim (s p) [ inl o ↦ inl o | inr m ↦ inr (marked_stays c q (event_after c past by v) past m) ]

pub room : (c : Config) (q : ℕ) (past : List Event) → q < c.replicas → IsLegalHistory c past → HasRoom c q past
room c q past l = legal_induction c (HasRoom c q) (λ p. inl (omega arith)) (λ past by v h may s. room_step c q by v past l h may.may s) past

-- a FUO of p that r read or raised is at most the FUO of p
abbrev pub CoversBelow : ℕ → ℕ → List Event → Type 0
CoversBelow r p past = (h : ℕ) → has (λ e. reaches_head h (fuo_read_or_raised r p e.by e.verb e.answer)) (part r past) ≡ true → h ≤ region_fuo p past

fuo_rises : (p u : ℕ) (past : List Event) (t : Bool) → region_fuo p past ≤ max_with (cond t (Some u) None) (region_fuo p past)
fuo_rises p u past true = omega arith
fuo_rises p u past false = omega arith

covers_read : (r p by q h : ℕ) (past : List Event) → CoversBelow r p past → (t : Bool) → ((by == r) && (q == p)) ≡ t
    → cond (reaches_head h (cond t (Some (region_fuo q past)) None)) true (has (λ e. reaches_head h (fuo_read_or_raised r p e.by e.verb e.answer)) (part r past)) ≡ true → h ≤ region_fuo p past
covers_read r p by q h past s true e m = elim (has_cases (nat_le h (region_fuo q past)) (has (λ x. reaches_head h (fuo_read_or_raised r p x.by x.verb x.answer)) (part r past)) m) [
  | inl k ↦ (let l = leb-true h (region_fuo q past) k in let x : region_fuo q past ≡ region_fuo p past = ap (λ z. region_fuo z past) (eqb-true q p (and_parts (by == r) (q == p) e).1) in omega arith)
  | inr k ↦ s h k
]
covers_read r p by q h past s false e m = s h m

covers_raise : (r p by q u h : ℕ) (past : List Event) → CoversBelow r p past → (by == r) ≡ true → (t : Bool) → (q == p) ≡ t
    → cond (reaches_head h (cond ((by == r) && t) (Some u) None)) true (has (λ e. reaches_head h (fuo_read_or_raised r p e.by e.verb e.answer)) (part r past)) ≡ true → h ≤ max_with (cond t (Some u) None) (region_fuo p past)
covers_raise r p by q u h past s hx true e = rw hx (λ m. elim (has_cases (nat_le h u) (has (λ x. reaches_head h (fuo_read_or_raised r p x.by x.verb x.answer)) (part r past)) m) [
  | inl k ↦ (let l = leb-true h u k in omega arith)
  | inr k ↦ (let l = s h k in omega arith)
])
covers_raise r p by q u h past s hx false e = rw hx (λ m. s h m)

covers_step : (c : Config) (r p by : ℕ) (v : Verb) (past : List Event) → CoversBelow r p past → CoversBelow r p (event_after c past by v ∷ past)
covers_step c r p by (Verb.Fuo q) past s h = at_part (λ J. has (λ e. reaches_head h (fuo_read_or_raised r p e.by e.verb e.answer)) J ≡ true → h ≤ region_fuo p past) r (event_after c past by (Verb.Fuo q)) past (s h) (λ _. covers_read r p by q h past s ((by == r) && (q == p)) refl)
covers_step c r p by (Verb.RaiseFuo q u) past s h =
    at_part (λ J. has (λ e. reaches_head h (fuo_read_or_raised r p e.by e.verb e.answer)) J ≡ true → h ≤ region_fuo p (event_after c past by (Verb.RaiseFuo q u) ∷ past)) r (event_after c past by (Verb.RaiseFuo q u)) past
    (λ m. let l = s h m in let up = fuo_rises p u past (q == p) in omega arith) (λ hx. covers_raise r p by q u h past s hx (q == p) refl)
covers_step c r p by v past s h = at_part (λ J. has (λ e. reaches_head h (fuo_read_or_raised r p e.by e.verb e.answer)) J ≡ true → h ≤ region_fuo p past) r (event_after c past by v) past (s h) (λ _. s h)

pub covers_below : (c : Config) (r p : ℕ) (past : List Event) → IsLegalHistory c past → CoversBelow r p past
covers_below c r p = legal_induction c (CoversBelow r p) (λ h m. absurd (true≢false (sym m))) (λ past by v h may s. covers_step c r p by v past s)

-- the head is at most the FUO
abbrev pub HeadBelow : ℕ → List Event → Type 0
HeadBelow r past = region_head r past ≤ region_fuo r past

head_raise : (c : Config) (r by k : ℕ) (past : List Event) → IsLegalHistory c past → Needs c by (part by past) (Verb.RaiseHead k) → HeadBelow r past → (t : Bool) → (by == r) ≡ t → max_with (cond t (Some k) None) (region_head r past) ≤ region_fuo r past
head_raise c r by k past h may s true hx =
    let m = subst (λ z. Needs c z (part z past) (Verb.RaiseHead k)) (eqb-true by r hx) may in
    let l = covers_below c r r past h k (head_reached c r (part r past) k m) in omega arith
head_raise c r by k past h may s false hx = s

head_step : (c : Config) (r by : ℕ) (v : Verb) (past : List Event) → IsLegalHistory c past → Needs c by (part by past) v → HeadBelow r past → HeadBelow r (event_after c past by v ∷ past)
head_step c r by (Verb.RaiseHead k) past h may s = head_raise c r by k past h may s (by == r) refl
head_step c r by (Verb.RaiseFuo q u) past h may s = let up = fuo_rises r u past (q == r) in omega arith
head_step c r by v past h may s = s

pub head_below : (c : Config) (r : ℕ) (past : List Event) → IsLegalHistory c past → HeadBelow r past
head_below c r = legal_induction c (HeadBelow r) (omega arith) (λ past by v h may s. head_step c r by v past h may.may s)

pub head_within_fuo_law : HeadWithinFuo
head_within_fuo_law c events r h = head_below c r (history events) h

-- the head is at most what is known
abbrev pub HeadKnown : Config → ℕ → List Event → Type 0
HeadKnown c r past = region_head r past ≤ length (known c r (part r past))

head_known_raise : (c : Config) (r by k : ℕ) (past : List Event) → Needs c by (part by past) (Verb.RaiseHead k) → HeadKnown c r past → (t : Bool) → (by == r) ≡ t → max_with (cond t (Some k) None) (region_head r past) ≤ length (known c r (part r past))
head_known_raise c r by k past may s true hx =
    let m = subst (λ z. Needs c z (part z past) (Verb.RaiseHead k)) (eqb-true by r hx) may in
    let l = head_applied c r (part r past) k m in
    let f = front_length c r (part r past) (known c r (part r past)) in omega arith
head_known_raise c r by k past may s false hx = s

head_known_step : (c : Config) (r by : ℕ) (v : Verb) (past : List Event) → Needs c by (part by past) v → HeadKnown c r past → HeadKnown c r (event_after c past by v ∷ past)
head_known_step c r by (Verb.RaiseHead k) past may s =
    let l = head_known_raise c r by k past may s (by == r) refl in
    at_part (λ J. region_head r (event_after c past by (Verb.RaiseHead k) ∷ past) ≤ length (known c r J)) r (event_after c past by (Verb.RaiseHead k)) past l (λ _. l)
head_known_step c r by v past may s = at_part (λ J. region_head r past ≤ length (known c r J)) r (event_after c past by v) past s (λ _. let l = known_longer c r (event_after c past by v) (part r past) in omega arith)

pub head_known : (c : Config) (r : ℕ) (past : List Event) → IsLegalHistory c past → HeadKnown c r past
head_known c r = legal_induction c (HeadKnown c r) (omega arith) (λ past by v h may s. head_known_step c r by v past may.may s)

-- what a `Past` look says
pub past_long : (ring i : ℕ) (log : List (ℕ × ℕ)) (t : Bool) → nat_lt (i + ring) (length log) ≡ t → (if t then Answer.Past else shown (slice_get log i)) ≡ Answer.Past → i + ring < length log
past_long ring i log true h e = ltb-true (i + ring) (length log) h
past_long ring i log false h e = absurd (not_past (slice_get log i) e)
  where
    not_past : (o : Option (ℕ × ℕ)) → shown o ≡ Answer.Past → ⊥
    not_past None e = cc
    not_past (Some x) e = cc

pub place_kept : (c : Config) (r p i : ℕ) (past : List Event) → IsLegalHistory c past → r < c.replicas → region_head r past ≤ i → answer_of c r past (Verb.Look p i) ≡ Answer.Past → IsMarked c r past
place_kept c r p i past h l k e =
    let long = past_long c.ring i (region_log p past) (nat_lt (i + c.ring) (length (region_log p past))) refl e in
    elim (room c r past l h p) [ inl m ↦ absurd (omega arith) | inr m ↦ m ]

pub places_are_kept_law : PlacesAreKept
places_are_kept_law c events r p i h l k e = place_kept c r p i (history events) h l k e

pub look_kept : (c : Config) (p i : ℕ) (e : Event) (older : List Event) → IsLegalHistory c older → MayFollow c older e → e.verb ≡ Verb.Look p i → e.answer ≡ Answer.Past
    → (region_head e.by older ≤ i) ⊎ (length (known c e.by (part e.by older)) ≤ i) → IsMarked c e.by older
look_kept c p i e older h f v a k =
    let low : region_head e.by older ≤ i = elim k [ inl x ↦ x | inr x ↦ (let y = head_known c e.by older h in omega arith) ] in
    place_kept c e.by p i older h f.allowed.replica low (ap (λ z. answer_of c e.by older z) (sym v) ∙ sym f.answer ∙ a)

look_along : (c : Config) (p i : ℕ) (e : Event) (newer older all : List Event) → all ≡ newer ++ (e ∷ older) → IsLegalHistory c all → e.verb ≡ Verb.Look p i → e.answer ≡ Answer.Past
    → (region_head e.by older ≤ i) ⊎ (length (known c e.by (part e.by older)) ≤ i) → IsMarked c e.by older
look_along c p i e newer older all is h =
    let legal : IsLegalHistory c (e ∷ older) = legal_older c newer (e ∷ older) (subst (IsLegalHistory c) is h) in
    look_kept c p i e older legal.0 legal.1

pub looks_are_kept_law : LooksAreKept
looks_are_kept_law c earlier later e p i = look_along c p i e (reverse later) (reverse earlier) (reverse (earlier ++ e ∷ later)) (reversed_at earlier later e)

-- a log is never longer than its FUO and the ring
near_reached : (i ring : ℕ) (o : Option ℕ) → is_within_ring i ring o ≡ true → reaches_head (i + 1 - ring) o ≡ true
near_reached i ring None h = absurd (true≢false (sym h))
near_reached i ring (Some u) h = let l = ltb-true i (u + ring) h in le-leb (i + 1 - ring) u (omega arith)

near_put : (c : Config) (r p i b v : ℕ) (past : List Event) → c.version ≡ 2 → IsLegalHistory c past → MayPutSlot c r (part r past) p i b v → i < region_fuo p past + c.ring
near_put c r p i b v past two h may =
    let a = has_implied (λ e. is_within_ring i c.ring (fuo_read_or_raised r p e.by e.verb e.answer)) (λ e. reaches_head (i + 1 - c.ring) (fuo_read_or_raised r p e.by e.verb e.answer)) (λ e m. near_reached i c.ring (fuo_read_or_raised r p e.by e.verb e.answer) m) (leadership r (part r past)) (may.within_ring two) in
    let l = covers_below c r p past h (i + 1 - c.ring) (has_since (λ e. reaches_head (i + 1 - c.ring) (fuo_read_or_raised r p e.by e.verb e.answer)) (begins_leadership r) (part r past) a) in omega arith

abbrev pub LogNear : Config → ℕ → List Event → Type 0
LogNear c p past = length (region_log p past) ≤ region_fuo p past + c.ring

log_put : (c : Config) (p by p' j n w : ℕ) (past : List Event) → c.version ≡ 2 → IsLegalHistory c past → Needs c by (part by past) (Verb.PutSlot p' j n w) → LogNear c p past → (a : Answer) → (t : Bool) → (p' == p) ≡ t
    → LogNear c p (record { by = by; verb = Verb.PutSlot p' j n w; answer = a } ∷ past)
log_put c p by p' j n w past two h may s Answer.Done true e =
    let k : j < region_fuo p past + c.ring = subst (λ z. j < region_fuo z past + c.ring) (eqb-true p' p e) (near_put c by p' j n w past two h (put_facts c by (part by past) p' j n w may)) in
    let within : j ≤ length (region_log p past) = subst (λ z. j ≤ length (region_log z past)) (eqb-true p' p e) (lands_within c p' by j n w past h may) in
    rw e (length_put_room (region_log p past) j (region_fuo p past + c.ring) (n, w) within s k)
log_put c p by p' j n w past two h may s Answer.Done false e = rw e s
log_put c p by p' j n w past two h may s a t e = s

log_step : (c : Config) (p by : ℕ) (v : Verb) (past : List Event) → c.version ≡ 2 → IsLegalHistory c past → Needs c by (part by past) v → LogNear c p past → LogNear c p (event_after c past by v ∷ past)
log_step c p by (Verb.PutSlot p' j n w) past two h may s = log_put c p by p' j n w past two h may s (put_answer (drained by p' past)) (p' == p) refl
log_step c p by (Verb.RaiseFuo q u) past two h may s = let up = fuo_rises p u past (q == p) in omega arith
log_step c p by v past two h may s = s

pub mark_version : (c : Config) (q v : ℕ) → is_mark c q v ≡ true → c.version ≡ 2
mark_version c q v h =
    let x = and_parts (nat_lt (v / 4096) c.replicas) ((c.version == 2) && (nat_lt q c.replicas && (v % 4096 == 4080 + q))) h in
    eqb-true c.version 2 (and_parts (c.version == 2) (nat_lt q c.replicas && (v % 4096 == 4080 + q)) x.1).0

pub log_near : (c : Config) (p : ℕ) (past : List Event) → p < c.replicas → IsLegalHistory c past → LogNear c p past
log_near c p past l h = elim (cases_eq c.version 2) [
  | inl two ↦ legal_induction c (LogNear c p) (omega arith) (λ past by v h may s. log_step c p by v past two h may.may s) past h
  | inr other ↦ elim (room c p past l h p) [ inl k ↦ (let x = head_below c p past h in omega arith) | inr m ↦ absurd (other (mark_version c p m.value m.mark)) ]
]

pub log_within_fuo_law : LogWithinFuo
log_within_fuo_law c events p h l = log_near c p (history events) l h
