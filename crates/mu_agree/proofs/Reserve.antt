-- Batches leave places for marks, and so a replica without a mark can always be marked.
use Rattle.std.proofs.Common.{Bool, false, ◌≡◌, ℕ, zero, suc, ◌+◌, ◌-◌, ◌%◌, ◌<◌, ◌≤◌, ◌⊎◌, inl, inr, true, ◌&&◌, ◌||◌, ◌==◌, List, [], ◌∷◌, drop, length, sym, ◌∙◌, ap, arith, Some, None, subst, eqb-true, true≢false}
use Rattle.std.specs.Prelude.{is_none, nat_lt}
use Rattle.std.specs.List.{slice_get, IsDistinct}
use Rattle.std.proofs.lemmas.Map.Steps.{length-le_from_distinct_below}
use Rattle.std.proofs.lemmas.Map.Keys.{IsDistinct-cons}
use Rattle.std.proofs.lemmas.List.{length-drop}
use Rattle.std.specs.List.{list_any}
use Rattle.std.proofs.lemmas.Bool.{and_parts, and_from, or_cases, ltb-true, cases_lt}
use Rattle.std.proofs.Math.Dec.{eqb}
use Rattle.mu_model.specs.declared.config.Config.{Config}
use Rattle.mu_model.specs.declared.event.Event.{Event}
use Rattle.mu_model.specs.declared.event.Verb.{Verb}
use Rattle.mu_model.specs.declared.event.Answer.{Answer}
use Rattle.mu_agree.specs.Agreement.{IsMarked}
use Rattle.mu_agree.specs.Reserve.{BatchesLeaveRoom, KnownLeavesRoom}
use Rattle.mu_agree.specs.Possible.{PartHeadsLeaveRoom}
use Rattle.mu_model.specs.Allowed.{Needs}
use Rattle.mu_model.specs.Answers.{drained, put_answer}
use Rattle.mu_model.specs.Chosen.{IsChosen}
use Rattle.mu_model.specs.Contents.{IsConfig, is_batch, is_mark, marked}
use Rattle.mu_model.specs.Histories.{history, part}
use Rattle.mu_model.specs.Knowledge.{known}
use Rattle.mu_model.specs.Legal.{IsLegalHistory}
use Rattle.mu_model.specs.Picks.{highest_accepted}
use Rattle.mu_model.specs.Regions.{head_raised, region_head}
use Rattle.mu_model.specs.Room.{has_room, last_head, reserve}
use Rattle.mu_agree.proofs.Legal.{event_after, legal_induction}
use Rattle.mu_agree.proofs.Landings.{has_cases}
use Rattle.mu_agree.proofs.Choice.{Found, none_accepted, takes_highest}
use Rattle.mu_agree.proofs.Early.{PutValue, copies_known, repeats_offer, offers_first, put_value}
use Rattle.mu_agree.proofs.Phases.{known_chosen, one_chosen}
use Rattle.mu_agree.proofs.Prefixes.{greatest_along}
use Rattle.mu_agree.proofs.Room.{heads_read, known_mark, marked_stays, marking}
use Rattle.mu_agree.proofs.Sound.{Fits, all_sound, by_batch, by_mark, chosen_sound, chosen_tried, landed_tried, offered_tried, put_sound, tried}
use Rattle.mu_agree.proofs.Sessions.{is_marked, known_are_chosen, mark_place, marked_once, no_later_mark}
use Rattle.mu_agree.proofs.Possible.{answered, at_event}
use Rattle.mu_agree.proofs.Readings.{number_is}
use Rattle.mu_model.proofs.Lists.{item_below}
use Rattle.std.proofs.lemmas.Option.{slice_get_within}
use Rattle.mu_agree.proofs.Fitting.{among_keys, apart, distinct_keys, keys, keys_short, mark_within, reserve_is}
use Rattle.mu_model.proofs.Scans.{all_at}
use Rattle.mu_model.proofs.Putting.{MayPutSlot, IsNew, put_facts}

-- what holds of each position at which a value that passes the test was put
abbrev EachTried : (ℕ → Bool) → (ℕ → List Event → Type 0) → List Event → Type 0
EachTried test P past = (i v : ℕ) → tried i v past ≡ true → test v ≡ true → P i past

-- it stays
abbrev Stays : (ℕ → List Event → Type 0) → Type 0
Stays P = (i : ℕ) (e : Event) (past : List Event) → P i past → P i (e ∷ past)

-- and holds if such a value is put where no look shows an entry
abbrev HoldsFirst : Config → (ℕ → Bool) → (ℕ → List Event → Type 0) → Type 0
HoldsFirst c test P =
    (r p i b v : ℕ) (past : List Event) → IsLegalHistory c past → MayPutSlot c r (part r past) p i b v → IsNew c r (part r past) i v → highest_accepted r i (part r past) c.replicas ≡ None → test v ≡ true → P i past

put_tried : (c : Config) (test : ℕ → Bool) (P : ℕ → List Event → Type 0) → HoldsFirst c test P → (r p i b v : ℕ) (past : List Event) → IsLegalHistory c past → EachTried test P past → MayPutSlot c r (part r past) p i b v → test v ≡ true → P i past
put_tried c test P holds r p i b v past h s may passes = elim may.value [ inl k ↦ copy k | inr new ↦ go new (put_value c r p i b v past h may) ]
  where
    copy : slice_get (known c r (part r past)) i ≡ Some v → P i past
    copy k = let x = known_chosen c r i v past h k in s i v (chosen_tried c i v past (x.b, x.is)) passes

    first : IsNew c r (part r past) i v → Found c r i b v past → P i past
    first new (none_accepted e many) = holds r p i b v past h may new e passes
    first new (takes_highest m p e at many) = s i v (landed_tried p i m v past at) passes

    go : IsNew c r (part r past) i v → PutValue c r i b v past → P i past
    go new (copies_known k) = copy k
    go new (repeats_offer o f nx j) = s i v (offered_tried i b v past o) passes
    go new (offers_first o f nx fd see) = first new fd

slot_tried : (c : Config) (test : ℕ → Bool) (P : ℕ → List Event → Type 0) → Stays P → HoldsFirst c test P → (by p j n w : ℕ) (past : List Event) → IsLegalHistory c past → Needs c by (part by past) (Verb.PutSlot p j n w) → EachTried test P past → (a : Answer)
    → EachTried test P (record { by = by; verb = Verb.PutSlot p j n w; answer = a } ∷ past)
slot_tried c test P stays holds by p j n w past h may s a i v m passes = stays i (record { by = by; verb = Verb.PutSlot p j n w; answer = a }) past (elim (has_cases ((j == i) && (w == v)) (tried i v past) m) [
  | inl k ↦ (let x = and_parts (j == i) (w == v) k in
      subst (λ z. P z past) (eqb-true j i x.0)
      (put_tried c test P holds by p j n w past h s (put_facts c by (part by past) p j n w may) (subst (λ z. test z ≡ true) (sym (eqb-true w v x.1)) passes)))
  | inr k ↦ s i v k passes
])

tried_step : (c : Config) (test : ℕ → Bool) (P : ℕ → List Event → Type 0) → Stays P → HoldsFirst c test P → (by : ℕ) (v : Verb) (past : List Event) → IsLegalHistory c past → Needs c by (part by past) v → EachTried test P past → EachTried test P (event_after c past by v ∷ past)
tried_step c test P stays holds by (Verb.PutSlot p j n w) past h may s = slot_tried c test P stays holds by p j n w past h may s (put_answer (drained by p past))
tried_step c test P stays holds by v past h may s = λ i x m passes. stays i (event_after c past by v) past (s i x m passes)

each_tried : (c : Config) (test : ℕ → Bool) (P : ℕ → List Event → Type 0) → Stays P → HoldsFirst c test P → (past : List Event) → IsLegalHistory c past → EachTried test P past
each_tried c test P stays holds = legal_induction c (EachTried test P) (λ i v m. absurd (true≢false (sym m))) (λ past by v h may s. tried_step c test P stays holds by v past h may.may s)

head_rises : (q : ℕ) (e : Event) (past : List Event) → region_head q past ≤ region_head q (e ∷ past)
head_rises q e past = greatest_along (λ f. head_raised q f.by f.verb) (e ∷ []) past

-- a head that was read leaves room for i and some more, unless a mark is known
read_room : (c : Config) (r q i free : ℕ) (past : List Event) → q < c.replicas → IsLegalHistory c past → has_room c r (part r past) i free ≡ true → (i + free < region_head q past + c.ring) ⊎ (marked c q (known c r (part r past)) ≡ true)
read_room c r q i free past l h room =
    let a = all_at c.replicas (λ z. marked c z (known c r (part r past)) || nat_lt (i + free) (last_head r z (part r past) + c.ring)) room q l in
    elim (or_cases (marked c q (known c r (part r past))) (nat_lt (i + free) (last_head r q (part r past) + c.ring)) a) [
      | inl m ↦ inr m
      | inr m ↦ (let k = ltb-true (i + free) (last_head r q (part r past) + c.ring) m in let u = heads_read c r q past h in inl (omega arith))
    ]

-- a position leaves the reserve below the head of q and the ring, unless q has a mark
abbrev LeavesReserve : Config → ℕ → ℕ → List Event → Type 0
LeavesReserve c q i past = (i + reserve c < region_head q past + c.ring) ⊎ IsMarked c q past

reserve_stays : (c : Config) (q : ℕ) → Stays (LeavesReserve c q)
reserve_stays c q i e past (inl l) = inl (let up = head_rises q e past in omega arith)
reserve_stays c q i e past (inr m) = inr (marked_stays c q e past m)

-- that of a batch does
batch_first : (c : Config) (q : ℕ) → q < c.replicas → HoldsFirst c (is_batch c) (LeavesReserve c q)
batch_first c q l r p i b v past h may new e batch =
    elim (read_room c r q i (reserve c) past l h (new.reserve_kept (and_from (is_batch c v) (is_none (highest_accepted r i (part r past) c.replicas)) batch (ap is_none e)))) [
      | inl k ↦ inl k
      | inr m ↦ inr (known_mark c r q past h m)
    ]

batches_leave : (c : Config) (q : ℕ) (past : List Event) → q < c.replicas → IsLegalHistory c past → EachTried (is_batch c) (LeavesReserve c q) past
batches_leave c q past l h = each_tried c (is_batch c) (LeavesReserve c q) (reserve_stays c q) (batch_first c q l) past h

-- a position below the head of q and the ring
abbrev IsInReach : Config → ℕ → ℕ → List Event → Type 0
IsInReach c q i past = i < region_head q past + c.ring

reach_stays : (c : Config) (q : ℕ) → Stays (IsInReach c q)
reach_stays c q i e past l = let up = head_rises q e past in omega arith

-- that of a mark of q is
mark_first : (c : Config) (q : ℕ) → IsConfig c → q < c.replicas → HoldsFirst c (is_mark c q) (IsInReach c q)
mark_first c q g l r p i b v past h may new e mark = elim (read_room c r q i 0 past l h new.room) [
  | inl k ↦ (omega arith)
  | inr m ↦
      let k = marking c q (known c r (part r past)) m in
      let low = slice_get_within (known c r (part r past)) k.at k.value k.is in
      let next = new.next in
      absurd (no_later_mark c q k.at i k.value v past g h (known_are_chosen c r past h k.at k.value k.is) (put_sound c r p i b v past h (all_sound c past h) may) k.mark mark (omega (arith, low, next)))
]

marks_reach : (c : Config) (q : ℕ) (past : List Event) → IsConfig c → q < c.replicas → IsLegalHistory c past → EachTried (is_mark c q) (IsInReach c q) past
marks_reach c q past g l h = each_tried c (is_mark c q) (IsInReach c q) (reach_stays c q) (mark_first c q g l) past h

-- what is chosen above is a mark
pub chosen_mark : (c : Config) (q i v : ℕ) (past : List Event) → IsLegalHistory c past → c.version ≡ 2 → q < c.replicas → (IsMarked c q past → ⊥) → IsChosen c past i v
    → region_head q past + c.ring ≤ i + c.replicas → (w : ℕ) × (is_mark c w v ≡ true)
chosen_mark c q i v past h two l none a high = go (chosen_sound c i v past h a).fits
  where
    go : Fits c v (chosen_sound c i v past h a).values past → (w : ℕ) × (is_mark c w v ≡ true)
    go (by_batch b w n) = elim (batches_leave c q past l h i v (chosen_tried c i v past a) b) [
      | inl k ↦ absurd (let e = reserve_is c two in omega arith)
      | inr m ↦ absurd (none m)
    ]
    go (by_mark z m n held) = (z, m)

pub batches_leave_room_law : BatchesLeaveRoom
batches_leave_room_law c events q i v h = chosen_mark c q i v (history events) h

-- whose mark v is
abbrev subject : ℕ → ℕ
subject v = v % 4096 - 4080

pub get_drop : (n : ℕ) (xs : List ℕ) (j v : ℕ) → slice_get (drop n xs) j ≡ Some v → slice_get xs (n + j) ≡ Some v
get_drop zero xs j v e = let same : j ≡ 0 + j = omega arith in subst (λ z. slice_get xs z ≡ Some v) same e
get_drop (suc n) [] j v e = cc
get_drop (suc n) (x ∷ xs) j v e = let next : suc (n + j) ≡ suc n + j = omega arith in subst (λ z. slice_get (x ∷ xs) z ≡ Some v) next (get_drop n xs j v e)

-- marks of other replicas than q that are chosen one after another are fewer than the replicas
few_marks : (c : Config) (q base : ℕ) (xs : List ℕ) (past : List Event) → IsConfig c → IsLegalHistory c past → q < c.replicas → (IsMarked c q past → ⊥)
    → ((j v : ℕ) → slice_get xs j ≡ Some v → IsChosen c past (base + j) v × ((w : ℕ) × (is_mark c w v ≡ true))) → length xs < c.replicas
few_marks c q base xs past g h l none each =
    let all : IsDistinct eqb (q ∷ keys subject xs) = IsDistinct-cons eqb q (keys subject xs) (apart subject q xs other) (distinct_keys subject xs differ) in
    let most = length-le_from_distinct_below (q ∷ keys subject xs) c.replicas all (λ z e. elim (or_cases (eqb z q) (list_any (eqb z) (keys subject xs)) e) [
      | inl x ↦ (let y = eqb-true z q x in omega arith)
      | inr x ↦ among_keys subject z c.replicas xs within x
    ]) in
    let same = keys_short subject xs in omega arith
  where
    is_subject : (w v : ℕ) → is_mark c w v ≡ true → subject v ≡ w
    is_subject w v m = let e = mark_place c w v m in omega arith

    other : (j v : ℕ) → slice_get xs j ≡ Some v → q ≡ subject v → ⊥
    other j v e same =
        let x = each j v e in
        none (record { position = base + j; value = v; chosen = x.0; mark = subst (λ z. is_mark c z v ≡ true) (sym (same ∙ is_subject x.1.0 v x.1.1)) x.1.1 })

    within : (j v : ℕ) → slice_get xs j ≡ Some v → subject v < c.replicas
    within j v e = let x = each j v e in let a = is_subject x.1.0 v x.1.1 in let b = mark_within c x.1.0 v x.1.1 in omega arith

    differ : (i j v w : ℕ) → slice_get xs i ≡ Some v → slice_get xs j ≡ Some w → i < j → subject v ≡ subject w → ⊥
    differ i j v w a b low same =
        let x = each i v a in
        let y = each j w b in
        let e : y.1.0 ≡ x.1.0 = sym (is_subject y.1.0 w y.1.1) ∙ sym same ∙ is_subject x.1.0 v x.1.1 in
        let k = marked_once c x.1.0 (base + i) (base + j) v w past g h x.0 y.0 x.1.1 (subst (λ z. is_mark c z w ≡ true) e y.1.1) in omega arith

-- a mark that r doesn't know is chosen beyond what it knows
marked_beyond : (c : Config) (q r : ℕ) (past : List Event) → IsLegalHistory c past → marked c q (known c r (part r past)) ≡ false → (m : IsMarked c q past) → length (known c r (part r past)) ≤ m.position
marked_beyond c q r past h unmarked m = elim (cases_lt m.position (length (known c r (part r past)))) [
  | inl l ↦
      let x = item_below (known c r (part r past)) m.position l in
      let k = known_chosen c r m.position x.0 past h x.1 in
      let is : m.value ≡ x.0 = one_chosen c m.position m.chosen.0 m.value k.b x.0 past h m.chosen.1 k.is in
      absurd (true≢false (sym (is_marked c q (known c r (part r past)) m.position x.0 x.1 (subst (λ z. is_mark c q z ≡ true) is m.mark)) ∙ unmarked))
  | inr k ↦ k
]

-- one more place is left above each known list
pub known_leaves : (c : Config) (q r : ℕ) (past : List Event) → IsConfig c → IsLegalHistory c past → c.version ≡ 2 → q < c.replicas → marked c q (known c r (part r past)) ≡ false → length (known c r (part r past)) + 1 ≤ region_head q past + c.ring
known_leaves c q r past g h two l unmarked = elim (cases_lt (length (known c r (part r past))) (region_head q past + c.ring)) [ inl k ↦ (omega arith) | inr k ↦ absurd (full k) ]
  where
    base : ℕ
    base = region_head q past + c.ring - c.replicas

    full : region_head q past + c.ring ≤ length (known c r (part r past)) → ⊥
    full k =
        let none : IsMarked c q past → ⊥ = λ m.
        (let a = marked_beyond c q r past h unmarked m in
        let b = marks_reach c q past g l h m.position m.value (chosen_tried c m.position m.value past m.chosen) m.mark in omega arith) in
        let few = few_marks c q base (drop base (known c r (part r past))) past g h l none (λ j v e.
        let a = known_are_chosen c r past h (base + j) v (get_drop base (known c r (part r past)) j v e) in
        (a, chosen_mark c q (base + j) v past h two l none a (omega arith))) in
        let n = length-drop base (known c r (part r past)) in
        let ring = g.ring.0 in let replicas = g.replicas.1 in omega arith

pub known_leaves_room_law : KnownLeavesRoom
known_leaves_room_law c events q r g h = known_leaves c q r (history events) g h

-- so does a head that was read
pub part_heads_leave_room_law : PartHeadsLeaveRoom
part_heads_leave_room_law c r q h mine e g poss two v a unmarked =
    let s = at_event c r mine e poss in
    let is : h ≡ region_head q s.older = number_is h (region_head q s.older) (sym a ∙ answered c r mine e (Verb.Head q) poss v) in
    let low : q < c.replicas = (subst (λ z. Needs c e.by (part e.by s.older) z) v s.follows.allowed.may).0 in
    let k = known_leaves c q r s.older g s.legal two low (subst (λ z. marked c q (known c r z) ≡ false) (sym s.part_is) unmarked) in
    let same : length (known c r (part r s.older)) ≡ length (known c r mine) = ap (λ z. length (known c r z)) s.part_is in
    omega (arith, is, k, same)
