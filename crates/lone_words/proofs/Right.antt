-- Whatever a legal list leaves under a name may stand there.
use Rattle.std.proofs.Common.{◌≡◌, ◌∙◌, ℕ, suc, zero, ◌+◌, ◌-◌, ◌*◌, ◌/◌, ◌%◌, ◌<◌, ◌≤◌, ◌==◌, ◌&&◌, ◌||◌, Bool, true, false, cond, List, [], ◌∷◌, None, Some, ap, arith, eqb-true, eq-eqb, inl, inr, length, refl, subst, sym}
use Rattle.std.specs.Prelude.{nat_lt, ◌⊎◌}
use Rattle.std.specs.declared.option.Option.{Option}
use Rattle.std.specs.List.{slice_get}
use Rattle.std.proofs.lemmas.Bool.{lt-ltb, le-leb, ne_eqb, ltb-true, and_parts}
use Rattle.std.proofs.Math.Nat.{div-add-mod}
use Rattle.mu_model.specs.declared.config.Config.{Config}
use Rattle.mu_model.specs.declared.event.Answer.{Answer}
use Rattle.mu_model.specs.declared.event.Event.{Event}
use Rattle.mu_model.specs.declared.event.Target.{Target}
use Rattle.mu_model.specs.declared.event.Verb.{Verb}
use Rattle.mu_model.specs.Allowed.{Allowed, Needs}
use Rattle.mu_model.specs.Answers.{drained, put_answer}
use Rattle.mu_model.specs.Contents.{IsConfig, StandsForEntry, config_word, is_batch, is_mark, row_count}
use Rattle.mu_model.specs.Entering.{number_allowed}
use Rattle.mu_model.specs.Histories.{how_many, newer_or, newest, or_zero, part}
use Rattle.mu_model.specs.Leaderships.{proposal_number}
use Rattle.mu_model.specs.Legal.{IsLegalHistory}
use Rattle.mu_model.specs.Regions.{asks, beats, fence, fence_closing, fence_grant, fence_owner, fence_target, is_ask_by, is_beat_by, is_grant_of, region_fuo, region_head, region_log, region_min, word_written}
use Rattle.mu_model.specs.Room.{reserve}
use Rattle.mu_model.proofs.Basics.{same_some}
use Rattle.mu_model.proofs.Budgets.{part_within_budget}
use Rattle.mu_model.proofs.Counts.{how_many_within}
use Rattle.mu_model.proofs.Lists.{item_below}
use Rattle.mu_model.proofs.Owned.{IsOwnTest, asks-own, beats-own, how_many-part}
use Rattle.mu_model.proofs.Putting.{min_facts, put_facts}
use Rattle.mu_agree.proofs.Access.{grants-own}
use Rattle.mu_agree.proofs.Landings.{no_gaps}
use Rattle.mu_agree.proofs.Legal.{event_after, legal_induction}
use Rattle.mu_agree.proofs.Numbers.{number-part, numbered}
use Rattle.mu_agree.proofs.Room.{head_below}
use Rattle.mu_agree.proofs.Sessions.{fits_stands}
use Rattle.mu_agree.proofs.Slots.{get_put}
use Rattle.mu_agree.proofs.Sound.{all_sound, put_sound}
use Rattle.mu_words.specs.declared.layout.Name.{Name}
use Rattle.mu_words.specs.declared.words.SlotWord.{SlotWord}
use Rattle.mu_words.specs.Finding.{name_of}
use Rattle.mu_words.specs.Founds.{IsInRing}
use Rattle.mu_words.specs.Standing.{fields, fence_word, place_fields, place_fields_below, stamp, standing_word}
use Rattle.mu_words.specs.Words.{closing_code, fence_in, owner_code, owner_from, slot_in, target_code, target_from}
use Rattle.mu_words.proofs.Fitting.{ring_targets, verb_fits}
use Rattle.mu_words.proofs.Limits.{Limits, config_is_limited}
use Rattle.lone_words.specs.Right.{StandingMayStand, below_stamp, is_entry, is_fence, is_min, is_number, is_owner, is_payload, is_slot, is_target, may_be_told, reads_row}

-- counts of a replica's own events are at most its budget
own_count : (c : Config) (test : Event → Bool) (r : ℕ) (past : List Event) → IsLegalHistory c past → IsOwnTest r test → how_many test past ≤ c.budget
own_count c test r past legal own =
    let same = how_many-part test r own past in
    let few = how_many_within test (part r past) in
    let short = part_within_budget c r past legal in
    omega (arith, same, few, short)

-- the owner of a fence
abbrev OwnerIn : Config → ℕ → List Event → Type 0
OwnerIn c p past = is_owner c (fence_owner p past) ≡ true

owner_grant : (c : Config) (p by w : ℕ) (past : List Event) → w < c.replicas → OwnerIn c p past → (t : Bool) → (by == p) ≡ t → OwnerIn c p (event_after c past by (Verb.Grant w) ∷ past)
owner_grant c p by w past low s true k = rw k (lt-ltb w c.replicas low)
owner_grant c p by w past low s false k = rw k s

owner_step : (c : Config) (p by : ℕ) (v : Verb) (past : List Event) → Needs c by (part by past) v → OwnerIn c p past → OwnerIn c p (event_after c past by v ∷ past)
owner_step c p by (Verb.Grant w) past may s = owner_grant c p by w past may.0 s (by == p) refl
owner_step c p by v past may s = s

owner_in : (c : Config) (p : ℕ) (past : List Event) → IsLegalHistory c past → OwnerIn c p past
owner_in c p = legal_induction c (OwnerIn c p) refl (λ past by v h may s. owner_step c p by v past may.may s)

-- a fence word shows its owner and its target
owner_small : (c : Config) (o : Option ℕ) → c.replicas ≤ 7 → is_owner c o ≡ true → owner_code o < 8
owner_small c None few is = omega arith
owner_small c (Some q) few is = let low = ltb-true q c.replicas is in omega (arith, few, low)

target_small : (c : Config) (t : Target) → c.ring ≤ 1024 → IsInRing c.ring t → target_code t < 2048
target_small c Target.None few is = omega arith
target_small c Target.Min few is = omega arith
target_small c (Target.Place s) few is = omega (arith, few, is)

bits_small : (g : ℕ) (b : Bool) (o t : ℕ) → g ≤ 131071 → o < 8 → t < 2048 → g * 32768 + closing_code b + o * 2048 + t < 4294967296
bits_small g true o t i h k = omega arith
bits_small g false o t i h k = omega arith

bits_owner : (g : ℕ) (b : Bool) (o t : ℕ) → o < 8 → t < 2048 → (g * 32768 + closing_code b + o * 2048 + t) / 2048 % 8 ≡ o
bits_owner g true o t h k = omega arith
bits_owner g false o t h k = omega arith

bits_target : (g : ℕ) (b : Bool) (o t : ℕ) → o < 8 → t < 2048 → (g * 32768 + closing_code b + o * 2048 + t) % 2048 ≡ t
bits_target g true o t h k = omega arith
bits_target g false o t h k = omega arith

owner_shown : (c : Config) (o : Option ℕ) → c.replicas ≤ 7 → is_owner c o ≡ true → is_owner c (owner_from (owner_code o)) ≡ true
owner_shown c None few is = refl
owner_shown c (Some q) few is = let low = ltb-true q c.replicas is in rw (ne_eqb q 7 (λ e. omega (arith, few, low, e))) is

target_shown : (c : Config) (t : Target) → IsInRing c.ring t → is_target c (target_from (target_code t)) ≡ true
target_shown c Target.None is = refl
target_shown c Target.Min is = refl
target_shown c (Target.Place s) is = ap (λ x. is_target c (target_from x)) (let e : s + 2 ≡ suc (suc s) = omega arith in e) ∙ lt-ltb s c.ring is

both : (a b : Bool) → a ≡ true → b ≡ true → (a && b) ≡ true
both a b p q = rw (p, q) refl

fence_law : (c : Config) (p : ℕ) (past : List Event) → Limits c → IsLegalHistory c past → is_fence c (fence_word (fence p past)) ≡ true
fence_law c p past l h =
    let owner = owner_in c p past h in
    let target = (ring_targets c p past h).0 in
    let o = owner_small c (fence_owner p past) l.replicas owner in
    let t = target_small c (fence_target p past) l.ring_most target in
    let many = own_count c (is_grant_of p) p past h (grants-own p) in
    let budget = l.budget in
    let w = fence_word (fence p past) in
    both (nat_lt w 4294967296) (is_owner c (fence_in w).owner && is_target c (fence_in w).target)
    (lt-ltb w 4294967296 (bits_small (fence_grant p past) (fence_closing p past) (owner_code (fence_owner p past)) (target_code (fence_target p past)) (omega (arith, many, budget)) o t))
    (both (is_owner c (fence_in w).owner) (is_target c (fence_in w).target)
    (ap (λ x. is_owner c (owner_from x)) (bits_owner (fence_grant p past) (fence_closing p past) (owner_code (fence_owner p past)) (target_code (fence_target p past)) o t) ∙ owner_shown c (fence_owner p past) l.replicas owner)
    (ap (λ x. is_target c (target_from x)) (bits_target (fence_grant p past) (fence_closing p past) (owner_code (fence_owner p past)) (target_code (fence_target p past)) o t) ∙ target_shown c (fence_target p past) target))

-- a number that is put is of its replica
own_of : (by b : ℕ) (mine : List Event) (o : Option ℕ) → number_allowed by mine b o → ((m : ℕ) → o ≡ Some m → m % 8 ≡ by) → b % 8 ≡ by
own_of by b mine None may own = may.0
own_of by b mine (Some x) may own = ap (λ n. n % 8) may ∙ own x refl

min_number : (c : Config) (by q b : ℕ) (past : List Event) → IsLegalHistory c past → Needs c by (part by past) (Verb.PutMin q b) → b % 8 ≡ by
min_number c by q b past h may = own_of by b (part by past) (proposal_number by (part by past)) (min_facts c by (part by past) q b may).numbered (λ m e. (numbered c by past h).own m (sym (number-part by past) ∙ e))

put_number : (c : Config) (by q i b v : ℕ) (past : List Event) → IsLegalHistory c past → Needs c by (part by past) (Verb.PutSlot q i b v) → b % 8 ≡ by
put_number c by q i b v past h may = (numbered c by past h).own b (sym (number-part by past) ∙ (put_facts c by (part by past) q i b v may).numbered)

-- the minimum
abbrev MinIn : Config → ℕ → List Event → Type 0
MinIn c p past = (region_min p past < 8388608) × (region_min p past % 8 < c.replicas)

min_put : (c : Config) (p by q b : ℕ) (past : List Event) → b < 8388608 → b % 8 < c.replicas → MinIn c p past → (a : Answer) → (y : Bool) → (q == p) ≡ y → MinIn c p (record { by = by; verb = Verb.PutMin q b; answer = a } ∷ past)
min_put c p by q b past small number s Answer.Done true k = rw k (small, number)
min_put c p by q b past small number s Answer.Done false k = rw k s
min_put c p by q b past small number s a y k = s

min_step : (c : Config) (p by : ℕ) (v : Verb) (past : List Event) → Limits c → IsLegalHistory c past → Allowed c by (part by past) v → MinIn c p past → MinIn c p (event_after c past by v ∷ past)
min_step c p by (Verb.PutMin q b) past l h may s =
    let own = min_number c by q b past h may.may in
    let low = may.replica in
    min_put c p by q b past (verb_fits c past by (Verb.PutMin q b) l h may) (omega (arith, own, low)) s (put_answer (drained by q past)) (q == p) refl
min_step c p by v past l h may s = s

min_in : (c : Config) (p : ℕ) (past : List Event) → IsConfig c → Limits c → IsLegalHistory c past → MinIn c p past
min_in c p past good l h = legal_induction c (MinIn c p) (omega arith, (let some = good.replicas.0 in omega (arith, some))) (λ past by v h may s. min_step c p by v past l h may s) past h

stamped : (st x : ℕ) → x < 140737488355328 → below_stamp (st * 140737488355328 + x) ≡ x
stamped st x low = omega (arith, low)

min_law : (c : Config) (p : ℕ) (past : List Event) → MinIn c p past → (st : ℕ) → is_min c (st * 140737488355328 + region_min p past) ≡ true
min_law c p past is st =
    let low = is.0 in
    let below = stamped st (region_min p past) (omega (arith, low)) in
    both (nat_lt (below_stamp (st * 140737488355328 + region_min p past)) 8388608) (is_number c (below_stamp (st * 140737488355328 + region_min p past)))
    (ap (λ x. nat_lt x 8388608) below ∙ lt-ltb (region_min p past) 8388608 low)
    (ap (is_number c) below ∙ lt-ltb (region_min p past % 8) c.replicas is.1)

-- the entries of a log
record EntryIn (c : Config) (i : ℕ) (y : ℕ × ℕ) : Type 0 where
  position : i ≤ row_count c + reserve c
  lap : i / c.ring < 512
  small : y.0 < 8388608
  number : y.0 % 8 < c.replicas
  short : y.1 < 32768
  value : StandsForEntry c y.1

abbrev LogIn : Config → ℕ → List Event → Type 0
LogIn c p past = (i : ℕ) (y : ℕ × ℕ) → slice_get (region_log p past) i ≡ Some y → EntryIn c i y

log_put : (c : Config) (p by q i b v : ℕ) (past : List Event) → EntryIn c i (b, v) → LogIn c p past → (a : Answer) → (t : Bool) → (q == p) ≡ t → LogIn c p (record { by = by; verb = Verb.PutSlot q i b v; answer = a } ∷ past)
log_put c p by q i b v past is s Answer.Done true k =
    rw k (λ j y at. elim (get_put (region_log p past) i j (b, v) y at) [
      | inl there ↦ s j y there
      | inr here ↦ subst (λ (z : ℕ × ℕ). EntryIn c j z) (sym here.1) (subst (λ z. EntryIn c z (b, v)) (sym here.0) is)
    ])
log_put c p by q i b v past is s Answer.Done false k = rw k s
log_put c p by q i b v past is s a t k = s

log_step : (c : Config) (p by : ℕ) (v : Verb) (past : List Event) → Limits c → IsLegalHistory c past → Allowed c by (part by past) v → LogIn c p past → LogIn c p (event_after c past by v ∷ past)
log_step c p by (Verb.PutSlot q i b v) past l h may s =
    let fits = verb_fits c past by (Verb.PutSlot q i b v) l h may in
    let own = put_number c by q i b v past h may.may in
    let low = may.replica in
    let sound = put_sound c by q i b v past h (all_sound c past h) (put_facts c by (part by past) q i b v may.may) in
    let is : EntryIn c i (b, v) = record {
      position = may.may.1.0;
      lap = fits.0;
      small = fits.1;
      number = omega (arith, own, low);
      short = fits.2;
      value = fits_stands c v sound.values past sound.fits;
    } in
    log_put c p by q i b v past is s (put_answer (drained by q past)) (q == p) refl
log_step c p by v past l h may s = s

log_in : (c : Config) (p : ℕ) (past : List Event) → Limits c → IsLegalHistory c past → LogIn c p past
log_in c p past l h = legal_induction c (LogIn c p) (λ i y at. cc) (λ past by v h may s. log_step c p by v past l h may s) past h

log_short : (c : Config) (p : ℕ) (past : List Event) → LogIn c p past → (log : List (ℕ × ℕ)) → region_log p past ≡ log → length log ≤ row_count c + reserve c + 1
log_short c p past all [] is = omega arith
log_short c p past all (x ∷ log) is =
    let last = item_below (x ∷ log) (length log) (omega arith) in
    let entry = all (length log) last.0 (ap (λ l. slice_get l (length log)) is ∙ last.1) in
    let low = entry.position in
    omega (arith, low)

-- what a place shows: nothing, or an entry of its positions
record ShowsEntry (c : Config) (log : List (ℕ × ℕ)) (s x : ℕ) : Type 0 where
  i : ℕ
  y : ℕ × ℕ
  at : slice_get log i ≡ Some y
  here : i % c.ring ≡ s
  is : x ≡ fields c.ring i y.0 y.1

shown : (c : Config) (log : List (ℕ × ℕ)) (s k : ℕ) → (place_fields_below c.ring s log k ≡ 0) ⊎ ShowsEntry c log s (place_fields_below c.ring s log k)
shown c log s zero = inl refl
shown c log s (suc k) = go (k % c.ring == s) refl (slice_get log k) refl (shown c log s k)
  where
    go : (t : Bool) → (k % c.ring == s) ≡ t → (o : Option (ℕ × ℕ)) → slice_get log k ≡ o → (place_fields_below c.ring s log k ≡ 0) ⊎ ShowsEntry c log s (place_fields_below c.ring s log k)
        → (place_fields_below c.ring s log (suc k) ≡ 0) ⊎ ShowsEntry c log s (place_fields_below c.ring s log (suc k))
    go true e None at before = inl (rw (e, at) refl)
    go true e (Some y) at before = inr (record { i = k; y = y; at = at; here = eqb-true (k % c.ring) s e; is = rw (e, at) refl })
    go false e o at before = rw e before

place_back : (ring i s : ℕ) → i % ring ≡ s → i / ring * ring + s ≡ i
place_back ring i s is = let a = div-add-mod i ring in let b = flip ring (i / ring) in omega (arith, a, b, is)
  where
    flip : (a b : ℕ) → b * a ≡ a * b
    flip a b = grind (arith)

payload_shown : (c : Config) (v : ℕ) → StandsForEntry c v → is_payload c v ≡ true
payload_shown c v (inl batch) = rw batch refl
payload_shown c v (inr mark) = go (is_batch c v) (subst (λ q. is_mark c q v ≡ true) (sym which) mark.1)
  where
    parts : (v % 4096 == 4080 + mark.0) ≡ true
    parts = (and_parts (nat_lt mark.0 c.replicas) (v % 4096 == 4080 + mark.0) (and_parts (c.version == 2) (nat_lt mark.0 c.replicas && (v % 4096 == 4080 + mark.0)) (and_parts (nat_lt (v / 4096) c.replicas) ((c.version == 2) && (nat_lt mark.0 c.replicas && (v % 4096 == 4080 + mark.0))) mark.1).1).1).1

    which : v % 4096 - 4080 ≡ mark.0
    which = let e = eqb-true (v % 4096) (4080 + mark.0) parts in omega (arith, e)

    go : (t : Bool) → is_mark c (v % 4096 - 4080) v ≡ true → (t || is_mark c (v % 4096 - 4080) v) ≡ true
    go true is = refl
    go false is = is

lap_shown : (st lap b v : ℕ) → lap < 512 → b < 8388608 → v < 32768 → (st * 140737488355328 + (lap * 274877906944 + b * 32768 + v)) / 274877906944 % 512 ≡ lap
lap_shown st lap b v h i j = omega (arith, h, i, j)

number_shown : (st lap b v : ℕ) → lap < 512 → b < 8388608 → v < 32768 → (st * 140737488355328 + (lap * 274877906944 + b * 32768 + v)) / 32768 % 8388608 ≡ b
number_shown st lap b v h i j = omega (arith, h, i, j)

value_shown : (st lap b v : ℕ) → lap < 512 → b < 8388608 → v < 32768 → (st * 140737488355328 + (lap * 274877906944 + b * 32768 + v)) % 32768 ≡ v
value_shown st lap b v h i j = omega (arith, h, i, j)

either : (a b : Bool) → b ≡ true → (a || b) ≡ true
either true b is = refl
either false b is = is

entry_law : (c : Config) (s st : ℕ) (log : List (ℕ × ℕ)) (x : ℕ) → ShowsEntry c log s x → ((i : ℕ) (y : ℕ × ℕ) → slice_get log i ≡ Some y → EntryIn c i y) → is_entry c s (slot_in (st * 140737488355328 + x)) ≡ true
entry_law c s st log x shows all =
    let i = shows.i in
    let y = shows.y in
    let entry = all i y shows.at in
    let lap = i / c.ring in
    let whole : SlotWord = slot_in (st * 140737488355328 + fields c.ring i y.0 y.1) in
    let laps = lap_shown st lap y.0 y.1 entry.lap entry.small entry.short in
    let numbers = number_shown st lap y.0 y.1 entry.lap entry.small entry.short in
    let values = value_shown st lap y.0 y.1 entry.lap entry.small entry.short in
    let back = place_back c.ring i s shows.here in
    let low = entry.position in
    ap (λ z. is_entry c s (slot_in (st * 140737488355328 + z))) shows.is
    ∙ both (nat_lt (whole.lap * c.ring + s) (row_count c + reserve c + 1)) (is_number c whole.proposal && is_payload c whole.payload)
    (ap (λ z. nat_lt (z * c.ring + s) (row_count c + reserve c + 1)) laps ∙ lt-ltb (lap * c.ring + s) (row_count c + reserve c + 1) (omega (arith, back, low)))
    (both (is_number c whole.proposal) (is_payload c whole.payload)
    (ap (is_number c) numbers ∙ lt-ltb (y.0 % 8) c.replicas entry.number)
    (ap (is_payload c) values ∙ payload_shown c y.1 entry.value))

slot_law : (c : Config) (p s : ℕ) (past : List Event) → LogIn c p past → (st : ℕ) → is_slot c s (st * 140737488355328 + place_fields c.ring s (region_log p past)) ≡ true
slot_law c p s past all st =
    let log = region_log p past in
    let x = place_fields c.ring s log in
    elim (shown c log s (length log)) [
      | inl none ↦ (let nothing : below_stamp (st * 140737488355328 + x) ≡ 0 = ap (λ z. below_stamp (st * 140737488355328 + z)) none ∙ stamped st 0 (omega arith) in rw (eq-eqb (below_stamp (st * 140737488355328 + x)) 0 nothing) refl)
      | inr shows ↦ either (below_stamp (st * 140737488355328 + x) == 0) (is_entry c s (slot_in (st * 140737488355328 + x))) (entry_law c s st log x shows all)
    ]

-- a word of a row
abbrev RowIn : Config → ℕ → ℕ → ℕ → List Event → Type 0
RowIn c r j k past = (x : ℕ) → newest (λ e. word_written r j k e.by e.verb) past ≡ Some x → x ≡ config_word c j k

row_step : (c : Config) (r j k by : ℕ) (v : Verb) (past : List Event) → Needs c by (part by past) v → RowIn c r j k past → RowIn c r j k (event_after c past by v ∷ past)
row_step c r j k by (Verb.WriteRow row word x) past may s = go ((by == r) && ((row == j) && (word == k))) refl
  where
    go : (t : Bool) → ((by == r) && ((row == j) && (word == k))) ≡ t → (y : ℕ) → newer_or (cond t (Some x) None) (newest (λ e. word_written r j k e.by e.verb) past) ≡ Some y → y ≡ config_word c j k
    go true h y is =
        let a = and_parts (by == r) ((row == j) && (word == k)) h in
        let b = and_parts (row == j) (word == k) a.1 in
        sym (same_some x y is) ∙ (may.1.1.0 ∙ (ap (λ z. config_word c z word) (eqb-true row j b.0) ∙ ap (λ z. config_word c j z) (eqb-true word k b.1)))
    go false h y is = s y is
row_step c r j k by v past may s = s

row_in : (c : Config) (r j k : ℕ) (past : List Event) → IsLegalHistory c past → RowIn c r j k past
row_in c r j k = legal_induction c (RowIn c r j k) (λ x is. cc) (λ past by v h may s. row_step c r j k by v past may.may s)

row_law : (c : Config) (r j k : ℕ) (past : List Event) → IsLegalHistory c past → ((or_zero (newest (λ e. word_written r j k e.by e.verb) past) == 0) || (or_zero (newest (λ e. word_written r j k e.by e.verb) past) == config_word c j k)) ≡ true
row_law c r j k past h = go (newest (λ e. word_written r j k e.by e.verb) past) (row_in c r j k past h)
  where
    go : (o : Option ℕ) → ((x : ℕ) → o ≡ Some x → x ≡ config_word c j k) → ((or_zero o == 0) || (or_zero o == config_word c j k)) ≡ true
    go None is = refl
    go (Some x) is = either (x == 0) (x == config_word c j k) (eq-eqb x (config_word c j k) (is x refl))

pub standing_law : StandingMayStand
standing_law c past (Name.Fence p) good h = fence_law c p past (config_is_limited c good) h
standing_law c past (Name.Min p) good h = min_law c p past (min_in c p past good (config_is_limited c good) h) (stamp c p Target.Min past)
standing_law c past (Name.Fuo p) good h =
    let stands = (no_gaps c p past h).fuo in
    let short = log_short c p past (log_in c p past (config_is_limited c good) h) (region_log p past) refl in
    le-leb (region_fuo p past) (row_count c + reserve c + 1) (omega (arith, stands, short))
standing_law c past (Name.Head p) good h =
    let head = head_below c p past h in
    let stands = (no_gaps c p past h).fuo in
    let short = log_short c p past (log_in c p past (config_is_limited c good) h) (region_log p past) refl in
    le-leb (region_head p past) (row_count c + reserve c + 1) (omega (arith, head, stands, short))
standing_law c past (Name.Beat p) good h = le-leb (beats p past) c.budget (own_count c (λ e. is_beat_by p e.by e.verb) p past h (beats-own p))
standing_law c past (Name.Ask p q) good h = le-leb (asks q p past) c.budget (own_count c (λ e. is_ask_by q p e.by e.verb) q past h (asks-own q p))
standing_law c past (Name.Slot p s) good h = slot_law c p s past (log_in c p past (config_is_limited c good) h) (stamp c p (Target.Place s) past)
standing_law c past (Name.Row r j k) good h = row_law c r j k past h

-- so may what a step finds, but for a word of a row
pub found_law : (c : Config) (past : List Event) (r : ℕ) (verb : Verb) → IsConfig c → IsLegalHistory c past → reads_row verb ≡ false → may_be_told c verb (name_of c r (part r past) verb) (standing_word c past (name_of c r (part r past) verb)) ≡ true
found_law c past r (Verb.WriteRow j k x) good h none = refl
found_law c past r (Verb.ReadRow v k) good h none = cc
found_law c past r verb good h none = standing_law c past (name_of c r (part r past) verb) good h
