-- What a possible part can read: heads that never fall, FUOs within the positions, fences that name the owner of a noted grant, and numbers that leave room for a next one.
use Rattle.std.proofs.Common.{◌≡◌, ℕ, zero, suc, ◌%◌, ◌*◌, ◌+◌, ◌<◌, ◌≤◌, inl, inr, max, Bool, true, false, cond, ◌==◌, ◌&&◌, List, [], ◌∷◌, length, refl, sym, ◌∙◌, ap, arith, Some, None, subst, eqb-true, eq-eqb, length-set, set, true≢false, ◌++◌}
use Rattle.std.specs.Prelude.{if◌then◌else◌, nat_lt}
use Rattle.std.specs.List.{slice_get}
use Rattle.std.specs.declared.option.Option.{Option}
use Rattle.std.proofs.lemmas.Bool.{cases_eq, lt-ltb, ltb-true}
use Rattle.std.proofs.lemmas.List.{length_push}
use Rattle.mu_model.specs.declared.config.Config.{Config}
use Rattle.mu_model.specs.declared.event.Answer.{Answer}
use Rattle.mu_model.specs.declared.event.Event.{Event}
use Rattle.mu_model.specs.declared.event.Verb.{Verb}
use Rattle.mu_model.specs.Allowed.{Allowed, Needs}
use Rattle.mu_model.specs.Answers.{answer_of, shown}
use Rattle.mu_model.specs.Contents.{IsConfig, row_count}
use Rattle.mu_model.specs.Entering.{any_min_read, number_allowed}
use Rattle.mu_model.specs.Histories.{greatest, has, max_with, newer_or, newest, or_zero, part}
use Rattle.mu_model.specs.Knowledge.{grown, is_accepted_by_all, is_known_decided, known}
use Rattle.mu_model.specs.Leaderships.{begins_leadership, leadership, noted_grant, number_put, proposal_number}
use Rattle.mu_model.specs.Legal.{IsLegalHistory}
use Rattle.mu_model.specs.Parts.{IsPossible}
use Rattle.mu_model.specs.Picks.{is_past, is_past_look, look_answer}
use Rattle.mu_model.specs.Regions.{fence, fence_grant, log_with, min_landed, region_fuo, region_head, region_log, region_min}
use Rattle.mu_model.specs.Room.{head_read, last_head, reserve}
use Rattle.mu_model.proofs.Owned.{noted-part}
use Rattle.mu_agree.specs.Possible.{PartHeadsClimb, PartNumbersLeaveRoom, PartFencesNameOwner, PartFuosAreWithin, PartLooksStayPast}
use Rattle.mu_agree.proofs.Access.{noted_grant_is_owned}
use Rattle.mu_agree.proofs.Landings.{at_part, greatest_since}
use Rattle.mu_agree.proofs.Legal.{legal_induction, event_after}
use Rattle.mu_agree.proofs.Numbers.{number-part, numbered, greatest_own_put, greatest_own_put-part}
use Rattle.mu_agree.proofs.Possible.{at_event, parts_shorten_law, same_fence}
use Rattle.mu_model.proofs.Budgets.{part_within_budget}
use Rattle.mu_model.proofs.Putting.{min_facts}

-- a head that was read is at most the head
abbrev pub HeadLow : ℕ → ℕ → List Event → Type 0
HeadLow r q past = last_head r q (part r past) ≤ region_head q past

pick_low : (s t : Bool) (x z : ℕ) (o : Option ℕ) → (t ≡ true → x ≤ z) → or_zero o ≤ z → or_zero (newer_or (cond (s && t) (Some x) None) o) ≤ z
pick_low true true x z o f h = f refl
pick_low true false x z o f h = h
pick_low false t x z o f h = h

raised_low : (x y z : ℕ) (t : Bool) → y ≤ z → y ≤ max_with (cond t (Some x) None) z
raised_low x y z true h = omega arith
raised_low x y z false h = h

head_step : (c : Config) (r q by : ℕ) (v : Verb) (past : List Event) → HeadLow r q past → HeadLow r q (event_after c past by v ∷ past)
head_step c r q by (Verb.Head p) past h =
    at_part (λ J. last_head r q J ≤ region_head q past) r (event_after c past by (Verb.Head p)) past h
    (λ own. pick_low (by == r) (p == q) (region_head p past) (region_head q past) (newest (λ g. head_read r q g.by g.verb g.answer) (part r past))
    (λ same. let z : p ≡ q = eqb-true p q same in subst (λ x. region_head x past ≤ region_head q past) (sym z) (omega arith)) h)
head_step c r q by (Verb.RaiseHead x) past h =
    at_part (λ J. last_head r q J ≤ max_with (cond (by == q) (Some x) None) (region_head q past)) r (event_after c past by (Verb.RaiseHead x)) past
    (raised_low x (last_head r q (part r past)) (region_head q past) (by == q) h) (λ own. raised_low x (last_head r q (part r past)) (region_head q past) (by == q) h)
head_step c r q by v past h = at_part (λ J. last_head r q J ≤ region_head q past) r (event_after c past by v) past h (λ own. h)

heads_low : (c : Config) (r q : ℕ) (past : List Event) → IsLegalHistory c past → HeadLow r q past
heads_low c r q = legal_induction c (HeadLow r q) (omega arith) (λ past by v h may n. head_step c r q by v past n)

-- two numbers answered that are the same answer are the same
pub number_is : (x y : ℕ) → Answer.Number x ≡ Answer.Number y → x ≡ y
number_is x y e = cc

pub part_heads_climb_law : PartHeadsClimb
part_heads_climb_law c r q h mine e possible verb answer =
    let s = at_event c r mine e possible in
    let is : h ≡ region_head q s.older = number_is h (region_head q s.older) (sym answer ∙ s.follows.answer ∙ ap (answer_of c e.by s.older) verb) in
    subst (λ x. last_head r q mine ≤ x) (sym is) (subst (λ J. last_head r q J ≤ region_head q s.older) s.part_is (heads_low c r q s.older s.legal))

within_by : (c : Config) (r by : ℕ) (verb : Verb) (answer : Answer) (mine : List Event) → Needs c r mine verb → length (known c r mine) ≤ row_count c + reserve c + 1 → length (known c r (record { by = by; verb = verb; answer = answer } ∷ mine)) ≤ row_count c + reserve c + 1
within_by c r by (Verb.PutSlot q i b v) Answer.Done mine needs before = go (by == r) (i == length (known c r mine)) refl (is_accepted_by_all c r (record { by = by; verb = Verb.PutSlot q i b v; answer = Answer.Done } ∷ mine) i b v)
  where
    go : (t x : Bool) → (i == length (known c r mine)) ≡ x → (y : Bool) → length (grown (known c r mine) (cond (t && (x && y)) (Some v) None)) ≤ row_count c + reserve c + 1
    go true true at true = let here = eqb-true i (length (known c r mine)) at in let more = length_push (known c r mine) v in let low = needs.1 in omega (arith, here, more, low)
    go true true at false = before
    go true false at y = before
    go false x at y = before
within_by c r by (Verb.Look q i) (Answer.Entry b v) mine needs before = go (by == r) (i == length (known c r mine)) refl (is_known_decided r mine q i)
  where
    go : (t x : Bool) → (i == length (known c r mine)) ≡ x → (y : Bool) → length (grown (known c r mine) (cond (t && (x && y)) (Some v) None)) ≤ row_count c + reserve c + 1
    go true true at true = let here = eqb-true i (length (known c r mine)) at in let more = length_push (known c r mine) v in let low = needs.1 in omega (arith, here, more, low)
    go true true at false = before
    go true false at y = before
    go false x at y = before
within_by c r by verb answer mine needs before = before

-- known positions are in range
pub known_within : (c : Config) (r : ℕ) (mine : List Event) → IsPossible c r mine → length (known c r mine) ≤ row_count c + reserve c + 1
known_within c r [] possible = omega arith
known_within c r (e ∷ mine) possible = let s = parts_shorten_law c r mine e possible in within_by c r e.by e.verb e.answer mine s.allowed.may (known_within c r mine s.before)

-- a FUO is at most the number of positions
abbrev pub FuoWithin : Config → ℕ → List Event → Type 0
FuoWithin c p past = region_fuo p past ≤ row_count c + reserve c + 1

fuo_step : (c : Config) (p by : ℕ) (v : Verb) (past : List Event) → IsLegalHistory c past → Needs c by (part by past) v → FuoWithin c p past → FuoWithin c p (event_after c past by v ∷ past)
fuo_step c p by (Verb.RaiseFuo q u) past legal may h = go (q == p)
  where
    go : (t : Bool) → max_with (cond t (Some u) None) (region_fuo p past) ≤ row_count c + reserve c + 1
    go true = let most = known_within c by (part by past) (record { past = past; legal = legal; is = refl }) in let low = may.1.0 in let old : region_fuo p past ≤ row_count c + reserve c + 1 = h in omega arith
    go false = h
fuo_step c p by v past legal may h = h

fuos_within : (c : Config) (p : ℕ) (past : List Event) → IsLegalHistory c past → FuoWithin c p past
fuos_within c p = legal_induction c (FuoWithin c p) (omega arith) (λ past by v h may n. fuo_step c p by v past h may.may n)

pub part_fuos_are_within_law : PartFuosAreWithin
part_fuos_are_within_law c r p u mine e possible verb answer =
    let s = at_event c r mine e possible in
    let is : u ≡ region_fuo p s.older = number_is u (region_fuo p s.older) (sym answer ∙ s.follows.answer ∙ ap (answer_of c e.by s.older) verb) in
    subst (λ x. x ≤ row_count c + reserve c + 1) (sym is) (fuos_within c p s.older s.legal)

pub part_fences_name_owner_law : PartFencesNameOwner
part_fences_name_owner_law c r p g f mine e possible noted verb answer same =
    let s = at_event c r mine e possible in
    let is : f ≡ fence p s.older = same_fence f (fence p s.older) (sym answer ∙ s.follows.answer ∙ ap (answer_of c e.by s.older) verb) in
    let note = noted_grant_is_owned c r p s.older s.legal g (sym (noted-part r p s.older) ∙ subst (λ J. noted_grant r p J ≡ Some g) (sym s.part_is) noted) in
    let grant : g ≡ fence_grant p s.older = sym same ∙ ap (λ x. x.grant) is in
    ap (λ x. x.owner) is ∙ note.1 grant

-- the number of a `PutMin`
abbrev pub number_of_put : Verb → Option ℕ
number_of_put (Verb.PutMin p b) = Some b
number_of_put _ = None

-- the greatest number that was put anywhere
abbrev pub greatest_put : List Event → ℕ
greatest_put past = greatest (λ e. number_of_put e.verb) past

-- what r put is no more than that
top_low : (r : ℕ) (past : List Event) → greatest_own_put r past ≤ greatest_put past
top_low r [] = omega arith
top_low r (e ∷ past) = go e.verb (top_low r past)
  where
    go : (v : Verb) → greatest_own_put r past ≤ greatest_put past → max_with (number_put r e.by v) (greatest_own_put r past) ≤ max_with (number_of_put v) (greatest_put past)
    go (Verb.PutMin p b) h = by_test (e.by == r)
      where
        by_test : (t : Bool) → max_with (cond t (Some b) None) (greatest_own_put r past) ≤ max b (greatest_put past)
        by_test true = omega arith
        by_test false = omega arith
    go v h = h

-- nor is a minimum
min_low : (p : ℕ) (past : List Event) → region_min p past ≤ greatest_put past
min_low p [] = omega arith
min_low p (e ∷ past) = go e.verb e.answer (min_low p past)
  where
    go : (v : Verb) (a : Answer) → region_min p past ≤ greatest_put past → or_zero (newer_or (min_landed p v a) (newest (λ e. min_landed p e.verb e.answer) past)) ≤ max_with (number_of_put v) (greatest_put past)
    go (Verb.PutMin q b) Answer.Done h = by_test (q == p) h
      where
        by_test : (t : Bool) → region_min p past ≤ greatest_put past → or_zero (newer_or (cond t (Some b) None) (newest (λ e. min_landed p e.verb e.answer) past)) ≤ max b (greatest_put past)
        by_test true h = omega arith
        by_test false h = let k : or_zero (newest (λ e. min_landed p e.verb e.answer) past) ≤ greatest_put past = h in omega arith
    go (Verb.PutMin q b) a h = let k : or_zero (newest (λ e. min_landed p e.verb e.answer) past) ≤ greatest_put past = h in omega arith
    go v a h = h

-- nor is what r read
abbrev pub ReadLow : ℕ → List Event → Type 0
ReadLow r past = greatest (λ e. any_min_read r e.by e.verb e.answer) (part r past) ≤ greatest_put past

read_step : (c : Config) (r by : ℕ) (v : Verb) (past : List Event) → ReadLow r past → ReadLow r (event_after c past by v ∷ past)
read_step c r by (Verb.Min p) past h =
    at_part (λ J. greatest (λ e. any_min_read r e.by e.verb e.answer) J ≤ greatest_put past) r (event_after c past by (Verb.Min p)) past h (λ own. go (by == r))
  where
    go : (t : Bool) → max_with (cond t (Some (region_min p past)) None) (greatest (λ e. any_min_read r e.by e.verb e.answer) (part r past)) ≤ greatest_put past
    go true = let low = min_low p past in let old : greatest (λ e. any_min_read r e.by e.verb e.answer) (part r past) ≤ greatest_put past = h in omega arith
    go false = h
read_step c r by (Verb.PutMin p b) past h =
    let old : greatest (λ e. any_min_read r e.by e.verb e.answer) (part r past) ≤ greatest_put past = h in
    at_part (λ J. greatest (λ e. any_min_read r e.by e.verb e.answer) J ≤ max b (greatest_put past)) r (event_after c past by (Verb.PutMin p b)) past (omega arith) (λ own. omega arith)
read_step c r by v past h = at_part (λ J. greatest (λ e. any_min_read r e.by e.verb e.answer) J ≤ greatest_put past) r (event_after c past by v) past h (λ own. h)

reads_low : (c : Config) (r : ℕ) (past : List Event) → IsLegalHistory c past → ReadLow r past
reads_low c r = legal_induction c (ReadLow r) (omega arith) (λ past by v h may n. read_step c r by v past n)

-- numbers rise by at most 8 with each event
abbrev pub CountLow : List Event → Type 0
CountLow past = greatest_put past ≤ 8 * length past + 7

least_low : (r x y m b : ℕ) → r < 8 → x ≤ 8 * m + 7 → y ≤ 8 * m + 7 → ((n : ℕ) → n % 8 ≡ r → 8 ≤ n → x < n → y < n → b ≤ n) → b ≤ 8 * (m + 1) + 7
least_low r x y m b low lx ly least =
    let k = least (8 * (m + 1) + r) (omega arith) (omega arith) (omega arith) (omega arith) in omega arith

number_low : (c : Config) (r b m : ℕ) (past : List Event) (o : Option ℕ) → c.replicas ≤ 7 → r < c.replicas → IsLegalHistory c past → greatest_put past ≤ 8 * m + 7 → o ≡ proposal_number r (part r past) → number_allowed r (part r past) b o → b ≤ 8 * (m + 1) + 7
number_low c r b m past None few inside legal low is allowed =
    let reads = reads_low c r past legal in
    let since = greatest_since (λ e. any_min_read r e.by e.verb e.answer) (begins_leadership r) (part r past) in
    let puts = top_low r past in
    let same = greatest_own_put-part r past in
    least_low r (greatest (λ e. any_min_read r e.by e.verb e.answer) (leadership r (part r past))) (greatest_own_put r (part r past)) m b (omega arith) (omega arith) (omega arith) allowed.4
number_low c r b m past (Some first) few inside legal low is allowed =
    let put = (numbered c r past legal).put first (sym (number-part r past) ∙ sym is) in
    let puts = top_low r past in
    omega (arith, allowed, put, puts, low)

count_step : (c : Config) (by : ℕ) (v : Verb) (past : List Event) → c.replicas ≤ 7 → IsLegalHistory c past → Allowed c by (part by past) v → CountLow past → CountLow (event_after c past by v ∷ past)
count_step c by (Verb.PutMin p b) past few legal may h =
    let m = min_facts c by (part by past) p b may.may in
    let low = number_low c by b (length past) past (proposal_number by (part by past)) few may.replica legal h refl m.numbered in
    let old : greatest_put past ≤ 8 * length past + 7 = h in
    omega (arith, low, old)
count_step c by v past few legal may h = let old : greatest_put past ≤ 8 * length past + 7 = h in omega (arith, old)

counts_low : (c : Config) (past : List Event) → c.replicas ≤ 7 → IsLegalHistory c past → CountLow past
counts_low c past few = legal_induction c CountLow (omega arith) (λ past by v h may n. count_step c by v past few h may n) past

-- how many events the first n replicas made
abbrev pub events_of : ℕ → List Event → ℕ
events_of zero past = 0
events_of (suc n) past = length (part n past) + events_of n past

events_other : (n : ℕ) (e : Event) (past : List Event) → n ≤ e.by → events_of n (e ∷ past) ≡ events_of n past
events_other zero e past low = refl
events_other (suc n) e past low = go (e.by == n) refl (events_other n e past (omega arith))
  where
    go : (t : Bool) → (e.by == n) ≡ t → events_of n (e ∷ past) ≡ events_of n past → length (cond t (e ∷ part n past) (part n past)) + events_of n (e ∷ past) ≡ length (part n past) + events_of n past
    go true is rest = absurd (let k = eqb-true e.by n is in omega arith)
    go false is rest = omega arith

events_more : (n : ℕ) (e : Event) (past : List Event) → e.by < n → events_of n (e ∷ past) ≡ events_of n past + 1
events_more zero e past low = absurd (omega arith)
events_more (suc n) e past low = go (e.by == n) refl (λ less. events_more n e past less)
  where
    go : (t : Bool) → (e.by == n) ≡ t → (e.by < n → events_of n (e ∷ past) ≡ events_of n past + 1) → length (cond t (e ∷ part n past) (part n past)) + events_of n (e ∷ past) ≡ length (part n past) + events_of n past + 1
    go true is more = let k = eqb-true e.by n is in let rest = events_other n e past (omega arith) in omega arith
    go false is more = elim (cases_eq e.by n) [
      | inl same ↦ absurd (let k : false ≡ true = sym is ∙ eq-eqb e.by n same in cc)
      | inr other ↦ (let rest = more (omega arith) in omega arith)
    ]

all_events : (c : Config) (past : List Event) → IsLegalHistory c past → length past ≡ events_of c.replicas past
all_events c [] legal = sym (no_events c.replicas)
  where
    no_events : (n : ℕ) → events_of n [] ≡ 0
    no_events zero = refl
    no_events (suc n) = let none : events_of n [] ≡ 0 = no_events n in omega arith
all_events c (e ∷ past) legal = let more = events_more c.replicas e past legal.1.allowed.replica in let rest = all_events c past legal.0 in omega arith

-- seven replicas make few events
few_events : (c : Config) (n : ℕ) (past : List Event) → n ≤ 7 → c.budget ≤ 131071 → IsLegalHistory c past → events_of n past ≤ n * 131071
few_events c zero past few low legal = omega arith
few_events c (suc n) past few low legal = let one = part_within_budget c n past legal in let rest = few_events c n past (omega arith) low legal in omega arith

history_short : (c : Config) (past : List Event) → IsConfig c → IsLegalHistory c past → length past ≤ 917497
history_short c past config legal =
    let all = all_events c past legal in
    let few = config.replicas.1 in
    let most = few_events c c.replicas past few config.budget.1 legal in
    omega (arith, all, few, most)

pub part_numbers_leave_room_law : PartNumbersLeaveRoom
part_numbers_leave_room_law c r mine config possible =
    let past = possible.past in
    let legal = possible.legal in
    let few = config.replicas.1 in
    let low = counts_low c past few legal in
    let short = history_short c past config legal in
    let reads = reads_low c r past legal in
    let since = greatest_since (λ e. any_min_read r e.by e.verb e.answer) (begins_leadership r) (part r past) in
    let puts = top_low r past in
    let same = greatest_own_put-part r past in
    let counts : (greatest (λ e. any_min_read r e.by e.verb e.answer) (leadership r (part r past)) < 8000000) × (greatest_own_put r (part r past) < 8000000) = (omega arith, omega arith) in
    subst (λ J. (greatest (λ e. any_min_read r e.by e.verb e.answer) (leadership r J) < 8000000) × (greatest_own_put r J < 8000000)) possible.is counts

-- a look that was past stays past
abbrev pub PastStands : Config → ℕ → ℕ → ℕ → List Event → Type 0
PastStands c r p i past = has (λ e. is_past_look (look_answer r p i e.by e.verb e.answer)) (part r past) ≡ true → i + c.ring < length (region_log p past)

-- a log never gets shorter
pub log_grows : (p : ℕ) (verb : Verb) (answer : Answer) (log : List (ℕ × ℕ)) → length log ≤ length (log_with p verb answer log)
log_grows p (Verb.PutSlot q i b v) Answer.Done log = go (q == p) (i == length log)
  where
    go : (s t : Bool) → length log ≤ length (if s then (if t then log ++ (b, v) ∷ [] else set log i (b, v)) else log)
    go true true = let more = length_push log (b, v) in omega arith
    go true false = let same = length-set log i (b, v) in omega arith
    go false t = omega arith
log_grows p verb answer log = omega arith

shows_past : (ring i : ℕ) (log : List (ℕ × ℕ)) (t : Bool) → nat_lt (i + ring) (length log) ≡ t → is_past (if t then Answer.Past else shown (slice_get log i)) ≡ true → i + ring < length log
shows_past ring i log true long is = ltb-true (i + ring) (length log) long
shows_past ring i log false short is = absurd (none_past (slice_get log i) is)
  where
    none_past : (o : Option (ℕ × ℕ)) → is_past (shown o) ≡ true → ⊥
    none_past None is = true≢false (sym is)
    none_past (Some x) is = true≢false (sym is)

past_now : (c : Config) (r by p i q j : ℕ) (past : List Event) → PastStands c r p i past
    → cond (is_past_look (look_answer r p i by (Verb.Look q j) (answer_of c by past (Verb.Look q j)))) true (has (λ e. is_past_look (look_answer r p i e.by e.verb e.answer)) (part r past)) ≡ true → i + c.ring < length (region_log p past)
past_now c r by p i q j past old is = go (by == r) (q == p) refl (j == i) refl is
  where
    log_of : (q == p) ≡ true → (j == i) ≡ true → is_past (answer_of c by past (Verb.Look q j)) ≡ true → i + c.ring < length (region_log p past)
    log_of same at past_is =
        let low = shows_past c.ring j (region_log q past) (nat_lt (j + c.ring) (length (region_log q past))) refl past_is in
        subst (λ x. x + c.ring < length (region_log p past)) (eqb-true j i at) (subst (λ x. j + c.ring < length (region_log x past)) (eqb-true q p same) low)

    go : (s t : Bool) → (q == p) ≡ t → (u : Bool) → (j == i) ≡ u
        → cond (is_past_look (cond (s && (t && u)) (Some (answer_of c by past (Verb.Look q j))) None)) true (has (λ e. is_past_look (look_answer r p i e.by e.verb e.answer)) (part r past)) ≡ true → i + c.ring < length (region_log p past)
    go true true same true at is = by_answer (is_past (answer_of c by past (Verb.Look q j))) refl is
      where
        by_answer : (a : Bool) → is_past (answer_of c by past (Verb.Look q j)) ≡ a → cond a true (has (λ e. is_past_look (look_answer r p i e.by e.verb e.answer)) (part r past)) ≡ true → i + c.ring < length (region_log p past)
        by_answer true past_is is = log_of same at past_is
        by_answer false past_is is = old is
    go true true same false at is = old is
    go true false same u at is = old is
    go false t same u at is = old is

past_step : (c : Config) (r p i by : ℕ) (v : Verb) (past : List Event) → PastStands c r p i past → PastStands c r p i (event_after c past by v ∷ past)
past_step c r p i by (Verb.Look q j) past old =
    at_part (λ J. has (λ e. is_past_look (look_answer r p i e.by e.verb e.answer)) J ≡ true → i + c.ring < length (region_log p past)) r (event_after c past by (Verb.Look q j)) past old (λ own. past_now c r by p i q j past old)
past_step c r p i by (Verb.PutSlot q j b v) past old =
    let more = log_grows p (Verb.PutSlot q j b v) (answer_of c by past (Verb.PutSlot q j b v)) (region_log p past) in
    at_part (λ J. has (λ e. is_past_look (look_answer r p i e.by e.verb e.answer)) J ≡ true → i + c.ring < length (log_with p (Verb.PutSlot q j b v) (answer_of c by past (Verb.PutSlot q j b v)) (region_log p past))) r (event_after c past by (Verb.PutSlot q j b v)) past
    (λ is. (let low = old is in omega (arith, low, more))) (λ own is. (let low = old is in omega (arith, low, more)))
past_step c r p i by v past old = at_part (λ J. has (λ e. is_past_look (look_answer r p i e.by e.verb e.answer)) J ≡ true → i + c.ring < length (region_log p past)) r (event_after c past by v) past old (λ own. old)

past_stands : (c : Config) (r p i : ℕ) (past : List Event) → IsLegalHistory c past → PastStands c r p i past
past_stands c r p i = legal_induction c (PastStands c r p i) (λ is. absurd (true≢false (sym is))) (λ past by v h may n. past_step c r p i by v past n)

pub part_looks_stay_past_law : PartLooksStayPast
part_looks_stay_past_law c r p i mine e possible verb seen =
    let s = at_event c r mine e possible in
    let long = past_stands c r p i s.older s.legal (subst (λ J. has (λ f. is_past_look (look_answer r p i f.by f.verb f.answer)) J ≡ true) (sym s.part_is) seen) in
    let answer : e.answer ≡ answer_of c e.by s.older (Verb.Look p i) = s.follows.answer ∙ ap (answer_of c e.by s.older) verb in
    answer ∙ ap (λ t. if t then Answer.Past else shown (slice_get (region_log p s.older) i)) (lt-ltb (i + c.ring) (length (region_log p s.older)) long)
