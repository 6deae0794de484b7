-- What is due at a place of the replayer is allowed.
use Rattle.std.proofs.Common.{inl, inr, ◌≡◌, ℕ, zero, suc, ◌+◌, ◌-◌, ◌*◌, ◌/◌, ◌%◌, ◌<◌, ◌≤◌, ◌==◌, ◌&&◌, Bool, true, false, cond, List, [], ◌∷◌, refl, sym, ap, ◌∙◌, arith, length, subst, None, Some, eqb-true}
use Rattle.std.specs.Prelude.{IfSome, if◌then◌else◌, min, nat_le, nat_lt, not, ◌||◌}
use Rattle.std.specs.declared.option.Option.{Option}
use Rattle.std.specs.List.{slice_get}
use Rattle.std.proofs.lemmas.Bool.{and_parts, cases_lt, eqb-false, leb-true, ltb-true, true≢false, le-leb}
use Rattle.mu_model.specs.declared.config.Config.{Config}
use Rattle.mu_model.specs.declared.event.Answer.{Answer}
use Rattle.mu_model.specs.declared.event.Event.{Event}
use Rattle.mu_model.specs.declared.event.Verb.{Verb}
use Rattle.mu_model.specs.Allowed.{Allowed, Needs}
use Rattle.mu_model.specs.Contents.{IsConfig, begins_batch, is_batch, rest_of, row_count}
use Rattle.mu_model.specs.Histories.{all_below, has, max_with}
use Rattle.mu_model.specs.Knowledge.{applied, entry_seen, fuo_read, greatest_fuo_read, is_entry_seen, is_filled, is_known_decided, known}
use Rattle.mu_model.specs.Parts.{IsPossible}
use Rattle.mu_model.specs.Placing.{fuo_read_or_raised, reaches_head}
use Rattle.mu_model.specs.Regions.{region_head}
use Rattle.mu_model.specs.Room.{reserve}
use Rattle.mu_model.specs.Scores.{least_below}
use Rattle.mu_model.proofs.Basics.{none_some, same_some}
use Rattle.mu_model.proofs.Scans.{each_all, least_below_fits}
use Rattle.mu_agree.proofs.Possible.{parts_shorten_law}
use Rattle.mu_agree.proofs.Readings.{part_fuos_are_within_law}
use Rattle.mu_model.proofs.Least.{least_found, least_next}
use Rattle.mu_knowledge.specs.FilledLog.{IsFilledTo}
use Rattle.mu_knowledge.proofs.Fetched.{batch_there}
use Rattle.mu_follow.specs.Due.{IsReplay, ahead_due, filled_known, first_word_of, fuo_due, head_due, look_due, next_due, next_word_of, other_head_due, other_of, own_fuo, raise_due, replay_due, row_read, row_under_way, rows_had, word_due}
use Rattle.mu_model.proofs.Putting.{head_points, raise_points}

-- none below k passes: the least is not below it
least_all : (test : ℕ → Bool) (k : ℕ) → ((j : ℕ) → j < k → test j ≡ false) → least_below k test ≡ k
least_all test zero none = refl
least_all test (suc k) none =
    let more : k + 1 ≡ suc k = omega arith in
    subst (λ m. least_below m test ≡ m) more (least_next test k (least_all test k (λ j low. none j (omega (arith, low)))) (none k (omega arith)))

-- the first that passes, or the bound, is the least
pub least_is : (test : ℕ → Bool) (n k : ℕ) → ((j : ℕ) → j < k → test j ≡ false) → k ≤ n → (k < n → test k ≡ true) → least_below n test ≡ k
least_is test n k none fits passes = elim (cases_lt k n) [
  | inl low ↦ least_found test n k (least_all test k none) (passes low) low
  | inr high ↦ (let same : n ≡ k = omega (arith, fits, high) in subst (λ m. least_below m test ≡ k) (sym same) (least_all test k none))
]

-- as many pass before the first that doesn't
pub firsts_pass : (test : ℕ → Bool) (n k : ℕ) → ((j : ℕ) → j < k → test j ≡ true) → k ≤ n → (k < n → test k ≡ false) → k ≡ least_below n (λ j. not (test j))
firsts_pass test n k all fits fails = sym (least_is (λ j. not (test j)) n k (λ j low. ap not (all j low)) fits (λ low. ap not (fails low)))

-- one more passes
pub one_more : (test : ℕ → Bool) (k next : ℕ) → ((j : ℕ) → j < k → test j ≡ true) → test k ≡ true → next ≡ k + 1 → (j : ℕ) → j < next → test j ≡ true
one_more test k next all here is j low = elim (cases_lt j k) [
  | inl before ↦ all j before
  | inr last ↦ let same : k ≡ j = omega (arith, low, is, last) in subst (λ i. test i ≡ true) same here
]

-- none below the least passes
pub least_below_fails : (n : ℕ) (test : ℕ → Bool) (j : ℕ) → j < least_below n test → j < n → test j ≡ false
least_below_fails zero test j low small = absurd (omega (arith, small))
least_below_fails (suc n) test j low small = go (least_below_fails n test j) (least_below n test == n) refl (test n) refl low
  where
    go : (j < least_below n test → j < n → test j ≡ false) → (s : Bool) → (least_below n test == n) ≡ s → (t : Bool) → test n ≡ t → j < (if s then (if t then n else n + 1) else least_below n test) → test j ≡ false
    go ih true all true here low = (let same = eqb-true (least_below n test) n all in ih (omega (arith, low, same)) low)
    go ih true all false here low = (let same = eqb-true (least_below n test) n all in elim (cases_lt j n) [
      | inl less ↦ ih (omega (arith, less, same)) less
      | inr more ↦ (let last : n ≡ j = omega (arith, more, small) in ap test (sym last) ∙ here)
    ])
    go ih false all t here low = (let fits = least_below_fits n test in ih low (omega (arith, low, fits)))

not_false : (t : Bool) → not t ≡ false → t ≡ true
not_false true e = refl
not_false false e = absurd (true≢false e)

-- the rows whose words are read are there
pub row_there : (c : Config) (r : ℕ) (mine : List Event) (v : ℕ) → IsPossible c r mine → row_under_way mine ≡ Some v → (v / 4096 < c.replicas) × (v % 4096 < row_count c)
row_there c r [] v possible is = absurd (none_some v is)
row_there c r (e ∷ mine) v possible is = let s = parts_shorten_law c r mine e possible in go e.verb s.allowed.may is (row_there c r mine v s.before)
  where
    there : (w k : ℕ) (t : Bool) → Needs c r mine (Verb.ReadRow w k) → (if t then Some w else None) ≡ Some v → (v / 4096 < c.replicas) × (v % 4096 < row_count c)
    there w k true may e = let same = same_some w v e in (subst (λ x. x / 4096 < c.replicas) same may.0, subst (λ x. x % 4096 < row_count c) same may.1.0)
    there w k false may e = absurd (none_some v e)

    go : (verb : Verb) → Needs c r mine verb → row_read verb (row_under_way mine) ≡ Some v → (row_under_way mine ≡ Some v → (v / 4096 < c.replicas) × (v % 4096 < row_count c)) → (v / 4096 < c.replicas) × (v % 4096 < row_count c)
    go (Verb.ReadRow w k) may e old = there w k (nat_lt k 11) may e
    go verb may e old = old e

-- what the verb needs, if there is one
abbrev pub Meets : Config → ℕ → List Event → Bool → Option Verb → Type 0
Meets c r mine leading due = IfSome due (λ verb. Needs c r mine verb × IsReplay leading verb)

meets_if : (c : Config) (r : ℕ) (mine : List Event) (leading t : Bool) (verb : Verb) → (t ≡ true → Needs c r mine verb × IsReplay leading verb) → Meets c r mine leading (if t then Some verb else None)
meets_if c r mine leading true verb needs = needs refl
meets_if c r mine leading false verb needs = tt

-- a position that was seen filled is one
seen_there : (c : Config) (r i : ℕ) (mine : List Event) → IsPossible c r mine → has (entry_seen r r i) mine ≡ true → i ≤ row_count c + reserve c
seen_there c r i [] possible seen = absurd (true≢false (sym seen))
seen_there c r i (e ∷ mine) possible seen =
    let s = parts_shorten_law c r mine e possible in
    split s.allowed.may (seen_there c r i mine s.before) (is_entry_seen r r i e.by e.verb e.answer) refl (has (entry_seen r r i) mine) refl seen
  where
    shown : (by : ℕ) (verb : Verb) (answer : Answer) → Needs c r mine verb → is_entry_seen r r i by verb answer ≡ true → i ≤ row_count c + reserve c
    shown by (Verb.Look q j) (Answer.Entry b v) needs is =
        let low = needs.1.0 in
        let same = eqb-true j i (and_parts (q == r) (j == i) (and_parts (by == r) ((q == r) && (j == i)) is).1).1 in
        omega (arith, low, same)
    shown by verb answer needs is = absurd (true≢false (sym is))

    split : Needs c r mine e.verb → (has (entry_seen r r i) mine ≡ true → i ≤ row_count c + reserve c) → (t : Bool) → is_entry_seen r r i e.by e.verb e.answer ≡ t → (u : Bool) → has (entry_seen r r i) mine ≡ u
        → cond (is_entry_seen r r i e.by e.verb e.answer) true (has (entry_seen r r i) mine) ≡ true → i ≤ row_count c + reserve c
    split may ih true is u old seen = shown e.by e.verb e.answer may is
    split may ih false is true old seen = ih old
    split may ih false is false old seen = absurd (true≢false (sym seen ∙ rw (is, old) refl))

-- the greatest own FUO read is at most the number of positions
own_read_fits : (c : Config) (r : ℕ) (mine : List Event) → IsPossible c r mine → greatest_fuo_read r r mine ≤ row_count c + reserve c + 1
own_read_fits c r [] possible = omega arith
own_read_fits c r (e ∷ mine) possible = let s = parts_shorten_law c r mine e possible in go e.verb refl e.answer refl (own_read_fits c r mine s.before)
  where
    go : (verb : Verb) → e.verb ≡ verb → (answer : Answer) → e.answer ≡ answer → greatest_fuo_read r r mine ≤ row_count c + reserve c + 1 → max_with (fuo_read r r e.by verb answer) (greatest_fuo_read r r mine) ≤ row_count c + reserve c + 1
    go (Verb.Fuo q) verb (Answer.Number x) answer old = told (e.by == r) (q == r)
      where
        most : x ≤ row_count c + reserve c + 1
        most = part_fuos_are_within_law c r q x mine e possible verb answer

        told : (t u : Bool) → max_with (cond (t && u) (Some x) None) (greatest_fuo_read r r mine) ≤ row_count c + reserve c + 1
        told true true = omega (arith, most, old)
        told true false = old
        told false u = old
    go verb is answer told old = old

le_not : (h u : ℕ) → u < h → nat_le h u ≡ false
le_not h u less = go (nat_le h u) refl
  where
    go : (t : Bool) → nat_le h u ≡ t → t ≡ false
    go true is = (let low = leb-true h u is in absurd (omega (arith, low, less)))
    go false is = refl

-- an own FUO that was read or raised reaches each head that the greatest does
reached : (r h : ℕ) (mine : List Event) → 0 < h → h ≤ own_fuo r mine → has (λ e. reaches_head h (fuo_read_or_raised r r e.by e.verb e.answer)) mine ≡ true
reached r h [] some low = absurd (omega (arith, some, low))
reached r h (e ∷ mine) some low = go (fuo_read_or_raised r r e.by e.verb e.answer) (own_fuo r mine) low (reached r h mine some)
  where
    go : (told : Option ℕ) (old : ℕ) → h ≤ max_with told old → (h ≤ old → has (λ e. reaches_head h (fuo_read_or_raised r r e.by e.verb e.answer)) mine ≡ true)
        → cond (reaches_head h told) true (has (λ e. reaches_head h (fuo_read_or_raised r r e.by e.verb e.answer)) mine) ≡ true
    go None old low ih = ih low
    go (Some u) old low ih = elim (cases_lt u h) [
      | inl less ↦ rw (le_not h u less) (ih (omega (arith, low, less)))
      | inr more ↦ rw (le-leb h u (omega (arith, more))) refl
    ]

-- the own log is filled up to there
filled_there : (c : Config) (r : ℕ) (mine : List Event) → all_below (filled_known c r mine) (is_filled c r r mine) ≡ true
filled_there c r mine =
    let n = length (known c r mine) in
    let test : ℕ → Bool = λ j. not (is_filled c r r mine j) in
    let fits = least_below_fits n test in
    each_all (filled_known c r mine) (is_filled c r r mine) (λ j low. not_false (is_filled c r r mine j) (least_below_fails n test j low (omega (arith, low, fits))))

-- up to where the log is known to be filled, and known
pub filled_known_is : (c : Config) (r n : ℕ) (mine : List Event) → IsFilledTo c r r mine n → min n (length (known c r mine)) ≡ filled_known c r mine
filled_known_is c r n mine to =
    let end = length (known c r mine) in
    sym (least_is (λ j. not (is_filled c r r mine j)) end (min n end) (λ j low. ap not (to.below j (omega (arith, low)))) (omega arith)
    (λ low. (let here : min n end ≡ n = omega (arith, low) in ap (λ j. not (is_filled c r r mine j)) here ∙ ap not to.next)))

-- the other replica is one
other_there : (c : Config) (r k : ℕ) → IsConfig c → 2 ≤ c.replicas → other_of r (k % (c.replicas - 1)) < c.replicas
other_there c r k good two = let few = good.replicas in go (nat_lt (k % (c.replicas - 1)) r) (small k (c.replicas - 1) (omega (arith, two)))
  where
    small : (k m : ℕ) → 1 ≤ m → k % m < m
    small k m one = omega (arith, one)

    go : (t : Bool) → k % (c.replicas - 1) < c.replicas - 1 → (if t then k % (c.replicas - 1) else k % (c.replicas - 1) + 1) < c.replicas
    go true low = omega (arith, low, two)
    go false low = omega (arith, low, two)

-- a look
meets_look : (c : Config) (r place : ℕ) (mine : List Event) → IsPossible c r mine → r < c.replicas → Meets c r mine false (look_due c r mine place)
meets_look c r place mine possible inside = go (place == 0) (place == 1)
  where
    ahead : Meets c r mine false (ahead_due c r mine)
    ahead = meets_if c r mine false (nat_lt (length (known c r mine) + 1) (row_count c + reserve c)) (Verb.Look r (length (known c r mine) + 1))
        (λ is. (let low = ltb-true (length (known c r mine) + 1) (row_count c + reserve c) is in ((inside, (omega (arith, low), (inl refl, tt))), refl)))

    decided : is_known_decided r mine r (length (known c r mine)) ≡ true → length (known c r mine) ≤ row_count c + reserve c
    decided is = either (nat_lt (length (known c r mine)) (greatest_fuo_read r r mine)) refl is
      where
        either : (t : Bool) → nat_lt (length (known c r mine)) (greatest_fuo_read r r mine) ≡ t → (t || ((r == r) && has (entry_seen r r (length (known c r mine) + 1)) mine)) ≡ true → length (known c r mine) ≤ row_count c + reserve c
        either true low is = (let less = ltb-true (length (known c r mine)) (greatest_fuo_read r r mine) low in let most = own_read_fits c r mine possible in omega (arith, less, most))
        either false low is = (let there = seen_there c r (length (known c r mine) + 1) mine possible (and_parts (r == r) (has (entry_seen r r (length (known c r mine) + 1)) mine) is).1 in omega (arith, there))

    next : Meets c r mine false (next_due c r mine)
    next = meets_if c r mine false (is_known_decided r mine r (length (known c r mine))) (Verb.Look r (length (known c r mine))) (λ is. ((inside, (decided is, (inl refl, tt))), refl))

    go : (s t : Bool) → Meets c r mine false (if s then Some (Verb.Fuo r) else if t then ahead_due c r mine else next_due c r mine)
    go true t = ((inside, tt), refl)
    go false true = ahead
    go false false = next

-- a word of a row
meets_word : (c : Config) (r handed k : ℕ) (mine : List Event) (leading : Bool) → IsConfig c → IsPossible c r mine → k < 12 → Meets c r mine leading (word_due c r mine handed k)
meets_word c r handed k mine leading good possible low = go (k == 0)
  where
    first : (next : Option ℕ) → Meets c r mine leading (first_word_of c r mine next)
    first None = tt
    first (Some v) = batch (is_batch c v) refl
      where
        batch : (t : Bool) → is_batch c v ≡ t → Meets c r mine leading (if t then (if nat_lt (rows_had c r mine v) (rest_of c (v % 4096) + 1) then Some (Verb.ReadRow (v + rows_had c r mine v) 0) else None) else None)
        batch false is = tt
        batch true is =
            let there = batch_there c v good is in
            let few = good.few in
            let inside = ltb-true (v / 4096) c.replicas (and_parts (nat_lt (v / 4096) c.replicas) (nat_lt (v % 4096) (row_count c) && begins_batch c (v % 4096)) is).0 in
            meets_if c r mine leading (nat_lt (rows_had c r mine v) (rest_of c (v % 4096) + 1)) (Verb.ReadRow (v + rows_had c r mine v) 0)
            (λ less. (let short = ltb-true (rows_had c r mine v) (rest_of c (v % 4096) + 1) less in let last = there.1 in ((omega (arith, inside, short, last, few), (omega (arith, short, last, few), (omega arith, tt))), refl)))

    next : (row : Option ℕ) → row_under_way mine ≡ row → Meets c r mine leading (next_word_of k row)
    next None is = tt
    next (Some v) is = (let there = row_there c r mine v possible is in ((there.0, (there.1, (low, tt))), refl))

    go : (t : Bool) → Meets c r mine leading (if t then first_word_of c r mine (slice_get (known c r mine) handed) else next_word_of k (row_under_way mine))
    go true = first (slice_get (known c r mine) handed)
    go false = next (row_under_way mine) refl

-- a raise, or a read of a head
meets_raise : (c : Config) (r handed place : ℕ) (mine : List Event) (leading : Bool) → IsConfig c → r < c.replicas → handed ≤ length (applied c r mine) → Meets c r mine leading (raise_due c r mine handed place)
meets_raise c r handed place mine leading good inside few = go (place == 15) (place == 16) (place == 17)
  where
    fuo : Meets c r mine leading (fuo_due c r mine)
    fuo = (let fits = least_below_fits (length (known c r mine)) (λ j. not (is_filled c r r mine j)) in
        meets_if c r mine leading (nat_lt (own_fuo r mine) (filled_known c r mine)) (Verb.RaiseFuo r (filled_known c r mine)) (λ is. (raise_points c r mine r (filled_known c r mine) inside fits (filled_there c r mine), refl)))

    head : Meets c r mine leading (head_due r mine handed)
    head = meets_if c r mine leading (nat_lt (region_head r mine) (min handed (own_fuo r mine))) (Verb.RaiseHead (min handed (own_fuo r mine)))
        (λ is. (let more = ltb-true (region_head r mine) (min handed (own_fuo r mine)) is in (head_points c r mine (min handed (own_fuo r mine)) (omega (arith, few)) (reached r (min handed (own_fuo r mine)) mine (omega (arith, more)) (omega arith)), refl)))

    other : Meets c r mine leading (other_head_due c r mine)
    other = alone (c.replicas == 1) refl
      where
        alone : (t : Bool) → (c.replicas == 1) ≡ t → Meets c r mine leading (if t then None else Some (Verb.Head (other_of r (length mine / 2 / (2 * c.replicas + 22) % (c.replicas - 1)))))
        alone true is = tt
        alone false is = (let one = eqb-false c.replicas 1 is in let least = good.replicas.0 in ((other_there c r (length mine / 2 / (2 * c.replicas + 22)) good (omega (arith, one, least)), tt), refl))

    go : (s t u : Bool) → Meets c r mine leading (if s then fuo_due c r mine else if t then head_due r mine handed else if u then other_head_due c r mine else None)
    go true t u = fuo
    go false true u = head
    go false false true = other
    go false false false = tt

meets : (c : Config) (r handed place : ℕ) (mine : List Event) (leading : Bool) → IsConfig c → IsPossible c r mine → r < c.replicas → handed ≤ length (applied c r mine) → Meets c r mine leading (replay_due c r mine handed place leading)
meets c r handed place mine leading good possible inside few = go (nat_lt place 3) leading (nat_lt place 15) refl
  where
    go : (s l t : Bool) → nat_lt place 15 ≡ t → Meets c r mine l (if s then (if l then None else look_due c r mine place) else if t then word_due c r mine handed (place - 3) else raise_due c r mine handed place)
    go true true t is = tt
    go true false t is = meets_look c r place mine possible inside
    go false l true is = (let low = ltb-true place 15 is in meets_word c r handed (place - 3) mine l good possible (omega (arith, low)))
    go false l false is = meets_raise c r handed place mine l good inside few

-- what is due at a place of the replayer is allowed, and a verb of it
pub replay_allowed : (c : Config) (r handed place : ℕ) (mine : List Event) (leading : Bool) → IsConfig c → IsPossible c r mine → r < c.replicas → length mine < c.budget → handed ≤ length (applied c r mine)
    → IfSome (replay_due c r mine handed place leading) (λ verb. Allowed c r mine verb × IsReplay leading verb)
replay_allowed c r handed place mine leading good possible inside short few = go (replay_due c r mine handed place leading) (meets c r handed place mine leading good possible inside few)
  where
    go : (due : Option Verb) → Meets c r mine leading due → IfSome due (λ verb. Allowed c r mine verb × IsReplay leading verb)
    go None met = tt
    go (Some verb) met = (record { budget = short; replica = inside; may = met.0 }, met.1)
