-- If replicas ask in turn, each puts one number: 8 and its id.
use Rattle.std.proofs.Common.{◌≡◌, ℕ, ◌+◌, ◌%◌, ◌<◌, ◌≤◌, inl, inr, Bool, true, false, cond, ◌==◌, List, [], ◌∷◌, refl, sym, ◌∙◌, ap, arith, Some, None, eqb-true, true≢false}
use Rattle.std.specs.declared.option.Option.{Option}
use Rattle.std.specs.Prelude.{max}
use Rattle.std.proofs.lemmas.Bool.{cases_lt, cases_order, eq-eqb}
use Rattle.mu_model.specs.declared.config.Config.{Config}
use Rattle.mu_model.specs.declared.event.Answer.{Answer}
use Rattle.mu_model.specs.declared.event.Event.{Event}
use Rattle.mu_model.specs.declared.event.Verb.{Verb}
use Rattle.mu_model.specs.Allowed.{Allowed}
use Rattle.mu_model.specs.Entering.{any_min_read, number_allowed}
use Rattle.mu_model.specs.Histories.{earlier_or, greatest, has, max_with, newer_or, newest, oldest, or_zero, part}
use Rattle.mu_model.specs.Leaderships.{begins_leadership, has_begun, leadership, number_put, proposal_number}
use Rattle.mu_model.specs.Legal.{IsLegalHistory}
use Rattle.mu_model.specs.Regions.{min_landed, region_min}
use Rattle.mu_model.proofs.Basics.{same_some}
use Rattle.mu_agree.proofs.Legal.{event_after, legal_induction}
use Rattle.mu_agree.proofs.Numbers.{greatest_own_put, greatest_own_put-part, number-part}
use Rattle.mu_agree.proofs.Readings.{greatest_put, number_of_put}
use Rattle.mu_alive.specs.Turns.{AreInTurn, IsInTurn, is_own_min}
use Rattle.mu_alive.proofs.Turns.{min_begun, none_before, put_read, turn_induction}
use Rattle.mu_agree.proofs.Landings.{greatest_since}
use Rattle.mu_model.proofs.Counts.{max_with_grows}
use Rattle.mu_model.proofs.Putting.{min_facts}

-- each number that was put is 8 and its writer's id
abbrev pub AreFirst : List Event → Type 0
AreFirst [] = Unit {0}
AreFirst (e ∷ past) = AreFirst past × ((p b : ℕ) → e.verb ≡ Verb.PutMin p b → b ≡ 8 + e.by)

put_of : (w by : ℕ) (verb : Verb) (x : ℕ) → number_put w by verb ≡ Some x → ((p b : ℕ) → verb ≡ Verb.PutMin p b → b ≡ 8 + by) → x ≡ 8 + w
put_of w by (Verb.PutMin p b) x is first = go (by == w) refl is
  where
    go : (t : Bool) → (by == w) ≡ t → cond t (Some b) None ≡ Some x → x ≡ 8 + w
    go true own is = sym (same_some b x is) ∙ first p b refl ∙ ap (λ i. 8 + i) (eqb-true by w own)
    go false other is = cc
put_of w by verb x is first = cc

-- so is the number of a leadership
pub own_number : (w : ℕ) (past : List Event) → AreFirst past → (b : ℕ) → proposal_number w past ≡ Some b → b ≡ 8 + w
own_number w [] first b is = cc
own_number w (e ∷ past) first b is = go (begins_leadership w e) is (own_number w past first.0)
  where
    of : (o p : Option ℕ) → ((x : ℕ) → o ≡ Some x → x ≡ 8 + w) → ((x : ℕ) → p ≡ Some x → x ≡ 8 + w) → earlier_or o p ≡ Some b → b ≡ 8 + w
    of None p f g is = g b is
    of (Some x) None f g is = sym (same_some x b is) ∙ f x refl
    of (Some x) (Some y) f g is = sym (same_some y b is) ∙ g y refl

    go : (t : Bool) → oldest (λ f. number_put w f.by f.verb) (cond t [] (e ∷ leadership w past)) ≡ Some b → ((x : ℕ) → proposal_number w past ≡ Some x → x ≡ 8 + w) → b ≡ 8 + w
    go true is ih = cc
    go false is ih = of (number_put w e.by e.verb) (proposal_number w past) (λ x at. put_of w e.by e.verb x at first.1) ih is

-- if no replica from w on has put a number, all that were put are below
low_puts : (m : ℕ) (past : List Event) → AreFirst past → ((x : ℕ) → m < 8 + x → greatest_own_put x past ≡ 0) → greatest_put past ≤ m
low_puts m [] first none = omega arith
low_puts m (e ∷ past) first none = go e.by e.verb first.1 none (low_puts m past first.0)
  where
    go : (by : ℕ) (verb : Verb) → ((p b : ℕ) → verb ≡ Verb.PutMin p b → b ≡ 8 + by) → ((x : ℕ) → m < 8 + x → max_with (number_put x by verb) (greatest_own_put x past) ≡ 0)
        → (((x : ℕ) → m < 8 + x → greatest_own_put x past ≡ 0) → greatest_put past ≤ m) → max_with (number_of_put verb) (greatest_put past) ≤ m
    go by (Verb.PutMin p b) first none ih =
        let is = first p b refl in
        let rest = ih (λ x high. old x high (by == x) (none x high)) in
        let low : b ≤ m = elim (cases_lt m (8 + by)) [
          | inl high ↦ absurd (here (none by high) (by == by) (eq-eqb by by refl) is)
          | inr fits ↦ omega (arith, is, fits)
        ] in
        omega (arith, rest, low)
      where
        old : (x : ℕ) → m < 8 + x → (t : Bool) → max_with (cond t (Some b) None) (greatest_own_put x past) ≡ 0 → greatest_own_put x past ≡ 0
        old x high true is = omega (arith, is)
        old x high false is = is

        here : max_with (cond (by == by) (Some b) None) (greatest_own_put by past) ≡ 0 → (t : Bool) → t ≡ true → b ≡ 8 + by → ⊥
        here put t own is = big (by == by) (eq-eqb by by refl) put
          where
            big : (u : Bool) → u ≡ true → max_with (cond u (Some b) None) (greatest_own_put by past) ≡ 0 → ⊥
            big true h put = omega (arith, is, put)
            big false h put = true≢false (sym h)
    go by verb first none ih = ih (λ x high. unput x by verb (none x high))
      where
        unput : (x by : ℕ) (verb : Verb) → max_with (number_put x by verb) (greatest_own_put x past) ≡ 0 → greatest_own_put x past ≡ 0
        unput x by verb is = smaller (number_put x by verb) is
          where
            smaller : (o : Option ℕ) → max_with o (greatest_own_put x past) ≡ 0 → greatest_own_put x past ≡ 0
            smaller None is = is
            smaller (Some y) is = omega (arith, is)

-- no minimum is above what was put, nor is what was read
pub min_low : (p : ℕ) (past : List Event) → region_min p past ≤ greatest_put past
min_low p [] = omega arith
min_low p (e ∷ past) = go e.verb e.answer (min_low p past)
  where
    go : (v : Verb) (a : Answer) → region_min p past ≤ greatest_put past → or_zero (newer_or (min_landed p v a) (newest (λ e. min_landed p e.verb e.answer) past)) ≤ max_with (number_of_put v) (greatest_put past)
    go (Verb.PutMin q b) Answer.Done h = by_test (q == p) h
      where
        by_test : (t : Bool) → region_min p past ≤ greatest_put past → or_zero (newer_or (cond t (Some b) None) (newest (λ e. min_landed p e.verb e.answer) past)) ≤ max b (greatest_put past)
        by_test true h = omega arith
        by_test false h = let k : or_zero (newest (λ e. min_landed p e.verb e.answer) past) ≤ greatest_put past = h in omega arith
    go (Verb.PutMin q b) a h = let k : or_zero (newest (λ e. min_landed p e.verb e.answer) past) ≤ greatest_put past = h in omega arith
    go v a h = h

abbrev ReadsLow : ℕ → List Event → Type 0
ReadsLow r past = greatest (λ e. any_min_read r e.by e.verb e.answer) past ≤ greatest_put past

reads_step : (c : Config) (r by : ℕ) (v : Verb) (past : List Event) → ReadsLow r past → ReadsLow r (event_after c past by v ∷ past)
reads_step c r by (Verb.Min p) past h = go (by == r)
  where
    go : (t : Bool) → max_with (cond t (Some (region_min p past)) None) (greatest (λ e. any_min_read r e.by e.verb e.answer) past) ≤ greatest_put past
    go true = let low = min_low p past in omega (arith, low, h)
    go false = h
reads_step c r by (Verb.PutMin p b) past h = omega (arith, h)
reads_step c r by v past h = h

reads_low : (c : Config) (r : ℕ) (past : List Event) → IsLegalHistory c past → ReadsLow r past
reads_low c r = legal_induction c (ReadsLow r) (omega arith) (λ past by v h may n. reads_step c r by v past n)

bigger : (o : Option ℕ) (x y : ℕ) → x ≤ y → max_with o x ≤ max_with o y
bigger None x y l = l
bigger (Some z) x y l = omega (arith, l)

greatest_of_part : (tells : Event → Option ℕ) (r : ℕ) (past : List Event) → greatest tells (part r past) ≤ greatest tells past
greatest_of_part tells r [] = omega arith
greatest_of_part tells r (e ∷ past) = go (e.by == r) (greatest_of_part tells r past)
  where
    go : (t : Bool) → greatest tells (part r past) ≤ greatest tells past → greatest tells (cond t (e ∷ part r past) (part r past)) ≤ max_with (tells e) (greatest tells past)
    go true l = bigger (tells e) (greatest tells (part r past)) (greatest tells past) l
    go false l = let m = max_with_grows (tells e) (greatest tells past) in omega (arith, l, m)

-- nobody above one that is last in turn has put a number
pub unput : (c : Config) (x : ℕ) (past : List Event) → IsLegalHistory c past → has_begun x past ≡ false → greatest_own_put x past ≡ 0
unput c x past legal none = put_read c x past legal (go (has (is_own_min x) past) refl)
  where
    go : (t : Bool) → has (is_own_min x) past ≡ t → t ≡ false
    go true is = absurd (true≢false (sym (min_begun c x past legal is) ∙ none))
    go false is = refl

-- the least number is the first
least : (b x m o : ℕ) → x < 8 → b % 8 ≡ x → 8 ≤ b → m ≤ 7 + x → o ≡ 0 → ((n : ℕ) → n % 8 ≡ x → 8 ≤ n → m < n → o < n → b ≤ n) → b ≡ 8 + x
least b x m o few own high low none most = let fits = most (8 + x) (omega (arith, few)) (omega arith) (omega (arith, low)) (omega (arith, none)) in omega (arith, few, own, high, fits)

first_step : (c : Config) (by q b : ℕ) (past : List Event) → c.replicas < 8 → IsLegalHistory c past → AreInTurn past → IsInTurn past (event_after c past by (Verb.PutMin q b)) → Allowed c by (part by past) (Verb.PutMin q b) → AreFirst past → b ≡ 8 + by
first_step c by q b past few legal turns turn may first = go (proposal_number by (part by past)) refl (min_facts c by (part by past) q b may.may).numbered
  where
    go : (o : Option ℕ) → proposal_number by (part by past) ≡ o → number_allowed by (part by past) b o → b ≡ 8 + by
    go (Some x) is same = same ∙ own_number by past first x (sym (number-part by past) ∙ is)
    go None is allowed =
        let none = none_before c by past legal turns (sym (number-part by past) ∙ is) in
        let low = low_puts (7 + by) past first (λ x high. elim (cases_order x by) [
          | inl same ↦ ap (λ i. greatest_own_put i past) same ∙ none
          | inr (inl below) ↦ absurd (omega (arith, high, below))
          | inr (inr above) ↦ unput c x past legal (turn.last x above)
        ]) in
        let read = reads_low c by past legal in
        let of_part = greatest_of_part (λ e. any_min_read by e.by e.verb e.answer) by past in
        let of_leadership = greatest_since (λ e. any_min_read by e.by e.verb e.answer) (begins_leadership by) (part by past) in
        let inside = may.replica in
        least b by (greatest (λ e. any_min_read by e.by e.verb e.answer) (leadership by (part by past))) (greatest_own_put by (part by past)) (omega (arith, inside, few)) allowed.0 allowed.1 (omega (arith, low, read, of_part, of_leadership)) (greatest_own_put-part by past ∙ none) allowed.4

firsts_step : (c : Config) (by : ℕ) (v : Verb) (past : List Event) → c.replicas < 8 → IsLegalHistory c past → AreInTurn past → IsInTurn past (event_after c past by v) → Allowed c by (part by past) v → AreFirst past → AreFirst (event_after c past by v ∷ past)
firsts_step c by (Verb.PutMin q b) past few legal turns turn may first = (first, λ p d is. (let same : b ≡ d = cc in sym same ∙ first_step c by q b past few legal turns turn may first))
firsts_step c by v past few legal turns turn may first = (first, λ p d is. cc)

pub are_first : (c : Config) (past : List Event) → c.replicas < 8 → IsLegalHistory c past → AreInTurn past → AreFirst past
are_first c past few = turn_induction c AreFirst tt (λ past by v h turns turn may s. firsts_step c by v past few h turns turn may s) past

-- so while none above r has asked no minimum is above 8 and r
pub region_low : (c : Config) (r p : ℕ) (past : List Event) → c.replicas < 8 → IsLegalHistory c past → AreInTurn past → ((w : ℕ) → r < w → has_begun w past ≡ false) → region_min p past ≤ 8 + r
region_low c r p past few legal turns high =
    let low = low_puts (8 + r) past (are_first c past few legal turns) (λ x above. unput c x past legal (high x (omega (arith, above)))) in
    let min = min_low p past in
    omega (arith, low, min)
