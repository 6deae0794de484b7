-- What the looks at a position gave: whether each was empty, and whether one showed an entry.
use Rattle.std.proofs.Common.{Bool, List, None, Some, [], ap, arith, cond, false, inl, inr, is_some, length, refl, suc, subst, sym, true, true≢false, zero, ℕ, ◌&&◌, ◌+◌, ◌<◌, ◌==◌, ◌||◌, ◌∙◌, ◌∷◌, ◌≡◌, ◌≤◌}
use Rattle.std.specs.Prelude.{if◌then◌else◌, nat_lt, ◌⊎◌}
use Rattle.std.specs.List.{slice_get}
use Rattle.std.specs.declared.option.Option.{Option}
use Rattle.std.proofs.lemmas.Bool.{cases_eq}
use Rattle.mu_model.specs.declared.config.Config.{Config}
use Rattle.mu_model.specs.declared.event.Answer.{Answer}
use Rattle.mu_model.specs.declared.event.Event.{Event}
use Rattle.mu_model.specs.declared.event.Verb.{Verb}
use Rattle.mu_model.specs.Histories.{has, newer_or, newest, event_by}
use Rattle.mu_model.specs.Knowledge.{entry_seen, is_entry_seen}
use Rattle.mu_model.specs.Leaderships.{begins_leadership, is_member, leadership}
use Rattle.mu_model.specs.Parts.{IsPossible}
use Rattle.mu_model.specs.Picks.{entry_of, highest_accepted, is_joining, is_past, is_past_look, larger, last_look, look_answer, since_last_joining}
use Rattle.mu_model.specs.Answers.{shown}
use Rattle.mu_model.specs.Regions.{region_log}
use Rattle.mu_model.proofs.Basics.{none_some, same_number}
use Rattle.mu_agree.proofs.Landings.{has_since}
use Rattle.mu_agree.proofs.Entries.{part_looks_stay_filled_law}
use Rattle.mu_agree.proofs.Possible.{answered, at_event}
use Rattle.mu_agree.proofs.Readings.{part_looks_stay_past_law}
use Rattle.mu_lead.specs.declared.place.Sight.{Sight}
use Rattle.mu_lead.specs.Leading.{end_of}
use Rattle.mu_lead.specs.Offering.{AtOutrun, Looking, LooksShow, ShowsEntry, has_seen_past, is_entry_look, is_full_look}
use Rattle.mu_lead.proofs.Bringing.{look_event}

-- a look that showed an entry
entry_shown : (r p i by : ℕ) (verb : Verb) (answer : Answer) → is_entry_look (look_answer r p i by verb answer) ≡ true → is_entry_seen r p i by verb answer ≡ true
entry_shown r p i by (Verb.Look q j) (Answer.Entry b v) is = go ((by == r) && ((q == p) && (j == i))) is
  where
    go : (t : Bool) → is_some (entry_of (cond t (Some (Answer.Entry b v)) None)) ≡ true → t ≡ true
    go true is = refl
    go false is = is
entry_shown r p i by (Verb.Look q j) answer is = absurd (go ((by == r) && ((q == p) && (j == i))) is)
  where
    go : (t : Bool) → is_some (entry_of (cond t (Some answer) None)) ≡ true → ⊥
    go true is = true≢false (sym is)
    go false is = true≢false (sym is)
entry_shown r p i by verb answer is = absurd (true≢false (sym is))

-- if some look wasn't empty one showed an entry, or one was past
full_shown : (r p i : ℕ) (xs : List Event) → has (λ e. is_full_look (look_answer r p i e.by e.verb e.answer)) xs ≡ true → (has (entry_seen r p i) xs ≡ true) ⊎ (has_seen_past r p i xs ≡ true)
full_shown r p i [] is = absurd (true≢false (sym is))
full_shown r p i (e ∷ xs) is = go (is_entry_look (look_answer r p i e.by e.verb e.answer)) refl (is_past_look (look_answer r p i e.by e.verb e.answer)) refl is (full_shown r p i xs)
  where
    go : (s : Bool) → is_entry_look (look_answer r p i e.by e.verb e.answer) ≡ s → (t : Bool) → is_past_look (look_answer r p i e.by e.verb e.answer) ≡ t → cond (s || t) true (has (λ f. is_full_look (look_answer r p i f.by f.verb f.answer)) xs) ≡ true
        → (has (λ f. is_full_look (look_answer r p i f.by f.verb f.answer)) xs ≡ true → (has (entry_seen r p i) xs ≡ true) ⊎ (has_seen_past r p i xs ≡ true)) → (has (entry_seen r p i) (e ∷ xs) ≡ true) ⊎ (has_seen_past r p i (e ∷ xs) ≡ true)
    go true shown t past is rest = inl (rw (entry_shown r p i e.by e.verb e.answer shown) refl)
    go false shown true past is rest = inr (rw past refl)
    go false shown false past is rest = elim (rest is) [
      | inl seen ↦ inl (later (entry_seen r p i e) (has (entry_seen r p i) xs) seen)
      | inr seen ↦ inr (later (is_past_look (look_answer r p i e.by e.verb e.answer)) (has_seen_past r p i xs) seen)
    ]
      where
        later : (t u : Bool) → u ≡ true → cond t true u ≡ true
        later true u is = refl
        later false u is = is

-- a look that is neither past nor an entry is empty
pub empty_is : (c : Config) (r p i : ℕ) (a : Answer) (mine : List Event) → IsPossible c r (look_event r p i a ∷ mine) → is_past a ≡ false → entry_of (Some a) ≡ None → a ≡ Answer.Empty
empty_is c r p i a mine possible not_past none =
    let s = at_event c r mine (look_event r p i a) possible in
    go (nat_lt (i + c.ring) (length (region_log p s.older))) (slice_get (region_log p s.older) i) (answered c r mine (look_event r p i a) (Verb.Look p i) possible refl)
  where
    go : (t : Bool) (o : Option (ℕ × ℕ)) → a ≡ (if t then Answer.Past else shown o) → a ≡ Answer.Empty
    go true o is = absurd (true≢false (sym (ap is_past is) ∙ not_past))
    go false None is = is
    go false (Some x) is = absurd (none_some x (sym none ∙ ap (λ k. entry_of (Some k)) is))

-- before a look that is empty none was anything else
pub all_empty : (c : Config) (r p i : ℕ) (a : Answer) (mine : List Event) → IsPossible c r (look_event r p i a ∷ mine) → is_past a ≡ false → entry_of (Some a) ≡ None → has (λ e. is_full_look (look_answer r p i e.by e.verb e.answer)) (leadership r mine) ≡ false
all_empty c r p i a mine possible not_past none = go (has (λ e. is_full_look (look_answer r p i e.by e.verb e.answer)) (leadership r mine)) refl
  where
    go : (t : Bool) → has (λ e. is_full_look (look_answer r p i e.by e.verb e.answer)) (leadership r mine) ≡ t → t ≡ false
    go false is = refl
    go true is = elim (full_shown r p i mine (has_since (λ e. is_full_look (look_answer r p i e.by e.verb e.answer)) (begins_leadership r) mine is)) [
      | inl seen ↦ absurd (part_looks_stay_filled_law c r p i i mine (look_event r p i a) possible seen (omega arith) refl (empty_is c r p i a mine possible not_past none))
      | inr seen ↦ absurd (true≢false (sym (ap is_past (part_looks_stay_past_law c r p i mine (look_event r p i a) possible refl seen)) ∙ not_past))
    ]

larger_is_none : (x y : Option (ℕ × ℕ)) → larger x y ≡ None → (x ≡ None) × (y ≡ None)
larger_is_none None None is = (refl, refl)
larger_is_none None (Some y) is = absurd (none_some y (sym is))
larger_is_none (Some x) None is = absurd (none_some x (sym is))
larger_is_none (Some x) (Some y) is = absurd (go (nat_lt x.0 y.0) is)
  where
    go : (t : Bool) → (if t then Some y else Some x) ≡ None → ⊥
    go true is = none_some y (sym is)
    go false is = none_some x (sym is)

-- if the members showed no entry none of them did
none_shown : (r i n q : ℕ) (mine : List Event) → q < n → is_member r q mine ≡ true → highest_accepted r i mine n ≡ None → entry_of (last_look r q i mine) ≡ None
none_shown r i zero q mine low member none = absurd (omega (arith, low))
none_shown r i (suc p) q mine low member none =
    let both = larger_is_none (highest_accepted r i mine p) (cond (is_member r p mine) (entry_of (last_look r p i mine)) None) none in
    elim (cases_eq q p) [
      | inl same ↦ sym (ap (λ t. cond t (entry_of (last_look r q i mine)) None) member) ∙ subst (λ k. cond (is_member r k mine) (entry_of (last_look r k i mine)) None ≡ None) (sym same) both.1
      | inr other ↦ none_shown r i p q mine (omega (arith, low, other)) member both.0
    ]

-- an entry of the last look was shown in the leadership
shown_in : (r q i : ℕ) (mine : List Event) → is_entry_look (last_look r q i mine) ≡ true → has (λ e. is_entry_look (look_answer r q i e.by e.verb e.answer)) (leadership r mine) ≡ true
shown_in r q i [] is = absurd (true≢false (sym is))
shown_in r q i (e ∷ mine) is = go (is_joining r mine e.by e.verb e.answer) (begins_leadership r e) is (shown_in r q i mine)
  where
    here : (o : Option Answer) → is_entry_look (newer_or o (last_look r q i mine)) ≡ true → (is_entry_look (last_look r q i mine) ≡ true → has (λ f. is_entry_look (look_answer r q i f.by f.verb f.answer)) (leadership r mine) ≡ true)
        → cond (is_entry_look o) true (has (λ f. is_entry_look (look_answer r q i f.by f.verb f.answer)) (leadership r mine)) ≡ true
    here None is before = before is
    here (Some a) is before = rw is refl

    go : (s t : Bool) → is_entry_look (newest (λ f. look_answer r q i f.by f.verb f.answer) (cond s [] (cond t [] (e ∷ since_last_joining r mine)))) ≡ true
        → (is_entry_look (last_look r q i mine) ≡ true → has (λ f. is_entry_look (look_answer r q i f.by f.verb f.answer)) (leadership r mine) ≡ true)
        → has (λ f. is_entry_look (look_answer r q i f.by f.verb f.answer)) (cond t [] (e ∷ leadership r mine)) ≡ true
    go true t is before = absurd (true≢false (sym is))
    go false true is before = absurd (true≢false (sym is))
    go false false is before = here (look_answer r q i e.by e.verb e.answer) is before

-- if the members showed an entry one of them did
some_shown : (c : Config) (r i n : ℕ) (x : ℕ × ℕ) (mine : List Event) → n ≤ c.replicas → highest_accepted r i mine n ≡ Some x → ShowsEntry c r mine i
some_shown c r i zero x mine low is = absurd (none_some x is)
some_shown c r i (suc p) x mine low is = go (highest_accepted r i mine p) refl is (λ y before. some_shown c r i p y mine (omega (arith, low)) before)
  where
    last : (t : Bool) → is_member r p mine ≡ t → cond t (entry_of (last_look r p i mine)) None ≡ Some x → ShowsEntry c r mine i
    last true member is = record { region = p; within = omega (arith, low); member = member; shown = shown_in r p i mine (ap is_some is) }
    last false member is = absurd (none_some x is)

    go : (o : Option (ℕ × ℕ)) → highest_accepted r i mine p ≡ o → larger o (cond (is_member r p mine) (entry_of (last_look r p i mine)) None) ≡ Some x → ((y : ℕ × ℕ) → highest_accepted r i mine p ≡ Some y → ShowsEntry c r mine i) → ShowsEntry c r mine i
    go (Some y) before is rest = rest y before
    go None before is rest = last (is_member r p mine) refl is

-- what the looks at the members gave, by the entry of the largest number
pub looks_empty : (c : Config) (r b : ℕ) (mine : List Event) (up : List ℕ) (reach : List (Option ℕ)) (candidate : Option ℕ) → Looking c r b mine up reach c.replicas candidate None → LooksShow c r mine (end_of c r mine) false
looks_empty c r b mine up reach candidate l q low member = (l.looked q low member).empty (none_shown r (end_of c r mine) c.replicas q mine low member l.shows)

pub looks_shown : (c : Config) (r b : ℕ) (mine : List Event) (up : List ℕ) (reach : List (Option ℕ)) (candidate : Option ℕ) (sight : Sight) → Looking c r b mine up reach c.replicas candidate (Some sight) → LooksShow c r mine (end_of c r mine) true
looks_shown c r b mine up reach candidate sight l = some_shown c r (end_of c r mine) c.replicas (sight.number, sight.value) mine (omega arith) l.shows

-- a verb that makes no look, and neither a leadership nor a member
abbrev pub keeps_looks : Verb → Bool
keeps_looks (Verb.Ask p) = false
keeps_looks (Verb.PutMin p b) = false
keeps_looks (Verb.Look p i) = false
keeps_looks verb = true

pub shows_kept : (c : Config) (r i by : ℕ) (verb : Verb) (answer : Answer) (mine : List Event) (adopted : Bool) → keeps_looks verb ≡ true → LooksShow c r mine i adopted → LooksShow c r (event_by by verb answer ∷ mine) i adopted
shows_kept c r i by (Verb.Ask p) answer mine adopted keeps s = absurd (true≢false (sym keeps))
shows_kept c r i by (Verb.PutMin p b) answer mine adopted keeps s = absurd (true≢false (sym keeps))
shows_kept c r i by (Verb.Look p j) answer mine adopted keeps s = absurd (true≢false (sym keeps))
shows_kept c r i by verb answer mine true keeps s = record { region = s.region; within = s.within; member = s.member; shown = s.shown }
shows_kept c r i by verb answer mine false keeps s = λ q low member. s q low member

-- a look at a member in the next position was past
pub outrun_by : (c : Config) (r p i : ℕ) (a : Answer) (mine : List Event) → p < c.replicas → is_member r p mine ≡ true → is_past a ≡ true → i ≡ end_of c r mine → AtOutrun c r (look_event r p i a ∷ mine)
outrun_by c r p i Answer.Past mine region member past here = record { region = p; within = region; member = member; past = rw (here, same_number r, same_number p, same_number (end_of c r mine)) refl }
outrun_by c r p i answer mine region member past here = absurd (true≢false (sym past))
