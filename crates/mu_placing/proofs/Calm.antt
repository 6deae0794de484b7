-- An event by which nothing becomes known bears on the log of no region but the one that it names.
use Rattle.std.proofs.Common.{Bool, List, None, Some, [], ap, arith, eqb-true, false, length, refl, sym, true, ℕ, ◌&&◌, ◌+◌, ◌==◌, ◌||◌, ◌∙◌, ◌∷◌, ◌≡◌, ◌≢◌}
use Rattle.std.proofs.Math.Bool.{and-false}
use Rattle.std.proofs.lemmas.Bool.{ne_eqb}
use Rattle.std.proofs.lemmas.List.{length-append}
use Rattle.std.specs.Prelude.{if◌then◌else◌, nat_lt}
use Rattle.std.specs.declared.option.Option.{Option}
use Rattle.mu_model.specs.declared.config.Config.{Config}
use Rattle.mu_model.specs.declared.event.Answer.{Answer}
use Rattle.mu_model.specs.declared.event.Event.{Event}
use Rattle.mu_model.specs.declared.event.Verb.{Verb}
use Rattle.mu_model.specs.Histories.{has, max_with, event_by}
use Rattle.mu_model.specs.Knowledge.{fills, fuo_read, greatest_fuo_read, grown, is_filled, known, lands_entry, learnt_by}
use Rattle.mu_model.specs.Leaderships.{begins_leadership, leadership}
use Rattle.mu_model.specs.Placing.{is_caught_up_at, is_known_put}
use Rattle.mu_model.proofs.Basics.{none_some}
use Rattle.mu_placing.specs.FilledLogs.{HoldsCoverage}
use Rattle.mu_placing.specs.Naming.{region_of_step}
use Rattle.mu_placing.specs.declared.filled_logs.Coverage.{Coverage}
use Rattle.mu_placing.proofs.Apart.{apart}

-- the region that the event names, if nothing becomes known by it
pub alone : (c : Config) (r p : ℕ) (e : Event) (mine : List Event) (before after : List ℕ) → before ≡ known c r mine → after ≡ known c r (e ∷ mine) → (if length before == length after then region_of_step e.verb else None) ≡ Some p
    → (length (known c r mine) ≡ length (known c r (e ∷ mine))) × (region_of_step e.verb ≡ Some p)
alone c r p e mine before after was now names = go (length before == length after) refl names
  where
    go : (t : Bool) → (length before == length after) ≡ t → (if t then region_of_step e.verb else None) ≡ Some p → (length (known c r mine) ≡ length (known c r (e ∷ mine))) × (region_of_step e.verb ≡ Some p)
    go true is names = (sym (ap length was) ∙ (eqb-true (length before) (length after) is ∙ ap length now), names)
    go false is names = absurd (none_some p names)

-- what doesn't grow longer doesn't grow
same_grown : (values : List ℕ) (o : Option ℕ) → length values ≡ length (grown values o) → grown values o ≡ values
same_grown values None same = refl
same_grown values (Some v) same = let long = length-append values (v ∷ []) in absurd (omega (arith, same, long))

same_known : (c : Config) (r : ℕ) (e : Event) (mine : List Event) → length (known c r mine) ≡ length (known c r (e ∷ mine)) → known c r (e ∷ mine) ≡ known c r mine
same_known c r e mine same = same_grown (known c r mine) (learnt_by c r mine (length (known c r mine)) e.by e.verb e.answer (e ∷ mine)) same

-- no list is one longer than itself
not_longer : (a b i : ℕ) → a ≡ b → ((a == i) && (b == i + 1)) ≡ false
not_longer a b i same = go (a == i) refl
  where
    go : (u : Bool) → (a == i) ≡ u → (u && (b == i + 1)) ≡ false
    go true here = ne_eqb b (i + 1) (λ more. let is = eqb-true a i here in omega (arith, same, more, is))
    go false here = refl

not_longer_and : (a b i : ℕ) (t : Bool) → a ≡ b → ((a == i) && ((b == i + 1) && t)) ≡ false
not_longer_and a b i t same = go (a == i) refl (not_longer a b i same)
  where
    go : (u : Bool) → (a == i) ≡ u → (u && (b == i + 1)) ≡ false → (u && ((b == i + 1) && t)) ≡ false
    go true here none = rw none refl
    go false here none = refl

-- such an event at p fills nothing at q
none_filled : (c : Config) (r q p j by : ℕ) (verb : Verb) (answer : Answer) (mine now : List Event) → length (known c r mine) ≡ length (known c r now) → region_of_step verb ≡ Some p → q ≢ p → fills c r q j mine by verb answer now ≡ false
none_filled c r q p j by (Verb.Fuo f) (Answer.Number x) mine now same names differs = rw (apart q f p names differs, and-false (by == r)) refl
none_filled c r q p j by (Verb.PutSlot f i b v) Answer.Done mine now same names differs =
    rw (apart q f p names differs, not_longer_and (length (known c r mine)) (length (known c r now)) j (has (lands_entry r q j b v) (leadership r now)) same, and-false (by == r)) refl
none_filled c r q p j by (Verb.Look f i) (Answer.Entry b v) mine now same names differs =
    rw (not_longer (length (known c r mine)) (length (known c r now)) j same, and-false (i == j), and-false (f == r), and-false (q == r), and-false (by == r)) refl
none_filled c r q p j by verb answer mine now same names differs = refl

-- it reads no FUO there
none_read : (r q p by : ℕ) (verb : Verb) (answer : Answer) → region_of_step verb ≡ Some p → q ≢ p → fuo_read r q by verb answer ≡ None
none_read r q p by (Verb.Fuo f) (Answer.Number x) names differs = rw (apart q f p names differs, and-false (by == r)) refl
none_read r q p by verb answer names differs = refl

-- it puts nothing there
none_put : (values : List ℕ) (r q p j by : ℕ) (verb : Verb) (answer : Answer) → region_of_step verb ≡ Some p → q ≢ p → is_known_put values r q j by verb answer ≡ false
none_put values r q p j by (Verb.PutSlot f i b v) Answer.Done names differs = rw (apart q f p names differs, and-false (by == r)) refl
none_put values r q p j by verb answer names differs = refl

-- and begins no leadership
none_begun : (r p by : ℕ) (verb : Verb) (answer : Answer) → region_of_step verb ≡ Some p → begins_leadership r (event_by by verb answer) ≡ false
none_begun r p by (Verb.Ask f) answer names = absurd (none_some p names)
none_begun r p by verb answer names = refl

-- so what is caught up at q stays
caught_stays : (c : Config) (r q p j : ℕ) (e : Event) (mine : List Event) → length (known c r mine) ≡ length (known c r (e ∷ mine)) → region_of_step e.verb ≡ Some p → q ≢ p → is_caught_up_at c r q (e ∷ mine) j ≡ is_caught_up_at c r q mine j
caught_stays c r q p j e mine same names differs =
    ap (λ l. nat_lt j (greatest_fuo_read r q l) || has (λ x. is_known_put (known c r (e ∷ mine)) r q j x.by x.verb x.answer) l) more
    ∙ (ap (λ o. nat_lt j (max_with o (greatest_fuo_read r q old)) || (if is_known_put (known c r (e ∷ mine)) r q j e.by e.verb e.answer then true else has (λ x. is_known_put (known c r (e ∷ mine)) r q j x.by x.verb x.answer) old)) (none_read r q p e.by e.verb e.answer names differs)
    ∙ (ap (λ t. nat_lt j (greatest_fuo_read r q old) || (if t then true else has (λ x. is_known_put (known c r (e ∷ mine)) r q j x.by x.verb x.answer) old)) (none_put (known c r (e ∷ mine)) r q p j e.by e.verb e.answer names differs)
    ∙ ap (λ values. nat_lt j (greatest_fuo_read r q old) || has (λ x. is_known_put values r q j x.by x.verb x.answer) old) (same_known c r e mine same)))
  where
    old : List Event
    old = leadership r mine

    more : leadership r (e ∷ mine) ≡ e ∷ old
    more = ap (λ t. if t then [] else (e ∷ old)) (none_begun r p e.by e.verb e.answer names)

pub coverage_stays : (c : Config) (r q p : ℕ) (e : Event) (mine : List Event) (region : Coverage) → length (known c r mine) ≡ length (known c r (e ∷ mine)) → region_of_step e.verb ≡ Some p → q ≢ p → HoldsCoverage c r q mine region
    → HoldsCoverage c r q (e ∷ mine) region
coverage_stays c r q p e mine region same names differs held = record {
  id = held.id;
  log = record {
    room = held.log.room;
    filled = λ j. ap (λ t. t || is_filled c r q mine j) (none_filled c r q p j e.by e.verb e.answer mine (e ∷ mine) same names differs) ∙ held.log.filled j;
    next = held.log.next;
  };
  caught = λ j low. caught_stays c r q p j e mine same names differs ∙ held.caught j low;
  caught_next = caught_stays c r q p region.caught_to e mine same names differs ∙ held.caught_next;
}
