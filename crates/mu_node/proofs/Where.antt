-- Where the leader of a node is after each kind of turn.
use Rattle.std.proofs.Common.{◌≡◌, ◌∙◌, ◌==◌, ◌&&◌, inl, inr, ℕ, ◌<◌, Bool, true, false, None, Some, List, ◌∷◌, ap, arith, eqb-true, length, refl, subst, sym}
use Rattle.std.specs.Prelude.{if◌then◌else◌, is_some, nat_lt, not}
use Rattle.std.proofs.lemmas.Bool.{le-ltb, true≢false}
use Rattle.std.specs.declared.option.Option.{Option}
use Rattle.mu_model.specs.declared.config.Config.{Config}
use Rattle.mu_model.specs.declared.event.Answer.{Answer}
use Rattle.mu_model.specs.declared.event.Event.{Event}
use Rattle.mu_model.specs.declared.event.Verb.{Verb}
use Rattle.mu_model.specs.Knowledge.{known}
use Rattle.mu_model.specs.Parts.{IsPossible}
use Rattle.mu_model.specs.Scores.{leader}
use Rattle.mu_model.specs.Steps.{is_named}
use Rattle.mu_model.specs.Stretches.{is_odd}
use Rattle.mu_model.proofs.Basics.{none_some}
use Rattle.mu_model.specs.Histories.{event_by}
use Rattle.mu_lead.specs.declared.lead.Lead.{Lead}
use Rattle.mu_lead.specs.declared.place.Place.{Place}
use Rattle.mu_lead.specs.Beside.{writes_row}
use Rattle.mu_lead.specs.Journal.{HasLeft, IsWhere, PlacesNext, due_after}
use Rattle.mu_lead.specs.Resigning.{IsTold}
use Rattle.mu_lead.specs.Standing.{known_told, verb_at, verb_of}
use Rattle.mu_lead.proofs.Folding.{due_is, rests_at, turn_tables, unnamed_place, where_beside, where_left, where_named, where_rests, where_unnamed}
use Rattle.mu_node.specs.Due.{CatchesUp, IsIdle, lead_due}
use Rattle.mu_node.specs.Node.{StandsForLead}
use Rattle.mu_node.specs.Placed.{IsWherePlanned, IsWhereTold}
use Rattle.mu_node.proofs.CatchingUp.{catches_reading, reading_fails, reading_tables}
use Rattle.mu_node.proofs.Leading.{lower_named}

-- what is said of the configuration and the id of a leader is said of those of its node
pub of_node : (F : Config → ℕ → Type 0) (c : Config) (r : ℕ) (lead : Lead) → lead.config ≡ c → lead.id ≡ r → F lead.config lead.id → F c r
of_node F c r lead same_c same_r it = subst (λ i. F c i) same_r (subst (λ k. F k lead.id) same_c it)

-- what is due is the verb of the place, and r is named
pub is_asked : (t : Bool) (due : Option Verb) (verb : Verb) → (if t then due else None) ≡ Some verb → (t ≡ true) × (due ≡ Some verb)
is_asked true due verb is = (refl, is)
is_asked false due verb is = absurd (none_some verb is)

-- a turn of the leader
pub where_after : (c : Config) (r : ℕ) (mine : List Event) (old new : Lead) (verb : Verb) (answer : Answer) (values : List ℕ) → StandsForLead c r mine old → PlacesNext mine old values answer new → is_odd (length mine) ≡ true
    → lead_due c r mine old ≡ Some verb → IsPossible c r (event_by r verb answer ∷ mine) → values ≡ known_told c r mine r verb answer → IsWhere c r mine old → IsWhere c r (event_by r verb answer ∷ mine) new
where_after c r mine old new verb answer values held placed odd due possible told at =
    of_node (λ k i. is_named k i mine ≡ true → verb_of old (known k i mine) ≡ Some verb → IsPossible k i (event_by i verb answer ∷ mine) → values ≡ known_told k i mine i verb answer → IsWhere k i mine old → IsWhere k i (event_by i verb answer ∷ mine) new) c r old held.config held.id
    (λ named is may value here. placed verb is may value odd named (inl here)) (is_asked (leader c r mine == r) (verb_of old (known c r mine)) verb due).0 (is_asked (leader c r mine == r) (verb_of old (known c r mine)) verb due).1 possible told at

-- the first ask of one that left its leadership
pub where_asked : (c : Config) (r : ℕ) (mine : List Event) (old new : Lead) (answer : Answer) (values : List ℕ) → StandsForLead c r mine old → HasLeft c r mine old → is_odd (length mine) ≡ true → is_named c r mine ≡ true
    → PlacesNext mine old values answer new → IsPossible c r (event_by r (Verb.Ask 0) answer ∷ mine) → values ≡ known_told c r mine r (Verb.Ask 0) answer → IsWhere c r (event_by r (Verb.Ask 0) answer ∷ mine) new
where_asked c r mine old new answer values held left odd named placed possible told =
    of_node (λ k i. HasLeft k i mine old → is_named k i mine ≡ true → IsPossible k i (event_by i (Verb.Ask 0) answer ∷ mine) → values ≡ known_told k i mine i (Verb.Ask 0) answer → IsWhere k i (event_by i (Verb.Ask 0) answer ∷ mine) new) c r old held.config held.id
    (λ gone is may value. placed (Verb.Ask 0) (verb old gone.place) may value odd is (inr gone)) left named possible told
  where
    verb : (l : Lead) → l.place ≡ Place.Ask 0 → verb_of l (known old.config old.id mine) ≡ Some (Verb.Ask 0)
    verb l begins = rw begins refl

-- the leader was told which leader the scores name
pub where_told : (c : Config) (r : ℕ) (mine : List Event) (old new : Lead) (named : ℕ) → r < c.replicas → named ≡ leader c r mine → old.id ≡ r → IsTold old named new → new.under_way ≡ (old.under_way && not (nat_lt named old.id)) → IsWhere c r mine old
    → IsWhereTold (not (is_named c r mine)) c r mine new
where_told c r mine old new named inside is same told going at = go (is_named c r mine) refl
  where
    go : (t : Bool) → is_named c r mine ≡ t → IsWhereTold (not t) c r mine new
    go true own =
        let number = eqb-true (leader c r mine) r own in
        where_named c r named mine old new told going (le-ltb named old.id (omega (arith, number, is, same))) at
    go false other = where_left c r named mine old new told (ap (λ l. nat_lt l old.id) is ∙ ap (λ i. nat_lt (leader c r mine) i) same ∙ lower_named c r mine inside other) at

-- in a background turn nothing is told
pub where_even : (c : Config) (r : ℕ) (mine : List Event) (lead : Lead) → is_odd (length mine) ≡ false → IsWhere c r mine lead → IsWherePlanned c r mine lead
where_even c r mine lead even at = subst (λ t. IsWhereTold (t && not (is_named c r mine)) c r mine lead) (sym even) at

pub even_where : (c : Config) (r : ℕ) (mine : List Event) (lead : Lead) → is_odd (length mine) ≡ false → IsWherePlanned c r mine lead → IsWhere c r mine lead
even_where c r mine lead even at = subst (λ t. IsWhereTold (t && not (is_named c r mine)) c r mine lead) even at

-- in one of the leader it is
pub where_odd : (c : Config) (r : ℕ) (mine : List Event) (lead : Lead) → is_odd (length mine) ≡ true → IsWhereTold (not (is_named c r mine)) c r mine lead → IsWherePlanned c r mine lead
where_odd c r mine lead odd at = subst (λ t. IsWhereTold (t && not (is_named c r mine)) c r mine lead) (sym odd) at

odd_where : (c : Config) (r : ℕ) (mine : List Event) (lead : Lead) (t : Bool) → is_odd (length mine) ≡ true → is_named c r mine ≡ t → IsWherePlanned c r mine lead → IsWhereTold (not t) c r mine lead
odd_where c r mine lead t odd named at = subst (λ u. IsWhereTold (not u) c r mine lead) named (subst (λ u. IsWhereTold (u && not (is_named c r mine)) c r mine lead) odd at)

-- if the leader has something due r is named
pub led_where : (c : Config) (r : ℕ) (mine : List Event) (lead : Lead) (verb : Verb) → is_odd (length mine) ≡ true → lead_due c r mine lead ≡ Some verb → IsWherePlanned c r mine lead → IsWhere c r mine lead
led_where c r mine lead verb odd due at = odd_where c r mine lead true odd (is_asked (leader c r mine == r) (verb_of lead (known c r mine)) verb due).0 at

-- nothing is due if all is known or the log was outrun
none_due : (c : Config) (b : ℕ) (values up written : List ℕ) (place : Place) → verb_at c b values up written place ≡ None → rests_at place ≡ true
none_due c b values up written Place.Rest none = refl
none_due c b values up written Place.Outrun none = refl
none_due c b values up written place none = absurd (true≢false (ap is_some none))

-- a beat in its turn
beats_where : (c : Config) (r : ℕ) (mine : List Event) (lead : Lead) (answer : Answer) → is_odd (length mine) ≡ true → lead_due c r mine lead ≡ None → IsWherePlanned c r mine lead → IsWhere c r (event_by r Verb.Beat answer ∷ mine) lead
beats_where c r mine lead answer odd none at = go (is_named c r mine) refl none (odd_where c r mine lead (is_named c r mine) odd refl at)
  where
    go : (t : Bool) → is_named c r mine ≡ t → (if t then verb_of lead (known c r mine) else None) ≡ None → IsWhereTold (not t) c r mine lead → IsWhere c r (event_by r Verb.Beat answer ∷ mine) lead
    go true own none at = where_rests c r mine lead answer odd own (none_due lead.config lead.number (known c r mine) lead.up lead.written.items lead.place none) at
    go false other none left = where_unnamed c r mine lead answer odd other left

-- what a follower reads on with
caught_where : (c : Config) (r : ℕ) (mine : List Event) (lead : Lead) (verb : Verb) (answer : Answer) → is_odd (length mine) ≡ true → CatchesUp c r mine verb → IsWherePlanned c r mine lead → IsWhere c r (event_by r verb answer ∷ mine) lead
caught_where c r mine lead verb answer odd caught planned =
    let left = odd_where c r mine lead false odd caught.unnamed planned in
    record {
      place = left.place ∙ sym (unnamed_place c r mine (event_by r verb answer) odd caught.unnamed);
      tables = left.tables ∙ (sym (reading_tables c r mine verb answer (catches_reading c r mine verb caught.due)) ∙ sym (turn_tables c r mine (event_by r verb answer) odd));
      idle = λ off. left.place;
    }

-- each event that is not of the leader
pub where_other : (c : Config) (r : ℕ) (mine : List Event) (lead : Lead) (verb : Verb) (answer : Answer) → writes_row verb ≡ false → IsIdle c r mine lead verb → IsWherePlanned c r mine lead → IsWhere c r (event_by r verb answer ∷ mine) lead
where_other c r mine lead verb answer none idle at = go (is_odd (length mine)) refl
  where
    go : (t : Bool) → is_odd (length mine) ≡ t → IsWhere c r (event_by r verb answer ∷ mine) lead
    go true odd = elim (idle odd).1 [
      | inl beats ↦ subst (λ v. IsWhere c r (event_by r v answer ∷ mine) lead) (sym beats) (beats_where c r mine lead answer odd (idle odd).0 at)
      | inr caught ↦ caught_where c r mine lead verb answer odd caught at
    ]
    go false even = where_beside c r mine (event_by r verb answer) lead even none (even_where c r mine lead even at)

-- a word of a row is written ahead in the background
pub writes_even : (c : Config) (r : ℕ) (mine : List Event) (lead : Lead) (verb : Verb) → IsIdle c r mine lead verb → writes_row verb ≡ true → is_odd (length mine) ≡ false
writes_even c r mine lead verb idle writes = go (is_odd (length mine)) refl
  where
    go : (t : Bool) → is_odd (length mine) ≡ t → t ≡ false
    go true odd = elim (idle odd).1 [
      | inl beats ↦ absurd (true≢false (sym writes ∙ ap writes_row beats))
      | inr caught ↦ absurd (true≢false (sym writes ∙ reading_fails writes_row verb (catches_reading c r mine verb caught.due) (λ p i. refl) (λ v k. refl)))
    ]
    go false even = refl

-- what the leader has due is what the journal has due
pub due_listed : (c : Config) (r : ℕ) (mine : List Event) (lead : Lead) → StandsForLead c r mine lead → IsWhere c r mine lead → lead_due c r mine lead ≡ due_after c r mine
due_listed c r mine lead held listed = of_node (λ k i. IsWhere k i mine lead → lead_due k i mine lead ≡ due_after k i mine) c r lead held.config held.id (due_is mine lead held.stands) listed
