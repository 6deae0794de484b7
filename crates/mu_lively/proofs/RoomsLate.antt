-- The counts of a leader while it asks after late followers.
use Rattle.std.proofs.Common.{◌≡◌, ℕ, ◌<◌, inl, inr, true, List, ◌∷◌, Some, refl}
use Rattle.std.proofs.lemmas.Bool.{cases_lt, le-leb}
use Rattle.mu_model.specs.declared.config.Config.{Config}
use Rattle.mu_model.specs.declared.event.Answer.{Answer}
use Rattle.mu_model.specs.declared.event.Event.{Event}
use Rattle.mu_model.specs.declared.event.Target.{Target}
use Rattle.mu_model.specs.declared.event.Verb.{Verb}
use Rattle.mu_model.specs.Contents.{IsConfig}
use Rattle.mu_model.specs.Histories.{has, event_by}
use Rattle.mu_model.specs.Leaderships.{has_begun, is_over, leadership, proposal_number}
use Rattle.mu_model.specs.Steps.{is_min}
use Rattle.mu_model.specs.Stretches.{is_replication}
use Rattle.mu_model.proofs.Basics.{same_number}
use Rattle.mu_pace.specs.Asking.{AsksOn, far, near_enter, near_min}
use Rattle.mu_pace.specs.Weights.{Sizes, Stage, at_late_fuo, at_late_put, late_enter, late_min}
use Rattle.mu_pace.proofs.Away.{away_is_in_time}
use Rattle.mu_lead.specs.declared.place.Place.{Place}
use Rattle.mu_lively.specs.Rooms.{IsOut, IsPlaced, sizes_of}
use Rattle.mu_lively.proofs.RoomsMin.{min_now, over_unled, second}
use Rattle.mu_lively.proofs.RoomsQuiet.{later_min_silent, silent_verbs_are_silent, config_is_sized, steps_on}
use Rattle.mu_lively.proofs.Joins.{above_number}

asks_entering : (s : Sizes) (p k : ℕ) → AsksOn s k (Stage.LateEnter p) (Stage.LatePut p)
asks_entering s p k = elim (cases_lt p k) [ inl low ↦ near_enter p low | inr high ↦ far (Stage.LateEnter p) (Stage.LatePut p) (late_enter p) (le-leb k p high) (le-leb k p high) ]

-- the late follower is entered
pub rooms_entered_late : (c : Config) (r p : ℕ) (mine : List Event) (written : List ℕ) → IsConfig c → is_replication mine (event_by r (Verb.Enter p Target.Min) Answer.Entered) ≡ true → p < c.replicas → IsPlaced c r mine written (Place.LateEnter p)
    → IsPlaced c r (event_by r (Verb.Enter p Target.Min) Answer.Entered ∷ mine) written (Place.LatePut p)
rooms_entered_late c r p mine written is turn region at = record {
  read = at.read;
  placed = steps_on c r (Stage.LateEnter p) (Stage.LatePut p) mine (event_by r (Verb.Enter p Target.Min) Answer.Entered) is turn (silent_verbs_are_silent c r mine r (Verb.Enter p Target.Min) Answer.Entered refl) at.placed (late_enter p) (at_late_put p region)
      (λ k low stranger. inl (asks_entering (sizes_of c r mine) p k)) (λ level. inl refl);
}

asks_reading : (s : Sizes) (p k : ℕ) → AsksOn s k (Stage.LateMin p) (Stage.LateFuo p)
asks_reading s p k = elim (cases_lt p k) [ inl low ↦ near_min p low | inr high ↦ far (Stage.LateMin p) (Stage.LateFuo p) (late_min p) (le-leb k p high) (le-leb k p high) ]

-- its minimum lets it join
pub rooms_late_min : (c : Config) (r p : ℕ) (a : Answer) (mine : List Event) (written : List ℕ) → IsConfig c → is_replication mine (event_by r (Verb.Min p) a) ≡ true → p < c.replicas → has_begun r mine ≡ true → IsPlaced c r mine written (Place.LateMin p)
    → IsPlaced c r (event_by r (Verb.Min p) a ∷ mine) written (Place.LateFuo p)
rooms_late_min c r p a mine written is turn region begun at = record {
  read = min_now r p a mine begun;
  placed = steps_on c r (Stage.LateMin p) (Stage.LateFuo p) mine (event_by r (Verb.Min p) a) is turn (later_min_silent c r p a mine (second (has_begun r mine) (has is_min (leadership r mine)) at.read)) at.placed (late_min p) (at_late_fuo p region)
      (λ k low stranger. inl (asks_reading (sizes_of c r mine) p k)) (λ level. inl refl);
}

-- or ends the leadership
pub rooms_higher : (c : Config) (r p b x : ℕ) (mine : List Event) (written : List ℕ) → IsConfig c → is_replication mine (event_by r (Verb.Min p) (Answer.Number x)) ≡ true → proposal_number r mine ≡ Some b → b < x → IsPlaced c r mine written (Place.LateMin p)
    → IsOut c r (event_by r (Verb.Min p) (Answer.Number x) ∷ mine)
rooms_higher c r p b x mine written is turn numbered more at =
    let e = event_by r (Verb.Min p) (Answer.Number x) in
    let quiet = later_min_silent c r p (Answer.Number x) mine (second (has_begun r mine) (has is_min (leadership r mine)) at.read) in
    let over : is_over r (e ∷ mine) ≡ true = rw (same_number r, numbered) (above_number b x (is_over r mine) more) in
    record {
      left = inl (over_unled r (e ∷ mine) over);
      away = away_is_in_time.over c r (sizes_of c r mine) (Stage.LateMin p) mine e (config_is_sized c r mine is) at.placed turn over quiet.no_milestone quiet.none_behind;
    }
