-- The counts of a leader while the FUOs of its members are read.
use Rattle.std.proofs.Common.{◌≡◌, ℕ, ◌<◌, inl, inr, true, false, List, ◌∷◌, refl, sym, ◌∙◌, arith, true≢false}
use Rattle.std.specs.declared.option.Option.{Option}
use Rattle.mu_model.specs.declared.config.Config.{Config}
use Rattle.mu_model.specs.declared.event.Answer.{Answer}
use Rattle.mu_model.specs.declared.event.Event.{Event}
use Rattle.mu_model.specs.declared.event.Verb.{Verb}
use Rattle.mu_model.specs.Contents.{IsConfig}
use Rattle.mu_model.specs.Leaderships.{is_member}
use Rattle.mu_model.specs.Stretches.{is_replication}
use Rattle.mu_model.specs.Histories.{event_by}
use Rattle.mu_pace.specs.Asking.{far, is_far, turns}
use Rattle.mu_pace.specs.Members.{IsNextMember, members_from}
use Rattle.mu_pace.specs.Placed.{is_level}
use Rattle.mu_pace.specs.Watches.{is_brought_up}
use Rattle.mu_pace.specs.Weights.{GoesOn, IsPlace, Lag, Stage, at_behind, at_fuo, at_learning, brings, learns, level, next_fuo}
use Rattle.mu_pace.proofs.Members.{counts_of_members}
use Rattle.mu_pace.proofs.Weights.{weights_fall}
use Rattle.mu_lead.specs.declared.place.Place.{Place}
use Rattle.mu_lead.specs.declared.place.Then.{Then}
use Rattle.mu_lively.specs.Onward.{MayBringUp, MayGoOn}
use Rattle.mu_lively.specs.Rooms.{IsLed, IsPlaced, sizes_of}
use Rattle.mu_lively.proofs.RoomsOnward.{onward_step}
use Rattle.mu_lively.proofs.RoomsPutting.{in_turn}
use Rattle.mu_lively.proofs.RoomsQuiet.{silent_verbs_are_silent, config_is_sized, steps_on}

-- by a FUO that is read, to a place before the late followers
reads_fuo : (c : Config) (r p u : ℕ) (t : Stage) (mine : List Event) → IsConfig c → is_replication mine (event_by r (Verb.Fuo p) (Answer.Number u)) ≡ true → IsLed c r mine (Stage.ReadFuo (members_from c r p mine))
    → GoesOn (sizes_of c r mine) (Stage.ReadFuo (members_from c r p mine)) t → IsPlace (sizes_of c r mine) t → ((k : ℕ) → is_far k t ≡ true) → is_level t ≡ false → IsLed c r (event_by r (Verb.Fuo p) (Answer.Number u) ∷ mine) t
reads_fuo c r p u t mine is turn at edge place distant low = record {
  read = at.read;
  placed = steps_on c r (Stage.ReadFuo (members_from c r p mine)) t mine (event_by r (Verb.Fuo p) (Answer.Number u)) is turn (silent_verbs_are_silent c r mine r (Verb.Fuo p) (Answer.Number u) refl) at.placed edge place
      (λ k few stranger. inl (far (Stage.ReadFuo (members_from c r p mine)) t edge refl (distant k))) (λ high. absurd (true≢false (sym high ∙ low)));
}

-- the next member
pub rooms_next_fuo : (c : Config) (r p q u : ℕ) (source from : Option ℕ) (mine : List Event) (written : List ℕ) → IsConfig c → is_replication mine (event_by r (Verb.Fuo p) (Answer.Number u)) ≡ true → IsNextMember c r p q mine → IsPlaced c r mine written (Place.ReadFuo p source)
    → IsPlaced c r (event_by r (Verb.Fuo p) (Answer.Number u) ∷ mine) written (Place.ReadFuo q from)
rooms_next_fuo c r p q u source from mine written is turn next at =
    let k = members_from c r p mine in
    let j = members_from c r q mine in
    let one = counts_of_members.next c r p q mine next in
    reads_fuo c r p u (Stage.ReadFuo j) mine is turn at (next_fuo k j (omega (arith, one))) (at_fuo j (in_turn c r q mine)) (λ l. refl) refl

-- or, after the last one, looks at what isn't known
pub rooms_learns : (c : Config) (r p u : ℕ) (source : Option ℕ) (mine : List Event) (written : List ℕ) → IsConfig c → is_replication mine (event_by r (Verb.Fuo p) (Answer.Number u)) ≡ true → p < c.replicas → is_member r p mine ≡ true → IsPlaced c r mine written (Place.ReadFuo p source)
    → IsLed c r (event_by r (Verb.Fuo p) (Answer.Number u) ∷ mine) Stage.Learn
rooms_learns c r p u source mine written is turn region member at =
    reads_fuo c r p u Stage.Learn mine is turn at (learns (members_from c r p mine) (counts_of_members.some c r p mine region member)) at_learning (λ l. refl) refl

-- brings up members that are behind
pub rooms_brings : (c : Config) (r p q u : ℕ) (source : Option ℕ) (mine : List Event) (written : List ℕ) → IsConfig c → is_replication mine (event_by r (Verb.Fuo p) (Answer.Number u)) ≡ true → p < c.replicas → is_member r p mine ≡ true → IsPlaced c r mine written (Place.ReadFuo p source)
    → MayBringUp c r (event_by r (Verb.Fuo p) (Answer.Number u) ∷ mine) q Then.Late
rooms_brings c r p q u source mine written is turn region member at step first =
    reads_fuo c r p u (Stage.Bring Lag.Behind step) mine is turn at (brings (members_from c r p mine) step (counts_of_members.some c r p mine region member) first) (at_behind step) (λ l. refl) refl

-- or asks after late followers
pub rooms_level : (c : Config) (r p u : ℕ) (source : Option ℕ) (mine : List Event) (written : List ℕ) → IsConfig c → is_replication mine (event_by r (Verb.Fuo p) (Answer.Number u)) ≡ true → p < c.replicas → is_member r p mine ≡ true
    → ((k : ℕ) → is_member r k (event_by r (Verb.Fuo p) (Answer.Number u) ∷ mine) ≡ true → is_brought_up c r k (event_by r (Verb.Fuo p) (Answer.Number u) ∷ mine) ≡ true) → IsPlaced c r mine written (Place.ReadFuo p source) → MayGoOn c r (event_by r (Verb.Fuo p) (Answer.Number u) ∷ mine) 0
rooms_level c r p u source mine written is turn region member levels at =
    let k = members_from c r p mine in
    let some = counts_of_members.some c r p mine region member in
    onward_step c r 0 (Stage.ReadFuo k) mine (event_by r (Verb.Fuo p) (Answer.Number u)) is turn (silent_verbs_are_silent c r mine r (Verb.Fuo p) (Answer.Number u) refl) refl at.read at (omega arith) (λ t goes. level k t some goes)
    (record {
      nearer = λ l q low above stranger. inl (turns (Stage.ReadFuo k) q refl (weights_fall.heavy (sizes_of c r mine) (Stage.ReadFuo k) (config_is_sized c r mine is) at.placed.place) above);
      farther = λ l below stranger. absurd (omega (arith, below));
    })
    (inr levels)
