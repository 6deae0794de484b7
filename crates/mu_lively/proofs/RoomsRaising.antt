-- The counts of a leader while FUOs are raised: after a commit, and after a region was brought up.
use Rattle.std.proofs.Common.{◌≡◌, ℕ, ◌+◌, ◌<◌, inl, inr, true, List, ◌∷◌, refl, sym, subst, arith, true≢false}
use Rattle.std.proofs.lemmas.Bool.{le-leb}
use Rattle.mu_model.specs.declared.config.Config.{Config}
use Rattle.mu_model.specs.declared.event.Answer.{Answer}
use Rattle.mu_model.specs.declared.event.Event.{Event}
use Rattle.mu_model.specs.declared.event.Verb.{Verb}
use Rattle.mu_model.specs.Contents.{IsConfig}
use Rattle.mu_model.specs.Leaderships.{is_member}
use Rattle.mu_model.specs.Stretches.{is_replication}
use Rattle.mu_model.specs.Histories.{event_by}
use Rattle.mu_pace.specs.Asking.{far, near_brought, raised, raises, turns}
use Rattle.mu_pace.specs.Members.{IsNextMember, members_from}
use Rattle.mu_pace.specs.Watches.{is_brought_up}
use Rattle.mu_pace.specs.Weights.{Bringing, Lag, Stage, all_brought, at_behind, at_raise, brought_joined, last_raise, next_behind, next_raise}
use Rattle.mu_pace.proofs.Members.{counts_of_members}
use Rattle.mu_pace.proofs.Weights.{weights_fall}
use Rattle.mu_lead.specs.declared.place.Place.{Place}
use Rattle.mu_lead.specs.declared.place.Then.{Then}
use Rattle.mu_lively.specs.Onward.{MayBringUp, MayGoOn}
use Rattle.mu_lively.specs.Rooms.{IsPlaced, sizes_of}
use Rattle.mu_lively.proofs.RoomsOnward.{onward_step}
use Rattle.mu_lively.proofs.RoomsPutting.{in_turn}
use Rattle.mu_lively.proofs.RoomsQuiet.{silent_verbs_are_silent, config_is_sized, steps_on}

-- after a commit, the next member
pub rooms_next_raise : (c : Config) (r p q u : ℕ) (mine : List Event) (written : List ℕ) → IsConfig c → is_replication mine (event_by r (Verb.RaiseFuo p u) Answer.Done) ≡ true → IsNextMember c r p q mine → IsPlaced c r mine written (Place.Raise p)
    → IsPlaced c r (event_by r (Verb.RaiseFuo p u) Answer.Done ∷ mine) written (Place.Raise q)
rooms_next_raise c r p q u mine written is turn next at =
    let k = members_from c r p mine in
    let j = members_from c r q mine in
    let one = counts_of_members.next c r p q mine next in
    let less : j < k = omega (arith, one) in
    record {
      read = at.read;
      placed = steps_on c r (Stage.RaiseAt k) (Stage.RaiseAt j) mine (event_by r (Verb.RaiseFuo p u) Answer.Done) is turn (silent_verbs_are_silent c r mine r (Verb.RaiseFuo p u) Answer.Done refl) at.placed (next_raise k j less) (at_raise j (in_turn c r q mine))
          (λ l low stranger. inl (raises k j less)) (λ level. inl refl);
    }

-- and after the last one the late followers
pub rooms_raised : (c : Config) (r p u : ℕ) (mine : List Event) (written : List ℕ) → IsConfig c → is_replication mine (event_by r (Verb.RaiseFuo p u) Answer.Done) ≡ true → p < c.replicas → is_member r p mine ≡ true → IsPlaced c r mine written (Place.Raise p)
    → MayGoOn c r (event_by r (Verb.RaiseFuo p u) Answer.Done ∷ mine) 0
rooms_raised c r p u mine written is turn region member at =
    let k = members_from c r p mine in
    let some = counts_of_members.some c r p mine region member in
    onward_step c r 0 (Stage.RaiseAt k) mine (event_by r (Verb.RaiseFuo p u) Answer.Done) is turn (silent_verbs_are_silent c r mine r (Verb.RaiseFuo p u) Answer.Done refl) refl at.read at (omega arith) (λ t goes. last_raise k t some goes)
    (record {
      nearer = λ l q low above stranger. inl (raised k q some above);
      farther = λ l below stranger. absurd (omega (arith, below));
    })
    (inl refl)

-- one that joined was brought up
pub rooms_brought_joined : (c : Config) (r p from u : ℕ) (mine : List Event) (written : List ℕ) → IsConfig c → is_replication mine (event_by r (Verb.RaiseFuo p u) Answer.Done) ≡ true → p < c.replicas → from ≡ p + 1 → ((k : ℕ) → is_member r k (event_by r (Verb.RaiseFuo p u) Answer.Done ∷ mine) ≡ true → is_brought_up c r k (event_by r (Verb.RaiseFuo p u) Answer.Done ∷ mine) ≡ true)
    → IsPlaced c r mine written (Place.RaiseBehind p Then.Joined) → MayGoOn c r (event_by r (Verb.RaiseFuo p u) Answer.Done ∷ mine) from
rooms_brought_joined c r p from u mine written is turn region next levels at =
    let e = event_by r (Verb.RaiseFuo p u) Answer.Done in
    subst (MayGoOn c r (e ∷ mine)) (sym next)
    (onward_step c r (p + 1) (Stage.Bring (Lag.Joined p) Bringing.Raise) mine e is turn (silent_verbs_are_silent c r mine r (Verb.RaiseFuo p u) Answer.Done refl) refl at.read at (omega (arith, region)) (λ t goes. brought_joined p t goes)
    (record {
      nearer = λ k q low above stranger. inl (near_brought p q (omega (arith, low)) above);
      farther = λ k below stranger. inl (le-leb k p (omega (arith, below)));
    })
    (inr levels))

-- a member was, and the next that is behind is brought up
pub rooms_next_behind : (c : Config) (r p q u : ℕ) (mine : List Event) (written : List ℕ) → IsConfig c → is_replication mine (event_by r (Verb.RaiseFuo p u) Answer.Done) ≡ true → IsPlaced c r mine written (Place.RaiseBehind p Then.Late)
    → MayBringUp c r (event_by r (Verb.RaiseFuo p u) Answer.Done ∷ mine) q Then.Late
rooms_next_behind c r p q u mine written is turn at step first =
    let edge = next_behind step first in
    record {
      read = at.read;
      placed = steps_on c r (Stage.Bring Lag.Behind Bringing.Raise) (Stage.Bring Lag.Behind step) mine (event_by r (Verb.RaiseFuo p u) Answer.Done) is turn (silent_verbs_are_silent c r mine r (Verb.RaiseFuo p u) Answer.Done refl) at.placed edge (at_behind step)
          (λ k low stranger. inl (far (Stage.Bring Lag.Behind Bringing.Raise) (Stage.Bring Lag.Behind step) edge refl refl)) (λ level. absurd (true≢false (sym level)));
    }

-- and after the last one the late followers
pub rooms_all_brought : (c : Config) (r p u : ℕ) (mine : List Event) (written : List ℕ) → IsConfig c → is_replication mine (event_by r (Verb.RaiseFuo p u) Answer.Done) ≡ true → ((k : ℕ) → is_member r k (event_by r (Verb.RaiseFuo p u) Answer.Done ∷ mine) ≡ true → is_brought_up c r k (event_by r (Verb.RaiseFuo p u) Answer.Done ∷ mine) ≡ true)
    → IsPlaced c r mine written (Place.RaiseBehind p Then.Late) → MayGoOn c r (event_by r (Verb.RaiseFuo p u) Answer.Done ∷ mine) 0
rooms_all_brought c r p u mine written is turn levels at =
    onward_step c r 0 (Stage.Bring Lag.Behind Bringing.Raise) mine (event_by r (Verb.RaiseFuo p u) Answer.Done) is turn (silent_verbs_are_silent c r mine r (Verb.RaiseFuo p u) Answer.Done refl) refl at.read at (omega arith) (λ t goes. all_brought t goes)
    (record {
      nearer = λ k q low above stranger. inl (turns (Stage.Bring Lag.Behind Bringing.Raise) q refl (weights_fall.heavy (sizes_of c r mine) (Stage.Bring Lag.Behind Bringing.Raise) (config_is_sized c r mine is) at.placed.place) above);
      farther = λ k below stranger. absurd (omega (arith, below));
    })
    (inr levels)
