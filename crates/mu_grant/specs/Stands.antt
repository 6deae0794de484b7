-- stands for, tells (grants): a host's state stands for its own events, and tells what has come
-- of them; at each place it gives an allowed verb, and none exactly if none is allowed; an event
-- that is no read of asks and no verb of the host keeps the state.
use Rattle.std.specs.Prelude.{Bool, IsTrue, List, None, Some, false, true, ℕ, ◌<◌, ◌==◌, ◌∷◌, ◌≡◌, ◌≤◌, ◌↔◌}
use Rattle.std.specs.declared.option.Option.{Option}
use Rattle.std.specs.List.{slice_get}
use Rattle.mu_model.specs.declared.config.Config.{Config}
use Rattle.mu_model.specs.declared.event.Answer.{Answer}
use Rattle.mu_model.specs.declared.event.Event.{Event}
use Rattle.mu_model.specs.declared.event.Verb.{Verb}
use Rattle.mu_model.specs.Allowed.{Allowed, Needs}
use Rattle.mu_model.specs.Histories.{newest, or_zero}
use Rattle.mu_model.specs.Regions.{fence_closing, fence_owner}
use Rattle.mu_model.specs.Serving.{close_seen, drained_since_close, looked_since_close, names_target, seen_asks, served_as_owner, served_by_grant}
use Rattle.mu_grant.specs.declared.grants.Grants.{Grants}
use Rattle.mu_grant.specs.declared.grants.Guest.{Guest}

-- the last fence that a `Close` of r found names a word
abbrev pub close_named : ℕ → List Event → Bool
close_named r mine = names_target (newest (λ e. close_seen r e.by e.verb e.answer) mine)

-- what r has read of the asks of w, and served of them
pub record HoldsGuest (r w : ℕ) (mine : List Event) (guest : Guest) : Type 0 where
  pub seen : guest.seen ≡ seen_asks r w mine
  pub at_grant : guest.at_grant ≡ served_by_grant r w mine
  pub as_owner : guest.as_owner ≡ or_zero (served_as_owner r w mine)

-- the same of every replica
abbrev pub HoldsGuests : ℕ → List Event → List Guest → Type 0
HoldsGuests r mine guests =
    (w : ℕ) (guest : Guest) → slice_get guests w ≡ Some guest → HoldsGuest r w mine guest

-- no word was drained since the last `Close` before it was loaded
abbrev pub LookedFirst : ℕ → List Event → Type 0
LookedFirst r mine = drained_since_close r mine ≡ true → looked_since_close r mine ≡ true

-- the state stands for the events of r, one of n replicas
pub record StandsFor (n r : ℕ) (mine : List Event) (state : Grants) : Type 0 where
  pub few : n ≤ 7
  pub inside : r < n
  pub replicas : state.replicas ≡ n
  pub id : state.id ≡ r
  pub owner : state.owner ≡ fence_owner r mine
  pub closing : state.closing ≡ fence_closing r mine
  pub named : state.named ≡ close_named r mine
  pub looked : state.looked ≡ looked_since_close r mine
  pub drained : state.drained ≡ drained_since_close r mine
  pub looked_first : LookedFirst r mine
  pub guests : HoldsGuests r mine state.guests

-- what a state tells: of the events that it stands for
abbrev pub Tells : {A : Type 0} → Grants → (ℕ → List Event → A) → A → Type 0
Tells state of answer =
    (n r : ℕ) → (mine : List Event) → StandsFor n r mine state → answer ≡ of r mine

-- a state tells whether the verb has what it needs
abbrev pub TellsIfMay : Grants → Verb → Bool → Type 0
TellsIfMay state verb answer =
    (c : Config) → (r : ℕ) → (mine : List Event) → StandsFor c.replicas r mine state
    → (IsTrue answer ↔ Needs c r mine verb)

-- a state takes one more event: it may be a `Drain` only if a `LookTarget` came since the last
-- `Close`
abbrev pub Takes : Event → Grants → Grants → Type 0
Takes e before after =
    (n r : ℕ) → (mine : List Event) → (e.verb ≡ Verb.Drain → looked_since_close r mine ≡ true)
    → StandsFor n r mine before → StandsFor n r (e ∷ mine) after

-- what is held of guests takes one more event of a region with this owner, closing or not
abbrev pub GuestsTake :
    Option ℕ → Bool → ℕ → Event → List Guest → List Guest → Type 0
GuestsTake owner closing r e before after =
    (mine : List Event) → owner ≡ fence_owner r mine → closing ≡ fence_closing r mine
    → HoldsGuests r mine before → HoldsGuests r (e ∷ mine) after

-- the verb is that of this place of the round
abbrev pub is_of_place : ℕ → Verb → Bool
is_of_place place Verb.Close = place == 0
is_of_place place Verb.LookTarget = place == 1
is_of_place place Verb.Drain = place == 2
is_of_place place (Verb.Grant w) = place == 3
is_of_place place _ = false

-- what a host gives at a place: an allowed verb of that place, and none exactly if none is allowed
pub record Gives (c : Config) (r : ℕ) (mine : List Event) (place : ℕ)
    (due : Option Verb) : Type 0 where
  pub given :
      (verb : Verb) → due ≡ Some verb → (is_of_place place verb ≡ true) × Allowed c r mine verb
  pub none : due ≡ None → (verb : Verb) → is_of_place place verb ≡ true → Allowed c r mine verb → ⊥

-- the answer is one of a verb of the host: a `Close` sees a fence, and the others are done
abbrev pub answers_host : Verb → Answer → Bool
answers_host Verb.Close (Answer.Seen fence) = true
answers_host Verb.LookTarget Answer.Done = true
answers_host Verb.Drain Answer.Done = true
answers_host (Verb.Grant w) Answer.Done = true
answers_host _ _ = false

-- the event is a verb of the host that r was allowed after its part mine, with an answer to it
pub record IsDue (c : Config) (r : ℕ) (mine : List Event) (event : Event) : Type 0 where
  pub by_own : event.by ≡ r
  pub allowed : Allowed c r mine event.verb
  pub answered : answers_host event.verb event.answer ≡ true

-- the event reads asks, or is a verb of the host
abbrev pub is_noted : Verb → Answer → Bool
is_noted (Verb.ReadAsk w) (Answer.Number count) = true
is_noted Verb.Close _ = true
is_noted Verb.LookTarget _ = true
is_noted Verb.Drain _ = true
is_noted (Verb.Grant w) _ = true
is_noted _ _ = false

-- an event of any other kind leaves what the state stands for
abbrev pub OthersKeep : Type 0
OthersKeep =
    (n r : ℕ) (mine : List Event) (state : Grants) (event : Event)
    → is_noted event.verb event.answer ≡ false → StandsFor n r mine state
    → StandsFor n r (event ∷ mine) state

-- the verb reads asks, or is one of a host
abbrev pub is_host_step : Verb → Bool
is_host_step (Verb.ReadAsk w) = true
is_host_step Verb.Close = true
is_host_step Verb.LookTarget = true
is_host_step Verb.Drain = true
is_host_step (Verb.Grant w) = true
is_host_step _ = false

-- the verb reads asks
abbrev pub is_read_of_asks : Verb → Bool
is_read_of_asks (Verb.ReadAsk w) = true
is_read_of_asks _ = false

-- the replica whose asks are read, or that is granted the region
abbrev pub guest_named : Verb → Option ℕ
guest_named (Verb.ReadAsk w) = Some w
guest_named (Verb.Grant w) = Some w
guest_named _ = None
