-- cycle: what is due at each place of the cycle, how far r has handed on what it applied, and what
-- is made in a turn.
use Rattle.std.specs.Prelude.{Bool, List, Some, [], false, if◌then◌else◌, length, nat_lt, not, true, ℕ, ◌%◌, ◌&&◌, ◌*◌, ◌+◌, ◌-◌, ◌/◌, ◌<◌, ◌==◌, ◌∷◌, ◌≡◌}
use Rattle.std.specs.declared.option.Option.{Option}
use Rattle.mu_model.specs.declared.config.Config.{Config}
use Rattle.mu_model.specs.declared.event.Event.{Event}
use Rattle.mu_model.specs.declared.event.Verb.{Verb}
use Rattle.mu_model.specs.Knowledge.{applied}
use Rattle.mu_model.specs.Stretches.{is_odd}
use Rattle.mu_grant.specs.Pace.{host_place, places}
use Rattle.mu_grant.specs.Stands.{Gives}
use Rattle.mu_follow.specs.Due.{replay_due}
use Rattle.mu_lead.specs.Beside.{leads_at}
use Rattle.mu_lead.specs.Journal.{place_after}
use Rattle.mu_node.specs.declared.zeal.Zeal.{Zeal}
use Rattle.mu_node.specs.Due.{write_due, or_ahead, turn_due, verb_or_beat}
use Rattle.mu_follow.specs.CatchingUp.{or_else}

-- the place of the cycle at the background turn after these events
abbrev pub place_now : Config → List Event → ℕ
place_now c mine = length mine / 2 % places c

-- the next turn is the one in which the head is raised: before it r hands on what it has applied
abbrev pub hands_on : Config → List Event → Bool
hands_on c mine = not (is_odd (length mine)) && (place_now c mine == 2 * c.replicas + 20)

-- how many entries r had handed on after these events
abbrev pub handed_before : Config → ℕ → List Event → ℕ
handed_before c r [] = 0
handed_before c r (e ∷ mine) =
    if hands_on c mine then length (applied c r mine) else handed_before c r mine

-- how many it has handed on when it makes the next event
abbrev pub handed : Config → ℕ → List Event → ℕ
handed c r mine =
    if hands_on c mine then length (applied c r mine) else handed_before c r mine

-- the other replica with this place among them, counted from 1
abbrev pub other_at : ℕ → ℕ → ℕ
other_at r place = if nat_lt r place then place else place - 1

-- the verb of a place before those of the host: a beat, the read of another's, or of asks
abbrev pub read_at : ℕ → ℕ → ℕ → Verb
read_at n r place =
    if place == 0 then Verb.Beat
    else if nat_lt place n then Verb.ReadBeat (other_at r place) else Verb.ReadAsk (place - n)

-- what is due at a place of the cycle: a beat, the reads of the other beats and of all asks, the
-- host's four places and the replayer's
pub record IsDueAt (c : Config) (r : ℕ) (mine : List Event) (leading : Bool) (place : ℕ)
    (due : Option Verb) : Type 0 where
  pub read : place < host_place c 0 → due ≡ Some (read_at c.replicas r place)
  pub host : (d : ℕ) → d < 4 → place ≡ host_place c d → Gives c r mine d due
  pub replay :
      (f : ℕ) → place ≡ host_place c 4 + f → due ≡ replay_due c r mine (handed c r mine) f leading

-- what is due in a background turn
abbrev pub IsBackgroundDue : Config → ℕ → List Event → Bool → Option Verb → Type 0
IsBackgroundDue c r mine leading due = IsDueAt c r mine leading (place_now c mine) due

-- the same with what such a node writes ahead if nothing is due
pub record IsCycleDue (zeal : Zeal) (c : Config) (r : ℕ) (mine : List Event) (leading : Bool)
    (due : Option Verb) : Type 0 where
  pub first : Option Verb
  pub background : IsBackgroundDue c r mine leading first
  pub whole : due ≡ or_else first (write_due zeal c r mine)

-- the verb that a plain or an eager node makes: in a turn of the leader what the listing has due by
-- the journal, and in another turn what the cycle has due, else what such a node does then; and a
-- beat exactly if nothing is due
pub record IsMade (zeal : Zeal) (c : Config) (r : ℕ) (mine : List Event)
    (verb : Verb) : Type 0 where
  pub replication : is_odd (length mine) ≡ true → verb ≡ verb_or_beat (turn_due zeal c r mine)
  pub background :
      is_odd (length mine) ≡ false
      → (due : Option Verb) × IsBackgroundDue c r mine (leads_at (place_after c r mine)) due
      × (verb ≡ or_ahead zeal c r mine due)
