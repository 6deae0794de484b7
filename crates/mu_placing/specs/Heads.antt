-- stands for, tells (heads), verb that tells of others: the state of the heads that r read, with
-- its scores, stands for the events of r, and tells what they say; the verbs of the events that
-- change it.
use Rattle.std.specs.Prelude.{List, Some, ℕ, ◌<◌, ◌∷◌, ◌≡◌, Bool, false, true}
use Rattle.std.specs.declared.option.Option.{Option}
use Rattle.std.specs.List.{slice_get}
use Rattle.mu_model.specs.declared.config.Config.{Config}
use Rattle.mu_model.specs.declared.event.Event.{Event}
use Rattle.mu_model.specs.Room.{is_mark_candidate, lacks_room, last_head}
use Rattle.mu_detect.specs.Stands.{StandsFor}
use Rattle.mu_detect.specs.declared.scores.Scores.{Scores}
use Rattle.mu_placing.specs.declared.heads.Heads.{Heads}
use Rattle.mu_placing.specs.declared.heads.Peer.{Peer}
use Rattle.mu_model.specs.declared.event.Verb.{Verb}

-- a verb that reads a head or a count of beats, or may begin a leadership
abbrev pub tells_of_peers : Verb → Bool
tells_of_peers (Verb.Ask p) = true
tells_of_peers (Verb.Head q) = true
tells_of_peers (Verb.ReadBeat q) = true
tells_of_peers _ = false

-- a verb that reads a head, or may begin a leadership
abbrev pub tells_of_heads : Verb → Bool
tells_of_heads (Verb.Ask p) = true
tells_of_heads (Verb.Head q) = true
tells_of_heads _ = false

-- r may mark q exactly if the head, if there is one, lacks room
abbrev pub StandsForStuck : Config → ℕ → ℕ → List Event → Option ℕ → Type 0
StandsForStuck c r q mine head =
    (limit : ℕ) → is_mark_candidate c r q limit mine ≡ lacks_room c limit head

-- what r has read of the head of q
pub record HoldsPeer (c : Config) (r q : ℕ) (mine : List Event) (peer : Peer) : Type 0 where
  pub head : peer.head ≡ last_head r q mine
  pub stuck : StandsForStuck c r q mine peer.stuck

-- the same of every replica
abbrev pub HoldsPeers : Config → ℕ → List Event → List Peer → Type 0
HoldsPeers c r mine peers =
    (q : ℕ) (peer : Peer) → q < c.replicas → slice_get peers q ≡ Some peer
    → HoldsPeer c r q mine peer

-- the state stands for the events of r
pub record StandsForHeads (c : Config) (r : ℕ) (mine : List Event) (state : Heads) : Type 0 where
  pub scores : StandsFor c.replicas r mine state.scores
  pub peers : HoldsPeers c r mine state.peers

-- what the state tells of the head of q, of logs of ring slots
abbrev pub TellsOfHead : {A : Type 0} → Heads → (Config → ℕ → List Event → A) → ℕ → ℕ → A → Type 0
TellsOfHead state of q ring answer =
    (c : Config) → (r : ℕ) → (mine : List Event) → q < c.replicas → ring ≡ c.ring
    → StandsForHeads c r mine state → answer ≡ of c r mine

-- what was read of heads takes one more event, beside the scores before it
abbrev pub PeersTake : ℕ → Scores → Event → List Peer → List Peer → Type 0
PeersTake r scores e before after =
    (c : Config) → (mine : List Event) → StandsFor c.replicas r mine scores
    → HoldsPeers c r mine before → HoldsPeers c r (e ∷ mine) after
