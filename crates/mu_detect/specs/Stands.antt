-- stands for (scores): for each replica a score, a flag and a count stand for the events of one
-- replica; an event that reads no count of beats keeps that.
use Rattle.std.specs.Prelude.{Bool, List, Some, false, true, ℕ, ◌<◌, ◌∷◌, ◌≡◌, ◌≤◌}
use Rattle.std.specs.List.{slice_get}
use Rattle.mu_model.specs.declared.event.Answer.{Answer}
use Rattle.mu_model.specs.declared.event.Event.{Event}
use Rattle.mu_model.specs.declared.event.Verb.{Verb}
use Rattle.mu_model.specs.Histories.{newest, or_zero}
use Rattle.mu_model.specs.Scores.{beat_read, score}
use Rattle.mu_detect.specs.declared.scores.Peer.{Peer}
use Rattle.mu_detect.specs.declared.scores.Scores.{Scores}

-- the count of beats of q that r read last, 0 before any
abbrev pub last_count : ℕ → ℕ → List Event → ℕ
last_count r q mine = or_zero (newest (λ e. beat_read r q e.by e.verb e.answer) mine)

-- what r holds of q stands for the events of r
pub record HoldsPeer (r q : ℕ) (mine : List Event) (peer : Peer) : Type 0 where
  pub count : peer.count ≡ last_count r q mine
  pub points : peer.points ≡ (score r q mine).0
  pub alive : peer.alive ≡ (score r q mine).1

-- the same of each of n replicas
abbrev pub HoldsPeers : ℕ → ℕ → List Event → List Peer → Type 0
HoldsPeers n r mine peers =
    (q : ℕ) (peer : Peer) → q < n → slice_get peers q ≡ Some peer → HoldsPeer r q mine peer

-- the scores stand for the events of r, one of n replicas
pub record StandsFor (n r : ℕ) (mine : List Event) (state : Scores) : Type 0 where
  pub few : n ≤ 7
  pub inside : r < n
  pub replicas : state.replicas ≡ n
  pub id : state.id ≡ r
  pub peers : HoldsPeers n r mine state.peers

-- the event reads a count of beats
abbrev pub reads_count : Verb → Answer → Bool
reads_count (Verb.ReadBeat q) (Answer.Number count) = true
reads_count _ _ = false

-- an event that reads no count of beats leaves what the scores stand for
abbrev pub OthersKeep : Type 0
OthersKeep =
    (n r : ℕ) (mine : List Event) (state : Scores) (event : Event)
    → reads_count event.verb event.answer ≡ false → StandsFor n r mine state
    → StandsFor n r (event ∷ mine) state
