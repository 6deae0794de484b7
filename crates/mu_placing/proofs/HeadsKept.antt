-- An event that tells nothing of the others changes nothing of what was read of them.
use Rattle.std.proofs.Common.{◌≡◌, ℕ, false, List, ◌∷◌}
use Rattle.mu_model.specs.declared.event.Answer.{Answer}
use Rattle.mu_model.specs.declared.event.Event.{Event}
use Rattle.mu_model.specs.declared.event.Verb.{Verb}
use Rattle.mu_model.specs.declared.config.Config.{Config}
use Rattle.mu_model.specs.Histories.{event_by}
use Rattle.mu_placing.specs.Heads.{HoldsPeers, StandsForHeads, tells_of_heads, tells_of_peers}
use Rattle.mu_placing.specs.declared.heads.Heads.{Heads}
use Rattle.mu_placing.specs.declared.heads.Peer.{Peer}

told_by : (c : Config) (r by : ℕ) (verb : Verb) (answer : Answer) (mine : List Event) (state : Heads) → tells_of_peers verb ≡ false → StandsForHeads c r mine state → StandsForHeads c r (event_by by verb answer ∷ mine) state
told_by c r by (Verb.Ask p) answer mine state none held = cc
told_by c r by (Verb.Head q) answer mine state none held = cc
told_by c r by (Verb.ReadBeat q) answer mine state none held = cc
told_by c r by verb answer mine state none held =
    let s = held.scores in
    record {
      scores = record { few = s.few; inside = s.inside; replicas = s.replicas; id = s.id; peers = λ q peer low there. let p = s.peers q peer low there in record { count = p.count; points = p.points; alive = p.alive } };
      peers = λ q peer low there. let p = held.peers q peer low there in record { head = p.head; stuck = p.stuck };
    }

pub heads_kept : (c : Config) (r : ℕ) (e : Event) (mine : List Event) (state : Heads) → tells_of_peers e.verb ≡ false → StandsForHeads c r mine state → StandsForHeads c r (e ∷ mine) state
heads_kept c r e mine state none held = told_by c r e.by e.verb e.answer mine state none held

-- one that tells of no head changes nothing of the heads that were read
read_by : (c : Config) (r by : ℕ) (verb : Verb) (answer : Answer) (mine : List Event) (peers : List Peer) → tells_of_heads verb ≡ false → HoldsPeers c r mine peers → HoldsPeers c r (event_by by verb answer ∷ mine) peers
read_by c r by (Verb.Ask p) answer mine peers none held = cc
read_by c r by (Verb.Head q) answer mine peers none held = cc
read_by c r by verb answer mine peers none held = λ q peer low there. let p = held q peer low there in record { head = p.head; stuck = p.stuck }

pub peers_kept : (c : Config) (r : ℕ) (e : Event) (mine : List Event) (peers : List Peer) → tells_of_heads e.verb ≡ false → HoldsPeers c r mine peers → HoldsPeers c r (e ∷ mine) peers
peers_kept c r e mine peers none held = read_by c r e.by e.verb e.answer mine peers none held
