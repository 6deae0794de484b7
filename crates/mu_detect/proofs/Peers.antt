-- What is held of the replicas, after one more event.
use Rattle.std.proofs.Common.{Bool, List, None, Some, false, true, ℕ, ◌<◌, ◌==◌, ◌≡◌, inl, inr, ◌∷◌, refl, sym, subst, ◌∙◌, set, get_or, length}
use Rattle.std.specs.List.{slice_get}
use Rattle.std.proofs.lemmas.Option.{slice_get-get_or}
use Rattle.mu_model.specs.declared.event.Answer.{Answer}
use Rattle.mu_model.specs.declared.event.Event.{Event}
use Rattle.mu_model.specs.declared.event.Verb.{Verb}
use Rattle.mu_detect.specs.Stands.{HoldsPeer, HoldsPeers, OthersKeep, StandsFor, reads_count}
use Rattle.mu_detect.specs.declared.scores.Peer.{Peer}
use Rattle.mu_detect.specs.declared.scores.Scores.{Scores}
use Rattle.mu_model.specs.Scores.{beat_read}
use Rattle.mu_model.proofs.Lists.{set_get}
use Rattle.std.proofs.lemmas.Bool.{ne_eqb}

-- what is held of a replica stays, if the event reads nothing of it
pub peer_kept : (r q : ℕ) (mine : List Event) (e : Event) (peer : Peer) → beat_read r q e.by e.verb e.answer ≡ None → HoldsPeer r q mine peer → HoldsPeer r q (e ∷ mine) peer
peer_kept r q mine e peer none held = record { count = rw none held.count; points = rw none held.points; alive = rw none held.alive }

-- an event that reads no count of beats reads none of q
pub reads_none : (r q by : ℕ) (verb : Verb) (answer : Answer) → reads_count verb answer ≡ false → beat_read r q by verb answer ≡ None
reads_none r q by (Verb.ReadBeat p) (Answer.Number x) none = cc
reads_none r q by _ _ none = refl

-- an event by which r reads no count of beats leaves what the scores stand for
pub scores_kept : (n r : ℕ) (mine : List Event) (state : Scores) (event : Event) → ((q : ℕ) → beat_read r q event.by event.verb event.answer ≡ None) → StandsFor n r mine state → StandsFor n r (event ∷ mine) state
scores_kept n r mine state event none held = record {
  few = held.few;
  inside = held.inside;
  replicas = held.replicas;
  id = held.id;
  peers = λ q peer low there. peer_kept r q mine event peer (none q) (held.peers q peer low there);
}

-- an event that reads no count of beats leaves what the scores stand for
pub others_kept : OthersKeep
others_kept n r mine state event none = scores_kept n r mine state event (λ q. reads_none r q event.by event.verb event.answer none)

-- a read of p tells nothing of q
pub reads_other : (r q p x by : ℕ) (verb : Verb) (answer : Answer) → verb ≡ Verb.ReadBeat p → answer ≡ Answer.Number x → (p == q) ≡ false → beat_read r q by verb answer ≡ None
reads_other r q p x by verb answer is says other = rw is (rw says (go (by == r) refl))
  where
    go : (t : Bool) → (by == r) ≡ t → beat_read r q by (Verb.ReadBeat p) (Answer.Number x) ≡ None
    go true is = rw is (rw other refl)
    go false is = rw is refl

-- one replica was read
pub peers_after : (n r p x k : ℕ) (mine : List Event) (e : Event) (peers : List Peer) (new : Peer) → k ≡ p → e.verb ≡ Verb.ReadBeat p → e.answer ≡ Answer.Number x → HoldsPeers n r mine peers → (p < n → HoldsPeer r p (e ∷ mine) new) → HoldsPeers n r (e ∷ mine) (set peers k new)
peers_after n r p x k mine e peers new at is says held step q peer low there = elim (set_get peers k new q peer there) [
  | inl here ↦ let same = here.0 ∙ at in
      subst (λ m. HoldsPeer r m (e ∷ mine) peer) (sym same) (subst (λ y. HoldsPeer r p (e ∷ mine) y) here.1 (step (subst (λ m. m < n) same low)))
  | inr other ↦ peer_kept r q mine e peer (reads_other r q p x e.by e.verb e.answer is says (ne_eqb p q (λ same. other.0 (sym same ∙ sym at)))) (held q peer low other.1)
]

-- what is held of a replica that is read from the list
pub peer_read : (n r p k : ℕ) (mine : List Event) (peers : List Peer) (d : Peer) → k ≡ p → k < length peers → p < n → HoldsPeers n r mine peers → HoldsPeer r p mine (get_or peers k d)
peer_read n r p k mine peers d at there low held = held p (get_or peers k d) low (subst (λ q. slice_get peers q ≡ Some (get_or peers k d)) at (slice_get-get_or peers k d there))
