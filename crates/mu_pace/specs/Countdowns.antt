-- raised below, countdowns: the members whose FUOs are raised already, with the steps left for the
-- others; and the other short counts of a leader, step by step: joining, confirmation, evidence
-- after a miss, and asks.
use Rattle.std.specs.Prelude.{Bool, List, None, false, true, ℕ, ◌+◌, ◌<◌, ◌∷◌, ◌≡◌, ◌≤◌}
use Rattle.mu_agree.specs.Paces.{asks_or_rests, steps_since}
use Rattle.mu_model.specs.declared.config.Config.{Config}
use Rattle.mu_model.specs.declared.event.Event.{Event}
use Rattle.mu_model.specs.Bounds.{members}
use Rattle.mu_model.specs.Diligence.{has_to_ask, is_confirmed}
use Rattle.mu_model.specs.Leaderships.{is_member}
use Rattle.mu_model.specs.Steps.{commits_more, is_any_fencing, is_fencing, is_min, is_missed_at}
use Rattle.mu_model.specs.Stretches.{is_replication}
use Rattle.mu_pace.specs.Counters.{HasRoom, steps_left}
use Rattle.mu_pace.specs.Watches.{confirming, explaining, is_answer_to_welcome, is_full_raise, is_welcoming, joining, raising}

-- the FUOs of the members below q are raised, and `left` steps are left for the others
pub record AreRaisedBelow (c : Config) (r q left : ℕ) (now : List Event) : Type 0 where
  pub done : (p : ℕ) → p < q → steps_left (raising c r p) now ≡ None
  pub room : (p : ℕ) → HasRoom (raising c r p) left now

-- after a commit each member has its turn, ascending
pub record RaisesInTurn : Type 0 where
  pub commit :
      (c : Config) (r q : ℕ) (past : List Event) (e : Event) → commits_more c r past e ≡ true
      → ((p : ℕ) → steps_left (raising c r p) past ≡ None)
      → ((p : ℕ) → p < q → is_member r p (e ∷ past) ≡ false)
      → AreRaisedBelow c r q (members c r (e ∷ past)) (e ∷ past)
  pub raise :
      (c : Config) (r q next left : ℕ) (past : List Event) (e : Event)
      → AreRaisedBelow c r q (left + 1) past → is_replication past e ≡ true
      → is_full_raise c r q past e ≡ true → commits_more c r past e ≡ false
      → ((p : ℕ) → q < p → p < next → is_member r p (e ∷ past) ≡ false)
      → AreRaisedBelow c r next left (e ∷ past)
  pub all :
      (c : Config) (r q left : ℕ) (now : List Event) → AreRaisedBelow c r q left now
      → ((p : ℕ) → q ≤ p → is_member r p now ≡ false) → (p : ℕ)
      → steps_left (raising c r p) now ≡ None
  pub quiet :
      (c : Config) (r p : ℕ) (past : List Event) (e : Event) → commits_more c r past e ≡ false
      → steps_left (raising c r p) past ≡ None → steps_left (raising c r p) (e ∷ past) ≡ None

-- a late follower that grants to r is answered within four steps
pub record JoinsInTurn : Type 0 where
  pub welcome :
      (c : Config) (r p : ℕ) (past : List Event) (e : Event) → is_welcoming c r p past e ≡ true
      → steps_left (joining c r p) past ≡ None → HasRoom (joining c r p) 4 (e ∷ past)
  pub step :
      (c : Config) (r p left : ℕ) (past : List Event) (e : Event)
      → is_welcoming c r p past e ≡ false → HasRoom (joining c r p) (left + 1) past
      → HasRoom (joining c r p) left (e ∷ past)
  pub answer :
      (c : Config) (r p : ℕ) (past : List Event) (e : Event) → is_replication past e ≡ true
      → is_answer_to_welcome c r p past e ≡ true → is_welcoming c r p past e ≡ false
      → steps_left (joining c r p) (e ∷ past) ≡ None
  pub quiet :
      (c : Config) (r p : ℕ) (past : List Event) (e : Event) → is_welcoming c r p past e ≡ false
      → steps_left (joining c r p) past ≡ None → steps_left (joining c r p) (e ∷ past) ≡ None

-- while fences are read the count falls by one with each, from as many as there are replicas; a
-- round that ends unconfirmed closes it, and so does the first `Min`
pub record ConfirmsInTurn : Type 0 where
  pub fence :
      (c : Config) (r left : ℕ) (past : List Event) (e : Event) → left ≤ c.replicas
      → HasRoom (confirming c r) (left + 1) past → HasRoom (confirming c r) left (e ∷ past)
  pub unconfirmed :
      (c : Config) (r : ℕ) (past : List Event) (e : Event) → is_replication past e ≡ true
      → is_any_fencing e ≡ true → is_confirmed c r (e ∷ past) ≡ false
      → steps_left (confirming c r) (e ∷ past) ≡ None
  pub begun :
      (c : Config) (r : ℕ) (past : List Event) (e : Event) → is_replication past e ≡ true
      → is_min e ≡ true → steps_left (confirming c r) (e ∷ past) ≡ None
  pub quiet :
      (c : Config) (r : ℕ) (past : List Event) (e : Event) → is_any_fencing e ≡ false
      → steps_left (confirming c r) past ≡ None → steps_left (confirming c r) (e ∷ past) ≡ None

-- after a miss the next replication event reads the fence
pub record ExplainsInTurn : Type 0 where
  pub miss :
      (c : Config) (r p : ℕ) (past : List Event) (e : Event) → is_missed_at p e ≡ true
      → steps_left (explaining c r p) past ≡ None → HasRoom (explaining c r p) 1 (e ∷ past)
  pub fence :
      (c : Config) (r p : ℕ) (past : List Event) (e : Event) → is_replication past e ≡ true
      → is_fencing p e ≡ true → is_missed_at p e ≡ false
      → steps_left (explaining c r p) (e ∷ past) ≡ None
  pub quiet :
      (c : Config) (r p : ℕ) (past : List Event) (e : Event) → is_missed_at p e ≡ false
      → steps_left (explaining c r p) past ≡ None → steps_left (explaining c r p) (e ∷ past) ≡ None

-- the steps since r asked, or had no need to: none after such a step, one more at most with each
-- replication event, and no more with another
pub record AsksInTurn : Type 0 where
  pub asked :
      (c : Config) (r : ℕ) (test : Event → Bool) (past : List Event) (e : Event)
      → is_replication past e ≡ true → test e ≡ true
      → steps_since (asks_or_rests c r test) (e ∷ past) ≡ 0
  pub rests :
      (c : Config) (r : ℕ) (test : Event → Bool) (past : List Event) (e : Event)
      → is_replication past e ≡ true → has_to_ask c r past ≡ false
      → steps_since (asks_or_rests c r test) (e ∷ past) ≡ 0
  pub step :
      (c : Config) (r : ℕ) (test : Event → Bool) (past : List Event) (e : Event)
      → steps_since (asks_or_rests c r test) (e ∷ past)
      ≤ steps_since (asks_or_rests c r test) past + 1
  pub beside :
      (c : Config) (r : ℕ) (test : Event → Bool) (past : List Event) (e : Event)
      → is_replication past e ≡ false
      → steps_since (asks_or_rests c r test) (e ∷ past) ≡ steps_since (asks_or_rests c r test) past

-- the short counts of a leader
pub record CountdownsRun : Type 0 where
  pub raises : RaisesInTurn
  pub joins : JoinsInTurn
  pub confirms : ConfirmsInTurn
  pub explains : ExplainsInTurn
  pub asks : AsksInTurn
