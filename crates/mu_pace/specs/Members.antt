-- members in turn: the number of members from a region on, or below it, as the weights of a
-- leader's places count them.
use Rattle.std.specs.Prelude.{List, false, nat_le, nat_lt, true, ℕ, ◌&&◌, ◌*◌, ◌+◌, ◌<◌, ◌∷◌, ◌≡◌, ◌≤◌}
use Rattle.mu_model.specs.declared.config.Config.{Config}
use Rattle.mu_model.specs.declared.event.Answer.{Answer}
use Rattle.mu_model.specs.declared.event.Event.{Event}
use Rattle.mu_model.specs.declared.event.Verb.{Verb}
use Rattle.mu_model.specs.Bounds.{members}
use Rattle.mu_model.specs.Histories.{count_below}
use Rattle.mu_model.specs.Leaderships.{has_quorum, is_member}

-- the members from p on
abbrev pub members_from : Config → ℕ → ℕ → List Event → ℕ
members_from c r p past = count_below c.replicas (λ q. nat_le p q && is_member r q past)

-- the members below p
abbrev pub members_below : Config → ℕ → ℕ → List Event → ℕ
members_below c r p past = count_below c.replicas (λ q. nat_lt q p && is_member r q past)

-- p is a member, and the next one, if any, is q or comes after it
pub record IsNextMember (c : Config) (r p q : ℕ) (past : List Event) : Type 0 where
  pub there : p < c.replicas
  pub member : is_member r p past ≡ true
  pub above : p < q
  pub between : (k : ℕ) → p < k → k < q → is_member r k past ≡ false

-- from one member to the next there is one less in turn, and one more below
pub record CountsOfMembers : Type 0 where
  pub next :
      (c : Config) (r p q : ℕ) (past : List Event) → IsNextMember c r p q past
      → members_from c r p past ≡ members_from c r q past + 1
  pub next_below :
      (c : Config) (r p q : ℕ) (past : List Event) → IsNextMember c r p q past
      → members_below c r q past ≡ members_below c r p past + 1
  pub some :
      (c : Config) (r p : ℕ) (past : List Event) → p < c.replicas → is_member r p past ≡ true
      → 1 ≤ members_from c r p past
  pub all :
      (c : Config) (r p : ℕ) (past : List Event)
      → members_below c r p past + members_from c r p past ≡ members c r past
  pub none_below :
      (c : Config) (r p : ℕ) (past : List Event) → ((k : ℕ) → k < p → is_member r k past ≡ false)
      → members_below c r p past ≡ 0
  pub joined :
      (c : Config) (r p b : ℕ) (past : List Event) → p < c.replicas → is_member r p past ≡ false
      → members c r (record { by = r; verb = Verb.PutMin p b; answer = Answer.Done } ∷ past)
      ≡ members c r past + 1
  pub majority :
      (c : Config) (r : ℕ) (past : List Event) → has_quorum c r past ≡ true
      → c.replicas < 2 * members c r past
