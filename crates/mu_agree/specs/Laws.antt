-- writers: in each legal list, proposal numbers differ, only owners put, a put that missed shuts
-- its writer out, and the numbers of minima and slots rise.
use Rattle.std.specs.Prelude.{Bool, List, Some, false, true, ℕ, ◌++◌, ◌<◌, ◌==◌, ◌∷◌, ◌≡◌, ◌≤◌, ◌⊎◌}
use Rattle.std.specs.List.{slice_get}
use Rattle.mu_model.specs.declared.config.Config.{Config}
use Rattle.mu_model.specs.declared.event.Answer.{Answer}
use Rattle.mu_model.specs.declared.event.Event.{Event}
use Rattle.mu_model.specs.declared.event.Verb.{Verb}
use Rattle.mu_model.specs.Histories.{has, history, since}
use Rattle.mu_model.specs.Leaderships.{leaderships, proposal_number}
use Rattle.mu_model.specs.Legal.{IsLegal}
use Rattle.mu_agree.specs.Possible.{entered_under}
use Rattle.mu_model.specs.Regions.{fence_closing, fence_grant, fence_owner, is_drain_of, is_grant_of, region_log, region_min}
use Rattle.mu_model.specs.Steps.{is_missed_at}

-- two leaderships under way at two moments that have one number are the same leadership of the same
-- replica
abbrev pub NumbersDiffer : Type 0
NumbersDiffer =
    (c : Config) (earlier later : List Event) (r s b : ℕ) → IsLegal c (earlier ++ later)
    → proposal_number r (history earlier) ≡ Some b
    → proposal_number s (history (earlier ++ later)) ≡ Some b
    → (r ≡ s) × (leaderships r (history (earlier ++ later)) ≡ leaderships r (history earlier))

-- the event is a put that landed at p
abbrev pub is_landing : ℕ → Verb → Answer → Bool
is_landing p (Verb.PutMin q b) Answer.Done = q == p
is_landing p (Verb.PutSlot q i b v) Answer.Done = q == p
is_landing p _ _ = false

-- a put lands at p only while its writer owns p, and before a `Drain` of p under this grant
abbrev pub OnlyOwnersPut : Type 0
OnlyOwnersPut =
    (c : Config) (earlier later : List Event) (e : Event) (p : ℕ) → IsLegal c (earlier ++ e ∷ later)
    → is_landing p e.verb e.answer ≡ true
    → (fence_owner p (history earlier) ≡ Some e.by)
    × (has (is_drain_of p) (since (is_grant_of p) (history earlier)) ≡ false)

-- the minimum of a region never goes down
abbrev pub MinimumRises : Type 0
MinimumRises =
    (c : Config) (earlier later : List Event) (p : ℕ) → IsLegal c (earlier ++ later)
    → region_min p (history earlier) ≤ region_min p (history (earlier ++ later))

-- the numbers that stand in one slot never go down
abbrev pub SlotNumbersRise : Type 0
SlotNumbersRise =
    (c : Config) (earlier later : List Event) (p i : ℕ) (x y : ℕ × ℕ) → IsLegal c (earlier ++ later)
    → slice_get (region_log p (history earlier)) i ≡ Some x
    → slice_get (region_log p (history (earlier ++ later))) i ≡ Some y → x.0 ≤ y.0

-- before the one moment r had entered p under a noted grant, and at the other p is closing or was
-- granted on since
pub record IsShutOut (r p : ℕ) (before now : List Event) : Type 0 where
  pub grant : ℕ
  pub noted : entered_under r p before ≡ Some grant
  pub shut : (fence_closing p now ≡ true) ⊎ (grant < fence_grant p now)

-- once a put missed at p, p is closing at each later moment, or has a larger grant than the one
-- that its writer had noted when it entered
abbrev pub MissesShutOut : Type 0
MissesShutOut =
    (c : Config) (earlier between later : List Event) (e : Event) (p : ℕ)
    → IsLegal c (earlier ++ e ∷ (between ++ later)) → is_missed_at p e ≡ true
    → IsShutOut e.by p (history earlier) (history (earlier ++ e ∷ between))
