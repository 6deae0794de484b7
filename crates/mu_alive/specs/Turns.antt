-- in turn: each event is by a replica that is below none that has asked, and finds settled asks: a
-- replica asks only after all lower ones have made their last event.
use Rattle.std.specs.Prelude.{Bool, List, Some, [], false, length, true, ℕ, ◌&&◌, ◌*◌, ◌++◌, ◌+◌, ◌<◌, ◌==◌, ◌∷◌, ◌≡◌, ◌≤◌}
use Rattle.mu_model.specs.declared.config.Config.{Config}
use Rattle.mu_model.specs.declared.event.Event.{Event}
use Rattle.mu_model.specs.declared.event.Verb.{Verb}
use Rattle.mu_model.specs.Bounds.{cycle}
use Rattle.mu_model.specs.Diligence.{GrantsInTime, ReadsInTime}
use Rattle.mu_model.specs.Histories.{has, part}
use Rattle.mu_model.specs.Leaderships.{has_begun, is_over}
use Rattle.mu_model.specs.Legal.{IsLegalHistory}
use Rattle.mu_model.specs.Regions.{asks, fence_closing, fence_owner}
use Rattle.mu_model.specs.Serving.{seen_asks}
use Rattle.mu_model.specs.Steps.{is_min}

-- the event is a read of a minimum by r
abbrev pub is_own_min : ℕ → Event → Bool
is_own_min r e = is_min e && (e.by == r)

-- whoever makes the event is below none that has asked; if it reads the asks of a lower one than
-- some that has asked, it finds as many as before, and its region isn't closing; and it asks region
-- 0 only before it has read a minimum
pub record IsInTurn (past : List Event) (e : Event) : Type 0 where
  pub last : (r : ℕ) → e.by < r → has_begun r past ≡ false
  pub fresh :
      (w r : ℕ) → e.verb ≡ Verb.ReadAsk w → w < r → has_begun r past ≡ true
      → asks w e.by past ≡ seen_asks e.by w past
  pub resting : (w : ℕ) → e.verb ≡ Verb.ReadAsk w → fence_closing e.by past ≡ false
  pub once : e.verb ≡ Verb.Ask 0 → has (is_own_min e.by) past ≡ false

-- each event is in turn
abbrev pub AreInTurn : List Event → Type 0
AreInTurn [] = Unit {0}
AreInTurn (e ∷ past) = AreInTurn past × IsInTurn past e

-- if replicas ask in turn, no leadership ends
abbrev pub TurnsLeadOn : Type 0
TurnsLeadOn =
    (c : Config) (past : List Event) (r : ℕ) → IsLegalHistory c past → AreInTurn past
    → c.replicas < 8 → is_over r past ≡ false

-- and a host grants its region to the last that asked within two rounds for each that asked
abbrev pub HostsGrantInTurn : Type 0
HostsGrantInTurn =
    (c : Config) (r p : ℕ) (newer older : List Event) → r < c.replicas
    → IsLegalHistory c (newer ++ older) → AreInTurn (newer ++ older)
    → ((w : ℕ) → r < w → has_begun w (newer ++ older) ≡ false)
    → ReadsInTime c p (part p (newer ++ older)) → GrantsInTime c p (part p (newer ++ older))
    → has_begun r older ≡ true → 1 ≤ asks r p older
    → (r + 1) * (2 * cycle c) ≤ length (part p newer) → fence_owner p (newer ++ older) ≡ Some r
