-- follows on, following steps: a replica that doesn't lead keeps a replayer's paces and raises its
-- head to all that it may; the steps until it has applied what its FUO covers, and raised its head
-- to it.
use Rattle.std.specs.Prelude.{List, false, length, min, ℕ, ◌*◌, ◌++◌, ◌+◌, ◌<◌, ◌≡◌, ◌≤◌}
use Rattle.mu_model.specs.declared.config.Config.{Config}
use Rattle.mu_model.specs.declared.event.Event.{Event}
use Rattle.mu_model.specs.declared.event.Verb.{Verb}
use Rattle.mu_model.specs.Bounds.{cycle}
use Rattle.mu_model.specs.Contents.{IsConfig, row_count}
use Rattle.mu_model.specs.Diligence.{Replays, TellsHeads}
use Rattle.mu_model.specs.Histories.{greatest, part}
use Rattle.mu_model.specs.Knowledge.{applied}
use Rattle.mu_model.specs.Legal.{IsLegalHistory}
use Rattle.mu_model.specs.Placing.{fuo_read_or_raised}
use Rattle.mu_model.specs.Regions.{region_fuo, region_head}
use Rattle.mu_model.specs.Room.{reserve}
use Rattle.mu_model.specs.Steps.{is_named}
use Rattle.mu_agree.specs.Moments.{AtEachMoment, AtEachStep}

-- a raise of r's own head goes at least to all that is applied and within its own FUO
abbrev pub RaisesToAll : Config → ℕ → List Event → Event → Type 0
RaisesToAll c r past e =
    (h : ℕ) → e.verb ≡ Verb.RaiseHead h
    → min (length (applied c r past))
    (greatest (λ f. fuo_read_or_raised r r f.by f.verb f.answer) past)
    ≤ h

-- r keeps a replayer's paces, raises its head to all that it may, and doesn't name itself from the
-- older events on
pub record FollowsOn (c : Config) (r : ℕ) (newer older : List Event) : Type 0 where
  pub inside : r < c.replicas
  pub legal : IsLegalHistory c (newer ++ older)
  pub replays : Replays c r (part r (newer ++ older))
  pub heads : TellsHeads c r (part r (newer ++ older))
  pub raises : AtEachStep (RaisesToAll c r) (part r (newer ++ older))
  pub unnamed :
      AtEachMoment
      (λ mine. length (part r older) ≤ length mine → is_named c r mine ≡ false)
      (part r (newer ++ older))

-- the steps in which it learns each entry and fetches each row, one in each two rounds of the cycle
abbrev pub catching_steps : Config → ℕ
catching_steps c = ((c.width + 1) * (row_count c + reserve c) + 1) * (2 * cycle c)

-- before them it reads its FUO, and after them it raises its head
abbrev pub following_steps : Config → ℕ
following_steps c = 2 * cycle c + catching_steps c + cycle c

-- `following_steps` after its FUO is l it has applied l entries, and its head is l
abbrev pub FollowersCatchUp : Type 0
FollowersCatchUp =
    (c : Config) (r l : ℕ) (newer older : List Event) → IsConfig c → FollowsOn c r newer older
    → l ≤ region_fuo r older → following_steps c ≤ length (part r newer)
    → (l ≤ length (applied c r (part r (newer ++ older)))) × (l ≤ region_head r (newer ++ older))
