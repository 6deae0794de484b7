-- hindrance, commits within: what keeps a confirmed leader from its next commit; the replication
-- events within which it commits if nothing does.
use Rattle.std.specs.Prelude.{Bool, List, false, is_some, not, true, ℕ, ◌+◌, ◌||◌, ◌∷◌, ◌≡◌}
use Rattle.mu_model.specs.declared.config.Config.{Config}
use Rattle.mu_model.specs.declared.event.Event.{Event}
use Rattle.mu_model.specs.Bounds.{Follows, bound}
use Rattle.mu_model.specs.Diligence.{IsDiligent, is_confirmed, is_milestone}
use Rattle.mu_model.specs.Ends.{outrun}
use Rattle.mu_model.specs.Leaderships.{has_begun}
use Rattle.mu_model.specs.Steps.{commits_more, has_min, is_any_fencing, is_lagging, is_over_after, knows_all, replicates}

-- the event keeps a leader from its next commit: its leadership is over, a head leaves no room,
-- every command is known, a place was found used again, or it has read no minimum and is confirmed
-- no more
abbrev pub is_hindrance : Config → ℕ → List Event → Event → Bool
is_hindrance c r past e =
    is_over_after r past e
    || (is_lagging c r past e
    || (knows_all c r past
    || (is_some (outrun c r (e ∷ past))
    || not (has_min r (e ∷ past) || is_confirmed c r (e ∷ past)))))

-- this fence confirms a leadership that has read no minimum
pub record IsConfirming (c : Config) (r : ℕ) (older : List Event) (e : Event) : Type 0 where
  pub begun : has_begun r older ≡ true
  pub fence : is_any_fencing e ≡ true
  pub no_min : has_min r older ≡ false
  pub confirmed : is_confirmed c r (e ∷ older) ≡ true

-- one of these `count` replication events of one leadership after e commits, if r is named before
-- each of them and none of them is a hindrance
abbrev pub CommitsWithin : Config → ℕ → List Event → List Event → List Event → ℕ → Type 0
CommitsWithin c r past window older count =
    Follows c r past window older count
    → replicates (is_hindrance c r) window older ≡ false
    → replicates (commits_more c r) window older ≡ true

-- in each diligent journal a leader commits within the bound of its replication events from its
-- first minimum, its last commit or the last head without room on; and from its confirmation on
-- within as many more as there are replicas
pub record UnhinderedCommit : Type 0 where
  pub leading :
      (c : Config) (r : ℕ) (past window older : List Event) (e : Event)
      → IsDiligent c r past → is_milestone c r older e ≡ true
      → CommitsWithin c r past window (e ∷ older) (bound c r window (e ∷ older))
  pub confirmed :
      (c : Config) (r : ℕ) (past window older : List Event) (e : Event)
      → IsDiligent c r past → IsConfirming c r older e
      → CommitsWithin c r past window (e ∷ older) (c.replicas + bound c r window (e ∷ older))
