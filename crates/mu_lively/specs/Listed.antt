-- listed (journal): each of its events was made as it was due; such a journal is diligent, its leader
-- keeps with each event what a leader keeps, and advances.
use Rattle.std.specs.Prelude.{Bool, List, ℕ, ◌<◌}
use Rattle.mu_model.specs.declared.config.Config.{Config}
use Rattle.mu_model.specs.declared.event.Event.{Event}
use Rattle.mu_model.specs.Contents.{IsConfig}
use Rattle.mu_model.specs.Diligence.{GrantsInTime, IsDiligentBy, ReadsInTime, Replays, TellsHeads}
use Rattle.mu_model.specs.Parts.{IsPossible}
use Rattle.mu_pace.specs.Blocking.{AdvancesInTime}
use Rattle.mu_pace.specs.Collecting.{LeaderKeepsBy}
use Rattle.mu_agree.specs.Moments.{AtEachStep}
use Rattle.mu_lead.specs.Journal.{place_after, tables_at}
use Rattle.mu_lively.specs.Paces.{PacesAt}
use Rattle.mu_node.specs.Due.{is_eager}
use Rattle.mu_node.specs.Journal.{IsListed, WasMade}
use Rattle.mu_node.specs.declared.zeal.Zeal.{Zeal}

-- each event of r, plain or eager, was made as it was due by the journal
pub record IsListedBy (zeal : Zeal) (c : Config) (r : ℕ) (mine : List Event) : Type 0 where
  pub made : AtEachStep (WasMade c r) mine
  pub listed : AtEachStep (IsListed zeal c r) mine

-- what the cycle, the host and the replayer do comes in time: reads of beats and asks, grants, heads,
-- and what is learnt
pub record IsPacedBeside (c : Config) (r : ℕ) (mine : List Event) : Type 0 where
  pub reads : ReadsInTime c r mine
  pub grants : GrantsInTime c r mine
  pub heads : TellsHeads c r mine
  pub replays : Replays c r mine

-- so it is in a possible journal whose events were made as they were due, whatever its leader does
abbrev pub MadeArePacedBeside : Type 0
MadeArePacedBeside =
    (c : Config) (r : ℕ) (mine : List Event) → IsConfig c → r < c.replicas
    → IsPossible c r mine → AtEachStep (WasMade c r) mine → IsPacedBeside c r mine

-- a possible journal that is listed is diligent
abbrev pub ListedAreDiligent : Type 0
ListedAreDiligent =
    (zeal : Zeal) (c : Config) (r : ℕ) (mine : List Event) → IsConfig c → r < c.replicas
    → IsPossible c r mine → IsListedBy zeal c r mine → IsDiligentBy (is_eager zeal) c r mine

-- and its leader advances in time
abbrev pub ListedAdvance : Type 0
ListedAdvance =
    (zeal : Zeal) (c : Config) (r : ℕ) (mine : List Event) → IsConfig c → r < c.replicas
    → IsPossible c r mine → IsListedBy zeal c r mine → AdvancesInTime c r mine

-- each event keeps what a leader keeps with it, and at the place that the journal gives the leader
-- each count has room
pub record IsPaced (again : Bool) (c : Config) (r : ℕ) (mine : List Event) : Type 0 where
  pub here : PacesAt c r mine (tables_at c r mine).written (place_after c r mine)
  pub led : AtEachStep (LeaderKeepsBy again c r) mine

-- a possible journal that is listed is paced like this
abbrev pub ListedArePaced : Type 0
ListedArePaced =
    (zeal : Zeal) (c : Config) (r : ℕ) (mine : List Event) → IsConfig c → r < c.replicas
    → IsPossible c r mine → IsListedBy zeal c r mine → IsPaced (is_eager zeal) c r mine
