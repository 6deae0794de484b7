-- What a listed journal keeps: it is diligent, and its leader advances.
use Rattle.std.proofs.Common.{List, ℕ, ◌<◌}
use Rattle.mu_model.specs.Contents.{IsConfig}
use Rattle.mu_model.specs.declared.config.Config.{Config}
use Rattle.mu_model.specs.declared.event.Event.{Event}
use Rattle.mu_model.specs.Diligence.{IsDiligentBy}
use Rattle.mu_model.specs.Parts.{IsPossible}
use Rattle.mu_node.specs.Due.{is_eager}
use Rattle.mu_node.specs.Journal.{IsListed, WasMade}
use Rattle.mu_node.specs.declared.zeal.Zeal.{Zeal}
use Rattle.mu_pace.specs.Blocking.{AdvancesInTime}
use Rattle.mu_agree.specs.Moments.{AtEachStep}
use Rattle.mu_pace.proofs.Cycles.{leaders_advance, machines_are_diligent}
use Rattle.mu_lively.proofs.Beside.{keeps_beside}
use Rattle.mu_lively.proofs.Listed.{listed_is_paced}
use Rattle.mu_lively.proofs.Order.{in_order}
use Rattle.mu_lively.specs.Listed.{IsPaced}

pub listed_is_diligent : (zeal : Zeal) (c : Config) (r : ℕ) (mine : List Event) → IsConfig c → r < c.replicas → IsPossible c r mine → AtEachStep (WasMade c r) mine → AtEachStep (IsListed zeal c r) mine → IsDiligentBy (is_eager zeal) c r mine
listed_is_diligent zeal c r mine good inside possible made listed =
    machines_are_diligent (is_eager zeal) c r mine (keeps_beside c r mine good inside possible (in_order c r mine made) made) (listed_is_paced zeal c r mine good inside possible made listed).led

pub listed_advances : (zeal : Zeal) (c : Config) (r : ℕ) (mine : List Event) → IsConfig c → r < c.replicas → IsPossible c r mine → AtEachStep (WasMade c r) mine → AtEachStep (IsListed zeal c r) mine → AdvancesInTime c r mine
listed_advances zeal c r mine good inside possible made listed = leaders_advance (is_eager zeal) c r mine (listed_is_paced zeal c r mine good inside possible made listed).led

pub listed_has_paces : (zeal : Zeal) (c : Config) (r : ℕ) (mine : List Event) → IsConfig c → r < c.replicas → IsPossible c r mine → AtEachStep (WasMade c r) mine → AtEachStep (IsListed zeal c r) mine → IsPaced (is_eager zeal) c r mine
listed_has_paces zeal c r mine good inside possible made listed = let led = listed_is_paced zeal c r mine good inside possible made listed in record { here = led.here.paces; led = led.led }
