-- A node that follows its turns does so after one more.
use Rattle.std.proofs.Common.{◌≡◌, List, [], ℕ, subst, sym}
use Rattle.std.specs.declared.option.Option.{Option}
use Rattle.mu_model.specs.declared.config.Config.{Config}
use Rattle.mu_model.specs.declared.event.Event.{Event}
use Rattle.mu_model.specs.declared.script.Script.{Script}
use Rattle.mu_lead.specs.Journal.{IsWhere}
use Rattle.mu_node.specs.declared.node.Node.{Node}
use Rattle.mu_node.specs.declared.turn.Turn.{Turn}
use Rattle.mu_node.specs.Following.{FollowsTurns}
use Rattle.mu_node.specs.Journal.{IsListed, WasMade}
use Rattle.mu_node.specs.Node.{StandsForNode}
use Rattle.mu_node.specs.Notes.{TellsTurn}
use Rattle.mu_node.specs.Turns.{IsTurn}
use Rattle.mu_agree.specs.Moments.{AtEachStep}

-- before any event
pub follows_first : (c : Config) (r : ℕ) (node : Node) → StandsForNode c r [] node → IsWhere c r [] node.lead → FollowsTurns c r [] node
follows_first c r node stands placed = record { stands = stands; made = tt; listed = tt; placed = placed }

-- after a turn through a port, which stays that of the same replica
pub follows_on : (c k : Config) (script : Script) (r i : ℕ) (mine now : List Event) (before after : Option (List Event)) (old new : Node) (turn : Turn) → k ≡ c → i ≡ r → FollowsTurns c r mine old → StandsForNode k i now new → new.zeal ≡ old.zeal → IsTurn c script r mine now before after turn
    → (IsWhere c r mine old.lead → IsWhere k i now new.lead) → (IsWhere c r mine old.lead → TellsTurn old.zeal c r mine now old.lead turn) → FollowsTurns k i now new
follows_on c k script r i mine now before after old new turn same_c same_r was stands zeal did placed told = record {
  stands = stands;
  made = subst (λ z. AtEachStep (WasMade z i) now) (sym same_c) (subst (λ n. AtEachStep (WasMade c n) now) (sym same_r) (steps turn did (told was.placed)).0);
  listed = subst (λ z. AtEachStep (IsListed new.zeal z i) now) (sym same_c) (subst (λ n. AtEachStep (IsListed new.zeal c n) now) (sym same_r)
      (subst (λ z. AtEachStep (IsListed z c r) now) (sym zeal) (steps turn did (told was.placed)).1));
  placed = placed was.placed;
}
  where
    steps : (t : Turn) → IsTurn c script r mine now before after t → TellsTurn old.zeal c r mine now old.lead t → AtEachStep (WasMade c r) now × AtEachStep (IsListed old.zeal c r) now
    steps (Turn.Took note) one it = (
      subst (AtEachStep (WasMade c r)) (sym it.part) (was.made, it.made.made),
      subst (AtEachStep (IsListed old.zeal c r)) (sym it.part) (was.listed, it.made.listed),
    )
    steps (Turn.Ended end) none it = (subst (AtEachStep (WasMade c r)) (sym none.1) was.made, subst (AtEachStep (IsListed old.zeal c r)) (sym none.1) was.listed)
