-- The turns of a replica over a port of its own, and what is left of it in the lists of an outcome.
use Rattle.std.proofs.Common.{◌≡◌, ◌∙◌, ℕ, ◌<◌, List, [], ◌∷◌, None, Some, ap, arith, length, refl, reverse, subst, sym}
use Rattle.std.specs.declared.option.Option.{Option}
use Rattle.std.specs.List.{slice_get}
use Rattle.std.proofs.lemmas.List.{reverse-reverse}
use Rattle.mu_model.specs.declared.config.Config.{Config}
use Rattle.mu_model.specs.declared.event.Event.{Event}
use Rattle.mu_model.specs.declared.script.End.{End}
use Rattle.mu_model.specs.declared.script.Script.{Script}
use Rattle.mu_model.specs.Contents.{IsConfig}
use Rattle.mu_model.specs.Ends.{EndsBy}
use Rattle.mu_model.specs.Histories.{part}
use Rattle.mu_model.specs.Legal.{IsLegal}
use Rattle.mu_model.specs.Parts.{HasParts}
use Rattle.mu_model.proofs.Basics.{same_some}
use Rattle.mu_model.proofs.Parts.{history-part}
use Rattle.mu_node.specs.declared.zeal.Zeal.{Zeal}
use Rattle.mu_node.specs.declared.node.Node.{Node}
use Rattle.mu_node.specs.declared.turn.Turn.{Turn}
use Rattle.mu_node.specs.Following.{FollowsTurns}
use Rattle.mu_node.specs.Turns.{IsTurn}
use Rattle.shared_fabric.specs.Gathering.{AreOfOneList, Collected, IsSamePort, PortValue}
use Rattle.mu_cluster.specs.Branches.{Drives, NodeGoesOn, HasEnd, IsFreshPort}
use Rattle.mu_cluster.specs.Rounds.{EndsNowhereBefore, part_of}
use Rattle.mu_cluster.proofs.Seats.{next_before}

-- no beginning of no events has an end before them
none_before : (c : Config) (script : Script) (r : ℕ) → EndsNowhereBefore c script r []
none_before c script r [] older end same some ends = some refl
none_before c script r (x ∷ newer) older end same some ends = absurd (let long = ap length same in omega (arith, long))

-- after a turn no shorter beginning has an end
before_after : (c : Config) (script : Script) (r : ℕ) (mine now : List Event) (was is : Option (List Event)) (turn : Turn) → EndsNowhereBefore c script r mine → IsTurn c script r mine now was is turn → EndsNowhereBefore c script r now
before_after c script r mine now was is (Turn.Took note) before told =
    subst (λ l. EndsNowhereBefore c script r l) (sym told.1.part) (next_before c script r (record { by = r; verb = told.1.verb; answer = told.1.answer }) mine told.0 before)
before_after c script r mine now was is (Turn.Ended end) before told = subst (λ l. EndsNowhereBefore c script r l) (sym told.1) before

-- what holds of a port holds of the same port
abbrev At : PortValue → (Config → ℕ → Type 0) → Type 0
At p P = P p.config p.id

moved : (p q : PortValue) (P : Config → ℕ → Type 0) → IsSamePort p q → At p P → At q P
moved p q P same held = subst (λ k. P k q.id) (sym same.config) (subst (λ i. P p.config i) (sym same.id) held)

-- a branch after a turn
pub turned_on : (script : Script) (p q : PortValue) (old new : Node) (turn : Turn) → Drives script old p → IsSamePort p q → FollowsTurns q.config q.id q.part new → new.stops ≡ old.stops → new.zeal ≡ old.zeal
    → IsTurn p.config script p.id p.part q.part None None turn → Drives script new q
turned_on script p q old new turn was same follows stops zeal told = record {
  config = moved p q (λ k i. IsConfig k) same was.config;
  goes = record {
    follows = follows;
    stops = ap (λ v. v.items) stops ∙ was.goes.stops;
    zeal = zeal ∙ was.goes.zeal;
    before = moved p q (λ k i. EndsNowhereBefore k script i q.part) same (before_after p.config script p.id p.part q.part None None turn was.goes.before told);
  };
}

-- the turn that finds the end
pub ended_on : (script : Script) (p q : PortValue) (end : End) → IsSamePort p q → IsTurn p.config script p.id p.part q.part None None (Turn.Ended end) → HasEnd q.config script q.id q.part
ended_on script p q end same told = (end, moved p q (λ k i. EndsBy k script i q.part end) same (subst (λ l. EndsBy p.config script p.id l end) (sym told.1) told.0))

pub same_same : (p q s : PortValue) → IsSamePort p q → IsSamePort q s → IsSamePort p s
same_same p q s a b = record { table = b.table ∙ a.table; config = b.config ∙ a.config; id = b.id ∙ a.id }

-- a branch before any step
pub first_drives : (c : Config) (script : Script) (r : ℕ) (p : PortValue) (node : Node) → IsConfig c → IsFreshPort c r p → FollowsTurns c p.id [] node → node.stops.items ≡ script.stops → node.zeal ≡ Zeal.Eager → Drives script node p
first_drives c script r p node good fresh follows stops zeal = record {
  config = subst (λ k. IsConfig k) (sym fresh.config) good;
  goes = subst (λ k. NodeGoesOn k script p.id p.part node) (sym fresh.config)
      (subst (λ l. NodeGoesOn c script p.id l node) (sym fresh.empty) (record { follows = follows; stops = stops; zeal = zeal; before = none_before c script p.id }));
}

-- a part in true order is the part of its list
pub mine_part : (c : Config) (events : List Event) (parts : List (List Event)) (r : ℕ) (mine : List Event) → r < c.replicas → HasParts c events parts → slice_get parts r ≡ Some (reverse mine) → mine ≡ part_of r events
mine_part c events parts r mine low has at =
    let same : reverse mine ≡ part r events = same_some (reverse mine) (part r events) (sym at ∙ has.each r low) in
    sym (reverse-reverse mine) ∙ (ap reverse same ∙ history-part r events)

-- the one list of what was gathered
pub one_list : (c : Config) (g : Collected) → g.config ≡ c → AreOfOneList g → (events : List Event) × (IsLegal c events × HasParts c events g.parts)
one_list c g config one = (one.events, (subst (λ k. IsLegal k one.events) config one.legal, subst (λ k. HasParts k one.events g.parts) config one.has_parts))
