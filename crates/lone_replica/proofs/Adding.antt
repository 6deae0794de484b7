-- One row more, seen from a replica, also while an access is under way.
use Rattle.std.proofs.Common.{◌≡◌, ◌∙◌, ℕ, suc, zero, ◌+◌, ◌%◌, ◌/◌, ◌^◌, ◌<◌, ◌≤◌, ◌==◌, Bool, true, false, List, [], ◌∷◌, None, Some, ap, arith, refl, subst, sym}
use Rattle.std.specs.Prelude.{if◌then◌else◌, slice_index}
use Rattle.std.specs.declared.option.Option.{Option}
use Rattle.std.proofs.lemmas.List.{length_push}
use Rattle.kv_store.specs.Commands.{Request}
use Rattle.mu_model.specs.declared.config.Config.{Config}
use Rattle.mu_model.specs.declared.config.Row.{Row}
use Rattle.mu_model.specs.declared.event.Event.{Event}
use Rattle.mu_model.specs.declared.event.Verb.{Verb}
use Rattle.mu_model.specs.Contents.{IsConfig, client_of, row_count, rows_before}
use Rattle.mu_model.specs.Growing.{with_more}
use Rattle.mu_model.specs.Parts.{IsPossible}
use Rattle.mu_agree.proofs.Growing.{grown_is_config_law, legal_kept}
use Rattle.mu_words.proofs.Growing.{found_kept}
use Rattle.mu_words.specs.Standing.{close_grant}
use Rattle.mu_words.specs.Verbs.{IsMove}
use Rattle.lone_words.specs.declared.access.Access.{Access}
use Rattle.lone_words.specs.declared.access.Shape.{Shape}
use Rattle.lone_words.specs.declared.accesses.Accesses.{Accesses}
use Rattle.lone_words.specs.Accesses.{IsAccessOf, StandsForAccesses}
use Rattle.lone_words.specs.Memory.{Own}
use Rattle.lone_words.proofs.Coming.{expected_same}
use Rattle.mu_node.specs.declared.deciding.Decision.{Decision}
use Rattle.mu_node.specs.declared.node.Node.{Node}
use Rattle.mu_node.specs.Deciding.{HasDecided}
use Rattle.mu_node.specs.Growing.{StandsInTurn, StandsOn}
use Rattle.mu_node.specs.Node.{StandsForNode}
use Rattle.mu_node.proofs.Growing.{in_turn}
use Rattle.mu_node.proofs.Midway.{decided_in_turn}
use Rattle.mu_node.proofs.Moving.{to_port}
use Rattle.lone_replica.specs.declared.due.Due.{Due}
use Rattle.lone_replica.specs.declared.replica.Replica.{Replica}
use Rattle.lone_replica.specs.Standing.{HoldsNode, StandsForReplica}

-- no client has more rows before a row than there are
pub few_before : (c : Config) (client j : ℕ) → rows_before c client j ≤ j
few_before c client zero = omega arith
few_before c client (suc j) = go (client_of c j == client) (few_before c client j)
  where
    go : (t : Bool) → rows_before c client j ≤ j → (if t then rows_before c client j + 1 else rows_before c client j) ≤ suc j
    go true few = omega (arith, few)
    go false few = omega (arith, few)

-- a part is possible with one row more
pub possible_grown : (c : Config) (row : Row) (r : ℕ) (mine : List Event) → IsConfig c → IsConfig (with_more c (row ∷ [])) → IsPossible c r mine → IsPossible (with_more c (row ∷ [])) r mine
possible_grown c row r mine good grown possible = record { past = possible.past; legal = legal_kept c (row ∷ []) possible.past good grown possible.legal; is = possible.is }

-- what is kept to make accesses stands for the same, if there is room for the row
pub accesses_grown : (c : Config) (row : Row) (r : ℕ) (own : Own) (a : Accesses) → row_count c < a.shape.rows → StandsForAccesses c r own a → StandsForAccesses (with_more c (row ∷ [])) r own a
accesses_grown c row r own a room stands =
    let one = length_push c.rows row in
    let same = stands.rows in
    record {
      id = stands.id;
      shape = record { replicas = stands.shape.replicas; ring = stands.shape.ring; rows = omega (arith, one, room) };
      layout = record { replicas = stands.layout.replicas; ring = stands.layout.ring; rows = omega (arith, one, room, same) };
      rows = stands.rows;
      found = found_kept c (row ∷ []) r a.found own.0 own.1 stands.found;
    }

-- the access under way is the same
access_grown : (c : Config) (row : Row) (r : ℕ) (own : Own) (s : Shape) (verb : Verb) (access : Access) → IsAccessOf c r own s verb access → IsAccessOf (with_more c (row ∷ [])) r own s verb access
access_grown c row r own s verb access it = record {
  spot = it.spot;
  step = subst (λ (x : ℕ). IsMove c.ring (close_grant r own.0) verb x access.step) (sym (expected_same c (row ∷ []) r own verb)) it.step;
}

-- the node lives or has decided what it does
holds_grown : (c : Config) (row : Row) (r : ℕ) (own : Own) (s : Shape) (old new : Node) (o : Option Due) → new.follow.config ≡ with_more c (row ∷ []) → new.id ≡ old.id
    → (StandsForNode c r own.0 old → StandsForNode (with_more c (row ∷ [])) r own.0 new) → ((d : Decision) → HasDecided own.0 old d → HasDecided own.0 new d) → HoldsNode c r own s old o → HoldsNode (with_more c (row ∷ [])) r own s new o
holds_grown c row r own s old new None config id lives decided held = lives held
holds_grown c row r own s old new (Some due) config id lives decided held = record {
  config = config;
  id = id ∙ held.id;
  decided = decided due.decision held.decided;
  access = access_grown c row r own s due.decision.plan.verb due.access held.access;
}

-- so the value stands for the same with the row
pub replica_grown : (c : Config) (row : Row) (r : ℕ) (own : Own) (old new : Replica) → IsConfig (with_more c (row ∷ [])) → row_count c < old.accesses.shape.rows → StandsForReplica c r own old
    → new.config ≡ with_more c (row ∷ []) → new.node.follow.config ≡ with_more c (row ∷ []) → new.node.id ≡ old.node.id → (StandsForNode c r own.0 old.node → StandsForNode (with_more c (row ∷ [])) r own.0 new.node)
    → ((d : Decision) → HasDecided own.0 old.node d → HasDecided own.0 new.node d) → new.due ≡ old.due → new.id ≡ old.id → new.last ≡ old.last → new.accesses ≡ old.accesses → StandsForReplica (with_more c (row ∷ [])) r own new
replica_grown c row r own old new grown room stands config follow node lives decided due id last accesses = record {
  parts = record {
    good = grown;
    config = config;
    id = id ∙ stands.parts.id;
    possible = possible_grown c row r own.0 stands.parts.good grown stands.parts.possible;
    accesses = subst (λ (a : Accesses). StandsForAccesses (with_more c (row ∷ [])) r own a) (sym accesses) (accesses_grown c row r own old.accesses room stands.parts.accesses);
    few = subst (λ (a : Accesses). a.shape.rows ≤ 1500) (sym accesses) stands.parts.few;
    last = last ∙ stands.parts.last;
  };
  node = subst (λ (a : Accesses). HoldsNode (with_more c (row ∷ [])) r own a.shape new.node new.due) (sym accesses)
      (subst (λ (o : Option Due). HoldsNode (with_more c (row ∷ [])) r own old.accesses.shape new.node o) (sym due)
      (holds_grown c row r own old.accesses.shape old.node new.node old.due follow node lives decided stands.node));
}

-- the configuration with the next command of a client is one
pub next_is_config : (c : Config) (command : Request) (row : Row) → IsConfig c → row_count c < 1500 → command.number ≡ rows_before c command.client (row_count c) + 1 → slice_index row.words 0 / 2 ^ 8 % 2 ^ 8 ≡ command.client → slice_index row.words 0 / 2 ^ 16 % 2 ^ 16 ≡ command.number → slice_index row.words 0 / 2 ^ 56 ≡ 0 → IsConfig (with_more c (row ∷ []))
next_is_config c command row good few numbered client number rest =
    grown_is_config_law c row good few rest (number ∙ numbered ∙ ap (λ x. rows_before c x (row_count c) + 1) (sym client))

-- the node stands in its turn
pub in_turn_held : (c : Config) (r : ℕ) (own : Own) (s : Shape) (node : Node) (o : Option Due) → HoldsNode c r own s node o → StandsInTurn c r own.0 node
in_turn_held c r own s node None held = in_turn c r own.0 node held
in_turn_held c r own s node (Some due) held = to_port (λ k i l. StandsInTurn k i l node) held.config held.id refl (decided_in_turn own.0 node due.decision held.decided)

holds_on : (c : Config) (r : ℕ) (own : Own) (s : Shape) (old new : Node) (o : Option Due) → StandsOn old new → new.follow.config ≡ old.follow.config → new.id ≡ old.id → HoldsNode c r own s old o → HoldsNode c r own s new o
holds_on c r own s old new None on config id held = on.stands c r own.0 held
holds_on c r own s old new (Some due) on config id held = record {
  config = config ∙ held.config;
  id = id ∙ held.id;
  decided = on.decided own.0 due.decision held.decided;
  access = held.access;
}

-- the value stands for the same with another node that stands on
pub replica_on : (c : Config) (r : ℕ) (own : Own) (old new : Replica) → StandsForReplica c r own old → new.config ≡ old.config → new.id ≡ old.id → new.last ≡ old.last → new.accesses ≡ old.accesses → new.due ≡ old.due
    → StandsOn old.node new.node → new.node.follow.config ≡ old.node.follow.config → new.node.id ≡ old.node.id → StandsForReplica c r own new
replica_on c r own old new stands config id last accesses due on follow node = record {
  parts = record {
    good = stands.parts.good;
    config = config ∙ stands.parts.config;
    id = id ∙ stands.parts.id;
    possible = stands.parts.possible;
    accesses = subst (λ (a : Accesses). StandsForAccesses c r own a) (sym accesses) stands.parts.accesses;
    few = subst (λ (a : Accesses). a.shape.rows ≤ 1500) (sym accesses) stands.parts.few;
    last = last ∙ stands.parts.last;
  };
  node = subst (λ (a : Accesses). HoldsNode c r own a.shape new.node new.due) (sym accesses)
      (subst (λ (o : Option Due). HoldsNode c r own old.accesses.shape new.node o) (sym due)
      (holds_on c r own old.accesses.shape old.node new.node old.due on follow node stands.node));
}
