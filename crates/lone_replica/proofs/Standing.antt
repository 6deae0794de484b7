-- A replica with no access under way lives.
use Rattle.std.proofs.Common.{◌≡◌, ℕ, None, Some, refl, sym, subst}
use Rattle.std.specs.declared.option.Option.{Option}
use Rattle.mu_model.specs.declared.config.Config.{Config}
use Rattle.mu_model.proofs.Basics.{none_some}
use Rattle.lone_words.specs.declared.access.Shape.{Shape}
use Rattle.lone_words.specs.Memory.{Own}
use Rattle.mu_node.specs.declared.node.Node.{Node}
use Rattle.mu_node.specs.Node.{StandsForNode}
use Rattle.lone_replica.specs.declared.due.Due.{Due}
use Rattle.lone_replica.specs.declared.replica.Replica.{Replica}
use Rattle.lone_replica.specs.Standing.{HoldsNode, StandsForReplica, access_due}

pub none_due : (o : Option Due) → access_due o ≡ None → o ≡ None
none_due None is = refl
none_due (Some due) is = absurd (none_some due.access (sym is))

pub lives_undue : (c : Config) (r : ℕ) (own : Own) (s : Shape) (node : Node) (o : Option Due) → HoldsNode c r own s node o → access_due o ≡ None → StandsForNode c r own.0 node
lives_undue c r own s node o held is = subst (λ (x : Option Due). HoldsNode c r own s node x) (none_due o is) held

pub lives_alone : (c : Config) (r : ℕ) (own : Own) (replica : Replica) → StandsForReplica c r own replica → replica.due ≡ None → StandsForNode c r own.0 replica.node
lives_alone c r own replica stands none = subst (λ (x : Option Due). HoldsNode c r own replica.accesses.shape replica.node x) none stands.node
