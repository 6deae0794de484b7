-- lists on their way: the lists of an outcome while it is built.
use Rattle.std.specs.Prelude.{Bool, List, Some, [], length, map, vec_capacity, ℕ, ◌++◌, ◌<◌, ◌∷◌, ◌≡◌, ◌≤◌}
use Rattle.std.specs.List.{slice_get}
use Rattle.mu_model.specs.declared.config.Config.{Config}
use Rattle.mu_model.specs.declared.event.Event.{Event}
use Rattle.mu_model.specs.declared.script.End.{End}
use Rattle.mu_model.specs.declared.script.Script.{Script}
use Rattle.mu_model.specs.Contents.{row_count}
use Rattle.mu_model.specs.Diligence.{IsDiligentBy}
use Rattle.mu_model.specs.Ends.{Obeys}
use Rattle.mu_model.specs.Knowledge.{applied, commits}
use Rattle.mu_knowledge.specs.declared.commit.Commit.{Commit}
use Rattle.kv_store.specs.Commands.{Request}
use Rattle.kv_store.specs.declared.store.Reply.{Reply}
use Rattle.kv_store.specs.Tables.{replies}
use Rattle.mu_knowledge.specs.Commits.{pair_of}
use Rattle.mu_follow.specs.Groups.{AreSpelled, groups_of}
use Rattle.mu_node.specs.declared.result.NodeResult.{NodeResult}
use Rattle.mu_cluster.specs.declared.lists.Lists.{Lists}
use Rattle.mu_cluster.specs.declared.lists.OutcomeRoom.{OutcomeRoom}
use Rattle.mu_cluster.specs.Rounds.{part_of}

-- each list has k items, and room for n, and no more
pub record HasRoom (n k : ℕ) (lists : Lists) : Type 0 where
  pub logs : (length lists.logs.items ≡ k) × (n ≡ vec_capacity lists.logs)
  pub commits : (length lists.commits.items ≡ k) × (n ≡ vec_capacity lists.commits)
  pub replies : (length lists.replies.items ≡ k) × (n ≡ vec_capacity lists.replies)
  pub ends : (length lists.ends.items ≡ k) × (n ≡ vec_capacity lists.ends)

-- what a replica leaves is added
pub record Adds (old new : Lists) (result : NodeResult) : Type 0 where
  pub logs :
      (new.logs.items ≡ old.logs.items ++ result.log ∷ [])
      × (vec_capacity new.logs ≡ vec_capacity old.logs)
  pub commits :
      (new.commits.items ≡ old.commits.items ++ result.commits ∷ [])
      × (vec_capacity new.commits ≡ vec_capacity old.commits)
  pub replies :
      (new.replies.items ≡ old.replies.items ++ result.replies ∷ [])
      × (vec_capacity new.replies ≡ vec_capacity old.replies)
  pub ends :
      ((e : End) → result.end ≡ Some e → new.ends.items ≡ old.ends.items ++ e ∷ [])
      × (vec_capacity new.ends ≡ vec_capacity old.ends)

-- what replica r left after these events stands in the lists
pub record Leaves (again : Bool) (c : Config) (script : Script) (r : ℕ) (mine : List Event)
    (logs : List (List ℕ)) (commits_made : List (List Commit)) (replies_made : List (List Reply))
    (ends : List End) : Type 0 where
  pub log_at : slice_get logs r ≡ Some (applied c r mine)
  pub made : List Commit
  pub made_at : slice_get commits_made r ≡ Some made
  pub made_is : map pair_of made ≡ commits c r mine
  pub told : List Reply
  pub told_at : slice_get replies_made r ≡ Some told
  pub told_is :
      (commands : List Request) → AreSpelled c commands
      → told ≡ replies (groups_of c commands (applied c r mine))
  pub end : End
  pub end_at : slice_get ends r ≡ Some end
  pub obeys : Obeys c script r mine end
  pub diligent : IsDiligentBy again c r mine

-- the lists hold what the first n replicas left
pub record HoldsLists (again : Bool) (c : Config) (script : Script) (events : List Event) (n : ℕ)
    (lists : Lists) : Type 0 where
  pub room : HasRoom c.replicas n lists
  pub each :
      (r : ℕ) → r < n
      → Leaves again c script r (part_of r events) lists.logs.items lists.commits.items
      lists.replies.items lists.ends.items

-- each replica's replies are those that f gives of its log
abbrev pub AreOf : (List ℕ → List Reply) → Lists → Type 0
AreOf f lists =
    (r : ℕ) (log : List ℕ) → slice_get lists.logs.items r ≡ Some log
    → slice_get lists.replies.items r ≡ Some (f log)

-- the lists are empty, with room for all replicas, and there is room for the replies to any log,
-- and no more
pub record IsOutcomeRoom (c : Config) (room : OutcomeRoom) : Type 0 where
  pub lists : HasRoom c.replicas 0 room.lists
  pub empty : room.printed.items ≡ []
  pub printed : row_count c ≤ vec_capacity room.printed
  pub no_more : vec_capacity room.printed ≤ row_count c
