-- holds commits: a list of commits stands for what r committed.
use Rattle.std.specs.Prelude.{List, map, vec_capacity, ℕ, ◌+◌, ◌<◌, ◌≡◌}
use Rattle.std.specs.declared.alloc.Global.{Global}
use Rattle.std.specs.declared.vec.Vec.{Vec}
use Rattle.mu_model.specs.declared.config.Config.{Config}
use Rattle.mu_model.specs.declared.event.Event.{Event}
use Rattle.mu_model.specs.Contents.{row_count}
use Rattle.mu_model.specs.Knowledge.{commits}
use Rattle.mu_model.specs.Room.{reserve}
use Rattle.mu_knowledge.specs.Commits.{pair_of}
use Rattle.mu_knowledge.specs.declared.commit.Commit.{Commit}

-- the list is what r committed, and there is room for one at each position
pub record HoldsCommits (c : Config) (r : ℕ) (mine : List Event)
    (list : Vec Commit Global) : Type 0 where
  pub are : map pair_of list.items ≡ commits c r mine
  pub room : row_count c + reserve c < vec_capacity list
