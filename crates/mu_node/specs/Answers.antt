-- answered, holds answers: commands were answered in order; the commands of these entries were
-- answered.
use Rattle.std.specs.Prelude.{List, length, ℕ, ◌++◌, ◌+◌, ◌<◌, ◌≡◌, ◌≤◌}
use Rattle.kv_store.specs.Commands.{Request}
use Rattle.kv_store.specs.Tables.{replies, replies_from, store, store_from}
use Rattle.mu_model.specs.declared.config.Config.{Config}
use Rattle.mu_model.specs.declared.event.Event.{Event}
use Rattle.mu_model.specs.Contents.{row_count}
use Rattle.mu_knowledge.specs.RowWords.{config_words, words_held}
use Rattle.mu_follow.specs.declared.follow.Follow.{Follow}
use Rattle.mu_follow.specs.Follow.{StandsForFollow}
use Rattle.mu_follow.specs.Groups.{IsSpelled, groups_of}
use Rattle.mu_node.specs.Answering.{Answering}

-- the commands were answered, in order
pub record HasAnswered (commands : List Request) (old new : Answering) : Type 0 where
  pub replies : new.replies ≡ old.replies ++ replies_from old.table commands
  pub table : new.table ≡ store_from old.table commands
  pub left : new.left + length commands ≡ old.left

-- what was answered are the commands of these entries, and there is room for one to each row
pub record HoldsAnswers (c : Config) (commands : List Request) (entries : List ℕ)
    (state : Answering) : Type 0 where
  pub replies : state.replies ≡ replies (groups_of c commands entries)
  pub table : state.table ≡ store (groups_of c commands entries)
  pub left : row_count c ≤ state.left + length (groups_of c commands entries)

-- the replayer holds the row as the configuration has it, and it spells the command
pub record IsHeldRow (c : Config) (r : ℕ) (mine : List Event) (row : ℕ) (command : Request)
    (follow : Follow) : Type 0 where
  pub there : row < row_count c
  pub stands : StandsForFollow c r mine follow
  pub words : words_held r row mine ≡ config_words c row
  pub spelled : IsSpelled c row command
