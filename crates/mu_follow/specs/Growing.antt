-- room to follow: a replayer has room for one row more.
use Rattle.std.specs.Prelude.{vec_capacity, ◌*◌, ◌+◌, ◌<◌, ◌≤◌}
use Rattle.mu_model.specs.declared.config.Config.{Config}
use Rattle.mu_model.specs.Contents.{row_count}
use Rattle.mu_model.specs.Room.{reserve}
use Rattle.mu_knowledge.specs.FilledLog.{HasRoomForPosition}
use Rattle.mu_knowledge.specs.HeldRows.{HasRoomForMarks}
use Rattle.mu_knowledge.specs.KnownLog.{HasRoomForRow}
use Rattle.mu_follow.specs.declared.follow.Follow.{Follow}
use Rattle.mu_follow.specs.Completion.{HasRoomForMark}

-- each of its parts has room for one row more
pub record HasRoomToFollow (c : Config) (state : Follow) : Type 0 where
  pub knowing : HasRoomForRow c state.knowing
  pub rows : HasRoomForMarks c state.rows
  pub words : row_count c * 12 + 12 ≤ vec_capacity state.words.words
  pub own_log : HasRoomForPosition state.own_log
  pub completion : HasRoomForMark state.completion
  pub commits : row_count c + reserve c + 1 < vec_capacity state.commits
