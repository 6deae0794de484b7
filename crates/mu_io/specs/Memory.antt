-- memory source, memory sink: a source and a sink in memory, as contracts see them.
use Rattle.std.specs.Prelude.{ℕ, List}

-- `left` is still to be given, at most `piece` bytes a call; `calls` came so far, and those
-- numbered in `fails`, from 1, fail
pub record SourceState : Type 0 where
  pub left : List ℕ
  pub piece : ℕ
  pub fails : List ℕ
  pub calls : ℕ
  pub faults : ℕ

-- `written` was taken, at most `piece` bytes a call and `room` in all; `calls` came so far, and
-- those numbered in `fails`, from 1, fail
pub record SinkState : Type 0 where
  pub written : List ℕ
  pub room : ℕ
  pub piece : ℕ
  pub fails : List ℕ
  pub calls : ℕ
  pub faults : ℕ
