-- commit: a commit as a pair of a position and a value.
use Rattle.std.specs.Prelude.{ℕ}
use Rattle.mu_knowledge.specs.declared.commit.Commit.{Commit}

-- its position and its value
abbrev pub pair_of : Commit → ℕ × ℕ
pair_of commit = (commit.position, commit.value)
