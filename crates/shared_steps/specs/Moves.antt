-- left by a move, told by it: what an atomic step makes of its word, and the word that it tells.
use Rattle.std.specs.Prelude.{max, ℕ, ◌%◌, ◌+◌, ◌==◌, ◌^◌}
use Rattle.std.specs.Int.Bits.{bit_or}
use prog.Atomic.{either}
use Rattle.mu_words.specs.declared.verbs.Move.{Move}

-- the word that a move leaves of this one
abbrev pub left_by : Move → ℕ → ℕ
left_by Move.Load n = n
left_by (Move.Store new) n = new
left_by (Move.Raise least) n = max n least
left_by Move.Add n = (n + 1) % 2 ^ 64
left_by (Move.SetBits bits) n = bit_or n bits
left_by (Move.Exchange old new) n = either (n == old) new n
left_by (Move.Swap new) n = new

-- the word that it tells: the one that it found, but of a store the one that it stored
abbrev pub told_by : Move → ℕ → ℕ
told_by (Move.Store new) n = new
told_by move n = n
