-- place (of the cycle): the turns of a journal at which asks are read, and those of the host.
--
-- Turns count from 0, and each is one event: the even ones are background turns and go round the
-- cycle, the odd ones are replication turns.
use Rattle.std.specs.Prelude.{ℕ, ◌*◌, ◌+◌}
use Rattle.mu_model.specs.declared.config.Config.{Config}

-- how many places the cycle has: a beat, the reads of the other beats, those of the asks of each
-- replica, four of the host, and the replayer's
abbrev pub places : Config → ℕ
places c = 2 * c.replicas + 22

-- the place at which the asks of w are read
abbrev pub ask_place : Config → ℕ → ℕ
ask_place c w = c.replicas + w

-- the place of the host for its verb d: 0 is `Close`, 1 is `LookTarget`, 2 is `Drain`, 3 is `Grant`
abbrev pub host_place : Config → ℕ → ℕ
host_place c d = 2 * c.replicas + d
