-- steps enough, large ring: the steps after which a replica that asks alone knows every command;
-- the ring has a place for each row and for twice the reserve.
use Rattle.std.specs.Prelude.{ℕ, ◌*◌, ◌+◌, ◌≤◌}
use Rattle.mu_model.specs.declared.config.Config.{Config}
use Rattle.mu_model.specs.Bounds.{cycle}
use Rattle.mu_model.specs.Contents.{row_count}
use Rattle.mu_model.specs.Room.{reserve}
use Rattle.mu_alive.specs.Calm.{calm_steps}

-- the steps in which a replica that has to ask asks every region
abbrev pub asking_steps : Config → ℕ
asking_steps c = 2 * (17 * c.replicas + 1)

-- the steps after which each region is granted to it
abbrev pub granting_steps : Config → ℕ
granting_steps c = asking_steps c + 2 * cycle c + 2

-- the most steps that it has taken before it reads a minimum
abbrev pub beginning_steps : Config → ℕ
beginning_steps c = granting_steps c + 2 * asking_steps c

-- the steps with which it knows every command
abbrev pub steps_enough : Config → ℕ
steps_enough c = beginning_steps c + 2 * calm_steps c (row_count c + reserve c)

-- every entry of the job has a place of its own in the ring
abbrev pub HasLargeRing : Config → Type 0
HasLargeRing c = row_count c + 2 * reserve c ≤ c.ring
