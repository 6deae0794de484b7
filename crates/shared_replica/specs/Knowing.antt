-- knows, with command: the configuration of a process that has got the rows at the first places of the
-- list, each as it read it there, in their order.
use Rattle.std.specs.Prelude.{List, suc, zero, ℕ, ◌++◌, ◌≡◌}
use Rattle.kv_store.specs.Commands.{Request}
use Rattle.lone_replica.specs.Appending.{with_next}
use Rattle.mu_inbox.specs.Entries.{IsRead}
use Rattle.mu_inbox.specs.Memory.{Made}
use Rattle.mu_model.specs.declared.config.Config.{Config}
use Rattle.mu_rows.specs.Rows.{IsCommand, spelled}

-- the process has read this command at place p
pub record ReadsCommand (own : List Made) (p : ℕ) (command : Request) : Type 0 where
  pub is : IsCommand command
  pub read : IsRead own p (spelled command 0)

-- the configuration with the next command of its client
abbrev pub with_command : Config → Request → Config
with_command c command = with_next c command.client command.op

-- by its accesses to the list, newest first, the process knows the rows at the first p places: those of
-- the configuration that it began with, and then, place by place, the command that it read there, each
-- when it had the ones before
abbrev pub Knows : Config → List Made → ℕ → Config → Type 0
Knows base own zero c = c ≡ base
Knows base own (suc p) c =
    (before : Config) × (command : Request) × (later earlier : List Made)
    × (own ≡ later ++ earlier) × ReadsCommand earlier p command × Knows base earlier p before
    × (c ≡ with_command before command)
