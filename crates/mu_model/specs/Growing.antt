-- with more: the configuration with rows added after its own.
use Rattle.std.specs.Prelude.{List, ◌++◌}
use Rattle.mu_model.specs.declared.config.Config.{Config}
use Rattle.mu_model.specs.declared.config.Row.{Row}

-- the configuration with these rows after its own
abbrev pub with_more : Config → List Row → Config
with_more c more = record {
  version = c.version;
  width = c.width;
  replicas = c.replicas;
  ring = c.ring;
  budget = c.budget;
  rows = c.rows ++ more;
}
