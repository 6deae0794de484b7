-- What the tests say of three ports.
use Rattle.std.specs.Prelude.{◌≡◌}
use Rattle.mu_model.specs.declared.config.Config.{Config}
use Rattle.shared_fabric.specs.Gathering.{PortValue}

-- the three ports have this configuration
abbrev pub AreOf : Config → PortValue → PortValue → PortValue → Type 0
AreOf c p q r = (p.config ≡ c) × (q.config ≡ c) × (r.config ≡ c)
