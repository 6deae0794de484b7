-- grown: the configuration with one row more at the end.
use Rattle.std.specs.Prelude.{[], ◌∷◌, ◌≡◌}
use Rattle.mu_model.specs.declared.config.Config.{Config}
use Rattle.mu_model.specs.declared.config.Row.{Row}
use Rattle.mu_model.specs.Growing.{with_more}

-- grown is c with one row more at the end
pub record IsGrown (c grown : Config) : Type 0 where
  pub row : Row
  pub is : grown ≡ with_more c (row ∷ [])
