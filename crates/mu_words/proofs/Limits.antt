-- What the ranges of words rest on: the limits of a configuration.
use Rattle.std.proofs.Common.{◌<◌, ◌≤◌, arith}
use Rattle.mu_model.specs.declared.config.Config.{Config}
use Rattle.mu_model.specs.Contents.{IsConfig, row_count}

pub record Limits (c : Config) : Type 0 where
  pub replicas : c.replicas ≤ 7
  pub ring_least : 8 ≤ c.ring
  pub ring_most : c.ring ≤ 1024
  pub budget : c.budget < 131072
  pub commands : row_count c ≤ 1500

-- a configuration that a job gives has them
pub config_is_limited : (c : Config) → IsConfig c → Limits c
config_is_limited c is = record {
  replicas = is.replicas.1;
  ring_least = is.ring.0;
  ring_most = is.ring.1;
  budget = let most = is.budget.1 in omega (arith, most);
  commands = is.few;
}
