use Rattle.std.proofs.Common.{◌∙◌, List, subst, sym}
use Rattle.mu_model.specs.declared.config.Row.{Row}
use Rattle.mu_model.specs.Contents.{IsConfig}
use Rattle.mu_engine.proofs.First.{first_is_config}
use Rattle.mu_engine.proofs.engine.first_job.Goals as goal

pub returns-clause-config : goal.returns-clause-config
returns-clause-config c =
    let shape = c.args.shape in
    subst (λ (rows : List Row). IsConfig (record { version = 2; width = 1; replicas = shape.replicas; ring = shape.ring; budget = shape.budget; rows = rows })) (sym (c.in_ok-from_vec.ensures ∙ c.new.ensures.items)) (first_is_config shape c.requires)
