use Rattle.std.proofs.Common.{refl, subst, length, ◌+◌, ◌≡◌, ◌≤◌}
use Rattle.mu_engine.specs.Live.{Live}
use Rattle.mu_engine.specs.Shapes.{no_script}
use Rattle.mu_engine.proofs.engine.Engine.is_within_limits.Goals as goal

pub returns-clause-script : goal.returns-clause-script
returns-clause-script c = subst (λ (v : Live). v.job.script ≡ no_script) c.self.view_is refl

pub returns-clause-few : goal.returns-clause-few
returns-clause-few c = subst (λ (v : Live). length v.job.commands + v.room ≤ 1500) c.self.view_is c.self.invariant.few
