use Rattle.std.proofs.Common.{ap, subst, sym, ◌∙◌}
use Rattle.mu_handle.specs.declared.holding.Held.{Held}
use Rattle.mu_library.specs.Calls.{TakesHeld}
use Rattle.mu_outcome.specs.Statuses.{code_of}
use Rattle.mu_library.proofs.judging.taken_by.Goals as goal

pub returns-in-Judge-clause-takes : goal.returns-in-Judge-clause-takes
returns-in-Judge-clause-takes c =
    subst (λ old. TakesHeld old c.args.line.now (Held.Judge c.take.new.self) c.code.result) (sym c.in-Judge.is)
    (record {
      config = c.take.ensures.config;
      taken = c.take.ensures.taken;
      status_is = λ k start past taken. c.code.ensures ∙ ap code_of (c.take.ensures.status k start past taken);
    })
