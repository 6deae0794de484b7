use Rattle.std.proofs.Common.{subst, sym}
use Rattle.mu_library.specs.Calls.{SaysOfHeld}
use Rattle.mu_library.proofs.Outcomes.{says_so_far}
use Rattle.mu_library.proofs.judging.told_of.Goals as goal

pub returns-in-Judge : goal.returns-in-Judge
returns-in-Judge c =
    subst (λ held. SaysOfHeld held c.args.out.now c.say.new.out c.say.result.status c.say.result.taken) (sym c.in-Judge.is)
    (says_so_far _ c.answer_so_far.result _ _ _ _ c.answer_so_far.ensures.says c.say.ensures)
