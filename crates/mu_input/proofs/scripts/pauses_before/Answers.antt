use Rattle.std.proofs.Common.{◌==◌, nat_lt, not, ◌||◌, ◌∙◌, rules, tests}
use Rattle.std.proofs.lemmas.Iterator.{YieldsList-from_slice}
use Rattle.std.proofs.lemmas.Iterator.Search.{all_from_yields_List}
use Rattle.mu_model.specs.declared.script.Pause.{Pause}
use Rattle.mu_input.proofs.StopsAndPauses.{pauses_before-all}
use Rattle.mu_input.proofs.scripts.pauses_before.Goals as goal

pub returns : goal.returns
returns c =
    all_from_yields_List (λ (pause : Pause). not (pause.replica == c.args.replica) || nat_lt pause.steps c.args.steps) _ _ c.all.result c.all.ensures.ran (YieldsList-from_slice c.args.pauses.now cc) (λ x b q k. search (rules, tests))
    ∙ pauses_before-all c.args.replica c.args.steps c.args.pauses.now
