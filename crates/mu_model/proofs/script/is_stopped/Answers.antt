use Rattle.std.proofs.Common.{◌==◌, ◌||◌, ◌∙◌, Bool, refl, rules, tests}
use Rattle.std.proofs.lemmas.Iterator.{YieldsList-from_slice}
use Rattle.std.proofs.lemmas.Iterator.Search.{any_from_yields_List}
use Rattle.std.proofs.lemmas.List.Recursion.{same_from_clauses}
use Rattle.std.specs.List.{list_any}
use Rattle.mu_model.specs.Stops.{is_stopped}
use Rattle.mu_model.specs.declared.script.Stop.{Stop}
use Rattle.mu_model.proofs.script.is_stopped.Goals as goal

pub returns : goal.returns
returns c =
    any_from_yields_List (λ (stop : Stop). stop.replica == c.args.replica) _ _ c.any.result c.any.ensures.ran (YieldsList-from_slice c.args.stops.now cc) (λ x b q k. search (rules, tests))
    ∙ same_from_clauses (list_any (λ (stop : Stop). stop.replica == c.args.replica)) (is_stopped c.args.replica) (λ (stop : Stop) (rest : Bool). (stop.replica == c.args.replica) || rest) refl (λ _ _. refl) (λ _ _. refl) c.args.stops.now
