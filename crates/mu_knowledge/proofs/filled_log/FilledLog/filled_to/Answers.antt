use Rattle.std.proofs.Common.{◌∙◌, ◌||◌, ap, arith}
use Rattle.std.specs.Prelude.{nat_lt}
use Rattle.std.specs.List.{slice_get}
use Rattle.std.proofs.lemmas.Bool.{le-ltb, lt-ltb}
use Rattle.mu_model.proofs.Basics.{true_or}
use Rattle.mu_knowledge.specs.KnownLog.{is_set}
use Rattle.mu_knowledge.proofs.filled_log.FilledLog.filled_to.Goals as goal

pub returns : goal.returns
returns c k r p mine held =
    let to = c.args.self.now.filled_to in
    let marks = c.args.self.now.filled.items in
    record {
      below = λ j less. held.filled j ∙ true_or (nat_lt j to) (is_set (slice_get marks j)) (lt-ltb j to less);
      next = held.filled to ∙ ap (λ x. x || is_set (slice_get marks to)) (le-ltb to to (omega arith)) ∙ held.next;
    }
