use Rattle.std.proofs.Common.{◌∙◌, ◌||◌, ap, arith}
use Rattle.std.specs.Prelude.{nat_le, nat_lt}
use Rattle.mu_model.proofs.Basics.{true_or}
use Rattle.std.proofs.lemmas.Bool.{le-ltb, lt-ltb}
use Rattle.std.specs.List.{slice_get}
use Rattle.mu_model.specs.Knowledge.{is_filled}
use Rattle.mu_knowledge.specs.KnownLog.{is_set}
use Rattle.mu_knowledge.proofs.Filled.{filled_upto}
use Rattle.mu_knowledge.proofs.filled_log.FilledLog.are_filled.Goals as goal

pub returns : goal.returns
returns c c' r p mine held =
    let to = c.args.self.now.filled_to in
    let marks = c.args.self.now.filled.items in
    ap (λ n. nat_le n to) c.from.ensures
    ∙ filled_upto (is_filled c' r p mine) to c.args.u (λ j low. held.filled j ∙ true_or (nat_lt j to) (is_set (slice_get marks j)) (lt-ltb j to low))
    (held.filled to ∙ ap (λ x. x || is_set (slice_get marks to)) (le-ltb to to (omega arith)) ∙ held.next)
