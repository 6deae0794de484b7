use Rattle.std.proofs.Common.{◌∙◌, arith, inl, inr, sym}
use Rattle.std.proofs.lemmas.Bool.{cases_lt, le-leb, lt-leb}
use Rattle.mu_model.specs.Contents.{row_count}
use Rattle.mu_follow.proofs.Full.{all_there, one_missing}
use Rattle.mu_follow.proofs.completion.is_whole.Goals as goal

pub returns : goal.returns
returns c is_there is =
    let k = c.args.config.now in
    elim (cases_lt c.args.first (row_count k)) [
      | inl low ↦ lt-leb c.len.result c.args.first (omega (arith, low, c.len.ensures)) ∙ sym (one_missing k is_there c.args.first is low)
      | inr high ↦ le-leb c.len.result c.args.first (omega (arith, high, c.len.ensures)) ∙ sym (all_there k is_there c.args.first is high)
    ]
