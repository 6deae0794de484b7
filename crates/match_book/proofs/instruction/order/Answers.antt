use Rattle.std.proofs.Common.{◌+◌, take, ap, ◌∙◌}
use Rattle.mu_text.proofs.Cutting.{all_after}
use Rattle.match_book.specs.Orders.{amount_of, order_for, order_split}
use Rattle.match_book.proofs.instruction.order.Goals as goal

pub returns-in-Some : goal.returns-in-Some
returns-in-Some c =
    let side = c.args.side in
    let terms = c.args.terms.now in
    c.order_for.ensures
    ∙ ap (λ price. order_for side price c.amount-in-Some.result) c.amount.ensures
    ∙ ap (order_for side (amount_of (take c.in-Some.at terms))) (c.amount-in-Some.ensures ∙ ap amount_of (all_after terms (c.in-Some.at + 1)))
    ∙ ap (order_split side terms) c.in-Some.ensures
