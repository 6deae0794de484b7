use Rattle.std.proofs.Common.{◌≡◌, ◌∙◌, [], ◌∷◌, sym, subst}
use Rattle.mu_model.proofs.Basics.{none_some, same_some}
use Rattle.mu_node.specs.Answers.{HasAnswered}
use Rattle.mu_node.proofs.Answering.{one_answered}
use Rattle.mu_node.proofs.answers.answer_row.Goals as goal

pub returns-in-Some : goal.returns-in-Some
returns-in-Some c command held some =
    let row = held.3 in
    let is = c.command.ensures.right held.0 held.1 held.2 command row.there row.stands row.words row.spelled in
    let same : c.in-Some.command ≡ command = same_some c.in-Some.command command (sym c.in-Some.is ∙ is) in
    subst (λ x. HasAnswered (x ∷ []) c.args.answers.now c.answer.new.self) same (one_answered c.in-Some.command c.args.answers.now c.answer.new.self (c.answer.ensures.table some) (c.answer.ensures.replies some) (c.answer.ensures.left some))

pub returns-in_default : goal.returns-in_default
returns-in_default c command held some =
    let row = held.3 in
    let is = c.command.ensures.right held.0 held.1 held.2 command row.there row.stands row.words row.spelled in
    absurd (none_some command (sym c.in_default.is ∙ is))
