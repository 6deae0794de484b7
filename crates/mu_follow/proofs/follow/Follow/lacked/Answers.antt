use Rattle.std.proofs.Common.{◌≡◌, ◌∙◌, Some, ap, arith, sym}
use Rattle.mu_follow.specs.CatchingUp.{lacked_word_of}
use Rattle.mu_follow.specs.Due.{row_under_way}
use Rattle.mu_follow.proofs.Due.{row_there}
use Rattle.mu_follow.proofs.follow.Follow.lacked.Goals as goal

pub returns-in-Some : goal.returns-in-Some
returns-in-Some c k r mine good possible held =
    let under : row_under_way mine ≡ Some c.in-Some.row = sym held.progress.row ∙ c.in-Some.is in
    let there = row_there k r mine c.in-Some.row possible under in
    let few = good.replicas.1 in
    c.lacked_word.ensures k r mine (omega (arith, there.0, few)) there.1 held.rows ∙ sym (ap (lacked_word_of r mine) under)
