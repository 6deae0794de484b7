-- The last event of a possible part is answered by a legal history.
use Rattle.std.proofs.Common.{◌≡◌, ℕ, sym, subst}
use Rattle.mu_model.specs.declared.event.Answer.{Answer}
use Rattle.mu_model.specs.Answers.{answer_of}
use Rattle.mu_agree.proofs.Possible.{at_event}
use Rattle.mu_port.specs.Causes.{HasCauses}
use Rattle.mu_port.proofs.Reasons.{has_causes}
use Rattle.shared_fabric.specs.Answering.{PossibleAreAnswered}

pub possible_are_answered_law : PossibleAreAnswered
possible_are_answered_law c r mine e p =
    let s = at_event c r mine e p in
    let answer : e.answer ≡ answer_of c r s.older e.verb = subst (λ (q : ℕ). e.answer ≡ answer_of c q s.older e.verb) s.own s.follows.answer in
    record { past = s.older; legal = s.legal; is = s.part_is; answer = answer; causes = subst (λ (a : Answer). HasCauses c r s.older e.verb a) (sym answer) (has_causes c r s.older e.verb) }
