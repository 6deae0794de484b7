use Rattle.std.proofs.Common.{arith, ◌∙◌, ap, subst, sym, take}
use Rattle.mu_model.specs.Knowledge.{applied}
use Rattle.mu_node.specs.Answers.{HoldsAnswers}
use Rattle.mu_node.proofs.Answering.{hold_more, none_within, room_left, take_more, take_whole}
use Rattle.mu_node.proofs.answers.apply_ready.Goals as goal

pub loop-ready-preserved : goal.loop-ready-preserved
loop-ready-preserved c = record {
  stands = λ k r mine held. c.applied.ensures.stands k r mine (c.loop-ready.invariant.stands k r mine held);
  config = c.applied.ensures.config ∙ c.loop-ready.invariant.config;
  answers = λ k r mine commands good possible reads are held told.
      let h = c.loop-ready.follow.progress.handed in
      let v = c.in-Some.ready.value in
      let stands = c.loop-ready.invariant.stands k r mine held in
      let entry = c.in-Some.ensures.entry k r mine stands in
      let so_far = c.loop-ready.invariant.answers k r mine commands good possible reads are held told in
      let answered = c.answer_entry.ensures k r mine commands h good possible reads are stands entry.0 entry.1 (room_left k r h v mine commands c.loop-ready.answers good possible entry.0 so_far) in
      let next = hold_more k commands (take h (applied k r mine)) v c.loop-ready.answers c.answer_entry.new.answers so_far answered in
      subst (λ l. HoldsAnswers k commands l c.answer_entry.new.answers) (sym (ap (λ n. take n (applied k r mine)) c.applied.ensures.one ∙ take_more h (applied k r mine) v entry.0)) next;
}

pub returns-clause-all : goal.returns-clause-all
returns-clause-all c k r mine held =
    let stands = c.loop-ready.invariant.stands k r mine held in
    let none = c.in_default.ensures.entry k r mine stands in
    let high = none_within (applied k r mine) c.loop-ready.follow.progress.handed none in
    let within = stands.progress.handed in
    omega (arith, high, within)

pub returns-clause-answers : goal.returns-clause-answers
returns-clause-answers c k r mine commands good possible reads are held told =
    let stands = c.loop-ready.invariant.stands k r mine held in
    let none = c.in_default.ensures.entry k r mine stands in
    let high = none_within (applied k r mine) c.loop-ready.follow.progress.handed none in
    subst (λ l. HoldsAnswers k commands l c.loop-ready.answers) (take_whole c.loop-ready.follow.progress.handed (applied k r mine) high)
    (c.loop-ready.invariant.answers k r mine commands good possible reads are held told)
