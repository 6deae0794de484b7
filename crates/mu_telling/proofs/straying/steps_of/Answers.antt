use Rattle.std.proofs.Common.{◌≡◌, ◌∙◌, ap, arith, length, subst, sym, take}
use Rattle.std.proofs.lemmas.List.{take_all}
use Rattle.mu_model.specs.Histories.{history, part}
use Rattle.mu_outcome.proofs.Places.{history_at_next}
use Rattle.mu_telling.proofs.straying.steps_of.Goals as goal

pub loop-index-preserved : goal.loop-index-preserved
loop-index-preserved c =
    let events = c.args.events.now in
    let i = c.loop-index.index in
    let r = c.args.replica in
    record {
      is = subst (λ h. c.count_with-count.result ≡ length (part r h)) (sym (history_at_next events i _ c.loop-index-test.true)) (c.count_with-count.ensures.counts (history (take i events)) c.loop-index.invariant.is);
      few = omega (arith, c.count_with-count.ensures.one_at_most, c.loop-index.invariant.few);
    }

pub returns : goal.returns
returns c =
    let events = c.args.events.now in
    c.loop-index.invariant.is ∙ ap (λ l. length (part c.args.replica (history l))) (take_all c.loop-index.index events c.loop-index-test.false)
