use Rattle.std.proofs.Common.{◌≡◌, ◌∷◌, ◌+◌, arith, refl, subst, sym}
use Rattle.mu_judge.specs.Judges.{StandsForJudge}
use Rattle.mu_verdict.proofs.TakenEvents.{breaks, few_counted, goes_on, whole_of}
use Rattle.mu_model.specs.Histories.{history}
use Rattle.mu_outcome.specs.Breaks.{IsFault}
use Rattle.mu_verdict.proofs.line_judge.LineJudge.take_event.Goals as goal

pub returns-in-None-clause-taken : goal.returns-in-None-clause-taken
returns-in-None-clause-taken c = λ k start past held.
    let old = c.args.self.now in
    let h = history past in
    let whole = whole_of k start past old c.requires.whole held in
    let mine = subst (λ k. StandsForJudge k h old.judge) (sym held.config) whole.stands in
    let taken = subst (λ k. StandsForJudge k (c.args.event.now ∷ h) c.take.new.self) held.config (c.in-None.ensures h mine) in
    let few = few_counted k start past old held in
    let more : c.saturating_add-self.result ≡ old.events + 1 = omega (arith, c.saturating_add-self.ensures, few) in
    goes_on k start past c.args.event.now old _ c.requires.whole c.requires.whole refl refl held taken more

pub returns-in-Some-clause-taken : goal.returns-in-Some-clause-taken
returns-in-Some-clause-taken c = λ k start past held.
    let old = c.args.self.now in
    let h = history past in
    let whole = whole_of k start past old c.requires.whole held in
    let mine = subst (λ k. StandsForJudge k h old.judge) (sym held.config) whole.stands in
    let fault = c.in-Some.fault in
    breaks k start past c.args.event.now fault old _ c.requires.whole refl refl refl refl held (subst (λ k. IsFault k h c.args.event.now fault) held.config (c.in-Some.ensures h mine).1)
