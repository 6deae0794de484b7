use Rattle.std.proofs.Common.{◌≡◌, ◌∙◌, ◌<◌, sym, length, take, refl, subst, arith}
use Rattle.std.proofs.lemmas.List.{length-take-le}
use Rattle.mu_model.specs.Histories.{history}
use Rattle.mu_picture.specs.Rows.{AddsStep}
use Rattle.mu_picture.proofs.Filling.{adds, early_steps, fresh_steps, more_rows, same_asked}
use Rattle.mu_picture.proofs.pictures.Rows.fill.Goals as goal

pub returns-then-is_some-clause-holds : goal.returns-then-is_some-clause-holds
returns-then-is_some-clause-holds c =
    early_steps c.args.config.now c.args.script.now c.args.events.now c.args.trail.now c.args.before c.args.self.now c.requires.fresh c.requires.order c.requires.passed (sym c.is_some.ensures ∙ c.if-is_some.true)

pub loop-index-init : goal.loop-index-init
loop-index-init c =
    let rows = c.args.self.now in
    let events = c.args.events.now in
    record {
      trail = c.requires.passed.stands;
      steps = fresh_steps c.args.config.now c.args.script.now (take rows.first events) rows c.requires.fresh c.requires.order (length-take-le rows.first events (omega (arith, c.requires.order, c.requires.within)));
      asked = record { brief = refl; first = refl; asked = refl };
    }

pub loop-index-preserved : goal.loop-index-preserved
loop-index-preserved c =
    let config = c.args.config.now in
    let script = c.args.script.now in
    let events = c.args.events.now in
    let i = c.loop-index.index in
    let held = c.loop-index.invariant in
    let low : i < length events = omega (arith, c.loop-index-test.true) in
    let taken = c.in-Ok.ensures held.trail in
    record {
      trail = taken.stands;
      steps = adds config script events i c.next.new.self c.in-Ok.mark c.loop-index.self c.push.new.self low taken c.in_ok-push.ensures.asked
          (subst (λ m. AddsStep i m c.loop-index.self c.push.new.self) c.kept_mark.ensures c.in_ok-push.ensures.adds) (c.in_ok-push.ensures.rows i (more_rows (length (take i events)) i c.loop-index.self (omega (arith, length-take-le i events (omega (arith, low)))) held.steps.held)) held.steps;
      asked = same_asked c.args.self.now c.loop-index.self c.push.new.self held.asked c.in_ok-push.ensures.asked;
    }
