use Rattle.std.proofs.Common.{◌++◌, Ok, subst}
use Rattle.std.proofs.lemmas.Result.{err_from_is_err_and}
use Rattle.mu_verdict.proofs.ItemLines.{more_end, more_refused, more_step}
use Rattle.std.specs.Prelude.{IfSome}
use Rattle.mu_verdict.specs.Traces.{GivesItem, HasFew}
use Rattle.mu_verdict.proofs.finding.wrong_with.Goals as goal

pub returns-in_err-next_item : goal.returns-in_err-next_item
returns-in_err-next_item c = λ items.
    let held = c.loop.invariant.1 items in
    let p = err_from_is_err_and c.from_residual.result c.from_residual.ensures.1 in
    rw (p.1, p.2) (more_refused c.args.replicas c.args.rows items c.args.lines.now c.loop.lines c.next_item.new.lines c.args.flawed _ held (c.in_err-next_item.ensures.gives (items ++ held.more)))

pub returns : goal.returns
returns c = λ items.
    let held = c.loop.invariant.1 items in
    more_end c.args.replicas c.args.rows items c.args.lines.now c.loop.lines c.next_item.new.lines c.args.flawed held
    (subst (λ found. GivesItem c.args.replicas c.args.rows (items ++ held.more) c.loop.lines (Ok found) c.next_item.new.lines) c.in_default.is (c.in_ok-next_item.ensures.gives (items ++ held.more)))

pub loop-preserved : goal.loop-preserved
loop-preserved c = (
  subst (λ found. IfSome found (λ _. HasFew c.next_item.new.lines)) c.in-Some.is c.in_ok-next_item.ensures.few,
  λ items.
      let held = c.loop.invariant.1 items in
      more_step c.args.replicas c.args.rows items c.args.lines.now c.loop.lines c.next_item.new.lines c.in-Some.field-0 held
      (subst (λ found. GivesItem c.args.replicas c.args.rows (items ++ held.more) c.loop.lines (Ok found) c.next_item.new.lines) c.in-Some.is (c.in_ok-next_item.ensures.gives (items ++ held.more))),
)
