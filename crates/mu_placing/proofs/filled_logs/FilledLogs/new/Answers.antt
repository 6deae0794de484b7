use Rattle.std.proofs.Common.{rules, [], arith, subst, sym, ◌∙◌, ◌≡◌}
use Rattle.mu_placing.specs.FilledLogs.{HoldsCoverage}
use Rattle.mu_model.proofs.Lists.{each_pushed}
use Rattle.mu_placing.proofs.filled_logs.FilledLogs.new.Goals as goal

pub loop-id-preserved : goal.loop-id-preserved
loop-id-preserved c = record {
  count = search (rules, c.push_reserved.ensures.items, c.loop-id.invariant.count);
  room = search rules;
  each = λ r.
      let last = subst (λ p. HoldsCoverage c.args.config.now r p [] c.in_ok-new.field-0) (sym c.loop-id.invariant.count) (c.in_ok-new.ensures r) in
      rw c.push_reserved.ensures.items (each_pushed (λ p region. HoldsCoverage c.args.config.now r p [] region) c.loop-id.regions.items c.in_ok-new.field-0 (c.loop-id.invariant.each r) last);
}

pub returns-clause-stands : goal.returns-clause-stands
returns-clause-stands c r =
    let ended : c.loop-id.id ≡ 7 = omega (arith, c.loop-id-test.false, c.loop-id.auto.id-end) in
    record { count = c.loop-id.invariant.count ∙ ended; each = c.loop-id.invariant.each r }
