use Rattle.std.proofs.Common.{rules, sym, subst, []}
use Rattle.mu_regions.specs.Stands.{Holds}
use Rattle.mu_regions.proofs.Each.{each_pushed}
use Rattle.mu_regions.proofs.regions.Regions.new.Goals as goal

pub loop-id-preserved : goal.loop-id-preserved
loop-id-preserved c = record {
  count = search (rules, c.push_reserved.ensures.items, c.loop-id.invariant.count);
  room = search rules;
  each =
      let last = subst (λ p. Holds c.args.config.now p [] c.in_ok-new.field-0) (sym c.loop-id.invariant.count) c.in_ok-new.ensures in
      rw c.push_reserved.ensures.items (each_pushed c.args.config.now [] c.loop-id.regions.items c.in_ok-new.field-0 c.loop-id.invariant.each last);
}
