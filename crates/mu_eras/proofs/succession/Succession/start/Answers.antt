use Rattle.std.proofs.Common.{◌∙◌, ◌+◌, ap, arith, length, refl, sym}
use Rattle.std.proofs.lemmas.List.{length-replicate}
use Rattle.mu_engine.specs.Live.{Live, free}
use Rattle.mu_eras.proofs.Lasting.{keeps_none}
use Rattle.mu_eras.proofs.succession.Succession.start.Goals as goal

pub returns-clause-inside : goal.returns-clause-inside
returns-clause-inside c =
    let live = c.in_ok-present.ensures.live in
    let limits = c.requires in
    let few = limits.room in
    record {
      inside = c.in_ok-present.ensures.inside;
      limits = limits;
      replicas = sym (ap (λ (l : Live). length l.holds) live ∙ length-replicate c.args.shape.replicas free);
      room = (let left = ap (λ (l : Live). length l.job.commands + l.room) live in omega (arith, left));
      space = c.in_ok-present.ensures.space;
      space_for_last = omega (arith, c.in_ok-last.ensures.capacity, c.from.ensures);
      numbers = omega (arith, few);
    }

pub returns-clause-holds : goal.returns-clause-holds
returns-clause-holds c = record {
  present = c.in_ok-present.ensures.holds;
  whole = tt;
  count = refl;
  ended = refl;
  last = keeps_none c.in_ok-last.last.items c.in_ok-last.ensures.items;
}
