use Rattle.std.proofs.Common.{◌≡◌, List, rules, sym, subst, [], refl, replicate}
use Rattle.mu_placing.specs.declared.looks.First.{First}
use Rattle.mu_placing.specs.Looks.{HoldsFirst, HoldsFirsts, StandsForRegionLooks}
use Rattle.mu_model.proofs.Lists.{all_copies, each_pushed}
use Rattle.mu_placing.proofs.looks.Looks.new.Goals as goal

pub loop-p-preserved : goal.loop-p-preserved
loop-p-preserved c = record {
  count = search (rules, c.push_reserved.ensures.items, c.loop-p.invariant.count);
  room = search rules;
  each =
      let last = subst (λ p. StandsForRegionLooks c.args.config.now c.args.r p [] c.in_ok-new.field-0) (sym c.loop-p.invariant.count) (c.in_ok-new.ensures c.args.r) in
      rw c.push_reserved.ensures.items (each_pushed (λ p looks. StandsForRegionLooks c.args.config.now c.args.r p [] looks) c.loop-p.regions.items c.in_ok-new.field-0 c.loop-p.invariant.each last);
}

pub returns-clause-stands : goal.returns-clause-stands
returns-clause-stands c =
    let blanks : c.in_ok-vec.field-0.items ≡ replicate c.positions_in.result c.new-2.result = c.in_ok-vec.ensures.items_if_clones_equal (λ y is. is) in
    record {
      replica = refl;
      time = refl;
      begun_at = refl;
      joined_at = refl;
      own_reach = λ h. refl;
      positions = search rules;
      firsts = subst (λ (xs : List First). HoldsFirsts c.args.r [] xs) (sym blanks) (all_copies (λ i first. HoldsFirst c.args.r i [] first) c.positions_in.result c.new-2.result (λ i. c.new-2.ensures c.args.r i));
      seven = search rules;
      regions = c.loop-p.invariant.each;
    }
