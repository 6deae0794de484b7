use Rattle.std.proofs.Common.{◌≡◌, List, ℕ, refl, rules, replicate, subst, sym, []}
use Rattle.mu_placing.specs.declared.region_looks.Look.{Look}
use Rattle.mu_placing.specs.Looks.{HoldsEachLook, HoldsLook, HoldsPuts}
use Rattle.mu_model.proofs.Lists.{all_copies}
use Rattle.mu_placing.proofs.region_looks.RegionLooks.new.Goals as goal

pub returns : goal.returns
returns c r =
    let times : c.in_ok-vec.field-0.items ≡ replicate c.from.result 0 = c.in_ok-vec.ensures.items_if_clones_equal (λ y is. is) in
    let blanks : c.in_ok-vec-2.field-0.items ≡ replicate c.positions_in.result c.new.result = c.in_ok-vec-2.ensures.items_if_clones_equal (λ y is. is) in
    record {
      region = refl;
      member_since = refl;
      entered_at = refl;
      reach = λ i ring. refl;
      places = search rules;
      puts = subst (λ (xs : List ℕ). HoldsPuts c.args.config.now.ring r c.args.region [] xs) (sym times) (all_copies (λ s at. at ≡ 0) c.from.result 0 (λ s. refl));
      positions = search rules;
      looks = subst (λ (xs : List Look). HoldsEachLook c.args.config.now r c.args.region [] xs) (sym blanks) (all_copies (λ i l. HoldsLook c.args.config.now r c.args.region i [] l) c.positions_in.result c.new.result (λ i. c.new.ensures c.args.config.now r c.args.region i));
    }
