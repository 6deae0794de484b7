use Rattle.std.proofs.Common.{rules, List, ◌∷◌, Some, ◌≤◌, drop, length, length-set, sym, ap, subst, ◌∙◌}
use Rattle.std.proofs.lemmas.Option.{slice_get-get_or}
use Rattle.mu_regions.specs.Stands.{HoldsEach}
use Rattle.mu_regions.specs.declared.region.Region.{Region}
use Rattle.mu_regions.proofs.Each.{each_kept, each_taken, written_back}
use Rattle.mu_regions.proofs.regions.Regions.take.Goals as goal

pub returns-then-is_first : goal.returns-then-is_first
returns-then-is_first c k past short near stands =
    let same = c.deref_mut.ensures.value in
    let long = c.take_at_each.auto.regions in
    let back = written_back c.args.self.now.regions.len c.take_at_each.new.regions (drop (length c.take_at_each.new.regions) c.args.self.now.regions.items) (long ∙ c.deref_mut.ensures.len) in
    let before = subst (λ (regions : List Region). HoldsEach k past regions) (sym same) stands.each in
    record {
      ring = stands.ring;
      few = stands.few;
      count = ap length back ∙ (long ∙ (ap length same ∙ stands.count));
      each = subst (λ (regions : List Region). HoldsEach k (c.args.event.now ∷ past) regions) (sym back) (c.take_at_each.ensures k past short near before);
    }

pub returns-in-Some : goal.returns-in-Some
returns-in-Some c k past short near stands =
    let regions = c.args.self.now.regions.items in
    let at = c.from-at.result in
    let there = slice_get-get_or regions at c.in-Some.region.now c.in-Some.ensures.item.3.0 ∙ ap Some (sym c.in-Some.ensures.value) in
    record {
      ring = stands.ring;
      few = stands.few;
      count = length-set regions at c.take.new.self ∙ stands.count;
      each = each_taken k past c.args.event.now regions at c.in-Some.region.now c.take.new.self (c.from-at.ensures ∙ c.region_read.ensures) (sym c.is_first.ensures ∙ c.if-is_first.false) there (λ was. c.take.ensures k at past short near was) stands.each;
    }

pub returns-in_default : goal.returns-in_default
returns-in_default c k past short near stands =
    let regions = c.args.self.now.regions.items in
    record {
      ring = stands.ring;
      few = stands.few;
      count = stands.count;
      each = each_kept k past c.args.event.now regions (sym c.is_first.ensures ∙ c.if-is_first.false) (subst (λ at. length regions ≤ at) (c.from-at.ensures ∙ c.region_read.ensures) (search rules)) stands.each;
    }
