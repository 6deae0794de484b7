use Rattle.std.proofs.Common.{rules, ◌≡◌, List, ◌∷◌, ◌<◌, drop, length, sym, ap, subst, ◌∙◌, arith}
use Rattle.mu_model.specs.Parts.{IsPossible}
use Rattle.std.proofs.lemmas.List.{take_at}
use Rattle.mu_placing.specs.declared.region_looks.RegionLooks.{RegionLooks}
use Rattle.mu_placing.specs.declared.looks.First.{First}
use Rattle.mu_leadership.specs.Leadership.{StandsForLeadership}
use Rattle.mu_placing.specs.Looks.{HoldsEachRegion, HoldsFirsts, HoldsOwnReach, StandsForLooks, begun_time, joining_time}
use Rattle.mu_agree.proofs.Within.{is_short}
use Rattle.mu_placing.proofs.LooksKept.{placing_kept}
use Rattle.mu_placing.proofs.looks.Looks.take.Goals as goal

pub returns : goal.returns
returns c k r mine config possible leading held =
    let here : c.args.self.now.replica ≡ r = held.replica in
    let own : StandsForLooks k c.args.self.now.replica mine c.args.self.now = subst (λ q. StandsForLooks k q mine c.args.self.now) (sym here) held in
    let can : IsPossible k c.args.self.now.replica (c.args.event.now ∷ mine) = subst (λ q. IsPossible k q (c.args.event.now ∷ mine)) (sym here) possible in
    let leads : StandsForLeadership c.args.self.now.replica mine c.args.before.now = subst (λ q. StandsForLeadership q mine c.args.before.now) (sym here) leading in
    let at = held.time in
    let short = is_short k r mine c.args.event.now config possible in
    let ring : 0 < k.ring = let low = config.ring.0 in omega (arith, low) in
    let joining = c.joins-joining.ensures k mine config.replicas.1 can leads in
    let firsts = take_at c.note_first.new.firsts (drop (length c.note_first.new.firsts) c.args.self.now.firsts.items) c.args.self.now.firsts.len (c.note_first.auto.firsts ∙ c.deref_mut.ensures.len) in
    let regions = take_at c.take_at_regions.new.regions (drop (length c.take_at_regions.new.regions) c.args.self.now.regions.items) c.args.self.now.regions.len (c.take_at_regions.auto.regions ∙ c.deref_mut-2.ensures.len) in
    let same_firsts = c.deref_mut.ensures.value in
    let same_regions = c.deref_mut-2.ensures.value in
    let firsts_before : HoldsFirsts c.args.self.now.replica mine c.deref_mut.result.now = subst (λ (xs : List First). HoldsFirsts c.args.self.now.replica mine xs) (sym same_firsts) own.firsts in
    let firsts_after : HoldsFirsts r (c.args.event.now ∷ mine) c.note_first.new.firsts = subst (λ q. HoldsFirsts q (c.args.event.now ∷ mine) c.note_first.new.firsts) here (c.note_first.ensures mine at own.begun_at firsts_before) in
    let regions_before : HoldsEachRegion k c.args.self.now.replica mine c.deref_mut-2.result.now = subst (λ (xs : List RegionLooks). HoldsEachRegion k c.args.self.now.replica mine xs) (sym same_regions) own.regions in
    let regions_after : HoldsEachRegion k r (c.args.event.now ∷ mine) c.take_at_regions.new.regions = subst (λ q. HoldsEachRegion k q (c.args.event.now ∷ mine) c.take_at_regions.new.regions) here (c.take_at_regions.ensures k mine ring at regions_before) in
    record {
      replica = here;
      time = omega (arith, c.saturating_add-self.ensures, at, short);
      begun_at = subst (λ q. c.begun_after-self.result ≡ begun_time q (c.args.event.now ∷ mine)) here (c.begun_after-self.ensures mine at own.begun_at);
      joined_at = subst (λ q. c.joined_after-self.result ≡ joining_time q (c.args.event.now ∷ mine)) here (c.joined_after-self.ensures mine at joining own.joined_at);
      own_reach = subst (λ q. HoldsOwnReach q (c.args.event.now ∷ mine) c.own_reach_after-self.result) here (c.own_reach_after-self.ensures mine own.own_reach);
      positions = ap length firsts ∙ (c.note_first.auto.firsts ∙ (ap length same_firsts ∙ held.positions));
      firsts = subst (λ (xs : List First). HoldsFirsts r (c.args.event.now ∷ mine) xs) (sym firsts) firsts_after;
      seven = ap length regions ∙ (c.take_at_regions.auto.regions ∙ (ap length same_regions ∙ held.seven));
      regions = subst (λ (xs : List RegionLooks). HoldsEachRegion k r (c.args.event.now ∷ mine) xs) (sym regions) regions_after;
    }

pub returns-then-not-is_leader_verb : goal.returns-then-not-is_leader_verb
returns-then-not-is_leader_verb c k r mine config possible leading held =
    let at = held.time in
    let short = is_short k r mine c.args.event.now config possible in
    placing_kept k r c.args.event.now mine c.args.self.now c.saturating_add-self.result (search rules) (omega (arith, c.saturating_add-self.ensures, at, short)) held
