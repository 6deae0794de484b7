use Rattle.std.proofs.Common.{◌≡◌, ℕ, List, ◌∷◌, drop, length, sym, ap, subst, ◌∙◌, arith}
use Rattle.mu_placing.specs.declared.region_looks.Look.{Look}
use Rattle.std.proofs.lemmas.List.{take_at}
use Rattle.mu_placing.specs.Looks.{HoldsEachLook, StandsForRegionLooks, HoldsPuts, HoldsReach, enter_time, member_time}
use Rattle.mu_placing.proofs.region_looks.RegionLooks.take_here.Goals as goal

pub returns : goal.returns
returns c k p mine ring at held =
    let r = c.args.r in
    let here : c.args.self.now.region ≡ p = held.region in
    let own : StandsForRegionLooks k r c.args.self.now.region mine c.args.self.now = subst (λ q. StandsForRegionLooks k r q mine c.args.self.now) (sym here) held in
    let long = held.positions in
    let looks = take_at c.note_look.new.looks (drop (length c.note_look.new.looks) c.args.self.now.looks.items) c.args.self.now.looks.len (c.note_look.auto.looks ∙ c.deref_mut.ensures.len) in
    let puts = take_at c.note_put.new.puts (drop (length c.note_put.new.puts) c.args.self.now.puts.items) c.args.self.now.puts.len (c.note_put.auto.puts ∙ c.deref_mut-2.ensures.len) in
    let same_looks = c.deref_mut.ensures.value in
    let same_puts = c.deref_mut-2.ensures.value in
    let ring_long : length c.deref_mut-2.result.now ≡ k.ring = ap length same_puts ∙ held.places in
    let puts_before : HoldsPuts (length c.deref_mut-2.result.now) r c.args.self.now.region mine c.deref_mut-2.result.now =
    subst (λ n. HoldsPuts n r c.args.self.now.region mine c.deref_mut-2.result.now) (sym ring_long) (subst (λ (xs : List ℕ). HoldsPuts k.ring r c.args.self.now.region mine xs) (sym same_puts) own.puts) in
    let puts_after : HoldsPuts k.ring r p (c.args.event.now ∷ mine) c.note_put.new.puts =
    subst (λ q. HoldsPuts k.ring r q (c.args.event.now ∷ mine) c.note_put.new.puts) here (subst (λ n. HoldsPuts n r c.args.self.now.region (c.args.event.now ∷ mine) c.note_put.new.puts) ring_long (c.note_put.ensures mine at puts_before)) in
    let looks_before : HoldsEachLook k r c.args.self.now.region mine c.deref_mut.result.now = subst (λ (xs : List Look). HoldsEachLook k r c.args.self.now.region mine xs) (sym same_looks) own.looks in
    let looks_long : length c.deref_mut.result.now ≡ length c.args.self.now.looks.items = ap length same_looks in
    let looks_after : HoldsEachLook k r p (c.args.event.now ∷ mine) c.note_look.new.looks =
    subst (λ q. HoldsEachLook k r q (c.args.event.now ∷ mine) c.note_look.new.looks) here
    (c.note_look.ensures k mine at (λ i is low. c.has_looked_before-is_good.ensures k r c.args.self.now.region i mine ring is (omega (arith, low, looks_long, long)) own) looks_before) in
    record {
      region = here;
      member_since = subst (λ q. c.member_since_after-self.result ≡ member_time r q (c.args.event.now ∷ mine)) here (c.member_since_after-self.ensures mine at own.member_since);
      entered_at = subst (λ q. c.entered_after-self.result ≡ enter_time r q (c.args.event.now ∷ mine)) here (c.entered_after-self.ensures mine at own.entered_at);
      reach = subst (λ q. HoldsReach r q (c.args.event.now ∷ mine) c.reach_after-self.result) here (c.reach_after-self.ensures mine own.reach);
      places = ap length puts ∙ (c.note_put.auto.puts ∙ (ap length same_puts ∙ held.places));
      puts = subst (λ (xs : List ℕ). HoldsPuts k.ring r p (c.args.event.now ∷ mine) xs) (sym puts) puts_after;
      positions = ap length looks ∙ (c.note_look.auto.looks ∙ (ap length same_looks ∙ held.positions));
      looks = subst (λ (xs : List Look). HoldsEachLook k r p (c.args.event.now ∷ mine) xs) (sym looks) looks_after;
    }
