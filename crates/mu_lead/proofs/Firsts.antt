-- The places that follow, as the listing has them and as they are found.
use Rattle.std.proofs.Common.{◌≡◌, ℕ, ◌+◌, Bool, true, false, None, ap, refl, sym, subst, true≢false}
use Rattle.std.specs.Prelude.{List, get_or, if◌then◌else◌, not, ◌&&◌, ◌==◌}
use Rattle.std.specs.declared.option.Option.{Option}
use Rattle.mu_model.specs.declared.config.Config.{Config}
use Rattle.mu_model.specs.declared.event.Event.{Event}
use Rattle.mu_model.specs.Placing.{is_within_ring}
use Rattle.mu_lead.specs.declared.place.Place.{Place}
use Rattle.mu_lead.specs.declared.place.Then.{Then}
use Rattle.mu_lead.specs.Listing.{Tables, after_members, after_region, bring_up, bring_up_from, late_from, next_position, or_else}
use Rattle.mu_knowledge.specs.Offers.{IsFirst, first_in}
use Rattle.mu_knowledge.proofs.Firsts.{found_is}

-- the place of what was found
pub found_place : (test : ℕ → Bool) (from start n : ℕ) (o : Option ℕ) (there : ℕ → Place) (other : Place) → start ≡ from → IsFirst test start n o → or_else o there other ≡ or_else (first_in test from n) there other
found_place test from start n o there other same first = ap (λ u. or_else u there other) (found_is test from n o (subst (λ k. IsFirst test k n o) same first))

-- what comes once the members were brought up
pub late_members : (c : Config) (r : ℕ) (now : List Event) (heads : List ℕ) (on : Then) → on ≡ Then.Late → late_from c r now heads 0 ≡ after_members c r now heads on
late_members c r now heads on is = ap (after_members c r now heads) (sym is)

pub other_members : (c : Config) (r : ℕ) (now : List Event) (heads : List ℕ) (on : Then) → (on ≡ Then.Late → ⊥) → next_position c r now heads ≡ after_members c r now heads on
other_members c r now heads Then.Late not = absurd (not refl)
other_members c r now heads on not = refl

-- a region is brought up if its ring reaches, or its FUO is raised first
place_by : (t : Bool) (x y : Place) → not t ≡ true → y ≡ (if t then x else y)
place_by true x y is = absurd (true≢false (sym is))
place_by false x y is = refl

place_not : (t : Bool) (x y : Place) → not t ≡ false → x ≡ (if t then x else y)
place_not true x y is = refl
place_not false x y is = absurd (true≢false is)

pub near_place : (c : Config) (up : List ℕ) (reach : List (Option ℕ)) (p : ℕ) (on : Then) → not (c.version == 2 && not (is_within_ring (get_or up p 0) c.ring (get_or reach p None))) ≡ true → Place.LookBehind p on ≡ bring_up c up reach p on
near_place c up reach p on near = place_by (c.version == 2 && not (is_within_ring (get_or up p 0) c.ring (get_or reach p None))) (Place.WidenBehind p on) (Place.LookBehind p on) near

pub far_place : (c : Config) (up : List ℕ) (reach : List (Option ℕ)) (p : ℕ) (on : Then) → not (c.version == 2 && not (is_within_ring (get_or up p 0) c.ring (get_or reach p None))) ≡ false → Place.WidenBehind p on ≡ bring_up c up reach p on
far_place c up reach p on far = place_not (c.version == 2 && not (is_within_ring (get_or up p 0) c.ring (get_or reach p None))) (Place.WidenBehind p on) (Place.LookBehind p on) far

-- what comes after a region was brought up
pub joined_region : (c : Config) (r : ℕ) (now : List Event) (t : Tables) (p : ℕ) (on : Then) → on ≡ Then.Joined → late_from c r now t.heads (p + 1) ≡ after_region c r now t p on
joined_region c r now t p on is = ap (after_region c r now t p) (sym is)

pub other_region : (c : Config) (r : ℕ) (now : List Event) (t : Tables) (p : ℕ) (on : Then) → (on ≡ Then.Joined → ⊥) → bring_up_from c r now t (p + 1) on ≡ after_region c r now t p on
other_region c r now t p Then.Joined not = absurd (not refl)
other_region c r now t p on not = refl

-- nothing was found
pub not_found : (t r : Bool) → t ≡ not r → r ≡ not t
not_found true true is = absurd (true≢false is)
not_found true false is = refl
not_found false true is = refl
not_found false false is = absurd (true≢false (sym is))
