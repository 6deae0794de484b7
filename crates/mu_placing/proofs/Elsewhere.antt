-- An event at another region changes nothing of what was looked at and put at one.
use Rattle.std.proofs.Common.{◌≡◌, ℕ, ◌==◌, Bool, true, false, List, ◌∷◌, refl, sym, ap, ◌∙◌, subst}
use Rattle.std.specs.declared.option.Option.{Option}
use Rattle.std.proofs.lemmas.Bool.{true≢false}
use Rattle.mu_model.specs.declared.config.Config.{Config}
use Rattle.mu_model.specs.declared.event.Answer.{Answer}
use Rattle.mu_model.specs.declared.event.Event.{Event}
use Rattle.mu_model.specs.declared.event.Verb.{Verb}
use Rattle.mu_model.specs.Histories.{has}
use Rattle.mu_model.specs.Leaderships.{leadership}
use Rattle.mu_model.specs.Placing.{fuo_read_or_raised, is_within_ring}
use Rattle.mu_model.proofs.Basics.{same_number}
use Rattle.mu_placing.specs.Looks.{HoldsPuts, HoldsReach, StandsForRegionLooks, enter_time, is_at, member_time, put_time}
use Rattle.mu_placing.specs.declared.region_looks.RegionLooks.{RegionLooks}
use Rattle.mu_placing.proofs.RegionLooks.{made}
use Rattle.mu_placing.proofs.Tables.{looks_stay}

member_elsewhere : (r p by : ℕ) (verb : Verb) (answer : Answer) (mine : List Event) → is_at p verb ≡ false → member_time r p (made by verb answer mine) ≡ member_time r p mine
member_elsewhere r p by (Verb.Ask q) answer mine other = absurd (true≢false other)
member_elsewhere r p by (Verb.PutMin q b) Answer.Done mine other = go (by == r) refl
  where
    go : (t : Bool) → (by == r) ≡ t → member_time r p (made by (Verb.PutMin q b) Answer.Done mine) ≡ member_time r p mine
    go true own = rw (own, other) refl
    go false own = rw own refl
member_elsewhere r p by verb answer mine other = refl

enter_elsewhere : (r p by : ℕ) (verb : Verb) (answer : Answer) (mine : List Event) → is_at p verb ≡ false → enter_time r p (made by verb answer mine) ≡ enter_time r p mine
enter_elsewhere r p by (Verb.Enter q t) answer mine other = go (by == r) refl
  where
    go : (u : Bool) → (by == r) ≡ u → enter_time r p (made by (Verb.Enter q t) answer mine) ≡ enter_time r p mine
    go true own = rw (own, other) refl
    go false own = rw own refl
enter_elsewhere r p by verb answer mine other = refl

reach_elsewhere : (r p by : ℕ) (verb : Verb) (answer : Answer) (mine : List Event) (reach : Option ℕ) → is_at p verb ≡ false → HoldsReach r p mine reach → HoldsReach r p (made by verb answer mine) reach
reach_elsewhere r p by (Verb.Ask q) answer mine reach other held i ring = absurd (true≢false other)
reach_elsewhere r p by (Verb.Fuo q) (Answer.Number x) mine reach other held i ring = go (by == r) refl
  where
    go : (t : Bool) → (by == r) ≡ t → has (λ e. is_within_ring i ring (fuo_read_or_raised r p e.by e.verb e.answer)) (leadership r (made by (Verb.Fuo q) (Answer.Number x) mine)) ≡ is_within_ring i ring reach
    go true own = rw (own, other) (held i ring)
    go false own = rw own (held i ring)
reach_elsewhere r p by (Verb.RaiseFuo q u) answer mine reach other held i ring = go (by == r) refl
  where
    go : (t : Bool) → (by == r) ≡ t → has (λ e. is_within_ring i ring (fuo_read_or_raised r p e.by e.verb e.answer)) (leadership r (made by (Verb.RaiseFuo q u) answer mine)) ≡ is_within_ring i ring reach
    go true own = rw (own, other) (held i ring)
    go false own = rw own (held i ring)
reach_elsewhere r p by verb answer mine reach other held i ring = held i ring

puts_elsewhere : (r p ring by : ℕ) (verb : Verb) (answer : Answer) (mine : List Event) (puts : List ℕ) → is_at p verb ≡ false → HoldsPuts ring r p mine puts → HoldsPuts ring r p (made by verb answer mine) puts
puts_elsewhere r p ring by (Verb.PutSlot q j b v) answer mine puts other held s at there = held s at there ∙ go (by == r) refl
  where
    go : (t : Bool) → (by == r) ≡ t → put_time r p ring s mine ≡ put_time r p ring s (made by (Verb.PutSlot q j b v) answer mine)
    go true own = rw (own, other) refl
    go false own = rw own refl
puts_elsewhere r p ring by verb answer mine puts other held s at there = held s at there

no_look_here : (p q j : ℕ) (verb : Verb) → is_at p verb ≡ false → verb ≡ Verb.Look q j → q ≡ p → ⊥
no_look_here p q j verb other look here = true≢false (sym (subst (λ k. (q == k) ≡ true) here (same_number q)) ∙ (sym (ap (is_at p) look) ∙ other))

pub region_stays : (c : Config) (r p : ℕ) (e : Event) (mine : List Event) (state : RegionLooks) → is_at p e.verb ≡ false → StandsForRegionLooks c r p mine state → StandsForRegionLooks c r p (e ∷ mine) state
region_stays c r p e mine state other held = record {
  region = held.region;
  member_since = held.member_since ∙ sym (member_elsewhere r p e.by e.verb e.answer mine other);
  entered_at = held.entered_at ∙ sym (enter_elsewhere r p e.by e.verb e.answer mine other);
  reach = reach_elsewhere r p e.by e.verb e.answer mine state.reach other held.reach;
  places = held.places;
  puts = puts_elsewhere r p c.ring e.by e.verb e.answer mine state.puts.items other held.puts;
  positions = held.positions;
  looks = looks_stay c r p mine e state.looks.items (λ q j look own here. absurd (no_look_here p q j e.verb other look here)) held.looks;
}
