-- Tables of looks, puts and first puts after one more event.
use Rattle.std.proofs.Common.{◌≡◌, ◌≢◌, ℕ, ◌+◌, ◌<◌, ◌≤◌, ◌==◌, ◌&&◌, Bool, true, false, cond, List, ◌∷◌, length, refl, sym, ap, ◌∙◌, subst, arith, Some, None, set, inl, inr, eqb-true, get_or}
use Rattle.std.specs.Prelude.{is_some, nat_lt}
use Rattle.std.proofs.lemmas.Option.{slice_get_within}
use Rattle.std.specs.declared.option.Option.{Option}
use Rattle.std.specs.List.{slice_get}
use Rattle.mu_model.specs.declared.config.Config.{Config}
use Rattle.mu_model.specs.declared.event.Answer.{Answer}
use Rattle.mu_model.specs.declared.event.Event.{Event}
use Rattle.mu_model.specs.declared.event.Verb.{Verb}
use Rattle.mu_model.specs.Histories.{earlier_or}
use Rattle.mu_model.specs.Leaderships.{is_member}
use Rattle.mu_model.specs.Picks.{first_value, joined_since_first_put, look_answer, value_put}
use Rattle.mu_placing.specs.declared.region_looks.Look.{Look}
use Rattle.mu_placing.specs.declared.region_looks.RegionLooks.{RegionLooks}
use Rattle.mu_placing.specs.declared.looks.First.{First}
use Rattle.mu_placing.specs.Looks.{HoldsEachLook, HoldsEachRegion, HoldsFirst, HoldsFirsts, HoldsLook, StandsForRegionLooks, begun_time, joining_time}
use Rattle.mu_model.proofs.Basics.{same_number}
use Rattle.mu_model.proofs.Lists.{item_read, set_get}
use Rattle.mu_placing.proofs.RegionLooks.{look_stays, made}
use Rattle.mu_placing.proofs.Times.{is_early, joining_in_time, last_in_time, not_late}

-- a look at another position, or of another replica
pub no_look : (r p i by : ℕ) (verb : Verb) (answer : Answer) → ((q j : ℕ) → verb ≡ Verb.Look q j → by ≡ r → q ≡ p → j ≢ i) → look_answer r p i by verb answer ≡ None
no_look r p i by (Verb.Look q j) answer other = go (by == r) refl (q == p) refl (j == i) refl
  where
    go : (t : Bool) → (by == r) ≡ t → (u : Bool) → (q == p) ≡ u → (w : Bool) → (j == i) ≡ w → look_answer r p i by (Verb.Look q j) answer ≡ None
    go true own true here true there = absurd (other q j refl (eqb-true by r own) (eqb-true q p here) (eqb-true j i there))
    go true own true here false there = rw (own, here, there) refl
    go true own false here w there = rw (own, here) refl
    go false own u here w there = rw own refl
no_look r p i by verb answer other = refl

-- an event that looks at no position of the table
pub looks_stay : (c : Config) (r p : ℕ) (mine : List Event) (e : Event) (looks : List Look) → ((q j : ℕ) → e.verb ≡ Verb.Look q j → e.by ≡ r → q ≡ p → length looks ≤ j) → HoldsEachLook c r p mine looks → HoldsEachLook c r p (e ∷ mine) looks
looks_stay c r p mine e looks outside held i look there =
    look_stays c r p i e.by e.verb e.answer mine look (no_look r p i e.by e.verb e.answer (λ q j is own here same. let far = outside q j is own here in let near = slice_get_within looks i look there in absurd (omega (arith, far, near, same)))) (held i look there)

-- two looks that are the same name the same region and position
pub look_is : (p q i j : ℕ) → Verb.Look p i ≡ Verb.Look q j → (p ≡ q) × (i ≡ j)
look_is p q i j same = (cc, cc)

-- a look at position j of p
pub looks_taken : (c : Config) (r p j : ℕ) (mine : List Event) (e : Event) (looks : List Look) (held new : Look) → e.verb ≡ Verb.Look p j → slice_get looks j ≡ Some held → (HoldsLook c r p j mine held → HoldsLook c r p j (e ∷ mine) new)
    → HoldsEachLook c r p mine looks → HoldsEachLook c r p (e ∷ mine) (set looks j new)
looks_taken c r p j mine e looks was new is found step held i look there = elim (set_get looks j new i look there) [
  | inl here ↦ subst (λ k. HoldsLook c r p k (e ∷ mine) look) (sym here.0) (subst (λ l. HoldsLook c r p j (e ∷ mine) l) here.1 (step (held j was found)))
  | inr other ↦ look_stays c r p i e.by e.verb e.answer mine look (no_look r p i e.by e.verb e.answer (λ q k at own same here. other.0 (sym (let x = look_is p q j k (sym is ∙ at) in x.1 ∙ here)))) (held i look other.1)
]

-- the first put at i was made at this time, or none in the leadership
abbrev pub Put : ℕ → ℕ → List Event → First → Type 0
Put r i mine first = first_value r i mine ≡ cond (nat_lt (begun_time r mine) first.put_at) (Some first.value) None

-- a region joined since
abbrev pub Joined : ℕ → ℕ → List Event → ℕ → Type 0
Joined r i mine at = joined_since_first_put r i mine ≡ (nat_lt (begun_time r mine) at && nat_lt at (joining_time r mine))

value_stays : (r i by : ℕ) (verb : Verb) (answer : Answer) (mine : List Event) (first : First) → value_put r i by verb ≡ None → first.put_at ≤ length mine → Put r i mine first → Put r i (made by verb answer mine) first
value_stays r i by (Verb.Ask q) answer mine first none low held = by_test (by == r) refl (q == 0) refl
  where
    by_test : (t : Bool) → (by == r) ≡ t → (u : Bool) → (q == 0) ≡ u → Put r i (made by (Verb.Ask q) answer mine) first
    by_test true own true begins = rw (own, begins, not_late (length mine) first.put_at low) refl
    by_test true own false begins = rw (own, begins) held
    by_test false own u begins = rw own held
value_stays r i by (Verb.PutSlot q j b v) answer mine first none low held = rw none held
value_stays r i by verb answer mine first none low held = held

some_put : (t : Bool) (v : ℕ) (o : Option ℕ) → o ≡ cond t (Some v) None → is_some o ≡ t
some_put true v o is = rw is refl
some_put false v o is = rw is refl

joined_now : (t x : Bool) (w : Bool) → x ≡ (t && w) → cond t true x ≡ (t && true)
joined_now true x w is = refl
joined_now false x w is = is

joined_stays : (r i by : ℕ) (verb : Verb) (answer : Answer) (mine : List Event) (first : First) → first.put_at ≤ length mine → Put r i mine first → Joined r i mine first.put_at → Joined r i (made by verb answer mine) first.put_at
joined_stays r i by (Verb.Ask q) answer mine first low put held = by_test (by == r) refl (q == 0) refl
  where
    by_test : (t : Bool) → (by == r) ≡ t → (u : Bool) → (q == 0) ≡ u → Joined r i (made by (Verb.Ask q) answer mine) first.put_at
    by_test true own true begins = rw (own, begins, not_late (length mine) first.put_at low) refl
    by_test true own false begins = rw (own, begins) held
    by_test false own u begins = rw own held
joined_stays r i by (Verb.PutMin q b) Answer.Done mine first low put held = by_test (by == r) refl (is_member r q mine) refl
  where
    by_test : (t : Bool) → (by == r) ≡ t → (u : Bool) → is_member r q mine ≡ u → Joined r i (made by (Verb.PutMin q b) Answer.Done mine) first.put_at
    by_test true own true member = rw (own, member) held
    by_test true own false member =
        rw (own, member, some_put (nat_lt (begun_time r mine) first.put_at) first.value (first_value r i mine) put, is_early (length mine) first.put_at low)
        (joined_now (nat_lt (begun_time r mine) first.put_at) (joined_since_first_put r i mine) (nat_lt first.put_at (joining_time r mine)) held)
    by_test false own u member = rw own held
joined_stays r i by verb answer mine first low put held = held

-- an event that puts nothing at i
pub first_stays : (r i by : ℕ) (verb : Verb) (answer : Answer) (mine : List Event) (first : First) → value_put r i by verb ≡ None → HoldsFirst r i mine first → HoldsFirst r i (made by verb answer mine) first
first_stays r i by verb answer mine first none held = record {
  in_time = let low = held.in_time in omega (arith, low);
  value = value_stays r i by verb answer mine first none held.in_time held.value;
  joined = joined_stays r i by verb answer mine first held.in_time held.value held.joined;
}

-- a put at i, if one was made in the leadership already
pub first_kept : (r i by q j b v : ℕ) (answer : Answer) (mine : List Event) (first : First) → nat_lt (begun_time r mine) first.put_at ≡ true → HoldsFirst r i mine first → HoldsFirst r i (made by (Verb.PutSlot q j b v) answer mine) first
first_kept r i by q j b v answer mine first before held = record {
  in_time = let low = held.in_time in omega (arith, low);
  value = by_put (value_put r i by (Verb.PutSlot q j b v)) (held.value ∙ rw before refl) ∙ sym (rw before refl);
  joined = held.joined;
}
  where
    by_put : (o : Option ℕ) → first_value r i mine ≡ Some first.value → earlier_or o (first_value r i mine) ≡ Some first.value
    by_put None is = is
    by_put (Some w) is = rw is refl

-- the first put at i in the leadership
pub first_made : (r i by q j b v : ℕ) (answer : Answer) (mine : List Event) (first new : First) → (by == r) ≡ true → (j == i) ≡ true → nat_lt (begun_time r mine) first.put_at ≡ false → new.put_at ≡ length mine + 1 → new.value ≡ v
    → HoldsFirst r i mine first → HoldsFirst r i (made by (Verb.PutSlot q j b v) answer mine) new
first_made r i by q j b v answer mine first new own there before at is held = record {
  in_time = omega (arith, at);
  value = rw (own, there, held.value, before, at, is_early (length mine) (begun_time r mine) (last_in_time _ mine), is) refl;
  joined = rw (at, is_early (length mine) (begun_time r mine) (last_in_time _ mine), not_late (length mine) (joining_time r mine) (joining_in_time r mine)) (held.joined ∙ rw before refl);
}

-- a put of r at i
pub first_after_put : (r q i b v : ℕ) (mine : List Event) (e : Event) (first new : First) → e.by ≡ r → e.verb ≡ Verb.PutSlot q i b v
    → new ≡ cond (nat_lt (begun_time r mine) first.put_at) first (record { put_at = length mine + 1; value = v }) → HoldsFirst r i mine first → HoldsFirst r i (e ∷ mine) new
first_after_put r q i b v mine e first new own is same held = subst (λ w. HoldsFirst r i (made e.by w e.answer mine) new) (sym is) (by_begun (nat_lt (begun_time r mine) first.put_at) refl)
  where
    by_begun : (t : Bool) → nat_lt (begun_time r mine) first.put_at ≡ t → HoldsFirst r i (made e.by (Verb.PutSlot q i b v) e.answer mine) new
    by_begun true before =
        let kept : new ≡ first = same ∙ rw before refl in
        subst (λ f. HoldsFirst r i (made e.by (Verb.PutSlot q i b v) e.answer mine) f) (sym kept) (first_kept r i e.by q i b v e.answer mine first before held)
    by_begun false before =
        let fresh : new ≡ record { put_at = length mine + 1; value = v } = same ∙ rw before refl in
        first_made r i e.by q i b v e.answer mine first new (subst (λ q. (e.by == q) ≡ true) own (same_number e.by)) (same_number i) before (ap (λ f. f.put_at) fresh) (ap (λ f. f.value) fresh) held

-- a put elsewhere, or of another replica
pub no_put : (r i by : ℕ) (verb : Verb) → ((q j b v : ℕ) → verb ≡ Verb.PutSlot q j b v → by ≡ r → j ≢ i) → value_put r i by verb ≡ None
no_put r i by (Verb.PutSlot q j b v) other = go (by == r) refl (j == i) refl
  where
    go : (t : Bool) → (by == r) ≡ t → (u : Bool) → (j == i) ≡ u → value_put r i by (Verb.PutSlot q j b v) ≡ None
    go true own true there = absurd (other q j b v refl (eqb-true by r own) (eqb-true j i there))
    go true own false there = rw (own, there) refl
    go false own u there = rw own refl
no_put r i by verb other = refl

-- an event that puts at no position of the table
pub firsts_stay : (r : ℕ) (mine : List Event) (e : Event) (firsts : List First) → ((q j b v : ℕ) → e.verb ≡ Verb.PutSlot q j b v → e.by ≡ r → length firsts ≤ j) → HoldsFirsts r mine firsts → HoldsFirsts r (e ∷ mine) firsts
firsts_stay r mine e firsts outside held i first there =
    first_stays r i e.by e.verb e.answer mine first (no_put r i e.by e.verb (λ q j b v is own same. let far = outside q j b v is own in let near = slice_get_within firsts i first there in absurd (omega (arith, far, near, same)))) (held i first there)

-- two puts that are the same name the same position
pub put_is : (q j b v p k d w : ℕ) → Verb.PutSlot q j b v ≡ Verb.PutSlot p k d w → j ≡ k
put_is q j b v p k d w same = cc

-- a put at position j
pub firsts_put : (r q j b v : ℕ) (mine : List Event) (e : Event) (firsts : List First) (held new : First) → e.verb ≡ Verb.PutSlot q j b v → slice_get firsts j ≡ Some held → (HoldsFirst r j mine held → HoldsFirst r j (e ∷ mine) new)
    → HoldsFirsts r mine firsts → HoldsFirsts r (e ∷ mine) (set firsts j new)
firsts_put r q j b v mine e firsts was new is found step held i first there = elim (set_get firsts j new i first there) [
  | inl here ↦ subst (λ k. HoldsFirst r k (e ∷ mine) first) (sym here.0) (subst (λ l. HoldsFirst r j (e ∷ mine) l) here.1 (step (held j was found)))
  | inr other ↦ first_stays r i e.by e.verb e.answer mine first (no_put r i e.by e.verb (λ p k d w at own same. other.0 (sym (put_is q j b v p k d w (sym is ∙ at) ∙ same)))) (held i first other.1)
]

-- the region that was found at place p
pub region_found : (c : Config) (r p : ℕ) (mine : List Event) (regions items : List RegionLooks) (k : ℕ) (looks : RegionLooks) → items ≡ regions → k ≡ p → looks ≡ get_or items k looks → k < length items → HoldsEachRegion c r mine regions → StandsForRegionLooks c r p mine looks
region_found c r p mine regions items k looks same at found low each =
    subst (λ l. StandsForRegionLooks c r p mine l) (sym found)
    (item_read (λ q l. StandsForRegionLooks c r q mine l) items k p looks at (omega (arith, at, low)) (subst (λ (xs : List RegionLooks). HoldsEachRegion c r mine xs) (sym same) each))

-- each of seven regions is found
pub region_there : (p k : ℕ) (regions items : List RegionLooks) → items ≡ regions → k ≡ p → length items ≤ k → length regions ≡ 7 → p < 7 → ⊥
region_there p k regions items same at low seven small = let long : length items ≡ 7 = ap length same ∙ seven in omega (arith, long, at, low, small)
