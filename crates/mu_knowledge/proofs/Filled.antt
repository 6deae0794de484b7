-- Which positions one event shows to be filled.
use Rattle.std.proofs.Common.{◌≡◌, ℕ, ◌+◌, ◌<◌, ◌≤◌, Bool, true, false, cond, ◌==◌, ◌&&◌, ◌||◌, List, ◌∷◌, length, refl, sym, ◌∙◌, ap, arith, Some, None, subst, eqb-true, max, true≢false, replicate}
use Rattle.mu_model.proofs.Lists.{copies_fail}
use Rattle.std.proofs.Math.Bool.{and-false}
use Rattle.std.specs.Prelude.{nat_le, nat_lt}
use Rattle.std.specs.declared.option.Option.{Option}
use Rattle.std.specs.List.{slice_get}
use Rattle.std.proofs.lemmas.Bool.{eqb-false, le-ltb, leb-false, leb-true, lt-ltb, ltb-false, ltb-true, ne_eqb}
use Rattle.std.proofs.lemmas.Option.{slice_get_past}
use Rattle.mu_model.specs.declared.config.Config.{Config}
use Rattle.mu_model.specs.declared.event.Answer.{Answer}
use Rattle.mu_model.specs.declared.event.Event.{Event}
use Rattle.mu_model.specs.declared.event.Verb.{Verb}
use Rattle.mu_model.specs.Allowed.{Needs}
use Rattle.mu_model.specs.Contents.{row_count}
use Rattle.mu_model.specs.Histories.{all_below, has, max_with}
use Rattle.mu_model.specs.Knowledge.{fills, fuo_read, grown, is_accepted_by_all, is_filled, is_value, known, lands_entry}
use Rattle.mu_model.specs.Leaderships.{leadership}
use Rattle.mu_model.specs.Parts.{IsPossible}
use Rattle.mu_model.specs.Room.{reserve}
use Rattle.mu_model.proofs.Scans.{all_at, each_all}
use Rattle.mu_agree.proofs.Possible.{parts_shorten_law}
use Rattle.mu_knowledge.specs.FilledLog.{filled_spot, is_at, is_below, StandsForFilledLog}
use Rattle.mu_knowledge.specs.KnownLog.{is_set}
use Rattle.mu_model.proofs.Basics.{same_number}
use Rattle.mu_knowledge.specs.declared.filled_log.FilledLog.{FilledLog}

-- a step at another position than the next teaches nothing
not_grown : (c : Config) (r j : ℕ) (mine now : List Event) (o : Option ℕ) → o ≡ None → known c r now ≡ grown (known c r mine) o → (length (known c r mine) == j) && (length (known c r now) == j + 1) ≡ false
not_grown c r j mine now o nothing is = go (length (known c r mine) == j) refl
  where
    same : length (known c r now) ≡ length (known c r mine)
    same = ap length is ∙ ap (λ x. length (grown (known c r mine) x)) nothing

    go : (t : Bool) → (length (known c r mine) == j) ≡ t → (t && (length (known c r now) == j + 1)) ≡ false
    go true at = let here = eqb-true (length (known c r mine)) j at in ne_eqb (length (known c r now)) (j + 1) (λ e. omega (arith, same, here, e))
    go false at = refl

no_second : (a b d : Bool) → a && b ≡ false → a && (b && d) ≡ false
no_second true b d none = rw none refl
no_second false b d none = refl

-- what a put or a look shows of one position, if it shows the position i or nothing
spot_here : (i : ℕ) (t : Bool) → t ≡ is_at (cond t (Some i) None) i
spot_here i true = sym (same_number i)
spot_here i false = refl

spot_other : (i j : ℕ) (t : Bool) → (i == j) ≡ false → false ≡ is_at (cond t (Some i) None) j
spot_other i j true other = sym other
spot_other i j false other = refl

-- a put shows its own position only
put_fills : (c : Config) (r p j by q i b v : ℕ) (mine : List Event) → fills c r p j mine by (Verb.PutSlot q i b v) Answer.Done (record { by = by; verb = Verb.PutSlot q i b v; answer = Answer.Done } ∷ mine)
    ≡ is_at (filled_spot c r p mine by (Verb.PutSlot q i b v) Answer.Done (record { by = by; verb = Verb.PutSlot q i b v; answer = Answer.Done } ∷ mine)) j
put_fills c r p j by q i b v mine = go (by == r) refl (i == j) refl
  where
    now : List Event
    now = record { by = by; verb = Verb.PutSlot q i b v; answer = Answer.Done } ∷ mine

    spot : Bool
    spot = ((q == p) && is_value (slice_get (known c r mine) i) v) || ((length (known c r mine) == i) && ((length (known c r now) == i + 1) && has (lands_entry r p i b v) (leadership r now)))

    go : (t : Bool) → (by == r) ≡ t → (u : Bool) → (i == j) ≡ u
        → (t && (((q == p) && (u && is_value (slice_get (known c r mine) j) v)) || ((length (known c r mine) == j) && ((length (known c r now) == j + 1) && has (lands_entry r p j b v) (leadership r now)))))
        ≡ is_at (cond (t && spot) (Some i) None) j
    go true own true here = subst (λ k. (((q == p) && is_value (slice_get (known c r mine) k) v) || ((length (known c r mine) == k) && ((length (known c r now) == k + 1) && has (lands_entry r p k b v) (leadership r now)))) ≡ is_at (cond spot (Some i) None) k) (eqb-true i j here) (spot_here i spot)
    go true own false other = rw (and-false (q == p), no_second (length (known c r mine) == j) (length (known c r now) == j + 1) (has (lands_entry r p j b v) (leadership r now)) (still (length (known c r mine) == j) refl)) (spot_other i j spot other)
      where
        still : (t : Bool) → (length (known c r mine) == j) ≡ t → t && (length (known c r now) == j + 1) ≡ false
        still false at = refl
        still true at =
            let there = eqb-true (length (known c r mine)) j at in
            let unmoved : (i == length (known c r mine)) ≡ false = ne_eqb i (length (known c r mine)) (λ e. eqb-false i j other (omega (arith, e, there))) in
            let none : cond ((by == r) && ((i == length (known c r mine)) && is_accepted_by_all c r now i b v)) (Some v) None ≡ None = rw (own, unmoved) refl in
            sym (ap (λ x. x && (length (known c r now) == j + 1)) at) ∙ not_grown c r j mine now _ none refl
    go false own u here = refl

-- a look shows its own position only
look_fills : (c : Config) (r p j by q i b v : ℕ) (mine : List Event) → fills c r p j mine by (Verb.Look q i) (Answer.Entry b v) (record { by = by; verb = Verb.Look q i; answer = Answer.Entry b v } ∷ mine)
    ≡ is_at (filled_spot c r p mine by (Verb.Look q i) (Answer.Entry b v) (record { by = by; verb = Verb.Look q i; answer = Answer.Entry b v } ∷ mine)) j
look_fills c r p j by q i b v mine = go (by == r) (p == r) (q == r) (i == j) refl
  where
    now : List Event
    now = record { by = by; verb = Verb.Look q i; answer = Answer.Entry b v } ∷ mine

    spot : Bool
    spot = (length (known c r mine) == i) && (length (known c r now) == i + 1)

    go : (t u x y : Bool) → (i == j) ≡ y → (t && (u && (x && (y && ((length (known c r mine) == j) && (length (known c r now) == j + 1)))))) ≡ is_at (cond (t && (u && (x && spot))) (Some i) None) j
    go true true true true here = subst (λ k. ((length (known c r mine) == k) && (length (known c r now) == k + 1)) ≡ is_at (cond spot (Some i) None) k) (eqb-true i j here) (spot_here i spot)
    go true true true false other = spot_other i j spot other
    go true true false y here = refl
    go true false x y here = refl
    go false u x y here = refl

-- a FUO shows all positions below it
fuo_fills : (r p j by q x : ℕ) → ((by == r) && ((q == p) && nat_lt j x)) ≡ (is_below (fuo_read r p by (Verb.Fuo q) (Answer.Number x)) j || false)
fuo_fills r p j by q x = go (by == r) (q == p)
  where
    or_false : (t : Bool) → t ≡ (t || false)
    or_false true = refl
    or_false false = refl

    go : (t u : Bool) → (t && (u && nat_lt j x)) ≡ (is_below (cond (t && u) (Some x) None) j || false)
    go true true = or_false (nat_lt j x)
    go true false = refl
    go false u = refl

-- what one event fills: what is below a FUO that it reads, and the position that it shows or puts
pub fills_by : (c : Config) (r p j by : ℕ) (verb : Verb) (answer : Answer) (mine : List Event) → fills c r p j mine by verb answer (record { by = by; verb = verb; answer = answer } ∷ mine)
    ≡ (is_below (fuo_read r p by verb answer) j || is_at (filled_spot c r p mine by verb answer (record { by = by; verb = verb; answer = answer } ∷ mine)) j)
fills_by c r p j by (Verb.Fuo q) (Answer.Number x) mine = fuo_fills r p j by q x
fills_by c r p j by (Verb.PutSlot q i b v) Answer.Done mine = put_fills c r p j by q i b v mine
fills_by c r p j by (Verb.Look q i) (Answer.Entry b v) mine = look_fills c r p j by q i b v mine
fills_by c r p j by verb answer mine = refl

-- what a step shows is in range
spot_by : (c : Config) (r p j by : ℕ) (verb : Verb) (answer : Answer) (mine now : List Event) → Needs c r mine verb → is_at (filled_spot c r p mine by verb answer now) j ≡ true → j ≤ row_count c + reserve c
spot_by c r p j by (Verb.PutSlot q i b v) Answer.Done mine now needs at = go _ at
  where
    go : (t : Bool) → is_at (cond t (Some i) None) j ≡ true → j ≤ row_count c + reserve c
    go true at = let here = eqb-true i j at in let low = needs.1.0 in omega (arith, here, low)
    go false at = cc
spot_by c r p j by (Verb.Look q i) (Answer.Entry b v) mine now needs at = go _ at
  where
    go : (t : Bool) → is_at (cond t (Some i) None) j ≡ true → j ≤ row_count c + reserve c
    go true at = let here = eqb-true i j at in let low = needs.1.0 in omega (arith, here, low)
    go false at = cc
spot_by c r p j by verb answer mine now needs at = cc

-- the position that the last event of a possible part fills is in range
pub spot_in_range : (c : Config) (r p j : ℕ) (e : Event) (mine : List Event) → IsPossible c r (e ∷ mine) → is_at (filled_spot c r p mine e.by e.verb e.answer (e ∷ mine)) j ≡ true → j ≤ row_count c + reserve c
spot_in_range c r p j e mine possible at = spot_by c r p j e.by e.verb e.answer mine (e ∷ mine) (parts_shorten_law c r mine e possible).allowed.may at

-- a position is below the greater of two numbers if it is below one of them
pub below_max : (o : Option ℕ) (x j : ℕ) → nat_lt j (max_with o x) ≡ (is_below o j || nat_lt j x)
below_max None x j = refl
below_max (Some y) x j = go (nat_lt j y) refl (nat_lt j x) refl
  where
    go : (t : Bool) → nat_lt j y ≡ t → (u : Bool) → nat_lt j x ≡ u → nat_lt j (max y x) ≡ (t || u)
    go true a u b = let low = ltb-true j y a in lt-ltb j (max y x) (omega arith)
    go false a true b = let low = ltb-true j x b in lt-ltb j (max y x) (omega arith)
    go false a false b = let first = ltb-false j y a in let second = ltb-false j x b in le-ltb j (max y x) (omega arith)

regroup : (a b x y : Bool) → ((a || b) || (x || y)) ≡ ((a || x) || (b || y))
regroup true b x y = refl
regroup false true true y = refl
regroup false true false y = refl
regroup false false true y = refl
regroup false false false y = refl

-- what is filled after the event, once its spot was marked and the pointer raised and moved on
pub filled_step : (c : Config) (r p from to : ℕ) (e : Event) (mine : List Event) (old new : List Bool) → IsPossible c r (e ∷ mine) → length old ≡ row_count c + reserve c + 1 → length new ≡ length old
    → ((j : ℕ) → is_filled c r p mine j ≡ (nat_lt j from || is_set (slice_get old j)))
    → ((j : ℕ) → j < length old → is_set (slice_get new j) ≡ (is_at (filled_spot c r p mine e.by e.verb e.answer (e ∷ mine)) j || is_set (slice_get old j)))
    → ((j : ℕ) → (nat_lt j to || is_set (slice_get new j)) ≡ (nat_lt j (max_with (fuo_read r p e.by e.verb e.answer) from) || is_set (slice_get new j)))
    → (j : ℕ) → is_filled c r p (e ∷ mine) j ≡ (nat_lt j to || is_set (slice_get new j))
filled_step c r p from to e mine old new possible room long before marked moved j =
    ap (λ x. fills c r p j mine e.by e.verb e.answer (e ∷ mine) || x) (before j)
    ∙ ap (λ x. x || (nat_lt j from || is_set (slice_get old j))) (fills_by c r p j e.by e.verb e.answer mine)
    ∙ regroup (is_below (fuo_read r p e.by e.verb e.answer) j) (is_at spot j) (nat_lt j from) (is_set (slice_get old j))
    ∙ ap (λ x. x || (is_at spot j || is_set (slice_get old j))) (sym (below_max (fuo_read r p e.by e.verb e.answer) from j))
    ∙ ap (λ x. nat_lt j (max_with (fuo_read r p e.by e.verb e.answer) from) || x) (sym (go (nat_lt j (length old)) refl))
    ∙ sym (moved j)
  where
    spot : Option ℕ
    spot = filled_spot c r p mine e.by e.verb e.answer (e ∷ mine)

    beyond : (t : Bool) → length old ≤ j → is_at spot j ≡ t → t ≡ false
    beyond true high at = let low = spot_in_range c r p j e mine possible at in absurd (omega arith)
    beyond false high at = refl

    go : (t : Bool) → nat_lt j (length old) ≡ t → is_set (slice_get new j) ≡ (is_at spot j || is_set (slice_get old j))
    go true is = marked j (ltb-true j (length old) is)
    go false is =
        let high : length old ≤ j = ltb-false j (length old) is in
        rw (slice_get_past old j high, slice_get_past new j (omega arith), beyond (is_at spot j) high refl) refl

-- all positions below n are filled if n is no greater than the first that isn't
pub filled_upto : (test : ℕ → Bool) (first n : ℕ) → ((j : ℕ) → j < first → test j ≡ true) → test first ≡ false → nat_le n first ≡ all_below n test
filled_upto test first n below next = go (nat_le n first) refl (all_below n test) refl
  where
    go : (t : Bool) → nat_le n first ≡ t → (u : Bool) → all_below n test ≡ u → t ≡ u
    go true low true all = refl
    go true low false all = let near = leb-true n first low in sym (each_all n test (λ j small. below j (omega arith))) ∙ all
    go false high true all = let far = leb-false n first high in sym (sym (all_at n test all first (omega arith)) ∙ next)
    go false high false all = refl

-- before any event no position is filled
pub none_filled : (n j : ℕ) → false ≡ (nat_lt j 0 || is_set (slice_get (replicate n false) j))
none_filled n j = sym (ap (λ x. x || is_set (slice_get (replicate n false) j)) (le-ltb j 0 (omega arith)) ∙ copies_fail is_set n j false refl refl)

-- of three tests the first two were made at once
pub third_added : (a b x t l : Bool) → t ≡ (a && b) → t ≡ true → l ≡ x → l ≡ (a && (b && x))
third_added true true x t l is on last = last
third_added true false x t l is on last = absurd (true≢false (sym on ∙ is))
third_added false b x t l is on last = absurd (true≢false (sym on ∙ is))

-- of three tests the first two were not made at once
pub third_left : (a b x t : Bool) → t ≡ (a && b) → t ≡ false → false ≡ (a && (b && x))
third_left true true x t is off = absurd (true≢false (sym is ∙ off))
third_left true false x t is off = refl
third_left false b x t is off = refl

-- what is filled once its spot was marked and the pointer raised and moved on
pub log_step : (c : Config) (r p : ℕ) (e : Event) (mine : List Event) (old new : FilledLog) (marks : List Bool) (read spot : Option ℕ) → IsPossible c r (e ∷ mine) → StandsForFilledLog c r p mine old
    → new.filled.items ≡ marks → length marks ≡ length old.filled.items
    → read ≡ fuo_read r p e.by e.verb e.answer → spot ≡ filled_spot c r p mine e.by e.verb e.answer (e ∷ mine)
    → ((j : ℕ) → j < length old.filled.items → is_set (slice_get marks j) ≡ (is_at spot j || is_set (slice_get old.filled.items j)))
    → ((j : ℕ) → (nat_lt j new.filled_to || is_set (slice_get marks j)) ≡ (nat_lt j (max_with read old.filled_to) || is_set (slice_get marks j)))
    → is_set (slice_get marks new.filled_to) ≡ false
    → StandsForFilledLog c r p (e ∷ mine) new
log_step c r p e mine old new marks read spot possible held is long reads shows marked moved next =
    let marked_now = subst (λ o. (j : ℕ) → j < length old.filled.items → is_set (slice_get marks j) ≡ (is_at o j || is_set (slice_get old.filled.items j))) shows marked in
    let moved_now = subst (λ o. (j : ℕ) → (nat_lt j new.filled_to || is_set (slice_get marks j)) ≡ (nat_lt j (max_with o old.filled_to) || is_set (slice_get marks j))) reads moved in
    record {
      room = ap length is ∙ long ∙ held.room;
      filled = λ j. filled_step c r p old.filled_to new.filled_to e mine old.filled.items marks possible held.room long held.filled marked_now moved_now j ∙ ap (λ l. nat_lt j new.filled_to || is_set (slice_get l j)) (sym is);
      next = ap (λ l. is_set (slice_get l new.filled_to)) is ∙ next;
    }
