-- The words and the rule at the start.
use Rattle.std.proofs.Common.{◌≡◌, ◌≢◌, ℕ, zero, suc, ◌+◌, ◌<◌, ◌==◌, Bool, true, false, cond, List, [], ◌∷◌, length, set, get_or, slice_index, Some, refl, sym, ap, subst, ◌∙◌, eqb-true, length-set, arith}
use Rattle.std.specs.Prelude.{nat_lt}
use Rattle.std.proofs.lemmas.Bool.{eqb-false, ltb-true, lt-ltb}
use Rattle.std.proofs.lemmas.List.{get_or-set_other, get_or-set_same}
use mathlib.Core.Option as opt
use mathlib.Core.Option.{some-injective, some-ne-none}
use lib.ListN.{get_elem?}
use Rattle.atomic_table.specs.Table.{opening}
use Rattle.mu_model.specs.declared.config.Config.{Config}
use Rattle.mu_model.specs.Contents.{IsConfig, row_count}
use Rattle.mu_model.proofs.Basics.{same_some}
use Rattle.mu_words.specs.declared.layout.Layout.{Layout}
use Rattle.mu_words.specs.declared.layout.Name.{Name}
use Rattle.mu_words.specs.Places.{IsLayoutOf, IsName, place_of, word_count}
use Rattle.mu_words.specs.Stands.{first_word}
use Rattle.mu_words.proofs.Stand.{first_words_law}
use Rattle.mu_words.proofs.Places.{places_differ_law, places_inside_law}
use Rattle.shared_steps.specs.declared.rule.Entry.{Entry}
use Rattle.shared_steps.specs.declared.rule.View.{View}
use Rattle.shared_steps.specs.Opening.{AreWrittenBelow, first_below}
use Rattle.shared_steps.specs.Rule.{Fits, FitsEntry, Holds, Shows, layout_of, opening_view}
use Rattle.shared_steps.proofs.Entries.{entry_empty}

pub begins : (c : Config) (words : List ℕ) → IsConfig c → Shows c [] words → Holds c (opening words [] (opening_view c))
begins c words is shows = record { events = []; owner = λ r. Some 0; is_config = is; legal = tt; shows = shows; idle = λ q none. refl; fits = fits }
  where
    root : Fits c [] (λ r. Some 0) 0 (opening_view c)
    root = record {
      configured = λ k h. sym (same_some c k h);
      entries = λ r e h. subst (λ (x : Entry). FitsEntry c [] (λ q. Some 0) 0 r x) (sym (entry_empty c.replicas r e h)) record { owned = refl; is_part = refl; is_seen = refl };
    }

    fits : (id : ℕ) (v : View) → get_elem? (opening_view c ∷ []) id ≡ opt.some v → Fits c [] (λ r. Some 0) id v
    fits zero v h = subst (λ (u : View). Fits c [] (λ r. Some 0) 0 u) (some-injective (opening_view c) v h) root
    fits (suc id) v h = absurd (some-ne-none v (sym h))

-- there is a word
pub some_word : (c : Config) (count : ℕ) → IsConfig c → count ≡ word_count (layout_of c) → 0 < count
some_word c count is same = let inside = places_inside_law (layout_of c) (Name.Fence 0) is.replicas.0 in omega (arith, same, inside)

same_test : (p q k : ℕ) → p ≢ q → nat_lt p (q + 1) ≡ nat_lt p q
same_test p q k ne = go (nat_lt p q) refl (nat_lt p (q + 1)) refl
  where
    go : (t : Bool) → nat_lt p q ≡ t → (u : Bool) → nat_lt p (q + 1) ≡ u → u ≡ t
    go true k true m = refl
    go false k false m = refl
    go true k false m = let less = ltb-true p q k in let more = lt-ltb p (q + 1) (omega arith) in sym m ∙ more
    go false k true m = let less = ltb-true p (q + 1) m in let more = lt-ltb p q (omega (arith, ne)) in sym more ∙ k

-- the fences below one more region
below_other : (n : Name) (p : ℕ) → n ≢ Name.Fence p → first_below p n ≡ first_below (p + 1) n
below_other (Name.Fence q) p ne = ap (λ b. cond b 14336 0) (sym (same_test q p 0 (λ same. ne (ap Name.Fence same))))
below_other n p ne = refl

pub fence_written : (l : Layout) (p w : ℕ) (words : List ℕ) → p < l.replicas → w ≡ 14336 → AreWrittenBelow l p words → AreWrittenBelow l (p + 1) (set words (place_of l (Name.Fence p)) w)
fence_written l p w words inside is old = record { count = length-set words (place_of l (Name.Fence p)) w ∙ old.count; each = each }
  where
    below : place_of l (Name.Fence p) < length words
    below = let k = places_inside_law l (Name.Fence p) inside in omega (arith, k, old.count)

    each : (n : Name) → IsName l n → slice_index (set words (place_of l (Name.Fence p)) w) (place_of l n) ≡ first_below (p + 1) n
    each n h = go (place_of l n == place_of l (Name.Fence p)) refl
      where
        go : (t : Bool) → (place_of l n == place_of l (Name.Fence p)) ≡ t → slice_index (set words (place_of l (Name.Fence p)) w) (place_of l n) ≡ first_below (p + 1) n
        go true k =
            let at = eqb-true (place_of l n) (place_of l (Name.Fence p)) k in
            let same = places_differ_law l n (Name.Fence p) h inside at in
            ap (λ i. get_or (set words (place_of l (Name.Fence p)) w) i 0) at
            ∙ (get_or-set_same words (place_of l (Name.Fence p)) w 0 below ∙ (is ∙ (sym (ap (λ b. cond b 14336 0) (lt-ltb p (p + 1) (omega arith))) ∙ ap (first_below (p + 1)) (sym same))))
        go false k =
            let ne = eqb-false (place_of l n) (place_of l (Name.Fence p)) k in
            get_or-set_other words (place_of l (Name.Fence p)) (place_of l n) w 0 ne ∙ (old.each n h ∙ below_other n p (λ same. ne (ap (place_of l) same)))

all_below : (l : Layout) (n : Name) → IsName l n → first_below l.replicas n ≡ first_word n
all_below l (Name.Fence p) h = ap (λ b. cond b 14336 0) (lt-ltb p l.replicas h)
all_below l n h = refl

pub layout_same : (c : Config) (l : Layout) → IsLayoutOf c l → l.rows ≡ row_count c → l ≡ layout_of c
layout_same c l f rows = λ i. record { replicas = f.replicas i; ring = f.ring i; rows = rows i }

-- once all fences are written the words stand for no event
pub opened : (c : Config) (words : List ℕ) → AreWrittenBelow (layout_of c) c.replicas words → Shows c [] words
opened c words w = record { count = w.count; stands = λ n h. w.each n h ∙ (all_below (layout_of c) n h ∙ sym (first_words_law c n)) }
