-- The list of words before any event.
use Rattle.std.proofs.Common.{◌≡◌, ◌≢◌, ℕ, ◌+◌, ◌*◌, ◌<◌, ◌∙◌, Bool, true, false, cond, ◌==◌, List, [], length, refl, sym, ap, arith, set, get_or, slice_index, subst, eqb-true, nat_lt}
use Rattle.std.proofs.lemmas.Bool.{eqb-false, lt-ltb}
use Rattle.std.proofs.lemmas.List.{get_or-set_other, get_or-set_same, length-set}
use Rattle.mu_model.specs.declared.config.Config.{Config}
use Rattle.mu_model.specs.declared.event.Event.{Event}
use Rattle.mu_model.specs.Contents.{IsConfig}
use Rattle.mu_words.specs.declared.found.Found.{Found}
use Rattle.mu_words.specs.declared.layout.Layout.{Layout}
use Rattle.mu_words.specs.declared.layout.Name.{Name}
use Rattle.mu_words.specs.Places.{IsLayoutOf, IsName, place_of, word_count}
use Rattle.mu_words.specs.Stands.{first_word}
use Rattle.mu_words.proofs.Places.{places_differ_law, places_inside_law}
use Rattle.mu_words.proofs.Stand.{first_words_law}
use Rattle.word_fabric.specs.Kept.{HoldsFirst, HoldsFounds, IsWordsKept, first_below}

-- each word that a name has is in the list
pub place_inside : (l : Layout) (n : Name) → IsName l n → place_of l n < word_count l
place_inside = places_inside_law

below_other : (p q : ℕ) → q ≢ p → nat_lt q p ≡ nat_lt q (p + 1)
below_other p q apart = grind (arith, apart)

below_here : (p : ℕ) → first_below (p + 1) (Name.Fence p) ≡ 14336
below_here p = rw (lt-ltb p (p + 1) (omega arith)) refl

same_below : (p : ℕ) (n : Name) → n ≢ Name.Fence p → first_below p n ≡ first_below (p + 1) n
same_below p (Name.Fence q) apart = ap (λ t. cond t 14336 0) (below_other p q (λ e. apart (ap Name.Fence e)))
same_below p n apart = refl

-- one more fence has its first word
pub first_more : (l : Layout) (p i : ℕ) (ws : List ℕ) → p < l.replicas → i ≡ place_of l (Name.Fence p) → HoldsFirst l p ws → HoldsFirst l (p + 1) (set ws i 14336)
first_more l p i ws low at was = record {
  all_words = length-set ws i 14336 ∙ was.all_words;
  each = λ n named. word n named (place_of l n == i) refl;
}
  where
    word : (n : Name) → IsName l n → (t : Bool) → (place_of l n == i) ≡ t → slice_index (set ws i 14336) (place_of l n) ≡ first_below (p + 1) n
    word n named true e =
        let here = eqb-true (place_of l n) i e in
        let inside = places_inside_law l n named in
        let is = places_differ_law l n (Name.Fence p) named low (here ∙ at) in
        ap (λ j. get_or (set ws i 14336) j 0) here ∙ get_or-set_same ws i 14336 0 (let m = was.all_words in omega (arith, here, inside, m)) ∙ sym (ap (first_below (p + 1)) is ∙ below_here p)
    word n named false e =
        let apart = eqb-false (place_of l n) i e in
        get_or-set_other ws i (place_of l n) 14336 0 apart ∙ was.each n named ∙ same_below p n (λ is. apart (ap (place_of l) is ∙ sym at))

low_below : (p i : ℕ) → p < i → first_below i (Name.Fence p) ≡ 14336
low_below p i low = rw (lt-ltb p i low) refl

all_below : (l : Layout) (i : ℕ) (n : Name) → i ≡ l.replicas → IsName l n → first_below i n ≡ first_word n
all_below l i (Name.Fence p) e named = low_below p i (omega (arith, e, named))
all_below l i n e named = refl

-- the fabric before any event
pub kept_first : (c : Config) (events : List Event) (room : ℕ) (l : Layout) (ws : List ℕ) (fs : List Found) → IsConfig c → IsLayoutOf c l → events ≡ [] → room ≡ c.replicas * c.budget
    → HoldsFirst l c.replicas ws → length fs ≡ c.replicas → HoldsFounds c [] fs → IsWordsKept c events room l ws fs
kept_first c events room l ws fs given laid none enough first count holds = subst (λ es. IsWordsKept c es room l ws fs) (sym none) (record {
  given = given;
  laid_out = laid;
  legal = tt;
  room_left = omega (arith, enough);
  all_words = first.all_words;
  stands = λ n named. first.each n named ∙ all_below l c.replicas n (sym laid.replicas) named ∙ sym (first_words_law c n);
  all_founds = count;
  holds = holds;
})
