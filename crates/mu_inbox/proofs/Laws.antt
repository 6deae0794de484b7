-- The law of the list.
use Rattle.std.proofs.Common.{◌≡◌, ◌≢◌, ◌⊎◌, ℕ, ◌<◌, List, [], ◌∷◌, ◌++◌, inl, inr, length, refl, sym, ap, subst, ◌∙◌, arith, true≢false}
use Rattle.std.specs.Prelude.{slice_index}
use Rattle.std.proofs.lemmas.Bool.{cases_eq}
use Rattle.std.proofs.lemmas.List.{ext_get_or}
use Rattle.mu_inbox.specs.declared.access.Cell.{Cell}
use Rattle.mu_inbox.specs.Entries.{GoesOn, IsEntry, IsRead, ListGoesOn, OneList, place_word}
use Rattle.mu_inbox.specs.Memory.{AreAnswered, Made, held, is_reference, own_of, row_in, writer_in}
use Rattle.mu_inbox.proofs.Orders.{behind_law, in_order}
use Rattle.mu_inbox.proofs.Places.{front_law, not_zero, place_kept}
use Rattle.mu_inbox.proofs.Rows.{read_stands, row_kept, taken_by_writer, taken_stands, word_held}

first_of_twelve : 0 < 12
first_of_twelve = omega arith

read_entry : (made : List Made) → AreAnswered made → (r p : ℕ) (words : List ℕ) → IsRead (own_of r made) p words → IsEntry made p words
read_entry made answered r p words is =
    let place = (read_stands made answered r p is.word 0 (slice_index words 0) is.row (is.each 0 first_of_twelve)).place in
    record {
      filled = ap is_reference place ∙ is.row;
      twelve = is.twelve;
      each = λ k few.
          subst (λ (w : ℕ). held made (Cell.Word (writer_in w) (row_in w) k) ≡ slice_index words k) (sym place)
          (read_stands made answered r p is.word k (slice_index words k) is.row (is.each k few)).held;
    }

same_entry : (made : List Made) (p : ℕ) (a b : List ℕ) → IsEntry made p a → IsEntry made p b → a ≡ b
same_entry made p a b one other =
    ext_get_or 0 a b (one.twelve ∙ sym other.twelve)
    (λ i less. let few = below i less in sym (one.each i few) ∙ other.each i few)
  where
    below : (i : ℕ) → i < length a → i < 12
    below i less = subst (λ (n : ℕ). i < n) one.twelve less

closed_law : (made : List Made) → AreAnswered made → (p q : ℕ) → place_word made p ≡ 1 → p < q → place_word made q ≡ 0
closed_law made answered p q closed less = go (cases_eq (place_word made q) 0)
  where
    go : (place_word made q ≡ 0) ⊎ (place_word made q ≡ 0 → ⊥) → place_word made q ≡ 0
    go (inl free) = free
    go (inr full) = absurd (true≢false (sym (front_law made answered p q less full) ∙ ap is_reference closed))

pub one_list_law : OneList
one_list_law made answered = record {
  read = λ r p words is. read_entry made answered r p words is;
  same = λ p a b one other. same_entry made p a b one other;
  taken = λ r p j is. (taken_stands made answered r p j is).place;
  writer = λ p words is. record {
    taken = taken_by_writer made answered p is.filled;
    each = λ k few. sym (word_held made (writer_in (place_word made p)) (row_in (place_word made p)) k) ∙ is.each k few;
  };
  once = λ r p q j a b. (in_order made answered r p q j j a b).once refl;
  order = λ r p q j i a b. (in_order made answered r p q j i a b).order;
  front = λ p q less full. front_law made answered p q less full;
  closed = λ p q closed less. closed_law made answered p q closed less;
}

-- what was answered before more came
answered_before : (made more : List Made) → AreAnswered (more ++ made) → AreAnswered made
answered_before made [] answered = answered
answered_before made (m ∷ more) answered = answered_before made more answered.0

place_after : (made more : List Made) (p : ℕ) → place_word made p ≢ 0 → place_word (more ++ made) p ≡ place_word made p
place_after made [] p full = refl
place_after made (m ∷ more) p full =
    let before = place_after made more p full in
    place_kept (more ++ made) m p (λ e. full (sym before ∙ e)) ∙ before

entry_kept : (past : List Made) (m : Made) (p : ℕ) (words : List ℕ) → AreAnswered (m ∷ past) → IsEntry past p words → IsEntry (m ∷ past) p words
entry_kept past m p words answered is =
    let place = place_kept past m p (not_zero is_reference (place_word past p) refl is.filled) in
    record {
      filled = ap is_reference place ∙ is.filled;
      twelve = is.twelve;
      each = λ k few.
          subst (λ (w : ℕ). held (m ∷ past) (Cell.Word (writer_in w) (row_in w) k) ≡ slice_index words k) (sym place)
          (row_kept past m p k answered.0 answered.1 is.filled ∙ is.each k few);
    }

entry_after : (made more : List Made) → AreAnswered (more ++ made) → (p : ℕ) (words : List ℕ) → IsEntry made p words → IsEntry (more ++ made) p words
entry_after made [] answered p words is = is
entry_after made (m ∷ more) answered p words is = entry_kept (more ++ made) m p words answered (entry_after made more answered.0 p words is)

one_is_full : (s : ℕ) → s ≡ 1 → s ≢ 0
one_is_full s is none = omega (arith, is, none)

goes_on : (made more : List Made) → AreAnswered (more ++ made) → GoesOn made more
goes_on made more answered = record {
  place = λ p full. place_after made more p full;
  entry = λ p words is. entry_after made more answered p words is;
  closed = λ p q closed less. closed_law (more ++ made) answered p q (place_after made more p (one_is_full (place_word made p) closed) ∙ closed) less;
  behind = λ p q full free came. behind_law made (answered_before made more answered) p q full free;
}

pub list_goes_law : ListGoesOn
list_goes_law = record {
  goes = goes_on;
  readers = λ made more r q p a b answered sooner later.
      same_entry (more ++ made) p a b
      (entry_after made more answered p a (read_entry made (answered_before made more answered) r p a sooner))
      (read_entry (more ++ made) answered q p b later);
}
