-- Words of a fence and of an answer, by how many they are.
use Rattle.std.proofs.Common.{◌≡◌, ℕ, ◌<◌, List, [], ◌∷◌, length, take, Bor, None, Some, refl, sym, ap, ◌∙◌, arith}
use Rattle.std.specs.declared.option.Option.{Option}
use Rattle.mu_events.proofs.Sides.{said}
use Rattle.mu_events.specs.Events.{answer_of, answer_of_many, fence_of, of_four, owner_of, state_of}
use Rattle.mu_text.specs.Numbers.{of_32}

-- a fence has at least three words
pub fence_of-few : (words : List (Bor (List ℕ))) → length words < 3 → fence_of (said words) ≡ None
fence_of-few [] few = refl
fence_of-few (a ∷ []) few = refl
fence_of-few (a ∷ b ∷ []) few = refl
fence_of-few (a ∷ b ∷ c ∷ rest) few = absurd (omega (arith, few))

of_four-none : {A B C D E : Type 0} (make : A → B → C → D → E) (a : Option A) (b : Option B) (c : Option C) → of_four make a b c None ≡ None
of_four-none make None b c = refl
of_four-none make (Some a) None c = refl
of_four-none make (Some a) (Some b) None = refl
of_four-none make (Some a) (Some b) (Some c) = refl

-- a fence has at most five words, so the first fourteen tell it
pub fence_of-first : (words : List (List ℕ)) → fence_of (take 14 words) ≡ fence_of words
fence_of-first [] = refl
fence_of-first (a ∷ []) = refl
fence_of-first (a ∷ b ∷ []) = refl
fence_of-first (a ∷ b ∷ c ∷ []) = refl
fence_of-first (a ∷ b ∷ c ∷ d ∷ []) = refl
fence_of-first (a ∷ b ∷ c ∷ d ∷ e ∷ []) = refl
fence_of-first (a ∷ b ∷ c ∷ d ∷ e ∷ f ∷ rest) = of_four-none _ (owner_of a) (of_32 b) (state_of c) ∙ sym (of_four-none _ (owner_of a) (of_32 b) (state_of c))

-- an answer that has two words or more is read as one of many words
pub answer_of-more : (text : List (List ℕ)) (word : List ℕ) (words : List (List ℕ)) → text ≡ word ∷ words → 0 < length words → answer_of_many word words ≡ answer_of text
answer_of-more text word [] e some = absurd (omega (arith, some))
answer_of-more text word (next ∷ words) e some = ap answer_of (sym e)
