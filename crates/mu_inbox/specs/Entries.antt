-- entry, read, one list, goes on: what stands at a place; what a process has read there; that this
-- is one list for all; and that it only grows.
use Rattle.std.specs.Prelude.{Bool, List, None, Some, [], false, if◌then◌else◌, length, slice_index, true, ℕ, ◌&&◌, ◌++◌, ◌<◌, ◌==◌, ◌≡◌, ◌≢◌, ◌∷◌}
use Rattle.std.specs.declared.option.Option.{Option}
use Rattle.mu_inbox.specs.declared.access.Cell.{Cell}
use Rattle.mu_inbox.specs.declared.access.Verb.{Verb}
use Rattle.mu_inbox.specs.Memory.{AreAnswered, Made, has_found, has_taken, held, is_reference, own_of, reference, row_in, writer_in, written}

-- the word at a place
abbrev pub place_word : List Made → ℕ → ℕ
place_word made p = held made (Cell.Place p)

-- these twelve words are the row that stands at the place
pub record IsEntry (made : List Made) (p : ℕ) (words : List ℕ) : Type 0 where
  pub filled : is_reference (place_word made p) ≡ true
  pub twelve : length words ≡ 12
  pub each :
      (k : ℕ) → k < 12
      → held made (Cell.Word (writer_in (place_word made p)) (row_in (place_word made p)) k)
      ≡ slice_index words k

-- the verb reads word k of the row that this stands for
abbrev pub reads : ℕ → ℕ → Verb → Bool
reads word k (Verb.Read w j l) = (writer_in word == w) && ((row_in word == j) && (k == l))
reads word k verb = false

-- word k of that row as it was read last, after the row was found at place p
abbrev pub read_at : ℕ → ℕ → ℕ → List Made → Option ℕ
read_at p word k [] = None
read_at p word k (m ∷ own) =
    if reads word k m.verb && has_found p (λ n. n == word) own then Some m.word
    else read_at p word k own

-- the process has read these twelve words at place p
pub record IsRead (own : List Made) (p : ℕ) (words : List ℕ) : Type 0 where
  pub word : ℕ
  pub row : is_reference word ≡ true
  pub twelve : length words ≡ 12
  pub each : (k : ℕ) → k < 12 → read_at p word k own ≡ Some (slice_index words k)

-- row j of r, which stands at place p, was put there by r, as r wrote it
pub record IsOfWriter (own : List Made) (p j : ℕ) (words : List ℕ) : Type 0 where
  pub taken : has_taken p j own ≡ true
  pub each : (k : ℕ) → k < 12 → written j k own ≡ slice_index words k

-- what processes have read is what stands in the list; what a writer was told to be taken stands at
-- its place; what stands there is of its writer, as it wrote it; each row stands once, and those of
-- a writer in their order; places fill from the front; and behind a closed one nothing stands
pub record IsOneList (made : List Made) : Type 0 where
  pub read :
      (r p : ℕ) (words : List ℕ) → IsRead (own_of r made) p words → IsEntry made p words
  pub same : (p : ℕ) (a b : List ℕ) → IsEntry made p a → IsEntry made p b → a ≡ b
  pub taken :
      (r p j : ℕ) → has_taken p j (own_of r made) ≡ true → place_word made p ≡ reference r j
  pub writer :
      (p : ℕ) (words : List ℕ) → IsEntry made p words
      → IsOfWriter (own_of (writer_in (place_word made p)) made) p (row_in (place_word made p))
      words
  pub once :
      (r p q j : ℕ) → has_taken p j (own_of r made) ≡ true
      → has_taken q j (own_of r made) ≡ true → p ≡ q
  pub order :
      (r p q j i : ℕ) → has_taken p j (own_of r made) ≡ true
      → has_taken q i (own_of r made) ≡ true → j < i → p < q
  pub front :
      (p q : ℕ) → p < q → place_word made q ≢ 0 → is_reference (place_word made p) ≡ true
  pub closed : (p q : ℕ) → place_word made p ≡ 1 → p < q → place_word made q ≡ 0

-- the law
abbrev pub OneList : Type 0
OneList = (made : List Made) → AreAnswered made → IsOneList made

-- after more accesses: what stands at a place stays there, nothing comes behind a closed place, and
-- what comes stands behind all that stood in the list
pub record GoesOn (made more : List Made) : Type 0 where
  pub place : (p : ℕ) → place_word made p ≢ 0 → place_word (more ++ made) p ≡ place_word made p
  pub entry : (p : ℕ) (words : List ℕ) → IsEntry made p words → IsEntry (more ++ made) p words
  pub closed : (p q : ℕ) → place_word made p ≡ 1 → p < q → place_word (more ++ made) q ≡ 0
  pub behind :
      (p q : ℕ) → place_word made p ≢ 0 → place_word made q ≡ 0
      → place_word (more ++ made) q ≢ 0 → p < q

-- so it is; and what two processes have read of a place is the same, whenever each did
pub record ListGoesOn : Type 0 where
  pub goes : (made more : List Made) → AreAnswered (more ++ made) → GoesOn made more
  pub readers :
      (made more : List Made) (r q p : ℕ) (a b : List ℕ) → AreAnswered (more ++ made)
      → IsRead (own_of r made) p a → IsRead (own_of q (more ++ made)) p b → a ≡ b
