-- made, own, held, allowed, answered: an access that was made; those of one process; what a word
-- holds after them; what a process may do by what it has found; and that each was so, and was told
-- what its word held.
use Rattle.std.specs.Prelude.{Bool, List, [], ◌∷◌, false, if◌then◌else◌, nat_le, suc, true, zero, ℕ, ◌%◌, ◌&&◌, ◌*◌, ◌+◌, ◌-◌, ◌/◌, ◌<◌, ◌==◌, ◌||◌, ◌≡◌}
use Rattle.mu_words.specs.declared.verbs.Move.{Move}
use Rattle.lone_words.specs.Memory.{left_by}
use Rattle.mu_inbox.specs.declared.access.Cell.{Cell}
use Rattle.mu_inbox.specs.declared.access.Verb.{Verb}

-- an access that was made: by which process, for which verb, and the word that it was told
pub record Made : Type 0 where
  pub by : ℕ
  pub verb : Verb
  pub word : ℕ

-- what stands at the place of row j of writer r, and what it says of them; 0 is a free place, and 1
-- a closed one
abbrev pub reference : ℕ → ℕ → ℕ
reference r j = 256 * j + 256 + r

abbrev pub writer_in : ℕ → ℕ
writer_in word = word % 256

abbrev pub row_in : ℕ → ℕ
row_in word = word / 256 - 1

abbrev pub is_reference : ℕ → Bool
is_reference word = nat_le 256 word

-- the word that a verb of r is about
abbrev pub cell_of : ℕ → Verb → Cell
cell_of r (Verb.Look p) = Cell.Place p
cell_of r (Verb.Write j k x) = Cell.Word r j k
cell_of r (Verb.Put p j) = Cell.Place p
cell_of r (Verb.Close p) = Cell.Place p
cell_of r (Verb.Read w j k) = Cell.Word w j k

-- what it does there
abbrev pub step_of : ℕ → Verb → Move
step_of r (Verb.Look p) = Move.Load
step_of r (Verb.Write j k x) = Move.Store x
step_of r (Verb.Put p j) = Move.Exchange 0 (reference r j)
step_of r (Verb.Close p) = Move.Exchange 0 1
step_of r (Verb.Read w j k) = Move.Load

-- a store is told nothing
abbrev pub stores : Verb → Bool
stores (Verb.Write j k x) = true
stores verb = false

-- the two words are one
abbrev pub is_same_cell : Cell → Cell → Bool
is_same_cell (Cell.Place p) (Cell.Place q) = p == q
is_same_cell (Cell.Word r j k) (Cell.Word w i l) = (r == w) && ((j == i) && (k == l))
is_same_cell a b = false

-- what a word holds after the accesses, the newest of which is the first; at first all hold 0
abbrev pub held : List Made → Cell → ℕ
held [] cell = 0
held (m ∷ past) cell =
    if is_same_cell cell (cell_of m.by m.verb) then left_by (step_of m.by m.verb) (held past cell)
    else held past cell

-- the accesses of r
abbrev pub own_of : ℕ → List Made → List Made
own_of r [] = []
own_of r (m ∷ past) = if r == m.by then m ∷ own_of r past else own_of r past

-- the verb is about place p
abbrev pub is_about : ℕ → Verb → Bool
is_about p (Verb.Look q) = p == q
is_about p (Verb.Put q j) = p == q
is_about p (Verb.Close q) = p == q
is_about p verb = false

-- one of them found at place p a word that passes the test
abbrev pub has_found : ℕ → (ℕ → Bool) → List Made → Bool
has_found p test [] = false
has_found p test (m ∷ own) = (is_about p m.verb && test m.word) || has_found p test own

-- all before place p are known to be filled
abbrev pub has_passed : ℕ → List Made → Bool
has_passed zero own = true
has_passed (suc p) own = has_found p is_reference own

-- the verb puts row j at place p; at any
abbrev pub puts_at : ℕ → ℕ → Verb → Bool
puts_at p j (Verb.Put q i) = (p == q) && (j == i)
puts_at p j verb = false

abbrev pub puts : ℕ → Verb → Bool
puts j (Verb.Put q i) = j == i
puts j verb = false

-- row j was put, if only in vain
abbrev pub has_put : ℕ → List Made → Bool
has_put j [] = false
has_put j (m ∷ own) = puts j m.verb || has_put j own

-- row j was put at place p, and the place was free
abbrev pub has_taken : ℕ → ℕ → List Made → Bool
has_taken p j [] = false
has_taken p j (m ∷ own) = (puts_at p j m.verb && (m.word == 0)) || has_taken p j own

-- word k of row j as it was written last
abbrev pub written_by : ℕ → ℕ → Verb → ℕ → ℕ
written_by j k (Verb.Write i l x) before = if (j == i) && (k == l) then x else before
written_by j k verb before = before

abbrev pub written : ℕ → ℕ → List Made → ℕ
written j k [] = 0
written j k (m ∷ own) = written_by j k m.verb (written j k own)

-- a row isn't written any more once it was put; it is put behind what is known to be filled, and
-- behind all rows of its writer that were taken; and a list is closed behind what is known to be
-- filled
pub record MayPut (r p j : ℕ) (own : List Made) : Type 0 where
  pub writer : r < 256
  pub passed : has_passed p own ≡ true
  pub last : (q i : ℕ) → has_taken q i own ≡ true → i < j

abbrev pub Allowed : ℕ → List Made → Verb → Type 0
Allowed r own (Verb.Write j k x) = has_put j own ≡ false
Allowed r own (Verb.Put p j) = MayPut r p j own
Allowed r own (Verb.Close p) = has_passed p own ≡ true
Allowed r own verb = Unit {0}

-- the process might do so by what it had found, and was told what the word held, unless it stores
pub record IsAnsweredOnce (past : List Made) (m : Made) : Type 0 where
  pub allowed : Allowed m.by (own_of m.by past) m.verb
  pub found : stores m.verb ≡ false → m.word ≡ held past (cell_of m.by m.verb)

-- so was each of the accesses
abbrev pub AreAnswered : List Made → Type 0
AreAnswered [] = Unit {0}
AreAnswered (m ∷ past) = AreAnswered past × IsAnsweredOnce past m
