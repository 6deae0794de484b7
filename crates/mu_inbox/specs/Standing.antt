-- stands for (inbox), due, next, came: the value of a process stands for the accesses that it made;
-- the access under way; what an access brought.
use Rattle.std.specs.Prelude.{Bool, List, None, Some, false, length, nat_le, nat_lt, not, slice_index, slice_set, true, ℕ, ◌&&◌, ◌+◌, ◌<◌, ◌==◌, ◌||◌, ◌≡◌, ◌≢◌, ◌≤◌, ◌∷◌}
use Rattle.std.specs.declared.option.Option.{Option}
use Rattle.mu_model.specs.declared.config.Row.{Row}
use Rattle.mu_inbox.specs.declared.access.Access.{Access}
use Rattle.mu_inbox.specs.declared.access.Shape.{Shape}
use Rattle.mu_inbox.specs.declared.access.Verb.{Verb}
use Rattle.mu_inbox.specs.declared.taking.Came.{Came}
use Rattle.mu_inbox.specs.declared.inbox.Inbox.{Inbox}
use Rattle.mu_inbox.specs.declared.inbox.Offer.{Offer}
use Rattle.mu_inbox.specs.declared.inbox.Reading.{Reading}
use Rattle.mu_inbox.specs.Entries.{IsRead, read_at}
use Rattle.mu_inbox.specs.Memory.{Allowed, Made, cell_of, has_found, has_passed, has_put, has_taken, is_reference, reference, row_in, step_of, writer_in, written}
use Rattle.mu_inbox.specs.Shapes.{IsCell, index_of}

-- the process found this row at place p, and has read so many of its words
pub record IsReading (s : Shape) (p : ℕ) (own : List Made) (x : Reading) : Type 0 where
  pub found : has_found p (λ n. n == reference x.writer x.row) own ≡ true
  pub more : x.done < 12
  pub twelve : length x.words.words ≡ 12
  pub words :
      (k : ℕ) → k < x.done
      → read_at p (reference x.writer x.row) k own ≡ Some (slice_index x.words.words k)
  pub writer : x.writer < s.writers
  pub few : x.writer < 256
  pub row : x.row < s.room
  pub place : p < s.room

abbrev pub StandsForReading : Shape → ℕ → List Made → Option Reading → Type 0
StandsForReading s p own None = Unit {0}
StandsForReading s p own (Some x) = IsReading s p own x

-- so many words of row j were written, and it was not put before all were
pub record IsOffered (s : Shape) (j : ℕ) (own : List Made) (x : Offer) : Type 0 where
  pub few : x.done ≤ 12
  pub words : (k : ℕ) → k < x.done → written j k own ≡ slice_index x.row.words k
  pub fresh : x.done < 12 → has_put j own ≡ false
  pub inside : j < s.room

abbrev pub StandsForOffer : Shape → ℕ → List Made → Option Offer → Type 0
StandsForOffer s j own None = has_put j own ≡ false
StandsForOffer s j own (Some x) = IsOffered s j own x

-- the next word of the row that is offered
abbrev pub IsNextWord : Option Offer → ℕ → ℕ → Type 0
IsNextWord None k word = ⊥
IsNextWord (Some x) k word = (k ≡ x.done) × (k < 12) × (word ≡ slice_index x.row.words k)

-- all its words are written
abbrev pub IsWritten : Option Offer → Type 0
IsWritten None = ⊥
IsWritten (Some x) = x.done ≡ 12

-- the next word of the row that is read
abbrev pub IsNextRead : Option Reading → ℕ → ℕ → ℕ → Type 0
IsNextRead None w j k = ⊥
IsNextRead (Some x) w j k = (w ≡ x.writer) × (j ≡ x.row) × (k ≡ x.done)

-- what the verb is about is what the value is at
abbrev pub Fits : Inbox → Verb → Type 0
Fits x (Verb.Look p) = (p ≡ x.place) × (x.reading ≡ None) × (p < x.shape.room)
Fits x (Verb.Write j k word) = (j ≡ x.taken) × IsNextWord x.offer k word
Fits x (Verb.Put p j) =
    (p ≡ x.place) × (x.reading ≡ None) × (p < x.shape.room) × (j ≡ x.taken) × IsWritten x.offer
Fits x (Verb.Close p) = (p ≡ x.place) × (x.reading ≡ None) × (p < x.shape.room)
Fits x (Verb.Read w j k) = IsNextRead x.reading w j k

-- it is the next, and the process may do it
pub record IsDue (own : List Made) (x : Inbox) (verb : Verb) : Type 0 where
  pub allowed : Allowed x.id own verb
  pub fits : Fits x verb
  pub cell : IsCell x.shape (cell_of x.id verb)

abbrev pub StandsForDue : List Made → Inbox → Option Verb → Type 0
StandsForDue own x None = Unit {0}
StandsForDue own x (Some verb) = IsDue own x verb

-- the value stands for the accesses of its process, newest first
pub record StandsForInbox (own : List Made) (x : Inbox) : Type 0 where
  pub writer : x.id < x.shape.writers
  pub few : x.id < 256
  pub room : x.shape.room < 65536
  pub passed : has_passed x.place own ≡ true
  pub reading : StandsForReading x.shape x.place own x.reading
  pub last : (q i : ℕ) → has_taken q i own ≡ true → i < x.taken
  pub later : (i : ℕ) → x.taken < i → has_put i own ≡ false
  pub offer : StandsForOffer x.shape x.taken own x.offer
  pub due : StandsForDue own x x.due

-- nothing more comes: all places are read, or the list was found closed
abbrev pub is_done : Inbox → Bool
is_done x = x.closed || nat_le x.shape.room x.place

-- nothing more is offered
abbrev pub is_over : Inbox → Bool
is_over x = is_done x || nat_le x.shape.room x.taken

-- the value with this row offered; with this under way; closing
abbrev pub offering : Row → Inbox → Inbox
offering row x = record x { offer = Some (record { row = row; done = 0 }) }

abbrev pub with_due : Option Verb → Inbox → Inbox
with_due due x = record x { due = due }

abbrev pub closing : Inbox → Inbox
closing x = record x { closes = true }

-- the access of a verb
pub record IsAccess (x : Inbox) (verb : Verb) (access : Access) : Type 0 where
  pub index : access.index ≡ index_of x.shape (cell_of x.id verb)
  pub step : access.step ≡ step_of x.id verb

-- the access under way is that of the verb; there is none only if nothing more comes
abbrev pub IsNext : Inbox → Option Verb → Option Access → Type 0
IsNext x None None = is_done x ≡ true
IsNext x (Some verb) (Some access) = IsAccess x verb access
IsNext x due access = ⊥

-- the access of x with the word that it found
abbrev pub made_with : Inbox → Verb → ℕ → Made
made_with x verb word = record { by = x.id; verb = verb; word = word }

-- this stands for a row that there may be
abbrev pub is_row_of : Shape → ℕ → Bool
is_row_of s word =
    is_reference word && (nat_lt (writer_in word) s.writers && nat_lt (row_in word) s.room)

-- no list leaves the word where the verb finds it
abbrev pub is_stray : Shape → Verb → ℕ → Bool
is_stray s (Verb.Write j k x) word = false
is_stray s (Verb.Read w j k) word = false
is_stray s verb word = not ((word == 0) || ((word == 1) || is_row_of s word))

-- the words of the row that was offered are those of row j
abbrev pub WroteOffer : ℕ → List Made → Option Offer → Type 0
WroteOffer j own None = ⊥
WroteOffer j own (Some x) = (k : ℕ) → k < 12 → written j k own ≡ slice_index x.row.words k

-- the row was taken at place p
pub record HasTaken (own : List Made) (x : Inbox) (p : ℕ) : Type 0 where
  pub place : p ≡ x.place
  pub taken : has_taken p x.taken own ≡ true
  pub wrote : WroteOffer x.taken own x.offer

-- what the newest of these accesses brought
abbrev pub HasCome : List Made → Inbox → Inbox → Came → Type 0
HasCome own x after Came.Nothing = after.place ≡ x.place
HasCome own x after Came.Free =
    (after.place ≡ x.place) × (has_found x.place (λ n. n == 0) own ≡ true)
HasCome own x after (Came.Row row) = (after.place ≡ x.place + 1) × IsRead own x.place row.words
HasCome own x after (Came.Taken p) =
    (after.place ≡ x.place) × (after.offer ≡ None) × HasTaken own x p
HasCome own x after Came.Closed = (after.place ≡ x.place) × (after.closed ≡ true)

-- then the value stands for the accesses with this one, and what came is told
pub record TakesVerb (own : List Made) (x : Inbox) (verb : Verb) (word : ℕ) (after : Inbox)
    (what : Came) : Type 0 where
  pub stands : StandsForInbox (made_with x verb word ∷ own) after
  pub came : HasCome (made_with x verb word ∷ own) x after what
  pub id : after.id ≡ x.id
  pub shape : after.shape ≡ x.shape
  pub free : after.due ≡ None

abbrev pub TakesWord : List Made → Inbox → Option Verb → ℕ → Inbox → Came → Type 0
TakesWord own x None word after came = ⊥
TakesWord own x (Some verb) word after came = TakesVerb own x verb word after came

-- which verb it is
abbrev pub IsReadVerb : Verb → Type 0
IsReadVerb (Verb.Read w j k) = Unit {0}
IsReadVerb verb = ⊥

abbrev pub IsWriteVerb : Verb → Type 0
IsWriteVerb (Verb.Write j k x) = Unit {0}
IsWriteVerb verb = ⊥

abbrev pub IsPutVerb : Verb → Type 0
IsPutVerb (Verb.Put p j) = Unit {0}
IsPutVerb verb = ⊥

-- it is about a place, at which no row was put by it
abbrev pub Keeps : Verb → ℕ → Type 0
Keeps (Verb.Look p) word = Unit {0}
Keeps (Verb.Put p j) word = word ≢ 0
Keeps (Verb.Close p) word = Unit {0}
Keeps verb word = ⊥

-- the row that the word stands for, before any of its words is read
pub record IsNew (s : Shape) (word : ℕ) (x : Reading) : Type 0 where
  pub is : reference x.writer x.row ≡ word
  pub writer : x.writer < s.writers
  pub few : x.writer < 256
  pub row : x.row < s.room
  pub none : x.done ≡ 0
  pub twelve : length x.words.words ≡ 12

-- one of its words more is read
pub record IsLonger (x : Reading) (word : ℕ) (after : Reading) : Type 0 where
  pub writer : after.writer ≡ x.writer
  pub row : after.row ≡ x.row
  pub done : after.done ≡ x.done + 1
  pub words : after.words.words ≡ slice_set x.words.words x.done word
