-- one access more: the list after a process made the access that was under way.
use Rattle.std.specs.Prelude.{List, Some, [], false, ℕ, ◌<◌, ◌∷◌, ◌≡◌, ◌≢◌}
use Rattle.mu_inbox.specs.declared.access.Shape.{Shape}
use Rattle.mu_inbox.specs.declared.access.Verb.{Verb}
use Rattle.mu_inbox.specs.declared.inbox.Inbox.{Inbox}
use Rattle.mu_inbox.specs.Entries.{place_word}
use Rattle.mu_inbox.specs.Memory.{AreAnswered, Made, cell_of, held, own_of, stores}
use Rattle.mu_inbox.specs.Standing.{StandsForInbox, is_stray, made_with}

-- each access was answered, with this one; it is the newest of its process, and those of the others
-- are what they were
pub record GoesOnWith (made : List Made) (x : Inbox) (verb : Verb) (word : ℕ) : Type 0 where
  pub answered : AreAnswered (made_with x verb word ∷ made)
  pub own :
      own_of x.id (made_with x verb word ∷ made) ≡ made_with x verb word ∷ own_of x.id made
  pub others : (q : ℕ) → q ≢ x.id → own_of q (made_with x verb word ∷ made) ≡ own_of q made

-- so it is if the accesses before were answered, the value stands for those of its process, and it
-- is told the word that was held at the access under way, unless it stores
abbrev pub AccessesGoOn : Type 0
AccessesGoOn =
    (made : List Made) (x : Inbox) (verb : Verb) (word : ℕ) → AreAnswered made
    → StandsForInbox (own_of x.id made) x → x.due ≡ Some verb
    → (stores verb ≡ false → word ≡ held made (cell_of x.id verb)) → GoesOnWith made x verb word

-- each row that is put is one that there may be
abbrev pub PutsIn : Shape → ℕ → Verb → Type 0
PutsIn s r (Verb.Put p j) = (r < s.writers) × (j < s.room)
PutsIn s r verb = Unit {0}

abbrev pub AllPutIn : Shape → List Made → Type 0
AllPutIn s [] = Unit {0}
AllPutIn s (m ∷ past) = AllPutIn s past × PutsIn s m.by m.verb

-- then no place ever holds a word that a process refuses; and what a process has under way is so
pub record WordsMayStand : Type 0 where
  pub stand :
      (s : Shape) (made : List Made) (p : ℕ) → AreAnswered made → AllPutIn s made
      → is_stray s (Verb.Look p) (place_word made p) ≡ false
  pub puts :
      (own : List Made) (x : Inbox) (verb : Verb) → StandsForInbox own x → x.due ≡ Some verb
      → PutsIn x.shape x.id verb
