-- kept words: what a fabric of words keeps.
use Rattle.std.specs.Prelude.{List, Some, if◌then◌else◌, length, nat_lt, slice_index, slice_set, ℕ, ◌*◌, ◌+◌, ◌≡◌}
use Rattle.std.specs.List.{slice_get}
use Rattle.mu_model.specs.declared.config.Config.{Config}
use Rattle.mu_model.specs.declared.event.Answer.{Answer}
use Rattle.mu_model.specs.declared.event.Event.{Event}
use Rattle.mu_model.specs.declared.event.Verb.{Verb}
use Rattle.mu_model.specs.Contents.{IsConfig}
use Rattle.mu_model.specs.Histories.{history, part}
use Rattle.mu_model.specs.Legal.{IsLegal}
use Rattle.mu_words.specs.declared.found.Found.{Found}
use Rattle.mu_words.specs.declared.layout.Layout.{Layout}
use Rattle.mu_words.specs.declared.layout.Name.{Name}
use Rattle.mu_words.specs.Finding.{expected, sights}
use Rattle.mu_words.specs.Founds.{FoundIs, IsPrepared, Notes}
use Rattle.mu_words.specs.Places.{IsLayoutOf, IsName, place_of, word_count}
use Rattle.mu_words.specs.Stands.{Stands}
use Rattle.mu_words.specs.Verbs.{answer_from, name_at, word_after}

-- what each replica keeps stands for its own events and the words that its loads found
abbrev pub HoldsFounds : Config → List Event → List Found → Type 0
HoldsFounds c past founds =
    (r : ℕ) (f : Found) → slice_get founds r ≡ Some f
    → FoundIs c r f (part r past) (sights c r past)

-- of the first i regions the fence has its first word, and every other word is 0
abbrev pub first_below : ℕ → Name → ℕ
first_below i (Name.Fence p) = if nat_lt p i then 14336 else 0
first_below i _ = 0

-- under each name stands such a word
pub record HoldsFirst (l : Layout) (i : ℕ) (words : List ℕ) : Type 0 where
  pub all_words : length words ≡ word_count l
  pub each : (n : Name) → IsName l n → slice_index words (place_of l n) ≡ first_below i n

-- the list is legal, there is room for just the budgets of all replicas, and the words and what is
-- kept of them stand for the list
pub record IsWordsKept (config : Config) (events : List Event) (room : ℕ) (layout : Layout)
    (words : List ℕ) (founds : List Found) : Type 0 where
  pub given : IsConfig config
  pub laid_out : IsLayoutOf config layout
  pub legal : IsLegal config events
  pub room_left : length events + room ≡ config.replicas * config.budget
  pub all_words : length words ≡ word_count layout
  pub stands : Stands config layout events (slice_index words)
  pub all_founds : length founds ≡ config.replicas
  pub holds : HoldsFounds config (history events) founds

-- the place of the word on which r makes the step, by what it keeps
abbrev pub place_at : Layout → ℕ → Found → Verb → ℕ
place_at l r f v = place_of l (name_at l.ring r f.close_target v)

-- what a step of r makes of one word and of what r keeps: it answers by the word that it finds and
-- expects the word that r kept, if the kept words stand for r's events
pub record IsMade (l : Layout) (r : ℕ) (v : Verb) (words : List ℕ) (found : Found) (answer : Answer)
    (words_after : List ℕ) (found_after : Found) : Type 0 where
  pub answered :
      (c : Config) (mine : List Event) (seen : List (Event × ℕ)) → FoundIs c r found mine seen
      → IsPrepared c mine v
      → answer
      ≡ answer_from l.ring v (expected c r mine seen v) (slice_index words (place_at l r found v))
  pub written :
      (c : Config) (mine : List Event) (seen : List (Event × ℕ)) → FoundIs c r found mine seen
      → IsPrepared c mine v
      → words_after
      ≡ slice_set words (place_at l r found v)
      (word_after l.ring v (expected c r mine seen v)
      (slice_index words (place_at l r found v)))
  pub noted : Notes r v answer (slice_index words (place_at l r found v)) found found_after
