-- words stay: words that stand for a list, and what a replica keeps of them, do so with more rows
-- at the end too.
use Rattle.std.specs.Prelude.{List, ℕ}
use Rattle.mu_model.specs.declared.config.Config.{Config}
use Rattle.mu_model.specs.declared.config.Row.{Row}
use Rattle.mu_model.specs.declared.event.Event.{Event}
use Rattle.mu_model.specs.Growing.{with_more}
use Rattle.mu_words.specs.Finding.{sights}
use Rattle.mu_words.specs.Founds.{FoundIs}
use Rattle.mu_words.specs.Stands.{Stands}
use Rattle.mu_words.specs.declared.found.Found.{Found}
use Rattle.mu_words.specs.declared.layout.Layout.{Layout}

-- the words, in any layout
abbrev pub WordsStay : Type 0
WordsStay =
    (c : Config) (more : List Row) (l : Layout) (events : List Event) (words : ℕ → ℕ)
    → Stands c l events words → Stands (with_more c more) l events words

-- what a replica keeps of them
abbrev pub FoundsStay : Type 0
FoundsStay =
    (c : Config) (more : List Row) (r : ℕ) (f : Found) (mine past : List Event)
    → FoundIs c r f mine (sights c r past)
    → FoundIs (with_more c more) r f mine (sights (with_more c more) r past)
