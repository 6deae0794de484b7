-- lines of readers: the number of sights of each reader and the last of them, as lines without
-- their ends.
use Rattle.std.specs.Prelude.{ℕ, ◌+◌, ◌<◌, ◌≤◌, ◌^◌, List, [], ◌∷◌, ◌++◌, length, map, drop, All, None, Some, codes}
use Rattle.std.specs.declared.option.Option.{Option}
use Rattle.std.specs.Fmt.{decimal}
use Rattle.mu_outcome.specs.declared.outcome.Outcome.{Outcome}
use Rattle.mu_outcome.specs.Outcomes.{status_of}
use Rattle.mu_report.specs.Report.{body_lines}
use Rattle.snap_reads.specs.declared.sight.Sight.{Sight}
use Rattle.snap_reads.specs.declared.watching.TheConstants.{GETS}

-- what a key held
abbrev pub held_words : Option (List ℕ) → List ℕ
held_words None = codes " none"
held_words (Some text) = codes " value " ++ text

-- a key, and what it held
abbrev pub sight_line : Sight → List ℕ
sight_line sight = sight.key ++ held_words sight.seen.value

-- how many sights a reader had, and its last ones: those after its gets alongside the writer
abbrev pub reader_lines : ℕ → List Sight → List (List ℕ)
reader_lines reader sights =
    (codes "reader " ++ decimal reader ++ codes " sights " ++ decimal (length sights))
    ∷
    map sight_line (drop GETS sights)

-- these readers, the first of them by this number
abbrev pub readers_lines : ℕ → List (List Sight) → List (List ℕ)
readers_lines reader [] = []
readers_lines reader (sights ∷ lists) =
    reader_lines reader sights ++ readers_lines (reader + 1) lists

-- the report without its last line, the readers, and the last line
abbrev pub lived_lines : Outcome → List (List Sight) → List (List ℕ)
lived_lines o lists =
    body_lines o ++ (readers_lines 0 lists ++ (codes "status " ++ decimal (status_of o)) ∷ [])

-- there are at most four readers, each with fewer than 2^32 sights
abbrev pub HasShortSights : List (List Sight) → Type 0
HasShortSights lists = (length lists ≤ 4) × All (λ sights. length sights < 2 ^ 32) lists
