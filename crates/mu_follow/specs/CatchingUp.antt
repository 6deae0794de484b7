-- catching up: what a replica that lags reads next, whatever the place of its cycle.
use Rattle.std.specs.Prelude.{List, None, Some, if◌then◌else◌, length, nat_lt, not, ℕ}
use Rattle.std.specs.declared.option.Option.{Option}
use Rattle.std.specs.List.{slice_get}
use Rattle.mu_model.specs.declared.config.Config.{Config}
use Rattle.mu_model.specs.declared.event.Event.{Event}
use Rattle.mu_model.specs.declared.event.Verb.{Verb}
use Rattle.mu_model.specs.Knowledge.{applied, has_word, known}
use Rattle.mu_model.specs.Scores.{least_below}
use Rattle.mu_follow.specs.Due.{first_word_of, next_due, row_under_way}

-- how many words of the row r has before the first that it has not
abbrev pub words_had : ℕ → List Event → ℕ → ℕ
words_had r mine v = least_below 12 (λ k. not (has_word r v k mine))

-- the first word of the row that r lacks, if it lacks one
abbrev pub lacked_word_of : ℕ → List Event → Option ℕ → Option Verb
lacked_word_of r mine None = None
lacked_word_of r mine (Some v) =
    if nat_lt (words_had r mine v) 12 then Some (Verb.ReadRow v (words_had r mine v)) else None

-- the same of the row that is being read
abbrev pub lacked_word_due : ℕ → List Event → Option Verb
lacked_word_due r mine = lacked_word_of r mine (row_under_way mine)

-- the one, if there is one, else the other
abbrev pub or_else : Option Verb → Option Verb → Option Verb
or_else None other = other
or_else (Some verb) other = Some verb

-- the first word of a row of the first entry that isn't applied, else a look at the next position of
-- its own log, if it is decided
abbrev pub entry_due : Config → ℕ → List Event → Option Verb
entry_due c r mine =
    or_else (first_word_of c r mine (slice_get (known c r mine) (length (applied c r mine))))
    (next_due c r mine)

-- a word of the row that is being read, else what is next
abbrev pub catch_up_due : Config → ℕ → List Event → Option Verb
catch_up_due c r mine = or_else (lacked_word_due r mine) (entry_due c r mine)
