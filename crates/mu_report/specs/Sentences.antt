-- sentence words: a sentence as it is told, with its values in the places for them.
use Rattle.std.specs.Prelude.{ℕ, List, [], ◌∷◌, ◌++◌, ◌==◌, if◌then◌else◌, None, Some, codes, map}
use Rattle.std.specs.declared.option.Option.{Option}
use Rattle.std.specs.Fmt.{decimal}
use Rattle.mu_events.specs.Lines.{answer_words, target_words}
use Rattle.mu_model.specs.declared.event.Answer.{Answer}
use Rattle.mu_model.specs.declared.event.Target.{Target}
use Rattle.mu_model.specs.Sentences.{parts_of}
use Rattle.mu_model.specs.declared.sentence.Sentence.{Sentence}
use Rattle.mu_model.specs.declared.sentence.Value.{Value}
use Rattle.mu_report.specs.declared.sentence.TheConstants.{PLACE}

-- words with these in place of each #, in turn
abbrev pub sentence : List ℕ → List (List ℕ) → List ℕ
sentence [] parts = []
sentence (byte ∷ words) [] = byte ∷ words
sentence (byte ∷ words) (part ∷ parts) =
    if byte == PLACE then part ++ sentence words parts else byte ∷ sentence words (part ∷ parts)

-- a number, if there is one
abbrev pub number_or_none : Option ℕ → List ℕ
number_or_none None = codes "none"
number_or_none (Some number) = decimal number

-- what a region is entered for
abbrev pub entered_words : Option Target → List ℕ
entered_words None = codes "none"
entered_words (Some target) = target_words target

-- a value as it is told
abbrev pub value_words : Value → List ℕ
value_words (Value.Byte number) = decimal number
value_words (Value.Short number) = decimal number
value_words (Value.Wide number) = decimal number
value_words (Value.Long number) = decimal number
value_words (Value.Count count) = decimal count
value_words (Value.Region region) = number_or_none region
value_words (Value.Own own) = number_or_none own
value_words (Value.Entered entered) = entered_words entered
value_words (Value.Seen fence) = answer_words (Answer.Seen fence)

-- these words, with the values in their places
abbrev pub parts_words : List ℕ × List Value → List ℕ
parts_words parts = sentence parts.0 (map value_words parts.1)

-- what a sentence says
abbrev pub sentence_words : Sentence → List ℕ
sentence_words s = parts_words (parts_of s)
