-- sentence room: the words of a sentence, its values, and how many bytes it has at most.
use Rattle.std.specs.Prelude.{List, [], length, ℕ, ◌+◌, ◌∷◌}
use Rattle.mu_model.specs.declared.sentence.Sentence.{Sentence}
use Rattle.mu_model.specs.declared.sentence.Value.{Value}

-- how many bytes it has at most, besides the one in its place
abbrev pub value_room : Value → ℕ
value_room (Value.Byte number) = 2
value_room (Value.Short number) = 4
value_room (Value.Wide number) = 9
value_room (Value.Long number) = 19
value_room (Value.Count count) = 19
value_room (Value.Region region) = 3
value_room (Value.Own own) = 9
value_room (Value.Entered entered) = 10
value_room (Value.Seen fence) = 40

-- how many bytes these have so in sum
abbrev pub rooms_of : List Value → ℕ
rooms_of [] = 0
rooms_of (value ∷ values) = value_room value + rooms_of values

-- the words of a sentence, and its values
abbrev pub parts_of : Sentence → List ℕ × List Value
parts_of (Sentence.Plain words) = (words.now, [])
parts_of (Sentence.One words a) = (words.now, a ∷ [])
parts_of (Sentence.Two words a b) = (words.now, a ∷ b ∷ [])
parts_of (Sentence.Three words a b c) = (words.now, a ∷ b ∷ c ∷ [])
parts_of (Sentence.Four words a b c d) = (words.now, a ∷ b ∷ c ∷ d ∷ [])
parts_of (Sentence.Five words a b c d e) = (words.now, a ∷ b ∷ c ∷ d ∷ e ∷ [])
parts_of (Sentence.Six words a b c d e f) = (words.now, a ∷ b ∷ c ∷ d ∷ e ∷ f ∷ [])

-- how many bytes it has at most
abbrev pub sentence_room : Sentence → ℕ
sentence_room s = length (parts_of s).0 + rooms_of (parts_of s).1
