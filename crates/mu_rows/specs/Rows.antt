-- row of a command: the twelve words that spell a command, and what a request must be to have them.
use Rattle.std.specs.Prelude.{ℕ, ◌+◌, ◌-◌, ◌*◌, ⊤, List, [], ◌∷◌, length, take, drop, nat_lt, if◌then◌else◌}
use Rattle.kv_store.specs.Commands.{Request, IsAllowed, key_of}
use Rattle.kv_store.specs.Words.{IsKey, IsText}
use Rattle.kv_store.specs.Kinds.{code_of_kind, parts_of}
use Rattle.kv_store.specs.declared.command.Arguments.{Arguments}
use Rattle.kv_store.specs.declared.command.Op.{Op}

-- the number that bytes spell, the first in the lowest place
abbrev pub number_of : List ℕ → ℕ
number_of [] = 0
number_of (byte ∷ bytes) = byte + 256 * number_of bytes

-- a word of bytes, by its index: they stand eight to a word, and missing bytes are 0
unfoldable pub word_of : List ℕ → ℕ → ℕ
word_of bytes index = number_of (take 8 (drop (8 * index) bytes))

-- the number of an operation in a row
abbrev pub code_of : Op → ℕ
code_of op = code_of_kind (parts_of op).kind

-- the first text of arguments, or nothing
abbrev pub first_of : Arguments → List ℕ
first_of Arguments.Nothing = []
first_of (Arguments.Text text) = text
first_of (Arguments.Texts first second) = first

-- the second text of arguments, or nothing
abbrev pub second_of : Arguments → List ℕ
second_of (Arguments.Texts first second) = second
second_of _ = []

-- one of the eight words of arguments, by its index: two texts have four each
abbrev pub argument_word : Arguments → ℕ → ℕ
argument_word Arguments.Nothing index = 0
argument_word (Arguments.Text text) index = word_of text index
argument_word (Arguments.Texts first second) index =
    if nat_lt index 4 then word_of first index else word_of second (index - 4)

-- all arguments are texts
abbrev pub AreTexts : Arguments → Type 0
AreTexts Arguments.Nothing = ⊤
AreTexts (Arguments.Text text) = IsText text
AreTexts (Arguments.Texts first second) = IsText first × IsText second

-- the first text of an operation, or nothing
abbrev pub first_text : Op → List ℕ
first_text op = first_of (parts_of op).arguments

-- the second text of an operation, or nothing
abbrev pub second_text : Op → List ℕ
second_text op = second_of (parts_of op).arguments

-- one of the eight words of its arguments, by its index
abbrev pub text_word : Op → ℕ → ℕ
text_word op = argument_word (parts_of op).arguments

-- the word that says what the others are: the operation, the client, the number, the lengths of the
-- key and the texts, and how many rows of the same batch follow, at the places of 2 ^ 0, 2 ^ 8, 2 ^
-- 16, 2 ^ 32, 2 ^ 40, 2 ^ 48 and 2 ^ 56
abbrev pub head_word : Request → ℕ → ℕ
head_word request rest =
    code_of request.op + 256 * request.client + 65536 * request.number
    + 4294967296 * length (key_of request.op) + 1099511627776 * length (first_text request.op)
    + 281474976710656 * length (second_text request.op)
    + 72057594037927936 * rest

-- the words of a row: the head, three of the key and eight of the texts
abbrev pub spelled : Request → ℕ → List ℕ
spelled request rest =
    head_word request rest
    ∷ word_of (key_of request.op) 0 ∷ word_of (key_of request.op) 1 ∷ word_of (key_of request.op) 2
    ∷ text_word request.op 0 ∷ text_word request.op 1 ∷ text_word request.op 2
    ∷ text_word request.op 3
    ∷ text_word request.op 4 ∷ text_word request.op 5 ∷ text_word request.op 6
    ∷ text_word request.op 7 ∷ []

-- the key of the operation is one, and its arguments are texts
abbrev pub HasWords : Op → Type 0
HasWords op = IsKey (key_of op) × AreTexts (parts_of op).arguments

-- the request is a command: one that the store may be asked for
pub record IsCommand (request : Request) : Type 0 where
  pub allowed : IsAllowed request.client request.number request.op
  pub words : HasWords request.op
