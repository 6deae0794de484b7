-- clear, says an operation: words that are zero past their first bytes; what the words of a row say
-- of its operation, field by field.
use Rattle.std.specs.Prelude.{ℕ, ◌≡◌, ◌+◌, ◌-◌, ◌*◌, ◌/◌, ◌%◌, ◌<◌, ◌^◌, List, length, map, drop, slice_index}
use Rattle.std.specs.List.{range_with_len}
use Rattle.kv_store.specs.Commands.{AreShort}
use Rattle.kv_store.specs.Kinds.{code_of_kind, parts_of}
use Rattle.kv_store.specs.Words.{IsKey}
use Rattle.kv_store.specs.declared.command.Arguments.{Arguments}
use Rattle.kv_store.specs.declared.command.Op.{Op}
use Rattle.kv_store.specs.declared.command.OpParts.{OpParts}
use Rattle.mu_rows.specs.Rows.{word_of, first_of, second_of, argument_word, AreTexts}

-- past the first `len` bytes, eight in each word, words have only zeros
abbrev pub AreClear : List ℕ → ℕ → Type 0
AreClear words len = (j : ℕ) → j < length words → len - 8 * j < 8
    → slice_index words j / 2 ^ (8 * (len - 8 * j)) ≡ 0

-- the words of a row say that these are the arguments of its operation
pub record SaysArguments (words : List ℕ) (arguments : Arguments) : Type 0 where
  pub has : AreTexts arguments
  pub first_length : slice_index words 0 / 1099511627776 % 256 ≡ length (first_of arguments)
  pub second_length : slice_index words 0 / 281474976710656 % 256 ≡ length (second_of arguments)
  pub texts : (j : ℕ) → j < 8 → slice_index words (4 + j) ≡ argument_word arguments j

-- the words of a row say so of arguments that fit in them: two texts are short
pub record SaysShortArguments (words : List ℕ) (arguments : Arguments) : Type 0 where
  pub has : AreTexts arguments
  pub short : AreShort arguments
  pub first_length : slice_index words 0 / 1099511627776 % 256 ≡ length (first_of arguments)
  pub second_length : slice_index words 0 / 281474976710656 % 256 ≡ length (second_of arguments)
  pub texts : drop 4 words ≡ map (argument_word arguments) (range_with_len 0 8)

-- the words of a row say that these are the parts of its operation
pub record SaysParts (words : List ℕ) (parts : OpParts) : Type 0 where
  pub is_key : IsKey parts.key
  pub code : slice_index words 0 % 256 ≡ code_of_kind parts.kind
  pub key_length : slice_index words 0 / 4294967296 % 256 ≡ length parts.key
  pub key : (j : ℕ) → j < 3 → slice_index words (1 + j) ≡ word_of parts.key j
  pub arguments : SaysArguments words parts.arguments

-- the words of a row say that this is its operation
abbrev pub SaysOp : List ℕ → Op → Type 0
SaysOp words op = SaysParts words (parts_of op)
