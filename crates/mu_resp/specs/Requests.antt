-- request: how a client's request is spelled, word by word.
use Rattle.std.specs.Prelude.{ℕ, ◌≤◌, List, [], ◌∷◌, ◌++◌, length, flat_map}
use Rattle.std.specs.List.{AllByRecursion}
use Rattle.std.specs.Fmt.{decimal}
use Rattle.mu_resp.specs.declared.TheConstants.{CARRIAGE_RETURN, LINE_FEED, STAR, DOLLAR, MOST_WORDS, MOST_WORD_BYTES}

-- a text and its end
abbrev pub line : List ℕ → List ℕ
line text = text ++ CARRIAGE_RETURN ∷ LINE_FEED ∷ []

-- a line of a sign and a number
abbrev pub header : ℕ → ℕ → List ℕ
header sign number = sign ∷ line (decimal number)

-- a word: its length, and its bytes, which may be any
abbrev pub bulk : List ℕ → List ℕ
bulk word = header DOLLAR (length word) ++ line word

-- a request: how many words it has, and these
abbrev pub request : List (List ℕ) → List ℕ
request words = header STAR (length words) ++ flat_map bulk words

-- the words of a request that is read: few, and none of them long
abbrev pub IsWord : List ℕ → Type 0
IsWord word = length word ≤ MOST_WORD_BYTES

pub record IsRequest (words : List (List ℕ)) : Type 0 where
  pub few : length words ≤ MOST_WORDS
  pub short : AllByRecursion IsWord words
