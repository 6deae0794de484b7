-- A text that is words with single spaces between them is read back as these words, and a text of
-- ended lines as these lines.
use Rattle.std.proofs.Common.{◌≡◌, ℕ, ◌<◌, ◌^◌, ◌==◌, nat_lt, true, false, List, [], ◌∷◌, ◌++◌, get_or, refl, sym, ap, subst, ◌∙◌, append_assoc, arith}
use Rattle.std.specs.Fmt.{decimal}
use Rattle.std.specs.List.{All, list_all}
use Rattle.std.proofs.lemmas.Bool.Decides.{nat_tests}
use Rattle.std.proofs.lemmas.List.Elements.{All-append, All-cons, All-head, All-nil, All-tail}
use Rattle.std.proofs.lemmas.List.Splits.{slice_split_at, slice_split_none}
use Rattle.mu_text.specs.Lines.{ended, lines, words}
use Rattle.mu_text.specs.Numbers.{is_digit}
use Rattle.mu_text.specs.declared.TheConstants.{LINE_FEED, SPACE}
use Rattle.mu_text.proofs.Cutting.{lines-at}
use Rattle.mu_text.proofs.Decimals.{decimal-tells}
use Rattle.std.proofs.lemmas.Bool.{and_parts}

-- no byte of it is a space or stands below one
abbrev pub IsOneWord : List ℕ → Type 0
IsOneWord word = All (λ byte. SPACE < byte) word

-- no byte of it stands below a space, so none is a line feed
abbrev pub IsOneLine : List ℕ → Type 0
IsOneLine text = All (λ byte. LINE_FEED < byte) text

-- a text is one line, of these words, also if a space and more come after it
pub record Spells (text : List ℕ) (spelled : List (List ℕ)) : Type 0 where
  pub one_line : IsOneLine text
  pub alone : words text ≡ spelled
  pub before : (more : List ℕ) → words (text ++ SPACE ∷ more) ≡ spelled ++ words more

no_space : (byte : ℕ) → SPACE < byte → (byte == SPACE) ≡ false
no_space byte above = grind (arith, nat_tests)

uncut : (word : List ℕ) → IsOneWord word → All (λ byte. (byte == SPACE) ≡ false) word
uncut word one k d below = no_space (get_or word k d) (one k d below)

-- bytes without a space are one word
pub Spells-word : (word : List ℕ) → IsOneWord word → Spells word (word ∷ [])
Spells-word word one = record {
  one_line = λ k d below. let above = one k d below in omega (arith, above);
  alone = slice_split_none (λ byte. byte == SPACE) word (uncut word one);
  before = λ more. slice_split_at (λ byte. byte == SPACE) word SPACE more (uncut word one) refl;
}

-- two texts with a space between them spell the words of both
pub Spells-more : (first second : List ℕ) (front back : List (List ℕ)) → Spells first front → Spells second back → Spells (first ++ SPACE ∷ second) (front ++ back)
Spells-more first second front back a b = record {
  one_line = All-append (λ byte. LINE_FEED < byte) first (SPACE ∷ second) a.one_line (All-cons (λ byte. LINE_FEED < byte) SPACE second (omega arith) b.one_line);
  alone = a.before second ∙ ap (λ back. front ++ back) b.alone;
  before = λ more.
      ap words (append_assoc first (SPACE ∷ second) (SPACE ∷ more)) ∙ a.before (second ++ SPACE ∷ more)
      ∙ ap (λ back. front ++ back) (b.before more) ∙ sym (append_assoc front back (words more));
}

-- the same holds if the space was added to the first text before the second
pub Spells-join : (first second : List ℕ) (front back : List (List ℕ)) → Spells first front → Spells second back → Spells ((first ++ SPACE ∷ []) ++ second) (front ++ back)
Spells-join first second front back a b = subst (λ text. Spells text (front ++ back)) (sym (append_assoc first (SPACE ∷ []) second)) (Spells-more first second front back a b)

-- a text with a word in front of it spells one word more
pub Spells-then : (word text : List ℕ) (spelled : List (List ℕ)) → IsOneWord word → Spells text spelled → Spells (word ++ SPACE ∷ text) (word ∷ spelled)
Spells-then word text spelled one rest = Spells-more word text (word ∷ []) spelled (Spells-word word one) rest

above_space : (byte : ℕ) → nat_lt SPACE byte ≡ true → SPACE < byte
above_space byte test = grind (arith, nat_tests)

-- a text whose bytes all stand above the space is one word
pub written : (word : List ℕ) → list_all (λ byte. nat_lt SPACE byte) word ≡ true → IsOneWord word
written [] all = All-nil (λ byte. SPACE < byte)
written (byte ∷ word) all =
    let tests = and_parts (nat_lt SPACE byte) (list_all (λ byte. nat_lt SPACE byte) word) all in
    All-cons (λ byte. SPACE < byte) byte word (above_space byte tests.0) (written word tests.1)

digit_above : (byte : ℕ) → is_digit byte ≡ true → SPACE < byte
digit_above byte digit = grind (arith, nat_tests)

digits_are_one : (digits : List ℕ) → list_all is_digit digits ≡ true → IsOneWord digits
digits_are_one [] all = All-nil (λ byte. SPACE < byte)
digits_are_one (byte ∷ digits) all =
    let tests = and_parts (is_digit byte) (list_all is_digit digits) all in
    All-cons (λ byte. SPACE < byte) byte digits (digit_above byte tests.0) (digits_are_one digits tests.1)

-- a number is one word
pub one_number : (n : ℕ) → n < 2 ^ 64 → IsOneWord (decimal n)
one_number n fits = digits_are_one (decimal n) (decimal-tells n fits).0

no_line_feed : (byte : ℕ) → LINE_FEED < byte → (byte == LINE_FEED) ≡ false
no_line_feed byte above = grind (arith, nat_tests)

-- ended lines are read back as these lines
pub lines-ended : (texts : List (List ℕ)) → All IsOneLine texts → lines (ended texts) ≡ texts
lines-ended [] all = refl
lines-ended (text ∷ texts) all =
    let line = All-head IsOneLine text texts all in
    lines-at text (ended texts) (λ k d below. no_line_feed (get_or text k d) (line k d below))
    ∙ ap (λ rest. text ∷ rest) (lines-ended texts (All-tail IsOneLine text texts all))
