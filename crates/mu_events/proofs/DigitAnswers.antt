-- An answer that begins with a digit is a number.
use Rattle.std.proofs.Common.{◌≡◌, ◌<◌, ◌^◌, ℕ, Bool, true, false, cond, List, [], ◌∷◌, None, Some, get_or, length, refl, sym, ap, ◌∙◌, arith}
use Rattle.std.specs.List.{list_all, onto_first}
use Rattle.std.specs.Option.{option_map}
use Rattle.std.specs.Prelude.{codes, if◌then◌else◌, nat_le, not, ◌&&◌, ◌==◌}
use Rattle.std.specs.Str.{bytes_eq}
use Rattle.std.specs.declared.option.Option.{Option}
use Rattle.std.proofs.lemmas.Bool.{and_parts, eqb-true, false≢true}
use Rattle.std.proofs.lemmas.Slice.Eq.{bytes_eq-Decides}
use Rattle.mu_model.specs.declared.event.Answer.{Answer}
use Rattle.mu_events.specs.Events.{answer_alone, answer_of, answer_of_many, entry_of, fence_of}
use Rattle.mu_text.specs.Lines.{words}
use Rattle.mu_text.specs.Numbers.{below, has_leading_zero, is_decimal, is_digit, of_64, value_of}
use Rattle.mu_text.specs.declared.TheConstants.{SPACE}
use Rattle.mu_text.proofs.Cutting.{words-some}
use Rattle.mu_events.proofs.Sides.{Words}

-- a digit is no other byte, and no word that begins with another byte begins with a digit
no_digit : (d byte : ℕ) → is_digit d ≡ true → is_digit byte ≡ false → (d == byte) ≡ false
no_digit d byte digit other = go (d == byte) refl
  where
    go : (t : Bool) → (d == byte) ≡ t → t ≡ false
    go true same = absurd (false≢true (sym other ∙ ap is_digit (sym (eqb-true d byte same)) ∙ digit))
    go false same = refl

other_word : (d : ℕ) (part word : List ℕ) → is_digit d ≡ true → is_digit (get_or word 0 0) ≡ false → bytes_eq (d ∷ part) word ≡ false
other_word d part word digit other = go (bytes_eq (d ∷ part) word) refl
  where
    go : (t : Bool) → bytes_eq (d ∷ part) word ≡ t → t ≡ false
    go true same = absurd (false≢true (sym other ∙ ap (λ l. is_digit (get_or l 0 0)) (sym ((bytes_eq-Decides (d ∷ part) word).0 same)) ∙ digit))
    go false same = refl

abbrev first_of : Words → List ℕ
first_of [] = []
first_of (word ∷ words) = word

no_words : (parts : Words) → 0 < length parts → parts ≡ [] → ⊥
no_words parts some none = let count = ap length none in omega (arith, some, count)

-- a text that is one word is that word
joined : (x : ℕ) (text word : List ℕ) (parts : Words) → ((other : List ℕ) → parts ≡ other ∷ [] → other ≡ text) → 0 < length parts → onto_first x parts ≡ word ∷ [] → word ≡ x ∷ text
joined x text word [] before some same = absurd (omega (arith, some))
joined x text word (part ∷ []) before some same = sym (ap first_of same) ∙ ap (λ l. x ∷ l) (before part refl)
joined x text word (part ∷ next ∷ parts) before some same = let count = ap length same in absurd (omega (arith, count))

split_alone : (x : ℕ) (text word : List ℕ) (space : Bool) → ((other : List ℕ) → words text ≡ other ∷ [] → other ≡ text) → cond space ([] ∷ words text) (onto_first x (words text)) ≡ word ∷ [] → word ≡ x ∷ text
split_alone x text word true before same = let some = words-some text in let count = ap length same in absurd (omega (arith, some, count))
split_alone x text word false before same = joined x text word (words text) before (words-some text) same

alone : (text word : List ℕ) → words text ≡ word ∷ [] → word ≡ text
alone [] word same = sym (ap first_of same)
alone (x ∷ text) word same = split_alone x text word (x == SPACE) (alone text) same

-- digits are one word
whole : (text : List ℕ) → list_all is_digit text ≡ true → words text ≡ text ∷ []
whole [] all = refl
whole (x ∷ text) all =
    let both = and_parts (is_digit x) (list_all is_digit text) all in
    ap (λ t. cond t ([] ∷ words text) (onto_first x (words text))) (no_digit x SPACE both.0 refl)
    ∙ ap (onto_first x) (whole text both.1)

-- what isn't digits alone is no number
no_and : (a : Bool) → (a && false) ≡ false
no_and true = refl
no_and false = refl

no_decimal : (most : ℕ) (word : List ℕ) → list_all is_digit word ≡ false → is_decimal most word ≡ false
no_decimal most word other =
    let room = nat_le 1 (length word) && nat_le (length word) most in
    ap (λ t. room && (t && not (has_leading_zero word))) other ∙ no_and room

no_number : (word : List ℕ) → list_all is_digit word ≡ false → of_64 word ≡ None
no_number word other = ap (λ t. below (2 ^ 64) (if t then Some (value_of word) else None)) (no_decimal 20 word other)

more_words : (d : ℕ) (text part next : List ℕ) (parts : Words) → words text ≡ part ∷ next ∷ parts → of_64 (d ∷ text) ≡ None
more_words d text part next parts is = no_number (d ∷ text) (ap (λ t. is_digit d && t) (go (list_all is_digit text) refl) ∙ no_and (is_digit d))
  where
    go : (t : Bool) → list_all is_digit text ≡ t → t ≡ false
    go true all = let count = ap length (sym (whole text all) ∙ is) in absurd (omega (arith, count))
    go false other = refl

skipped : (t : Bool) (x y : Option Answer) → t ≡ false → (if t then x else y) ≡ y
skipped t x y is = ap (λ t. if t then x else y) is

-- one word
abbrev past_or : List ℕ → Option Answer
past_or word = if bytes_eq word (codes "past") then Some Answer.Past else option_map Answer.Number (of_64 word)

abbrev empty_or : List ℕ → Option Answer
empty_or word = if bytes_eq word (codes "empty") then Some Answer.Empty else past_or word

abbrev entered_or : List ℕ → Option Answer
entered_or word = if bytes_eq word (codes "entered") then Some Answer.Entered else empty_or word

abbrev missed_or : List ℕ → Option Answer
missed_or word = if bytes_eq word (codes "missed") then Some Answer.Missed else entered_or word

number_alone : (d : ℕ) (part : List ℕ) → is_digit d ≡ true → answer_alone (d ∷ part) ≡ option_map Answer.Number (of_64 (d ∷ part))
number_alone d part digit =
    let word = d ∷ part in
    skipped (bytes_eq word (codes "done")) (Some Answer.Done) (missed_or word) (other_word d part (codes "done") digit refl)
    ∙ skipped (bytes_eq word (codes "missed")) (Some Answer.Missed) (entered_or word) (other_word d part (codes "missed") digit refl)
    ∙ skipped (bytes_eq word (codes "entered")) (Some Answer.Entered) (empty_or word) (other_word d part (codes "entered") digit refl)
    ∙ skipped (bytes_eq word (codes "empty")) (Some Answer.Empty) (past_or word) (other_word d part (codes "empty") digit refl)
    ∙ skipped (bytes_eq word (codes "past")) (Some Answer.Past) (option_map Answer.Number (of_64 word)) (other_word d part (codes "past") digit refl)

-- several words
abbrev lost_or : List ℕ → Words → Option Answer
lost_or name words = if bytes_eq name (codes "lost") then option_map Answer.Lost (fence_of words) else None

abbrev fence_or : List ℕ → Words → Option Answer
fence_or name words = if bytes_eq name (codes "fence") then option_map Answer.Seen (fence_of words) else lost_or name words

no_name : (d : ℕ) (part : List ℕ) (words : Words) → is_digit d ≡ true → answer_of_many (d ∷ part) words ≡ None
no_name d part words digit =
    let name = d ∷ part in
    skipped (bytes_eq name (codes "entry")) (entry_of words) (fence_or name words) (other_word d part (codes "entry") digit refl)
    ∙ skipped (bytes_eq name (codes "fence")) (option_map Answer.Seen (fence_of words)) (lost_or name words) (other_word d part (codes "fence") digit refl)
    ∙ skipped (bytes_eq name (codes "lost")) (option_map Answer.Lost (fence_of words)) None (other_word d part (codes "lost") digit refl)

by_parts : (d : ℕ) (text : List ℕ) (parts : Words) → is_digit d ≡ true → words text ≡ parts → answer_of (onto_first d parts) ≡ option_map Answer.Number (of_64 (d ∷ text))
by_parts d text [] digit is = absurd (no_words (words text) (words-some text) is)
by_parts d text (part ∷ []) digit is = number_alone d part digit ∙ ap (λ l. option_map Answer.Number (of_64 (d ∷ l))) (alone text part is)
by_parts d text (part ∷ next ∷ parts) digit is = no_name d part (next ∷ parts) digit ∙ sym (ap (option_map Answer.Number) (more_words d text part next parts is))

pub digit-answer : (text : List ℕ) → is_digit (get_or text 0 0) ≡ true → answer_of (words text) ≡ option_map Answer.Number (of_64 text)
digit-answer [] digit = absurd (false≢true digit)
digit-answer (d ∷ text) digit =
    ap (λ t. answer_of (cond t ([] ∷ words text) (onto_first d (words text)))) (no_digit d SPACE digit refl)
    ∙ by_parts d text (words text) digit refl
