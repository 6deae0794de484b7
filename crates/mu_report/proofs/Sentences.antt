-- A sentence, taken from the front.
use Rattle.std.proofs.Common.{◌≡◌, ℕ, ◌+◌, ◌<◌, ◌≤◌, List, [], ◌∷◌, ◌++◌, refl, sym, ap, ◌∙◌, length, drop, map, get_or, append_assoc, append-nil, ne_eqb, arith}
use Rattle.std.proofs.lemmas.List.{drop_all, drop_more}
use Rattle.mu_report.specs.Sentences.{sentence, value_words}
use Rattle.mu_report.specs.declared.sentence.TheConstants.{PLACE}
use Rattle.mu_model.specs.declared.sentence.Value.{Value}

-- words without values
pub alone : (words : List ℕ) → sentence words [] ≡ words
alone [] = refl
alone (byte ∷ words) = refl

-- the next byte is added, or a value in its place
pub sentence_next : (line new words all : List ℕ) (i byte : ℕ) (left rest : List (List ℕ)) → i < length words
    → ((more : List ℕ) → line ++ sentence (get_or words i byte ∷ more) left ≡ new ++ sentence more rest)
    → line ++ sentence (drop i words) left ≡ all → new ++ sentence (drop (i + 1) words) rest ≡ all
sentence_next line new words all i byte left rest within pushed so_far =
    sym (pushed (drop (i + 1) words)) ∙ ap (λ l. line ++ sentence l left) (sym (drop_more words i byte within)) ∙ so_far

-- no word is left
pub sentence_ends : (line words all : List ℕ) (i : ℕ) (left : List (List ℕ)) → length words ≤ i → line ++ sentence (drop i words) left ≡ all → line ≡ all
sentence_ends line words all i left past so_far =
    sym (append-nil line) ∙ ap (λ l. line ++ sentence l left) (sym (drop_all i words past)) ∙ so_far

-- a byte that is no place
pub with_byte : (line words : List ℕ) (byte : ℕ) (values : List Value) → (byte ≡ PLACE → ⊥)
    → line ++ sentence (byte ∷ words) (map value_words values) ≡ (line ++ byte ∷ []) ++ sentence words (map value_words values)
with_byte line words byte [] other = ap (λ l. line ++ byte ∷ l) (sym (alone words)) ∙ sym (append_assoc line (byte ∷ []) (sentence words []))
with_byte line words byte (value ∷ values) other =
    rw (ne_eqb byte PLACE other) (sym (append_assoc line (byte ∷ []) (sentence words (map value_words (value ∷ values)))))

-- a byte after the last value
pub with_last : (line words : List ℕ) (byte : ℕ) (values : List Value) → length values ≡ 0
    → line ++ sentence (byte ∷ words) (map value_words values) ≡ (line ++ byte ∷ []) ++ sentence words (map value_words values)
with_last line words byte [] none = ap (λ l. line ++ byte ∷ l) (sym (alone words)) ∙ sym (append_assoc line (byte ∷ []) (sentence words []))
with_last line words byte (value ∷ values) none = absurd (omega arith)
