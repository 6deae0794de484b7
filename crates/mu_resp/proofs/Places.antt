-- The first place of a byte, as a search finds it.
use Rattle.std.proofs.Common.{◌≡◌, ℕ, ◌==◌, inl, inr, refl, List, None, Some, sym, ap, ◌∙◌, arith}
use Rattle.std.specs.List.{position}
use Rattle.std.specs.declared.option.Option.{Option}
use Rattle.std.proofs.lemmas.Bool.{cases_lt, true≢false}
use Rattle.std.proofs.lemmas.List.Quantifiers.{position-Some}
use Rattle.memchr.specs.Find.{IsFirstByte, is_byte}
use Rattle.mu_text.proofs.Cutting.{none_passes}

pub byte_place : (byte : ℕ) (bytes : List ℕ) (r : Option ℕ) → IsFirstByte (is_byte byte) bytes r → r ≡ position (λ b. b == byte) bytes
byte_place byte bytes None none = go (position (λ b. b == byte) bytes) refl
  where
    go : (o : Option ℕ) → position (λ b. b == byte) bytes ≡ o → None ≡ position (λ b. b == byte) bytes
    go None e = sym e
    go (Some i) e = let found = position-Some (λ b. b == byte) bytes i 0 e in absurd (none i (omega arith) found.0 found.1)
byte_place byte bytes (Some k) first = go (position (λ b. b == byte) bytes) refl
  where
    go : (o : Option ℕ) → position (λ b. b == byte) bytes ≡ o → Some k ≡ position (λ b. b == byte) bytes
    go None e = absurd (true≢false (sym first.1 ∙ none_passes (λ b. b == byte) bytes e k 0 first.0.high))
    go (Some i) e =
        let found = position-Some (λ b. b == byte) bytes i 0 e in
        elim (cases_lt i k) [
          | inl below ↦ absurd (first.0.before i (omega arith) below found.1)
          | inr above ↦ elim (cases_lt k i) [
            | inl before ↦ absurd (true≢false (sym first.1 ∙ found.2 k before))
            | inr not ↦ ap Some (omega (arith, above, not)) ∙ sym e
          ]
        ]
