-- The first separator, looked for place by place.
use Rattle.std.proofs.Common.{◌≡◌, ℕ, zero, suc, ◌+◌, ◌<◌, true, false, cond, List, [], ◌∷◌, ◌++◌, length, take, drop, Option, None, Some, refl, sym, ap, ◌∙◌, arith}
use Rattle.std.specs.Option.{option_map}
use Rattle.judge_traces.specs.Traces.{cut, is_between}

-- the same parts, with more bytes before the first
abbrev pub behind : List ℕ → Option (List ℕ × List ℕ) → Option (List ℕ × List ℕ)
behind front parts = option_map (λ p. (front ++ p.0, p.1)) parts

pub behind-nil : (parts : Option (List ℕ × List ℕ)) → behind [] parts ≡ parts
behind-nil None = refl
behind-nil (Some p) = refl

behind-cons : (byte : ℕ) (front : List ℕ) (parts : Option (List ℕ × List ℕ)) → behind (byte ∷ front) parts ≡ option_map (λ p. (byte ∷ p.0, p.1)) (behind front parts)
behind-cons byte front None = refl
behind-cons byte front (Some p) = refl

cut-step : (byte : ℕ) (bytes : List ℕ) → is_between (byte ∷ bytes) ≡ false → cut (byte ∷ bytes) ≡ behind (byte ∷ []) (cut bytes)
cut-step byte bytes e = ap (λ t. cond t (Some ([], drop 4 bytes)) (behind (byte ∷ []) (cut bytes))) e

cut-here : (byte : ℕ) (bytes : List ℕ) → is_between (byte ∷ bytes) ≡ true → cut (byte ∷ bytes) ≡ Some ([], drop 4 bytes)
cut-here byte bytes e = ap (λ t. cond t (Some ([], drop 4 bytes)) (behind (byte ∷ []) (cut bytes))) e

one_more : (i : ℕ) → suc (i + 1) ≡ suc i + 1
one_more i = omega arith

five_more : (i : ℕ) → suc (i + 5) ≡ suc i + 5
five_more i = omega arith

-- no separator at this place: it is looked for from the next on
pub cut_later : (bytes : List ℕ) (i : ℕ) → i < length bytes → is_between (drop i bytes) ≡ false
    → behind (take i bytes) (cut (drop i bytes)) ≡ behind (take (i + 1) bytes) (cut (drop (i + 1) bytes))
cut_later [] i below e = absurd (omega arith)
cut_later (byte ∷ bytes) zero below e = behind-nil (cut (byte ∷ bytes)) ∙ cut-step byte bytes e
cut_later (byte ∷ bytes) (suc i) below e =
    behind-cons byte (take i bytes) (cut (drop i bytes))
    ∙ ap (option_map (λ p. (byte ∷ p.0, p.1))) (cut_later bytes i (omega arith) e)
    ∙ sym (behind-cons byte (take (i + 1) bytes) (cut (drop (i + 1) bytes)))
    ∙ ap (λ n. behind (take n (byte ∷ bytes)) (cut (drop n (byte ∷ bytes)))) (one_more i)

-- a separator at this place: the bytes are cut here
pub cut_found : (bytes : List ℕ) (i : ℕ) → i < length bytes → is_between (drop i bytes) ≡ true
    → behind (take i bytes) (cut (drop i bytes)) ≡ Some (take i bytes, drop (i + 5) bytes)
cut_found [] i below e = absurd (omega arith)
cut_found (byte ∷ bytes) zero below e = behind-nil (cut (byte ∷ bytes)) ∙ cut-here byte bytes e
cut_found (byte ∷ bytes) (suc i) below e =
    behind-cons byte (take i bytes) (cut (drop i bytes))
    ∙ ap (option_map (λ p. (byte ∷ p.0, p.1))) (cut_found bytes i (omega arith) e)
    ∙ ap (λ n. Some (byte ∷ take i bytes, drop n (byte ∷ bytes))) (five_more i)
