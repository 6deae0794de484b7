-- Lines of numbers: what is spelled is read, and what is read is spelled so.
use Rattle.std.proofs.Common.{◌≡◌, ℕ, suc, ◌+◌, ◌<◌, ◌≤◌, ◌&&◌, ◌==◌, nat_le, nat_lt, not, Bool, true, false, cond, List, [], ◌∷◌, ◌++◌, length, take, drop, get_or, Ok, Err, None, Some, refl, sym, ap, ◌∙◌, append_assoc, length-append, arith}
use Rattle.std.specs.declared.option.Option.{Option}
use Rattle.std.specs.declared.result.Result.{Result}
use Rattle.std.specs.Fmt.{decimal}
use Rattle.std.specs.List.{list_all, position, position_or_len}
use Rattle.std.proofs.lemmas.Bool.Decides.{Decides-eqb, nat_tests}
use Rattle.std.proofs.lemmas.Fmt.{decimal-digits_value}
use Rattle.std.proofs.lemmas.List.Quantifiers.{position-Some}
use Rattle.std.proofs.lemmas.Str.Parse.{IsDigitsTest, IsNumeralModel, numerals_by_weight}
use Rattle.std.proofs.Math.Seq.{split_at, take-append_seam, drop-append-add}
use Rattle.mu_text.specs.Numbers.{has_leading_zero, is_decimal, is_digit, number_of, value_of, within}
use Rattle.mu_text.proofs.Decimals.{decimal-tells, within-decimal}
use Rattle.mu_resp.specs.declared.stop.Fault.{Fault}
use Rattle.mu_resp.specs.declared.stop.Fault.TheVariants as fault
use Rattle.mu_resp.specs.declared.stop.Stop.{Stop}
use Rattle.mu_resp.specs.declared.stop.Stop.TheVariants as stop
use Rattle.mu_resp.specs.Readings.{◌>>=◌, Reading, end_at, feed_at, number_at, number_before, numbered}
use Rattle.mu_resp.specs.Requests.{line}

-- the byte ends a line
abbrev ends : ℕ → Bool
ends byte = byte == 13

pub both : (a b : Bool) → (a && b) ≡ true → (a ≡ true) × (b ≡ true)
both true true e = (refl, refl)
both true false e = cc
both false b e = cc

pub bind_ok : {A B : Type 0} (r : Result A Stop) (f : A → Result B Stop) (y : B) → (r >>= f) ≡ Ok y → (x : A) × (r ≡ Ok x) × (f x ≡ Ok y)
bind_ok (Ok x) f y e = (x, refl, e)
bind_ok (Err s) f y e = cc

ok_same : {A : Type 0} {x y : A} → ◌≡◌ {A = Result A Stop} (Ok x) (Ok y) → x ≡ y
ok_same e = cc

pub pair_of : {A B : Type 0} {a c : A} {b d : B} → ◌≡◌ {A = Result (A × B) Stop} (Ok (a, b)) (Ok (c, d)) → (a ≡ c) × (b ≡ d)
pair_of e = let same = ok_same e in (ap (λ p. p.0) same, ap (λ p. p.1) same)

-- the end of a line

pub feed-found : (bytes rest : List ℕ) → feed_at bytes ≡ Ok rest → bytes ≡ 10 ∷ rest
feed-found [] rest e = cc
feed-found (byte ∷ bytes) rest e = go (byte == 10) refl e
  where
    go : (b : Bool) → (byte == 10) ≡ b → cond b (Ok bytes) (Err (stop.Wrong fault.LineEnd)) ≡ Ok rest → byte ∷ bytes ≡ 10 ∷ rest
    go true is f = let same : byte ≡ 10 = (Decides-eqb byte 10).0 is in let left : bytes ≡ rest = cc in ap (λ b. b ∷ bytes) same ∙ ap (λ l. 10 ∷ l) left
    go false is f = cc

pub end-found : (bytes rest : List ℕ) → end_at bytes ≡ Ok rest → bytes ≡ 13 ∷ 10 ∷ rest
end-found [] rest e = cc
end-found (byte ∷ bytes) rest e = go (byte == 13) refl e
  where
    go : (b : Bool) → (byte == 13) ≡ b → cond b (feed_at bytes) (Err (stop.Wrong fault.LineEnd)) ≡ Ok rest → byte ∷ bytes ≡ 13 ∷ 10 ∷ rest
    go true is f = let same : byte ≡ 13 = (Decides-eqb byte 13).0 is in ap (λ b. b ∷ bytes) same ∙ ap (λ l. 13 ∷ l) (feed-found bytes rest f)
    go false is f = cc

-- digits

no_end : (digit : ℕ) → is_digit digit ≡ true → ends digit ≡ false
no_end digit e = grind (arith, nat_tests)

place_of_end : (digits rest : List ℕ) → list_all is_digit digits ≡ true → position_or_len ends (digits ++ 13 ∷ rest) ≡ length digits
place_of_end [] rest all = refl
place_of_end (digit ∷ digits) rest all =
    let parts = both (is_digit digit) (list_all is_digit digits) all in
    let step : position_or_len ends ((digit ∷ digits) ++ 13 ∷ rest) ≡ 1 + position_or_len ends (digits ++ 13 ∷ rest) =
    ap (λ b. cond (not b) (1 + position_or_len ends (digits ++ 13 ∷ rest)) 0) (no_end digit parts.0) in
    omega (arith, step, place_of_end digits rest parts.1)

position_of_end : (digits rest : List ℕ) → list_all is_digit digits ≡ true → position ends (digits ++ 13 ∷ rest) ≡ Some (length digits)
position_of_end digits rest all =
    let within : nat_lt (length digits) (length (digits ++ 13 ∷ rest)) ≡ true = grind (arith, nat_tests, length-append digits (13 ∷ rest)) in
    ap (λ n. cond (nat_lt n (length (digits ++ 13 ∷ rest))) (Some n) None) (place_of_end digits rest all)
    ∙ ap (λ b. cond b (Some (length digits)) None) within

-- the line of a number is read again, whatever stands behind it
pub number-again : (most n : ℕ) (wrong : Fault) (rest : List ℕ) → n ≤ most → n < 10000000 → number_at most wrong (line (decimal n) ++ rest) ≡ Ok (n, rest)
unfolding number_at
number-again most n wrong rest fits small =
    let digits = decimal n in
    let tells = decimal-tells n (omega (arith, small)) in
    let shape : line digits ++ rest ≡ digits ++ 13 ∷ 10 ∷ rest = append_assoc digits (13 ∷ 10 ∷ []) rest in
    let front : take (length digits) (digits ++ 13 ∷ 10 ∷ rest) ≡ digits = take-append_seam digits (13 ∷ 10 ∷ rest) in
    let count : suc (length digits) ≡ length digits + 1 = omega arith in
    let back : drop (suc (length digits)) (digits ++ 13 ∷ 10 ∷ rest) ≡ 10 ∷ rest = ap (λ k. drop k (digits ++ 13 ∷ 10 ∷ rest)) count ∙ drop-append-add digits (13 ∷ 10 ∷ rest) 1 in
    ap (λ bytes. number_before (position ends bytes) most wrong bytes) shape
    ∙ ap (λ at. number_before at most wrong (digits ++ 13 ∷ 10 ∷ rest)) (position_of_end digits (10 ∷ rest) tells.0)
    ∙ ap (λ w. numbered (within 0 most (number_of w)) wrong (drop (suc (length digits)) (digits ++ 13 ∷ 10 ∷ rest))) front
    ∙ ap (λ m. numbered m wrong (drop (suc (length digits)) (digits ++ 13 ∷ 10 ∷ rest))) (within-decimal 0 most n (omega arith) fits small)
    ∙ ap (λ l. numbered (Some n) wrong l) back

-- and what is read is spelled so

digits_test : IsDigitsTest (λ digits. list_all is_digit digits ≡ true)
digits_test = record {
  empty = refl;
  parts = λ c cs all.
      let two = both (is_digit c) (list_all is_digit cs) all in
      let range = both (nat_le 48 c) (nat_le c 57) two.0 in
      ((grind (arith, nat_tests), grind (arith, nat_tests)), two.1);
  more = λ c cs range all. let one : is_digit c ≡ true = grind (arith, nat_tests, range) in ap (λ b. b && list_all is_digit cs) one ∙ ap (λ b. true && b) all;
}

model : IsNumeralModel (λ digits. list_all is_digit digits ≡ true) value_of
model = numerals_by_weight (λ digits. list_all is_digit digits ≡ true) digits_test value_of (record { empty = refl; more = λ c cs range. refl })

leads : (digits : List ℕ) → 0 < length digits → not (has_leading_zero digits) ≡ true → get_or digits 0 0 ≡ 48 → length digits ≡ 1
leads [] some none naught = absurd (omega arith)
leads (digit ∷ []) some none naught = refl
leads (digit ∷ next ∷ digits) some none naught = absurd (go (digit == 48) refl none)
  where
    go : (b : Bool) → (digit == 48) ≡ b → not b ≡ true → ⊥
    go true is f = cc
    go false is f = let same : (digit == 48) ≡ true = ap (λ d. d == 48) naught in cc

-- the number that a word spells is spelled by that word alone
pub decimal-only : (word : List ℕ) (n : ℕ) → number_of word ≡ Some n → n < 10000000 → word ≡ decimal n
decimal-only word n e small = go (is_decimal 7 word) refl e
  where
    go : (b : Bool) → is_decimal 7 word ≡ b → cond b (Some (value_of word)) None ≡ Some n → word ≡ decimal n
    go true is f =
        let value : value_of word ≡ n = cc in
        let parts = both (nat_le 1 (length word) && nat_le (length word) 7) (list_all is_digit word && not (has_leading_zero word)) is in
        let lengths = both (nat_le 1 (length word)) (nat_le (length word) 7) parts.0 in
        let digits = both (list_all is_digit word) (not (has_leading_zero word)) parts.1 in
        let some : 0 < length word = grind (arith, nat_tests, lengths) in
        sym (decimal-digits_value model word digits.0 some (leads word some digits.1) (omega (arith, value, small))) ∙ ap decimal value
    go false is f = cc

pub within-found : (most n : ℕ) (o : Option ℕ) → within 0 most o ≡ Some n → (o ≡ Some n) × (n ≤ most)
within-found most n None e = cc
within-found most n (Some m) e = go (nat_le 0 m && nat_le m most) refl e
  where
    go : (b : Bool) → (nat_le 0 m && nat_le m most) ≡ b → cond b (Some m) None ≡ Some n → (Some m ≡ Some n) × (n ≤ most)
    go true is f =
        let same : m ≡ n = cc in
        let parts = both (nat_le 0 m) (nat_le m most) is in
        let fits : m ≤ most = grind (arith, nat_tests, parts) in
        (ap Some same, omega (arith, same, fits))
    go false is f = cc

pub number-found : (most n : ℕ) (wrong : Fault) (bytes rest : List ℕ) → most < 10000000 → number_at most wrong bytes ≡ Ok (n, rest) → (n ≤ most) × (bytes ≡ line (decimal n) ++ rest)
unfolding number_at
number-found most n wrong bytes rest few e = go (position ends bytes) refl e
  where
    short : (b : Bool) → cond {A = Reading ℕ} b (Err stop.Short) (Err (stop.Wrong wrong)) ≡ Ok (n, rest) → ⊥
    short true f = cc
    short false f = cc

    found : (end : ℕ) → position ends bytes ≡ Some end → (o : Option ℕ) → within 0 most (number_of (take end bytes)) ≡ o
        → numbered o wrong (drop (suc end) bytes) ≡ Ok (n, rest) → (n ≤ most) × (bytes ≡ line (decimal n) ++ rest)
    found end at None is f = cc
    found end at (Some m) is f =
        let fed = bind_ok (feed_at (drop (suc end) bytes)) (λ rest. Ok (m, rest)) (n, rest) f in
        let parts = pair_of fed.2 in
        let same : m ≡ n = parts.0 in
        let left : fed.0 ≡ rest = parts.1 in
        let number = within-found most m (number_of (take end bytes)) is in
        let small : m < 10000000 = omega (arith, number.1, few) in
        let place = position-Some ends bytes end 0 at in
        let byte : get_or bytes end 0 ≡ 13 = (Decides-eqb (get_or bytes end 0) 13).0 place.1 in
        let back : drop (suc end) bytes ≡ 10 ∷ rest = feed-found (drop (suc end) bytes) fed.0 fed.1 ∙ ap (λ l. 10 ∷ l) left in
        let front : take end bytes ≡ decimal n = decimal-only (take end bytes) m number.0 small ∙ ap decimal same in (
          omega (arith, number.1, same),
          split_at bytes end 0 place.0
              ∙ ap (λ d. d ++ get_or bytes end 0 ∷ drop (suc end) bytes) front
              ∙ ap (λ b. decimal n ++ b ∷ drop (suc end) bytes) byte
              ∙ ap (λ l. decimal n ++ 13 ∷ l) back
              ∙ sym (append_assoc (decimal n) (13 ∷ 10 ∷ []) rest),
        )

    go : (at : Option ℕ) → position ends bytes ≡ at → number_before at most wrong bytes ≡ Ok (n, rest) → (n ≤ most) × (bytes ≡ line (decimal n) ++ rest)
    go None is f = absurd (short (nat_le (length bytes) 7) f)
    go (Some end) is f = found end is (within 0 most (number_of (take end bytes))) refl f
