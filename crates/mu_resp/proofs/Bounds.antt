-- How many bytes a request has that isn't whole yet.
use Rattle.std.proofs.Common.{◌≡◌, ℕ, zero, suc, ◌+◌, ◌*◌, ◌<◌, ◌≤◌, ◌⊎◌, inl, inr, ◌&&◌, ◌==◌, nat_le, nat_lt, not, Bool, true, false, cond, List, [], ◌∷◌, ◌++◌, length, take, drop, Ok, Err, None, Some, refl, ap, length-append, arith}
use Rattle.std.specs.declared.option.Option.{Option}
use Rattle.std.specs.declared.result.Result.{Result}
use Rattle.std.specs.Fmt.{decimal}
use Rattle.std.specs.List.{list_all, position}
use Rattle.std.proofs.lemmas.Bool.Decides.{nat_tests}
use Rattle.std.proofs.lemmas.Grind.{common_steps}
use Rattle.std.proofs.lemmas.Fmt.{length-decimal-le}
use Rattle.std.proofs.lemmas.List.Quantifiers.{position-Some}
use Rattle.mu_text.specs.Numbers.{has_leading_zero, is_decimal, is_digit, number_of, value_of, within}
use Rattle.mu_resp.specs.declared.stop.Fault.{Fault}
use Rattle.mu_resp.specs.declared.stop.Fault.TheVariants as fault
use Rattle.mu_resp.specs.declared.stop.Stop.{Stop}
use Rattle.mu_resp.specs.declared.stop.Stop.TheVariants as stop
use Rattle.mu_resp.specs.Laws.{IsSoonWhole}
use Rattle.mu_resp.specs.Readings.{◌>>=◌, Reading, bulk_at, bulks_at, end_at, feed_at, number_at, number_before, numbered, onto, request_at, text_at}
use Rattle.mu_resp.specs.Requests.{bulk, header, line}
use Rattle.mu_resp.proofs.LineNumbers.{both, number-found, within-found}
use Rattle.mu_resp.proofs.Spellings.{bulk-found}

-- a reading isn't whole
abbrev IsShort : {A : Type 0} → Result A Stop → Type 0
IsShort {A} r = ◌≡◌ {A = Result A Stop} r (Err stop.Short)

err_same : {A : Type 0} {s t : Stop} → ◌≡◌ {A = Result A Stop} (Err s) (Err t) → s ≡ t
err_same e = cc

bind_short : {A B : Type 0} (r : Result A Stop) (f : A → Result B Stop) → IsShort (r >>= f) → IsShort r ⊎ ((x : A) × (r ≡ Ok x) × IsShort (f x))
bind_short (Ok x) f e = inr (x, refl, e)
bind_short {A} {B} (Err s) f e = inl (ap Err (err_same {A = B} e))

feed-short : (bytes : List ℕ) → IsShort (feed_at bytes) → length bytes ≤ 0
feed-short [] e = omega arith
feed-short (byte ∷ bytes) e = absurd (go (byte == 10) e)
  where
    go : (b : Bool) → IsShort (cond {A = Result (List ℕ) Stop} b (Ok bytes) (Err (stop.Wrong fault.LineEnd))) → ⊥
    go true f = cc
    go false f = cc

end-short : (bytes : List ℕ) → IsShort (end_at bytes) → length bytes ≤ 1
end-short [] e = omega arith
end-short (byte ∷ bytes) e = go (byte == 13) e
  where
    go : (b : Bool) → IsShort (cond {A = Result (List ℕ) Stop} b (feed_at bytes) (Err (stop.Wrong fault.LineEnd))) → length (byte ∷ bytes) ≤ 1
    go true f = omega (arith, feed-short bytes f)
    go false f = cc

few_digits : (word : List ℕ) (n : ℕ) → number_of word ≡ Some n → length word ≤ 7
few_digits word n e = go (is_decimal 7 word) refl e
  where
    go : (b : Bool) → is_decimal 7 word ≡ b → cond b (Some (value_of word)) None ≡ Some n → length word ≤ 7
    go true is f =
        let parts = both (nat_le 1 (length word) && nat_le (length word) 7) (list_all is_digit word && not (has_leading_zero word)) is in
        let lengths = both (nat_le 1 (length word)) (nat_le (length word) 7) parts.0 in
        grind (arith, nat_tests, lengths)
    go false is f = cc

number-short : (most : ℕ) (wrong : Fault) (bytes : List ℕ) → IsShort (number_at most wrong bytes) → length bytes ≤ 8
unfolding number_at
number-short most wrong bytes e = go (position (λ byte. byte == 13) bytes) refl e
  where
    missing : (b : Bool) → nat_le (length bytes) 7 ≡ b → IsShort (cond {A = Result (ℕ × List ℕ) Stop} b (Err stop.Short) (Err (stop.Wrong wrong))) → length bytes ≤ 8
    missing true is f = grind (arith, nat_tests, is)
    missing false is f = cc

    found : (end : ℕ) → end < length bytes → (o : Option ℕ) → within 0 most (number_of (take end bytes)) ≡ o → IsShort (numbered o wrong (drop (suc end) bytes)) → length bytes ≤ 8
    found end inside None is f = cc
    found end inside (Some m) is f = elim (bind_short (feed_at (drop (suc end) bytes)) (λ rest. Ok (m, rest)) f) [
      | inl fed ↦
          let digits = few_digits (take end bytes) m (within-found most m (number_of (take end bytes)) is).0 in
          let front : length (take end bytes) ≡ end = grind (arith, common_steps, inside) in
          let back : length (drop (suc end) bytes) + suc end ≡ length bytes = grind (arith, common_steps, inside) in
          omega (arith, digits, front, back, feed-short (drop (suc end) bytes) fed)
      | inr read ↦ let no = read.2 in cc
    ]

    go : (at : Option ℕ) → position (λ byte. byte == 13) bytes ≡ at → IsShort (number_before at most wrong bytes) → length bytes ≤ 8
    go None is f = missing (nat_le (length bytes) 7) refl f
    go (Some end) is f = found end (position-Some (λ byte. byte == 13) bytes end 0 is).0 (within 0 most (number_of (take end bytes))) refl f

length-header : (sign n : ℕ) → n < 10000000 → length (header sign n) ≤ 10
length-header sign n small =
    let digits = length-decimal-le 7 n (omega arith) (omega (arith, small)) (omega (arith, small)) in
    omega (arith, digits, length-append (decimal n) (13 ∷ 10 ∷ []))

number-length : (most n : ℕ) (wrong : Fault) (bytes rest : List ℕ) → most < 10000000 → number_at most wrong bytes ≡ Ok (n, rest) → (n ≤ most) × (length bytes ≤ 9 + length rest)
number-length most n wrong bytes rest few e =
    let found = number-found most n wrong bytes rest few e in
    let digits = length-decimal-le 7 n (omega arith) (omega (arith, found.0, few)) (omega (arith, found.0, few)) in
    (found.0, omega (arith, digits, ap length found.1, length-append (line (decimal n)) rest, length-append (decimal n) (13 ∷ 10 ∷ [])))

text-short : (count : ℕ) (bytes : List ℕ) → IsShort (text_at count bytes) → length bytes ≤ count + 1
text-short count bytes e = go (nat_lt (length bytes) count) refl e
  where
    go : (b : Bool) → nat_lt (length bytes) count ≡ b
        → IsShort (cond {A = Reading (List ℕ)} b (Err stop.Short) (end_at (drop count bytes) >>= λ rest. Ok (take count bytes, rest))) → length bytes ≤ count + 1
    go true is f = grind (arith, nat_tests, is)
    go false is f = elim (bind_short (end_at (drop count bytes)) (λ rest. Ok (take count bytes, rest)) f) [
      | inl ended ↦
          let fits : count ≤ length bytes = grind (arith, nat_tests, is) in
          let back : length (drop count bytes) + count ≡ length bytes = grind (arith, common_steps, fits) in
          omega (arith, back, end-short (drop count bytes) ended)
      | inr read ↦ let no = read.2 in cc
    ]

bulk-short : (bytes : List ℕ) → IsShort (bulk_at bytes) → length bytes ≤ 1036
unfolding bulk_at
bulk-short [] e = omega arith
bulk-short (sign ∷ bytes) e = go (sign == 36) e
  where
    go : (b : Bool) → IsShort (cond {A = Reading (List ℕ)} b (number_at 1024 fault.WordLength bytes >>= λ header. text_at header.0 header.1) (Err (stop.Wrong (fault.NoWord sign)))) → length (sign ∷ bytes) ≤ 1036
    go true f = elim (bind_short (number_at 1024 fault.WordLength bytes) (λ header. text_at header.0 header.1) f) [
      | inl number ↦ omega (arith, number-short 1024 fault.WordLength bytes number)
      | inr read ↦
          let number = number-length 1024 read.0.0 fault.WordLength bytes read.0.1 (omega arith) read.1 in
          omega (arith, number.0, number.1, text-short read.0.0 read.0.1 read.2)
    ]
    go false f = cc

bulk-length : (bytes word rest : List ℕ) → bulk_at bytes ≡ Ok (word, rest) → length bytes ≤ 1036 + length rest
bulk-length bytes word rest e =
    let found = bulk-found bytes word rest e in
    let front = length-header 36 (length word) (omega (arith, found.0)) in
    omega (arith, front, found.0, ap length found.1, length-append (bulk word) rest, length-append (header 36 (length word)) (line word), length-append word (13 ∷ 10 ∷ []))

bulks-short : (count : ℕ) (bytes : List ℕ) → IsShort (bulks_at count bytes) → length bytes ≤ 1036 * count
bulks-short zero bytes e = cc
bulks-short (suc count) bytes e = elim (bind_short (bulk_at bytes) (λ word. onto (word.0 ∷ []) (bulks_at count word.1)) e) [
  | inl word ↦ omega (arith, bulk-short bytes word)
  | inr read ↦ elim (bind_short (bulks_at count read.0.1) (λ more. Ok ((read.0.0 ∷ []) ++ more.0, more.1)) read.2) [
    | inl others ↦ omega (arith, bulk-length bytes read.0.0 read.0.1 read.1, bulks-short count read.0.1 others)
    | inr more ↦ let no = more.2 in cc
  ]
]

pub soon_whole : IsSoonWhole
unfolding request_at
soon_whole [] e = omega arith
soon_whole (sign ∷ bytes) e = go (sign == 42) e
  where
    go : (b : Bool) → IsShort (cond {A = Reading (List (List ℕ))} b (number_at 16 fault.WordCount bytes >>= λ header. bulks_at header.0 header.1) (Err (stop.Wrong (fault.NoRequest sign)))) → length (sign ∷ bytes) < 16896
    go true f = elim (bind_short (number_at 16 fault.WordCount bytes) (λ header. bulks_at header.0 header.1) f) [
      | inl number ↦ omega (arith, number-short 16 fault.WordCount bytes number)
      | inr read ↦
          let number = number-length 16 read.0.0 fault.WordCount bytes read.0.1 (omega arith) read.1 in
          omega (arith, number.0, number.1, bulks-short read.0.0 read.0.1 read.2)
    ]
    go false f = cc
