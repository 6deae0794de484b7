-- Bytes that words hold, eight to a word, with zeros behind.
use Rattle.std.proofs.Common.{◌≡◌, ◌↔◌, Option, None, Some, ℕ, zero, suc, ◌+◌, ◌-◌, ◌*◌, ◌<◌, ◌≤◌, ◌/◌, ◌%◌, ◌^◌, List, [], ◌∷◌, length, map, take, drop, get_or, refl, sym, ap, ◌∙◌, arith, inl, inr, length-take, length-drop, replicate, get_or-take, get_or-drop, subst, add-zero}
use Rattle.std.specs.Prelude.{nat_lt}
use Rattle.std.specs.Int.{w64, to_le_bytes}
use Rattle.std.specs.List.{range_with_len, slice_range}
use Rattle.std.specs.Option.{IsSome, IfSome}
use Rattle.std.proofs.lemmas.Bool.{cases_Bool, ltb-false, ltb-true}
use Rattle.std.proofs.lemmas.List.{get_or_past, get_or-replicate, length-replicate, length-take-le}
use Rattle.std.proofs.lemmas.List.FromFn.{get_or-map-range_with_len}
use Rattle.std.proofs.lemmas.Nat.{pow_pos, pow-add, from_le_bytes-to_le_bytes_8}
use Rattle.std.proofs.Math.Pow.{pow_mono}
use Rattle.std.proofs.Math.Nat.{div-eq_of_lt, lt-div-mul-add}
use Rattle.kv_store.specs.Words.{IsWord}
use Rattle.mu_rows.specs.Rows.{number_of, word_of}
use Rattle.mu_rows.specs.Saying.{AreClear}
use Rattle.mu_rows.proofs.Bytes.{word_of-bytes}

below_power : (word k : ℕ) → word / 2 ^ k ≡ 0 → word < 2 ^ k
below_power word k none =
    let within = lt-div-mul-add {a = word} {b = 2 ^ k} (pow_pos k) in
    let product : word / 2 ^ k * 2 ^ k ≡ 0 * 2 ^ k = ap (λ n. n * 2 ^ k) none in
    omega (arith, within, product)

-- the bytes of a small word, from the place on that it doesn't reach
past : (word m : ℕ) → m < 8 → word < 2 ^ (8 * m) → get_or (to_le_bytes w64 word) m 0 ≡ 0
past word zero lt small = omega (arith, small)
past word (suc zero) lt small = omega (arith, small)
past word (suc (suc zero)) lt small = omega (arith, small)
past word (suc (suc (suc zero))) lt small = omega (arith, small)
past word (suc (suc (suc (suc zero)))) lt small = omega (arith, small)
past word (suc (suc (suc (suc (suc zero))))) lt small = omega (arith, small)
past word (suc (suc (suc (suc (suc (suc zero)))))) lt small = omega (arith, small)
past word (suc (suc (suc (suc (suc (suc (suc zero))))))) lt small = omega (arith, small)
past word (suc (suc (suc (suc (suc (suc (suc (suc m)))))))) lt small = absurd (omega (arith, lt))

high : (word kept m : ℕ) → m < 8 → kept ≤ m → word / 2 ^ (8 * kept) ≡ 0 → get_or (to_le_bytes w64 word) m 0 ≡ 0
high word kept m lt low none =
    let small = below_power word (8 * kept) none in
    let more : 2 ^ (8 * kept) ≤ 2 ^ (8 * m) = pow_mono (omega (arith, low)) in
    past word m lt (omega (arith, small, more))

-- each byte of a word of zeros is zero
pub no-byte : (m : ℕ) → get_or (to_le_bytes w64 0) m 0 ≡ 0
no-byte zero = refl
no-byte (suc zero) = refl
no-byte (suc (suc zero)) = refl
no-byte (suc (suc (suc zero))) = refl
no-byte (suc (suc (suc (suc zero)))) = refl
no-byte (suc (suc (suc (suc (suc zero))))) = refl
no-byte (suc (suc (suc (suc (suc (suc zero)))))) = refl
no-byte (suc (suc (suc (suc (suc (suc (suc zero))))))) = refl
no-byte (suc (suc (suc (suc (suc (suc (suc (suc m)))))))) = refl

-- each number of a list of zeros is zero
pub zeros : (n k : ℕ) → get_or {A = ℕ} (replicate n 0) k 0 ≡ 0
zeros n k = elim (cases_Bool (nat_lt k n)) [
  | inl within ↦ get_or-replicate n k 0 0 (ltb-true k n within)
  | inr beyond ↦ let late = ltb-false k n beyond in get_or_past (replicate n 0) k 0 (omega (arith, late, length-replicate {A = ℕ} n 0))
]

-- if all words are read and zeros stand behind, each byte is that of its word
pub bytes-read : (words back : List ℕ) (index : ℕ) → length words ≤ index
    → ((k : ℕ) → k < 8 * index → get_or back k 0 ≡ get_or (to_le_bytes w64 (get_or words (k / 8) 0)) (k % 8) 0)
    → ((k : ℕ) → 8 * index ≤ k → get_or back k 0 ≡ 0)
    → (i : ℕ) → get_or back i 0 ≡ get_or (to_le_bytes w64 (get_or words (i / 8) 0)) (i % 8) 0
bytes-read words back index all done rest i = elim (cases_Bool (nat_lt i (8 * index))) [
  | inl within ↦ done i (ltb-true i (8 * index) within)
  | inr beyond ↦
      let late : 8 * index ≤ i = ltb-false i (8 * index) beyond in
      rest i late ∙ sym (ap (λ w. get_or (to_le_bytes w64 w) (i % 8) 0) (get_or_past words (i / 8) 0 (omega (arith, late, all))) ∙ no-byte (i % 8))
]

-- two sums of eight bytes that are equal one by one are equal
same-sum : (s n a b c d e f g h i j k l m o p q : ℕ)
    → s ≡ a + 256 * b + 65536 * c + 16777216 * d + 4294967296 * e + 1099511627776 * f + 281474976710656 * g + 72057594037927936 * h
    → a ≡ i → b ≡ j → c ≡ k → d ≡ l → e ≡ m → f ≡ o → g ≡ p → h ≡ q
    → i + j * 256 + k * 65536 + l * 16777216 + m * 4294967296 + o * 1099511627776 + p * 281474976710656 + q * 72057594037927936 ≡ n → n ≡ s
same-sum s n a b c d e f g h i j k l m o p q sum at_0 at_1 at_2 at_3 at_4 at_5 at_6 at_7 all = omega arith

-- the bytes that are read off words with zeros behind are those of the words
pub held : (words back : List ℕ) (len : ℕ) → ((i : ℕ) → get_or back i 0 ≡ get_or (to_le_bytes w64 (get_or words (i / 8) 0)) (i % 8) 0)
    → ((j : ℕ) → get_or words j 0 < 2 ^ 64) → AreClear words len
    → (j : ℕ) → j < length words → get_or words j 0 ≡ word_of (take len back) j
held words back len reads fit clear j there =
    let word = get_or words j 0 in
    let byte : (m : ℕ) → m < 8 → get_or (take len back) (8 * j + m) 0 ≡ get_or (to_le_bytes w64 word) m 0 = λ m lt. elim (cases_Bool (nat_lt (8 * j + m) len)) [
      | inl within ↦
          get_or-take len back (8 * j + m) 0 (ltb-true (8 * j + m) len within)
          ∙ reads (8 * j + m)
          ∙ ap (λ k. get_or (to_le_bytes w64 (get_or words k 0)) ((8 * j + m) % 8) 0) (omega (arith, lt))
          ∙ ap (λ k. get_or (to_le_bytes w64 word) k 0) (omega (arith, lt))
      | inr beyond ↦
          let late : len ≤ 8 * j + m = ltb-false (8 * j + m) len beyond in
          let most = length-take len back in
          get_or_past (take len back) (8 * j + m) 0 (omega (arith, most, late))
          ∙ sym (high word (len - 8 * j) m lt (omega (arith, late)) (clear j there (omega (arith, late, lt))))
    ] in
    let first = sym (ap (λ i. get_or (take len back) i 0) (add-zero (8 * j))) ∙ byte 0 (omega arith) in
    same-sum _ word _ _ _ _ _ _ _ _ _ _ _ _ _ _ _ _ (word_of-bytes (take len back) j) first (byte 1 (omega arith)) (byte 2 (omega arith)) (byte 3 (omega arith))
    (byte 4 (omega arith)) (byte 5 (omega arith)) (byte 6 (omega arith)) (byte 7 (omega arith)) (from_le_bytes-to_le_bytes_8 word (fit j))

-- bytes spell a number of their size
sized : (bytes : List ℕ) → ((i : ℕ) → get_or bytes i 0 < 256) → number_of bytes < 2 ^ (8 * length bytes)
sized [] small = omega arith
sized (byte ∷ bytes) small =
    let first : byte < 256 = small 0 in
    let rest = sized bytes (λ i. small (suc i)) in
    let power : 2 ^ (8 * suc (length bytes)) ≡ 256 * 2 ^ (8 * length bytes) =
    ap (λ k. 2 ^ k) (omega arith) ∙ pow-add 2 8 (8 * length bytes) in
    omega (arith, first, rest, power)

-- words that spell bytes have zeros behind them
pub spelled-clear : (words bytes : List ℕ) → ((i : ℕ) → get_or bytes i 0 < 256)
    → words ≡ map (word_of bytes) (range_with_len 0 (length words)) → AreClear words (length bytes)
unfolding word_of
spelled-clear words bytes small same j there few =
    let part = take 8 (drop (8 * j) bytes) in
    let at : get_or words j 0 ≡ word_of bytes j = ap (λ l. get_or l j 0) same ∙ get_or-map-range_with_len (word_of bytes) 0 (length words) j j 0 there (omega arith) in
    let long : length part ≡ length bytes - 8 * j = length-take 8 (drop (8 * j) bytes) ∙ omega (arith, length-drop (8 * j) bytes, few) in
    let byte : (i : ℕ) → get_or part i 0 < 256 = part-small 8 (drop (8 * j) bytes) (dropped-small (8 * j) bytes small) in
    let size : number_of part < 2 ^ (8 * (length bytes - 8 * j)) = subst (λ k. number_of part < 2 ^ (8 * k)) long (sized part byte) in
    ap (λ w. w / 2 ^ (8 * (length bytes - 8 * j))) at ∙ div-eq_of_lt size
  where
    dropped-small : (n : ℕ) (xs : List ℕ) → ((i : ℕ) → get_or xs i 0 < 256) → (i : ℕ) → get_or (drop n xs) i 0 < 256
    dropped-small n xs small i = let is = get_or-drop n xs i 0 in let fits = small (n + i) in omega (arith, is, fits)

    part-small : (n : ℕ) (xs : List ℕ) → ((i : ℕ) → get_or xs i 0 < 256) → (i : ℕ) → get_or (take n xs) i 0 < 256
    part-small n xs small i = elim (cases_Bool (nat_lt i n)) [
      | inl within ↦ let is = get_or-take n xs i 0 (ltb-true i n within) in let fits = small i in omega (arith, is, fits)
      | inr beyond ↦ let late = ltb-false i n beyond in let most = length-take n xs in
          let is = get_or_past (take n xs) i 0 (omega (arith, most, late)) in omega (arith, is)
    ]

-- a part of words has the words that stand there
pub part_at : (words : List ℕ) (from count j : ℕ) → j < count → get_or (take count (drop from words)) j 0 ≡ get_or words (from + j) 0
part_at words from count j lt = get_or-take count (drop from words) j 0 lt ∙ get_or-drop from words j 0

pub part_long : (words : List ℕ) (from count : ℕ) → from + count ≤ length words → length (take count (drop from words)) ≡ count
part_long words from count fits = let long = length-drop from words in let most = length-take count (drop from words) in omega (arith, long, most, fits)

-- the word is one of this length, and its bytes stand in the words from a place on
abbrev pub IsHeld : (words : List ℕ) (from count most len : ℕ) → List ℕ → Type 0
IsHeld words from count most len word = IsWord most word × (len ≡ length word) × ((j : ℕ) → j < count → get_or words (from + j) 0 ≡ word_of word j)

-- if a maker of words makes a word of the bytes that words hold, they hold this word
pub maker_holds : (result : Option (List ℕ)) (most : ℕ) (words back part : List ℕ) (len : ℕ)
    → (IsSome result ↔ IsWord most part) → IfSome result (λ w. w ≡ part) → part ≡ take len back → length part ≡ len
    → ((j : ℕ) → j < length words → get_or words j 0 ≡ word_of (take len back) j)
    → IfSome result (λ w. IsWord most w × (len ≡ length w) × ((j : ℕ) → j < length words → get_or words j 0 ≡ word_of w j))
maker_holds (Some w) most words back part len allowed same is long held =
    (subst (IsWord most) (sym same) (allowed.0 refl), sym long ∙ ap length (sym same), λ j lt. held j lt ∙ ap (λ l. word_of l j) (sym is ∙ sym same))
maker_holds None most words back part len allowed same is long held = tt

-- what is read off a part of words is read off the words
pub held_in_whole : (result : Option (List ℕ)) (most : ℕ) (words : List ℕ) (from count len : ℕ) → from + count ≤ length words
    → IfSome result (λ w. IsWord most w × (len ≡ length w) × ((j : ℕ) → j < length (take count (drop from words)) → get_or (take count (drop from words)) j 0 ≡ word_of w j))
    → IfSome result (IsHeld words from count most len)
held_in_whole (Some w) most words from count len fits holds =
    (holds.0, holds.1, λ j lt. sym (part_at words from count j lt) ∙ holds.2 j (let long = part_long words from count fits in omega (arith, long, lt)))
held_in_whole None most words from count len fits holds = tt

-- a range from 0 on is the front
pub front : (back part : List ℕ) (len : ℕ) → part ≡ slice_range back 0 len → part ≡ take len back
front back part len is = is ∙ ap (λ n. take n back) (omega arith)

pub front_long : (back part : List ℕ) (len : ℕ) → part ≡ slice_range back 0 len → len ≤ length back → length part ≡ len
front_long back part len is fits = ap length (front back part len is) ∙ length-take-le len back fits

pub part-fits : (words : List ℕ) (from count : ℕ) → ((j : ℕ) → get_or words j 0 < 2 ^ 64) → (j : ℕ) → get_or (take count (drop from words)) j 0 < 2 ^ 64
part-fits words from count fit j = elim (cases_Bool (nat_lt j count)) [
  | inl within ↦ let is = part_at words from count j (ltb-true j count within) in let fits = fit (from + j) in omega (arith, is, fits)
  | inr beyond ↦
      let late = ltb-false j count beyond in
      let most = length-take count (drop from words) in
      let is = get_or_past (take count (drop from words)) j 0 (omega (arith, most, late)) in
      omega (arith, is)
]

-- eight words that are clear from the start on are zeros
pub clear-none : (words : List ℕ) → length words ≡ 12 → AreClear (take 8 (drop 4 words)) 0 → (j : ℕ) → j < 8 → get_or words (4 + j) 0 ≡ 0
clear-none words long clear j lt =
    let part = take 8 (drop 4 words) in
    let count : length part ≡ 8 = part_long words 4 8 (omega (arith, long)) in
    let no : 0 - 8 * j ≡ 0 = omega arith in
    let none : get_or part j 0 / 2 ^ (8 * 0) ≡ 0 = subst (λ n. get_or part j 0 / 2 ^ (8 * n) ≡ 0) no (clear j (omega (arith, count, lt)) (omega arith)) in
    let small : get_or part j 0 < 1 = below_power (get_or part j 0) 0 none in
    let is = part_at words 4 8 j lt in
    omega (arith, small, is)

pub none-clear : (words : List ℕ) → length words ≡ 12 → ((j : ℕ) → j < 8 → get_or words (4 + j) 0 ≡ 0) → AreClear (take 8 (drop 4 words)) 0
none-clear words long none j there few =
    let lt : j < 8 = let count = part_long words 4 8 (omega (arith, long)) in omega (arith, count, there) in
    ap (λ w. w / 2 ^ (8 * (0 - 8 * j))) (part_at words 4 8 j lt ∙ none j lt) ∙ div-eq_of_lt (pow_pos (8 * (0 - 8 * j)))
