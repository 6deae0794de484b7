-- What a row says of the command that it spells.
use Rattle.std.proofs.Common.{◌≡◌, ◌↔◌, Option, None, Some, subst, add-zero, ℕ, zero, suc, ◌+◌, ◌*◌, ◌<◌, ◌≤◌, ◌/◌, ◌%◌, List, [], ◌∷◌, length, map, take, drop, get_or, refl, sym, ap, ◌∙◌, arith, length-take, get_or-take, inl, inr}
use Rattle.std.specs.Prelude.{nat_lt}
use Rattle.std.specs.Option.{IsSome, IfSome}
use Rattle.std.proofs.lemmas.Bool.{cases_Bool, false≢true, ltb-false, ltb-true}
use Rattle.std.specs.Int.{w64, to_le_bytes}
use Rattle.std.specs.List.{range_with_len, slice_range}
use Rattle.std.proofs.lemmas.Grind.{common_steps, same_number_lists}
use Rattle.std.proofs.lemmas.List.{length-take-le}
use Rattle.std.proofs.lemmas.List.FromFn.{length-map-range_with_len, get_or-map-range_with_len}
use Rattle.std.proofs.lemmas.Nat.{le_bytes_8}
use Rattle.kv_store.specs.Commands.{Request, AreShort, HasShortTexts, IsAllowed, key_of}
use Rattle.kv_store.specs.Words.{IsKey, IsWord, IsText}
use Rattle.kv_store.specs.declared.command.Arguments.{Arguments}
use Rattle.kv_store.specs.declared.command.Op.{Op}
use Rattle.kv_store.specs.Kinds.{parts_of, shape_of, shape_of_kind}
use Rattle.kv_store.proofs.PartsBack.{code-small, same-kind, same-parts, shape-parts}
use Rattle.mu_rows.specs.Rows.{word_of, code_of, first_of, second_of, first_text, second_text, head_word, argument_word, text_word, spelled, AreTexts, HasWords, IsCommand}
use Rattle.mu_rows.specs.Saying.{SaysOp}
use Rattle.std.proofs.Math.Nat.{div-div-eq-div-mul}
use Rattle.mu_rows.proofs.Bytes.{word_of-bytes}

-- visible bytes are bytes
pub below : (most : ℕ) (bytes : List ℕ) → IsWord most bytes → (i : ℕ) → get_or bytes i 0 < 256
below most bytes word i = grind (arith, common_steps, word.visible i 0)

below-map : (f : ℕ → ℕ) → ((i : ℕ) → f i < 256) → (xs : List ℕ) (i : ℕ) → get_or (map f xs) i 0 < 256
below-map f small [] i = omega arith
below-map f small (x ∷ xs) zero = small x
below-map f small (x ∷ xs) (suc i) = below-map f small xs i

-- the bytes of a word are those that it was made of
word-back : (bytes : List ℕ) (j m : ℕ) → ((i : ℕ) → get_or bytes i 0 < 256) → m < 8
    → get_or (to_le_bytes w64 (word_of bytes j)) m 0 ≡ get_or bytes (8 * j + m) 0
word-back bytes j m small lt =
    let f : ℕ → ℕ = λ i. get_or bytes (8 * j + i) 0 in
    ap (λ l. get_or l m 0) (le_bytes_8 (map f (range_with_len 0 8)) (word_of bytes j) refl (below-map f (λ i. small (8 * j + i)) (range_with_len 0 8)) (omega (arith, word_of-bytes bytes j, ap (λ i. get_or bytes i 0) (add-zero (8 * j)))))
    ∙ get_or-map-range_with_len f 0 8 m m 0 lt (omega arith)

byte-back : (bytes : List ℕ) → ((i : ℕ) → get_or bytes i 0 < 256) → (i : ℕ)
    → get_or (to_le_bytes w64 (word_of bytes (i / 8))) (i % 8) 0 ≡ get_or bytes i 0
byte-back bytes small i =
    word-back bytes (i / 8) (i % 8) small (omega arith) ∙ ap (λ k. get_or bytes k 0) (omega arith)

-- bytes are read back where their words stand
pub bytes-back : (bytes words back : List ℕ) (count : ℕ) → IsText bytes → length bytes ≤ 8 * count
    → take count words ≡ map (word_of bytes) (range_with_len 0 count) → length back ≡ 64
    → ((i : ℕ) → i < 64 → i / 8 < length words → get_or back i 0 ≡ get_or (to_le_bytes w64 (get_or words (i / 8) 0)) (i % 8) 0)
    → take (length bytes) back ≡ bytes
bytes-back bytes words back count text fits same long reads =
    let small = below 64 bytes text in
    let words_long : count ≤ length words = omega (arith, sym (length-take count words) ∙ ap length same ∙ length-map-range_with_len (word_of bytes) 0 count) in
    let word : (j : ℕ) → j < count → get_or words j 0 ≡ word_of bytes j = λ j lt. sym (get_or-take count words j 0 lt) ∙ ap (λ l. get_or l j 0) same ∙ get_or-map-range_with_len (word_of bytes) 0 count j j 0 lt (omega arith) in
    let all : length (take (length bytes) back) ≡ length bytes = length-take-le (length bytes) back (omega (arith, text.fits)) in
    same_number_lists (take (length bytes) back) bytes all
    (λ i lt. let within : i < length bytes = omega arith in
    get_or-take (length bytes) back i 0 within
    ∙ reads i (omega (arith, text.fits)) (omega arith)
    ∙ ap (λ w. get_or (to_le_bytes w64 w) (i % 8) 0) (word (i / 8) (omega arith))
    ∙ byte-back bytes small i)

-- one word more is put where its bytes stand
pub word-put : (words old new : List ℕ) (index : ℕ) → ((k : ℕ) → k < 8 * index → get_or old k 0 ≡ get_or (to_le_bytes w64 (get_or words (k / 8) 0)) (k % 8) 0)
    → ((m : ℕ) → m < 8 → get_or new (8 * index + m) 0 ≡ get_or (to_le_bytes w64 (get_or words index 0)) m 0)
    → ((k : ℕ) → k < 8 * index → get_or new k 0 ≡ get_or old k 0)
    → (k : ℕ) → k < 8 * (index + 1) → get_or new k 0 ≡ get_or (to_le_bytes w64 (get_or words (k / 8) 0)) (k % 8) 0
word-put words old new index done own before k low = elim (cases_Bool (nat_lt k (8 * index))) [
  | inl there ↦ let early = ltb-true k (8 * index) there in before k early ∙ done k early
  | inr late ↦
      let high = ltb-false k (8 * index) late in
      let place : 8 * index + k % 8 ≡ k = omega (arith, high, low) in
      let word : index ≡ k / 8 = omega (arith, high, low) in
      sym (ap (λ i. get_or new i 0) place) ∙ own (k % 8) (omega arith) ∙ ap (λ j. get_or (to_le_bytes w64 (get_or words j 0)) (k % 8) 0) word
]

-- words of bytes of one length tell them
words-tell : (most : ℕ) (a b : List ℕ) (count : ℕ) → IsWord most a → IsWord most b → length a ≡ length b → length a ≤ 8 * count
    → map (word_of a) (range_with_len 0 count) ≡ map (word_of b) (range_with_len 0 count) → a ≡ b
words-tell most a b count word_a word_b long fits same =
    let at : (j : ℕ) → j < count → word_of a j ≡ word_of b j = λ j lt. sym (get_or-map-range_with_len (word_of a) 0 count j j 0 lt (omega arith)) ∙ ap (λ l. get_or l j 0) same ∙ get_or-map-range_with_len (word_of b) 0 count j j 0 lt (omega arith) in
    same_number_lists a b long
    (λ i lt. sym (byte-back a (below most a word_a) i)
    ∙ ap (λ w. get_or (to_le_bytes w64 w) (i % 8) 0) (at (i / 8) (omega arith))
    ∙ byte-back b (below most b word_b) i)

-- the fields of the head word have room for the number and the lengths of an operation
record Small (op : Op) : Type 0 where
  pub code : code_of op < 256
  pub key : IsWord 24 (key_of op)
  pub first : length (first_text op) ≤ 64
  pub second : length (second_text op) ≤ 64

small_texts : (a : Arguments) → AreTexts a → (length (first_of a) ≤ 64) × (length (second_of a) ≤ 64)
small_texts Arguments.Nothing h = (omega arith, omega arith)
small_texts (Arguments.Text text) h = (h.fits, omega arith)
small_texts (Arguments.Texts first second) h = (h.0.fits, h.1.fits)

small : (op : Op) → HasWords op → Small op
small op h =
    let texts = small_texts (parts_of op).arguments h.1 in
    record { code = code-small (parts_of op).kind; key = h.0; first = texts.0; second = texts.1 }

-- the fields of the head word of a command
pub record Fields (head : ℕ) (r : Request) (k : ℕ) : Type 0 where
  pub code : head % 256 ≡ code_of r.op
  pub client : head / 256 % 256 ≡ r.client
  pub number : head / 65536 % 65536 ≡ r.number
  pub key : head / 4294967296 % 256 ≡ length (key_of r.op)
  pub first : head / 1099511627776 % 256 ≡ length (first_text r.op)
  pub second : head / 281474976710656 % 256 ≡ length (second_text r.op)
  pub rest : head / 72057594037927936 ≡ k

pub head_has_fields : (head : ℕ) (r : Request) (k : ℕ) → IsCommand r → k ≤ 3 → head ≡ head_word r k → Fields head r k
head_has_fields head r k is few same =
    let s = small r.op is.words in
    let code : code_of r.op < 256 = s.code in
    let client : r.client ≤ 15 = is.allowed.client_known in
    let number : r.number ≤ 1500 = is.allowed.number_fits in
    let key : length (key_of r.op) ≤ 24 = s.key.fits in
    let first : length (first_text r.op) ≤ 64 = s.first in
    let second : length (second_text r.op) ≤ 64 = s.second in
    record {
      code = omega arith;
      client = omega arith;
      number = omega arith;
      key = omega arith;
      first = omega arith;
      second = omega arith;
      rest = omega arith;
    }

-- a request of these parts
abbrev the-request : ℕ → ℕ → Op → Request
the-request client number op = record { client = client; number = number; op = op }

one-request : {a b x y : ℕ} {o p : Op} → a ≡ x → b ≡ y → o ≡ p
    → the-request a b o ≡ the-request x y p
one-request {a} {b} {x} {y} {o} {p} e f g = ap (λ a. the-request a b o) e ∙ ap (λ b. the-request x b o) f ∙ ap (the-request x y) g

-- the words of the texts of an operation
abbrev texts : Op → List ℕ
texts op = map (text_word op) (range_with_len 0 8)

byte-and-rest : (n p : ℕ) → n / p ≡ n / p % 256 + n / (p * 256) * 256
byte-and-rest n p = omega (arith, div-div-eq-div-mul n p 256)

joined-head : (n a b c d e f p q r s t u v : ℕ) → n ≡ a + p * 256 → p ≡ b + q * 256 → q ≡ c + r * 65536 → r ≡ d + s * 256 → s ≡ e + t * 256 → t ≡ f + u * 256
    → {A B C D E F : ℕ} → a ≡ A → b ≡ B → c ≡ C → d ≡ D → e ≡ E → f ≡ F → u ≡ v
    → n ≡ A + 256 * B + 65536 * C + 4294967296 * D + 1099511627776 * E + 281474976710656 * F + 72057594037927936 * v
joined-head n a b c d e f p q r s t u v at_0 at_1 at_2 at_3 at_4 at_5 is_a is_b is_c is_d is_e is_f is_u = omega arith

-- words that say of each part what it is are the row
pub row-said : (words : List ℕ) (r : Request) (k : ℕ) → length words ≡ 12 → SaysOp words r.op → get_or words 0 0 / 256 % 256 ≡ r.client
    → get_or words 0 0 / 65536 % 65536 ≡ r.number → get_or words 0 0 / 72057594037927936 ≡ k → words ≡ spelled r k
row-said words r k long says client number rest = same_number_lists words (spelled r k) long (λ i lt. each i (omega (arith, lt, long)))
  where
    head : get_or words 0 0 ≡ head_word r k
    head =
        let code = says.code in
        let key = says.key_length in
        let first = says.arguments.first_length in
        let second = says.arguments.second_length in
        let n = get_or words 0 0 in
        let low : n ≡ n % 256 + n / 256 * 256 = omega arith in
        let wide : n / 65536 ≡ n / 65536 % 65536 + n / 4294967296 * 65536 = omega (arith, div-div-eq-div-mul n 65536 65536) in
        joined-head n _ _ _ _ _ _ _ _ _ _ _ _ _ low (byte-and-rest n 256) wide (byte-and-rest n 4294967296) (byte-and-rest n 1099511627776) (byte-and-rest n 281474976710656)
        code client number key first second rest

    each : (i : ℕ) → i < 12 → get_or words i 0 ≡ get_or (spelled r k) i 0
    each zero lt = head
    each (suc zero) lt = says.key 0 (omega arith)
    each (suc (suc zero)) lt = says.key 1 (omega arith)
    each (suc (suc (suc zero))) lt = says.key 2 (omega arith)
    each (suc (suc (suc (suc zero)))) lt = says.arguments.texts 0 (omega arith)
    each (suc (suc (suc (suc (suc zero))))) lt = says.arguments.texts 1 (omega arith)
    each (suc (suc (suc (suc (suc (suc zero)))))) lt = says.arguments.texts 2 (omega arith)
    each (suc (suc (suc (suc (suc (suc (suc zero))))))) lt = says.arguments.texts 3 (omega arith)
    each (suc (suc (suc (suc (suc (suc (suc (suc zero)))))))) lt = says.arguments.texts 4 (omega arith)
    each (suc (suc (suc (suc (suc (suc (suc (suc (suc zero))))))))) lt = says.arguments.texts 5 (omega arith)
    each (suc (suc (suc (suc (suc (suc (suc (suc (suc (suc zero)))))))))) lt = says.arguments.texts 6 (omega arith)
    each (suc (suc (suc (suc (suc (suc (suc (suc (suc (suc (suc zero))))))))))) lt = says.arguments.texts 7 (omega arith)
    each (suc (suc (suc (suc (suc (suc (suc (suc (suc (suc (suc (suc i)))))))))))) lt = absurd (omega (arith, lt))

pub key-text : (key : List ℕ) → IsKey key → IsText key
key-text key is = record { some = is.some; fits = omega (arith, is.fits); visible = is.visible }

-- a range at the front is the front
pub front_is_word : (bytes part word : List ℕ) (len : ℕ) → part ≡ slice_range bytes 0 len → len ≡ length word → take (length word) bytes ≡ word → part ≡ word
front_is_word bytes part word len is long same = is ∙ ap (λ n. take n bytes) (omega (arith, long)) ∙ same

-- what a maker of words answers, of bytes that are the word
pub maker_gives_word : (result : Option (List ℕ)) (most : ℕ) (bytes word : List ℕ) → (IsSome result ↔ IsWord most bytes) → IfSome result (λ w. w ≡ bytes)
    → bytes ≡ word → IsWord most word → result ≡ Some word
maker_gives_word (Some w) most bytes word allowed same is fits = ap Some (same ∙ is)
maker_gives_word None most bytes word allowed same is fits = absurd (false≢true (allowed.1 (subst (IsWord most) (sym is) fits)))

-- what the maker of commands answers to the parts of a command
pub maker_gives_command : (result : Option Request) (client number : ℕ) (op : Op) (r : Request) → (IsSome result ↔ IsAllowed client number op)
    → IfSome result (λ x. x ≡ record { client = client; number = number; op = op }) → client ≡ r.client → number ≡ r.number → op ≡ r.op
    → IsAllowed r.client r.number r.op → result ≡ Some r
maker_gives_command (Some x) client number op r allowed same c n o is = ap Some (same ∙ one-request c n o)
maker_gives_command None client number op r allowed same c n o is = absurd (false≢true (allowed.1 (rw (c, n, o) is)))

-- arguments of one shape with the same words are the same
same-arguments : (a b : Arguments) → AreTexts a → AreTexts b → AreShort a → AreShort b → shape_of a ≡ shape_of b
    → length (first_of a) ≡ length (first_of b) → length (second_of a) ≡ length (second_of b)
    → map (argument_word a) (range_with_len 0 8) ≡ map (argument_word b) (range_with_len 0 8) → a ≡ b
same-arguments Arguments.Nothing Arguments.Nothing wa wb sa sb shape fl sl ts = refl
same-arguments (Arguments.Text t) (Arguments.Text u) wa wb sa sb shape fl sl ts = ap Arguments.Text (words-tell 64 t u 8 wa wb fl (omega (arith, wa.fits)) ts)
same-arguments (Arguments.Texts o n) (Arguments.Texts p q) wa wb sa sb shape fl sl ts =
    ap (λ o. Arguments.Texts o n) (words-tell 64 o p 4 wa.0 wb.0 fl (omega (arith, sa.0)) (ap (take 4) ts))
    ∙ ap (Arguments.Texts p) (words-tell 64 n q 4 wa.1 wb.1 sl (omega (arith, sa.1)) (ap (drop 4) ts))
same-arguments a b wa wb sa sb shape fl sl ts = cc

-- operations with the same words are the same
same-op : (o p : Op) → HasWords o → HasWords p → HasShortTexts o → HasShortTexts p → code_of o ≡ code_of p
    → length (key_of o) ≡ length (key_of p) → length (first_text o) ≡ length (first_text p) → length (second_text o) ≡ length (second_text p)
    → map (word_of (key_of o)) (range_with_len 0 3) ≡ map (word_of (key_of p)) (range_with_len 0 3) → texts o ≡ texts p → o ≡ p
same-op o p wo wp so sp c kl fl sl ks ts =
    let kind = same-kind (parts_of o).kind (parts_of p).kind c in
    let key = words-tell 24 (key_of o) (key_of p) 3 wo.0 wp.0 kl (omega (arith, wo.0.fits)) ks in
    let arguments = same-arguments (parts_of o).arguments (parts_of p).arguments wo.1 wp.1 so sp (shape-parts o ∙ ap shape_of_kind kind ∙ sym (shape-parts p)) fl sl ts in
    same-parts o p key kind arguments

-- commands with one row are the same
pub same-row : (c d : Request) (j k : ℕ) → IsCommand c → IsCommand d → j ≤ 3 → k ≤ 3 → spelled c j ≡ spelled d k → (c ≡ d) × (j ≡ k)
same-row c d j k is_c is_d few_j few_k same =
    let f = head_has_fields (head_word c j) c j is_c few_j refl in
    let g = head_has_fields (head_word c j) d k is_d few_k (ap (λ l. get_or l 0 0) same) in
    let op = same-op c.op d.op is_c.words is_d.words is_c.allowed.short_texts is_d.allowed.short_texts
    (sym f.code ∙ g.code) (sym f.key ∙ g.key) (sym f.first ∙ g.first) (sym f.second ∙ g.second)
    (ap (λ l. take 3 (drop 1 l)) same) (ap (drop 4) same) in
    (one-request (sym f.client ∙ g.client) (sym f.number ∙ g.number) op, sym f.rest ∙ g.rest)

-- what the maker of commands makes of an operation that words say
pub maker_says : (result : Option Request) (words : List ℕ) (client number : ℕ) (op : Op) → (IsSome result ↔ IsAllowed client number op)
    → IfSome result (λ x. x ≡ record { client = client; number = number; op = op }) → length words ≡ 12 → SaysOp words op
    → get_or words 0 0 / 256 % 256 ≡ client → get_or words 0 0 / 65536 % 65536 ≡ number
    → IfSome result (λ x. IsCommand x × ((k : ℕ) → get_or words 0 0 / 72057594037927936 ≡ k → words ≡ spelled x k))
maker_says (Some x) words client number op allowed same long says c n =
    subst (λ y. IsCommand y × ((k : ℕ) → get_or words 0 0 / 72057594037927936 ≡ k → words ≡ spelled y k)) (sym same)
    (record { allowed = allowed.0 refl; words = (says.is_key, says.arguments.has) }, λ k rest. row-said words (the-request client number op) k long says c n rest)
maker_says None words client number op allowed same long says c n = tt
