-- Requests in pieces: what is read or refused stays so, however the bytes go on.
use Rattle.std.proofs.Common.{◌≡◌, ℕ, zero, suc, ◌<◌, ◌≤◌, ◌⊎◌, inl, inr, ◌&&◌, ◌==◌, nat_le, nat_lt, not, Bool, true, false, cond, List, [], ◌∷◌, ◌++◌, length, take, drop, get_or, Ok, Err, None, Some, refl, sym, ap, ◌∙◌, append_assoc, length-append, arith}
use Rattle.std.specs.declared.option.Option.{Option}
use Rattle.std.specs.declared.result.Result.{Result}
use Rattle.std.specs.Fmt.{decimal}
use Rattle.std.specs.List.{list_all, position, position_or_len}
use Rattle.std.proofs.lemmas.Bool.{cases_lt, true≢false}
use Rattle.std.proofs.lemmas.Bool.Decides.{nat_tests}
use Rattle.std.proofs.lemmas.Grind.{common_steps}
use Rattle.std.proofs.lemmas.List.{get_or_append_left, take-append-le, drop-append-le}
use Rattle.std.proofs.lemmas.List.Quantifiers.{position-Some}
use Rattle.std.proofs.lemmas.List.Sums.{position_or_len_is}
use Rattle.mu_text.specs.Numbers.{has_leading_zero, is_digit, number_of, value_of, within}
use Rattle.mu_text.proofs.Cutting.{none_passes}
use Rattle.mu_resp.specs.declared.stop.Fault.{Fault}
use Rattle.mu_resp.specs.declared.stop.Fault.TheVariants as fault
use Rattle.mu_resp.specs.declared.stop.Stop.{Stop}
use Rattle.mu_resp.specs.declared.stop.Stop.TheVariants as stop
use Rattle.mu_resp.specs.Laws.{IsReadForGood, IsRefusedForGood, IsRefusedJustly}
use Rattle.mu_resp.specs.Readings.{◌>>=◌, Reading, bulk_at, bulks_at, end_at, feed_at, number_at, number_before, numbered, onto, request_at, text_at}
use Rattle.mu_resp.specs.Requests.{bulk, line, request}
use Rattle.mu_resp.proofs.LineNumbers.{number-again, number-found}
use Rattle.mu_resp.proofs.Spellings.{bulk-again, bulk-found, is_spelled, read_again}

-- what is read stays

number-stays : (most n : ℕ) (wrong : Fault) (bytes rest more : List ℕ) → most < 10000000 → number_at most wrong bytes ≡ Ok (n, rest) → number_at most wrong (bytes ++ more) ≡ Ok (n, rest ++ more)
number-stays most n wrong bytes rest more few e =
    let f = number-found most n wrong bytes rest few e in
    ap (λ b. number_at most wrong (b ++ more)) f.1
    ∙ ap (number_at most wrong) (append_assoc (line (decimal n)) rest more)
    ∙ number-again most n wrong (rest ++ more) f.0 (omega (arith, f.0, few))

bulk-stays : (bytes word rest more : List ℕ) → bulk_at bytes ≡ Ok (word, rest) → bulk_at (bytes ++ more) ≡ Ok (word, rest ++ more)
bulk-stays bytes word rest more e =
    let f = bulk-found bytes word rest e in
    ap (λ b. bulk_at (b ++ more)) f.1 ∙ ap bulk_at (append_assoc (bulk word) rest more) ∙ bulk-again word (rest ++ more) f.0

pub read_for_good : IsReadForGood
read_for_good bytes more words rest e =
    let f = is_spelled bytes words rest e in
    ap (λ b. request_at (b ++ more)) f.1 ∙ ap request_at (append_assoc (request words) rest more) ∙ read_again words (rest ++ more) f.0

-- what is refused stays

-- a reading is a refusal
abbrev Refuses : {A : Type 0} → Result A Stop → Fault → Type 0
Refuses {A} r w = ◌≡◌ {A = Result A Stop} r (Err (stop.Wrong w))

err_same : {A : Type 0} {s t : Stop} → ◌≡◌ {A = Result A Stop} (Err s) (Err t) → s ≡ t
err_same e = cc

bind_wrong : {A B : Type 0} (r : Result A Stop) (f : A → Result B Stop) (w : Fault) → Refuses (r >>= f) w → Refuses r w ⊎ ((x : A) × (r ≡ Ok x) × Refuses (f x) w)
bind_wrong (Ok x) f w e = inr (x, refl, e)
bind_wrong {A} {B} (Err s) f w e = inl (ap Err (err_same {A = B} e))

-- a reading that is refused, or read on
wrong_bind : {A B : Type 0} (r : Result A Stop) (f : A → Result B Stop) (w : Fault) → Refuses r w → Refuses (r >>= f) w
wrong_bind r f w e = ap (λ r. r >>= f) e

feed-wrong : (bytes more : List ℕ) (w : Fault) → Refuses (feed_at bytes) w → Refuses (feed_at (bytes ++ more)) w
feed-wrong [] more w e = cc
feed-wrong (byte ∷ bytes) more w e = go (byte == 10) refl e
  where
    go : (b : Bool) → (byte == 10) ≡ b → Refuses (cond {A = Result (List ℕ) Stop} b (Ok bytes) (Err (stop.Wrong fault.LineEnd))) w
        → Refuses (cond {A = Result (List ℕ) Stop} (byte == 10) (Ok (bytes ++ more)) (Err (stop.Wrong fault.LineEnd))) w
    go true is f = cc
    go false is f = ap (λ b. cond {A = Result (List ℕ) Stop} b (Ok (bytes ++ more)) (Err (stop.Wrong fault.LineEnd))) is ∙ f

end-wrong : (bytes more : List ℕ) (w : Fault) → Refuses (end_at bytes) w → Refuses (end_at (bytes ++ more)) w
end-wrong [] more w e = cc
end-wrong (byte ∷ bytes) more w e = go (byte == 13) refl e
  where
    go : (b : Bool) → (byte == 13) ≡ b → Refuses (cond {A = Result (List ℕ) Stop} b (feed_at bytes) (Err (stop.Wrong fault.LineEnd))) w
        → Refuses (cond {A = Result (List ℕ) Stop} (byte == 13) (feed_at (bytes ++ more)) (Err (stop.Wrong fault.LineEnd))) w
    go true is f = ap (λ b. cond {A = Result (List ℕ) Stop} b (feed_at (bytes ++ more)) (Err (stop.Wrong fault.LineEnd))) is ∙ feed-wrong bytes more w f
    go false is f = ap (λ b. cond {A = Result (List ℕ) Stop} b (feed_at (bytes ++ more)) (Err (stop.Wrong fault.LineEnd))) is ∙ f

-- the byte ends a line
abbrev ends : ℕ → Bool
ends byte = byte == 13

place-stays : (bytes more : List ℕ) (end : ℕ) → position ends bytes ≡ Some end → position ends (bytes ++ more) ≡ Some end
place-stays bytes more end e =
    let found = position-Some ends bytes end 0 e in
    let long = length-append bytes more in
    let fits : end ≤ length (bytes ++ more) = omega (arith, long, found.0) in
    let before : (k : ℕ) → k < end → ends (get_or (bytes ++ more) k 0) ≡ false = λ k below. ap ends (get_or_append_left bytes more 0 k (omega (arith, found.0, below))) ∙ found.2 k below in
    let here : end < length (bytes ++ more) → ends (get_or (bytes ++ more) end 0) ≡ true = λ _. ap ends (get_or_append_left bytes more 0 end found.0) ∙ found.1 in
    let place : position_or_len ends (bytes ++ more) ≡ end = position_or_len_is ends (bytes ++ more) end 0 fits before here in
    let inside : nat_lt end (length (bytes ++ more)) ≡ true = grind (arith, nat_tests, long, found.0) in
    ap (λ n. cond (nat_lt n (length (bytes ++ more))) (Some n) None) place ∙ ap (λ b. cond b (Some end) None) inside

-- where no byte ends a line, none of them does once others follow
place-behind : (bytes more : List ℕ) (end : ℕ) → position ends bytes ≡ None → position ends (bytes ++ more) ≡ Some end → length bytes ≤ end
place-behind bytes more end none e = elim (cases_lt end (length bytes)) [
  | inl inside ↦
      let found = position-Some ends (bytes ++ more) end 0 e in
      absurd (true≢false (sym found.1 ∙ ap ends (get_or_append_left bytes more 0 end inside) ∙ none_passes ends bytes none end 0 inside))
  | inr past ↦ omega (arith, past)
]

and_false : (a c : Bool) → ((a && false) && c) ≡ false
and_false true c = refl
and_false false c = refl

-- too many digits are no number
long-none : (word : List ℕ) → 7 < length word → number_of word ≡ None
long-none word long =
    let no : nat_le (length word) 7 ≡ false = grind (arith, nat_tests, long) in
    ap (λ b. cond ((nat_le 1 (length word) && b) && (list_all is_digit word && not (has_leading_zero word))) (Some (value_of word)) None) no
    ∙ ap (λ b. cond b (Some (value_of word)) None) (and_false (nat_le 1 (length word)) (list_all is_digit word && not (has_leading_zero word)))

number-wrong : (most : ℕ) (wrong : Fault) (bytes more : List ℕ) (w : Fault) → Refuses (number_at most wrong bytes) w → Refuses (number_at most wrong (bytes ++ more)) w
unfolding number_at
number-wrong most wrong bytes more w e = go (position ends bytes) refl e
  where
    behind : position ends bytes ≡ None → 7 < length bytes → (at : Option ℕ) → position ends (bytes ++ more) ≡ at → Refuses (number_before at most wrong (bytes ++ more)) wrong
    behind none long None is =
        let no : nat_le (length (bytes ++ more)) 7 ≡ false = grind (arith, nat_tests, length-append bytes more, long) in
        ap (λ b. cond {A = Result (ℕ × List ℕ) Stop} b (Err stop.Short) (Err (stop.Wrong wrong))) no
    behind none long (Some end) is =
        let found = position-Some ends (bytes ++ more) end 0 is in
        let past = place-behind bytes more end none is in
        let size : length (take end (bytes ++ more)) ≡ end = grind (arith, common_steps, found.0) in
        ap (λ o. numbered (within 0 most o) wrong (drop (suc end) (bytes ++ more))) (long-none (take end (bytes ++ more)) (omega (arith, size, past, long)))

    missing : position ends bytes ≡ None → (b : Bool) → nat_le (length bytes) 7 ≡ b → Refuses (cond {A = Result (ℕ × List ℕ) Stop} b (Err stop.Short) (Err (stop.Wrong wrong))) w
        → Refuses (number_at most wrong (bytes ++ more)) w
    missing none true is f = cc
    missing none false is f =
        let long : 7 < length bytes = grind (arith, nat_tests, is) in
        behind none long (position ends (bytes ++ more)) refl ∙ f

    found : (end : ℕ) → position ends bytes ≡ Some end → suc end ≤ length bytes → (o : Option ℕ) → within 0 most (number_of (take end bytes)) ≡ o
        → Refuses (numbered o wrong (drop (suc end) bytes)) w → Refuses (numbered o wrong (drop (suc end) bytes ++ more)) w
    found end at fits None is f = f
    found end at fits (Some m) is f = elim (bind_wrong (feed_at (drop (suc end) bytes)) (λ rest. Ok (m, rest)) w f) [
      | inl fed ↦ wrong_bind (feed_at (drop (suc end) bytes ++ more)) (λ rest. Ok (m, rest)) w (feed-wrong (drop (suc end) bytes) more w fed)
      | inr read ↦ let no = read.2 in cc
    ]

    go : (at : Option ℕ) → position ends bytes ≡ at → Refuses (number_before at most wrong bytes) w → Refuses (number_at most wrong (bytes ++ more)) w
    go None is f = missing is (nat_le (length bytes) 7) refl f
    go (Some end) is f =
        let place = position-Some ends bytes end 0 is in
        let fits : suc end ≤ length bytes = omega (arith, place.0) in
        ap (λ at. number_before at most wrong (bytes ++ more)) (place-stays bytes more end is)
        ∙ ap (λ word. numbered (within 0 most (number_of word)) wrong (drop (suc end) (bytes ++ more))) (take-append-le end bytes more (omega (arith, place.0)))
        ∙ ap (λ l. numbered (within 0 most (number_of (take end bytes))) wrong l) (drop-append-le (suc end) bytes more fits)
        ∙ found end is fits (within 0 most (number_of (take end bytes))) refl f

text-wrong : (count : ℕ) (bytes more : List ℕ) (w : Fault) → Refuses (text_at count bytes) w → Refuses (text_at count (bytes ++ more)) w
text-wrong count bytes more w e = go (nat_lt (length bytes) count) refl e
  where
    go : (b : Bool) → nat_lt (length bytes) count ≡ b
        → Refuses (cond {A = Reading (List ℕ)} b (Err stop.Short) (end_at (drop count bytes) >>= λ rest. Ok (take count bytes, rest))) w
        → Refuses (text_at count (bytes ++ more)) w
    go true is f = cc
    go false is f =
        let fits : count ≤ length bytes = grind (arith, nat_tests, is) in
        let long : nat_lt (length (bytes ++ more)) count ≡ false = grind (arith, nat_tests, length-append bytes more, fits) in
        let ended : Refuses (end_at (drop count bytes)) w = elim (bind_wrong (end_at (drop count bytes)) (λ rest. Ok (take count bytes, rest)) w f) [
          | inl ended ↦ ended
          | inr read ↦ let no = read.2 in cc
        ] in
        ap (λ b. cond {A = Reading (List ℕ)} b (Err stop.Short) (end_at (drop count (bytes ++ more)) >>= λ rest. Ok (take count (bytes ++ more), rest))) long
        ∙ ap (λ l. end_at l >>= λ rest. Ok (take count (bytes ++ more), rest)) (drop-append-le count bytes more fits)
        ∙ wrong_bind (end_at (drop count bytes ++ more)) (λ rest. Ok (take count (bytes ++ more), rest)) w (end-wrong (drop count bytes) more w ended)

bulk-wrong : (bytes more : List ℕ) (w : Fault) → Refuses (bulk_at bytes) w → Refuses (bulk_at (bytes ++ more)) w
unfolding bulk_at
bulk-wrong [] more w e = cc
bulk-wrong (sign ∷ bytes) more w e = go (sign == 36) refl e
  where
    text : List ℕ → Reading (List ℕ)
    text bytes = number_at 1024 fault.WordLength bytes >>= λ header. text_at header.0 header.1

    go : (b : Bool) → (sign == 36) ≡ b
        → Refuses (cond {A = Reading (List ℕ)} b (number_at 1024 fault.WordLength bytes >>= λ header. text_at header.0 header.1) (Err (stop.Wrong (fault.NoWord sign)))) w
        → Refuses (cond {A = Reading (List ℕ)} (sign == 36) (number_at 1024 fault.WordLength (bytes ++ more) >>= λ header. text_at header.0 header.1) (Err (stop.Wrong (fault.NoWord sign)))) w
    go true is f =
        ap (λ b. cond {A = Reading (List ℕ)} b (number_at 1024 fault.WordLength (bytes ++ more) >>= λ header. text_at header.0 header.1) (Err (stop.Wrong (fault.NoWord sign)))) is
        ∙ elim (bind_wrong (number_at 1024 fault.WordLength bytes) (λ header. text_at header.0 header.1) w f) [
          | inl number ↦ wrong_bind (number_at 1024 fault.WordLength (bytes ++ more)) (λ header. text_at header.0 header.1) w (number-wrong 1024 fault.WordLength bytes more w number)
          | inr read ↦
              ap (λ r. r >>= λ header. text_at header.0 header.1) (number-stays 1024 read.0.0 fault.WordLength bytes read.0.1 more (omega arith) read.1)
              ∙ text-wrong read.0.0 read.0.1 more w read.2
        ]
    go false is f = ap (λ b. cond {A = Reading (List ℕ)} b (number_at 1024 fault.WordLength (bytes ++ more) >>= λ header. text_at header.0 header.1) (Err (stop.Wrong (fault.NoWord sign)))) is ∙ f

bulks-wrong : (count : ℕ) (bytes more : List ℕ) (w : Fault) → Refuses (bulks_at count bytes) w → Refuses (bulks_at count (bytes ++ more)) w
bulks-wrong zero bytes more w e = cc
bulks-wrong (suc count) bytes more w e = elim (bind_wrong (bulk_at bytes) (λ word. onto (word.0 ∷ []) (bulks_at count word.1)) w e) [
  | inl word ↦ wrong_bind (bulk_at (bytes ++ more)) (λ word. onto (word.0 ∷ []) (bulks_at count word.1)) w (bulk-wrong bytes more w word)
  | inr read ↦
      ap (λ r. r >>= λ word. onto (word.0 ∷ []) (bulks_at count word.1)) (bulk-stays bytes read.0.0 read.0.1 more read.1)
      ∙ onto-wrong (read.0.0 ∷ []) (bulks_at count read.0.1) (bulks_at count (read.0.1 ++ more)) (bulks-wrong count read.0.1 more w) read.2
]
  where
    onto-wrong : (front : List (List ℕ)) (old new : Reading (List (List ℕ))) → (Refuses old w → Refuses new w) → Refuses (onto front old) w → Refuses (onto front new) w
    onto-wrong front (Ok x) new step f = cc
    onto-wrong front (Err s) new step f = wrong_bind new (λ read. Ok (front ++ read.0, read.1)) w (step (ap Err (err_same {A = List (List ℕ) × List ℕ} f)))

pub refused_for_good : IsRefusedForGood
unfolding request_at
refused_for_good [] more w e = cc
refused_for_good (sign ∷ bytes) more w e = go (sign == 42) refl e
  where
    go : (b : Bool) → (sign == 42) ≡ b
        → Refuses (cond {A = Reading (List (List ℕ))} b (number_at 16 fault.WordCount bytes >>= λ header. bulks_at header.0 header.1) (Err (stop.Wrong (fault.NoRequest sign)))) w
        → Refuses (cond {A = Reading (List (List ℕ))} (sign == 42) (number_at 16 fault.WordCount (bytes ++ more) >>= λ header. bulks_at header.0 header.1) (Err (stop.Wrong (fault.NoRequest sign)))) w
    go true is f =
        ap (λ b. cond {A = Reading (List (List ℕ))} b (number_at 16 fault.WordCount (bytes ++ more) >>= λ header. bulks_at header.0 header.1) (Err (stop.Wrong (fault.NoRequest sign)))) is
        ∙ elim (bind_wrong (number_at 16 fault.WordCount bytes) (λ header. bulks_at header.0 header.1) w f) [
          | inl number ↦ wrong_bind (number_at 16 fault.WordCount (bytes ++ more)) (λ header. bulks_at header.0 header.1) w (number-wrong 16 fault.WordCount bytes more w number)
          | inr read ↦
              ap (λ r. r >>= λ header. bulks_at header.0 header.1) (number-stays 16 read.0.0 fault.WordCount bytes read.0.1 more (omega arith) read.1)
              ∙ bulks-wrong read.0.0 read.0.1 more w read.2
        ]
    go false is f = ap (λ b. cond {A = Reading (List (List ℕ))} b (number_at 16 fault.WordCount (bytes ++ more) >>= λ header. bulks_at header.0 header.1) (Err (stop.Wrong (fault.NoRequest sign)))) is ∙ f

pub refused_justly : IsRefusedJustly
refused_justly bytes more words rest w fits same refused =
    let read : ◌≡◌ {A = Reading (List (List ℕ))} (Ok (words, rest)) (Err (stop.Wrong w)) = sym (read_again words rest fits) ∙ ap request_at (sym same) ∙ refused_for_good bytes more w refused in
    cc
