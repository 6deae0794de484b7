-- Requests: what is spelled is read, whatever follows it, and what is read is spelled so.
use Rattle.std.proofs.Common.{◌≡◌, ℕ, zero, suc, ◌==◌, nat_lt, Bool, true, false, cond, List, [], ◌∷◌, ◌++◌, length, take, drop, Ok, Err, refl, sym, subst, ap, ◌∙◌, append_assoc, length-append, arith}
use Rattle.std.specs.Fmt.{decimal}
use Rattle.std.specs.List.{AllByRecursion, flat_map}
use Rattle.std.proofs.lemmas.Bool.Decides.{Decides-eqb, nat_tests}
use Rattle.std.proofs.lemmas.Grind.{common_steps}
use Rattle.std.proofs.lemmas.List.{take-append-drop}
use Rattle.std.proofs.Math.Seq.{take-append_seam, drop-append_seam}
use Rattle.mu_resp.specs.declared.stop.Fault.TheVariants as fault
use Rattle.mu_resp.specs.declared.stop.Stop.TheVariants as stop
use Rattle.mu_resp.specs.Laws.{IsReadAgain, IsSpelled}
use Rattle.mu_resp.specs.Readings.{◌>>=◌, Reading, bulk_at, bulks_at, end_at, number_at, onto, request_at, text_at}
use Rattle.mu_resp.specs.Requests.{IsRequest, IsWord, bulk, header, line, request}
use Rattle.mu_resp.proofs.LineNumbers.{bind_ok, end-found, number-again, number-found, pair_of}

-- what is spelled is read

text-again : (word rest : List ℕ) → text_at (length word) (line word ++ rest) ≡ Ok (word, rest)
text-again word rest =
    let shape : line word ++ rest ≡ word ++ 13 ∷ 10 ∷ rest = append_assoc word (13 ∷ 10 ∷ []) rest in
    let long : nat_lt (length (word ++ 13 ∷ 10 ∷ rest)) (length word) ≡ false = grind (arith, nat_tests, length-append word (13 ∷ 10 ∷ rest)) in
    ap (λ bytes. text_at (length word) bytes) shape
    ∙ ap (λ b. cond b (Err stop.Short) (end_at (drop (length word) (word ++ 13 ∷ 10 ∷ rest)) >>= λ more. Ok (take (length word) (word ++ 13 ∷ 10 ∷ rest), more))) long
    ∙ ap (λ bytes. end_at bytes >>= λ more. Ok (take (length word) (word ++ 13 ∷ 10 ∷ rest), more)) (drop-append_seam word (13 ∷ 10 ∷ rest))
    ∙ ap (λ w. Ok (w, rest)) (take-append_seam word (13 ∷ 10 ∷ rest))

pub bulk-again : (word rest : List ℕ) → IsWord word → bulk_at (bulk word ++ rest) ≡ Ok (word, rest)
unfolding bulk_at
bulk-again word rest fits =
    let shape : bulk word ++ rest ≡ 36 ∷ (line (decimal (length word)) ++ (line word ++ rest)) = append_assoc (header 36 (length word)) (line word) rest in
    ap bulk_at shape
    ∙ ap (λ r. r >>= λ header. text_at header.0 header.1) (number-again 1024 (length word) fault.WordLength (line word ++ rest) fits (omega (arith, fits)))
    ∙ text-again word rest

bulks-again : (words : List (List ℕ)) (rest : List ℕ) → AllByRecursion IsWord words → bulks_at (length words) (flat_map bulk words ++ rest) ≡ Ok (words, rest)
bulks-again [] rest all = refl
bulks-again (word ∷ words) rest all =
    ap (λ bytes. bulks_at (suc (length words)) bytes) (append_assoc (bulk word) (flat_map bulk words) rest)
    ∙ ap (λ r. r >>= λ w. onto (w.0 ∷ []) (bulks_at (length words) w.1)) (bulk-again word (flat_map bulk words ++ rest) all.0)
    ∙ ap (onto (word ∷ [])) (bulks-again words rest all.1)

pub read_again : IsReadAgain
unfolding request_at
read_again words rest fits =
    let shape : request words ++ rest ≡ 42 ∷ (line (decimal (length words)) ++ (flat_map bulk words ++ rest)) = append_assoc (header 42 (length words)) (flat_map bulk words) rest in
    ap request_at shape
    ∙ ap (λ r. r >>= λ header. bulks_at header.0 header.1) (number-again 16 (length words) fault.WordCount (flat_map bulk words ++ rest) fits.few (omega (arith, fits.few)))
    ∙ bulks-again words rest fits.short

-- what is read is spelled so

text-found : (count : ℕ) (bytes word rest : List ℕ) → text_at count bytes ≡ Ok (word, rest) → (length word ≡ count) × (bytes ≡ line word ++ rest)
text-found count bytes word rest e = go (nat_lt (length bytes) count) refl e
  where
    go : (b : Bool) → nat_lt (length bytes) count ≡ b
        → cond {A = Reading (List ℕ)} b (Err stop.Short) (end_at (drop count bytes) >>= λ more. Ok (take count bytes, more)) ≡ Ok (word, rest)
        → (length word ≡ count) × (bytes ≡ line word ++ rest)
    go true is f = cc
    go false is f =
        let ended = bind_ok (end_at (drop count bytes)) (λ more. Ok (take count bytes, more)) (word, rest) f in
        let parts = pair_of ended.2 in
        let front : take count bytes ≡ word = parts.0 in
        let left : ended.0 ≡ rest = parts.1 in
        let back : drop count bytes ≡ 13 ∷ 10 ∷ rest = end-found (drop count bytes) ended.0 ended.1 ∙ ap (λ l. 13 ∷ 10 ∷ l) left in
        let size : length (take count bytes) ≡ count = grind (arith, common_steps, nat_tests, is) in (
          ap length (sym front) ∙ size,
          sym (take-append-drop count bytes) ∙ ap (λ w. w ++ drop count bytes) front ∙ ap (λ l. word ++ l) back ∙ sym (append_assoc word (13 ∷ 10 ∷ []) rest),
        )

pub bulk-found : (bytes word rest : List ℕ) → bulk_at bytes ≡ Ok (word, rest) → IsWord word × (bytes ≡ bulk word ++ rest)
unfolding bulk_at
bulk-found [] word rest e = cc
bulk-found (sign ∷ bytes) word rest e = go (sign == 36) refl e
  where
    go : (b : Bool) → (sign == 36) ≡ b
        → cond {A = Reading (List ℕ)} b (number_at 1024 fault.WordLength bytes >>= λ header. text_at header.0 header.1) (Err (stop.Wrong (fault.NoWord sign))) ≡ Ok (word, rest)
        → IsWord word × (sign ∷ bytes ≡ bulk word ++ rest)
    go true is f =
        let same : sign ≡ 36 = (Decides-eqb sign 36).0 is in
        let head = bind_ok (number_at 1024 fault.WordLength bytes) (λ header. text_at header.0 header.1) (word, rest) f in
        let number = number-found 1024 head.0.0 fault.WordLength bytes head.0.1 (omega arith) head.1 in
        let text = text-found head.0.0 head.0.1 word rest head.2 in (
          omega (arith, text.0, number.0),
          ap (λ s. s ∷ bytes) same
              ∙ ap (λ l. 36 ∷ l) number.1
              ∙ ap (λ n. 36 ∷ (line (decimal n) ++ head.0.1)) (sym text.0)
              ∙ ap (λ l. 36 ∷ (line (decimal (length word)) ++ l)) text.1
              ∙ sym (append_assoc (header 36 (length word)) (line word) rest),
        )
    go false is f = cc

bulks-found : (count : ℕ) (bytes : List ℕ) (words : List (List ℕ)) (rest : List ℕ) → bulks_at count bytes ≡ Ok (words, rest)
    → (length words ≡ count) × AllByRecursion IsWord words × (bytes ≡ flat_map bulk words ++ rest)
bulks-found zero bytes words rest e = let parts = pair_of e in empty words parts.0 parts.1
  where
    empty : (words : List (List ℕ)) → [] ≡ words → bytes ≡ rest → (length words ≡ 0) × AllByRecursion IsWord words × (bytes ≡ flat_map bulk words ++ rest)
    empty [] none left = (refl, tt, left)
    empty (word ∷ words) none left = cc
bulks-found (suc count) bytes words rest e =
    let first = bind_ok (bulk_at bytes) (λ w. onto (w.0 ∷ []) (bulks_at count w.1)) (words, rest) e in
    let word = bulk-found bytes first.0.0 first.0.1 first.1 in
    let others = bind_ok (bulks_at count first.0.1) (λ read. Ok ((first.0.0 ∷ []) ++ read.0, read.1)) (words, rest) first.2 in
    let more = bulks-found count first.0.1 others.0.0 others.0.1 others.1 in
    let parts = pair_of others.2 in
    joined words parts.0 parts.1 word more
  where
    joined : (words : List (List ℕ)) {word : List ℕ} {behind : List ℕ} {tail : List (List ℕ)} {end : List ℕ} → word ∷ tail ≡ words → end ≡ rest
        → IsWord word × (bytes ≡ bulk word ++ behind) → (length tail ≡ count) × AllByRecursion IsWord tail × (behind ≡ flat_map bulk tail ++ end)
        → (length words ≡ suc count) × AllByRecursion IsWord words × (bytes ≡ flat_map bulk words ++ rest)
    joined [] {word} {behind} {tail} {end} whole left one more = cc
    joined (first ∷ others) {word} {behind} {tail} {end} whole left one more =
        let head : word ≡ first = cc in
        let rest_is : tail ≡ others = cc in (
          ap suc (ap length (sym rest_is) ∙ more.0),
          (omega (arith, one.0, ap length head), subst (AllByRecursion IsWord) rest_is more.1),
          one.1 ∙ ap (λ w. bulk w ++ behind) head ∙ ap (λ b. bulk first ++ b) more.2
              ∙ ap (λ t. bulk first ++ (flat_map bulk t ++ end)) rest_is ∙ ap (λ e. bulk first ++ (flat_map bulk others ++ e)) left
              ∙ sym (append_assoc (bulk first) (flat_map bulk others) rest),
        )

pub is_spelled : IsSpelled
unfolding request_at
is_spelled [] words rest e = cc
is_spelled (sign ∷ bytes) words rest e = go (sign == 42) refl e
  where
    go : (b : Bool) → (sign == 42) ≡ b
        → cond {A = Reading (List (List ℕ))} b (number_at 16 fault.WordCount bytes >>= λ header. bulks_at header.0 header.1) (Err (stop.Wrong (fault.NoRequest sign))) ≡ Ok (words, rest)
        → IsRequest words × (sign ∷ bytes ≡ request words ++ rest)
    go true is f =
        let same : sign ≡ 42 = (Decides-eqb sign 42).0 is in
        let head = bind_ok (number_at 16 fault.WordCount bytes) (λ header. bulks_at header.0 header.1) (words, rest) f in
        let number = number-found 16 head.0.0 fault.WordCount bytes head.0.1 (omega arith) head.1 in
        let bulks = bulks-found head.0.0 head.0.1 words rest head.2 in (
          record { few = omega (arith, bulks.0, number.0); short = bulks.1 },
          ap (λ s. s ∷ bytes) same
              ∙ ap (λ l. 42 ∷ l) number.1
              ∙ ap (λ n. 42 ∷ (line (decimal n) ++ head.0.1)) (sym bulks.0)
              ∙ ap (λ l. 42 ∷ (line (decimal (length words)) ++ l)) bulks.2
              ∙ sym (append_assoc (header 42 (length words)) (flat_map bulk words) rest),
        )
    go false is f = cc
