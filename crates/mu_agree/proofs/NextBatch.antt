-- While some command isn't known, some client has a next batch.
use Rattle.std.proofs.Common.{◌≡◌, ℕ, zero, suc, ◌+◌, ◌-◌, ◌%◌, ◌<◌, ◌≤◌, ◌⊎◌, inl, inr, Bool, true, false, ◌==◌, List, [], ◌∷◌, ◌++◌, refl, sym, ◌∙◌, ap, arith, subst, eq-eqb, eqb-true, true≢false}
use Rattle.std.specs.Prelude.{if◌then◌else◌}
use Rattle.std.proofs.lemmas.Bool.{cases_lt, cases_order}
use Rattle.mu_model.specs.declared.config.Config.{Config}
use Rattle.mu_model.specs.Contents.{IsConfig, IsInSession, begins_batch, client_of, command_count, counted, holds_all, includes, is_batch, number_of, numbers_in, rest_of, row_count, rows_before, rows_from, rows_in, rows_of, session}
use Rattle.mu_model.specs.Knowledge.{known}
use Rattle.mu_agree.specs.Possible.{HasNext, PartsHaveNext}
use Rattle.mu_agree.proofs.Sessions.{batch_within, known_in_session, row_within}
use Rattle.mu_agree.proofs.Sound.{Failing, some_fails}

-- what a list in two includes
of_two : (j : ℕ) (xs ys : List ℕ) → includes j (xs ++ ys) ≡ true → (includes j xs ≡ true) ⊎ (includes j ys ≡ true)
of_two j [] ys h = inr h
of_two j (x ∷ xs) ys h = go (x == j) h (of_two j xs ys)
  where
    go : (t : Bool) → (if t then true else includes j (xs ++ ys)) ≡ true → (includes j (xs ++ ys) ≡ true → (includes j xs ≡ true) ⊎ (includes j ys ≡ true)) → ((if t then true else includes j xs) ≡ true) ⊎ (includes j ys ≡ true)
    go true h ih = inl refl
    go false h ih = ih h

in_first : (j : ℕ) (xs ys : List ℕ) → includes j xs ≡ true → includes j (xs ++ ys) ≡ true
in_first j [] ys h = absurd (true≢false (sym h))
in_first j (x ∷ xs) ys h = go (x == j) h (in_first j xs ys)
  where
    go : (t : Bool) → (if t then true else includes j xs) ≡ true → (includes j xs ≡ true → includes j (xs ++ ys) ≡ true) → (if t then true else includes j (xs ++ ys)) ≡ true
    go true h ih = refl
    go false h ih = ih h

in_second : (j : ℕ) (xs ys : List ℕ) → includes j ys ≡ true → includes j (xs ++ ys) ≡ true
in_second j [] ys h = h
in_second j (x ∷ xs) ys h = go (x == j) (in_second j xs ys h)
  where
    go : (t : Bool) → includes j (xs ++ ys) ≡ true → (if t then true else includes j (xs ++ ys)) ≡ true
    go true k = refl
    go false k = k

-- the first of a list, or the others
head_or : (j x : ℕ) (xs : List ℕ) → includes j (x ∷ xs) ≡ true → (x ≡ j) ⊎ (includes j xs ≡ true)
head_or j x xs h = go (x == j) refl h
  where
    go : (t : Bool) → (x == j) ≡ t → (if t then true else includes j xs) ≡ true → (x ≡ j) ⊎ (includes j xs ≡ true)
    go true k h = inl (eqb-true x j k)
    go false k h = inr h

at_head : (j x : ℕ) (xs : List ℕ) → x ≡ j → includes j (x ∷ xs) ≡ true
at_head j x xs e = go (x == j) (eq-eqb x j e)
  where
    go : (t : Bool) → t ≡ true → (if t then true else includes j xs) ≡ true
    go true k = refl
    go false k = absurd (true≢false (sym k))

further : (j x : ℕ) (xs : List ℕ) → includes j xs ≡ true → includes j (x ∷ xs) ≡ true
further j x xs h = go (x == j)
  where
    go : (t : Bool) → (if t then true else includes j xs) ≡ true
    go true = refl
    go false = h

-- which numbers a count has
counted_has : (n k m : ℕ) → k ≤ m → m < k + n → includes m (counted n k) ≡ true
counted_has zero k m l h = absurd (omega arith)
counted_has (suc n) k m l h = elim (cases_order k m) [
  | inl e ↦ at_head m k (counted n (k + 1)) e
  | inr (inl a) ↦ further m k (counted n (k + 1)) (counted_has n (k + 1) m (omega arith) (omega arith))
  | inr (inr b) ↦ absurd (omega arith)
]

counted_only : (n k m : ℕ) → includes m (counted n k) ≡ true → (k ≤ m) × (m < k + n)
counted_only zero k m h = absurd (true≢false (sym h))
counted_only (suc n) k m h = elim (head_or m k (counted n (k + 1)) h) [
  | inl e ↦ (omega arith, omega arith)
  | inr f ↦ (let a = counted_only n (k + 1) m f in let b = a.0 in let d = a.1 in (omega arith, omega arith))
]

-- which rows follow one another
rows_have : (n j i : ℕ) → j ≤ i → i < j + n → includes i (rows_from n j) ≡ true
rows_have zero j i l h = absurd (omega arith)
rows_have (suc n) j i l h = elim (cases_order j i) [
  | inl e ↦ at_head i j (rows_from n (j + 1)) e
  | inr (inl a) ↦ further i j (rows_from n (j + 1)) (rows_have n (j + 1) i (omega arith) (omega arith))
  | inr (inr b) ↦ absurd (omega arith)
]

rows_only : (n j i : ℕ) → includes i (rows_from n j) ≡ true → (j ≤ i) × (i < j + n)
rows_only zero j i h = absurd (true≢false (sym h))
rows_only (suc n) j i h = elim (head_or i j (rows_from n (j + 1)) h) [
  | inl e ↦ (omega arith, omega arith)
  | inr f ↦ (let a = rows_only n (j + 1) i f in let b = a.0 in let d = a.1 in (omega arith, omega arith))
]

-- the row of a client's number
record RowOf (c : Config) (client m : ℕ) (rows : List ℕ) : Type 0 where
  pub row : ℕ
  pub there : includes row rows ≡ true
  pub owner : client_of c row ≡ client
  pub number : number_of c row ≡ m

row_of : (c : Config) (client m : ℕ) (rows : List ℕ) → includes m (numbers_in c client rows) ≡ true → RowOf c client m rows
row_of c client m [] h = absurd (true≢false (sym h))
row_of c client m (j ∷ rows) h = go (client_of c j == client) refl h (row_of c client m rows)
  where
    later : RowOf c client m rows → RowOf c client m (j ∷ rows)
    later k = record { row = k.row; there = further k.row j rows k.there; owner = k.owner; number = k.number }

    go : (t : Bool) → (client_of c j == client) ≡ t → includes m (if t then (number_of c j ∷ numbers_in c client rows) else numbers_in c client rows) ≡ true → (includes m (numbers_in c client rows) ≡ true → RowOf c client m rows) → RowOf c client m (j ∷ rows)
    go true k h ih = elim (head_or m (number_of c j) (numbers_in c client rows) h) [
      | inl e ↦ record { row = j; there = at_head j j rows refl; owner = eqb-true (client_of c j) client k; number = e }
      | inr f ↦ later (ih f)
    ]
    go false k h ih = later (ih h)

number_there : (c : Config) (j : ℕ) (rows : List ℕ) → includes j rows ≡ true → includes (number_of c j) (numbers_in c (client_of c j) rows) ≡ true
number_there c j [] h = absurd (true≢false (sym h))
number_there c j (i ∷ rows) h = elim (head_or j i rows h) [ inl e ↦ here e (client_of c i == client_of c j) (eq-eqb (client_of c i) (client_of c j) (ap (client_of c) e)) | inr f ↦ later (client_of c i == client_of c j) (number_there c j rows f) ]
  where
    here : i ≡ j → (t : Bool) → t ≡ true → includes (number_of c j) (if t then (number_of c i ∷ numbers_in c (client_of c j) rows) else numbers_in c (client_of c j) rows) ≡ true
    here e true k = at_head (number_of c j) (number_of c i) (numbers_in c (client_of c j) rows) (ap (number_of c) e)
    here e false k = absurd (true≢false (sym k))

    later : (t : Bool) → includes (number_of c j) (numbers_in c (client_of c j) rows) ≡ true → includes (number_of c j) (if t then (number_of c i ∷ numbers_in c (client_of c j) rows) else numbers_in c (client_of c j) rows) ≡ true
    later true k = further (number_of c j) (number_of c i) (numbers_in c (client_of c j) rows) k
    later false k = k

-- the same of the entries
row_in : (c : Config) (client m : ℕ) (values : List ℕ) → includes m (session c client values) ≡ true → RowOf c client m (rows_in c values)
row_in c client m [] h = absurd (true≢false (sym h))
row_in c client m (v ∷ values) h = elim (of_two m (numbers_in c client (rows_of c v)) (session c client values) h) [
  | inl a ↦ (let k = row_of c client m (rows_of c v) a in record { row = k.row; there = in_first k.row (rows_of c v) (rows_in c values) k.there; owner = k.owner; number = k.number })
  | inr b ↦ (let k = row_in c client m values b in record { row = k.row; there = in_second k.row (rows_of c v) (rows_in c values) k.there; owner = k.owner; number = k.number })
]

number_in : (c : Config) (j : ℕ) (values : List ℕ) → includes j (rows_in c values) ≡ true → includes (number_of c j) (session c (client_of c j) values) ≡ true
number_in c j [] h = absurd (true≢false (sym h))
number_in c j (v ∷ values) h = elim (of_two j (rows_of c v) (rows_in c values) h) [
  | inl a ↦ in_first (number_of c j) (numbers_in c (client_of c j) (rows_of c v)) (session c (client_of c j) values) (number_there c j (rows_of c v) a)
  | inr b ↦ in_second (number_of c j) (numbers_in c (client_of c j) (rows_of c v)) (session c (client_of c j) values) (number_in c j values b)
]

-- a row of known entries is a row, and so is the next of its batch
record InBatch (c : Config) (j : ℕ) (rows : List ℕ) : Type 0 where
  pub within : j < row_count c
  pub next : (k : ℕ) → rest_of c j ≡ suc k → includes (j + 1) rows ≡ true

-- how many rows of the batch follow its t-th
rest_falls : (c : Config) → IsConfig c → (t j k : ℕ) → j < row_count c → rest_of c j ≡ t + k → rest_of c (j + t) ≡ k
rest_falls c g zero j k l e = let none : j + 0 ≡ j = omega arith in ap (rest_of c) none ∙ e ∙ (let z : zero + k ≡ k = omega arith in z)
rest_falls c g (suc t) j k l e =
    let b = g.batches j (t + k) l (e ∙ (let z : suc t + k ≡ suc (t + k) = omega arith in z)) in
    let at : j + suc t ≡ j + 1 + t = omega arith in ap (rest_of c) at ∙ rest_falls c g t (j + 1) k b.0 b.2

in_batch : (c : Config) → IsConfig c → (j v : ℕ) → includes j (rows_of c v) ≡ true → InBatch c j (rows_of c v)
in_batch c g j v h = go (is_batch c v) refl h
  where
    go : (t : Bool) → is_batch c v ≡ t → includes j (if t then rows_from (rest_of c (v % 4096) + 1) (v % 4096) else []) ≡ true → InBatch c j (rows_of c v)
    go false b h = absurd (true≢false (sym h))
    go true b h =
        let first = v % 4096 in
        let w = row_within c v b in
        let r = rows_only (rest_of c first + 1) first j h in let low = r.0 in let high = r.1 in
        let all = batch_within c g (rest_of c first) first w refl in
        record {
          within = omega arith;
          next = λ k e.
              let split : rest_of c first ≡ (j - first) + (rest_of c first - (j - first)) = omega arith in
              let here : rest_of c (first + (j - first)) ≡ rest_of c first - (j - first) = rest_falls c g (j - first) first (rest_of c first - (j - first)) w split in
              let same : first + (j - first) ≡ j = omega arith in
              let left : suc k ≡ rest_of c first - (j - first) = sym e ∙ ap (rest_of c) (sym same) ∙ here in
              subst (λ z. includes (j + 1) (if z then rows_from (rest_of c first + 1) first else []) ≡ true) (sym b) (rows_have (rest_of c first + 1) first (j + 1) (omega arith) (omega arith));
        }

in_entries : (c : Config) → IsConfig c → (j : ℕ) (values : List ℕ) → includes j (rows_in c values) ≡ true → InBatch c j (rows_in c values)
in_entries c g j [] h = absurd (true≢false (sym h))
in_entries c g j (v ∷ values) h = elim (of_two j (rows_of c v) (rows_in c values) h) [
  | inl a ↦ (let k = in_batch c g j v a in record { within = k.within; next = λ n e. in_first (j + 1) (rows_of c v) (rows_in c values) (k.next n e) })
  | inr b ↦ (let k = in_entries c g j values b in record { within = k.within; next = λ n e. in_second (j + 1) (rows_of c v) (rows_in c values) (k.next n e) })
]

-- how a client's rows are counted
before_on : (c : Config) (client j n : ℕ) → rows_before c client j ≤ rows_before c client (j + n)
before_on c client j zero = let e : j + 0 ≡ j = omega arith in let k = ap (rows_before c client) e in omega arith
before_on c client j (suc n) =
    let e : j + suc n ≡ suc (j + n) = omega arith in let k = ap (rows_before c client) e in
    let ih = before_on c client j n in let up = one (client_of c (j + n) == client) in omega arith
  where
    one : (t : Bool) → rows_before c client (j + n) ≤ (if t then rows_before c client (j + n) + 1 else rows_before c client (j + n))
    one true = omega arith
    one false = omega arith

before_own : (c : Config) (j : ℕ) → rows_before c (client_of c j) (j + 1) ≡ rows_before c (client_of c j) j + 1
before_own c j = let e : j + 1 ≡ suc j = omega arith in ap (rows_before c (client_of c j)) e ∙ own (client_of c j == client_of c j) (eq-eqb (client_of c j) (client_of c j) refl)
  where
    own : (t : Bool) → t ≡ true → (if t then rows_before c (client_of c j) j + 1 else rows_before c (client_of c j) j) ≡ rows_before c (client_of c j) j + 1
    own true h = refl
    own false h = absurd (true≢false (sym h))

-- two rows of a client with one number are the same
later_above : (c : Config) → IsConfig c → (i j : ℕ) → i < row_count c → j < row_count c → client_of c i ≡ client_of c j → i < j → number_of c i < number_of c j
later_above c g i j li lj e l =
    let a = g.numbers i li in let b = g.numbers j lj in
    let own = before_own c i in
    let on : rows_before c (client_of c i) (i + 1) ≤ rows_before c (client_of c i) (i + 1 + (j - (i + 1))) = before_on c (client_of c i) (i + 1) (j - (i + 1)) in
    let at : i + 1 + (j - (i + 1)) ≡ j = omega arith in
    let same : rows_before c (client_of c i) (i + 1 + (j - (i + 1))) ≡ rows_before c (client_of c j) j = ap (rows_before c (client_of c i)) at ∙ ap (λ z. rows_before c z j) e in omega arith

-- rows of the same client and number are one
pub same_number_same_row : (c : Config) → IsConfig c → (i j : ℕ) → i < row_count c → j < row_count c → client_of c i ≡ client_of c j → number_of c i ≡ number_of c j → i ≡ j
same_number_same_row c g i j li lj e n = elim (cases_order i j) [
  | inl same ↦ same
  | inr (inl l) ↦ absurd (let k = later_above c g i j li lj e l in omega arith)
  | inr (inr l) ↦ absurd (let k = later_above c g j i lj li (sym e) l in omega arith)
]

-- the row of a client before which k of its rows stand
record RowAfter (c : Config) (client k most : ℕ) : Type 0 where
  pub row : ℕ
  pub low : row < most
  pub owner : client_of c row ≡ client
  pub count : rows_before c client row ≡ k

row_after : (c : Config) (client k n : ℕ) → k < rows_before c client n → RowAfter c client k n
row_after c client k zero h = absurd (omega arith)
row_after c client k (suc n) h = go (client_of c n == client) refl h (row_after c client k n)
  where
    wider : RowAfter c client k n → RowAfter c client k (suc n)
    wider x = record { row = x.row; low = (let l = x.low in omega arith); owner = x.owner; count = x.count }

    go : (t : Bool) → (client_of c n == client) ≡ t → k < (if t then rows_before c client n + 1 else rows_before c client n) → (k < rows_before c client n → RowAfter c client k n) → RowAfter c client k (suc n)
    go true e h ih = elim (cases_lt k (rows_before c client n)) [ inl l ↦ wider (ih l) | inr m ↦ record { row = n; low = omega arith; owner = eqb-true (client_of c n) client e; count = omega arith } ]
    go false e h ih = wider (ih h)

-- the next row of the client begins a batch
next_begins : (c : Config) → IsConfig c → (values : List ℕ) (row : ℕ) → IsInSession c values → row < row_count c → number_of c row ≡ command_count c (client_of c row) values + 1 → begins_batch c row ≡ true
next_begins c g values zero s l n = refl
next_begins c g values (suc j) s l n = go (rest_of c j) refl
  where
    one : j + 1 ≡ suc j
    one = omega arith

    go : (k : ℕ) → rest_of c j ≡ k → (rest_of c j == 0) ≡ true
    go zero e = eq-eqb (rest_of c j) 0 e
    go (suc k) e = absurd (
        let b = g.batches j k (omega arith) e in
        let client : client_of c (suc j) ≡ client_of c j = ap (client_of c) (sym one) ∙ b.1 in
        let mine = g.numbers j (omega arith) in
        let next : number_of c (suc j) ≡ number_of c j + 1 = ap (number_of c) (sym one) ∙ after b in
        let count : command_count c (client_of c (suc j)) values ≡ command_count c (client_of c j) values = ap (λ z. command_count c z values) client in
        let held : includes (number_of c j) (session c (client_of c j) values) ≡ true =
        subst (λ z. includes (number_of c j) z ≡ true) (sym (s (client_of c j))) (counted_has (command_count c (client_of c j) values) 1 (number_of c j) (omega arith) (omega arith)) in
        let found = row_in c (client_of c j) (number_of c j) values held in
        let there = in_entries c g found.row values found.there in
        let same : found.row ≡ j = same_number_same_row c g found.row j there.within (omega arith) found.owner found.number in
        let more : includes (j + 1) (rows_in c values) ≡ true = subst (λ z. includes (z + 1) (rows_in c values) ≡ true) same (there.next k (ap (rest_of c) same ∙ e)) in
        let again : includes (number_of c (j + 1)) (session c (client_of c (j + 1)) values) ≡ true = number_in c (j + 1) values more in
        let few = counted_only (command_count c (client_of c (j + 1)) values) 1 (number_of c (j + 1)) (subst (λ z. includes (number_of c (j + 1)) z ≡ true) (s (client_of c (j + 1))) again) in
        let high = few.1 in
        let count' : command_count c (client_of c (j + 1)) values ≡ command_count c (client_of c (suc j)) values = ap (λ z. command_count c (client_of c z) values) one in
        let number' : number_of c (j + 1) ≡ number_of c (suc j) = ap (number_of c) one in omega arith)
      where
        after : (j + 1 < row_count c) × (client_of c (j + 1) ≡ client_of c j) × (rest_of c (j + 1) ≡ k) → number_of c (j + 1) ≡ number_of c j + 1
        after b =
            let x = g.numbers (j + 1) b.0 in let y = g.numbers j (omega arith) in let own = before_own c j in
            let same : rows_before c (client_of c (j + 1)) (j + 1) ≡ rows_before c (client_of c j) (j + 1) = ap (λ z. rows_before c z (j + 1)) b.1 in omega arith

-- a row that isn't there has a number above those that are
above_known : (c : Config) → IsConfig c → (values : List ℕ) (row : ℕ) → IsInSession c values → row < row_count c → includes row (rows_in c values) ≡ false → command_count c (client_of c row) values < number_of c row
above_known c g values row s l away = elim (cases_lt (command_count c (client_of c row) values) (number_of c row)) [
  | inl m ↦ m
  | inr h ↦ absurd (
      let num = g.numbers row l in
      let held : includes (number_of c row) (session c (client_of c row) values) ≡ true =
      subst (λ z. includes (number_of c row) z ≡ true) (sym (s (client_of c row))) (counted_has (command_count c (client_of c row) values) 1 (number_of c row) (omega arith) (omega arith)) in
      is_there (row_in c (client_of c row) (number_of c row) values held))
]
  where
    is_there : RowOf c (client_of c row) (number_of c row) (rows_in c values) → ⊥
    is_there found = true≢false (sym found.there ∙ ap (λ z. includes z (rows_in c values)) (same_number_same_row c g found.row row (in_entries c g found.row values found.there).within l found.owner found.number) ∙ away)

-- the first row of a client that isn't there is the next
next_at : (c : Config) → IsConfig c → (values : List ℕ) (client most : ℕ) → IsInSession c values → most ≤ row_count c → RowAfter c client (command_count c client values) most → HasNext c values
next_at c g values client most s l k = record { row = k.row; within = within; begins = next_begins c g values k.row s within number; number = number }
  where
    within : k.row < row_count c
    within = let low = k.low in omega arith

    number : number_of c k.row ≡ command_count c (client_of c k.row) values + 1
    number =
        let num = g.numbers k.row within in let count = k.count in
        let own : rows_before c (client_of c k.row) k.row ≡ rows_before c client k.row = ap (λ z. rows_before c z k.row) k.owner in
        let counts : command_count c (client_of c k.row) values ≡ command_count c client values = ap (λ z. command_count c z values) k.owner in omega arith

pub next_of : (c : Config) (values : List ℕ) → IsConfig c → IsInSession c values → holds_all c values ≡ false → HasNext c values
next_of c values g s m = go (some_fails (row_count c) (λ j. includes j (rows_in c values)) m)
  where
    go : Failing (row_count c) (λ j. includes j (rows_in c values)) → HasNext c values
    go f =
        next_at c g values (client_of c f.who) (f.who + 1) s (let low = f.below in omega arith)
        (row_after c (client_of c f.who) (command_count c (client_of c f.who) values) (f.who + 1)
        (let own = before_own c f.who in let num = g.numbers f.who f.below in let above = above_known c g values f.who s f.below f.fails in omega arith))

pub parts_have_next_law : PartsHaveNext
parts_have_next_law c r mine g p m =
    next_of c (known c r mine) g (subst (λ z. IsInSession c (known c r z)) p.is (known_in_session c r p.past g p.legal)) m
