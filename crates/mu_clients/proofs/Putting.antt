-- A row that was applied was put before.
use Rattle.std.proofs.Common.{◌≡◌, ℕ, suc, zero, ◌==◌, ◌&&◌, ◌⊎◌, inl, inr, Bool, true, false, List, [], ◌∷◌, ◌++◌, refl, sym, arith, Some, subst, true≢false, eqb-true}
use Rattle.std.specs.Prelude.{if◌then◌else◌}
use Rattle.std.specs.List.{slice_get}
use Rattle.std.proofs.lemmas.Bool.{and_parts, eq-eqb}
use Rattle.mu_agree.proofs.Counting.{some_below}
use Rattle.mu_agree.proofs.Landed.{has_landed, slot_landed}
use Rattle.mu_agree.proofs.Phases.{known_chosen}
use Rattle.mu_clients.proofs.Agreeing.{applied_known}
use Rattle.mu_clients.specs.Attested.{rows_of_put, rows_put}
use Rattle.mu_model.proofs.Basics.{same_some}
use Rattle.mu_model.specs.Contents.{includes, rows_in, rows_of}
use Rattle.mu_model.specs.Histories.{part}
use Rattle.mu_model.specs.Knowledge.{applied}
use Rattle.mu_model.specs.Legal.{IsLegalHistory}
use Rattle.mu_model.specs.declared.config.Config.{Config}
use Rattle.mu_model.specs.declared.event.Answer.{Answer}
use Rattle.mu_model.specs.declared.event.Event.{Event}
use Rattle.mu_model.specs.declared.event.Verb.{Verb}

-- a row among others stays among more
pub in_first : (j : ℕ) (xs ys : List ℕ) → includes j xs ≡ true → includes j (xs ++ ys) ≡ true
in_first j [] ys h = absurd (true≢false (sym h))
in_first j (x ∷ xs) ys h = go (x == j) h (in_first j xs ys)
  where
    go : (t : Bool) → (if t then true else includes j xs) ≡ true → (includes j xs ≡ true → includes j (xs ++ ys) ≡ true) → (if t then true else includes j (xs ++ ys)) ≡ true
    go true h ih = refl
    go false h ih = ih h

in_second : (j : ℕ) (xs ys : List ℕ) → includes j ys ≡ true → includes j (xs ++ ys) ≡ true
in_second j [] ys h = h
in_second j (x ∷ xs) ys h = go (x == j) (in_second j xs ys h)
  where
    go : (t : Bool) → includes j (xs ++ ys) ≡ true → (if t then true else includes j (xs ++ ys)) ≡ true
    go true k = refl
    go false k = k

-- a row at a place is among the rows
included : (j k : ℕ) (rows : List ℕ) → slice_get rows k ≡ Some j → includes j rows ≡ true
included j k [] at = cc
included j zero (row ∷ rows) at = go (row == j) (eq-eqb row j (same_some row j at))
  where
    go : (t : Bool) → t ≡ true → (if t then true else includes j rows) ≡ true
    go true same = refl
    go false same = absurd (true≢false (sym same))
included j (suc k) (row ∷ rows) at = go (row == j) (included j k rows at)
  where
    go : (t : Bool) → includes j rows ≡ true → (if t then true else includes j rows) ≡ true
    go true h = refl
    go false h = h

-- the entry of a row of a log
record HasEntry (c : Config) (values : List ℕ) (j : ℕ) : Type 0 where
  place : ℕ
  value : ℕ
  there : slice_get values place ≡ Some value
  holds : includes j (rows_of c value) ≡ true

of_two : (j : ℕ) (xs ys : List ℕ) → includes j (xs ++ ys) ≡ true → (includes j xs ≡ true) ⊎ (includes j ys ≡ true)
of_two j [] ys h = inr h
of_two j (x ∷ xs) ys h = go (x == j) h (of_two j xs ys)
  where
    go : (t : Bool) → (if t then true else includes j (xs ++ ys)) ≡ true → (includes j (xs ++ ys) ≡ true → (includes j xs ≡ true) ⊎ (includes j ys ≡ true)) → ((if t then true else includes j xs) ≡ true) ⊎ (includes j ys ≡ true)
    go true h ih = inl refl
    go false h ih = ih h

entry_with : (c : Config) (values : List ℕ) (j : ℕ) → includes j (rows_in c values) ≡ true → HasEntry c values j
entry_with c [] j h = absurd (true≢false (sym h))
entry_with c (v ∷ values) j h = elim (of_two j (rows_of c v) (rows_in c values) h) [
  | inl here ↦ record { place = 0; value = v; there = refl; holds = here }
  | inr later ↦ (let found = entry_with c values j later in record { place = suc found.place; value = found.value; there = found.there; holds = found.holds })
]

-- a row of an entry that landed is among those that were put
landed_put : (c : Config) (p i b v j : ℕ) (past : List Event) → includes j (rows_of c v) ≡ true → has_landed p i b v past ≡ true → includes j (rows_put c past) ≡ true
landed_put c p i b v j [] holds landed = absurd (true≢false (sym landed))
landed_put c p i b v j (e ∷ past) holds landed = go e.verb e.answer (landed_put c p i b v j past holds) landed
  where
    go : (verb : Verb) (answer : Answer) → (has_landed p i b v past ≡ true → includes j (rows_put c past) ≡ true) → (if slot_landed p i b v verb answer then true else has_landed p i b v past) ≡ true
        → includes j (rows_put c past ++ rows_of_put c verb) ≡ true
    go (Verb.PutSlot q k n w) Answer.Done rest landed = at ((q == p) && ((k == i) && ((n == b) && (w == v)))) refl landed
      where
        at : (t : Bool) → ((q == p) && ((k == i) && ((n == b) && (w == v)))) ≡ t → (if t then true else has_landed p i b v past) ≡ true → includes j (rows_put c past ++ rows_of c w) ≡ true
        at true same landed =
            let x = and_parts (q == p) ((k == i) && ((n == b) && (w == v))) same in
            let y = and_parts (k == i) ((n == b) && (w == v)) x.1 in
            let z = and_parts (n == b) (w == v) y.1 in
            in_second j (rows_put c past) (rows_of c w) (subst (λ u. includes j (rows_of c u) ≡ true) (sym (eqb-true w v z.1)) holds)
        at false same landed = in_first j (rows_put c past) (rows_of c w) (rest landed)
    go verb answer rest landed = in_first j (rows_put c past) (rows_of_put c verb) (rest landed)

-- rows that were put stay among those that were
pub put_along : (c : Config) (j : ℕ) (newer older : List Event) → includes j (rows_put c older) ≡ true → includes j (rows_put c (newer ++ older)) ≡ true
put_along c j [] older h = h
put_along c j (e ∷ newer) older h = in_first j (rows_put c (newer ++ older)) (rows_of_put c e.verb) (put_along c j newer older h)

-- a row of what a replica has applied was put before
pub applied_put : (c : Config) (r k j : ℕ) (past : List Event) → IsLegalHistory c past → slice_get (rows_in c (applied c r (part r past))) k ≡ Some j → includes j (rows_put c past) ≡ true
applied_put c r k j past legal at =
    let found = entry_with c (applied c r (part r past)) j (included j k (rows_in c (applied c r (part r past))) at) in
    let by = known_chosen c r found.place found.value past legal (applied_known c r found.place found.value (part r past) found.there) in
    let is = by.is in
    let somewhere = some_below c.replicas (λ p. has_landed p found.place by.b found.value past) (omega (arith, is)) in
    landed_put c somewhere.who found.place by.b found.value j past found.holds somewhere.passes
