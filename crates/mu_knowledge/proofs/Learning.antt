-- What a replica learns, and how many commands it may know.
use Rattle.std.proofs.Common.{◌≡◌, ℕ, zero, suc, ◌+◌, ◌*◌, ◌%◌, ◌<◌, ◌≤◌, ◌==◌, Bool, true, false, List, [], ◌∷◌, ◌++◌, refl, ◌∙◌, ap, arith, Some, length}
use Rattle.std.specs.Prelude.{if◌then◌else◌}
use Rattle.std.proofs.lemmas.List.{append-nil, length-append}
use Rattle.mu_model.specs.declared.config.Config.{Config}
use Rattle.mu_model.specs.declared.event.Answer.{Answer}
use Rattle.mu_model.specs.declared.event.Event.{Event}
use Rattle.mu_model.specs.declared.event.Verb.{Verb}
use Rattle.mu_model.specs.Contents.{IsConfig, client_of, command_count, is_batch, number_of, numbers_in, rest_of, row_count, rows_from, rows_in, rows_of, session}
use Rattle.mu_model.specs.Knowledge.{learnt_by}
use Rattle.mu_model.specs.Room.{reserve}
use Rattle.mu_agree.proofs.Knowing.{Teaches, by_look, by_put, teaches}
use Rattle.mu_agree.proofs.Sessions.{row_within}
use Rattle.mu_model.proofs.Scans.{rows_in-append, taken_after}
use Rattle.mu_knowledge.specs.KnownLog.{IsPlaced}

within_taught : (c : Config) (r n v by : ℕ) (verb : Verb) (answer : Answer) (mine now : List Event) → Teaches c r mine now n v by verb answer → IsPlaced c verb → n ≤ row_count c + reserve c
within_taught c r n v by verb answer mine now (by_put own all) near = near
within_taught c r n v by verb answer mine now (by_look own decided) near = near.1

-- there is a position for each value that is learnt
pub learns_within : (c : Config) (r n v by : ℕ) (verb : Verb) (answer : Answer) (mine now : List Event) → IsPlaced c verb → learnt_by c r mine n by verb answer now ≡ Some v → n ≤ row_count c + reserve c
learns_within c r n v by verb answer mine now near taught = within_taught c r n v by verb answer mine now (teaches c r n v by verb answer mine now taught) near

numbers_fit : (c : Config) (client : ℕ) (js : List ℕ) → length (numbers_in c client js) ≤ length js
numbers_fit c client [] = omega arith
numbers_fit c client (j ∷ js) = go (client_of c j == client) (numbers_fit c client js)
  where
    go : (t : Bool) → length (numbers_in c client js) ≤ length js → length (if t then (number_of c j ∷ numbers_in c client js) else numbers_in c client js) ≤ suc (length js)
    go true fits = omega arith
    go false fits = omega arith

rows_length : (n j : ℕ) → length (rows_from n j) ≡ n
rows_length zero j = refl
rows_length (suc n) j = ap suc (rows_length n (j + 1))

-- at most n of n rows are of one client
pub few_of_rows : (c : Config) (client n j : ℕ) → length (numbers_in c client (rows_from n j)) ≤ n
few_of_rows c client n j = let fit = numbers_fit c client (rows_from n j) in let long = rows_length n j in omega arith

-- there are few positions
pub few_places : (c : Config) → IsConfig c → row_count c + reserve c < 2000
few_places c good = go (c.version == 2)
  where
    go : (t : Bool) → row_count c + (if t then c.replicas else 0) < 2000
    go true = let rows = good.few in let few = good.replicas.1 in omega (arith, rows, few)
    go false = let rows = good.few in omega (arith, rows)

-- how many rows an entry has
pub rows_counted : (c : Config) (v : ℕ) (t : Bool) → is_batch c v ≡ t → length (rows_of c v) ≡ (if t then rest_of c (v % 4096) + 1 else 0)
rows_counted c v true is = rw is (rows_length (rest_of c (v % 4096) + 1) (v % 4096))
rows_counted c v false is = rw is refl

-- an entry has at most four rows
few_rows : (c : Config) (v : ℕ) → IsConfig c → length (rows_of c v) ≤ 4
few_rows c v good = go (is_batch c v) refl
  where
    go : (t : Bool) → is_batch c v ≡ t → length (rows_of c v) ≤ 4
    go true is =
        let low = good.rests (v % 4096) (row_within c v is) in
        let narrow = good.widths.1 in
        let long = rows_counted c v true is in
        omega (arith, low, narrow, long)
    go false is = let long = rows_counted c v false is in omega (arith, long)

-- so at most four of one client
pub few_of_entry : (c : Config) (client v : ℕ) → IsConfig c → length (numbers_in c client (rows_of c v)) ≤ 4
few_of_entry c client v good =
    let fit = numbers_fit c client (rows_of c v) in
    let few = few_rows c v good in
    omega (arith, fit, few)

-- values have at most four times as many rows as they are
few_rows_in : (c : Config) (values : List ℕ) → IsConfig c → length (rows_in c values) ≤ 4 * length values
few_rows_in c [] good = omega arith
few_rows_in c (v ∷ values) good =
    let more = few_rows_in c values good in
    let here = few_rows c v good in
    let both = length-append (rows_of c v) (rows_in c values) in
    omega (arith, more, here, both)

-- one value more adds its rows, which are few
pub rows_added : (c : Config) (v : ℕ) (values : List ℕ) → length (rows_in c (values ++ v ∷ [])) ≡ length (rows_in c values) + length (rows_of c v)
rows_added c v values =
    ap length (rows_in-append c values (v ∷ [])) ∙ length-append (rows_in c values) (rows_of c v ++ [])
    ∙ ap (λ xs. length (rows_in c values) + length xs) (append-nil (rows_of c v))

pub few_after : (c : Config) (v : ℕ) (values : List ℕ) → IsConfig c → length values < 2000 → length (rows_in c values) + length (rows_of c v) < 65536
few_after c v values good short =
    let all = few_rows_in c values good in
    let some = few_rows c v good in
    omega (arith, all, some, short)

-- values hold at most four times as many commands as they are
pub few_commands : (c : Config) (client : ℕ) (values : List ℕ) → IsConfig c → command_count c client values ≤ 4 * length values
few_commands c client [] good = omega arith
few_commands c client (v ∷ values) good =
    let more = few_commands c client values good in
    let here = few_of_entry c client v good in
    let both = length-append (numbers_in c client (rows_of c v)) (session c client values) in
    omega arith

-- a batch adds as many commands as it has rows of the client
pub batch_counted : (c : Config) (client v n : ℕ) (values : List ℕ) → is_batch c v ≡ true → n ≡ rest_of c (v % 4096) + 1
    → command_count c client (values ++ v ∷ []) ≡ command_count c client values + length (numbers_in c client (rows_from n (v % 4096)))
batch_counted c client v n values is all = taken_after c client v values ∙ rw (is, all) refl

-- a mark adds no command
pub mark_counted : (c : Config) (client v : ℕ) (values : List ℕ) → is_batch c v ≡ false → command_count c client (values ++ v ∷ []) ≡ command_count c client values
mark_counted c client v values is = taken_after c client v values ∙ rw is (omega arith)
