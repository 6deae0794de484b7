-- Commands of eras, one after the other: the store, the replies, and that each client's stand in order and once.
use Rattle.std.proofs.Common.{eqb-true, ◌≡◌, ◌∙◌, ℕ, ◌+◌, ◌==◌, Bool, true, false, cond, List, [], ◌∷◌, ◌++◌, ap, append-nil, append_assoc, arith, length, map, refl, subst, sym}
use Rattle.std.proofs.lemmas.List.{map-append}
use Rattle.kv_store.specs.Commands.{Request}
use Rattle.kv_store.specs.Sessions.{CountsFrom, IsInSession, numbers_of}
use Rattle.kv_store.specs.Tables.{Table, empty_table, replies, replies_from, reply_to, store, store_from, table_after}
use Rattle.kv_store.proofs.InSession.{numbers_of-append}
use Rattle.kv_store.proofs.Runs.{replies_from-append, store_from-append}
use Rattle.mu_model.specs.Histories.{IsPrefixOf}
use Rattle.mu_eras.specs.Orders.{count_of, going_on, numbered_after}

-- numbers don't matter to the store
store_numbered : (past : List Request) (table : Table) (era : List Request) → store_from table (map (numbered_after past) era) ≡ store_from table era
store_numbered past table [] = refl
store_numbered past table (command ∷ era) = store_numbered past (table_after table command.op) era

-- nor to its replies
replies_numbered : (past : List Request) (table : Table) (era : List Request) → replies_from table (map (numbered_after past) era) ≡ replies_from table era
replies_numbered past table [] = refl
replies_numbered past table (command ∷ era) = ap (λ rest. reply_to table command.op ∷ rest) (replies_numbered past (table_after table command.op) era)

-- the store after an era is that of its commands from the store before it
pub store_going_on : (past era : List Request) → store (going_on past era) ≡ store_from (store past) era
store_going_on past era = store_from-append empty_table past (map (numbered_after past) era) ∙ store_numbered past (store past) era

-- and its replies are those from that store on, behind the ones before
pub replies_going_on : (past era : List Request) → replies (going_on past era) ≡ replies past ++ replies_from (store past) era
replies_going_on past era = replies_from-append empty_table past (map (numbered_after past) era) ∙ ap (λ l. replies past ++ l) (replies_numbered past (store past) era)

-- the numbers of a client in an era that follows
abbrev shifted : ℕ → List ℕ → List ℕ
shifted by [] = []
shifted by (n ∷ ns) = (by + n) ∷ shifted by ns

shift_if : (t : Bool) (by n : ℕ) (rest : List ℕ) (own : ℕ) → (t ≡ true → own ≡ by + n) → cond t (own ∷ shifted by rest) (shifted by rest) ≡ shifted by (cond t (n ∷ rest) rest)
shift_if true by n rest own is = ap (λ x. x ∷ shifted by rest) (is refl)
shift_if false by n rest own is = refl

numbers_shifted : (past : List Request) (client : ℕ) (era : List Request) → numbers_of client (map (numbered_after past) era) ≡ shifted (count_of client past) (numbers_of client era)
numbers_shifted past client [] = refl
numbers_shifted past client (command ∷ era) =
    ap (λ rest. cond (command.client == client) ((count_of command.client past + command.number) ∷ rest) rest) (numbers_shifted past client era)
    ∙ shift_if (command.client == client) (count_of client past) command.number (numbers_of client era) (count_of command.client past + command.number)
    (λ mine. ap (λ k. count_of k past + command.number) (eqb-true command.client client mine))

counts_shifted : (by first : ℕ) (numbers : List ℕ) → CountsFrom first numbers → CountsFrom (by + first) (shifted by numbers)
counts_shifted by first [] counts = tt
counts_shifted by first (n ∷ ns) counts = (ap (λ x. by + x) counts.0, subst (λ k. CountsFrom k (shifted by ns)) (omega arith) (counts_shifted by (first + 1) ns counts.1))

counts_both : (first : ℕ) (xs ys : List ℕ) → CountsFrom first xs → CountsFrom (length xs + first) ys → CountsFrom first (xs ++ ys)
counts_both first [] ys one two = subst (λ k. CountsFrom k ys) (omega arith) two
counts_both first (x ∷ xs) ys one two = (one.0, counts_both (first + 1) xs ys one.1 (subst (λ k. CountsFrom k ys) (omega arith) two))

-- each client's commands stand in order and once over eras
pub session_going_on : (past era : List Request) → IsInSession past → IsInSession era → IsInSession (going_on past era)
session_going_on past era before now client =
    subst (CountsFrom 1) (sym (numbers_of-append client past (map (numbered_after past) era) ∙ ap (λ l. numbers_of client past ++ l) (numbers_shifted past client era)))
    (counts_both 1 (numbers_of client past) (shifted (count_of client past) (numbers_of client era)) (before client) (counts_shifted (count_of client past) 1 (numbers_of client era) (now client)))

-- more of an era only goes on
pub begins_going_on : (past xs ys : List Request) → IsPrefixOf xs ys → IsPrefixOf (going_on past xs) (going_on past ys)
begins_going_on past xs ys begins = (
  map (numbered_after past) begins.0,
  ap (going_on past) begins.1 ∙ ap (λ l. past ++ l) (map-append (numbered_after past) xs begins.0) ∙ sym (append_assoc past (map (numbered_after past) xs) (map (numbered_after past) begins.0)),
)

-- an era that follows
pub past_going_on : (past era : List Request) → IsPrefixOf past (going_on past era)
past_going_on past era = (map (numbered_after past) era, refl)
