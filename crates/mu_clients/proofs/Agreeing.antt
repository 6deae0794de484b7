-- Logs of an attested list agree at all moments, and so do the replies over them.
use Rattle.std.proofs.Common.{◌≡◌, ℕ, suc, zero, ◌==◌, ◌⊎◌, Bool, true, false, List, [], ◌∷◌, ◌++◌, reverse, take, refl, sym, ◌∙◌, ap, Some, subst, eqb-true, append_assoc}
use Rattle.std.specs.Prelude.{if◌then◌else◌}
use Rattle.std.specs.List.{slice_get}
use Rattle.std.proofs.lemmas.List.{reverse-append}
use Rattle.kv_store.proofs.Runs.{replies_from-append}
use Rattle.kv_store.specs.Tables.{empty_table, replies, replies_from, store}
use Rattle.kv_store.specs.declared.store.Reply.{Reply}
use Rattle.mu_agree.proofs.Knowing.{known_stays}
use Rattle.mu_agree.proofs.Prefixes.{known_agree, lists_agree}
use Rattle.mu_clients.specs.Attested.{IsAttestedBack, beside, events_in, reply_over}
use Rattle.mu_clients.specs.declared.items.Item.{Item}
use Rattle.mu_input.specs.declared.job.Job.{Job}
use Rattle.mu_model.proofs.Basics.{same_some}
use Rattle.mu_model.proofs.Lists.{get_front}
use Rattle.mu_model.proofs.Parts.{filter-append}
use Rattle.mu_model.proofs.Scans.{rows_in-append}
use Rattle.mu_model.specs.Contents.{rows_in}
use Rattle.mu_model.specs.Histories.{part, IsPrefixOf}
use Rattle.mu_model.specs.Knowledge.{applied, front, has_entry, known}
use Rattle.mu_model.specs.Legal.{IsLegalHistory}
use Rattle.mu_model.specs.declared.config.Config.{Config}
use Rattle.mu_model.specs.declared.event.Event.{Event}
use Rattle.mu_outcome.proofs.LogCommands.{commands_in-append}
use Rattle.mu_outcome.specs.Entries.{commands_in}

-- the events of an attested list are legal
pub events_legal : (job : Job) (past : List Item) → IsAttestedBack job past → IsLegalHistory job.config (events_in past)
events_legal job [] held = tt
events_legal job (Item.Event event ∷ past) held = (events_legal job past held.0, held.1)
events_legal job (Item.Got row ∷ past) held = events_legal job past held.0
events_legal job (Item.Told by row reply ∷ past) held = events_legal job past held.0

-- the events of newer items and of older ones
pub events_parts : (newer older : List Item) → events_in (newer ++ older) ≡ events_in newer ++ events_in older
events_parts [] older = refl
events_parts (Item.Event event ∷ newer) older = ap (λ l. event ∷ l) (events_parts newer older)
events_parts (Item.Got row ∷ newer) older = events_parts newer older
events_parts (Item.Told by row reply ∷ newer) older = events_parts newer older

-- what begins an attested list is attested
pub attested_older : (job : Job) (newer older : List Item) → IsAttestedBack job (newer ++ older) → IsAttestedBack job older
attested_older job [] older held = held
attested_older job (item ∷ newer) older held = attested_older job newer older held.0

-- an element and what comes before it, with the newest first
pub record Before {A : Type 0} (items : List A) (i : ℕ) (x : A) : Type 0 where
  pub newer : List A
  pub is : reverse items ≡ newer ++ x ∷ reverse (take i items)

pub before_at : {A : Type 0} (items : List A) (i : ℕ) (x : A) → slice_get items i ≡ Some x → Before items i x
before_at [] i x at = cc
before_at (y ∷ items) zero x at = record { newer = reverse items; is = reverse-append (y ∷ []) items ∙ ap (λ z. reverse items ++ z ∷ []) (same_some y x at) }
before_at (y ∷ items) (suc i) x at = go (before_at items i x at)
  where
    go : Before items i x → Before (y ∷ items) (suc i) x
    go b = record {
      newer = b.newer;
      is = reverse-append (y ∷ []) items ∙ ap (λ l. l ++ y ∷ []) b.is ∙ append_assoc b.newer (x ∷ reverse (take i items)) (y ∷ []) ∙ ap (λ l. b.newer ++ x ∷ l) (sym (reverse-append (y ∷ []) (take i items)));
    }

-- what stands in a front stands in the list
front_there : (test : ℕ → Bool) (xs : List ℕ) (i v : ℕ) → slice_get (front test xs) i ≡ Some v → slice_get xs i ≡ Some v
front_there test [] i v at = at
front_there test (x ∷ xs) i v at = go (test x) i (λ j there. front_there test xs j v there) at
  where
    go : (t : Bool) (i : ℕ) → ((j : ℕ) → slice_get (front test xs) j ≡ Some v → slice_get xs j ≡ Some v) → slice_get (if t then (x ∷ front test xs) else []) i ≡ Some v → slice_get (x ∷ xs) i ≡ Some v
    go false i rest at = cc
    go true zero rest at = at
    go true (suc i) rest at = rest i at

-- what is applied is known
pub applied_known : (c : Config) (r i v : ℕ) (mine : List Event) → slice_get (applied c r mine) i ≡ Some v → slice_get (known c r mine) i ≡ Some v
applied_known c r i v mine = front_there (λ w. has_entry c r w mine) (known c r mine) i v

-- what was known at a position is still known there
known_along : (c : Config) (r i v : ℕ) (newer older : List Event) → slice_get (known c r (part r older)) i ≡ Some v → slice_get (known c r (part r (newer ++ older))) i ≡ Some v
known_along c r i v newer older at =
    let begins = known_stays c r (part r newer) (part r older) in
    subst (λ l. slice_get (known c r l) i ≡ Some v) (sym (filter-append (λ e. e.by == r) newer older))
    (subst (λ l. slice_get l i ≡ Some v) (sym begins.1) (get_front (known c r (part r older)) begins.0 i v at))

-- two logs at two moments of a legal history: one begins the other
pub logs_agree : (c : Config) (r s : ℕ) (all first second newer later : List Event) → IsLegalHistory c all → all ≡ newer ++ first → all ≡ later ++ second
    → IsPrefixOf (applied c r (part r first)) (applied c s (part s second)) ⊎ IsPrefixOf (applied c s (part s second)) (applied c r (part r first))
logs_agree c r s all first second newer later legal one two =
    lists_agree (applied c r (part r first)) (applied c s (part s second)) (λ i v w a b.
    known_agree c r s all legal i v w
    (subst (λ l. slice_get (known c r (part r l)) i ≡ Some v) (sym one) (known_along c r i v newer first (applied_known c r i v (part r first) a)))
    (subst (λ l. slice_get (known c s (part s l)) i ≡ Some w) (sym two) (known_along c s i w later second (applied_known c s i w (part s second) b))))

-- what stands beside a row stays beside it in longer lists
beside_front : (j : ℕ) (rows more : List ℕ) (xs ys : List Reply) (x : Reply) → beside j rows xs ≡ Some x → beside j (rows ++ more) (xs ++ ys) ≡ Some x
beside_front j [] more xs ys x at = cc
beside_front j (row ∷ rows) more [] ys x at = cc
beside_front j (row ∷ rows) more (y ∷ xs) ys x at = go (row == j) (beside_front j rows more xs ys x) at
  where
    go : (t : Bool) → (beside j rows xs ≡ Some x → beside j (rows ++ more) (xs ++ ys) ≡ Some x) → (if t then Some y else beside j rows xs) ≡ Some x → (if t then Some y else beside j (rows ++ more) (xs ++ ys)) ≡ Some x
    go true rest at = at
    go false rest at = rest at

-- a row with something beside it is among the rows
pub beside_at : (j : ℕ) (rows : List ℕ) (xs : List Reply) (x : Reply) → beside j rows xs ≡ Some x → (k : ℕ) × (slice_get rows k ≡ Some j)
beside_at j [] xs x at = cc
beside_at j (row ∷ rows) [] x at = cc
beside_at j (row ∷ rows) (y ∷ xs) x at = go (row == j) refl (beside_at j rows xs x) at
  where
    go : (t : Bool) → (row == j) ≡ t → (beside j rows xs ≡ Some x → (k : ℕ) × (slice_get rows k ≡ Some j)) → (if t then Some y else beside j rows xs) ≡ Some x → (k : ℕ) × (slice_get (row ∷ rows) k ≡ Some j)
    go true same rest at = (0, ap (λ n. Some n) (eqb-true row j same))
    go false same rest at = let found = rest at in (suc found.0, found.1)

-- the reply over a log is the one over a log that goes on
pub reply_along : (job : Job) (log longer : List ℕ) (j : ℕ) (x : Reply) → IsPrefixOf log longer → reply_over job log j ≡ Some x → reply_over job longer j ≡ Some x
reply_along job log longer j x begins at =
    let told = ap (λ l. replies (commands_in job l)) begins.1 ∙ ap replies (commands_in-append job log begins.0) ∙ replies_from-append empty_table (commands_in job log) (commands_in job begins.0) in
    let rows = ap (rows_in job.config) begins.1 ∙ rows_in-append job.config log begins.0 in
    rw (told, rows) (beside_front j (rows_in job.config log) (rows_in job.config begins.0) (replies (commands_in job log)) (replies_from (store (commands_in job log)) (commands_in job begins.0)) x at)
