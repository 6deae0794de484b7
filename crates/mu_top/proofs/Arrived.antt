-- The rows of a job whose commands came from clients at once say its commands.
use Rattle.std.proofs.Common.{◌≡◌, ℕ, ◌+◌, ◌%◌, ◌==◌, Bool, true, false, cond, List, [], ◌∷◌, refl, sym, ap, subst, ◌∙◌, arith, eq-eqb}
use Rattle.std.specs.declared.option.Option.{Option}
use Rattle.std.specs.Prelude.{⊤}
use Rattle.std.specs.List.{AllByRecursion}
use Rattle.std.specs.declared.result.Result.TheVariants.{Err}
use Rattle.front_desk.specs.Arrivals.{IsArrival, commands_by}
use Rattle.front_desk.specs.Collected.{IsCollected}
use Rattle.front_desk.proofs.Clients.{commands_by-own}
use Rattle.kv_store.specs.Commands.{Request}
use Rattle.mu_rows.specs.Rows.{spelled}
use Rattle.mu_input.specs.Batches.{followers, rows_of}
use Rattle.mu_input.specs.Heads.{HasHead, HaveHeads}
use Rattle.mu_input.specs.Readings.{Reading, Reads}
use Rattle.mu_input.specs.Senders.{IsForDesk}
use Rattle.mu_input.specs.declared.job.InputEnd.{InputEnd}
use Rattle.mu_input.specs.declared.job.Job.{Job}
use Rattle.mu_model.specs.Contents.{IsConfig}
use Rattle.mu_model.specs.declared.config.Row.{Row}
use Rattle.mu_top.specs.Desks.{at_desk}

-- what leaves the grammar leaves it at a desk too
pub left_at_desk : (found : Option ℕ) (reading : Reading Job) (end : InputEnd) → Reads (Err end) reading → Reads (Err end) (at_desk found reading)
left_at_desk found reading InputEnd.NoMemory is = tt
left_at_desk found reading (InputEnd.Refused line cause) is = ap (at_desk found) is

-- the row of a command alone in its batch
abbrev row_alone : Request → ℕ → Row
row_alone x n = record { words = spelled x n }

abbrev IsSaid : Request → Type 0
IsSaid x = HasHead (row_alone x 0) x 0

alone : (x : Request) (xs : List Request) → followers 1 x xs ≡ 0
alone x [] = refl
alone x (y ∷ ys) =
    let none : x.number % 1 ≡ 0 = omega arith in
    ap (λ b. cond b 0 (cond (y.client == x.client) (followers 1 y ys + 1) 0)) (eq-eqb (x.number % 1) 0 none)

all_said : (xs : List Request) → HaveHeads 1 xs (rows_of 1 xs) → AllByRecursion IsSaid xs
all_said [] have = tt
all_said (x ∷ xs) have = (subst (λ n. HasHead (row_alone x n) x n) (alone x xs) have.0, all_said xs have.1)

have_all : (xs : List Request) → AllByRecursion IsSaid xs → HaveHeads 1 xs (rows_of 1 xs)
have_all [] all = tt
have_all (x ∷ xs) all = (subst (λ n. HasHead (row_alone x n) x n) (sym (alone x xs)) all.0, have_all xs all.1)

all_of : (client : ℕ) (xs : List Request) → AllByRecursion IsSaid xs → AllByRecursion IsSaid (commands_by client xs)
all_of client [] all = tt
all_of client (x ∷ xs) all = go (x.client == client) (all_of client xs all.1)
  where
    go : (t : Bool) → AllByRecursion IsSaid (commands_by client xs) → AllByRecursion IsSaid (cond t (x ∷ commands_by client xs) (commands_by client xs))
    go true rest = (all.0, rest)
    go false rest = rest

all_from : (xs : List Request) → ((client : ℕ) → AllByRecursion IsSaid (commands_by client xs)) → AllByRecursion IsSaid xs
all_from [] each = tt
all_from (x ∷ xs) each =
    let own : AllByRecursion IsSaid (x ∷ commands_by x.client xs) = subst (AllByRecursion IsSaid) (commands_by-own x.client x xs refl) (each x.client) in
    (own.0, all_from xs (λ client. rest client (x.client == client) (each client)))
  where
    rest : (client : ℕ) (t : Bool) → AllByRecursion IsSaid (cond t (x ∷ commands_by client xs) (commands_by client xs)) → AllByRecursion IsSaid (commands_by client xs)
    rest client true all = all.1
    rest client false all = all

-- what arrives of commands whose rows say them has such rows
pub heads_collected : (given collected : Job) → IsConfig given.config → IsForDesk given → HaveHeads given.config.width given.commands given.config.rows → given.config.rows ≡ rows_of given.config.width given.commands
    → IsArrival given.commands collected.commands → IsCollected given collected → HaveHeads collected.config.width collected.commands collected.config.rows
heads_collected given collected good desk have made arrival same =
    let one : given.config.width ≡ 1 = good.plain desk.version in
    let rows : given.config.rows ≡ rows_of 1 given.commands = made ∙ ap (λ w. rows_of w given.commands) one in
    let first : HaveHeads 1 given.commands given.config.rows = subst (λ w. HaveHeads w given.commands given.config.rows) one have in
    let said : AllByRecursion IsSaid given.commands = all_said given.commands (subst (HaveHeads 1 given.commands) rows first) in
    let arrived : AllByRecursion IsSaid collected.commands =
    all_from collected.commands (λ client. subst (AllByRecursion IsSaid) (sym (arrival client)) (all_of client given.commands said)) in
    let wide : collected.config.width ≡ 1 = same.width ∙ one in
    let mine : collected.config.rows ≡ rows_of 1 collected.commands = same.rows ∙ ap (λ w. rows_of w collected.commands) one in
    subst (λ w. HaveHeads w collected.commands collected.config.rows) (sym wide)
    (subst (HaveHeads 1 collected.commands) (sym mine) (have_all collected.commands arrived))
