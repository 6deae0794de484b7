-- Batches of commands in session: how many follow, and the rows.
use Rattle.std.proofs.Common.{◌≡◌, ℕ, suc, zero, ◌+◌, ◌%◌, ◌<◌, ◌≤◌, ◌==◌, Bool, true, false, cond, List, [], ◌∷◌, ◌++◌, refl, sym, ap, subst, ◌∙◌, inl, inr, ◌⊎◌, append_assoc, arith}
use Rattle.std.specs.Bool.{⊤}
use Rattle.std.proofs.lemmas.Bool.Decides.{Decides-eqb, nat_tests}
use Rattle.kv_store.specs.Commands.{Request}
use Rattle.kv_store.specs.Sessions.{numbers_of, CountsFrom, IsInSession}
use Rattle.mu_model.specs.declared.config.Row.{Row}
use Rattle.mu_rows.specs.Rows.{spelled}
use Rattle.mu_input.specs.Batches.{followers, rows_of}
use Rattle.mu_input.specs.Heads.{HasHead, HaveHeads}

-- a test passes or fails
pub cases_of : (b : Bool) → (b ≡ true) ⊎ (b ≡ false)
cases_of true = inl refl
cases_of false = inr refl

not_zero : (n : ℕ) → (n == 0) ≡ false → 1 ≤ n
not_zero n e = grind (arith, nat_tests)

-- two commands of one client that stand side by side have numbers side by side
abbrev pub AreInTurn : List Request → Type 0
AreInTurn [] = ⊤
AreInTurn (command ∷ []) = ⊤
AreInTurn (command ∷ next ∷ commands) = (next.client ≡ command.client → next.number ≡ command.number + 1) × AreInTurn (next ∷ commands)

pub AreInTurn-rest : (command : Request) (commands : List Request) → AreInTurn (command ∷ commands) → AreInTurn commands
AreInTurn-rest command [] turn = tt
AreInTurn-rest command (next ∷ commands) turn = turn.1

-- each client's numbers count on from one of its own
abbrev Count : (ℕ → ℕ) → List Request → Type 0
Count first commands = (client : ℕ) → CountsFrom (first client) (numbers_of client commands)

abbrev next_first : (ℕ → ℕ) → ℕ → ℕ → ℕ
next_first first mine client = cond (mine == client) (first client + 1) (first client)

one_more : (mine : Bool) (first number : ℕ) (numbers : List ℕ) → CountsFrom first (cond mine (number ∷ numbers) numbers) → CountsFrom (cond mine (first + 1) first) numbers
one_more true first number numbers counts = counts.1
one_more false first number numbers counts = counts

Count-rest : (first : ℕ → ℕ) (command : Request) (commands : List Request) → Count first (command ∷ commands) → Count (next_first first command.client) commands
Count-rest first command commands counts client = one_more (command.client == client) (first client) command.number (numbers_of client commands) (counts client)

first_is : (mine : Bool) (first number : ℕ) (numbers : List ℕ) → mine ≡ true → CountsFrom first (cond mine (number ∷ numbers) numbers) → number ≡ first
first_is true first number numbers e counts = counts.0
first_is false first number numbers e counts = cc

number_is : (first : ℕ → ℕ) (command : Request) (commands : List Request) → Count first (command ∷ commands) → command.number ≡ first command.client
number_is first command commands counts = first_is (command.client == command.client) (first command.client) command.number (numbers_of command.client commands) ((Decides-eqb command.client command.client).1 refl) (counts command.client)

next_is : (first : ℕ → ℕ) (command next : Request) (commands : List Request) → Count first (command ∷ next ∷ commands) → next.client ≡ command.client → next.number ≡ command.number + 1
next_is first command next commands counts same =
    number_is (next_first first command.client) next commands (Count-rest first command (next ∷ commands) counts)
    ∙ ap (λ client. next_first first command.client client) same
    ∙ ap (λ b. cond b (first command.client + 1) (first command.client)) ((Decides-eqb command.client command.client).1 refl)
    ∙ ap (λ n. n + 1) (sym (number_is first command (next ∷ commands) counts))

AreInTurn-count : (first : ℕ → ℕ) (commands : List Request) → Count first commands → AreInTurn commands
AreInTurn-count first [] counts = tt
AreInTurn-count first (command ∷ []) counts = tt
AreInTurn-count first (command ∷ next ∷ commands) counts =
    (next_is first command next commands counts, AreInTurn-count (next_first first command.client) (next ∷ commands) (Count-rest first command (next ∷ commands) counts))

-- commands in session are in turn
pub AreInTurn-session : (commands : List Request) → IsInSession commands → AreInTurn commands
AreInTurn-session commands session = AreInTurn-count (λ _. 1) commands session

-- the last command of a full batch has none after it
full : (width : ℕ) (command : Request) (commands : List Request) → command.number % width ≡ 0 → followers width command commands ≡ 0
full width command [] e = refl
full width command (next ∷ commands) e = ap (λ b. cond b 0 (cond (next.client == command.client) (followers width next commands + 1) 0)) ((Decides-eqb (command.number % width) 0).1 e)

-- the place after one is the next of its batch, or the first of another
next_place : (width number : ℕ) → 1 ≤ width → width ≤ 4 → ((number + 1) % width ≡ 0) ⊎ ((number + 1) % width ≡ number % width + 1)
next_place zero number some few = absurd (omega arith)
next_place (suc zero) number some few = inl (omega arith)
next_place (suc (suc zero)) number some few = grind arith
next_place (suc (suc (suc zero))) number some few = grind arith
next_place (suc (suc (suc (suc zero)))) number some few = grind arith
next_place (suc (suc (suc (suc (suc width))))) number some few = absurd (omega arith)

below_width : (width number : ℕ) → 1 ≤ width → number % width < width
below_width width number some = omega arith

-- one more follower fits
one_further : (width place next more : ℕ) → place < width → (next ≡ 0) ⊎ (next ≡ place + 1) → (next ≡ 0 → more ≡ 0) → more + next ≤ width → more + 1 + place ≤ width
one_further width place next more below (inl none) rest fits = omega (arith, rest none)
one_further width place next more below (inr on) rest fits = omega arith

-- the place of a command and the followers of it are no more than the width
fits : (width : ℕ) (command : Request) (commands : List Request) → 1 ≤ width → width ≤ 4 → AreInTurn (command ∷ commands) → followers width command commands + command.number % width ≤ width
fits width command [] some few turn = omega (arith, below_width width command.number some)
fits width command (next ∷ commands) some few turn =
    let place = below_width width command.number some in
    let rest = fits width next commands some few turn.1 in
    elim (cases_of (command.number % width == 0)) [
      | inl last ↦ rw last (omega (arith, place))
      | inr on ↦ rw on (elim (cases_of (next.client == command.client)) [
        | inl same ↦
            let number : next.number ≡ command.number + 1 = turn.0 ((Decides-eqb next.client command.client).0 same) in
            rw same (one_further width (command.number % width) (next.number % width) (followers width next commands) place (subst (λ n. (n % width ≡ 0) ⊎ (n % width ≡ command.number % width + 1)) (sym number) (next_place width command.number some few)) (full width next commands) rest)
        | inr other ↦ rw other (omega (arith, place))
      ])
    ]

-- fewer follow than the width
pub followers_below : (width : ℕ) (command : Request) (commands : List Request) → 1 ≤ width → width ≤ 4 → AreInTurn (command ∷ commands) → followers width command commands < width
followers_below width command commands some few turn =
    let both = fits width command commands some few turn in
    elim (cases_of (command.number % width == 0)) [
      | inl last ↦ omega (arith, full width command commands ((Decides-eqb (command.number % width) 0).0 last))
      | inr on ↦ omega (arith, both, not_zero (command.number % width) on)
    ]

append-one : (rows : List Row) (row : Row) (more : List Row) → (rows ++ row ∷ []) ++ more ≡ rows ++ (row ∷ more)
append-one rows row more = rw append_assoc

-- the row of one more command
pub rows_of-more : (width : ℕ) (commands left : List Request) (command : Request) (after : List Request) (rows pushed : List Row) (row : Row) → left ≡ command ∷ after
    → row.words ≡ spelled command (followers width command after) → pushed ≡ rows ++ row ∷ [] → rows_of width commands ≡ rows ++ rows_of width left → rows_of width commands ≡ pushed ++ rows_of width after
rows_of-more width commands left command after rows pushed row first words push so_far =
    let is : row ≡ record { words = spelled command (followers width command after) } = ap (λ (ws : List ℕ). let made : Row = record { words = ws } in made) words in
    so_far ∙ ap (λ left. rows ++ rows_of width left) first ∙ ap (λ (row : Row). rows ++ row ∷ rows_of width after) (sym is)
    ∙ sym (append-one rows row (rows_of width after)) ∙ ap (λ rows. rows ++ rows_of width after) (sym push)

-- and its head word
pub HaveHeads-more : (width : ℕ) (commands left : List Request) (command : Request) (after : List Request) (rows pushed : List Row) (row : Row) → left ≡ command ∷ after
    → HasHead row command (followers width command after) → pushed ≡ rows ++ row ∷ [] → ((more : List Row) → HaveHeads width left more → HaveHeads width commands (rows ++ more))
    → (more : List Row) → HaveHeads width after more → HaveHeads width commands (pushed ++ more)
HaveHeads-more width commands left command after rows pushed row first head push so_far more have =
    subst (HaveHeads width commands) (sym (append-one rows row more) ∙ ap (λ rows. rows ++ more) (sym push))
    (so_far (row ∷ more) (subst (λ left. HaveHeads width left (row ∷ more)) (sym first) (head, have)))
