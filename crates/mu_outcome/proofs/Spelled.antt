-- The rows of entries and their commands, side by side.
use Rattle.std.proofs.Common.{◌≡◌, ◌∙◌, ℕ, suc, zero, ◌+◌, ◌%◌, ◌<◌, ◌≤◌, ◌==◌, Bool, true, false, cond, List, [], ◌∷◌, ◌++◌, Some, ap, arith, drop, length, refl, subst, sym, take}
use Rattle.std.specs.Prelude.{⊤}
use Rattle.std.specs.List.{slice_get}
use Rattle.std.proofs.lemmas.Option.{slice_get_within}
use Rattle.kv_store.specs.Commands.{Request}
use Rattle.kv_store.specs.Sessions.{numbers_of}
use Rattle.mu_agree.proofs.Sessions.{batch_within, row_within}
use Rattle.mu_input.specs.Heads.{HaveHeads}
use Rattle.mu_input.specs.declared.job.Job.{Job}
use Rattle.mu_input.proofs.JobConfigs.{as_many, row_at}
use Rattle.mu_model.specs.Contents.{IsConfig, client_of, is_batch, numbers_in, rest_of, rows_from, rows_in, rows_of}
use Rattle.mu_model.proofs.Basics.{same_some}
use Rattle.mu_outcome.specs.Entries.{commands_in, commands_of}

-- each row is that of the command at its place
abbrev pub Spell : List Request → List ℕ → List Request → Type 0
Spell commands [] [] = ⊤
Spell commands [] (x ∷ xs) = ⊥
Spell commands (j ∷ js) [] = ⊥
Spell commands (j ∷ js) (x ∷ xs) = (slice_get commands j ≡ Some x) × Spell commands js xs

spell_both : (commands : List Request) (js ks : List ℕ) (xs ys : List Request) → Spell commands js xs → Spell commands ks ys → Spell commands (js ++ ks) (xs ++ ys)
spell_both commands [] ks [] ys first second = second
spell_both commands [] ks (x ∷ xs) ys first second = absurd first
spell_both commands (j ∷ js) ks [] ys first second = absurd first
spell_both commands (j ∷ js) ks (x ∷ xs) ys first second = (first.0, spell_both commands js ks xs ys first.1 second)

pub spell_length : (commands : List Request) (js : List ℕ) (xs : List Request) → Spell commands js xs → length xs ≡ length js
spell_length commands [] [] spell = refl
spell_length commands [] (x ∷ xs) spell = absurd spell
spell_length commands (j ∷ js) [] spell = absurd spell
spell_length commands (j ∷ js) (x ∷ xs) spell = ap suc (spell_length commands js xs spell.1)

-- what stands at a place of the rows, and what of the commands
pub spell_at : (commands : List Request) (js : List ℕ) (xs : List Request) (i j : ℕ) → Spell commands js xs → slice_get js i ≡ Some j → (x : Request) × (slice_get xs i ≡ Some x) × (slice_get commands j ≡ Some x)
spell_at commands [] xs i j spell at = cc
spell_at commands (k ∷ js) [] i j spell at = absurd spell
spell_at commands (k ∷ js) (x ∷ xs) zero j spell at = (x, refl, subst (λ n. slice_get commands n ≡ Some x) (same_some k j at) spell.0)
spell_at commands (k ∷ js) (x ∷ xs) (suc i) j spell at = spell_at commands js xs i j spell.1 at

pub spell_row : (commands : List Request) (js : List ℕ) (xs : List Request) (i : ℕ) (x : Request) → Spell commands js xs → slice_get xs i ≡ Some x → (j : ℕ) × (slice_get js i ≡ Some j) × (slice_get commands j ≡ Some x)
spell_row commands js [] i x spell at = cc
spell_row commands [] (y ∷ xs) i x spell at = absurd spell
spell_row commands (j ∷ js) (y ∷ xs) zero x spell at = (j, refl, spell.0 ∙ at)
spell_row commands (j ∷ js) (y ∷ xs) (suc i) x spell at = spell_row commands js xs i x spell.1 at

drop_at : (xs : List Request) (j : ℕ) → j < length xs → (x : Request) × (slice_get xs j ≡ Some x) × (drop j xs ≡ x ∷ drop (suc j) xs)
drop_at [] j low = absurd (omega (arith, low))
drop_at (y ∷ ys) zero low = (y, refl, refl)
drop_at (y ∷ ys) (suc j) low = drop_at ys j (omega (arith, low))

spell_from : (commands : List Request) (n j : ℕ) → j + n ≤ length commands → Spell commands (rows_from n j) (take n (drop j commands))
spell_from commands zero j low = tt
spell_from commands (suc n) j low =
    let at = drop_at commands j (omega (arith, low)) in
    let one : suc j ≡ j + 1 = omega arith in
    let rest = subst (λ k. Spell commands (rows_from n (j + 1)) (take n (drop k commands))) (sym one) (spell_from commands n (j + 1) (omega (arith, low))) in
    subst (λ l. Spell commands (rows_from (suc n) j) (take (suc n) l)) (sym at.2) (at.1, rest)

spell_entry : (job : Job) (v : ℕ) → IsConfig job.config → HaveHeads job.config.width job.commands job.config.rows → Spell job.commands (rows_of job.config v) (commands_of job v)
spell_entry job v good have = go (is_batch job.config v) refl
  where
    go : (t : Bool) → is_batch job.config v ≡ t → Spell job.commands (cond t (rows_from (rest_of job.config (v % 4096) + 1) (v % 4096)) []) (cond t (take (rest_of job.config (v % 4096) + 1) (drop (v % 4096) job.commands)) [])
    go true batch =
        let low = row_within job.config v batch in
        let many = as_many job.config.width job.commands job.config.rows have in
        let there = batch_within job.config good (rest_of job.config (v % 4096)) (v % 4096) low refl in
        spell_from job.commands (rest_of job.config (v % 4096) + 1) (v % 4096) (omega (arith, many, there))
    go false batch = tt

-- the rows of entries are those of their commands
pub spell_in : (job : Job) (values : List ℕ) → IsConfig job.config → HaveHeads job.config.width job.commands job.config.rows → Spell job.commands (rows_in job.config values) (commands_in job values)
spell_in job [] good have = tt
spell_in job (v ∷ vs) good have = spell_both job.commands (rows_of job.config v) (rows_in job.config vs) (commands_of job v) (commands_in job vs) (spell_entry job v good have) (spell_in job vs good have)

-- the numbers of a client, by rows and by commands
pub spell_numbers : (job : Job) (client : ℕ) (js : List ℕ) (xs : List Request) → HaveHeads job.config.width job.commands job.config.rows → Spell job.commands js xs → numbers_of client xs ≡ numbers_in job.config client js
spell_numbers job client [] [] have spell = refl
spell_numbers job client [] (x ∷ xs) have spell = absurd spell
spell_numbers job client (j ∷ js) [] have spell = absurd spell
spell_numbers job client (j ∷ js) (x ∷ xs) have spell =
    let c = job.config in
    let low = slice_get_within job.commands j x spell.0 in
    let many = as_many c.width job.commands c.rows have in
    let at = row_at c.width job.commands c.rows have j (omega (arith, low, many)) in
    let same : at.0 ≡ x = same_some at.0 x (sym at.1.there ∙ spell.0) in
    let rest = numbers_in c client js in
    ap (λ l. cond (x.client == client) (x.number ∷ l) l) (spell_numbers job client js xs have spell.1)
    ∙ ap (λ m. cond (m == client) (x.number ∷ rest) rest) (ap (λ (y : Request). y.client) (sym same) ∙ sym at.1.client)
    ∙ ap (λ n. cond (client_of c j == client) (n ∷ rest) rest) (ap (λ (y : Request). y.number) (sym same) ∙ sym at.1.number)
