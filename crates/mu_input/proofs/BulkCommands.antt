-- The commands of the stated job: their keys and texts, their number and their session.
use Rattle.std.proofs.Common.{◌≡◌, ℕ, suc, zero, ◌+◌, ◌-◌, ◌/◌, ◌%◌, ◌^◌, ◌<◌, ◌≤◌, ◌==◌, cond, List, [], ◌∷◌, ◌++◌, length, refl, sym, ap, subst, ◌∙◌, inl, inr, arith}
use Rattle.std.proofs.lemmas.Fmt.{decimal_by_steps, length-decimal-le}
use Rattle.std.proofs.lemmas.List.{length-append}
use Rattle.std.proofs.lemmas.List.Elements.{All-cons, All-nil, All-push}
use Rattle.std.proofs.lemmas.Bool.{false≢true}
use Rattle.std.proofs.lemmas.Bool.Decides.{Decides-eqb}
use Rattle.std.specs.Fmt.{decimal}
use Rattle.std.specs.List.{All}
use Rattle.std.specs.Result.{IfOk}
use Rattle.std.specs.declared.result.Result.{Result}
use Rattle.std.specs.declared.result.Result.TheVariants.{Ok, Err}
use Rattle.kv_store.specs.Commands.{Request}
use Rattle.kv_store.specs.Sessions.{numbers_of, IsInSession}
use Rattle.kv_store.specs.Words.{IsKey, IsText, IsVisible, IsWord}
use Rattle.kv_store.proofs.InSession.{IsInSession-push, numbers_of-append}
use Rattle.mu_input.specs.Bulk.{bulk_key, bulk_text, bulk_command, bulk_commands}
use Rattle.mu_model.specs.declared.script.Script.{Script}
use Rattle.mu_input.specs.Grammar.{job_of}
use Rattle.mu_input.specs.declared.heading.Settings.{Settings}
use Rattle.mu_input.specs.declared.job.Job.{Job}
use Rattle.mu_input.specs.declared.TheConstants.{MOST_COMMANDS}
use Rattle.mu_input.proofs.Cuts.{cases_of}

-- digits are visible
visible : (n : ℕ) → n < 2 ^ 64 → All IsVisible (decimal n)
visible n few = decimal_by_steps (λ n ds. All IsVisible ds)
    (λ n digit. All-cons IsVisible (48 + n) [] (omega arith, omega arith) (All-nil IsVisible))
    (λ n ds many front. All-push IsVisible ds (48 + n % 10) front (omega arith, omega arith))
    n few

-- a letter and a number of up to four digits
named : (most letter n : ℕ) → 5 ≤ most → IsVisible letter → n < 10000 → IsWord most (letter ∷ decimal n)
named most letter n room seen few =
    let short = length-decimal-le 4 n (omega arith) (omega arith) (omega arith) in
    record {
      some = omega arith;
      fits = omega (arith, short);
      visible = All-cons IsVisible letter (decimal n) seen (visible n (omega arith));
    }

pub IsKey-bulk_key : (j : ℕ) → IsKey (bulk_key j)
IsKey-bulk_key j = named 24 107 (j % 3) (omega arith) (omega arith, omega arith) (omega arith)

pub IsText-bulk_text : (j : ℕ) → j < MOST_COMMANDS → IsText (bulk_text j)
IsText-bulk_text j few = named 64 118 j (omega arith) (omega arith, omega arith) (omega arith)

pub short_text : (j : ℕ) → j < MOST_COMMANDS → length (bulk_text j) ≤ 32
short_text j few = let short = length-decimal-le 4 j (omega arith) (omega arith) (omega arith) in omega (arith, short)

-- one more command
pub bulk_commands-more : (j : ℕ) → bulk_commands (j + 1) ≡ bulk_commands j ++ bulk_command j ∷ []
bulk_commands-more j = let e : j + 1 ≡ suc j = omega arith in ap bulk_commands e

pub length-bulk_commands : (n : ℕ) → length (bulk_commands n) ≡ n
length-bulk_commands zero = refl
length-bulk_commands (suc j) = omega (arith, length-append (bulk_commands j) (bulk_command j ∷ []), length-bulk_commands j)

one_of : (j client number : ℕ) → client < 4 → (j + 3 - client) / 4 + length (cond (j % 4 == client) (number ∷ []) []) ≡ (suc j + 3 - client) / 4
one_of j client number few = elim (cases_of (j % 4 == client)) [
  | inl mine ↦ let is : j % 4 ≡ client = (Decides-eqb (j % 4) client).0 mine in rw mine (omega arith)
  | inr other ↦ let not : j % 4 ≡ client → ⊥ = λ same. absurd (false≢true (sym other ∙ (Decides-eqb (j % 4) client).1 same)) in rw other (omega (arith, not))
]

-- how many of the first commands are a client's
of_client : (client n : ℕ) → client < 4 → length (numbers_of client (bulk_commands n)) ≡ (n + 3 - client) / 4
of_client client zero few = omega arith
of_client client (suc j) few =
    ap length (numbers_of-append client (bulk_commands j) (bulk_command j ∷ []))
    ∙ length-append (numbers_of client (bulk_commands j)) (numbers_of client (bulk_command j ∷ []))
    ∙ ap (λ n. n + length (numbers_of client (bulk_command j ∷ []))) (of_client client j few)
    ∙ one_of j client (j / 4 + 1) few

-- the commands are in session
pub IsInSession-bulk : (n : ℕ) → IsInSession (bulk_commands n)
IsInSession-bulk zero = λ client. tt
IsInSession-bulk (suc j) =
    let mine = of_client (j % 4) j (omega arith) in
    IsInSession-push (bulk_commands j) (bulk_command j) (IsInSession-bulk j) (omega (arith, mine))

-- a job of commands in session has them in session
pub session_of-job_of : {E : Type 0} (result : Result Job E) (settings : Settings) (commands : List Request) (script : Script) → IsInSession commands
    → IfOk result (λ job. job ≡ job_of settings commands script) → IfOk result (λ job. IsInSession job.commands)
session_of-job_of (Ok job) settings commands script session is = subst (λ (job : Job). IsInSession job.commands) (sym is) session
session_of-job_of (Err end) settings commands script session is = tt
