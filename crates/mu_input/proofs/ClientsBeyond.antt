-- The commands of a job whose lines begin no client too many.
use Rattle.std.proofs.Common.{◌≡◌, ◌≢◌, ℕ, ◌+◌, ◌-◌, ◌<◌, ◌≤◌, ◌==◌, true, false, List, [], ◌∷◌, ◌++◌, length, Some, None, refl, sym, ap, subst, ◌∙◌, arith, ⊎_elim, length-append}
use Rattle.std.specs.declared.option.Option.{Option}
use Rattle.std.specs.Prelude.{IfNone, ⊤, if◌then◌else◌}
use Rattle.std.proofs.lemmas.List.Elements.{All-append, All-cons, All-nil}
use Rattle.std.proofs.lemmas.Bool.Decides.{eqb_tells}
use Rattle.kv_store.specs.Commands.{Request}
use Rattle.mu_text.specs.Lines.{Left, lines, words}
use Rattle.mu_input.specs.Bodies.{body_at, body_line, body_after, body_from, next_command}
use Rattle.mu_input.specs.Grammar.{job, job_at, job_of, all_lines}
use Rattle.mu_input.specs.Readings.{Front, Begins, Line, Says, Wrong, Fits, followed}
use Rattle.mu_input.specs.Scripts.{script_at}
use Rattle.mu_input.specs.Senders.{HaveSenders, IsForDesk, beyond_after, beyond_from}
use Rattle.mu_input.specs.Settings.{settings_at}
use Rattle.mu_input.specs.declared.TheConstants.{MOST_SENDERS}
use Rattle.mu_input.specs.declared.bodies.Body.{Body}
use Rattle.mu_input.specs.declared.bodies.BodyLine.{BodyLine}
use Rattle.mu_input.specs.declared.bodies.BodyLine.TheVariants as body
use Rattle.mu_input.specs.declared.heading.Settings.{Settings}
use Rattle.mu_input.specs.declared.job.Job.{Job}
use Rattle.mu_input.proofs.Fronts.{Gives, fits_whole, gives_always, gives_followed}

none_is : {A : Type 0} (a : A) → Some a ≡ None → ⊥
none_is a e = cc

pub if_none : {A : Type 0} {P : Type 0} (found : Option A) → (found ≡ None → P) → IfNone found P
if_none None so = so refl
if_none (Some a) so = tt

-- if no client too many begins, each command has a sender
senders_from : (clients : ℕ) (commands : List Request) (number : ℕ) (text : List (List ℕ)) → clients ≤ MOST_SENDERS → HaveSenders commands → beyond_from clients (length commands) number text ≡ None
    → Gives (λ (b : Body). HaveSenders b.commands) (body_from clients commands number text)
senders_from clients commands number [] few all none = tt
senders_from clients commands number (line ∷ text) few all none = by_line (λ clients commands few all none. senders_from clients commands (number + 1) text few all none) (body_line clients (length commands) (words line)) none
  where
    one_more : (op : _) → length (commands ++ next_command (clients - 1) commands op ∷ []) ≡ length commands + 1
    one_more op = length-append commands (next_command (clients - 1) commands op ∷ [])

    by_line : ((clients : ℕ) (commands : List Request) → clients ≤ MOST_SENDERS → HaveSenders commands → beyond_from clients (length commands) (number + 1) text ≡ None → Gives (λ (b : Body). HaveSenders b.commands) (body_from clients commands (number + 1) text))
        → (said : Line BodyLine) → beyond_after clients (length commands) number (λ clients commands. beyond_from clients commands (number + 1) text) said ≡ None
        → Gives (λ (b : Body). HaveSenders b.commands) (body_after clients commands number (record { number = number + 1; lines = text }) (λ clients commands. body_from clients commands (number + 1) text) said)
    by_line again (Says body.Client) none = ⊎_elim
        (λ (t : ((clients == MOST_SENDERS) ≡ true) × (clients ≡ MOST_SENDERS)). absurd (none_is number (ap (λ b. if b then Some number else beyond_from (clients + 1) (length commands) (number + 1) text) (sym t.0) ∙ none)))
        (λ (t : ((clients == MOST_SENDERS) ≡ false) × (clients ≢ MOST_SENDERS)).
        again (clients + 1) commands (omega (arith, few, t.1)) all (ap (λ b. if b then Some number else beyond_from (clients + 1) (length commands) (number + 1) text) (sym t.0) ∙ none))
        (eqb_tells clients MOST_SENDERS)
    by_line again (Says (body.Operation op)) none =
        again clients (commands ++ next_command (clients - 1) commands op ∷ []) few
        (All-append (λ (c : Request). c.client < MOST_SENDERS) commands (next_command (clients - 1) commands op ∷ []) all (All-cons (λ (c : Request). c.client < MOST_SENDERS) (next_command (clients - 1) commands op) [] (omega (arith, few)) (All-nil (λ (c : Request). c.client < MOST_SENDERS))))
        (ap (λ count. beyond_from clients count (number + 1) text) (one_more op) ∙ none)
    by_line again (Says body.Script) none = all
    by_line again (Says body.End) none = all
    by_line again (Wrong cause) none = tt

-- a job of version 1 in whose lines no client too many begins is one for a desk
pub for_desk : (bytes : List ℕ) (settings : Settings) (left : Left) (given : Job) → settings_at (all_lines bytes) ≡ Begins settings left → settings.version ≡ 1 → beyond_from 0 0 left.number left.lines ≡ None
    → job bytes ≡ Fits given → IsForDesk given
for_desk bytes settings left given front first none is = fits_whole IsForDesk (job_at (all_lines bytes)) given (gives front) is
  where
    rest : Front Job
    rest = followed (body_at left) (λ body left. followed (script_at body.has_script settings.replicas left) (λ script left. Begins (job_of settings body.commands script) left))

    gives_rest : Gives IsForDesk rest
    gives_rest =
        gives_followed IsForDesk (λ (b : Body). HaveSenders b.commands) (body_at left) _ (senders_from 0 [] left.number left.lines (omega arith) (All-nil (λ (c : Request). c.client < MOST_SENDERS)) none)
        (λ body left senders. gives_followed IsForDesk (λ _. ⊤) (script_at body.has_script settings.replicas left) _ (gives_always (script_at body.has_script settings.replicas left))
        (λ script left _. record { version = first; senders = senders }))

    gives : settings_at (all_lines bytes) ≡ Begins settings left → Gives IsForDesk (job_at (all_lines bytes))
    gives front = subst (λ (f : Front Settings). Gives IsForDesk (followed f (λ settings left. followed (body_at left) (λ body left. followed (script_at body.has_script settings.replicas left) (λ script left. Begins (job_of settings body.commands script) left))))) (sym front) gives_rest

-- lines counted from 1, which are those of the bytes, are all their lines
pub all_lines-is : (bytes : List ℕ) (left : Left) → left.number ≡ 1 → left.lines ≡ lines bytes → left ≡ all_lines bytes
all_lines-is bytes left first all = ap (λ number. record { number = number; lines = left.lines }) first ∙ ap (λ (text : List (List ℕ)). record { number = 1; lines = text }) all
