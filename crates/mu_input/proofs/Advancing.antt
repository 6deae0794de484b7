-- Each part of a job takes lines from the front: as many are taken as the number grows by.
use Rattle.std.proofs.Common.{◌≡◌, ℕ, suc, ◌+◌, ◌≤◌, ◌==◌, Bool, true, false, if◌then◌else◌, List, [], ◌∷◌, length, None, Some, Option, codes, refl, subst, ◌∙◌, arith}
use Rattle.std.specs.Option.{option_map_or}
use Rattle.std.specs.List.{onto_first}
use Rattle.kv_store.specs.Commands.{Request}
use Rattle.mu_model.specs.declared.script.Pause.{Pause}
use Rattle.mu_model.specs.declared.script.Script.{Script}
use Rattle.mu_model.specs.declared.script.Stop.{Stop}
use Rattle.mu_input.specs.Bodies.{body_after, body_from, body_line}
use Rattle.mu_input.specs.Grammar.{job_at}
use Rattle.mu_text.specs.Lines.{Left, lines, words}
use Rattle.mu_input.specs.Readings.{Front, Begins, Breaks, Line, Says, Wrong, followed}
use Rattle.mu_input.specs.Scripts.{script_after, script_at, script_from, script_line}
use Rattle.mu_input.specs.Settings.{setting, setting_among, setting_at, settings_at, width_at}
use Rattle.mu_text.specs.declared.TheConstants.{LINE_FEED}
use Rattle.mu_input.specs.declared.TheConstants.{MOST_REPLICAS, LEAST_RING, MOST_RING, MOST_STEPS, MOST_WIDTH}
use Rattle.mu_input.specs.declared.cause.TheConstants.{HEAD, REPLICAS, RING, BUDGET, BATCH}
use Rattle.mu_input.specs.declared.bodies.Body.{Body}
use Rattle.mu_input.specs.declared.bodies.BodyLine.{BodyLine}
use Rattle.mu_input.specs.declared.bodies.BodyLine.TheVariants as body
use Rattle.mu_input.specs.declared.job.Job.{Job}
use Rattle.mu_input.specs.declared.scripts.ScriptLine.{ScriptLine}
use Rattle.mu_input.specs.declared.scripts.ScriptLine.TheVariants as script

-- the number of the line after all that are left
abbrev last : Left → ℕ
last left = left.number + length left.lines

-- what begins the lines leaves the same last line
abbrev Advances : {A : Type 0} → Left → Front A → Type 0
Advances left (Begins a after) = last after ≡ last left
Advances left (Breaks line cause) = Unit {0}

advances_followed : {A : Type 0} {B : Type 0} (left : Left) (front : Front A) (next : A → Left → Front B)
    → Advances left front → ((a : A) (after : Left) → Advances after (next a after)) → Advances left (followed front next)
advances_followed left (Begins a after) next first rest = onward left after (next a after) first (rest a after)
  where
    onward : {B : Type 0} (left after : Left) (front : Front B) → last after ≡ last left → Advances after front → Advances left front
    onward left after (Begins b end) same further = further ∙ same
    onward left after (Breaks line cause) same further = tt
advances_followed left (Breaks line cause) next first rest = tt

setting_advances : (name : List ℕ) (low high cause number : ℕ) (text : List (List ℕ)) → Advances (record { number = number; lines = text }) (setting_among name low high cause number text)
setting_advances name low high cause number [] = tt
setting_advances name low high cause number (line ∷ text) = by_value (setting name low high (words line))
  where
    by_value : (value : Option ℕ) → Advances (record { number = number; lines = line ∷ text })
        (option_map_or (λ value. Begins value (record { number = number + 1; lines = text })) value (Breaks number cause))
    by_value None = tt
    by_value (Some value) = omega arith

setting_at_advances : (name : List ℕ) (low high cause : ℕ) (left : Left) → Advances left (setting_at name low high cause left)
setting_at_advances name low high cause left = setting_advances name low high cause left.number left.lines

width_advances : (version : ℕ) (left : Left) → Advances left (width_at version left)
width_advances version left = by_test (version == 2)
  where
    by_test : (two : Bool) → Advances left (if two then setting_at (codes "batch") 1 MOST_WIDTH BATCH left else Begins 1 left)
    by_test true = setting_at_advances (codes "batch") 1 MOST_WIDTH BATCH left
    by_test false = refl

settings_advance : (left : Left) → Advances left (settings_at left)
settings_advance left =
    advances_followed left _ _ (setting_at_advances (codes "mu") 1 2 HEAD left) (λ version left.
    advances_followed left _ _ (setting_at_advances (codes "replicas") 1 MOST_REPLICAS REPLICAS left) (λ replicas left.
    advances_followed left _ _ (setting_at_advances (codes "ring") LEAST_RING MOST_RING RING left) (λ ring left.
    advances_followed left _ _ (setting_at_advances (codes "budget") 1 MOST_STEPS BUDGET left) (λ budget left.
    advances_followed left _ _ (width_advances version left) (λ width left. refl)))))

body_advances : (clients : ℕ) (commands : List Request) (number : ℕ) (text : List (List ℕ)) → Advances (record { number = number; lines = text }) (body_from clients commands number text)
body_advances clients commands number [] = tt
body_advances clients commands number (line ∷ text) = by_line (λ clients commands. body_advances clients commands (number + 1) text) (body_line clients (length commands) (words line))
  where
    onward : (front : Front Body) → Advances (record { number = number + 1; lines = text }) front → Advances (record { number = number; lines = line ∷ text }) front
    onward (Begins b end) further = further ∙ omega arith
    onward (Breaks at cause) further = tt

    by_line : ((clients : ℕ) (commands : List Request) → Advances (record { number = number + 1; lines = text }) (body_from clients commands (number + 1) text))
        → (said : Line BodyLine) → Advances (record { number = number; lines = line ∷ text })
        (body_after clients commands number (record { number = number + 1; lines = text }) (λ clients commands. body_from clients commands (number + 1) text) said)
    by_line again (Says body.Client) = onward (body_from (clients + 1) commands (number + 1) text) (again (clients + 1) commands)
    by_line again (Says (body.Operation op)) = onward (body_from clients _ (number + 1) text) (again clients _)
    by_line again (Says body.Script) = omega arith
    by_line again (Says body.End) = omega arith
    by_line again (Wrong cause) = tt

script_advances : (replicas : ℕ) (stops : List Stop) (pauses : List Pause) (number : ℕ) (text : List (List ℕ)) → Advances (record { number = number; lines = text }) (script_from replicas stops pauses number text)
script_advances replicas stops pauses number [] = tt
script_advances replicas stops pauses number (line ∷ text) = by_line (λ stops pauses. script_advances replicas stops pauses (number + 1) text) (script_line replicas stops pauses (words line))
  where
    onward : (front : Front Script) → Advances (record { number = number + 1; lines = text }) front → Advances (record { number = number; lines = line ∷ text }) front
    onward (Begins b end) further = further ∙ omega arith
    onward (Breaks at cause) further = tt

    by_line : ((stops : List Stop) (pauses : List Pause) → Advances (record { number = number + 1; lines = text }) (script_from replicas stops pauses (number + 1) text))
        → (said : Line ScriptLine) → Advances (record { number = number; lines = line ∷ text })
        (script_after replicas stops pauses number (record { number = number + 1; lines = text }) (λ stops pauses. script_from replicas stops pauses (number + 1) text) said)
    by_line again (Says (script.Stop stop)) = onward (script_from replicas _ pauses (number + 1) text) (again _ pauses)
    by_line again (Says (script.Pause pause)) = onward (script_from replicas stops _ (number + 1) text) (again stops _)
    by_line again (Says script.End) = omega arith
    by_line again (Wrong cause) = tt

script_at_advances : (follows : Bool) (replicas : ℕ) (left : Left) → Advances left (script_at follows replicas left)
script_at_advances true replicas left = script_advances replicas [] [] left.number left.lines
script_at_advances false replicas left = refl

job_advances : (left : Left) → Advances left (job_at left)
job_advances left =
    advances_followed left _ _ (settings_advance left) (λ settings left.
    advances_followed left _ _ (body_advances 0 [] left.number left.lines) (λ body left.
    advances_followed left _ _ (script_at_advances body.has_script settings.replicas left) (λ script left. refl)))

-- this many lines are left after a job
pub job_leaves : (left after : Left) (job : Job) → job_at left ≡ Begins job after → after.number + length after.lines ≡ left.number + length left.lines
job_leaves left after job is = subst (Advances left) is (job_advances left)

-- no input has more lines than bytes
pub few_lines : (bytes : List ℕ) → length (lines bytes) ≤ length bytes
few_lines [] = omega arith
few_lines (byte ∷ bytes) = by_test (byte == LINE_FEED) (few_lines bytes)
  where
    longer : (text : List (List ℕ)) (n : ℕ) → length text ≤ n → length (onto_first byte text) ≤ suc n
    longer [] n few = omega arith
    longer (line ∷ text) n few = omega (arith, few)

    by_test : (ends : Bool) → length (lines bytes) ≤ length bytes → length (if ends then [] ∷ lines bytes else onto_first byte (lines bytes)) ≤ suc (length bytes)
    by_test true few = omega (arith, few)
    by_test false few = longer (lines bytes) (length bytes) few
