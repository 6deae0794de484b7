-- A line says what its first words say, and what the front of a line tells of it.
use Rattle.std.proofs.Common.{◌≡◌, ℕ, ◌<◌, ◌≤◌, nat_lt, true, false, List, [], ◌∷◌, length, codes, cond, take, Result, refl, sym, ap, subst, ◌∙◌, arith}
use Rattle.std.proofs.lemmas.Grind.{common_steps}
use Rattle.std.proofs.lemmas.List.{length-take, take_all}
use Rattle.std.specs.Str.{bytes_eq}
use Rattle.mu_input.specs.Readings.{Tells, Wrong}
use Rattle.mu_input.specs.declared.cause.TheConstants.{CLIENT, LINE_LENGTH, SCRIPT}
use Rattle.mu_input.proofs.ManyWords.{operation-take}
use Rattle.mu_serve.specs.SessionLines.{command_line, said_of, session_line}
use Rattle.mu_serve.specs.declared.session_lines.SessionLine.{SessionLine}
use Rattle.mu_text.specs.Lines.{words}
use Rattle.mu_text.specs.declared.TheConstants.{MANY_WORDS}
use Rattle.mu_text.specs.declared.line_text.TheConstants.{LINE_BYTES}

pub session_line-take : (replicas : ℕ) (words : List (List ℕ))
    → session_line replicas (take MANY_WORDS words) ≡ session_line replicas words
session_line-take replicas [] = refl
session_line-take replicas (a ∷ []) = refl
session_line-take replicas (a ∷ b ∷ []) = refl
session_line-take replicas (a ∷ b ∷ c ∷ []) = refl
session_line-take replicas (a ∷ b ∷ c ∷ d ∷ words) =
    ap (λ said. cond (bytes_eq a (codes "client")) (Wrong CLIENT)
    (cond (bytes_eq a (codes "stop")) (Wrong SCRIPT)
    (cond (bytes_eq a (codes "pause")) (Wrong SCRIPT) (command_line said))))
    (operation-take (a ∷ b ∷ c ∷ d ∷ words))

-- a line whose front isn't full is its front
pub said_whole : (replicas : ℕ) (line front text : List ℕ) (told : Result SessionLine ℕ)
    → text ≡ front → front ≡ take LINE_BYTES line → length text < LINE_BYTES
    → Tells told (session_line replicas (words text)) → Tells told (said_of replicas line)
said_whole replicas line front text told same is short tells =
    let size = ap length (same ∙ is) in
    let few : length line < LINE_BYTES = omega (arith, size, short, length-take LINE_BYTES line) in
    let fits : nat_lt (length line) LINE_BYTES ≡ true = grind (arith, common_steps, few) in
    let whole : text ≡ line = same ∙ is ∙ take_all LINE_BYTES line (omega (arith, few)) in
    subst
    (λ b. Tells told (cond b (session_line replicas (words line)) (Wrong LINE_LENGTH))) (sym fits)
    (subst (λ t. Tells told (session_line replicas (words t))) whole tells)

-- and one whose front is full is too long
pub said_long : (replicas : ℕ) (line front text : List ℕ) → text ≡ front
    → front ≡ take LINE_BYTES line → LINE_BYTES ≤ length text
    → said_of replicas line ≡ Wrong LINE_LENGTH
said_long replicas line front text same is full =
    let size = ap length (same ∙ is) in
    let many : LINE_BYTES ≤ length line = omega (arith, size, full, length-take LINE_BYTES line) in
    let long : nat_lt (length line) LINE_BYTES ≡ false = grind (arith, common_steps, many) in
    ap (λ b. cond b (session_line replicas (words line)) (Wrong LINE_LENGTH)) long
