-- The lines of lists, taken from the front, and the longest log.
use Rattle.std.proofs.Common.{◌≡◌, ℕ, zero, suc, ◌+◌, ◌-◌, ◌<◌, ◌≤◌, List, [], ◌∷◌, ◌++◌, refl, sym, ap, ◌∙◌, length, take, drop, map, min, get_or, arith}
use Rattle.std.specs.Fmt.{decimal}
use Rattle.std.specs.Prelude.{codes}
use Rattle.std.proofs.lemmas.List.{drop_all, drop_min, drop_more, take_rest}
use Rattle.kv_store.specs.Commands.{Request}
use Rattle.kv_store.specs.declared.store.Reply.{Reply}
use Rattle.mu_input.specs.declared.job.Job.{Job}
use Rattle.mu_outcome.specs.declared.outcome.Outcome.{Outcome}
use Rattle.mu_outcome.specs.Entries.{commands_of, commands_in, longest}
use Rattle.mu_report.specs.Report.{entry_lines, log_lines, logs_lines, answer_line, answer_lines, replies_lines, lines_of_entry}

-- the line of the next element, and those of the others
pub map-drop : {A : Type 0} (f : A → List ℕ) (commands : List A) (i : ℕ) (command : A) (line : List ℕ) → i < length commands
    → command ≡ get_or commands i command → line ≡ f command → map f (drop i commands) ≡ (line ∷ []) ++ map f (drop (i + 1) commands)
map-drop {A} f commands i command line within is spelled =
    ap (map f) (drop_more commands i command within) ∙ ap (λ c. f c ∷ map f (drop (i + 1) commands)) (sym is)
    ∙ ap (λ l. l ∷ map f (drop (i + 1) commands)) (sym spelled)

pub map-drop-or : {A : Type 0} (f : A → List ℕ) (xs : List A) (i : ℕ) (x : A) (line : List ℕ) → i < length xs
    → line ≡ f (get_or xs i x) → map f (drop i xs) ≡ (line ∷ []) ++ map f (drop (i + 1) xs)
map-drop-or {A} f xs i x line within spelled =
    ap (map f) (drop_more xs i x within) ∙ ap (λ l. l ∷ map f (drop (i + 1) xs)) (sym spelled)

-- the lines of the next entry, and those of the others
pub entry_lines-drop : (job : Job) (log : List ℕ) (i : ℕ) → i < length log
    → entry_lines job i (drop i log) ≡ lines_of_entry job i (get_or log i 0) ++ entry_lines job (i + 1) (drop (i + 1) log)
entry_lines-drop job log i within = ap (entry_lines job i) (drop_more log i 0 within)

-- the lines of the next log, and those of the others
pub logs_lines-next : (o : Outcome) (r replicas : ℕ) → r < replicas → logs_lines o r (replicas - r) ≡ log_lines o r ++ logs_lines o (r + 1) (replicas - (r + 1))
logs_lines-next o r replicas below =
    let next : replicas - r ≡ suc (replicas - (r + 1)) = omega arith in
    ap (logs_lines o r) next

answer_lines-nil : (commands : List Request) → answer_lines commands [] ≡ []
answer_lines-nil [] = refl
answer_lines-nil (command ∷ commands) = refl

answer_lines-append : (xs ys : List Request) (replies : List Reply) → answer_lines (xs ++ ys) replies ≡ answer_lines xs replies ++ answer_lines ys (drop (length xs) replies)
answer_lines-append [] ys replies = refl
answer_lines-append (x ∷ xs) ys [] = sym (answer_lines-nil ys)
answer_lines-append (x ∷ xs) ys (reply ∷ replies) = ap (λ l. answer_line x reply ∷ l) (answer_lines-append xs ys replies)

-- the lines of the next entry with its replies, and those of the others
pub answer_lines-drop : (job : Job) (log : List ℕ) (i : ℕ) (commands : List Request) (left : List Reply) (used : ℕ) → i < length log
    → commands ≡ commands_of job (get_or log i 0) → used ≡ min (length commands) (length left)
    → answer_lines (commands_in job (drop i log)) left
    ≡ answer_lines commands left ++ answer_lines (commands_in job (drop (i + 1) log)) (take (length left - used) (drop used left))
answer_lines-drop job log i commands left used within is counted =
    let rest = commands_in job (drop (i + 1) log) in
    let behind : drop (length commands) left ≡ take (length left - used) (drop used left) =
    sym (drop_min (length commands) left) ∙ ap (λ n. drop n left) (sym counted) ∙ sym (take_rest left used) in
    ap (λ l. answer_lines (commands_in job l) left) (drop_more log i 0 within) ∙ ap (λ cs. answer_lines (cs ++ rest) left) (sym is)
    ∙ answer_lines-append commands rest left ∙ ap (λ rs. answer_lines commands left ++ answer_lines rest rs) behind

-- the line of the next command with its reply, and those of the others
pub answer_lines-next : (commands : List Request) (replies : List Reply) (i : ℕ) (command : Request) (reply : Reply) (line : List ℕ)
    → i < length commands → i < length replies → command ≡ get_or commands i command → reply ≡ get_or replies i reply → line ≡ answer_line command reply
    → answer_lines (drop i commands) (drop i replies) ≡ (line ∷ []) ++ answer_lines (drop (i + 1) commands) (drop (i + 1) replies)
answer_lines-next commands replies i command reply line within replied is answer spelled =
    ap (λ cs. answer_lines cs (drop i replies)) (drop_more commands i command within ∙ ap (λ c. c ∷ drop (i + 1) commands) (sym is))
    ∙ ap (answer_lines (command ∷ drop (i + 1) commands)) (drop_more replies i reply replied ∙ ap (λ r. r ∷ drop (i + 1) replies) (sym answer))
    ∙ ap (λ l. l ∷ answer_lines (drop (i + 1) commands) (drop (i + 1) replies)) (sym spelled)

-- past the end of the shorter list there is no line
pub answer_lines-past : (commands : List Request) (replies : List Reply) (i : ℕ) → min (length commands) (length replies) ≤ i
    → answer_lines (drop i commands) (drop i replies) ≡ []
answer_lines-past [] replies i past = ap (λ cs. answer_lines cs (drop i replies)) (drop_all i [] (omega arith))
answer_lines-past (command ∷ commands) [] i past =
    ap (answer_lines (drop i (command ∷ commands))) (drop_all i [] (omega arith)) ∙ answer_lines-nil (drop i (command ∷ commands))
answer_lines-past (command ∷ commands) (reply ∷ replies) zero past = absurd (omega arith)
answer_lines-past (command ∷ commands) (reply ∷ replies) (suc i) past = answer_lines-past commands replies i (omega arith)

-- the number of replies, and the replies
pub replies_lines-parts : (o : Outcome) (log : List ℕ) (count : ℕ) (replies : List Reply) → log ≡ longest o.logs → count ≡ length (commands_in o.job log)
    → replies ≡ o.replies → (codes "replies " ++ decimal count) ∷ answer_lines (commands_in o.job log) replies ≡ replies_lines o
replies_lines-parts o log count replies is counted answers =
    ap (λ n. (codes "replies " ++ decimal n) ∷ answer_lines (commands_in o.job log) replies) counted
    ∙ ap (λ l. (codes "replies " ++ decimal (length (commands_in o.job l))) ∷ answer_lines (commands_in o.job l) replies) is
    ∙ ap (λ l. (codes "replies " ++ decimal (length (commands_in o.job (longest o.logs)))) ∷ answer_lines (commands_in o.job (longest o.logs)) l) answers
