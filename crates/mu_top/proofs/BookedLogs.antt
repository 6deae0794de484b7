-- A book goes on from entry to entry of a log.
use Rattle.std.proofs.Common.{◌≡◌, ℕ, ◌+◌, ◌<◌, List, [], ◌∷◌, ◌++◌, sym, ap, subst, ◌∙◌, length, take, drop, get_or, append-nil}
use Rattle.std.proofs.lemmas.List.{length-append, take-append-drop, take_more}
use Rattle.kv_store.specs.Commands.{Request}
use Rattle.match_book.specs.Ledgers.{HaveDifferentIds}
use Rattle.match_book.specs.Stands.{Held, StandsFor}
use Rattle.match_book.proofs.Fronts.{different_front, stands_same}
use Rattle.mu_input.specs.declared.job.Job.{Job}
use Rattle.mu_outcome.specs.Entries.{commands_in, commands_of}
use Rattle.mu_outcome.proofs.LogCommands.{commands_in-append, commands_in-drop}

-- the commands of one entry more
commands_in-next : (job : Job) (log : List ℕ) (i : ℕ) → i < length log → commands_in job (take (i + 1) log) ≡ commands_in job (take i log) ++ commands_of job (get_or log i 0)
commands_in-next job log i low =
    ap (commands_in job) (take_more log i 0 low)
    ∙ (commands_in-append job (take i log) (get_or log i 0 ∷ []) ∙ ap (λ l. commands_in job (take i log) ++ l) (append-nil (commands_of job (get_or log i 0))))

pub entry_stands : (job : Job) (log : List ℕ) (i : ℕ) (commands : List Request) (old new : Held) → i < length log → commands ≡ commands_of job (get_or log i 0) → HaveDifferentIds (commands_in job log)
    → ((before : List Request) → HaveDifferentIds (before ++ commands) → StandsFor before old → StandsFor (before ++ commands) new)
    → StandsFor (commands_in job (take i log)) old → StandsFor (commands_in job (take (i + 1) log)) new
entry_stands job log i commands old new low is once step stands =
    let next : commands_in job (take (i + 1) log) ≡ commands_in job (take i log) ++ commands =
    commands_in-next job log i low ∙ ap (λ l. commands_in job (take i log) ++ l) (sym is) in
    let whole : commands_in job (take (i + 1) log) ++ commands_in job (drop (i + 1) log) ≡ commands_in job log =
    sym (commands_in-append job (take (i + 1) log) (drop (i + 1) log)) ∙ ap (commands_in job) (take-append-drop (i + 1) log) in
    let front = different_front (commands_in job (take (i + 1) log)) (commands_in job (drop (i + 1) log)) (subst HaveDifferentIds (sym whole) once) in
    stands_same _ _ new (sym next) (step (commands_in job (take i log)) (subst HaveDifferentIds next front) stands)

-- how many commands are left with those of an entry, and how many after it
pub entry_count : (job : Job) (log : List ℕ) (i : ℕ) (commands : List Request) → i < length log → commands ≡ commands_of job (get_or log i 0)
    → length (commands_in job (drop i log)) ≡ length commands + length (commands_in job (drop (i + 1) log))
entry_count job log i commands low is =
    ap length (commands_in-drop job log i low ∙ ap (λ l. l ++ commands_in job (drop (i + 1) log)) (sym is)) ∙ length-append commands (commands_in job (drop (i + 1) log))
