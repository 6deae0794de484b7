-- A command that was just submitted stands nowhere in the order yet, and the order stays.
use Rattle.std.proofs.Common.{◌≡◌, ◌∙◌, ℕ, suc, zero, ◌+◌, ◌≤◌, ◌==◌, Bool, true, false, List, [], ◌∷◌, ◌++◌, Some, ap, append_assoc, arith, inl, inr, length, map, refl, sym, true≢false}
use Rattle.std.specs.Prelude.{if◌then◌else◌}
use Rattle.std.specs.List.{slice_get}
use Rattle.std.proofs.lemmas.Bool.{eq-eqb}
use Rattle.std.proofs.lemmas.List.{map-append}
use Rattle.std.proofs.lemmas.Option.{slice_get_within}
use Rattle.kv_store.specs.Commands.{Request}
use Rattle.kv_store.specs.Sessions.{CountsFrom, numbers_of}
use Rattle.mu_input.specs.declared.job.Job.{Job}
use Rattle.mu_input.proofs.JobConfigs.{as_many, row_at}
use Rattle.mu_model.specs.declared.event.Event.{Event}
use Rattle.mu_model.specs.Contents.{rows_in}
use Rattle.mu_model.specs.Histories.{history, part}
use Rattle.mu_model.proofs.Basics.{same_some}
use Rattle.mu_model.proofs.Lists.{get_front, get_push_here}
use Rattle.mu_model.proofs.Parts.{part_is_possible}
use Rattle.mu_agree.proofs.Growing.{applied_stays_law}
use Rattle.mu_agree.proofs.NextBatch.{same_number_same_row}
use Rattle.mu_outcome.specs.Entries.{commands_in, longest}
use Rattle.mu_outcome.specs.LogsAfter.{log_after, logs_after, longest_after}
use Rattle.mu_outcome.proofs.Spelled.{spell_in, spell_row}
use Rattle.mu_engine.specs.Laws.{order_after}
use Rattle.mu_engine.specs.Live.{Live, row_of, with_command}
use Rattle.mu_engine.specs.Moments.{IsMoment}
use Rattle.mu_engine.proofs.Going.{commands_stay, goes_command}
use Rattle.mu_engine.proofs.Linear.{longest_entries}
use Rattle.mu_eras.specs.Eras.{AreEras, Era, order_of, submitted_over}
use Rattle.mu_eras.specs.Orders.{count_of, numbered_after}
use Rattle.mu_eras.proofs.Ends.{few_ordered, none_longer}
use Rattle.mu_eras.proofs.Linear.{get_either, get_mapped, sessions_over}

-- commands of a job with the same client and number are one
rows_apart : (job : Job) (events : List Event) (j k : ℕ) (a b : Request) → IsMoment job events → slice_get job.commands j ≡ Some a → slice_get job.commands k ≡ Some b → a.client ≡ b.client → a.number ≡ b.number → j ≡ k
rows_apart job events j k a b moment at there client number =
    let c = job.config in
    let many = as_many c.width job.commands c.rows moment.heads in
    let low = slice_get_within job.commands j a at in
    let high = slice_get_within job.commands k b there in
    let one = row_at c.width job.commands c.rows moment.heads j (omega (arith, many, low)) in
    let other = row_at c.width job.commands c.rows moment.heads k (omega (arith, many, high)) in
    let first : one.0 ≡ a = same_some one.0 a (sym one.1.there ∙ at) in
    let second : other.0 ≡ b = same_some other.0 b (sym other.1.there ∙ there) in
    same_number_same_row c moment.config j k (omega (arith, many, low)) (omega (arith, many, high))
    (one.1.client ∙ ap (λ (y : Request). y.client) first ∙ client ∙ sym (ap (λ (y : Request). y.client) second) ∙ sym other.1.client)
    (one.1.number ∙ ap (λ (y : Request). y.number) first ∙ number ∙ sym (ap (λ (y : Request). y.number) second) ∙ sym other.1.number)

-- the numbers of a client are no more than its commands
numbers_low : (client first : ℕ) (commands : List Request) (k : ℕ) (y : Request) → CountsFrom first (numbers_of client commands) → slice_get commands k ≡ Some y → y.client ≡ client
    → y.number + 1 ≤ first + length (numbers_of client commands)
numbers_low client first [] k y counts at own = cc
numbers_low client first (x ∷ commands) zero y counts at own = go (x.client == client) refl counts
  where
    here : x ≡ y
    here = same_some x y at

    go : (t : Bool) → (x.client == client) ≡ t → CountsFrom first (if t then x.number ∷ numbers_of client commands else numbers_of client commands)
        → y.number + 1 ≤ first + length (if t then x.number ∷ numbers_of client commands else numbers_of client commands)
    go true mine from = let is = from.0 in let same = ap (λ (z : Request). z.number) here in omega (arith, is, same)
    go false other from = absurd (true≢false (sym (eq-eqb x.client client (ap (λ (z : Request). z.client) here ∙ own)) ∙ other))
numbers_low client first (x ∷ commands) (suc k) y counts at own = go (x.client == client) counts (λ n from. numbers_low client n commands k y from at own)
  where
    go : (t : Bool) → CountsFrom first (if t then x.number ∷ numbers_of client commands else numbers_of client commands)
        → ((n : ℕ) → CountsFrom n (numbers_of client commands) → y.number + 1 ≤ n + length (numbers_of client commands))
        → y.number + 1 ≤ first + length (if t then x.number ∷ numbers_of client commands else numbers_of client commands)
    go true from again = let rest = again (first + 1) from.1 in omega (arith, rest)
    go false from again = again first from

-- the next command of a client stands nowhere in the order over all eras
pub next_unordered : (past : List Era) (era : Era) (later : Job) (after : List Event) (x : Request) (place : ℕ) → AreEras (era ∷ past) → IsMoment later after → later.commands ≡ era.job.commands ++ x ∷ [] → 1 ≤ x.number
    → slice_get (order_of (era ∷ past)) place ≡ Some (numbered_after (order_of past) x) → ⊥
next_unordered past era later after x place are moment grown some at = elim (get_either (order_of past) (map (numbered_after (order_of past)) (order_after era.job era.events)) place (numbered_after (order_of past) x) at) [
  | inl older ↦
      let low = numbers_low x.client 1 (order_of past) place (numbered_after (order_of past) x) (sessions_over past are.1 x.client) older refl in
      omega (arith, low, some)
  | inr newer ↦
      let own = get_mapped (numbered_after (order_of past)) (order_after era.job era.events) newer.0 (numbered_after (order_of past) x) newer.1 in
      let client : x.client ≡ own.0.client = ap (λ (z : Request). z.client) own.2 in
      let count = ap (λ n. count_of n (order_of past)) client in
      let numbers : count_of x.client (order_of past) + x.number ≡ count_of own.0.client (order_of past) + own.0.number = ap (λ (z : Request). z.number) own.2 in
      let log = longest_after era.job.config era.events in
      let row = spell_row era.job.commands (rows_in era.job.config log) (commands_in era.job log) newer.0 own.0 (spell_in era.job log are.0.config are.0.heads) own.1 in
      let there : slice_get later.commands row.0 ≡ Some own.0 = ap (λ l. slice_get l row.0) grown ∙ get_front era.job.commands (x ∷ []) row.0 own.0 row.2 in
      let last : slice_get later.commands (length era.job.commands) ≡ Some x = ap (λ l. slice_get l (length era.job.commands)) grown ∙ get_push_here era.job.commands (length era.job.commands) x refl in
      let same = rows_apart later after row.0 (length era.job.commands) own.0 x moment there last (sym client) (omega (arith, count, numbers)) in
      let low = slice_get_within era.job.commands row.0 own.0 row.2 in
      omega (arith, same, low)
]

-- a log stays if a command comes
log_still : (job : Job) (events : List Event) (command : Request) (r : ℕ) → IsMoment job events → IsMoment (with_command job command) events → log_after (with_command job command).config events r ≡ log_after job.config events r
log_still job events command r was is = applied_stays_law job.config (row_of command ∷ []) r (part r (history events)) was.config is.config (part_is_possible job.config r (history events) was.legal)

logs_still : (job : Job) (events : List Event) (command : Request) (n : ℕ) → IsMoment job events → IsMoment (with_command job command) events → logs_after (with_command job command).config events n ≡ logs_after job.config events n
logs_still job events command zero was is = refl
logs_still job events command (suc n) was is =
    ap (λ l. l ++ log_after (with_command job command).config events n ∷ []) (logs_still job events command n was is) ∙ ap (λ x. logs_after job.config events n ++ x ∷ []) (log_still job events command n was is)

-- and so does the order
pub order_still : (job : Job) (events : List Event) (command : Request) → IsMoment job events → IsMoment (with_command job command) events → order_after (with_command job command) events ≡ order_after job events
order_still job events command was is =
    ap (λ l. commands_in (with_command job command) (longest l)) (logs_still job events command job.config.replicas was is)
    ∙ commands_stay job events (with_command job command) events (longest_after job.config events) was is (goes_command job events command) (longest_entries job events was)

-- one command more was submitted
pub submitted_more : (past : List Era) (era : Era) (later : Job) (after : List Event) (x : Request) → later.commands ≡ era.job.commands ++ x ∷ []
    → submitted_over (record { job = later; events = after } ∷ past) ≡ submitted_over (era ∷ past) ++ numbered_after (order_of past) x ∷ []
submitted_more past era later after x grown =
    ap (λ l. submitted_over past ++ map (numbered_after (order_of past)) l) grown
    ∙ ap (λ l. submitted_over past ++ l) (map-append (numbered_after (order_of past)) era.job.commands (x ∷ []))
    ∙ sym (append_assoc (submitted_over past) (map (numbered_after (order_of past)) era.job.commands) (numbered_after (order_of past) x ∷ []))

-- nothing stands in the order before a command was submitted
pub none_ordered : (live : Live) → IsMoment live.job live.events → live.job.commands ≡ [] → order_after live.job live.events ≡ []
none_ordered live at none = none_longer (order_after live.job live.events) (let few = few_ordered live at in let empty = ap length none in omega (arith, few, empty))
