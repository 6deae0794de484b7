-- What was applied, and the replies over it, stay when a session goes on.
use Rattle.std.proofs.Common.{◌≡◌, ◌∙◌, ℕ, suc, zero, ◌+◌, ◌%◌, ◌<◌, ◌≤◌, ◌==◌, Bool, true, false, cond, List, [], ◌∷◌, ◌++◌, Some, ap, append-nil, append_assoc, arith, inl, inr, length, refl, subst, sym, take}
use Rattle.std.specs.List.{slice_get}
use Rattle.std.proofs.lemmas.List.{reverse-append}
use Rattle.kv_store.specs.Beside.{beside}
use Rattle.kv_store.specs.Commands.{Request}
use Rattle.kv_store.specs.Tables.{replies}
use Rattle.mu_input.specs.declared.job.Job.{Job}
use Rattle.mu_input.proofs.JobConfigs.{as_many}
use Rattle.mu_model.specs.declared.config.Config.{Config}
use Rattle.mu_model.specs.declared.config.Row.{Row}
use Rattle.mu_model.specs.declared.event.Event.{Event}
use Rattle.mu_model.specs.Contents.{IsConfig, is_batch, rest_of, row_count, rows_from, rows_in, rows_of}
use Rattle.mu_model.specs.Growing.{with_more}
use Rattle.mu_model.specs.Histories.{IsPrefixOf, history, part}
use Rattle.mu_model.specs.Knowledge.{applied, known}
use Rattle.mu_model.specs.Legal.{IsLegal}
use Rattle.mu_model.proofs.Basics.{same_some}
use Rattle.mu_model.proofs.Lists.{get_front}
use Rattle.mu_model.proofs.Parts.{filter-append, part_is_possible}
use Rattle.mu_agree.proofs.Growing.{applied_stays_law, rows_in_kept}
use Rattle.mu_agree.proofs.Knowing.{known_stays}
use Rattle.mu_agree.proofs.Prefixes.{lists_agree}
use Rattle.mu_knowledge.proofs.Fetched.{applied_grows, batch_there}
use Rattle.mu_follow.specs.Completion.{AreEntries}
use Rattle.mu_follow.specs.Groups.{groups_of}
use Rattle.mu_follow.proofs.Spelled.{groups_kept}
use Rattle.mu_clients.specs.Attested.{reply_over}
use Rattle.mu_outcome.specs.Entries.{commands_in, commands_of}
use Rattle.mu_outcome.specs.LogsAfter.{log_after}
use Rattle.mu_outcome.proofs.Agreeing.{applied_known, same_begun}
use Rattle.mu_engine.specs.Laws.{GoesFurther}
use Rattle.mu_engine.specs.Live.{row_of, with_command}
use Rattle.mu_engine.specs.Moments.{GoesOn, IsMoment}

-- an item of a front of a list is one of the list
pub get_begun : {A : Type 0} (xs ys : List A) (i : ℕ) (x : A) → IsPrefixOf xs ys → slice_get xs i ≡ Some x → slice_get ys i ≡ Some x
get_begun xs ys i x begins at = subst (λ l. slice_get l i ≡ Some x) (sym begins.1) (get_front xs begins.0 i x at)

-- no less is applied after more events
applied_along : (c : Config) (r : ℕ) (newer mine : List Event) → length (applied c r mine) ≤ length (applied c r (newer ++ mine))
applied_along c r [] mine = omega arith
applied_along c r (e ∷ newer) mine = let rest = applied_along c r newer mine in let one = applied_grows c r (newer ++ mine) e in omega (arith, rest, one)

-- and what was applied begins what is
pub applied_begins : (c : Config) (r : ℕ) (newer mine : List Event) → IsPrefixOf (applied c r mine) (applied c r (newer ++ mine))
applied_begins c r newer mine = elim (lists_agree (applied c r mine) (applied c r (newer ++ mine)) (λ i v w a b.
    same_some v w (sym (get_begun (known c r mine) (known c r (newer ++ mine)) i v (known_stays c r newer mine) (applied_known c r i v mine a)) ∙ applied_known c r i w (newer ++ mine) b))) [
      | inl begins ↦ begins
      | inr begins ↦ ([], sym (append-nil (applied c r mine) ∙ same_begun (applied c r (newer ++ mine)) (applied c r mine) begins (applied_along c r newer mine)))
    ]

-- a log begins the one at a later moment, also if rows were added
pub log_stays : (c : Config) (more : List Row) (older newer : List Event) (r : ℕ) → IsConfig c → IsConfig (with_more c more) → IsLegal c older
    → IsPrefixOf (log_after c older r) (log_after (with_more c more) (older ++ newer) r)
log_stays c more older newer r good grown legal =
    let mine = part r (history older) in
    let whole : part r (history (older ++ newer)) ≡ part r (history newer) ++ mine = ap (part r) (reverse-append older newer) ∙ filter-append (λ e. e.by == r) (history newer) (history older) in
    let same = applied_stays_law c more r mine good grown (part_is_possible c r (history older) legal) in
    let begins = applied_begins (with_more c more) r (part r (history newer)) mine in
    (begins.0, ap (applied (with_more c more) r) whole ∙ (begins.1 ∙ ap (λ l. l ++ begins.0) same))

-- the same of two moments of a session
pub log_goes : (job : Job) (events : List Event) (later : Job) (after : List Event) (r : ℕ) → IsMoment job events → IsMoment later after → GoesOn job events later after
    → IsPrefixOf (log_after job.config events r) (log_after later.config after r)
log_goes job events later after r was is goes =
    subst (λ k. IsPrefixOf (log_after job.config events r) (log_after k after r)) (sym goes.config_is)
    (subst (λ l. IsPrefixOf (log_after job.config events r) (log_after (with_more job.config goes.rows) l r)) (sym goes.events_are)
    (log_stays job.config goes.rows events goes.steps r was.config (subst IsConfig goes.config_is is.config) was.legal))

-- the commands of a job by its rows
pub commands_grouped : (job : Job) (values : List ℕ) → groups_of job.config job.commands values ≡ commands_in job values
commands_grouped job [] = refl
commands_grouped job (v ∷ vs) = ap (λ l. commands_of job v ++ l) (commands_grouped job vs)

take_front : {A : Type 0} (n : ℕ) (xs ys : List A) → length xs ≡ n → take n (xs ++ ys) ≡ xs
take_front zero [] ys long = refl
take_front zero (x ∷ xs) ys long = absurd (omega (arith, long))
take_front (suc n) [] ys long = absurd (omega (arith, long))
take_front (suc n) (x ∷ xs) ys long = ap (λ l. x ∷ l) (take_front n xs ys (omega (arith, long)))

-- entries stand for the same commands at a later moment
pub commands_stay : (job : Job) (events : List Event) (later : Job) (after : List Event) (values : List ℕ) → IsMoment job events → IsMoment later after → GoesOn job events later after → AreEntries job.config values
    → commands_in later values ≡ commands_in job values
commands_stay job events later after values was is goes are =
    let c = job.config in
    let grown = subst IsConfig goes.config_is is.config in
    let many = sym (as_many c.width job.commands c.rows was.heads) in
    let front = ap (take (row_count c)) goes.commands_are ∙ take_front (row_count c) job.commands goes.commands many in
    sym (commands_grouped later values) ∙ ap (λ k. groups_of k later.commands values) goes.config_is
    ∙ groups_kept c goes.rows later.commands values was.config grown are
    ∙ ap (λ l. groups_of c l values) front ∙ commands_grouped job values

-- and have the same rows
pub rows_stay : (job : Job) (events : List Event) (later : Job) (after : List Event) (values : List ℕ) → IsMoment job events → IsMoment later after → GoesOn job events later after → AreEntries job.config values
    → rows_in later.config values ≡ rows_in job.config values
rows_stay job events later after values was is goes are = ap (λ k. rows_in k values) goes.config_is ∙ rows_in_kept job.config goes.rows values was.config (subst IsConfig goes.config_is is.config) are

-- so the replies over them are the same
pub over_stays : (job : Job) (events : List Event) (later : Job) (after : List Event) (values : List ℕ) (row : ℕ) → IsMoment job events → IsMoment later after → GoesOn job events later after → AreEntries job.config values
    → reply_over later values row ≡ reply_over job values row
over_stays job events later after values row was is goes are =
    ap (λ l. beside row l (replies (commands_in later values))) (rows_stay job events later after values was is goes are)
    ∙ ap (λ l. beside row (rows_in job.config values) (replies l)) (commands_stay job events later after values was is goes are)

-- the rows of entries are those of the configuration
from_low : (n j k i : ℕ) → slice_get (rows_from n j) k ≡ Some i → i < j + n
from_low zero j k i at = cc
from_low (suc n) j zero i at = let same = same_some j i at in omega (arith, same)
from_low (suc n) j (suc k) i at = let rest = from_low n (j + 1) k i at in omega (arith, rest)

both_low : (n : ℕ) (xs ys : List ℕ) → ((k i : ℕ) → slice_get xs k ≡ Some i → i < n) → ((k i : ℕ) → slice_get ys k ≡ Some i → i < n) → (k i : ℕ) → slice_get (xs ++ ys) k ≡ Some i → i < n
both_low n [] ys first second k i at = second k i at
both_low n (x ∷ xs) ys first second zero i at = first 0 i at
both_low n (x ∷ xs) ys first second (suc k) i at = both_low n xs ys (λ l j there. first (suc l) j there) second k i at

pub rows_low : (c : Config) (values : List ℕ) → IsConfig c → (k i : ℕ) → slice_get (rows_in c values) k ≡ Some i → i < row_count c
rows_low c [] good k i at = cc
rows_low c (v ∷ values) good k i at = both_low (row_count c) (rows_of c v) (rows_in c values) (own (is_batch c v) refl) (rows_low c values good) k i at
  where
    own : (t : Bool) → is_batch c v ≡ t → (l j : ℕ) → slice_get (cond t (rows_from (rest_of c (v % 4096) + 1) (v % 4096)) []) l ≡ Some j → j < row_count c
    own true batch l j there = let low = from_low (rest_of c (v % 4096) + 1) (v % 4096) l j there in let fits = (batch_there c v good batch).1 in omega (arith, low, fits)
    own false batch l j there = cc

-- the configuration with these rows in place of its own
abbrev with_rows : Config → List Row → Config
with_rows c rows = record { version = c.version; width = c.width; replicas = c.replicas; ring = c.ring; budget = c.budget; rows = rows }

-- a moment goes on by events
pub goes_steps : (job : Job) (events steps : List Event) → GoesOn job events job (events ++ steps)
goes_steps job events steps = record {
  rows = [];
  commands = [];
  steps = steps;
  config_is = ap (with_rows job.config) (sym (append-nil job.config.rows));
  commands_are = sym (append-nil job.commands);
  events_are = refl;
}

-- by nothing
pub goes_still : (job : Job) (events : List Event) → GoesOn job events job events
goes_still job events = subst (λ l. GoesOn job events job l) (append-nil events) (goes_steps job events [])

-- by a command
pub goes_command : (job : Job) (events : List Event) (command : Request) → GoesOn job events (with_command job command) events
goes_command job events command = record {
  rows = row_of command ∷ [];
  commands = command ∷ [];
  steps = [];
  config_is = refl;
  commands_are = refl;
  events_are = sym (append-nil events);
}

-- and on from a later moment
pub goes_further_law : GoesFurther
goes_further_law job events later after last end first second = record {
  rows = first.rows ++ second.rows;
  commands = first.commands ++ second.commands;
  steps = first.steps ++ second.steps;
  config_is = second.config_is ∙ ap (λ c. with_more c second.rows) first.config_is ∙ ap (with_rows job.config) (append_assoc job.config.rows first.rows second.rows);
  commands_are = second.commands_are ∙ ap (λ l. l ++ second.commands) first.commands_are ∙ append_assoc job.commands first.commands second.commands;
  events_are = second.events_are ∙ ap (λ l. l ++ second.steps) first.events_are ∙ append_assoc events first.steps second.steps;
}
