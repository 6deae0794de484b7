-- The configuration that settings and commands in session give.
use Rattle.std.proofs.Common.{◌≡◌, ℕ, suc, zero, ◌+◌, ◌/◌, ◌%◌, ◌^◌, ◌<◌, ◌≤◌, ◌==◌, Bool, true, false, cond, List, [], ◌∷◌, ◌++◌, length, take, drop, slice_get, Some, refl, sym, ap, subst, ◌∙◌, inl, inr, ◌⊎◌, ⊎_elim, arith}
use Rattle.std.proofs.lemmas.List.{length-append}
use Rattle.std.proofs.lemmas.Bool.Decides.{Decides-eqb}
use Rattle.kv_store.specs.Commands.{Request}
use Rattle.kv_store.specs.Sessions.{numbers_of, IsInSession}
use Rattle.kv_store.proofs.InSession.{IsInSession-next, IsInSession-take, numbers_of-append}
use Rattle.mu_model.specs.Contents.{IsConfig, client_of, number_of, rows_before, word_of}
use Rattle.mu_model.specs.declared.config.Config.{Config}
use Rattle.mu_model.specs.declared.config.Row.{Row}
use Rattle.mu_input.specs.Batches.{followers}
use Rattle.mu_input.specs.Heads.{HasHead, HaveHeads}
use Rattle.mu_input.specs.Settings.{HasLimits}
use Rattle.mu_input.specs.declared.TheConstants.{MOST_COMMANDS}
use Rattle.mu_input.specs.declared.heading.Settings.{Settings}
use Rattle.mu_input.proofs.Cuts.{AreInTurn, AreInTurn-rest, AreInTurn-session, followers_below}

-- what the head word of row j says
abbrev pub client_at : List Row → ℕ → ℕ
client_at rows j = word_of (slice_get rows j) 0 / 2 ^ 8 % 2 ^ 8

abbrev pub number_at : List Row → ℕ → ℕ
number_at rows j = word_of (slice_get rows j) 0 / 2 ^ 16 % 2 ^ 16

abbrev pub rest_at : List Row → ℕ → ℕ
rest_at rows j = word_of (slice_get rows j) 0 / 2 ^ 56

-- command j, and what row j says of it
pub record IsAt (width : ℕ) (commands : List Request) (rows : List Row) (j : ℕ) (command : Request) : Type 0 where
  pub there : slice_get commands j ≡ Some command
  pub client : client_at rows j ≡ command.client
  pub number : number_at rows j ≡ command.number
  pub behind : rest_at rows j ≡ followers width command (drop (suc j) commands)

later : (width : ℕ) (first : Request) (commands : List Request) (row : Row) (rows : List Row) (j : ℕ) (command : Request) → IsAt width commands rows j command → IsAt width (first ∷ commands) (row ∷ rows) (suc j) command
later width first commands row rows j command at = record { there = at.there; client = at.client; number = at.number; behind = at.behind }

pub row_at : (width : ℕ) (commands : List Request) (rows : List Row) → HaveHeads width commands rows → (j : ℕ) → j < length rows → (command : Request) × IsAt width commands rows j command
row_at width [] [] have j below = absurd (omega arith)
row_at width [] (row ∷ rows) have j below = absurd have
row_at width (command ∷ commands) [] have j below = absurd have
row_at width (command ∷ commands) (row ∷ rows) have zero below = (command, record { there = refl; client = have.0.client; number = have.0.number; behind = have.0.rest })
row_at width (command ∷ commands) (row ∷ rows) have (suc j) below = let at = row_at width commands rows have.1 j (omega arith) in (at.0, later width command commands row rows j at.0 at.1)

pub as_many : (width : ℕ) (commands : List Request) (rows : List Row) → HaveHeads width commands rows → length rows ≡ length commands
as_many width [] [] have = refl
as_many width [] (row ∷ rows) have = absurd have
as_many width (command ∷ commands) [] have = absurd have
as_many width (command ∷ commands) (row ∷ rows) have = ap suc (as_many width commands rows have.1)

turn_at : (commands : List Request) (j : ℕ) (command : Request) → AreInTurn commands → slice_get commands j ≡ Some command → AreInTurn (command ∷ drop (suc j) commands)
turn_at [] j command turn e = cc
turn_at (first ∷ commands) zero command turn e = let same : first ≡ command = cc in subst (λ c. AreInTurn (c ∷ commands)) same turn
turn_at (first ∷ commands) (suc j) command turn e = turn_at commands j command (AreInTurn-rest first commands turn) e

-- fewer rows follow than the width
rests : (width : ℕ) (commands : List Request) (rows : List Row) → 1 ≤ width → width ≤ 4 → IsInSession commands → HaveHeads width commands rows → (j : ℕ) → j < length rows → rest_at rows j < width
rests width commands rows some few session have j below =
    let at = row_at width commands rows have j below in
    rw at.1.behind (followers_below width at.0 (drop (suc j) commands) some few (turn_at commands j at.0 (AreInTurn-session commands session) at.1.there))

goes_on : (last same : Bool) (more k : ℕ) → cond last 0 (cond same (more + 1) 0) ≡ suc k → (same ≡ true) × (more ≡ k)
goes_on true same more k e = absurd (omega arith)
goes_on false true more k e = (refl, omega arith)
goes_on false false more k e = absurd (omega arith)

-- the row after one that isn't the last of its batch
abbrev GoesOn : List Row → ℕ → ℕ → Type 0
GoesOn rows j k = (suc j < length rows) × (client_at rows (suc j) ≡ client_at rows j) × (rest_at rows (suc j) ≡ k)

first_goes_on : (width : ℕ) (command : Request) (commands : List Request) (row : Row) (rows : List Row) (k : ℕ) → HasHead row command (followers width command commands) → HaveHeads width commands rows → followers width command commands ≡ suc k → GoesOn (row ∷ rows) 0 k
first_goes_on width command [] row rows k head have e = absurd (omega arith)
first_goes_on width command (next ∷ commands) row [] k head have e = absurd have
first_goes_on width command (next ∷ commands) row (behind ∷ rows) k head have e =
    let on = goes_on (command.number % width == 0) (next.client == command.client) (followers width next commands) k e in
    (omega arith, have.0.client ∙ (Decides-eqb next.client command.client).0 on.0 ∙ sym head.client, have.0.rest ∙ on.1)

batch : (width : ℕ) (commands : List Request) (rows : List Row) → HaveHeads width commands rows → (j k : ℕ) → j < length rows → rest_at rows j ≡ suc k → GoesOn rows j k
batch width [] [] have j k below e = absurd (omega arith)
batch width [] (row ∷ rows) have j k below e = absurd have
batch width (command ∷ commands) [] have j k below e = absurd have
batch width (command ∷ commands) (row ∷ rows) have zero k below e = first_goes_on width command commands row rows k have.0 have.1 (sym have.0.rest ∙ e)
batch width (command ∷ commands) (row ∷ rows) have (suc j) k below e = let on = batch width commands rows have.1 j k (omega arith) e in (omega (arith, on.0), on.1, on.2)

take-more : (commands : List Request) (j : ℕ) (command : Request) → slice_get commands j ≡ Some command → take (suc j) commands ≡ take j commands ++ command ∷ []
take-more [] j command e = cc
take-more (first ∷ commands) zero command e = let same : first ≡ command = cc in ap (λ (c : Request). c ∷ []) same
take-more (first ∷ commands) (suc j) command e = ap (λ rest. first ∷ rest) (take-more commands j command e)

counted : (mine : Bool) (before number : ℕ) → cond mine (before + 1) before ≡ before + length (cond mine (number ∷ []) [])
counted true before number = refl
counted false before number = omega arith

-- the rows of a client before row j are its commands before command j
rows_before-is : (c : Config) (commands : List Request) (client : ℕ) → HaveHeads c.width commands c.rows → (j : ℕ) → j ≤ length c.rows → rows_before c client j ≡ length (numbers_of client (take j commands))
rows_before-is c commands client have zero few = refl
rows_before-is c commands client have (suc j) few =
    let at = row_at c.width commands c.rows have j (omega arith) in
    let before = rows_before-is c commands client have j (omega arith) in
    let numbers = numbers_of client (take j commands) in
    let one = numbers_of client (at.0 ∷ []) in
    let all : length (numbers_of client (take (suc j) commands)) ≡ length numbers + length one =
    ap (λ front. length (numbers_of client front)) (take-more commands j at.0 at.1.there) ∙ ap length (numbers_of-append client (take j commands) (at.0 ∷ [])) ∙ length-append numbers one in
    ap (λ mine. cond (mine == client) (rows_before c client j + 1) (rows_before c client j)) at.1.client
    ∙ counted (at.0.client == client) (rows_before c client j) at.0.number ∙ ap (λ n. n + length one) before ∙ sym all

-- the k-th row of a client has number k
numbers : (c : Config) (commands : List Request) → HaveHeads c.width commands c.rows → IsInSession commands → (j : ℕ) → j < length c.rows → number_of c j ≡ rows_before c (client_of c j) j + 1
numbers c commands have session j below =
    let at = row_at c.width commands c.rows have j below in
    let next = IsInSession-next (take j commands) at.0 (subst IsInSession (take-more commands j at.0 at.1.there) (IsInSession-take (suc j) commands session)) in
    at.1.number ∙ next
    ∙ ap (λ n. n + 1) (sym (rows_before-is c commands at.0.client have j (omega arith)))
    ∙ ap (λ client. rows_before c client j + 1) (sym at.1.client)

one_or_two : (version : ℕ) → 1 ≤ version → version ≤ 2 → (version ≡ 1) ⊎ (version ≡ 2)
one_or_two zero some few = absurd (omega arith)
one_or_two (suc zero) some few = inl refl
one_or_two (suc (suc zero)) some few = inr refl
one_or_two (suc (suc (suc version))) some few = absurd (omega arith)

abbrev made : Settings → List Row → Config
made settings rows = record { version = settings.version; width = settings.width; replicas = settings.replicas; ring = settings.ring; budget = settings.budget; rows = rows }

-- settings within their bounds and commands in session give a configuration
pub IsConfig-made : (settings : Settings) (commands : List Request) (rows : List Row) → HasLimits settings → IsInSession commands → length commands ≤ MOST_COMMANDS → HaveHeads settings.width commands rows → IsConfig (made settings rows)
IsConfig-made settings commands rows limits session few have = record {
  versions = one_or_two settings.version limits.version_least limits.version_most;
  plain = limits.single;
  widths = (limits.width_least, limits.width_most);
  replicas = (limits.replicas_least, limits.replicas_most);
  ring = (limits.ring_least, limits.ring_most);
  budget = (limits.budget_least, limits.budget_most);
  few = omega (arith, few, as_many settings.width commands rows have);
  rests = rests settings.width commands rows limits.width_least limits.width_most session have;
  numbers = numbers (made settings rows) commands have session;
  batches = λ j k below e. let on = batch settings.width commands rows have j k below e in let next : j + 1 ≡ suc j = omega arith in rw next on;
}

-- the settings of a configuration that a job gives are within their bounds
pub HasLimits-config : (c : Config) → IsConfig c → HasLimits (record { version = c.version; width = c.width; replicas = c.replicas; ring = c.ring; budget = c.budget })
HasLimits-config c is = record {
  version_least = ⊎_elim (λ (e : c.version ≡ 1). omega (arith, e)) (λ (e : c.version ≡ 2). omega (arith, e)) is.versions;
  version_most = ⊎_elim (λ (e : c.version ≡ 1). omega (arith, e)) (λ (e : c.version ≡ 2). omega (arith, e)) is.versions;
  single = is.plain;
  width_least = is.widths.0;
  width_most = is.widths.1;
  replicas_least = is.replicas.0;
  replicas_most = is.replicas.1;
  ring_least = is.ring.0;
  ring_most = is.ring.1;
  budget_least = is.budget.0;
  budget_most = is.budget.1;
}
