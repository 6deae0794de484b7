-- An era is whole once a replica has handed on every command of it.
use Rattle.std.proofs.Common.{◌≡◌, ◌∙◌, ℕ, ◌<◌, List, Some, ap, arith, drop, inl, inr, length, subst, sym, take, true, true≢false}
use Rattle.std.specs.List.{list_any, slice_get}
use Rattle.std.proofs.Math.Dec.{eqb}
use Rattle.std.proofs.lemmas.Bool.{cases_Bool}
use Rattle.std.proofs.lemmas.List.{length-append}
use Rattle.std.proofs.lemmas.Option.{slice_get_within}
use Rattle.kv_store.specs.Commands.{Request}
use Rattle.kv_store.specs.Sessions.{CountsFrom}
use Rattle.kv_store.specs.Tables.{Table}
use Rattle.mu_input.specs.declared.job.Job.{Job}
use Rattle.mu_input.proofs.JobConfigs.{as_many}
use Rattle.mu_model.specs.declared.event.Event.{Event}
use Rattle.mu_model.specs.Contents.{row_count, rows_in}
use Rattle.mu_model.proofs.Basics.{same_some}
use Rattle.mu_rows.proofs.RowsOnce.{Count, fewer, once, place_of}
use Rattle.mu_follow.specs.Groups.{groups_of}
use Rattle.mu_outcome.specs.Entries.{commands_in}
use Rattle.mu_outcome.specs.LogsAfter.{longest_after}
use Rattle.mu_outcome.proofs.Spelled.{spell_at, spell_in, spell_length, spell_numbers}
use Rattle.mu_engine.specs.Laws.{order_after}
use Rattle.mu_engine.specs.Live.{Live}
use Rattle.mu_engine.specs.Moments.{IsMoment}
use Rattle.mu_engine.proofs.Linear.{sequential}
use Rattle.mu_eras.specs.Eras.{IsWhole}
use Rattle.std.specs.declared.option.Option.{Option}
use Rattle.kv_store.specs.declared.store.Reply.{Reply}
use Rattle.mu_model.proofs.Scans.{rows_in-append}
use Rattle.mu_eras.specs.Applied.{IsKept}
use Rattle.mu_eras.specs.Holding.{AreFollowed, HoldsApplied, IsSettledBy, handed_by}
use Rattle.mu_eras.proofs.Linear.{get_either}
use Rattle.mu_eras.specs.declared.applied.Applied.{Applied}
use Rattle.mu_eras.proofs.Ends.{all_there, handed_longest}
use Rattle.mu_eras.proofs.Handing.{few_handed, two_parts}

-- if the order has as many commands as were submitted, each of their rows stands in the longest log
row_there : (job : Job) (events : List Event) → IsMoment job events → length (order_after job events) ≡ length job.commands
    → (row : ℕ) → row < length job.commands → list_any (eqb row) (rows_in job.config (longest_after job.config events)) ≡ true
row_there job events at same row low = elim (cases_Bool (list_any (eqb row) (rows_in job.config (longest_after job.config events)))) [
  | inl there ↦ there
  | inr out ↦
      let c = job.config in
      let js = rows_in job.config (longest_after job.config events) in
      let order = commands_in job (longest_after job.config events) in
      let long = spell_length job.commands js order (spell_in job (longest_after job.config events) at.config at.heads) in
      let many = as_many c.width job.commands c.rows at.heads in
      let less = fewer (row_count c) row js (once c js counts) below (omega (arith, many, low)) (λ there. true≢false (sym there ∙ out)) in
      absurd (omega (arith, long, many, less, same))
]
  where
    counts : Count job.config (rows_in job.config (longest_after job.config events))
    counts client = (
      1,
      subst (λ l. CountsFrom 1 l)
          (spell_numbers job client (rows_in job.config (longest_after job.config events)) (commands_in job (longest_after job.config events)) at.heads (spell_in job (longest_after job.config events) at.config at.heads))
          ((sequential job events at).sessions client),
    )

    below : (q : ℕ) → list_any (eqb q) (rows_in job.config (longest_after job.config events)) ≡ true → q < row_count job.config
    below q there =
        let c = job.config in
        let js = rows_in c (longest_after c events) in
        let place = place_of q js there in
        let found = spell_at job.commands js (commands_in job (longest_after c events)) place.0 q (spell_in job (longest_after c events) at.config at.heads) place.1 in
        let low = slice_get_within job.commands q found.0 found.2 in
        let many = as_many c.width job.commands c.rows at.heads in
        omega (arith, low, many)

-- so does each of these commands in the order
all_from_count : (job : Job) (events : List Event) → IsMoment job events → length (order_after job events) ≡ length job.commands
    → (row : ℕ) (command : Request) → slice_get job.commands row ≡ Some command → (place : ℕ) × (slice_get (order_after job events) place ≡ Some command)
all_from_count job events at same row command here =
    let js = rows_in job.config (longest_after job.config events) in
    let order = commands_in job (longest_after job.config events) in
    let place = place_of row js (row_there job events at same row (slice_get_within job.commands row command here)) in
    let found = spell_at job.commands js order place.0 row (spell_in job (longest_after job.config events) at.config at.heads) place.1 in
    (place.0, found.1 ∙ ap (λ x. Some x) (same_some found.0 command (sym found.2 ∙ here)))

-- so an era is whole if a replica has handed on every command of it
pub whole_if_settled : (live : Live) (r : ℕ) → IsMoment live.job live.events → r < live.job.config.replicas → IsSettledBy live r → IsWhole (record { job = live.job; events = live.events })
whole_if_settled live r at low settled =
    let whole = all_there live (handed_by live r) at (handed_longest live r at low) (omega (arith, settled)) in
    let count : length (order_after live.job live.events) ≡ length live.job.commands = ap length (sym whole) ∙ sym settled in
    record { count = count; all = all_from_count live.job live.events at count }

-- a replica that has applied as many commands as there are has handed on every command
pub settles : (base : Table) (live : Live) (r : ℕ) (a : Applied) → IsMoment live.job live.events → HoldsApplied base live r a → a.commands ≡ length live.job.commands → IsSettledBy live r
settles base live r a at held all =
    let few = few_handed live r at in
    let count = held.count in
    let both = ap length (two_parts live r a.entries) in
    let long = length-append (commands_in live.job (take a.entries (handed_by live r))) (groups_of live.job.config live.job.commands (drop a.entries (handed_by live r))) in
    omega (arith, few, count, both, long, all)

-- once a replica has handed on every command of the era, there is a reply to each
pub all_kept : (live : Live) (r : ℕ) (told : List (Option Reply)) → IsMoment live.job live.events → r < live.job.config.replicas → r < length live.holds → IsSettledBy live r → AreFollowed live told → (k : ℕ) → k < length live.job.commands → IsKept told k
all_kept live r told at low there settled are k below =
    let c = live.job.config in
    let begins = handed_longest live r at low in
    let rows = ap (rows_in c) begins.1 ∙ rows_in-append c (handed_by live r) begins.0 in
    let whole = whole_if_settled live r at low settled in
    let place = place_of k (rows_in c (longest_after c live.events)) (row_there live.job live.events at whole.count k below) in
    elim (get_either (rows_in c (handed_by live r)) (rows_in c begins.0) place.0 k (ap (λ l. slice_get l place.0) (sym rows) ∙ place.1)) [
      | inl here ↦ are r there place.0 k here
      | inr behind ↦
          let more = slice_get_within (rows_in c begins.0) behind.0 k behind.1 in
          let long = spell_length live.job.commands (rows_in c (longest_after c live.events)) (commands_in live.job (longest_after c live.events)) (spell_in live.job (longest_after c live.events) at.config at.heads) in
          let mine = spell_length live.job.commands (rows_in c (handed_by live r)) (commands_in live.job (handed_by live r)) (spell_in live.job (handed_by live r) at.config at.heads) in
          let all = ap length rows in
          let both = length-append (rows_in c (handed_by live r)) (rows_in c begins.0) in
          let count = whole.count in
          absurd (omega (arith, more, long, mine, all, both, settled, count))
    ]
