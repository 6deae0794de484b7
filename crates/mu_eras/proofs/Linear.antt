-- Over all eras an engine is linear.
use Rattle.std.proofs.Common.{◌≡◌, ◌∙◌, ℕ, suc, zero, ◌+◌, ◌<◌, ◌≤◌, ◌==◌, Bool, true, false, List, [], ◌∷◌, ◌++◌, Some, ap, append-nil, inl, inr, length, map, refl, subst, sym}
use Rattle.std.specs.Prelude.{if◌then◌else◌, ◌⊎◌}
use Rattle.std.specs.List.{slice_get}
use Rattle.std.specs.Option.{option_map}
use Rattle.std.proofs.lemmas.Bool.{cases_lt}
use Rattle.std.proofs.lemmas.Option.{slice_get-map}
use Rattle.kv_store.specs.Beside.{beside}
use Rattle.kv_store.specs.Commands.{Request}
use Rattle.kv_store.specs.Sessions.{IsInSession}
use Rattle.kv_store.specs.Tables.{Table, replies, replies_from, store, store_from}
use Rattle.kv_store.specs.declared.store.Reply.{Reply}
use Rattle.kv_store.proofs.Runs.{length-replies, replies_from-append}
use Rattle.mu_input.specs.declared.job.Job.{Job}
use Rattle.mu_model.specs.Contents.{rows_in}
use Rattle.mu_model.specs.Histories.{IsPrefixOf}
use Rattle.mu_model.proofs.Basics.{same_some}
use Rattle.mu_model.proofs.Lists.{get_front, item_below}
use Rattle.mu_model.proofs.Scans.{rows_in-append}
use Rattle.mu_outcome.specs.Entries.{commands_in}
use Rattle.mu_outcome.specs.LogsAfter.{log_after, longest_after}
use Rattle.mu_outcome.proofs.LogCommands.{commands_in-append}
use Rattle.mu_outcome.proofs.LogsAgreeing.{begins_longest}
use Rattle.mu_outcome.proofs.Spelled.{spell_at, spell_in, spell_row}
use Rattle.mu_engine.specs.Laws.{order_after}
use Rattle.mu_engine.specs.Moments.{GoesOn, IsMoment}
use Rattle.mu_engine.specs.Telling.{handed_log}
use Rattle.mu_engine.proofs.Linear.{begins_on, handed_begins, order_goes, place_of, sequential}
use Rattle.mu_eras.specs.Eras.{AreEras, Era, ErasAreLinear, GoesOver, IsReplyOver, IsSequentialOver, IsSubmitted, order_of, reply_from, told_over}
use Rattle.mu_eras.specs.Orders.{numbered_after}
use Rattle.mu_eras.proofs.Applying.{get_behind}
use Rattle.mu_eras.proofs.Orders.{begins_going_on, past_going_on, replies_going_on, session_going_on}

-- a reply that stands beside a row still does if more follow
beside_front : (row : ℕ) (rows more : List ℕ) (told others : List Reply) (reply : Reply) → beside row rows told ≡ Some reply → beside row (rows ++ more) (told ++ others) ≡ Some reply
beside_front row [] more told others reply at = cc
beside_front row (x ∷ rows) more [] others reply at = cc
beside_front row (x ∷ rows) more (y ∷ told) others reply at = go (x == row) (beside_front row rows more told others reply) at
  where
    go : (t : Bool) → (beside row rows told ≡ Some reply → beside row (rows ++ more) (told ++ others) ≡ Some reply) → (if t then Some y else beside row rows told) ≡ Some reply
        → (if t then Some y else beside row (rows ++ more) (told ++ others)) ≡ Some reply
    go true rest is = is
    go false rest is = rest is

-- so a reply over a log is one over a longer log
pub reply_from_along : (base : Table) (job : Job) (old new : List ℕ) (row : ℕ) (reply : Reply) → IsPrefixOf old new → reply_from base job old row ≡ Some reply → reply_from base job new row ≡ Some reply
reply_from_along base job old new row reply begins told =
    let more = begins.0 in
    let commands = ap (commands_in job) begins.1 ∙ commands_in-append job old more in
    let rows = ap (rows_in job.config) begins.1 ∙ rows_in-append job.config old more in
    ap (λ l. beside row l (replies_from base (commands_in job new))) rows
    ∙ ap (λ l. beside row (rows_in job.config old ++ rows_in job.config more) (replies_from base l)) commands
    ∙ ap (λ l. beside row (rows_in job.config old ++ rows_in job.config more) l) (replies_from-append base (commands_in job old) (commands_in job more))
    ∙ beside_front row (rows_in job.config old) (rows_in job.config more) (replies_from base (commands_in job old)) (replies_from (store_from base (commands_in job old)) (commands_in job more)) reply told

pub get_numbered : (past era : List Request) (k : ℕ) (command : Request) → slice_get era k ≡ Some command → slice_get (map (numbered_after past) era) k ≡ Some (numbered_after past command)
get_numbered past era k command at = slice_get-map (numbered_after past) era k ∙ ap (option_map (numbered_after past)) at

-- each client's commands stand in order and once
pub sessions_over : (eras : List Era) → AreEras eras → IsInSession (order_of eras)
sessions_over [] are = λ client. tt
sessions_over (era ∷ past) are = session_going_on (order_of past) (order_after era.job era.events) (sessions_over past are.1) (sequential era.job era.events are.0).sessions

-- one store takes the commands
pub sequential_over : (past : List Era) (era : Era) → AreEras (era ∷ past) → IsSequentialOver past era
sequential_over past era are = record { sessions = sessions_over (era ∷ past) are; told = told }
  where
    before : List Request
    before = order_of past

    told : (r row : ℕ) (reply : Reply) → r < era.job.config.replicas → told_over past era r row ≡ Some reply → IsReplyOver past era row reply
    told r row reply low is =
        let job = era.job in
        let past_order = order_of past in
        let base = store past_order in
        let log = longest_after job.config era.events in
        let first = handed_begins job era.events r in
        let begins = begins_on (handed_log job.config era.events r) (log_after job.config era.events r) log first (begins_longest job.config era.events r are.0.legal low) in
        let over = reply_from_along base job (handed_log job.config era.events r) log row reply begins is in
        let found = place_of row (rows_in job.config log) (replies_from base (commands_in job log)) reply over in
        let spelled = spell_at job.commands (rows_in job.config log) (commands_in job log) found.0 row (spell_in job log are.0.config are.0.heads) found.1 in
        let long = length-replies past_order in
        record {
          place = length past_order + found.0;
          command = spelled.0;
          submitted = spelled.2;
          ordered = get_behind past_order (map (numbered_after past_order) (commands_in job log)) found.0 ∙ get_numbered past_order (commands_in job log) found.0 spelled.0 spelled.1;
          replied =
              ap (λ l. slice_get l (length past_order + found.0)) (replies_going_on past_order (commands_in job log))
              ∙ ap (λ n. slice_get (replies past_order ++ replies_from base (commands_in job log)) (n + found.0)) (sym long)
              ∙ get_behind (replies past_order) (replies_from base (commands_in job log)) found.0 ∙ found.2;
        }

-- eras that follow only go on
eras_go_on : (more eras : List Era) → IsPrefixOf (order_of eras) (order_of (more ++ eras))
eras_go_on [] eras = ([], sym (append-nil (order_of eras)))
eras_go_on (era ∷ more) eras = begins_on (order_of eras) (order_of (more ++ eras)) (order_of (era ∷ (more ++ eras))) (eras_go_on more eras) (past_going_on (order_of (more ++ eras)) (order_after era.job era.events))

-- those that come first among eras
are_older : (more eras : List Era) → AreEras (more ++ eras) → AreEras eras
are_older [] eras are = are
are_older (era ∷ more) eras are = are_older more eras are.1

-- the order of an era that went on
era_goes_on : (past : List Era) (era later : Era) → IsMoment era.job era.events → IsMoment later.job later.events → GoesOn era.job era.events later.job later.events → IsPrefixOf (order_of (era ∷ past)) (order_of (later ∷ past))
era_goes_on past era later was is goes =
    begins_going_on (order_of past) (order_after era.job era.events) (order_after later.job later.events) (order_goes era.job era.events later.job later.events was is goes)

-- the order goes on
pub order_goes_over : (past : List Era) (era : Era) (later_past : List Era) (later : Era) → AreEras (era ∷ past) → AreEras (later ∷ later_past) → GoesOver past era later_past later
    → IsPrefixOf (order_of (era ∷ past)) (order_of (later ∷ later_past))
order_goes_over past era later_past later was is (inl same) =
    subst (λ l. IsPrefixOf (order_of (era ∷ past)) (order_of (later ∷ l))) (sym same.0) (era_goes_on past era later was.0 is.0 same.1)
order_goes_over past era later_past later was is (inr follow) =
    let more = follow.0 in let ended = follow.1 in
    let are = are_older more (ended ∷ past) (subst AreEras follow.2 is.1) in
    let first = era_goes_on past era ended was.0 are.0 follow.3 in
    let next = eras_go_on (later ∷ more) (ended ∷ past) in
    subst (λ l. IsPrefixOf (order_of (era ∷ past)) (order_of (later ∷ l))) (sym follow.2)
    (begins_on (order_of (era ∷ past)) (order_of (ended ∷ past)) (order_of (later ∷ more ++ ended ∷ past)) first next)

-- what stands in the first of two lists, or behind it
pub get_either : {A : Type 0} (xs ys : List A) (k : ℕ) (x : A) → slice_get (xs ++ ys) k ≡ Some x → (slice_get xs k ≡ Some x) ⊎ ((j : ℕ) × (slice_get ys j ≡ Some x))
get_either [] ys k x at = inr (k, at)
get_either (y ∷ xs) ys zero x at = inl at
get_either (y ∷ xs) ys (suc k) x at = get_either xs ys k x at

pub get_mapped : {A B : Type 0} (f : A → B) (xs : List A) (k : ℕ) (y : B) → slice_get (map f xs) k ≡ Some y → (x : A) × (slice_get xs k ≡ Some x) × (y ≡ f x)
get_mapped f [] k y at = cc
get_mapped f (x ∷ xs) zero y at = (x, refl, sym (same_some (f x) y at))
get_mapped f (x ∷ xs) (suc k) y at = get_mapped f xs k y at

-- what stands in the order was submitted
pub ordered_submitted : (past : List Era) (era : Era) (place : ℕ) (command : Request) → AreEras (era ∷ past) → slice_get (order_of (era ∷ past)) place ≡ Some command → IsSubmitted past era command
ordered_submitted past era place command are at =
    let job = era.job in
    let log = longest_after job.config era.events in
    elim (get_either (order_of past) (map (numbered_after (order_of past)) (commands_in job log)) place command at) [
      | inl older ↦ inl (place, older)
      | inr newer ↦
          let own = get_mapped (numbered_after (order_of past)) (commands_in job log) newer.0 command newer.1 in
          let row = spell_row job.commands (rows_in job.config log) (commands_in job log) newer.0 own.0 (spell_in job log are.0.config are.0.heads) own.1 in
          inr (row.0, own.0, row.2, own.2)
    ]

pub eras_are_linear_law : ErasAreLinear
eras_are_linear_law past era later_past later was is goes = record {
  before = sequential_over past era was;
  now = sequential_over later_past later is;
  goes_on = order_goes_over past era later_past later was is goes;
  in_time = in_time;
}
  where
    in_time : (place : ℕ) (command : Request) → slice_get (order_of (later ∷ later_past)) place ≡ Some command → (IsSubmitted past era command → ⊥) → length (order_of (era ∷ past)) ≤ place
    in_time place command at never = elim (cases_lt place (length (order_of (era ∷ past)))) [
      | inl low ↦
          let begins = order_goes_over past era later_past later was is goes in
          let here = item_below (order_of (era ∷ past)) place low in
          let same = same_some here.0 command (sym (get_front (order_of (era ∷ past)) begins.0 place here.0 here.1) ∙ sym (ap (λ l. slice_get l place) begins.1) ∙ at) in
          absurd (never (subst (IsSubmitted past era) same (ordered_submitted past era place here.0 was here.1)))
      | inr high ↦ high
    ]
