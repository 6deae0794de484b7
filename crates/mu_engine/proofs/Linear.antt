-- Every session is linear.
use Rattle.std.proofs.Common.{◌≡◌, ◌∙◌, ℕ, suc, ◌<◌, ◌≤◌, List, [], ◌∷◌, ◌++◌, Some, ap, append_assoc, arith, drop, inl, inr, refl, subst, sym, true, false, Bool}
use Rattle.std.specs.Prelude.{if◌then◌else◌, ◌==◌}
use Rattle.std.specs.List.{slice_get}
use Rattle.std.proofs.lemmas.Bool.{eqb-true}
use Rattle.std.proofs.lemmas.List.{take-append-drop}
use Rattle.std.proofs.lemmas.Option.{slice_get_within}
use Rattle.kv_store.specs.Beside.{beside}
use Rattle.kv_store.specs.Sessions.{IsInSession}
use Rattle.kv_store.specs.Tables.{replies}
use Rattle.kv_store.specs.declared.store.Reply.{Reply}
use Rattle.mu_input.specs.declared.job.Job.{Job}
use Rattle.mu_model.specs.declared.config.Config.{Config}
use Rattle.mu_model.specs.declared.event.Event.{Event}
use Rattle.mu_model.specs.Contents.{row_count, rows_in}
use Rattle.mu_model.specs.Histories.{IsPrefixOf, history, part}
use Rattle.mu_model.proofs.Basics.{same_some}
use Rattle.mu_model.proofs.Lists.{get_front}
use Rattle.mu_model.proofs.Scans.{rows_in-append}
use Rattle.mu_agree.proofs.Prefixes.{known_agree, lists_agree}
use Rattle.mu_follow.specs.Completion.{AreEntries}
use Rattle.mu_node.specs.Cycle.{handed_before}
use Rattle.mu_clients.specs.Attested.{reply_over}
use Rattle.mu_clients.specs.Laws.{StandsAfter}
use Rattle.mu_clients.proofs.Agreeing.{beside_at, reply_along}
use Rattle.mu_clients.proofs.Telling.{split_at}
use Rattle.mu_outcome.specs.Entries.{commands_in}
use Rattle.mu_outcome.specs.LogsAfter.{log_after, longest_after}
use Rattle.mu_outcome.proofs.Agreeing.{applied_known}
use Rattle.mu_outcome.proofs.LogCommands.{commands_in-append}
use Rattle.mu_outcome.proofs.LogsAgreeing.{begins_longest, logs_agree_law, longest_among}
use Rattle.mu_outcome.proofs.Spelled.{spell_at, spell_in}
use Rattle.mu_engine.specs.Laws.{IsReplyOf, IsSequential, RepliesStay, SessionsAreLinear, order_after}
use Rattle.mu_engine.specs.Moments.{GoesOn, IsMoment}
use Rattle.mu_engine.specs.Telling.{handed_log, reply_told}
use Rattle.mu_engine.proofs.Going.{commands_stay, get_begun, log_goes, over_stays, rows_low, rows_stay}

-- the entries of logs
log_entries : (job : Job) (events : List Event) (r : ℕ) → IsMoment job events → AreEntries job.config (log_after job.config events r)
log_entries job events r at i v there = (logs_agree_law job events at.config at.heads at.legal).entries r i v there

pub longest_entries : (job : Job) (events : List Event) → IsMoment job events → AreEntries job.config (longest_after job.config events)
longest_entries job events at = elim (longest_among job.config events) [
  | inl none ↦ subst (AreEntries job.config) (sym none) (λ i v there. cc)
  | inr some ↦ subst (AreEntries job.config) some.2 (log_entries job events some.0 at)
]

-- what is handed on begins the log
pub handed_begins : (job : Job) (events : List Event) (r : ℕ) → IsPrefixOf (handed_log job.config events r) (log_after job.config events r)
handed_begins job events r =
    let n = handed_before job.config r (part r (history events)) in
    let log = log_after job.config events r in
    (drop n log, sym (take-append-drop n log))

pub begins_on : {A : Type 0} (xs ys zs : List A) → IsPrefixOf xs ys → IsPrefixOf ys zs → IsPrefixOf xs zs
begins_on xs ys zs first second = (first.0 ++ second.0, second.1 ∙ ap (λ l. l ++ second.0) first.1 ∙ append_assoc xs first.0 second.0)

-- a reply that is told is the store's over the log, and over the longest
told_by : (job : Job) (events : List Event) (r row : ℕ) (reply : Reply) → reply_told job events r row ≡ Some reply → reply_over job (log_after job.config events r) row ≡ Some reply
told_by job events r row reply told = reply_along job (handed_log job.config events r) (log_after job.config events r) row reply (handed_begins job events r) told

told_over : (job : Job) (events : List Event) (r row : ℕ) (reply : Reply) → IsMoment job events → r < job.config.replicas → reply_told job events r row ≡ Some reply → reply_over job (longest_after job.config events) row ≡ Some reply
told_over job events r row reply at low told =
    reply_along job (log_after job.config events r) (longest_after job.config events) row reply (begins_longest job.config events r at.legal low) (told_by job events r row reply told)

-- the place of a reply
pub place_of : (row : ℕ) (rows : List ℕ) (told : List Reply) (reply : Reply) → beside row rows told ≡ Some reply → (k : ℕ) × (slice_get rows k ≡ Some row) × (slice_get told k ≡ Some reply)
place_of row [] told reply at = cc
place_of row (first ∷ rows) [] reply at = cc
place_of row (first ∷ rows) (x ∷ told) reply at = go (first == row) refl (place_of row rows told reply) at
  where
    go : (t : Bool) → (first == row) ≡ t → (beside row rows told ≡ Some reply → (k : ℕ) × (slice_get rows k ≡ Some row) × (slice_get told k ≡ Some reply)) → (if t then Some x else beside row rows told) ≡ Some reply
        → (k : ℕ) × (slice_get (first ∷ rows) k ≡ Some row) × (slice_get (x ∷ told) k ≡ Some reply)
    go true same rest at = (0, ap (λ n. Some n) (eqb-true first row same), at)
    go false same rest at = let found = rest at in (suc found.0, found.1, found.2)

-- one store takes the commands
pub sequential : (job : Job) (events : List Event) → IsMoment job events → IsSequential job events
sequential job events at = record { sessions = sessions; told = told }
  where
    sessions : IsInSession (order_after job events)
    sessions = elim (longest_among job.config events) [
      | inl none ↦ subst (λ l. IsInSession (commands_in job l)) (sym none) (λ client. tt)
      | inr some ↦ subst (λ l. IsInSession (commands_in job l)) some.2 ((logs_agree_law job events at.config at.heads at.legal).sessions some.0)
    ]

    told : (r row : ℕ) (reply : Reply) → r < job.config.replicas → reply_told job events r row ≡ Some reply → IsReplyOf (order_after job events) job.commands row reply
    told r row reply low is =
        let log = longest_after job.config events in
        let found = place_of row (rows_in job.config log) (replies (commands_in job log)) reply (told_over job events r row reply at low is) in
        let spelled = spell_at job.commands (rows_in job.config log) (commands_in job log) found.0 row (spell_in job log at.config at.heads) found.1 in
        record { place = found.0; command = spelled.0; submitted = spelled.2; ordered = spelled.1; replied = found.2 }

-- the longest log begins the longest at a later moment
longest_goes : (job : Job) (events : List Event) (later : Job) (after : List Event) → IsMoment job events → IsMoment later after → GoesOn job events later after
    → IsPrefixOf (longest_after job.config events) (longest_after later.config after)
longest_goes job events later after was is goes = elim (longest_among job.config events) [
  | inl none ↦ (longest_after later.config after, ap (λ l. l ++ longest_after later.config after) (sym none))
  | inr some ↦
      let same = ap (λ k. k.replicas) goes.config_is in
      let low = some.1 in
      subst (λ l. IsPrefixOf l (longest_after later.config after)) some.2
      (begins_on (log_after job.config events some.0) (log_after later.config after some.0) (longest_after later.config after) (log_goes job events later after some.0 was is goes)
      (begins_longest later.config after some.0 is.legal (omega (arith, low, same))))
]

-- the reply over the longest log stays
over_goes : (job : Job) (events : List Event) (later : Job) (after : List Event) (row : ℕ) (reply : Reply) → IsMoment job events → IsMoment later after → GoesOn job events later after
    → reply_over job (longest_after job.config events) row ≡ Some reply → reply_over later (longest_after later.config after) row ≡ Some reply
over_goes job events later after row reply was is goes told =
    reply_along later (longest_after job.config events) (longest_after later.config after) row reply (longest_goes job events later after was is goes)
    (over_stays job events later after (longest_after job.config events) row was is goes (longest_entries job events was) ∙ told)

pub replies_stay_law : RepliesStay
replies_stay_law job events later after r s row first second was is goes low there one two =
    same_some first second (sym (over_goes job events later after row first was is goes (told_over job events r row first was low one)) ∙ told_over later after s row second is there two)

-- the order goes on
pub order_goes : (job : Job) (events : List Event) (later : Job) (after : List Event) → IsMoment job events → IsMoment later after → GoesOn job events later after
    → IsPrefixOf (order_after job events) (order_after later after)
order_goes job events later after was is goes =
    let old = longest_after job.config events in
    let begins = longest_goes job events later after was is goes in (
      commands_in later begins.0,
      ap (commands_in later) begins.1 ∙ commands_in-append later old begins.0
          ∙ ap (λ l. l ++ commands_in later begins.0) (commands_stay job events later after old was is goes (longest_entries job events was)),
    )

-- a command that came after a reply was told stands behind that reply's
pub in_time : (job : Job) (events : List Event) (later : Job) (after : List Event) (r s sooner newer : ℕ) (reply : Reply) → IsMoment job events → IsMoment later after → GoesOn job events later after
    → reply_told job events r sooner ≡ Some reply → row_count job.config ≤ newer
    → StandsAfter sooner newer (rows_in later.config (log_after later.config after s))
in_time job events later after r s sooner newer reply was is goes told high k at = elim (lists_agree old now agree) [
  | inl begins ↦ (elim (split_at (rows_in c old) (rows_in c begins.0) k newer (subst (λ l. slice_get l k ≡ Some newer) (rows_on old now begins) at)) [
    | inl there ↦ absurd (never k there)
    | inr long ↦ (
        let within = slice_get_within (rows_in c old) seen.0 sooner seen.1 in
        (seen.0, omega (arith, within, long), subst (λ l. slice_get l seen.0 ≡ Some sooner) (sym (rows_on old now begins)) (get_front (rows_in c old) (rows_in c begins.0) seen.0 sooner seen.1)))
  ])
  | inr begins ↦ absurd (never k (subst (λ l. slice_get l k ≡ Some newer) (sym (rows_on now old begins)) (get_front (rows_in c now) (rows_in c begins.0) k newer at)))
]
  where
    c : Config
    c = later.config

    old : List ℕ
    old = log_after job.config events r

    now : List ℕ
    now = log_after later.config after s

    same : rows_in later.config (log_after job.config events r) ≡ rows_in job.config (log_after job.config events r)
    same = rows_stay job events later after (log_after job.config events r) was is goes (log_entries job events r was)

    agree : (i v w : ℕ) → slice_get (log_after job.config events r) i ≡ Some v → slice_get (log_after later.config after s) i ≡ Some w → v ≡ w
    agree i v w a b =
        known_agree later.config r s (history after) is.legal i v w
        (applied_known later.config r i v (part r (history after)) (get_begun (log_after job.config events r) (log_after later.config after r) i v (log_goes job events later after r was is goes) a))
        (applied_known later.config s i w (part s (history after)) b)

    rows_on : (xs ys : List ℕ) → (begins : IsPrefixOf xs ys) → rows_in later.config ys ≡ rows_in later.config xs ++ rows_in later.config begins.0
    rows_on xs ys begins = ap (rows_in later.config) begins.1 ∙ rows_in-append later.config xs begins.0

    seen : (x : ℕ) × (slice_get (rows_in later.config (log_after job.config events r)) x ≡ Some sooner)
    seen =
        let found = beside_at sooner (rows_in job.config (log_after job.config events r)) (replies (commands_in job (log_after job.config events r))) reply (told_by job events r sooner reply told) in
        (found.0, subst (λ l. slice_get l found.0 ≡ Some sooner) (sym same) found.1)

    never : (x : ℕ) → slice_get (rows_in later.config (log_after job.config events r)) x ≡ Some newer → ⊥
    never x there =
        let low = rows_low job.config (log_after job.config events r) was.config x newer (subst (λ l. slice_get l x ≡ Some newer) same there) in
        omega (arith, low, high)

pub sessions_are_linear_law : SessionsAreLinear
sessions_are_linear_law job events later after was is goes = record {
  before = sequential job events was;
  now = sequential later after is;
  goes_on = order_goes job events later after was is goes;
  in_time = λ r s sooner newer reply low told high. in_time job events later after r s sooner newer reply was is goes told high;
}
