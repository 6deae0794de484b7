-- Every session is linear, at each later line and at its report.
use Rattle.std.proofs.Common.{◌≡◌, ◌∙◌, ℕ, ◌≤◌, List, Some, ap, arith, inl, inr, length, subst, sym}
use Rattle.std.proofs.lemmas.Bool.{cases_lt}
use Rattle.std.specs.List.{slice_get}
use Rattle.kv_store.specs.Commands.{Request}
use Rattle.kv_store.specs.declared.store.Reply.{Reply}
use Rattle.mu_input.proofs.JobConfigs.{as_many}
use Rattle.mu_model.specs.Contents.{row_count, rows_in}
use Rattle.mu_model.proofs.Basics.{none_some, same_some}
use Rattle.mu_model.proofs.Lists.{item_below}
use Rattle.mu_outcome.specs.Entries.{commands_in}
use Rattle.mu_outcome.specs.LogsAfter.{log_after}
use Rattle.mu_outcome.proofs.LogsAgreeing.{longest_among}
use Rattle.mu_outcome.proofs.Spelled.{spell_at, spell_in, spell_row}
use Rattle.mu_engine.specs.Live.{Live}
use Rattle.mu_engine.specs.Moments.{GoesOn, IsMoment}
use Rattle.mu_engine.proofs.Going.{goes_further_law}
use Rattle.mu_engine.proofs.Linear.{in_time, sequential, sessions_are_linear_law}
use Rattle.mu_report.specs.declared.responses.Response.{Response}
use Rattle.mu_serve.specs.Laws.{IsLinearTalk, IsNew, RepliesSo, ReportsAreLinear, StandsBehind, TalksAreLinear, order_of}
use Rattle.mu_serve.specs.Sessions.{Talk}
use Rattle.mu_serve.specs.declared.closing.TheConstants.{CLOSING_ROUNDS}
use Rattle.mu_serve.proofs.Onward.{IsKnown, LeadOn, adds_after, command_stays, first_stands, goes_adding, known_lasts, lines_lead}

-- what is known is what the store replies
known_replied : (live : Live) (command : Request) (reply : Reply) → IsMoment live.job live.events
    → IsKnown live command reply → RepliesSo (order_of live) command reply
known_replied live command reply at known =
    let is = (sequential live.job live.events at).told known.by known.row reply known.low known.told in
    let same : is.command ≡ command =
    same_some is.command command (sym is.submitted ∙ known.of) in
    record {
      place = is.place;
      ordered = is.ordered ∙ ap (λ x. Some x) same;
      replied = is.replied;
    }

-- a command that is new has a row beyond those that were there
new_row : (live later : Live) (newer : Request) (row : ℕ) → IsMoment live.job live.events
    → GoesOn live.job live.events later.job later.events → IsNew live newer
    → slice_get later.job.commands row ≡ Some newer → row_count live.job.config ≤ row
new_row live later newer row was goes new at = elim (cases_lt row (length commands)) [
  | inl low ↦ (
      let old = item_below commands row low in
      let here = command_stays live later row old.0 goes old.1 in
      let same : old.0 ≡ newer = same_some old.0 newer (sym here ∙ at) in
      absurd (new row (old.1 ∙ ap (λ x. Some x) same)))
  | inr high ↦ (
      let many = as_many live.job.config.width commands live.job.config.rows was.heads in
      omega (arith, many, high))
]
  where
    commands : List Request
    commands = live.job.commands

-- and stands behind each whose reply was known, in every log
behind_in : (live later : Live) (s : ℕ) (sooner newer : Request) (reply : Reply)
    → IsMoment live.job live.events → IsMoment later.job later.events
    → GoesOn live.job live.events later.job later.events → IsKnown live sooner reply
    → IsNew live newer
    → StandsBehind sooner newer (commands_in later.job (log_after later.job.config later.events s))
behind_in live later s sooner newer reply was is goes known new k at =
    let spell = spell_in later.job log is.config is.heads in
    let found = spell_row later.job.commands rows commands k newer spell at in
    let high = new_row live later newer found.0 was goes new found.2 in
    let before = in_time live.job live.events later.job later.events known.by s known.row found.0
    reply was is goes known.told high k found.1 in
    let there = spell_at later.job.commands rows commands before.0 known.row spell before.2 in
    let stays = command_stays live later known.row sooner goes known.of in
    let same : there.0 ≡ sooner = same_some there.0 sooner (sym there.2 ∙ stays) in
    (before.0, before.1, there.1 ∙ ap (λ x. Some x) same)
  where
    log : List ℕ
    log = log_after later.job.config later.events s

    rows : List ℕ
    rows = rows_in later.job.config log

    commands : List Request
    commands = commands_in later.job log

-- so in the longest
stands_behind : (live later : Live) (sooner newer : Request) (reply : Reply)
    → IsMoment live.job live.events → IsMoment later.job later.events
    → GoesOn live.job live.events later.job later.events → IsKnown live sooner reply
    → IsNew live newer → StandsBehind sooner newer (order_of later)
stands_behind live later sooner newer reply was is goes known new =
    elim (longest_among later.job.config later.events) [
      | inl none ↦
          subst (λ l. StandsBehind sooner newer (commands_in later.job l)) (sym none)
          (λ k at. absurd (none_some newer at))
      | inr some ↦
          subst (λ l. StandsBehind sooner newer (commands_in later.job l)) some.2
          (behind_in live later some.0 sooner newer reply was is goes known new)
    ]

-- a session that stands at a moment is linear up to each later one
linear_from : (first talk : Talk) (answers : List (List Response)) (later : Live)
    → LeadOn first talk answers → IsMoment later.job later.events
    → GoesOn talk.live.job talk.live.events later.job later.events
    → IsLinearTalk talk answers later
linear_from first talk answers later lead is goes =
    let live = talk.live in let was = lead.stands.moment in
    record {
      linear = sessions_are_linear_law live.job live.events later.job later.events was is goes;
      told = λ command reply told. known_replied later command reply is
          (known_lasts live later command reply was is goes (lead.known command reply told));
      in_time = λ sooner newer reply told new. stands_behind live later sooner newer reply was is
          goes (lead.known sooner reply told) new;
    }

pub talks_are_linear_law : TalksAreLinear
talks_are_linear_law replicas first next answers more talk end some few begun so =
    let lead = lines_lead _ talk first answers (first_stands replicas some few) begun in
    let on = lines_lead talk end next more lead.stands so in
    linear_from _ talk answers end.live lead on.stands.moment on.goes

pub reports_are_linear_law : ReportsAreLinear
reports_are_linear_law replicas first next answers more talk end account some few begun so closes =
    let lead = lines_lead _ talk first answers (first_stands replicas some few) begun in
    let on = lines_lead talk end next more lead.stands so in
    let after = closes.after in
    let rounds = goes_adding end.live after (adds_after CLOSING_ROUNDS end.live after closes.rounds) in
    linear_from _ talk answers after lead closes.comes_to.moment
    (goes_further_law talk.live.job talk.live.events end.live.job end.live.events after.job
    after.events on.goes rounds)
