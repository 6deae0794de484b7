-- was told, talks are linear, reports are linear: what is told in a session of `serve` is what one
-- store replies that takes the commands one by one, at every later moment; and a command that is
-- submitted after a reply was told stands behind that reply's.
use Rattle.std.specs.Prelude.{List, Some, ℕ, ◌<◌, ◌≡◌, ◌≤◌}
use Rattle.std.specs.List.{slice_get}
use Rattle.kv_store.specs.Commands.{Request}
use Rattle.kv_store.specs.Tables.{replies}
use Rattle.kv_store.specs.declared.store.Reply.{Reply}
use Rattle.mu_engine.specs.Laws.{IsLinear, order_after}
use Rattle.mu_engine.specs.Live.{Live}
use Rattle.mu_outcome.specs.declared.account.Account.{Account}
use Rattle.mu_report.specs.declared.responses.Response.{Response}
use Rattle.mu_report.specs.declared.responses.Response.TheVariants as response
use Rattle.mu_serve.specs.Closing.{ClosesLive}
use Rattle.mu_serve.specs.Sessions.{AnswersAll, Talk, first_talk}

-- among these answers this reply is told to this command
pub record WasTold (answers : List (List Response)) (command : Request)
    (reply : Reply) : Type 0 where
  pub line : ℕ
  pub place : ℕ
  pub responses : List Response
  pub answered : slice_get answers line ≡ Some responses
  pub there : slice_get responses place ≡ Some (response.Replied command reply)

-- the order of the commands at a moment: that of the longest log
abbrev pub order_of : Live → List Request
order_of live = order_after live.job live.events

-- one store that takes the commands in this order replies so to this one
pub record RepliesSo (order : List Request) (command : Request) (reply : Reply) : Type 0 where
  pub place : ℕ
  pub ordered : slice_get order place ≡ Some command
  pub replied : slice_get (replies order) place ≡ Some reply

-- the command isn't among those that were submitted so far
abbrev pub IsNew : Live → Request → Type 0
IsNew live command = (row : ℕ) → slice_get live.job.commands row ≡ Some command → ⊥

-- wherever the newer command stands in this order, the sooner one stands before it
abbrev pub StandsBehind : Request → Request → List Request → Type 0
StandsBehind sooner newer order =
    (k : ℕ) → slice_get order k ≡ Some newer
    → (j : ℕ) × (j < k) × (slice_get order j ≡ Some sooner)

-- a session in which these answers were told is linear up to a later moment: the engine's session
-- is; what was told is what the store replies then; and what comes only after that stands behind it
pub record IsLinearTalk (talk : Talk) (answers : List (List Response))
    (later : Live) : Type 0 where
  pub linear : IsLinear talk.live.job talk.live.events later.job later.events
  pub told :
      (command : Request) (reply : Reply) → WasTold answers command reply
      → RepliesSo (order_of later) command reply
  pub in_time :
      (sooner newer : Request) (reply : Reply) → WasTold answers sooner reply
      → IsNew talk.live newer → StandsBehind sooner newer (order_of later)

-- every session is linear, from any line of it to any later one
abbrev pub TalksAreLinear : Type 0
TalksAreLinear =
    (replicas : ℕ) (first next : List (List ℕ)) (answers more : List (List Response))
    (talk end : Talk) → 1 ≤ replicas → replicas ≤ 7
    → AnswersAll (first_talk replicas) first answers talk → AnswersAll talk next more end
    → IsLinearTalk talk answers end.live

-- and to the moment of which its report tells
abbrev pub ReportsAreLinear : Type 0
ReportsAreLinear =
    (replicas : ℕ) (first next : List (List ℕ)) (answers more : List (List Response))
    (talk end : Talk) (account : Account) → 1 ≤ replicas → replicas ≤ 7
    → AnswersAll (first_talk replicas) first answers talk → AnswersAll talk next more end
    → (closes : ClosesLive end.live account) → IsLinearTalk talk answers closes.after
