-- met where allowed, at most one reason, right number allowed: the laws of points and reasons.
use Rattle.std.specs.Prelude.{List, Some, ℕ, ◌<◌, ◌^◌, ◌↔◌, ◌≡◌}
use Rattle.mu_model.specs.declared.config.Config.{Config}
use Rattle.mu_model.specs.declared.event.Event.{Event}
use Rattle.mu_model.specs.declared.event.Verb.{Verb}
use Rattle.mu_model.specs.declared.reason.Reason.{Reason}
use Rattle.mu_model.specs.Allowed.{Allowed}
use Rattle.mu_model.specs.Entering.{number_allowed}
use Rattle.mu_model.specs.Leaderships.{proposal_number}
use Rattle.mu_model.specs.Points.{AreMet, greatest_used, points, right_number}
use Rattle.mu_model.specs.Reasons.{IsReason}

-- a verb is allowed exactly if it meets all of its points
abbrev pub MetWhereAllowed : Type 0
MetWhereAllowed =
    (c : Config) (r : ℕ) (past : List Event) (verb : Verb)
    → (AreMet c r past (points c r past verb) ↔ Allowed c r past verb)

-- no verb has two reasons
abbrev pub AtMostOneReason : Type 0
AtMostOneReason =
    (c : Config) (r : ℕ) (past : List Event) (verb : Verb) (a b : Reason)
    → IsReason c r past verb a → IsReason c r past verb b → a ≡ b

-- the number that is told in place of a wrong one is allowed, and no other number of 32 bits is
abbrev pub RightNumberAllowed : Type 0
RightNumberAllowed =
    (r : ℕ) (past : List Event) (b : ℕ)
    → r < 8
    → (right_number r (greatest_used r past) (proposal_number r past) ≡ Some b
    → number_allowed r past b (proposal_number r past))
    × (b < 2 ^ 32 → number_allowed r past b (proposal_number r past)
    → right_number r (greatest_used r past) (proposal_number r past) ≡ Some b)
