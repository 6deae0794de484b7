-- first told, unapplied, has no reply: of which rows an engine without an end has no reply to tell.
use Rattle.std.specs.Prelude.{List, None, [], length, ℕ, ◌+◌, ◌<◌, ◌≡◌, ◌∷◌, ◌⊎◌}
use Rattle.mu_eras.specs.Eras.{Era, submitted_over, told_over}

-- the least row whose reply is kept, if these eras have ended: the first of the last one of them
abbrev pub first_told : List Era → ℕ
first_told [] = 0
first_told (era ∷ past) = length (submitted_over past)

-- no replica has handed on to its store the command at this place of the era under way
abbrev pub IsUnapplied : List Era → Era → ℕ → Type 0
IsUnapplied past era place =
    (r : ℕ) → r < era.job.config.replicas → told_over past era r place ≡ None

-- no reply of the row is told: its era is older than the one before that under way; or it is a row of
-- the era under way, or one that is still to come, and no replica has applied the command
abbrev pub HasNoReply : List Era → Era → ℕ → Type 0
HasNoReply past era row =
    (row < first_told past)
    ⊎ ((place : ℕ) × (row ≡ length (submitted_over past) + place)
    × IsUnapplied past era place)
