-- holds the eras, lasts: what an engine without an end holds, if these were the eras before, and
-- how it goes on.
use Rattle.std.specs.Prelude.{List, Some, length, vec_capacity, ℕ, ◌+◌, ◌<◌, ◌^◌, ◌∷◌, ◌≡◌, ◌≤◌}
use Rattle.std.specs.declared.option.Option.{Option}
use Rattle.std.specs.List.{slice_get}
use Rattle.kv_store.specs.declared.store.Reply.{Reply}
use Rattle.mu_engine.specs.Moments.{GoesOn}
use Rattle.mu_engine.specs.Shapes.{HasLimits}
use Rattle.mu_eras.specs.Applied.{IsKept}
use Rattle.mu_eras.specs.Eras.{AreWhole, Era, GoesOver, IsReplyTo, submitted_over}
use Rattle.mu_eras.specs.Holding.{IsSettledBy}
use Rattle.mu_eras.specs.Standing.{HoldsPresent, IsInside, era_of}
use Rattle.mu_eras.specs.Telling.{first_told}
use Rattle.mu_eras.specs.declared.present.Present.{Present}
use Rattle.mu_eras.specs.declared.succession.Succession.{Succession}

-- the era under way is of the shape of all, with places for its replies and for those of the one
-- before; and there is room for the numbers of all its commands
pub record IsLasting (e : Succession) : Type 0 where
  pub inside : IsInside e.present
  pub limits : HasLimits e.shape
  pub replicas : e.shape.replicas ≡ length e.present.engine.holds
  pub room : length e.present.engine.job.commands + e.present.engine.room ≡ e.shape.room
  pub space : e.shape.room ≤ vec_capacity e.present.replies
  pub space_for_last : e.shape.room ≤ vec_capacity e.last
  pub numbers : e.past + e.shape.room < 2 ^ 64

-- the reply to each command of the last of these eras is kept, and is that to the command of its row
pub record KeepsLast (past : List Era) (kept : List (Option Reply)) : Type 0 where
  pub before : ℕ
  pub first : before ≡ first_told past
  pub count : before + length kept ≡ length (submitted_over past)
  pub all : (k : ℕ) → k < length kept → IsKept kept k
  pub told :
      (k : ℕ) (reply : Reply) → slice_get kept k ≡ Some (Some reply)
      → IsReplyTo past (before + k) reply

-- in each of these eras every command was done; the counts tell of them, and the replies that are
-- kept are those of the last of them
pub record HoldsEras (past : List Era) (e : Succession) : Type 0 where
  pub present : HoldsPresent past e.present
  pub whole : AreWhole past
  pub count : e.past ≡ length (submitted_over past)
  pub ended : e.ended ≡ length past
  pub last : KeepsLast past e.last.items

-- which eras there were before stays, and what is kept of them
abbrev pub KeepsEras : Succession → Succession → Type 0
KeepsEras e d = (past : List Era) → HoldsEras past e → HoldsEras past d

-- the era under way went on
abbrev pub KeepsOn : Succession → Succession → Type 0
KeepsOn e d =
    GoesOn e.present.engine.job e.present.engine.events d.present.engine.job
    d.present.engine.events

-- at a later moment: which eras were before then, that these and the one under way go on, and that
-- no command was submitted meanwhile
pub record Lasts (past : List Era) (e d : Succession) : Type 0 where
  pub later : List Era
  pub holds : HoldsEras later d
  pub goes : GoesOver past (era_of e.present) later (era_of d.present)
  pub same : submitted_over (era_of d.present ∷ later) ≡ submitted_over (era_of e.present ∷ past)

-- replica r has handed on every command of the era under way
pub record IsSettled (e : Present) (r : ℕ) : Type 0 where
  pub inside : r < length e.engine.holds
  pub low : r < e.engine.job.config.replicas
  pub all : IsSettledBy e.engine r
