-- blocking, advance: a head that leaves no room, of a replica that can't be marked; progress, if of
-- the heads only those that block are.
use Rattle.std.specs.Prelude.{Bool, List, is_some, length, not, true, ℕ, ◌&&◌, ◌+◌, ◌==◌, ◌||◌, ◌∷◌, ◌≡◌}
use Rattle.mu_model.specs.declared.config.Config.{Config}
use Rattle.mu_model.specs.declared.event.Event.{Event}
use Rattle.mu_model.specs.Bounds.{Follows, bound}
use Rattle.mu_model.specs.Contents.{marked}
use Rattle.mu_model.specs.Diligence.{is_milestone}
use Rattle.mu_model.specs.Ends.{outrun}
use Rattle.mu_model.specs.Histories.{all_below}
use Rattle.mu_model.specs.Knowledge.{known}
use Rattle.mu_model.specs.Room.{head_read, lacks_room, reserve}
use Rattle.mu_model.specs.Scores.{is_failed}
use Rattle.mu_model.specs.Steps.{commits_more, is_over_after, knows_all, replicates}

-- q can be marked: the version has marks, and r holds q to be failed
abbrev pub can_be_marked : Config → ℕ → ℕ → List Event → Bool
can_be_marked c r q now = (c.version == 2) && is_failed r q now

-- a `Head(q)` answer that leaves no room, if no mark of q is known and q can't be marked
abbrev pub is_blocking : Config → ℕ → List Event → Event → Bool
is_blocking c r past e =
    not
    (all_below c.replicas
    (λ q. not
    (not (marked c q (known c r past))
    && (lacks_room c (length (known c r past) + reserve c) (head_read r q e.by e.verb e.answer)
    && not (can_be_marked c r q (e ∷ past))))))

-- a commit, a head that passes the test, the end of the leadership or of the journal, or all is
-- known
abbrev pub is_progress_by :
    (List Event → Event → Bool) → Config → ℕ → List Event → Event → Bool
is_progress_by stops c r past e =
    commits_more c r past e
    || (is_over_after r past e
    || (stops past e || (knows_all c r past || is_some (outrun c r (e ∷ past)))))

-- an advance: progress, if of the heads only those that block are
abbrev pub is_advance : Config → ℕ → List Event → Event → Bool
is_advance c r = is_progress_by (is_blocking c r) c r

-- after a milestone comes an advance within the bound of progress
abbrev pub AdvancesInTime : Config → ℕ → List Event → Type 0
AdvancesInTime c r past =
    (e : Event) (window older : List Event) → is_milestone c r older e ≡ true
    → Follows c r past window (e ∷ older) (bound c r window (e ∷ older))
    → replicates (is_advance c r) window (e ∷ older) ≡ true
