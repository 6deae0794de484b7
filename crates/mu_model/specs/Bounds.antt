-- bound: how many steps a stretch of a leadership may take.
use Rattle.std.specs.Prelude.{Bool, List, None, Some, [], false, if◌then◌else◌, nat_le, not, true, ℕ, ◌&&◌, ◌*◌, ◌++◌, ◌+◌, ◌==◌, ◌∷◌, ◌≡◌}
use Rattle.std.specs.declared.option.Option.{Option}
use Rattle.std.specs.List.{slice_get}
use Rattle.mu_model.specs.declared.config.Config.{Config}
use Rattle.mu_model.specs.declared.event.Event.{Event}
use Rattle.mu_model.specs.declared.event.Verb.{Verb}
use Rattle.mu_model.specs.Histories.{count_below, has, oldest}
use Rattle.mu_model.specs.Knowledge.{fuo_read, is_value, known}
use Rattle.mu_model.specs.Leaderships.{begins_leadership, is_member, leadership}
use Rattle.mu_model.specs.Steps.{knows_more, named_throughout}
use Rattle.mu_model.specs.Stretches.{IsStretch, replications, steps}

-- the number of members
abbrev pub members : Config → ℕ → List Event → ℕ
members c r past = count_below c.replicas (λ p. is_member r p past)

-- the verb is a look
abbrev pub is_learning_verb : Config → ℕ → List Event → Verb → Bool
is_learning_verb c r past (Verb.Look p i) = true
is_learning_verb c r past _ = false

-- the event is a look that made an entry known
abbrev pub is_learning : Config → ℕ → List Event → Event → Bool
is_learning c r past e = is_learning_verb c r past e.verb && knows_more c r past e

-- the verb puts the known value at p and j
abbrev pub is_copy_of_verb : Config → ℕ → ℕ → ℕ → List Event → Verb → Bool
is_copy_of_verb c r p j past (Verb.PutSlot q i b v) =
    (q == p) && ((i == j) && is_value (slice_get (known c r past) j) v)
is_copy_of_verb c r p j past _ = false

-- the event puts the known value at p and j
abbrev pub is_copy_of : Config → ℕ → ℕ → ℕ → List Event → Event → Bool
is_copy_of c r p j past e = is_copy_of_verb c r p j past e.verb

-- such a put was made in the leadership
abbrev pub was_copied : Config → ℕ → ℕ → ℕ → List Event → Bool
was_copied c r p j [] = false
was_copied c r p j (e ∷ past) =
    if begins_leadership r e then false else if is_copy_of c r p j past e then true
    else was_copied c r p j past

-- the offset, if there is one, is at most j
abbrev pub is_at_most : ℕ → Option ℕ → Bool
is_at_most j None = false
is_at_most j (Some u) = nat_le u j

-- the first `Fuo(p)` answer of the leadership
abbrev pub first_fuo : ℕ → ℕ → List Event → Option ℕ
first_fuo r p past = oldest (λ e. fuo_read r p e.by e.verb e.answer) (leadership r past)

-- the verb puts a known value at or above the first `Fuo(p)` answer of the leadership, for the
-- first time
abbrev pub is_copying_verb : Config → ℕ → List Event → Verb → Bool
is_copying_verb c r past (Verb.PutSlot p j b v) =
    is_value (slice_get (known c r past) j) v
    && (not (was_copied c r p j past) && is_at_most j (first_fuo r p past))
is_copying_verb c r past _ = false

-- the event is such a put
abbrev pub is_copying : Config → ℕ → List Event → Event → Bool
is_copying c r past e = is_copying_verb c r past e.verb

-- how many entries the stretch learnt by looks or brought to regions
abbrev pub copied : Config → ℕ → List Event → List Event → ℕ
copied c r window older = steps (is_learning c r) window older + steps (is_copying c r) window older

-- how many replication events a stretch may take
abbrev pub bound : Config → ℕ → List Event → List Event → ℕ
bound c r window older =
    6 * members c r (window ++ older) + 7 * c.replicas + 8 + 12 * c.width
    + 8 * copied c r window older

-- one turn of the cycle
abbrev pub cycle : Config → ℕ
cycle c = 4 * c.replicas + 44

-- the stretch is of one leadership
abbrev pub stays : ℕ → List Event → Bool
stays r window = not (has (begins_leadership r) window)

-- count replication events follow in the same leadership, and r is named before each
pub record Follows (c : Config) (r : ℕ) (past window older : List Event) (count : ℕ) : Type 0 where
  pub stretch : IsStretch past window older
  pub count_is : replications window older ≡ count
  pub same : stays r window ≡ true
  pub named : named_throughout c r window older ≡ true
