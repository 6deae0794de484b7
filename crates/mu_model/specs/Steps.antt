-- counted steps: which events the paces count.
use Rattle.std.specs.Prelude.{Bool, List, false, length, nat_lt, not, true, ℕ, ◌&&◌, ◌+◌, ◌==◌, ◌||◌, ◌∷◌}
use Rattle.mu_model.specs.declared.config.Config.{Config}
use Rattle.mu_model.specs.declared.event.Answer.{Answer}
use Rattle.mu_model.specs.declared.event.Event.{Event}
use Rattle.mu_model.specs.declared.event.Verb.{Verb}
use Rattle.mu_model.specs.Contents.{holds_all, marked}
use Rattle.mu_model.specs.Histories.{all_below, has}
use Rattle.mu_model.specs.Knowledge.{commits, known}
use Rattle.mu_model.specs.Leaderships.{has_begun, is_over, leadership}
use Rattle.mu_model.specs.Room.{head_read, lacks_room, reserve}
use Rattle.mu_model.specs.Scores.{leader}
use Rattle.mu_model.specs.Stretches.{each_step, is_replication, some_step}

-- the verb is `Beat`
abbrev pub is_beat_verb : Verb → Bool
is_beat_verb Verb.Beat = true
is_beat_verb _ = false

-- the event is a `Beat`
abbrev pub is_beat : Event → Bool
is_beat e = is_beat_verb e.verb

-- the verb is `ReadBeat(q)`
abbrev pub is_beat_read_verb : ℕ → Verb → Bool
is_beat_read_verb q (Verb.ReadBeat p) = p == q
is_beat_read_verb q _ = false

-- the event is a `ReadBeat(q)`
abbrev pub is_beat_read : ℕ → Event → Bool
is_beat_read q e = is_beat_read_verb q e.verb

-- the verb is `ReadAsk(w)`
abbrev pub is_ask_read_verb : ℕ → Verb → Bool
is_ask_read_verb w (Verb.ReadAsk q) = q == w
is_ask_read_verb w _ = false

-- the event is a `ReadAsk(w)`
abbrev pub is_ask_read : ℕ → Event → Bool
is_ask_read w e = is_ask_read_verb w e.verb

-- the verb is a `Grant`
abbrev pub is_granting_verb : Verb → Bool
is_granting_verb (Verb.Grant w) = true
is_granting_verb _ = false

-- the event is a `Grant`
abbrev pub is_granting : Event → Bool
is_granting e = is_granting_verb e.verb

-- the verb is `Ask(p)`
abbrev pub is_asking_verb : ℕ → Verb → Bool
is_asking_verb p (Verb.Ask q) = q == p
is_asking_verb p _ = false

-- the event is an `Ask(p)`
abbrev pub is_asking : ℕ → Event → Bool
is_asking p e = is_asking_verb p e.verb

-- the verb is `Fence(p)`
abbrev pub is_fencing_verb : ℕ → Verb → Bool
is_fencing_verb p (Verb.Fence q) = q == p
is_fencing_verb p _ = false

-- the event is a `Fence(p)`
abbrev pub is_fencing : ℕ → Event → Bool
is_fencing p e = is_fencing_verb p e.verb

-- the verb is a `Fence`
abbrev pub is_any_fencing_verb : Verb → Bool
is_any_fencing_verb (Verb.Fence q) = true
is_any_fencing_verb _ = false

-- the event is a `Fence`
abbrev pub is_any_fencing : Event → Bool
is_any_fencing e = is_any_fencing_verb e.verb

-- the verb is a `Min`
abbrev pub is_min_verb : Verb → Bool
is_min_verb (Verb.Min p) = true
is_min_verb _ = false

-- the event is a `Min`
abbrev pub is_min : Event → Bool
is_min e = is_min_verb e.verb

-- the step is a put at p that missed
abbrev pub is_missed_at_verb : ℕ → Verb → Answer → Bool
is_missed_at_verb p (Verb.PutMin q b) Answer.Missed = q == p
is_missed_at_verb p (Verb.PutSlot q i b v) Answer.Missed = q == p
is_missed_at_verb p _ _ = false

-- the event is a put at p that missed
abbrev pub is_missed_at : ℕ → Event → Bool
is_missed_at p e = is_missed_at_verb p e.verb e.answer

-- the verb is a `PutMin` at p
abbrev pub is_min_put_verb : ℕ → Verb → Bool
is_min_put_verb p (Verb.PutMin q b) = q == p
is_min_put_verb p _ = false

-- the event is a `PutMin` at p
abbrev pub is_min_put : ℕ → Event → Bool
is_min_put p e = is_min_put_verb p e.verb

-- the verb is a `PutSlot`
abbrev pub is_slot_put_verb : Verb → Bool
is_slot_put_verb (Verb.PutSlot p i b v) = true
is_slot_put_verb _ = false

-- the verb raises the FUO of p above i
abbrev pub is_raise_above_verb : ℕ → ℕ → Verb → Bool
is_raise_above_verb p i (Verb.RaiseFuo q u) = (q == p) && nat_lt i u
is_raise_above_verb p i _ = false

-- the event raises the FUO of p above i
abbrev pub is_raise_above : ℕ → ℕ → Event → Bool
is_raise_above p i e = is_raise_above_verb p i e.verb

-- the verb is `Fuo(p)`
abbrev pub is_fuo_of_verb : ℕ → Verb → Bool
is_fuo_of_verb p (Verb.Fuo q) = q == p
is_fuo_of_verb p _ = false

-- the event is a `Fuo(p)`
abbrev pub is_fuo_of : ℕ → Event → Bool
is_fuo_of p e = is_fuo_of_verb p e.verb

-- the verb is `Head(q)`
abbrev pub is_head_of_verb : ℕ → Verb → Bool
is_head_of_verb q (Verb.Head p) = p == q
is_head_of_verb q _ = false

-- the event is a `Head(q)`
abbrev pub is_head_of : ℕ → Event → Bool
is_head_of q e = is_head_of_verb q e.verb

-- the verb is a `RaiseHead`
abbrev pub is_head_raise_verb : Verb → Bool
is_head_raise_verb (Verb.RaiseHead h) = true
is_head_raise_verb _ = false

-- the event is a `RaiseHead`
abbrev pub is_head_raise : Event → Bool
is_head_raise e = is_head_raise_verb e.verb

-- r knows every command
abbrev pub knows_all : Config → ℕ → List Event → Bool
knows_all c r past = holds_all c (known c r past)

-- a leadership is under way that has a `Min`
abbrev pub has_min : ℕ → List Event → Bool
has_min r past = has_begun r past && has is_min (leadership r past)

-- such a leadership is under way and is not over
abbrev pub leads : ℕ → List Event → Bool
leads r past = has_min r past && not (is_over r past)

-- the scores of r name r
abbrev pub is_named : Config → ℕ → List Event → Bool
is_named c r past = leader c r past == r

-- r was named before each replication event of the stretch
abbrev pub named_throughout : Config → ℕ → List Event → List Event → Bool
named_throughout c r window older =
    each_step (λ past e. not (is_replication past e) || is_named c r past) window older

-- another was named before each replication event of the stretch
abbrev pub unnamed_throughout : Config → ℕ → List Event → List Event → Bool
unnamed_throughout c r window older =
    each_step (λ past e. not (is_replication past e) || not (is_named c r past)) window older

-- a replication event of the stretch passes
abbrev pub replicates : (List Event → Event → Bool) → List Event → List Event → Bool
replicates test window older =
    some_step (λ past e. is_replication past e && test past e) window older

-- the event commits
abbrev pub commits_more : Config → ℕ → List Event → Event → Bool
commits_more c r past e = nat_lt (length (commits c r past)) (length (commits c r (e ∷ past)))

-- the event teaches
abbrev pub knows_more : Config → ℕ → List Event → Event → Bool
knows_more c r past e = nat_lt (length (known c r past)) (length (known c r (e ∷ past)))

-- the leadership is over after the event
abbrev pub is_over_after : ℕ → List Event → Event → Bool
is_over_after r past e = is_over r (e ∷ past)

-- a `Head(q)` answer that leaves no room, if no mark of q is known
abbrev pub is_lagging : Config → ℕ → List Event → Event → Bool
is_lagging c r past e =
    not
    (all_below c.replicas
    (λ q. not
    (not (marked c q (known c r past))
    && lacks_room c (length (known c r past) + reserve c)
    (head_read r q e.by e.verb e.answer))))
