-- What a step does that is drawn. Loads are not, but for those that teach a value, find a place
-- used again, end a leadership, or find another replica failed or alive; nor are beats, unless a
-- leadership is given up, the words of rows, raised FUOs and what a fence is entered with.
use Rattle.std.specs.Prelude.{ℕ, Bool, true, false, nat_le, None, Some, List, ◌∷◌, length}
use Rattle.std.specs.declared.option.Option.{Option}
use Rattle.mu_model.specs.declared.config.Config.{Config}
use Rattle.mu_model.specs.declared.event.Answer.{Answer}
use Rattle.mu_model.specs.declared.event.Event.{Event}
use Rattle.mu_model.specs.declared.event.Verb.{Verb}
use Rattle.mu_model.specs.Knowledge.{committed, known}
use Rattle.mu_model.specs.Scores.{is_failed, leader}
use Rattle.mu_course.specs.Resigning.{resigns}
use Rattle.mu_course.specs.Telling.{ends, taught}
use Rattle.mu_picture.specs.declared.deeds.Deed.{Deed}

-- the step was made
abbrev pub is_done : Answer → Bool
is_done Answer.Done = true
is_done _ = false

-- a deed, if it is drawn
abbrev pub drawn_if : Bool → Deed → Option Deed
drawn_if true deed = Some deed
drawn_if false deed = None

-- a put of an entry: a commit if it commits
abbrev pub put_deed : ℕ → ℕ → Answer → Option (ℕ × ℕ) → Option Deed
put_deed p i answer None = Some (Deed.Put p i (is_done answer))
put_deed p i answer (Some commit) = Some (Deed.Commit p commit.0 commit.1)

-- a look at a position that isn't known finds its place used again
abbrev pub past_deed : ℕ → ℕ → ℕ → Answer → Option Deed
past_deed p i known_length Answer.Past = drawn_if (nat_le known_length i) (Deed.Outrun p i)
past_deed p i known_length _ = None

-- a look that teaches a value, or finds the place used again
abbrev pub look_deed : ℕ → ℕ → ℕ → Answer → Option ℕ → Option Deed
look_deed p i known_length answer (Some v) = Some (Deed.Learn p i v)
look_deed p i known_length answer None = past_deed p i known_length answer

-- a read of the beats of q, which was failed for the reader before it or not, and is after it or
-- not; then the reader names a replica
abbrev pub heard_deed : ℕ → Bool → Bool → ℕ → Option Deed
heard_deed q false true named = Some (Deed.Fails q named)
heard_deed q true false named = Some (Deed.Trusts q named)
heard_deed q was now named = None

-- what the verb does that is drawn; `mine` are the events of its replica before, and so often its
-- region was granted
abbrev pub deed_by : Config → List Event → ℕ → Event → Verb → Option Deed
deed_by c mine granted e (Verb.Ask p) = Some (Deed.Ask p)
deed_by c mine granted e Verb.Close = Some Deed.Close
deed_by c mine granted e Verb.Drain = Some Deed.Drain
deed_by c mine granted e (Verb.Grant w) = Some (Deed.Grant w granted)
deed_by c mine granted e (Verb.PutMin p b) = Some (Deed.PutMin p b (is_done e.answer))
deed_by c mine granted e (Verb.PutSlot p i b v) =
    put_deed p i e.answer
    (committed c e.by (length (known c e.by mine)) e.by e.verb e.answer (e ∷ mine))
deed_by c mine granted e (Verb.Look p i) =
    look_deed p i (length (known c e.by mine)) e.answer (taught c e.by mine e)
deed_by c mine granted e (Verb.RaiseHead h) = Some (Deed.Head h)
deed_by c mine granted e (Verb.Enter p t) = drawn_if (ends e.by mine e) (Deed.Barred p)
deed_by c mine granted e (Verb.Fence p) = drawn_if (ends e.by mine e) (Deed.Deposed p)
deed_by c mine granted e (Verb.Min p) = drawn_if (ends e.by mine e) (Deed.Outbid p)
deed_by c mine granted e Verb.Beat =
    drawn_if (resigns c e.by mine e) (Deed.Resign (leader c e.by mine))
deed_by c mine granted e (Verb.ReadBeat q) =
    heard_deed q (is_failed e.by q mine) (is_failed e.by q (e ∷ mine)) (leader c e.by (e ∷ mine))
deed_by c mine granted e _ = None

-- what the event does that is drawn
abbrev pub deed_of : Config → List Event → ℕ → Event → Option Deed
deed_of c mine granted e = deed_by c mine granted e e.verb
