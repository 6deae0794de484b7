-- answer: what a step answers after a history.
use Rattle.std.specs.Prelude.{Bool, List, None, Some, false, if◌then◌else◌, length, nat_lt, not, true, ℕ, ◌&&◌, ◌+◌, ◌==◌}
use Rattle.std.specs.declared.option.Option.{Option}
use Rattle.std.specs.List.{slice_get}
use Rattle.mu_model.specs.declared.config.Config.{Config}
use Rattle.mu_model.specs.declared.event.Answer.{Answer}
use Rattle.mu_model.specs.declared.event.Event.{Event}
use Rattle.mu_model.specs.declared.event.Fence.{Fence}
use Rattle.mu_model.specs.declared.event.Verb.{Verb}
use Rattle.mu_model.specs.Histories.{has, since}
use Rattle.mu_model.specs.Leaderships.{noted_grant}
use Rattle.mu_model.specs.Regions.{asks, beats, fence, is_drain_of, region_fuo, region_head, region_log, region_min, row_word}

-- the event is an `Enter` of r at p
abbrev pub is_enter_by : ℕ → ℕ → ℕ → Verb → Bool
is_enter_by r p by (Verb.Enter q t) = (by == r) && (q == p)
is_enter_by r p by _ = false

-- the event is an `Enter` of r at p
abbrev pub is_enter_of : ℕ → ℕ → Event → Bool
is_enter_of r p e = is_enter_by r p e.by e.verb

-- the region p was drained since the last `Enter` of r there
abbrev pub drained : ℕ → ℕ → List Event → Bool
drained r p past = has (is_drain_of p) (since (is_enter_of r p) past)

-- an `Enter` finds the noted grant and a fence that is not closing, or it is lost
abbrev pub entered_or_lost : Option ℕ → Fence → Answer
entered_or_lost None f = Answer.Lost f
entered_or_lost (Some g) f =
    if not f.closing && (f.grant == g) then Answer.Entered else Answer.Lost f

-- a put at a drained region misses
abbrev pub put_answer : Bool → Answer
put_answer true = Answer.Missed
put_answer false = Answer.Done

-- what a look shows
abbrev pub shown : Option (ℕ × ℕ) → Answer
shown None = Answer.Empty
shown (Some entry) = Answer.Entry entry.0 entry.1

-- what r is answered to the verb after the history
abbrev pub answer_of : Config → ℕ → List Event → Verb → Answer
answer_of c r past (Verb.Ask p) = Answer.Done
answer_of c r past (Verb.Fence p) = Answer.Seen (fence p past)
answer_of c r past (Verb.Min p) = Answer.Number (region_min p past)
answer_of c r past (Verb.Enter p t) = entered_or_lost (noted_grant r p past) (fence p past)
answer_of c r past (Verb.PutMin p b) = put_answer (drained r p past)
answer_of c r past (Verb.Look p i) =
    if nat_lt (i + c.ring) (length (region_log p past)) then Answer.Past
    else shown (slice_get (region_log p past) i)
answer_of c r past (Verb.PutSlot p i b v) = put_answer (drained r p past)
answer_of c r past (Verb.Fuo p) = Answer.Number (region_fuo p past)
answer_of c r past (Verb.RaiseFuo p u) = Answer.Done
answer_of c r past (Verb.Head q) = Answer.Number (region_head q past)
answer_of c r past (Verb.ReadBeat q) = Answer.Number (beats q past)
answer_of c r past (Verb.WriteRow j k x) = Answer.Done
answer_of c r past (Verb.ReadRow v k) = Answer.Number (row_word v k past)
answer_of c r past (Verb.RaiseHead h) = Answer.Done
answer_of c r past Verb.Beat = Answer.Done
answer_of c r past (Verb.ReadAsk w) = Answer.Number (asks w r past)
answer_of c r past Verb.Close = Answer.Seen (fence r past)
answer_of c r past Verb.LookTarget = Answer.Done
answer_of c r past Verb.Drain = Answer.Done
answer_of c r past (Verb.Grant w) = Answer.Done
