-- region, fence: what a history leaves of a region: its fence (owner, grant, closing and target),
-- minimum, log, first undecided offset (FUO), head, beat and asks; and the row words of a replica.
use Rattle.std.specs.Prelude.{Bool, List, None, Some, [], false, if◌then◌else◌, length, set, ℕ, ◌%◌, ◌&&◌, ◌++◌, ◌/◌, ◌==◌, ◌∷◌}
use Rattle.std.specs.declared.option.Option.{Option}
use Rattle.mu_model.specs.declared.event.Answer.{Answer}
use Rattle.mu_model.specs.declared.event.Event.{Event}
use Rattle.mu_model.specs.declared.event.Fence.{Fence}
use Rattle.mu_model.specs.declared.event.Target.{Target}
use Rattle.mu_model.specs.declared.event.Verb.{Verb}
use Rattle.mu_model.specs.Histories.{greatest, has, how_many, newest, or_zero, since}

-- the replica to which the step grants, if it is a `Grant` of p
abbrev pub granted_by : ℕ → ℕ → Verb → Option ℕ
granted_by p by (Verb.Grant w) = if by == p then Some w else None
granted_by p by _ = None

-- the step is a `Grant` of p
abbrev pub is_grant_by : ℕ → ℕ → Verb → Bool
is_grant_by p by (Verb.Grant w) = by == p
is_grant_by p by _ = false

-- the step is a `Close` of p
abbrev pub is_close_by : ℕ → ℕ → Verb → Bool
is_close_by p by Verb.Close = by == p
is_close_by p by _ = false

-- the step is a `Drain` of p
abbrev pub is_drain_by : ℕ → ℕ → Verb → Bool
is_drain_by p by Verb.Drain = by == p
is_drain_by p by _ = false

-- the event is a `Grant` of p
abbrev pub is_grant_of : ℕ → Event → Bool
is_grant_of p e = is_grant_by p e.by e.verb

-- the event is a `Close` of p
abbrev pub is_close_of : ℕ → Event → Bool
is_close_of p e = is_close_by p e.by e.verb

-- the event is a `Drain` of p
abbrev pub is_drain_of : ℕ → Event → Bool
is_drain_of p e = is_drain_by p e.by e.verb

-- the target of an `Enter` at p that was answered `Entered`
abbrev pub target_entered : ℕ → Verb → Answer → Option Target
target_entered p (Verb.Enter q t) Answer.Entered = if q == p then Some t else None
target_entered p _ _ = None

-- the target, if there is one
abbrev pub or_no_target : Option Target → Target
or_no_target None = Target.None
or_no_target (Some t) = t

-- the owner of p: the replica that its last `Grant` names
abbrev pub fence_owner : ℕ → List Event → Option ℕ
fence_owner p past = newest (λ e. granted_by p e.by e.verb) past

-- the grant of p: how often it was granted
abbrev pub fence_grant : ℕ → List Event → ℕ
fence_grant p past = how_many (is_grant_of p) past

-- p is closing: a `Close` came after its last `Grant`
abbrev pub fence_closing : ℕ → List Event → Bool
fence_closing p past = has (is_close_of p) (since (is_grant_of p) past)

-- the target of p: that of the last `Enter` answered `Entered` since the last `Grant`
abbrev pub fence_target : ℕ → List Event → Target
fence_target p past =
    or_no_target (newest (λ e. target_entered p e.verb e.answer) (since (is_grant_of p) past))

-- the fence of p
abbrev pub fence : ℕ → List Event → Fence
fence p past =
    record {
      owner = fence_owner p past;
      grant = fence_grant p past;
      closing = fence_closing p past;
      target = fence_target p past;
    }

-- a log after one step: a put at p that landed sets its position, or lengthens the log by one
abbrev pub log_with : ℕ → Verb → Answer → List (ℕ × ℕ) → List (ℕ × ℕ)
log_with p (Verb.PutSlot q i b v) Answer.Done log =
    if q == p then (if i == length log then log ++ (b, v) ∷ [] else set log i (b, v)) else log
log_with p _ _ log = log

-- the entries of the region p: number and value, by position
abbrev pub region_log : ℕ → List Event → List (ℕ × ℕ)
region_log p [] = []
region_log p (e ∷ past) = log_with p e.verb e.answer (region_log p past)

-- the number that the step puts into the minimum of p, if it landed
abbrev pub min_landed : ℕ → Verb → Answer → Option ℕ
min_landed p (Verb.PutMin q b) Answer.Done = if q == p then Some b else None
min_landed p _ _ = None

-- the minimum of p: the last that landed
abbrev pub region_min : ℕ → List Event → ℕ
region_min p past = or_zero (newest (λ e. min_landed p e.verb e.answer) past)

-- the offset that the step raises the FUO of p to
abbrev pub fuo_raised : ℕ → Verb → Option ℕ
fuo_raised p (Verb.RaiseFuo q u) = if q == p then Some u else None
fuo_raised p _ = None

-- the FUO of p: the greatest that it was raised to
abbrev pub region_fuo : ℕ → List Event → ℕ
region_fuo p past = greatest (λ e. fuo_raised p e.verb) past

-- the offset that the step raises the head of p to
abbrev pub head_raised : ℕ → ℕ → Verb → Option ℕ
head_raised p by (Verb.RaiseHead h) = if by == p then Some h else None
head_raised p by _ = None

-- the head of p: the greatest that it was raised to
abbrev pub region_head : ℕ → List Event → ℕ
region_head p past = greatest (λ e. head_raised p e.by e.verb) past

-- the step is a `Beat` of q
abbrev pub is_beat_by : ℕ → ℕ → Verb → Bool
is_beat_by q by Verb.Beat = by == q
is_beat_by q by _ = false

-- how often q has beaten
abbrev pub beats : ℕ → List Event → ℕ
beats q past = how_many (λ e. is_beat_by q e.by e.verb) past

-- the step is an `Ask(p)` of w
abbrev pub is_ask_by : ℕ → ℕ → ℕ → Verb → Bool
is_ask_by w p by (Verb.Ask q) = (by == w) && (q == p)
is_ask_by w p by _ = false

-- how often w asked for p
abbrev pub asks : ℕ → ℕ → List Event → ℕ
asks w p past = how_many (λ e. is_ask_by w p e.by e.verb) past

-- what the step writes into word k of row j of replica r
abbrev pub word_written : ℕ → ℕ → ℕ → ℕ → Verb → Option ℕ
word_written r j k by (Verb.WriteRow row word x) =
    if (by == r) && ((row == j) && (word == k)) then Some x else None
word_written r j k by _ = None

-- word k of the row of the payload number v
abbrev pub row_word : ℕ → ℕ → List Event → ℕ
row_word v k past = or_zero (newest (λ e. word_written (v / 4096) (v % 4096) k e.by e.verb) past)
