-- point, met: what each point of what is allowed demands; what a verb needs, as a list of points
-- in a fixed order.
--
-- The comment on a list of points says what it means that all of them are met.
use Rattle.std.specs.Prelude.{Bool, List, None, Some, [], false, if◌then◌else◌, is_some, length, max, nat_le, nat_lt, not, suc, true, zero, ℕ, ◌%◌, ◌&&◌, ◌*◌, ◌++◌, ◌+◌, ◌-◌, ◌/◌, ◌<◌, ◌==◌, ◌^◌, ◌||◌, ◌∷◌, ◌≡◌, ◌≢◌, ◌≤◌, ◌⊎◌}
use Rattle.std.specs.declared.option.Option.{Option}
use Rattle.std.specs.List.{AllByRecursion, slice_get}
use Rattle.mu_model.specs.declared.config.Config.{Config}
use Rattle.mu_model.specs.declared.event.Event.{Event}
use Rattle.mu_model.specs.declared.event.Target.{Target}
use Rattle.mu_model.specs.declared.event.Verb.{Verb}
use Rattle.mu_model.specs.Contents.{client_of, command_count, config_word, is_batch, marked, number_of, rest_of, row_count}
use Rattle.mu_model.specs.Entering.{any_min_read, has_confirmed_majority, has_read_min, last_opened, min_read, number_allowed, open_target}
use Rattle.mu_model.specs.Histories.{all_below, greatest, has, newest, or_zero}
use Rattle.mu_model.specs.Knowledge.{applied, has_word, is_filled, is_value, known, wrote}
use Rattle.mu_model.specs.Leaderships.{has_begun, has_quorum, is_member, is_over, leadership, noted_grant, number_put, proposal_number}
use Rattle.mu_model.specs.Picks.{first_value, highest_accepted, is_fresh_batch, is_mark_offer, is_past_look, joined_since_first_put, last_look, look_answer}
use Rattle.mu_model.specs.Placing.{fuo_read_or_raised, is_caught_up_at, is_within_ring, looked_before_entering, reaches_head}
use Rattle.mu_model.specs.Regions.{fence_closing}
use Rattle.mu_model.specs.Room.{last_head, reserve}
use Rattle.mu_model.specs.Scores.{least_below}
use Rattle.mu_model.specs.Serving.{drained_since_close, has_unserved_ask, is_least_waiting, looked_since_close, must_drain}
use Rattle.mu_model.specs.declared.reason.Reason.{Reason}
use Rattle.mu_model.specs.declared.sentence.Value.{Value}
use Rattle.mu_model.specs.declared.wording.TheConstants.{BUDGET, NO_REPLICA, NO_REGION, OUT_OF_TURN, NOT_BEGUN, NOT_GRANTED, OVER, NO_TARGET, MINIMUM_UNREAD, UNCONFIRMED, NOT_MEMBER, NO_PLACE, NOT_ENTERED_FOR_MINIMUM, BELOW_MINIMUM, NOT_THE_OWN_NUMBER, NOT_THE_LEAST_NUMBER, NO_POSITION, NOT_READABLE, OUT_OF_REACH, NO_QUORUM, OTHER_NUMBER, NOT_ENTERED, NOT_LOOKED, BEHIND, NOT_NEXT, NO_ROOM, PAST_SEEN, OTHER_FIRST, JOINED_SINCE, MEMBER_NOT_LOOKED, OTHER_ACCEPTED, NO_BATCH, NOT_OWN, NOT_WRITTEN, NOT_NEXT_OF_CLIENT, NOT_KNOWN, NOT_FILLED, OWN_BEAT, NO_ROW, NO_WORD, OTHER_WORD, WRITTEN, NO_WRITER, NO_ROW_WORD, NOT_APPLIED, NOT_REACHED, CLOSING, NOBODY_WAITS, NOTHING_TO_DRAIN, TARGET_LOOKED, TARGET_NOT_LOOKED, DRAINED, NOT_CLOSING, NOT_DRAINED, NOT_LEAST_WAITING}

-- the region that the step of r asks
abbrev pub last_ask : ℕ → ℕ → Verb → Option ℕ
last_ask r by (Verb.Ask p) = if by == r then Some p else None
last_ask r by _ = None

-- after `past` r meets a point of what is allowed; the reason is what is told if it doesn't
abbrev pub IsMet : Config → ℕ → List Event → Reason → Type 0
IsMet c r past (Reason.Budget steps) = length past < c.budget
IsMet c r past (Reason.NoReplica q) = r < c.replicas
IsMet c r past (Reason.NoRegion p) = p < c.replicas
IsMet c r past (Reason.OutOfTurn p asked) =
    (p ≡ 0)
    ⊎ ((has_begun r past ≡ true) × (newest (λ e. last_ask r e.by e.verb) past ≡ Some (p - 1)))
IsMet c r past Reason.NotBegun = has_begun r past ≡ true
IsMet c r past (Reason.NotGranted p) = is_some (noted_grant r p past) ≡ true
IsMet c r past Reason.Over = is_over r past ≡ false
IsMet c r past Reason.NoTarget = ⊥
IsMet c r past (Reason.MinimumUnread p) = has_read_min r p past ≡ true
IsMet c r past Reason.Unconfirmed =
    proposal_number r past ≡ None → has_confirmed_majority c r past ≡ true
IsMet c r past (Reason.NotMember p) = is_member r p past ≡ true
IsMet c r past (Reason.NoPlace s) = s < c.ring
IsMet c r past (Reason.NotEnteredForMinimum p entered) = open_target r p past ≡ Some Target.Min
IsMet c r past (Reason.BelowMinimum b minimum) = minimum ≤ b
IsMet c r past (Reason.NotTheNumber b own read put right) =
    number_allowed r past b (proposal_number r past)
IsMet c r past (Reason.NoPosition i last) = i ≤ row_count c + reserve c
IsMet c r past (Reason.NotReadable p) = (p ≡ r) ⊎ (is_some (noted_grant r p past) ≡ true)
IsMet c r past (Reason.OutOfReach p i) =
    c.version ≡ 2
    → has (λ e. is_within_ring i c.ring (fuo_read_or_raised r p e.by e.verb e.answer))
    (leadership r past)
    ≡ true
IsMet c r past Reason.NoQuorum = has_quorum c r past ≡ true
IsMet c r past (Reason.OtherNumber b own) = proposal_number r past ≡ Some b
IsMet c r past (Reason.NotEntered p s entered) = last_opened r p past ≡ Some (Target.Place s)
IsMet c r past (Reason.NotLooked p i) = looked_before_entering c r p i past ≡ true
IsMet c r past (Reason.Behind p j) = is_caught_up_at c r p past j ≡ true
IsMet c r past (Reason.NotNext i count) = i ≡ count
IsMet c r past (Reason.NoRoom i free q head) =
    (marked c q (known c r past) || nat_lt (i + free) (head + c.ring)) ≡ true
IsMet c r past (Reason.PastSeen p i) =
    not
    (is_member r p past
    && has (λ e. is_past_look (look_answer r p i e.by e.verb e.answer)) (leadership r past))
    ≡ true
IsMet c r past (Reason.OtherFirst i v first) = v ≡ first
IsMet c r past (Reason.JoinedSince i) = joined_since_first_put r i past ≡ false
IsMet c r past (Reason.MemberNotLooked p i) =
    (not (is_member r p past) || is_some (last_look r p i past)) ≡ true
IsMet c r past (Reason.OtherAccepted i v number value) = value ≡ v
IsMet c r past (Reason.NoBatch v) = is_batch c v ≡ true
IsMet c r past (Reason.NotOwn v) = v / 4096 ≡ r
IsMet c r past (Reason.NotWritten v j k) = wrote r j k past ≡ true
IsMet c r past (Reason.NotNextOfClient v number count) = number ≡ count + 1
IsMet c r past (Reason.NotKnown u count) = u ≤ count
IsMet c r past (Reason.NotFilled p j) = is_filled c r p past j ≡ true
IsMet c r past (Reason.OwnBeat q) = q ≢ r
IsMet c r past (Reason.NoRow j) = j < row_count c
IsMet c r past (Reason.NoWord k) = k < 12
IsMet c r past (Reason.OtherWord j k given spelled client number) = given ≡ spelled
IsMet c r past (Reason.Written j k) = wrote r j k past ≡ false
IsMet c r past (Reason.NoWriter v) = v / 4096 < c.replicas
IsMet c r past (Reason.NoRowWord h count v k) = has_word r v k past ≡ true
IsMet c r past (Reason.NotApplied h count) = h ≤ count
IsMet c r past (Reason.NotReached h) =
    has (λ e. reaches_head h (fuo_read_or_raised r r e.by e.verb e.answer)) past ≡ true
IsMet c r past Reason.Closing = fence_closing r past ≡ false
IsMet c r past Reason.NobodyWaits =
    all_below c.replicas (λ w. not (has_unserved_ask r past w)) ≡ false
IsMet c r past Reason.NothingToDrain = must_drain r past ≡ true
IsMet c r past Reason.TargetLooked = looked_since_close r past ≡ false
IsMet c r past Reason.TargetNotLooked = looked_since_close r past ≡ true
IsMet c r past Reason.Drained = drained_since_close r past ≡ false
IsMet c r past Reason.NotClosing = fence_closing r past ≡ true
IsMet c r past Reason.NotDrained = must_drain r past ≡ true → drained_since_close r past ≡ true
IsMet c r past (Reason.NotLeastWaiting w least) = is_least_waiting r past w ≡ true

-- what is said of a point that isn't met: words with a # for each value, and the values
abbrev pub told_of : Reason → List ℕ × List Value
told_of (Reason.Budget steps) = (BUDGET.now, Value.Wide steps ∷ [])
told_of (Reason.NoReplica replica) = (NO_REPLICA.now, Value.Byte replica ∷ [])
told_of (Reason.NoRegion region) = (NO_REGION.now, Value.Byte region ∷ [])
told_of (Reason.OutOfTurn region asked) =
    (OUT_OF_TURN.now, Value.Byte region ∷ Value.Region asked ∷ [])
told_of Reason.NotBegun = (NOT_BEGUN.now, [])
told_of (Reason.NotGranted region) = (NOT_GRANTED.now, Value.Byte region ∷ [])
told_of Reason.Over = (OVER.now, [])
told_of Reason.NoTarget = (NO_TARGET.now, [])
told_of (Reason.MinimumUnread region) = (MINIMUM_UNREAD.now, Value.Byte region ∷ [])
told_of Reason.Unconfirmed = (UNCONFIRMED.now, [])
told_of (Reason.NotMember region) = (NOT_MEMBER.now, Value.Byte region ∷ [])
told_of (Reason.NoPlace place) = (NO_PLACE.now, Value.Short place ∷ [])
told_of (Reason.NotEnteredForMinimum region entered) =
    (NOT_ENTERED_FOR_MINIMUM.now, Value.Byte region ∷ Value.Entered entered ∷ [])
told_of (Reason.BelowMinimum number minimum) =
    (BELOW_MINIMUM.now, Value.Wide number ∷ Value.Long minimum ∷ [])
told_of (Reason.NotTheNumber number (Some own) read put right) =
    (NOT_THE_OWN_NUMBER.now, Value.Wide number ∷ Value.Own right ∷ [])
told_of (Reason.NotTheNumber number None read put right) = (
  NOT_THE_LEAST_NUMBER.now,
  Value.Wide number ∷ Value.Own right ∷ Value.Long read ∷ Value.Wide put ∷ [],
)
told_of (Reason.NoPosition position last) =
    (NO_POSITION.now, Value.Short position ∷ Value.Count last ∷ [])
told_of (Reason.NotReadable region) = (NOT_READABLE.now, Value.Byte region ∷ [])
told_of (Reason.OutOfReach region position) =
    (OUT_OF_REACH.now, Value.Byte region ∷ Value.Short position ∷ [])
told_of Reason.NoQuorum = (NO_QUORUM.now, [])
told_of (Reason.OtherNumber number own) =
    (OTHER_NUMBER.now, Value.Wide number ∷ Value.Own own ∷ [])
told_of (Reason.NotEntered region place entered) =
    (NOT_ENTERED.now, Value.Byte region ∷ Value.Short place ∷ Value.Entered entered ∷ [])
told_of (Reason.NotLooked region position) =
    (NOT_LOOKED.now, Value.Short position ∷ Value.Byte region ∷ [])
told_of (Reason.Behind region position) =
    (BEHIND.now, Value.Byte region ∷ Value.Short position ∷ [])
told_of (Reason.NotNext position count) =
    (NOT_NEXT.now, Value.Short position ∷ Value.Count count ∷ [])
told_of (Reason.NoRoom position free replica head) = (
  NO_ROOM.now,
  Value.Short position ∷ Value.Byte free ∷ Value.Byte replica ∷ Value.Long head ∷ [],
)
told_of (Reason.PastSeen region position) =
    (PAST_SEEN.now, Value.Short position ∷ Value.Byte region ∷ [])
told_of (Reason.OtherFirst position value first) =
    (OTHER_FIRST.now, Value.Short value ∷ Value.Short position ∷ Value.Short first ∷ [])
told_of (Reason.JoinedSince position) = (JOINED_SINCE.now, Value.Short position ∷ [])
told_of (Reason.MemberNotLooked region position) =
    (MEMBER_NOT_LOOKED.now, Value.Byte region ∷ Value.Short position ∷ [])
told_of (Reason.OtherAccepted position value number accepted) = (
  OTHER_ACCEPTED.now,
  Value.Short value ∷ Value.Short position ∷ Value.Wide number ∷ Value.Short accepted ∷ [],
)
told_of (Reason.NoBatch value) = (NO_BATCH.now, Value.Short value ∷ [])
told_of (Reason.NotOwn value) = (NOT_OWN.now, Value.Short value ∷ [])
told_of (Reason.NotWritten value row word) =
    (NOT_WRITTEN.now, Value.Byte word ∷ Value.Short row ∷ Value.Short value ∷ [])
told_of (Reason.NotNextOfClient value number count) =
    (NOT_NEXT_OF_CLIENT.now, Value.Short value ∷ Value.Short number ∷ Value.Short count ∷ [])
told_of (Reason.NotKnown fuo count) = (NOT_KNOWN.now, Value.Count count ∷ Value.Short fuo ∷ [])
told_of (Reason.NotFilled region position) =
    (NOT_FILLED.now, Value.Short position ∷ Value.Byte region ∷ [])
told_of (Reason.OwnBeat replica) = (OWN_BEAT.now, Value.Byte replica ∷ [])
told_of (Reason.NoRow row) = (NO_ROW.now, Value.Short row ∷ [])
told_of (Reason.NoWord word) = (NO_WORD.now, Value.Byte word ∷ [])
told_of (Reason.OtherWord row word given spelled client number) = (
  OTHER_WORD.now,
  Value.Byte word ∷ Value.Short row ∷ Value.Byte client ∷ Value.Short number
      ∷ Value.Long spelled ∷ Value.Long given ∷ [],
)
told_of (Reason.Written row word) = (WRITTEN.now, Value.Byte word ∷ Value.Short row ∷ [])
told_of (Reason.NoWriter value) = (NO_WRITER.now, Value.Short value ∷ [])
told_of (Reason.NoRowWord head count value word) = (
  NO_ROW_WORD.now,
  Value.Count count ∷ Value.Short head ∷ Value.Byte word ∷ Value.Short value ∷ [],
)
told_of (Reason.NotApplied head count) =
    (NOT_APPLIED.now, Value.Count count ∷ Value.Short head ∷ [])
told_of (Reason.NotReached head) = (NOT_REACHED.now, Value.Short head ∷ [])
told_of Reason.Closing = (CLOSING.now, [])
told_of Reason.NobodyWaits = (NOBODY_WAITS.now, [])
told_of Reason.NothingToDrain = (NOTHING_TO_DRAIN.now, [])
told_of Reason.TargetLooked = (TARGET_LOOKED.now, [])
told_of Reason.TargetNotLooked = (TARGET_NOT_LOOKED.now, [])
told_of Reason.Drained = (DRAINED.now, [])
told_of Reason.NotClosing = (NOT_CLOSING.now, [])
told_of Reason.NotDrained = (NOT_DRAINED.now, [])
told_of (Reason.NotLeastWaiting replica least) =
    (NOT_LEAST_WAITING.now, Value.Byte replica ∷ Value.Region least ∷ [])

-- the reasons of each number below n, from 0 on
abbrev pub each_below : ℕ → (ℕ → List Reason) → List Reason
each_below zero of_each = []
each_below (suc n) of_each = each_below n of_each ++ of_each n

-- the number, if it is below the limit
abbrev pub if_below : ℕ → ℕ → Option ℕ
if_below limit n = if nat_lt n limit then Some n else None

-- the least number below n that passes, if any does
abbrev pub first_below : ℕ → (ℕ → Bool) → Option ℕ
first_below n test = if_below n (least_below n test)

-- the last position of a log
abbrev pub last_position : Config → ℕ
last_position c = row_count c + reserve c

-- the least number above this that is r modulo 8, from 8 on
abbrev pub least_number : ℕ → ℕ → ℕ
least_number r above =
    if nat_lt 7 above && nat_lt above (above / 8 * 8 + r) then above / 8 * 8 + r
    else above / 8 * 8 + r + 8

-- the greatest of the minimums that r read in its leadership and of the numbers that it ever put
abbrev pub greatest_used : ℕ → List Event → ℕ
greatest_used r past =
    max (greatest (λ e. any_min_read r e.by e.verb e.answer) (leadership r past))
    (greatest (λ e. number_put r e.by e.verb) past)

-- the number, if it has 32 bits
abbrev pub of_32_bits : ℕ → Option ℕ
of_32_bits n = if_below (2 ^ 32) n

-- the number to put: that of the leadership, or the least above this that a new one may take
abbrev pub right_number : ℕ → ℕ → Option ℕ → Option ℕ
right_number r above (Some own) = Some own
right_number r above None = of_32_bits (least_number r above)

-- x is word k of row j as the job spells it; the reason also tells client and number of the row's
-- command
abbrev pub spelled_word : Config → ℕ → ℕ → ℕ → Reason
spelled_word c j k x =
    Reason.OtherWord j k x (config_word c j k) (client_of c j) (number_of c j)

-- no member was seen past position i in the leadership
abbrev pub clear_members : Config → ℕ → List Reason
clear_members c i = each_below c.replicas (λ p. Reason.PastSeen p i ∷ [])

-- r has written all words of its row j, which the value v needs
abbrev pub row_written : ℕ → ℕ → List Reason
row_written v j = each_below 12 (λ k. Reason.NotWritten v j k ∷ [])

-- r has written all rows of the batch v
abbrev pub batch_written : Config → ℕ → List Reason
batch_written c v =
    each_below (rest_of c (v % 4096) + 1) (λ t. row_written v (v % 4096 + t))

-- r has all words of the row of v, which a head h above `count` applied entries needs
abbrev pub row_there : ℕ → ℕ → ℕ → List Reason
row_there h count v = each_below 12 (λ k. Reason.NoRowWord h count v k ∷ [])

-- r has the rows of the entry, if one is known and it is a batch
abbrev pub entry_there : Config → ℕ → ℕ → Option ℕ → List Reason
entry_there c h count None = []
entry_there c h count (Some v) =
    if is_batch c v then each_below (rest_of c (v % 4096) + 1) (λ t. row_there h count (v + t))
    else []

-- h entries are applied: if only `count` are, the points name what the next one lacks
abbrev pub applied_to : Config → ℕ → List Event → ℕ → ℕ → List Reason
applied_to c r past h count =
    if nat_le h count then []
    else (entry_there c h count (slice_get (known c r past) count)
    ++ Reason.NotApplied h count ∷ [])

-- the head of each replica that isn't marked leaves room for position i and for `free` more
abbrev pub rooms : Config → ℕ → List Event → ℕ → ℕ → List Reason
rooms c r past i free =
    each_below c.replicas (λ q. Reason.NoRoom i free q (last_head r q past) ∷ [])

-- if v is a fresh batch, the heads leave room for position i and for the whole reserve
abbrev pub reserved_rooms : Config → ℕ → List Event → ℕ → ℕ → List Reason
reserved_rooms c r past i v =
    if is_fresh_batch c r past i v then rooms c r past i (reserve c) else []

-- v, if it is a batch, is one of r's own, is written in full, and is the next of its client
abbrev pub later_points : Config → ℕ → List Event → ℕ → List Reason
later_points c r past v =
    Reason.NotOwn v
    ∷
    (batch_written c v
    ++ Reason.NotNextOfClient v (number_of c (v % 4096))
    (command_count c (client_of c (v % 4096)) (known c r past))
    ∷ [])

-- v is a batch of r's own that is written in full, and the next of its client
abbrev pub batch_points : Config → ℕ → List Event → ℕ → List Reason
batch_points c r past v = Reason.NoBatch v ∷ later_points c r past v

-- v is a mark that r may offer, or a batch that meets the points of one
abbrev pub offers : Config → ℕ → List Event → ℕ → List Reason
offers c r past v = if is_mark_offer c r past v then [] else batch_points c r past v

-- v is the value of the entry of the largest number that the looks show; if they show none, r may
-- offer v
abbrev pub picks : Config → ℕ → List Event → ℕ → ℕ → Option (ℕ × ℕ) → List Reason
picks c r past i v (Some entry) = Reason.OtherAccepted i v entry.0 entry.1 ∷ []
picks c r past i v None = offers c r past v

-- v is the value of the first put at i, and no region joined since; if none was made, r looked at
-- all members, and may pick v
abbrev pub proposals : Config → ℕ → List Event → ℕ → ℕ → Option ℕ → List Reason
proposals c r past i v (Some first) = Reason.OtherFirst i v first ∷ Reason.JoinedSince i ∷ []
proposals c r past i v None =
    each_below c.replicas (λ p. Reason.MemberNotLooked p i ∷ [])
    ++ picks c r past i v (highest_accepted r i past c.replicas)

-- v may be put at the new position i
abbrev pub new_values : Config → ℕ → List Event → ℕ → ℕ → List Reason
new_values c r past i v =
    Reason.NotNext i (length (known c r past))
    ∷
    (rooms c r past i 0
    ++ (reserved_rooms c r past i v
    ++ (clear_members c i ++ proposals c r past i v (first_value r i past))))

-- v is known at i, or may be put there as new
abbrev pub values : Config → ℕ → List Event → ℕ → ℕ → List Reason
values c r past i v =
    if is_value (slice_get (known c r past) i) v then [] else new_values c r past i v

-- r leads a quorum under the number b, and has entered its member p, which reaches i, for the place
-- of i, after a look at i
abbrev pub puts : Config → ℕ → List Event → ℕ → ℕ → ℕ → List Reason
puts c r past p i b =
    Reason.OutOfReach p i ∷ Reason.Over ∷ Reason.NoQuorum ∷ Reason.NotMember p
    ∷ Reason.OtherNumber b (proposal_number r past)
    ∷ Reason.NotEntered p (i % c.ring) (last_opened r p past)
    ∷ Reason.NotLooked p i
    ∷ []

-- r may enter p with the target
abbrev pub enters : ℕ → Target → List Reason
enters p Target.None = Reason.NoTarget ∷ []
enters p Target.Min =
    Reason.NotGranted p ∷ Reason.Over ∷ Reason.MinimumUnread p ∷ Reason.Unconfirmed ∷ []
enters p (Target.Place s) = Reason.NotMember p ∷ Reason.Over ∷ Reason.NoPlace s ∷ []

-- what the verb needs, point by point in this order
abbrev pub needs : Config → ℕ → List Event → Verb → List Reason
needs c r past (Verb.Ask p) =
    Reason.NoRegion p ∷ Reason.OutOfTurn p (newest (λ e. last_ask r e.by e.verb) past) ∷ []
needs c r past (Verb.Fence p) = Reason.NoRegion p ∷ Reason.NotBegun ∷ []
needs c r past (Verb.Min p) = Reason.NoRegion p ∷ Reason.NotGranted p ∷ Reason.Over ∷ []
needs c r past (Verb.Enter p t) = Reason.NoRegion p ∷ enters p t
needs c r past (Verb.PutMin p b) =
    Reason.NoRegion p ∷ Reason.Over ∷ Reason.NotEnteredForMinimum p (open_target r p past)
    ∷ Reason.BelowMinimum b (or_zero (newest (λ e. min_read r p e.by e.verb e.answer) past))
    ∷ Reason.NotTheNumber b (proposal_number r past)
    (greatest (λ e. any_min_read r e.by e.verb e.answer) (leadership r past))
    (greatest (λ e. number_put r e.by e.verb) past)
    (right_number r (greatest_used r past) (proposal_number r past))
    ∷ []
needs c r past (Verb.Look p i) =
    Reason.NoRegion p ∷ Reason.NoPosition i (last_position c) ∷ Reason.NotReadable p ∷ []
needs c r past (Verb.PutSlot p i b v) =
    Reason.NoRegion p ∷ Reason.NoPosition i (last_position c)
    ∷
    (puts c r past p i b ++ (each_below i (λ j. Reason.Behind p j ∷ []) ++ values c r past i v))
needs c r past (Verb.Fuo p) = Reason.NoRegion p ∷ []
needs c r past (Verb.RaiseFuo p u) =
    Reason.NoRegion p ∷ Reason.NotKnown u (length (known c r past))
    ∷ each_below u (λ j. Reason.NotFilled p j ∷ [])
needs c r past (Verb.Head q) = Reason.NoRegion q ∷ []
needs c r past (Verb.ReadBeat q) =
    Reason.NoRegion q ∷ Reason.OwnBeat q ∷ []
needs c r past (Verb.WriteRow j k x) =
    Reason.NoRow j ∷ Reason.NoWord k ∷ spelled_word c j k x ∷ Reason.Written j k ∷ []
needs c r past (Verb.ReadRow v k) =
    Reason.NoWriter v ∷ Reason.NoRow (v % 4096) ∷ Reason.NoWord k ∷ []
needs c r past (Verb.RaiseHead h) =
    applied_to c r past h (length (applied c r past)) ++ Reason.NotReached h ∷ []
needs c r past Verb.Beat = []
needs c r past (Verb.ReadAsk w) = Reason.NoRegion w ∷ []
needs c r past Verb.Close = Reason.Closing ∷ Reason.NobodyWaits ∷ []
needs c r past Verb.LookTarget = Reason.NothingToDrain ∷ Reason.TargetLooked ∷ []
needs c r past Verb.Drain =
    Reason.NothingToDrain ∷ Reason.TargetNotLooked ∷ Reason.Drained ∷ []
needs c r past (Verb.Grant w) =
    Reason.NoRegion w ∷ Reason.NotClosing ∷ Reason.NotDrained
    ∷ Reason.NotLeastWaiting w (first_below c.replicas (has_unserved_ask r past))
    ∷ []

-- there is the replica r, and a step is left
abbrev pub bounds : ℕ → List Event → List Reason
bounds r past = Reason.NoReplica r ∷ Reason.Budget (length past) ∷ []

-- the points that the verb has to meet, in the order in which they are told
abbrev pub points : Config → ℕ → List Event → Verb → List Reason
points c r past verb = bounds r past ++ needs c r past verb

-- all of these points are met
abbrev pub AreMet : Config → ℕ → List Event → List Reason → Type 0
AreMet c r past reasons = AllByRecursion (IsMet c r past) reasons
