-- known, commits, filled, written, read, applied: what a replica knows to be chosen and what it
-- committed itself; up to where it knows that logs are filled; the rows that it wrote and read; and
-- what it applied.
use Rattle.std.specs.Prelude.{Bool, List, None, Some, [], false, if◌then◌else◌, length, nat_lt, not, ℕ, ◌%◌, ◌&&◌, ◌++◌, ◌+◌, ◌/◌, ◌==◌, ◌||◌, ◌∷◌}
use Rattle.std.specs.declared.option.Option.{Option}
use Rattle.std.specs.List.{slice_get}
use Rattle.mu_model.specs.declared.config.Config.{Config}
use Rattle.mu_model.specs.declared.event.Answer.{Answer}
use Rattle.mu_model.specs.declared.event.Event.{Event}
use Rattle.mu_model.specs.declared.event.Verb.{Verb}
use Rattle.mu_model.specs.Contents.{is_batch, rest_of}
use Rattle.mu_model.specs.Histories.{all_below, greatest, has}
use Rattle.mu_model.specs.Leaderships.{has_quorum, is_member, is_over, leadership, proposal_number}

-- the step is `PutSlot(p, i, b, v)` of r, answered `Done`
abbrev pub is_put_done : ℕ → ℕ → ℕ → ℕ → ℕ → ℕ → Verb → Answer → Bool
is_put_done r p i b v by (Verb.PutSlot q j n w) Answer.Done =
    (by == r) && ((q == p) && ((j == i) && ((n == b) && (w == v))))
is_put_done r p i b v by _ _ = false

-- the event is such a step
abbrev pub lands_entry : ℕ → ℕ → ℕ → ℕ → ℕ → Event → Bool
lands_entry r p i b v e = is_put_done r p i b v e.by e.verb e.answer

-- b is the number, if there is one
abbrev pub is_number : Option ℕ → ℕ → Bool
is_number None b = false
is_number (Some n) b = n == b

-- every member has taken v at i under the number b in the leadership, which is not over, and the
-- members are a majority with r
abbrev pub is_accepted_by_all : Config → ℕ → List Event → ℕ → ℕ → ℕ → Bool
is_accepted_by_all c r past i b v =
    not (is_over r past)
    && (is_number (proposal_number r past) b
    && (has_quorum c r past
    && all_below c.replicas
    (λ p. not (is_member r p past) || has (lands_entry r p i b v) (leadership r past))))

-- the answer of a `Fuo(p)` of r
abbrev pub fuo_read : ℕ → ℕ → ℕ → Verb → Answer → Option ℕ
fuo_read r p by (Verb.Fuo q) (Answer.Number x) = if (by == r) && (q == p) then Some x else None
fuo_read r p by _ _ = None

-- the greatest FUO of p that r has read
abbrev pub greatest_fuo_read : ℕ → ℕ → List Event → ℕ
greatest_fuo_read r p past = greatest (λ e. fuo_read r p e.by e.verb e.answer) past

-- the step is a look of r at position i of region p that shows an entry
abbrev pub is_entry_seen : ℕ → ℕ → ℕ → ℕ → Verb → Answer → Bool
is_entry_seen r p i by (Verb.Look q j) (Answer.Entry b v) = (by == r) && ((q == p) && (j == i))
is_entry_seen r p i by _ _ = false

-- the event is such a look
abbrev pub entry_seen : ℕ → ℕ → ℕ → Event → Bool
entry_seen r p i e = is_entry_seen r p i e.by e.verb e.answer

-- what r sees at position i of region p is decided: a FUO of p above i was read, or p is r's own
-- region and its next slot was seen filled
abbrev pub is_known_decided : ℕ → List Event → ℕ → ℕ → Bool
is_known_decided r past p i =
    nat_lt i (greatest_fuo_read r p past) || ((p == r) && has (entry_seen r r (i + 1)) past)

-- the value that the step teaches: past came before it, and now is the history with it
abbrev pub learnt_by : Config → ℕ → List Event → ℕ → ℕ → Verb → Answer → List Event → Option ℕ
learnt_by c r past known_length by (Verb.PutSlot p i b v) Answer.Done now =
    if (by == r) && ((i == known_length) && is_accepted_by_all c r now i b v) then Some v else None
learnt_by c r past known_length by (Verb.Look p i) (Answer.Entry b v) now =
    if (by == r) && ((i == known_length) && is_known_decided r past p i) then Some v else None
learnt_by c r past known_length by _ _ now = None

-- the position and value that the step commits: r's own puts at all members have landed
abbrev pub committed : Config → ℕ → ℕ → ℕ → Verb → Answer → List Event → Option (ℕ × ℕ)
committed c r known_length by (Verb.PutSlot p i b v) Answer.Done now =
    if (by == r) && ((i == known_length) && is_accepted_by_all c r now i b v) then Some (i, v)
    else None
committed c r known_length by _ _ now = None

-- the list with one more value, if there is one
abbrev pub grown : {A : Type 0} → List A → Option A → List A
grown values None = values
grown values (Some v) = values ++ v ∷ []

-- the list of values that r knows, in order
abbrev pub known : Config → ℕ → List Event → List ℕ
known c r [] = []
known c r (e ∷ past) =
    grown (known c r past)
    (learnt_by c r past (length (known c r past)) e.by e.verb e.answer (e ∷ past))

-- the positions and values that r committed, in order
abbrev pub commits : Config → ℕ → List Event → List (ℕ × ℕ)
commits c r [] = []
commits c r (e ∷ past) =
    grown (commits c r past)
    (committed c r (length (known c r past)) e.by e.verb e.answer (e ∷ past))

-- the value, if there is one, is v
abbrev pub is_value : Option ℕ → ℕ → Bool
is_value None v = false
is_value (Some w) v = w == v

-- the step shows that position j of region p is filled: a FUO above it, a put of the known value, a
-- put that landed in the leadership that commits it, or r's own slot learnt
abbrev pub fills : Config → ℕ → ℕ → ℕ → List Event → ℕ → Verb → Answer → List Event → Bool
fills c r p j past by (Verb.Fuo q) (Answer.Number x) now = (by == r) && ((q == p) && nat_lt j x)
fills c r p j past by (Verb.PutSlot q i b v) Answer.Done now =
    (by == r)
    && (((q == p) && ((i == j) && is_value (slice_get (known c r past) j) v))
    || ((length (known c r past) == j)
    && ((length (known c r now) == j + 1) && has (lands_entry r p j b v) (leadership r now))))
fills c r p j past by (Verb.Look q i) (Answer.Entry b v) now =
    (by == r)
    && ((p == r)
    && ((q == r)
    && ((i == j) && ((length (known c r past) == j) && (length (known c r now) == j + 1)))))
fills c r p j past by _ _ now = false

-- r knows that position j of region p is filled
abbrev pub is_filled : Config → ℕ → ℕ → List Event → ℕ → Bool
is_filled c r p [] j = false
is_filled c r p (e ∷ past) j =
    fills c r p j past e.by e.verb e.answer (e ∷ past) || is_filled c r p past j

-- the step writes word k of row j of r
abbrev pub is_written : ℕ → ℕ → ℕ → ℕ → Verb → Bool
is_written r j k by (Verb.WriteRow row word x) = (by == r) && ((row == j) && (word == k))
is_written r j k by _ = false

-- r has written word k of its row j
abbrev pub wrote : ℕ → ℕ → ℕ → List Event → Bool
wrote r j k past = has (λ e. is_written r j k e.by e.verb) past

-- the step reads word k of the row of the payload number v
abbrev pub is_read : ℕ → ℕ → ℕ → ℕ → Verb → Bool
is_read r v k by (Verb.ReadRow w word) = (by == r) && ((w == v) && (word == k))
is_read r v k by _ = false

-- r has word k of the row of the payload number v: it wrote it as its own, or it read it under this
-- payload number
abbrev pub has_word : ℕ → ℕ → ℕ → List Event → Bool
has_word r v k past =
    ((v / 4096 == r) && wrote r (v % 4096) k past) || has (λ e. is_read r v k e.by e.verb) past

-- r has all twelve words of the row of the payload number v
abbrev pub has_row : ℕ → ℕ → List Event → Bool
has_row r v past = all_below 12 (λ k. has_word r v k past)

-- r has written all rows of the batch that begins with its row j
abbrev pub wrote_batch : Config → ℕ → ℕ → List Event → Bool
wrote_batch c r j past =
    all_below (rest_of c j + 1) (λ t. all_below 12 (λ k. wrote r (j + t) k past))

-- r has all rows of the entry v; a mark has no rows
abbrev pub has_entry : Config → ℕ → ℕ → List Event → Bool
has_entry c r v past =
    not (is_batch c v) || all_below (rest_of c (v % 4096) + 1) (λ t. has_row r (v + t) past)

-- the values before the first that fails
abbrev pub front : (ℕ → Bool) → List ℕ → List ℕ
front test [] = []
front test (v ∷ vs) = if test v then v ∷ front test vs else []

-- the entries before the first that r does not have in full
abbrev pub fetched_prefix : Config → ℕ → List Event → List ℕ → List ℕ
fetched_prefix c r past values = front (λ v. has_entry c r v past) values

-- the entries that r has applied: those known up to the first that it does not have in full
abbrev pub applied : Config → ℕ → List Event → List ℕ
applied c r past = fetched_prefix c r past (known c r past)
