-- laws of parts: the laws of agreement as one replica needs them, by its own events only.
use Rattle.std.specs.Prelude.{List, None, Some, [], false, if◌then◌else◌, length, true, ℕ, ◌%◌, ◌++◌, ◌+◌, ◌<◌, ◌∷◌, ◌≡◌, ◌≢◌, ◌≤◌, ◌⊎◌}
use Rattle.std.specs.List.{slice_get}
use Rattle.std.specs.declared.option.Option.{Option}
use Rattle.mu_model.specs.declared.config.Config.{Config}
use Rattle.mu_model.specs.declared.event.Answer.{Answer}
use Rattle.mu_model.specs.declared.event.Event.{Event}
use Rattle.mu_model.specs.declared.event.Fence.{Fence}
use Rattle.mu_model.specs.declared.event.Verb.{Verb}
use Rattle.mu_agree.specs.Agreement.{fuo_under, put_end}
use Rattle.mu_model.specs.Allowed.{Allowed}
use Rattle.mu_model.specs.Answers.{is_enter_of}
use Rattle.mu_model.specs.Contents.{IsConfig, IsInSession, StandsForEntry, begins_batch, client_of, command_count, config_word, holds_all, is_batch, is_mark, marked, number_of, rest_of, row_count}
use Rattle.mu_model.specs.Knowledge.{entry_seen, greatest_fuo_read, known}
use Rattle.mu_model.specs.Entering.{any_min_read}
use Rattle.mu_model.specs.Histories.{greatest, has}
use Rattle.mu_model.specs.Leaderships.{leadership, noted_grant, number_put}
use Rattle.mu_model.specs.Parts.{IsPossible}
use Rattle.mu_model.specs.Picks.{is_past_look, look_answer}
use Rattle.mu_model.specs.Room.{last_head, reserve}
use Rattle.mu_model.specs.Scores.{is_failed}
use Rattle.mu_model.specs.Steps.{is_missed_at}

-- what came before the last event is possible, and the event was allowed after it
pub record CameBy (c : Config) (r : ℕ) (mine : List Event) (e : Event) : Type 0 where
  pub before : IsPossible c r mine
  pub by_own : e.by ≡ r
  pub allowed : Allowed c r mine e.verb

-- what came before the last event of a possible part is possible, and the event was allowed
abbrev pub PartsShorten : Type 0
PartsShorten =
    (c : Config) (r : ℕ) (mine : List Event) (e : Event) → IsPossible c r (e ∷ mine)
    → CameBy c r mine e

-- what a possible part knows is in session
abbrev pub PartsInSession : Type 0
PartsInSession =
    (c : Config) (r : ℕ) (mine : List Event) → IsConfig c → IsPossible c r mine
    → IsInSession c (known c r mine)

-- each entry that a possible part knows stands for a batch or a mark
abbrev pub PartEntriesStand : Type 0
PartEntriesStand =
    (c : Config) (r i v : ℕ) (mine : List Event) → IsPossible c r mine
    → slice_get (known c r mine) i ≡ Some v → StandsForEntry c v

-- a possible part knows at most one mark of each replica
abbrev pub PartsMarkOnce : Type 0
PartsMarkOnce =
    (c : Config) (r q i j v w : ℕ) (mine : List Event) → IsConfig c → IsPossible c r mine
    → slice_get (known c r mine) i ≡ Some v → slice_get (known c r mine) j ≡ Some w
    → is_mark c q v ≡ true → is_mark c q w ≡ true → i ≡ j

-- a row of a known entry reads as the configuration has it
abbrev pub PartRowsReadRight : Type 0
PartRowsReadRight =
    (c : Config) (r i v t k : ℕ) (mine : List Event) (e : Event) → IsConfig c
    → IsPossible c r (e ∷ mine) → slice_get (known c r mine) i ≡ Some v → is_batch c v ≡ true
    → t ≤ rest_of c (v % 4096) → k < 12 → e.verb ≡ Verb.ReadRow (v + t) k
    → e.answer ≡ Answer.Number (config_word c (v % 4096 + t) k)

-- a look below a FUO that was read finds an entry, or places that are used again
abbrev pub PartLooksFind : Type 0
PartLooksFind =
    (c : Config) (r p i : ℕ) (mine : List Event) (e : Event) → IsPossible c r (e ∷ mine)
    → e.verb ≡ Verb.Look p i → i < greatest_fuo_read r p mine → e.answer ≢ Answer.Empty

-- in version 2 only, a look at what isn't known is `Past`
abbrev pub PartLooksAreKept : Type 0
PartLooksAreKept =
    (c : Config) (r p i : ℕ) (mine : List Event) (e : Event) → IsPossible c r (e ∷ mine)
    → e.verb ≡ Verb.Look p i → length (known c r mine) ≤ i → e.answer ≡ Answer.Past → c.version ≡ 2

-- after a `Past` look at what r still has to bring to p, each fence of p shows another grant
abbrev pub PartGrantsMove : Type 0
PartGrantsMove =
    (c : Config) (r p j g u : ℕ) (mine between : List Event) (e f : Event) (x : Fence)
    → IsPossible c r (f ∷ (between ++ e ∷ mine)) → p < c.replicas → e.verb ≡ Verb.Look p j
    → e.answer ≡ Answer.Past
    → noted_grant r p mine ≡ Some g → fuo_under r p g (leadership r mine) ≡ Some u → u ≤ j
    → put_end r p (leadership r mine) ≤ j + c.ring
    → f.verb ≡ Verb.Fence p → f.answer ≡ Answer.Seen x → x.grant ≢ g

-- while some command isn't known, there is a position for it
abbrev pub PartPositionsSuffice : Type 0
PartPositionsSuffice =
    (c : Config) (r : ℕ) (mine : List Event) → IsConfig c → IsPossible c r mine
    → holds_all c (known c r mine) ≡ false → length (known c r mine) < row_count c + reserve c

-- a head that a possible part reads is not below the one that it read last
abbrev pub PartHeadsClimb : Type 0
PartHeadsClimb =
    (c : Config) (r q h : ℕ) (mine : List Event) (e : Event) → IsPossible c r (e ∷ mine)
    → e.verb ≡ Verb.Head q → e.answer ≡ Answer.Number h → last_head r q mine ≤ h

-- in version 2 a head that a possible part reads, and the ring, leave a place above what is known,
-- if no mark of its replica is
abbrev pub PartHeadsLeaveRoom : Type 0
PartHeadsLeaveRoom =
    (c : Config) (r q h : ℕ) (mine : List Event) (e : Event) → IsConfig c
    → IsPossible c r (e ∷ mine) → c.version ≡ 2 → e.verb ≡ Verb.Head q
    → e.answer ≡ Answer.Number h → marked c q (known c r mine) ≡ false
    → length (known c r mine) + 1 ≤ h + c.ring

-- no possible part holds its own replica to be failed
abbrev pub PartsTrustSelf : Type 0
PartsTrustSelf =
    (c : Config) (r : ℕ) (mine : List Event) → IsPossible c r mine → is_failed r r mine ≡ false

-- a FUO that a possible part reads is at most the number of positions
abbrev pub PartFuosAreWithin : Type 0
PartFuosAreWithin =
    (c : Config) (r p u : ℕ) (mine : List Event) (e : Event) → IsPossible c r (e ∷ mine)
    → e.verb ≡ Verb.Fuo p → e.answer ≡ Answer.Number u → u ≤ row_count c + reserve c + 1

-- a fence that is read with the noted grant names the replica
abbrev pub PartFencesNameOwner : Type 0
PartFencesNameOwner =
    (c : Config) (r p g : ℕ) (f : Fence) (mine : List Event) (e : Event) → IsPossible c r (e ∷ mine)
    → noted_grant r p mine ≡ Some g → e.verb ≡ Verb.Fence p → e.answer ≡ Answer.Seen f
    → f.grant ≡ g → f.owner ≡ Some r

-- the minima that a possible part reads in its leadership, and the numbers that it puts, leave room
-- for a next number
abbrev pub PartNumbersLeaveRoom : Type 0
PartNumbersLeaveRoom =
    (c : Config) (r : ℕ) (mine : List Event) → IsConfig c → IsPossible c r mine
    → (greatest (λ e. any_min_read r e.by e.verb e.answer) (leadership r mine) < 8000000)
    × (greatest (λ e. number_put r e.by e.verb) mine < 8000000)

-- a look that a possible part saw past is past again
abbrev pub PartLooksStayPast : Type 0
PartLooksStayPast =
    (c : Config) (r p i : ℕ) (mine : List Event) (e : Event) → IsPossible c r (e ∷ mine)
    → e.verb ≡ Verb.Look p i
    → has (λ f. is_past_look (look_answer r p i f.by f.verb f.answer)) mine ≡ true
    → e.answer ≡ Answer.Past

-- the grant that r had noted of p at its last `Enter` there
abbrev pub entered_under : ℕ → ℕ → List Event → Option ℕ
entered_under r p [] = None
entered_under r p (e ∷ past) =
    if is_enter_of r p e then noted_grant r p past else entered_under r p past

-- after a put that missed, each fence of the region is closing, or shows a later grant than the one
-- under which r entered
abbrev pub PartFencesShowMisses : Type 0
PartFencesShowMisses =
    (c : Config) (r p g : ℕ) (mine between : List Event) (e f : Event) (x : Fence)
    → IsPossible c r (f ∷ (between ++ e ∷ mine)) → is_missed_at p e ≡ true
    → entered_under r p mine ≡ Some g
    → f.verb ≡ Verb.Fence p → f.answer ≡ Answer.Seen x → (x.closing ≡ true) ⊎ (g < x.grant)

-- at and below a position that showed an entry, no look of a possible part is empty
abbrev pub PartLooksStayFilled : Type 0
PartLooksStayFilled =
    (c : Config) (r p i j : ℕ) (mine : List Event) (e : Event) → IsPossible c r (e ∷ mine)
    → has (entry_seen r p j) mine ≡ true → i ≤ j → e.verb ≡ Verb.Look p i → e.answer ≢ Answer.Empty

-- a row that begins a batch and is the next of its client after these entries
pub record HasNext (c : Config) (values : List ℕ) : Type 0 where
  pub row : ℕ
  pub within : row < row_count c
  pub begins : begins_batch c row ≡ true
  pub number : number_of c row ≡ command_count c (client_of c row) values + 1

-- while a possible part doesn't know some command, some client has a next batch
abbrev pub PartsHaveNext : Type 0
PartsHaveNext =
    (c : Config) (r : ℕ) (mine : List Event) → IsConfig c → IsPossible c r mine
    → holds_all c (known c r mine) ≡ false → HasNext c (known c r mine)
