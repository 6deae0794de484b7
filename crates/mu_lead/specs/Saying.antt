-- says: each note comes exactly if its row holds.
use Rattle.std.specs.Prelude.{Bool, List, Some, [], false, get_or, if◌then◌else◌, is_some, nat_lt, true, ℕ, ◌+◌, ◌-◌, ◌<◌, ◌==◌, ◌++◌, ◌∷◌, ◌≡◌, ◌≢◌, ◌≤◌, ◌⊎◌, ◌↔◌}
use Rattle.mu_model.specs.declared.config.Config.{Config}
use Rattle.mu_model.specs.declared.event.Answer.{Answer}
use Rattle.mu_model.specs.declared.event.Event.{Event}
use Rattle.mu_model.specs.declared.event.Fence.{Fence}
use Rattle.mu_model.specs.declared.event.Verb.{Verb}
use Rattle.mu_model.specs.Contents.{holds_all, marked}
use Rattle.mu_model.specs.Knowledge.{known}
use Rattle.mu_model.specs.Leaderships.{is_above, noted_grant, proposal_number}
use Rattle.mu_model.specs.Parts.{IsPossible}
use Rattle.mu_model.specs.Picks.{is_past}
use Rattle.mu_model.specs.Room.{reserve}
use Rattle.mu_model.specs.Scores.{is_failed}
use Rattle.mu_lead.specs.declared.lead.Lead.{Lead}
use Rattle.mu_lead.specs.declared.note.AbortCause.{AbortCause}
use Rattle.mu_lead.specs.declared.note.Note.{Note}
use Rattle.mu_lead.specs.declared.place.Place.{Place}
use Rattle.mu_lead.specs.declared.place.Then.{Then}
use Rattle.mu_lead.specs.Leading.{came_late, end_of}
use Rattle.mu_lead.specs.Confirming.{Confirmed}
use Rattle.mu_lead.specs.Losses.{SaysLost}
use Rattle.mu_lead.specs.Offering.{LooksEmpty, ShowsEntry}
use Rattle.mu_lead.specs.Sets.{bits}
use Rattle.mu_lead.specs.Standing.{known_told, verb_of}

-- the note says nothing
abbrev pub is_working : Note → Bool
is_working Note.Working = true
is_working note = false

-- the note is of none of the verbs of a leader
abbrev pub is_of_no_place : Note → Bool
is_of_no_place (Note.Resigned to) = true
is_of_no_place (Note.Astray p fence) = true
is_of_no_place Note.Idle = true
is_of_no_place note = false

-- the note is none but of a lost region
abbrev pub is_working_or_lost : Note → Bool
is_working_or_lost Note.Working = true
is_working_or_lost (Note.Aborted (AbortCause.Lost p fence)) = true
is_working_or_lost note = false

-- the value of the entry that a look showed, else 0
abbrev pub value_seen : Answer → ℕ
value_seen (Answer.Entry n v) = v
value_seen answer = 0

-- the note of a look at the first unknown position, with n values known after it
abbrev pub note_of_learning : ℕ → Answer → Note
note_of_learning n (Answer.Entry b v) = Note.Learnt (n - 1) v
note_of_learning n answer = Note.Working

-- the note of a look at a new position, with n values known after it
abbrev pub note_of_look : ℕ → ℕ → Answer → Note
note_of_look i n answer =
    if is_past answer then Note.Working
    else (if nat_lt i n then Note.Learnt i (value_seen answer) else Note.Working)

-- the note of the FUO that ends the bringing up of a region
abbrev pub note_of_raise : ℕ → Then → Note
note_of_raise p Then.Joined = Note.Joined p
note_of_raise p on = Note.Working

-- the note of a late follower that became a member, by whether it still lacks entries
abbrev pub note_of_join : ℕ → Bool → Note
note_of_join p true = Note.Working
note_of_join p false = Note.Joined p

-- the note of a fence of p that was read because a look was past, by whether the leadership is then
-- over
abbrev pub note_of_fence : ℕ → Fence → Bool → Note
note_of_fence p f true = Note.Aborted (AbortCause.Lost p f)
note_of_fence p f false = Note.Working

-- the answer just taken is the minimum m of the late follower p, above the leader's own number
pub record ShowsHigher (r : ℕ) (mine : List Event) (verb : Verb) (answer : Answer)
    (p m : ℕ) : Type 0 where
  pub asked : verb ≡ Verb.Min p
  pub told : answer ≡ Answer.Number m
  pub above : is_above (proposal_number r mine) m ≡ true

-- q, whose head is h, may be marked: another replica, failed, and room only for the next position
pub record MayMark (c : Config) (r : ℕ) (mine : List Event) (q h : ℕ) : Type 0 where
  pub other : q ≢ r
  pub failed : is_failed r q mine ≡ true
  pub above : end_of c r mine < h + c.ring

-- the answer just taken is the head h of q, which leaves no room at position i and may not be
-- marked
pub record ShowsNoRoom (c : Config) (r : ℕ) (mine : List Event) (verb : Verb) (answer : Answer)
    (q h i : ℕ) : Type 0 where
  pub asked : verb ≡ Verb.Head q
  pub told : answer ≡ Answer.Number h
  pub position : i ≡ end_of c r mine
  pub unmarked : marked c q (known c r mine) ≡ false
  pub low : h + c.ring ≤ end_of c r mine + reserve c
  pub unfit : MayMark c r mine q h → ⊥

-- the answer just taken is of the last step for p: the FUO raised over what it lacked, or the put
-- of its minimum if it lacked nothing
abbrev pub IsLastStep : Config → ℕ → List Event → List ℕ → Place → Answer → ℕ → Type 0
IsLastStep c r mine up place answer p =
    (place ≡ Place.RaiseBehind p Then.Joined)
    ⊎ ((place ≡ Place.LatePut p) × (answer ≡ Answer.Done) × (end_of c r mine ≤ get_or up p 0))

-- it is of the last step for the late follower p
pub record EndsJoining (c : Config) (r : ℕ) (mine : List Event) (up : List ℕ) (place : Place)
    (answer : Answer) (p : ℕ) : Type 0 where
  pub late : came_late r p mine ≡ true
  pub last : IsLastStep c r mine up place answer p

-- the look just taken taught the value v at position i
pub record Teaches (c : Config) (r : ℕ) (mine : List Event) (verb : Verb) (answer : Answer)
    (i v : ℕ) : Type 0 where
  pub region : ℕ
  pub looked : verb ≡ Verb.Look region i
  pub position : i ≡ end_of c r mine
  pub grew :
      known c r (record { by = r; verb = verb; answer = answer } ∷ mine) ≡ known c r mine ++ v ∷ []

-- the answer to the verb of the place ends a round of fences
abbrev pub ends_round : Config → Place → Bool
ends_round c (Place.Confirm round p) = p + 1 == c.replicas
ends_round c place = false

-- the round of fences that just ended named r, not closing, in exactly these regions
pub record EndsRound (c : Config) (r : ℕ) (now : List Event) (place : Place)
    (regions : ℕ) : Type 0 where
  pub ends : ends_round c place ≡ true
  pub named : regions ≡ bits (λ p. is_some (noted_grant r p now))

-- the put just taken made the value v at position i known
pub record Commits (c : Config) (r : ℕ) (mine : List Event) (verb : Verb) (answer : Answer)
    (i v : ℕ) : Type 0 where
  pub region : ℕ
  pub number : ℕ
  pub put : verb ≡ Verb.PutSlot region i number v
  pub position : i ≡ end_of c r mine
  pub grew :
      known c r (record { by = r; verb = verb; answer = answer } ∷ mine) ≡ known c r mine ++ v ∷ []

-- the notes of rounds come exactly if their rows hold
pub record SaysRound (c : Config) (r : ℕ) (now : List Event) (place : Place)
    (note : Note) : Type 0 where
  pub confirmed :
      (s : ℕ) → (note ≡ Note.Confirmed s) ↔ (EndsRound c r now place s × Confirmed c r now)
  pub not_confirmed :
      (s : ℕ) → (note ≡ Note.NotConfirmed s) ↔ (EndsRound c r now place s × (Confirmed c r now → ⊥))

-- so do the notes of entries that a put made known
pub record SaysCommit (c : Config) (r : ℕ) (mine : List Event) (verb : Verb) (answer : Answer)
    (note : Note) : Type 0 where
  pub committed :
      (i v : ℕ)
      → (note ≡ Note.Committed i v)
      ↔ (Commits c r mine verb answer i v × LooksEmpty c r mine i)
  pub adopted :
      (i v : ℕ)
      → (note ≡ Note.Adopted i v) ↔ (Commits c r mine verb answer i v × ShowsEntry c r mine i)

-- so do the notes of what was read, and of steps for late followers
pub record SaysReads (c : Config) (r : ℕ) (mine : List Event) (up : List ℕ) (place : Place)
    (verb : Verb) (answer : Answer) (note : Note) : Type 0 where
  pub higher :
      (p m : ℕ) → (note ≡ Note.Aborted (AbortCause.Higher p m)) ↔ ShowsHigher r mine verb answer p m
  pub no_room : (q h i : ℕ) → (note ≡ Note.NoRoom q h i) ↔ ShowsNoRoom c r mine verb answer q h i
  pub learnt : (i v : ℕ) → (note ≡ Note.Learnt i v) ↔ Teaches c r mine verb answer i v
  pub joined : (p : ℕ) → (note ≡ Note.Joined p) ↔ EndsJoining c r mine up place answer p

-- each note comes exactly if its row holds: `Idle` if all commands are known and none of the others
-- holds, `Working` if some command isn't, and `Resigned` and `Astray` never
pub record Says (c : Config) (r : ℕ) (mine : List Event) (up : List ℕ) (place : Place) (verb : Verb)
    (answer : Answer) (note : Note) : Type 0 where
  pub rounds : SaysRound c r (record { by = r; verb = verb; answer = answer } ∷ mine) place note
  pub commits : SaysCommit c r mine verb answer note
  pub lost : SaysLost r mine place verb answer note
  pub higher :
      (p m : ℕ) → (note ≡ Note.Aborted (AbortCause.Higher p m)) ↔ ShowsHigher r mine verb answer p m
  pub no_room : (q h i : ℕ) → (note ≡ Note.NoRoom q h i) ↔ ShowsNoRoom c r mine verb answer q h i
  pub learnt : (i v : ℕ) → (note ≡ Note.Learnt i v) ↔ Teaches c r mine verb answer i v
  pub joined : (p : ℕ) → (note ≡ Note.Joined p) ↔ EndsJoining c r mine up place answer p
  pub idle :
      note ≡ Note.Idle
      → holds_all c (known c r (record { by = r; verb = verb; answer = answer } ∷ mine)) ≡ true
  pub working :
      note ≡ Note.Working
      → holds_all c (known c r (record { by = r; verb = verb; answer = answer } ∷ mine)) ≡ false
  pub stays : (to : ℕ) → note ≡ Note.Resigned to → ⊥
  pub kept : (p : ℕ) (fence : Fence) → note ≡ Note.Astray p fence → ⊥

-- the same after these events, whose known values make the verb that was due
abbrev pub SaysNext : List Event → Lead → List ℕ → Answer → Note → Type 0
SaysNext mine old values answer note =
    (verb : Verb) → verb_of old (known old.config old.id mine) ≡ Some verb
    → IsPossible old.config old.id (record { by = old.id; verb = verb; answer = answer } ∷ mine)
    → values ≡ known_told old.config old.id mine old.id verb answer
    → Says old.config old.id mine old.up old.place verb answer note
