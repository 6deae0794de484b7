-- history, part, prefix: the list with the newest event first; the events of one replica, in order;
-- a list that begins another; the event of a step; a value that adds one more event.
use Rattle.std.specs.Prelude.{Bool, List, None, Some, [], false, if◌then◌else◌, max, reverse, suc, true, zero, ℕ, ◌&&◌, ◌++◌, ◌+◌, ◌==◌, ◌∷◌, ◌≡◌}
use Rattle.std.specs.declared.option.Option.{Option}
use Rattle.std.specs.List.{filter}
use Rattle.mu_model.specs.declared.event.Answer.{Answer}
use Rattle.mu_model.specs.declared.event.Event.{Event}
use Rattle.mu_model.specs.declared.event.Verb.{Verb}

-- one list begins the other
abbrev pub IsPrefixOf : {A : Type 0} → List A → List A → Type 0
IsPrefixOf {A} xs ys = (rest : List A) × (ys ≡ xs ++ rest)

-- the event of a replica with this verb and this answer
abbrev pub event_by : ℕ → Verb → Answer → Event
event_by by verb answer = record { by = by; verb = verb; answer = answer }

-- the history that a list of events in true order makes
abbrev pub history : List Event → List Event
history events = reverse events

-- the events of replica r, in the order of the list
abbrev pub part : ℕ → List Event → List Event
part r past = filter (λ e. e.by == r) past

-- how many events pass
abbrev pub how_many : (Event → Bool) → List Event → ℕ
how_many test [] = 0
how_many test (e ∷ past) = if test e then how_many test past + 1 else how_many test past

-- whether some event passes
abbrev pub has : (Event → Bool) → List Event → Bool
has test [] = false
has test (e ∷ past) = if test e then true else has test past

-- a value that was what the events say is now what they say with one more
abbrev pub Adds : {A : Type 0} → (List Event → A) → Event → A → A → Type 0
Adds of e held now = (mine : List Event) → held ≡ of mine → now ≡ of (e ∷ mine)

-- the newer, if there is one, else the older
abbrev pub newer_or : {A : Type 0} → Option A → Option A → Option A
newer_or None other = other
newer_or (Some x) other = Some x

-- what the last event that tells something tells
abbrev pub newest : {A : Type 0} → (Event → Option A) → List Event → Option A
newest tells [] = None
newest tells (e ∷ past) = newer_or (tells e) (newest tells past)

-- the earlier, if there is one, else the later
abbrev pub earlier_or : {A : Type 0} → Option A → Option A → Option A
earlier_or None earlier = earlier
earlier_or (Some x) None = Some x
earlier_or (Some x) (Some y) = Some y

-- what the first event that tells something tells
abbrev pub oldest : {A : Type 0} → (Event → Option A) → List Event → Option A
oldest tells [] = None
oldest tells (e ∷ past) = earlier_or (tells e) (oldest tells past)

-- the greater of a number, if there is one, and another
abbrev pub max_with : Option ℕ → ℕ → ℕ
max_with None x = x
max_with (Some y) x = max y x

-- the greatest number that an event tells, else 0
abbrev pub greatest : (Event → Option ℕ) → List Event → ℕ
greatest tells [] = 0
greatest tells (e ∷ past) = max_with (tells e) (greatest tells past)

-- the events after the last one that passes, or all if none does
abbrev pub since : (Event → Bool) → List Event → List Event
since test [] = []
since test (e ∷ past) = if test e then [] else (e ∷ since test past)

-- the events before the last one that passes, or none if none does
abbrev pub before : (Event → Bool) → List Event → List Event
before test [] = []
before test (e ∷ past) = if test e then past else before test past

-- how many numbers below n pass
abbrev pub count_below : ℕ → (ℕ → Bool) → ℕ
count_below zero test = 0
count_below (suc n) test = if test n then count_below n test + 1 else count_below n test

-- whether all numbers below n pass
abbrev pub all_below : ℕ → (ℕ → Bool) → Bool
all_below zero test = true
all_below (suc n) test = test n && all_below n test

-- the number, else 0
abbrev pub or_zero : Option ℕ → ℕ
or_zero None = 0
or_zero (Some x) = x
