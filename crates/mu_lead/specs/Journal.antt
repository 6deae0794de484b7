-- place after, tables at, due after, is where: the place, the tables and the due verb of a leader,
-- by its journal only; and that a leader is at that place with those tables.
use Rattle.std.specs.Prelude.{Bool, List, None, Some, [], false, get_or, if◌then◌else◌, max, nat_le, nat_lt, replicate, set, true, ℕ, ◌+◌, ◌==◌, ◌||◌, ◌∷◌, ◌≡◌, ◌⊎◌}
use Rattle.std.specs.declared.option.Option.{Option}
use Rattle.mu_model.specs.declared.config.Config.{Config}
use Rattle.mu_model.specs.declared.event.Answer.{Answer}
use Rattle.mu_model.specs.declared.event.Event.{Event}
use Rattle.mu_model.specs.declared.event.Verb.{Verb}
use Rattle.mu_model.specs.Contents.{row_count}
use Rattle.mu_model.specs.Histories.{or_zero}
use Rattle.mu_model.specs.Knowledge.{known}
use Rattle.mu_model.specs.Leaderships.{begins_leadership, is_member, proposal_number}
use Rattle.mu_model.specs.Parts.{IsPossible}
use Rattle.mu_model.specs.Points.{greatest_used, least_number}
use Rattle.mu_model.specs.Scores.{leader}
use Rattle.mu_model.specs.Steps.{is_named}
use Rattle.mu_model.specs.Stretches.{is_replication}
use Rattle.mu_lead.specs.declared.lead.Lead.{Lead}
use Rattle.mu_lead.specs.declared.place.Place.{Place}
use Rattle.mu_lead.specs.Lasting.{tables_of}
use Rattle.mu_lead.specs.Leading.{end_of, most_replicas}
use Rattle.mu_lead.specs.Listing.{Tables, next_place}
use Rattle.mu_lead.specs.Standing.{known_told, verb_at, verb_of}

-- the table with u at each place that passes; its first place is place k
abbrev pub set_where : (ℕ → Bool) → ℕ → ℕ → List ℕ → List ℕ
set_where test u k [] = []
set_where test u k (x ∷ xs) = (if test k then u else x) ∷ set_where test u (k + 1) xs

-- up to which position each region has what is known, by one more step of the leader: a leadership
-- that begins knows nothing; a FUO that is read of a member, or of a region that is not ahead,
-- tells it; so does each entry that is brought there, and a commit for each member
abbrev pub up_with : Config → ℕ → List Event → List Event → List ℕ → Verb → Answer → List ℕ
up_with c r past now up (Verb.Ask p) answer = if p == 0 then replicate most_replicas 0 else up
up_with c r past now up (Verb.Fuo p) (Answer.Number u) =
    if is_member r p past || nat_le u (end_of c r past) then set up p u else up
up_with c r past now up (Verb.PutSlot p i b v) Answer.Done =
    if nat_lt i (end_of c r past) then set up p (i + 1)
    else (if nat_lt (end_of c r past) (end_of c r now)
    then set_where (λ q. is_member r q past) (i + 1) 0 up else up)
up_with c r past now up verb answer = up

-- the greater of a FUO and that one, if any
abbrev pub greater_fuo : Option ℕ → ℕ → Option ℕ
greater_fuo None u = Some u
greater_fuo (Some x) u = Some (max u x)

-- the table with a FUO at the place, if it is the greater one
abbrev pub fuo_in : List (Option ℕ) → ℕ → ℕ → List (Option ℕ)
fuo_in reach p u = set reach p (greater_fuo (get_or reach p None) u)

-- the greatest FUO of each region that the leader read or raised in its leadership
abbrev pub reach_with : List (Option ℕ) → Verb → Answer → List (Option ℕ)
reach_with reach (Verb.Ask p) answer = if p == 0 then replicate most_replicas None else reach
reach_with reach (Verb.Fuo p) (Answer.Number u) = fuo_in reach p u
reach_with reach (Verb.RaiseFuo p u) answer = fuo_in reach p u
reach_with reach verb answer = reach

-- the head of each replica that the leader read last
abbrev pub heads_with : List ℕ → Verb → Answer → List ℕ
heads_with heads (Verb.Head q) (Answer.Number h) = set heads q h
heads_with heads verb answer = heads

-- how many words of each row of its own are written
abbrev pub written_with : List ℕ → Verb → List ℕ
written_with written (Verb.WriteRow j k x) = set written j (get_or written j 12 + 1)
written_with written verb = written

-- the tables of the leader, by one more step
abbrev pub tables_with : Config → ℕ → List Event → List Event → Tables → Verb → Answer → Tables
tables_with c r past now t verb answer = record {
  up = up_with c r past now t.up verb answer;
  reach = reach_with t.reach verb answer;
  heads = heads_with t.heads verb answer;
  written = written_with t.written verb;
}

-- the tables of the leader, by an event in the background: it may write ahead
abbrev pub tables_beside : Tables → Verb → Tables
tables_beside t verb = record {
  up = t.up;
  reach = t.reach;
  heads = t.heads;
  written = written_with t.written verb;
}

-- the tables of the leader, by the journal
abbrev pub tables_at : Config → ℕ → List Event → Tables
tables_at c r [] = record {
  up = replicate most_replicas 0;
  reach = replicate most_replicas None;
  heads = replicate most_replicas 0;
  written = replicate (row_count c) 0;
}
tables_at c r (e ∷ past) =
    if is_replication past e
    then tables_with c r past (e ∷ past) (tables_at c r past) e.verb e.answer
    else tables_beside (tables_at c r past) e.verb

-- by this step the leader's tables become those with it
abbrev pub WritesTo : Lead → List Event → Verb → Answer → Lead → Type 0
WritesTo old mine verb answer new =
    tables_of new
    ≡ tables_with old.config old.id mine
    (record { by = old.id; verb = verb; answer = answer } ∷ mine)
    (tables_of old) verb answer

-- by the answer to the verb that was due after these events they do
abbrev pub WritesNext : List Event → Lead → List ℕ → Answer → Lead → Type 0
WritesNext mine old values answer new =
    (verb : Verb) → verb_of old (known old.config old.id mine) ≡ Some verb
    → IsPossible old.config old.id (record { by = old.id; verb = verb; answer = answer } ∷ mine)
    → values ≡ known_told old.config old.id mine old.id verb answer
    → WritesTo old mine verb answer new

-- the place that a step is made from: if it begins a leadership the first ask, which a leader that
-- asks again makes out of turn
abbrev pub place_before : ℕ → Event → Place → Place
place_before r e place = if begins_leadership r e then Place.Ask 0 else place

-- the place of the listing, by the journal: with each replication step of a replica that its scores
-- name it goes on, with any other it begins again, and the background leaves it
abbrev pub place_after : Config → ℕ → List Event → Place
place_after c r [] = Place.Ask 0
place_after c r (e ∷ past) =
    if is_replication past e
    then (if leader c r past == r
    then next_place c r (or_zero (proposal_number r past)) (e ∷ past) (tables_at c r (e ∷ past))
    e.answer (place_before r e (place_after c r past))
    else Place.Ask 0)
    else place_after c r past

-- the number, if there is one, else the least of r above all that it read and put
abbrev pub number_or : ℕ → List Event → Option ℕ → ℕ
number_or r mine (Some b) = b
number_or r mine None = least_number r (greatest_used r mine)

-- the number that r puts: that of its leadership, or the next one if it has none
abbrev pub number_due : ℕ → List Event → ℕ
number_due r mine = number_or r mine (proposal_number r mine)

-- the verb that is due, by the journal only
abbrev pub due_after : Config → ℕ → List Event → Option Verb
due_after c r mine =
    if leader c r mine == r
    then verb_at c (number_due r mine) (known c r mine) (tables_at c r mine).up
    (tables_at c r mine).written (place_after c r mine)
    else None

-- the leader is at the place that the journal of r gives it, and at the first ask if no leadership
-- is under way
pub record IsWhere (c : Config) (r : ℕ) (mine : List Event) (l : Lead) : Type 0 where
  pub place : l.place ≡ place_after c r mine
  pub tables : tables_of l ≡ tables_at c r mine
  pub idle : l.under_way ≡ false → l.place ≡ Place.Ask 0

-- the leader was told that a lower replica is named, or has left its leadership: its tables are those
-- of the journal, and it next asks again
pub record HasLeft (c : Config) (r : ℕ) (mine : List Event) (l : Lead) : Type 0 where
  pub place : l.place ≡ Place.Ask 0
  pub tables : tables_of l ≡ tables_at c r mine

-- by the answer to the verb that was due, in a turn in which r is named, it is there again; also if
-- it had left its leadership, and next asked again
abbrev pub PlacesNext : List Event → Lead → List ℕ → Answer → Lead → Type 0
PlacesNext mine old values answer new =
    (verb : Verb) → verb_of old (known old.config old.id mine) ≡ Some verb
    → IsPossible old.config old.id (record { by = old.id; verb = verb; answer = answer } ∷ mine)
    → values ≡ known_told old.config old.id mine old.id verb answer
    → is_replication mine (record { by = old.id; verb = verb; answer = answer }) ≡ true
    → is_named old.config old.id mine ≡ true
    → IsWhere old.config old.id mine old ⊎ HasLeft old.config old.id mine old
    → IsWhere old.config old.id (record { by = old.id; verb = verb; answer = answer } ∷ mine) new
