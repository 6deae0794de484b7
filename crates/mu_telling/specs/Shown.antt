-- fact, moment: what the regions hold and what the replicas have come to after the first events of
-- a list.
use Rattle.std.specs.Prelude.{Bool, List, None, OnOk, Some, [], if◌then◌else◌, length, suc, take, zero, ℕ, ◌++◌, ◌+◌, ◌==◌, ◌∷◌, ◌≡◌}
use Rattle.std.specs.declared.option.Option.{Option}
use Rattle.std.specs.declared.result.Result.{Result}
use Rattle.std.specs.List.{slice_get}
use Rattle.mu_model.specs.declared.config.Config.{Config}
use Rattle.mu_model.specs.declared.event.Answer.{Answer}
use Rattle.mu_model.specs.declared.event.Event.{Event}
use Rattle.mu_model.specs.declared.event.Verb.{Verb}
use Rattle.mu_model.specs.Answers.{answer_of}
use Rattle.mu_model.specs.Contents.{row_count}
use Rattle.mu_model.specs.Histories.{history, part}
use Rattle.mu_model.specs.Knowledge.{applied, grown, known}
use Rattle.mu_model.specs.Leaderships.{has_begun, is_member, is_over, proposal_number}
use Rattle.mu_model.specs.Regions.{asks, beats, fence, region_fuo, region_head, region_min}
use Rattle.mu_model.specs.Room.{reserve}
use Rattle.mu_model.specs.Scores.{is_failed, leader}
use Rattle.mu_outcome.specs.declared.moment.Fact.{Fact}
use Rattle.mu_outcome.specs.declared.moment.Leads.{Leads}
use Rattle.mu_outcome.specs.declared.moment.Moment.{Moment}

-- what f gives of the numbers below n, in order
abbrev pub given_below : {A : Type 0} → ℕ → (ℕ → Option A) → List A
given_below zero f = []
given_below (suc n) f = grown (given_below n f) (f n)

-- the lists that f gives of the numbers below n, one after the other
abbrev pub joined_below : {A : Type 0} → ℕ → (ℕ → List A) → List A
joined_below zero f = []
joined_below (suc n) f = joined_below n f ++ f n

-- the number that an answer shows, else 0
abbrev pub number_shown : Answer → ℕ
number_shown (Answer.Number x) = x
number_shown _ = 0

-- these facts were added, if memory sufficed
abbrev pub Adds : {E : Type 0} → Result (Unit {0}) E → List Fact → List Fact → List Fact → Type 0
Adds result before after facts = OnOk result (after ≡ before ++ facts)

-- how many positions a log has
abbrev pub positions : Config → ℕ
positions c = row_count c + reserve c + 1

-- how often w asked for region p, if it did
abbrev pub asks_fact : ℕ → ℕ → ℕ → Option Fact
asks_fact p w count = if count == 0 then None else Some (Fact.Asks p w count)

-- the entry that a look at position i of region p finds, if it finds one
abbrev pub entry_fact : ℕ → ℕ → Answer → Option Fact
entry_fact p i (Answer.Entry b v) = Some (Fact.Entry p i b v)
entry_fact p i _ = None

-- what region p holds: its fence; its minimum, FUO, head and beats; how often each replica asked
-- for it; and each entry of its log that a look finds
abbrev pub region_facts : Config → List Event → ℕ → List Fact
region_facts c past p =
    Fact.Fence p (fence p past)
    ∷ Fact.Numbers p (region_min p past) (region_fuo p past) (region_head p past) (beats p past)
    ∷ (given_below c.replicas (λ w. asks_fact p w (asks w p past))
    ++ given_below (positions c) (λ i. entry_fact p i (answer_of c p past (Verb.Look p i))))

-- the leadership of a replica with this number, if it has one
abbrev pub leads_with : Option ℕ → Leads
leads_with None = Leads.Begun
leads_with (Some b) = Leads.Number b

-- whether a leadership has begun, whether the last one is over, and its number
abbrev pub leads_by : Bool → Bool → Option ℕ → Leads
leads_by begun over number =
    if begun then (if over then Leads.Over else leads_with number) else Leads.None

-- region p is a member in the last leadership of r, if it is
abbrev pub member_fact : ℕ → ℕ → Bool → Option Fact
member_fact r p member = if member then Some (Fact.Member r p) else None

-- r holds q to be failed, if it does
abbrev pub failed_fact : ℕ → ℕ → Bool → Option Fact
failed_fact r q failed = if failed then Some (Fact.Failed r q) else None

-- the entry that r knows at position i, if it knows one
abbrev pub known_fact : ℕ → ℕ → Option ℕ → Option Fact
known_fact r i None = None
known_fact r i (Some v) = Some (Fact.Known r i v)

-- what r has come to, by its own events: its steps, how many entries it knows and has applied, and
-- whom its scores name; its leadership and the members of that; whom it holds to be failed; and
-- each entry that it knows
abbrev pub replica_facts : Config → ℕ → List Event → List Fact
replica_facts c r mine =
    Fact.Reached r (length mine) (length (known c r mine)) (length (applied c r mine))
    (leader c r mine)
    ∷ Fact.Leadership r (leads_by (has_begun r mine) (is_over r mine) (proposal_number r mine))
    ∷ (given_below c.replicas (λ p. member_fact r p (is_member r p mine))
    ++ (given_below c.replicas (λ q. failed_fact r q (is_failed r q mine))
    ++ given_below (positions c) (λ i. known_fact r i (slice_get (known c r mine) i))))

-- what all regions hold, then what all replicas have come to
abbrev pub facts_of : Config → List Event → List Fact
facts_of c past =
    joined_below c.replicas (region_facts c past)
    ++ joined_below c.replicas (λ r. replica_facts c r (part r past))

-- this is the moment after the first n events
pub record IsMoment (c : Config) (events : List Event) (n : ℕ) (moment : Moment) : Type 0 where
  pub taken : moment.taken ≡ n
  pub among : moment.events ≡ length events
  pub facts : moment.facts ≡ facts_of c (history (take n events))
