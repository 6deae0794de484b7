-- keeps order: the rule of the queue: for each client, what was taken and what is in the line is
-- what it has sent.
use Rattle.std.specs.Prelude.{ℕ, ◌≡◌, ◌<◌, ◌≤◌, ◌==◌, true, false, List, [], ◌∷◌, ◌++◌, Some, None, if◌then◌else◌}
use Rattle.std.specs.declared.option.Option.{Option}
use mathlib.Core.Option as opt
use lib.ListN.{get_elem?}
use Rattle.kv_store.specs.Commands.{Request}
use Rattle.mu_input.specs.declared.TheConstants.{MOST_SENDERS}
use Rattle.front_desk.specs.Arrivals.{commands_by}
use Rattle.front_desk.specs.declared.line.Entry.{Entry}
use Rattle.front_desk.specs.declared.line.Hand.{Hand}

abbrev pub entry : ℕ → List Request → Entry
entry client commands = record { client = client; commands = commands }

-- the entry of a client, the first one
abbrev pub entry_of : ℕ → List Entry → Option Entry
entry_of client [] = None
entry_of client (e ∷ es) = if e.client == client then Some e else entry_of client es

-- the entries of the other clients
abbrev pub without : ℕ → List Entry → List Entry
without client [] = []
without client (e ∷ es) = if e.client == client then without client es else e ∷ without client es

-- the hand that begins: nobody has sent anything, and nothing is taken
abbrev pub whole_hand : Hand
whole_hand =
    record
    { entries = entry 0 [] ∷ entry 1 [] ∷ entry 2 [] ∷ entry 3 [] ∷ []; takes = true; taken = [] }

-- the hand of one client, which has sent these
abbrev pub sending_hand : ℕ → List Request → Hand
sending_hand client commands =
    record { entries = entry client commands ∷ []; takes = false; taken = [] }

-- the hand that only takes, and has taken these
abbrev pub taking_hand : List Request → Hand
taking_hand commands = record { entries = []; takes = true; taken = commands }

abbrev pub spent_hand : Hand
spent_hand = record { entries = []; takes = false; taken = [] }

abbrev pub rest_of : List Entry → List Entry
rest_of [] = []
rest_of (e ∷ es) = without e.client es

abbrev pub front_of : List Entry → List Entry
front_of [] = []
front_of (e ∷ es) = e ∷ []

-- a hand whose first entry was given away
abbrev pub after_first : Hand → Hand
after_first v = record { entries = rest_of v.entries; takes = v.takes; taken = v.taken }

-- a hand with only this entry
abbrev pub first_alone : Hand → Hand
first_alone v = record { entries = front_of v.entries; takes = false; taken = [] }

-- a hand that has taken in the entries of another
abbrev pub united : Hand → Hand → Hand
united v w = record { entries = w.entries ++ v.entries; takes = v.takes; taken = v.taken }

-- the first entry has one command more
abbrev pub with_sent : List Entry → Request → List Entry
with_sent [] command = []
with_sent (e ∷ es) command = entry e.client (e.commands ++ command ∷ []) ∷ es

-- the client of the hand has sent one command more
abbrev pub HasSent : Hand → Request → Hand → Type 0
HasSent v command w =
    w ≡ record { entries = with_sent v.entries command; takes = v.takes; taken = v.taken }

-- the hand has taken one command more
abbrev pub HasTaken : Hand → Request → Hand → Type 0
HasTaken v command w =
    w ≡ record { entries = v.entries; takes = v.takes; taken = v.taken ++ command ∷ [] }

-- a hand knows what its clients have sent, and what was taken if it takes; nobody else has these
-- entries, and one hand takes
pub record KnowsItsPart (owner : ℕ → ℕ) (sent : ℕ → List Request) (taker : ℕ) (got : List Request)
    (pass : ℕ) (v : Hand) : Type 0 where
  pub entries :
      (client : ℕ) (e : Entry) → entry_of client v.entries ≡ Some e
      → (owner client ≡ pass) × (e.commands ≡ sent client)
  pub takes : v.takes ≡ true → (pass ≡ taker) × (v.taken ≡ got)

-- this pass has the entry of this client
pub record HasEntry (views : List Hand) (pass client : ℕ) : Type 0 where
  pub hand : Hand
  pub its : Entry
  pub there : get_elem? views pass ≡ opt.some hand
  pub found : entry_of client hand.entries ≡ Some its

-- this pass takes commands out
pub record HasTheTaken (views : List Hand) (pass : ℕ) : Type 0 where
  pub hand : Hand
  pub there : get_elem? views pass ≡ opt.some hand
  pub takes : hand.takes ≡ true

-- for each client, what was taken and what stands in the line are the commands that it has sent, in
-- order; those past the last have sent nothing; one hand has the entry of each other client, one
-- hand takes, and each hand knows its part
pub record KeepsOrder (standing : List Request) (views : List Hand) : Type 0 where
  pub owner : ℕ → ℕ
  pub sent : ℕ → List Request
  pub taker : ℕ
  pub got : List Request
  pub delivered : (client : ℕ) → commands_by client (got ++ standing) ≡ sent client
  pub beyond : (client : ℕ) → MOST_SENDERS ≤ client → sent client ≡ []
  pub held : (client : ℕ) → client < MOST_SENDERS → HasEntry views (owner client) client
  pub taking : HasTheTaken views taker
  pub parts :
      (pass : ℕ) (v : Hand) → get_elem? views pass ≡ opt.some v
      → KnowsItsPart owner sent taker got pass v

-- for each client of the hand, what was taken and what stands in the line is what it has sent; and
-- nobody past the last sent
pub record Delivers (v : Hand) (standing : List Request) : Type 0 where
  pub each :
      (client : ℕ) (e : Entry) → entry_of client v.entries ≡ Some e
      → commands_by client (v.taken ++ standing) ≡ e.commands
  pub beyond : (client : ℕ) → MOST_SENDERS ≤ client → commands_by client (v.taken ++ standing) ≡ []
