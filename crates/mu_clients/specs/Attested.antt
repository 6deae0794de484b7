-- attested: a list of events and of what clients see of the service is right: its events are legal,
-- no command is got twice, or after an entry with its row was put, and each reply that a replica
-- tells is the store's over what that replica has applied, to a command that was got.
--
-- Of a row that has neither a `got` nor a reply nothing is asked.
use Rattle.std.specs.Prelude.{ℕ, ◌++◌, ◌==◌, ◌≡◌, ◌≢◌, List, [], ◌∷◌, None, Some, false, if◌then◌else◌, reverse, true}
use Rattle.std.specs.declared.option.Option.{Option}
pub use Rattle.kv_store.specs.Beside.{beside}
use Rattle.kv_store.specs.Tables.{replies}
use Rattle.kv_store.specs.declared.store.Reply.{Reply}
use Rattle.mu_clients.specs.declared.items.Flaw.{Flaw}
use Rattle.mu_clients.specs.declared.items.Item.{Item}
use Rattle.mu_input.specs.declared.job.Job.{Job}
use Rattle.mu_model.specs.declared.config.Config.{Config}
use Rattle.mu_model.specs.declared.event.Event.{Event}
use Rattle.mu_model.specs.declared.event.Verb.{Verb}
use Rattle.mu_model.specs.Contents.{includes, rows_in, rows_of}
use Rattle.mu_model.specs.Histories.{part}
use Rattle.mu_model.specs.Knowledge.{applied}
use Rattle.mu_model.specs.Legal.{MayFollow}
use Rattle.mu_outcome.specs.Breaks.{IsFault}
use Rattle.mu_outcome.specs.Entries.{commands_in}

-- the item with the newest first
abbrev pub items_back : List Item → List Item
items_back items = reverse items

-- the events among these items
abbrev pub events_in : List Item → List Event
events_in [] = []
events_in (Item.Event event ∷ past) = event ∷ events_in past
events_in (Item.Got row ∷ past) = events_in past
events_in (Item.Told by row reply ∷ past) = events_in past

-- the rows whose commands were got, the first of them first
abbrev pub rows_got : List Item → List ℕ
rows_got [] = []
rows_got (Item.Event event ∷ past) = rows_got past
rows_got (Item.Got row ∷ past) = rows_got past ++ row ∷ []
rows_got (Item.Told by row reply ∷ past) = rows_got past

-- the rows of the entry that a step puts, landed or not
abbrev pub rows_of_put : Config → Verb → List ℕ
rows_of_put c (Verb.PutSlot p i b v) = rows_of c v
rows_of_put c _ = []

-- the rows of all entries that were put
abbrev pub rows_put : Config → List Event → List ℕ
rows_put c [] = []
rows_put c (event ∷ past) = rows_put c past ++ rows_of_put c event.verb

-- the store's reply to the command of row j over a log, if the log has it
abbrev pub reply_over : Job → List ℕ → ℕ → Option Reply
reply_over job log j = beside j (rows_in job.config log) (replies (commands_in job log))

-- the store's reply to the command of row j over what replica r has applied, if it has applied it
abbrev pub reply_by : Job → ℕ → List Event → ℕ → Option Reply
reply_by job r past j = reply_over job (applied job.config r (part r past)) j

-- the item may come after these: the event may follow; the command wasn't got yet, and no entry
-- with its row was put; the replica has applied the row, this is the store's reply, and the command
-- was got
abbrev pub MayCome : Job → List Item → Item → Type 0
MayCome job past (Item.Event event) = MayFollow job.config (events_in past) event
MayCome job past (Item.Got row) =
    (includes row (rows_got past) ≡ false)
    × (includes row (rows_put job.config (events_in past)) ≡ false)
MayCome job past (Item.Told by row reply) =
    (reply_by job by (events_in past) row ≡ Some reply) × (includes row (rows_got past) ≡ true)

-- each item may come after those before it, with the newest first
abbrev pub IsAttestedBack : Job → List Item → Type 0
IsAttestedBack job [] = Unit {0}
IsAttestedBack job (item ∷ past) = IsAttestedBack job past × MayCome job past item

-- a list of items in true order is attested
abbrev pub IsAttested : Job → List Item → Type 0
IsAttested job items = IsAttestedBack job (items_back items)

-- why the item may not come after these
abbrev pub IsFlaw : Job → List Item → Item → Flaw → Type 0
IsFlaw job past (Item.Event event) (Flaw.Fault fault) =
    IsFault job.config (events_in past) event fault
IsFlaw job past (Item.Got row) Flaw.GotBefore = includes row (rows_got past) ≡ true
IsFlaw job past (Item.Got row) Flaw.PutBefore =
    (includes row (rows_got past) ≡ false)
    × (includes row (rows_put job.config (events_in past)) ≡ true)
IsFlaw job past (Item.Told by row reply) Flaw.NotApplied =
    reply_by job by (events_in past) row ≡ None
IsFlaw job past (Item.Told by row reply) (Flaw.OtherReply right) =
    (reply_by job by (events_in past) row ≡ Some right) × (right ≢ reply)
IsFlaw job past (Item.Told by row reply) Flaw.NeverGot =
    (reply_by job by (events_in past) row ≡ Some reply) × (includes row (rows_got past) ≡ false)
IsFlaw job past _ _ = ⊥
