-- attested lines, flawed lines: that an attested list is right; which item of one is wrong, and why.
use Rattle.std.specs.Prelude.{ℕ, List, [], ◌++◌, ◌∷◌, codes}
use Rattle.std.specs.Fmt.{decimal}
use Rattle.mu_clients.specs.declared.items.Attested.{Attested}
use Rattle.mu_clients.specs.declared.items.Flaw.{Flaw}
use Rattle.mu_clients.specs.declared.items.Flawed.{Flawed}
use Rattle.mu_clients.specs.declared.items.Item.{Item}
use Rattle.mu_events.specs.Lines.{event_line}
use Rattle.mu_report.specs.Reasons.{fault_words}
use Rattle.mu_report.specs.Words.{reply_words}

-- an item, as a trace has it
abbrev pub item_words : Item → List ℕ
item_words (Item.Event event) = event_line event
item_words (Item.Got row) = codes "got " ++ decimal row
item_words (Item.Told by row reply) =
    decimal by ++ codes " told " ++ decimal row ++ codes " = " ++ reply_words reply

-- the row that an item names; 0 for an event, of which no row is told
abbrev pub row_in : Item → ℕ
row_in (Item.Event event) = 0
row_in (Item.Got row) = row
row_in (Item.Told by row reply) = row

-- the replica that made an item; 0 for a command that was got, which no replica makes
abbrev pub maker_of : Item → ℕ
maker_of (Item.Event event) = event.by
maker_of (Item.Got row) = 0
maker_of (Item.Told by row reply) = by

-- what is wrong with an item
abbrev pub flaw_words : Item → Flaw → List ℕ
flaw_words item (Flaw.Fault fault) = fault_words fault
flaw_words item Flaw.GotBefore =
    codes "not allowed: row " ++ decimal (row_in item) ++ codes " was got before"
flaw_words item Flaw.PutBefore =
    codes "not allowed: an entry with row " ++ decimal (row_in item) ++ codes " was put before"
flaw_words item Flaw.NotApplied =
    codes "not allowed: replica " ++ decimal (maker_of item) ++ codes " has not applied row "
    ++ decimal (row_in item)
flaw_words item (Flaw.OtherReply right) = codes "wrong reply: expected " ++ reply_words right
flaw_words item Flaw.NeverGot =
    codes "not allowed: row " ++ decimal (row_in item) ++ codes " was never got"

-- after how many events the item comes, and its line in the input
abbrev pub place_words : Flawed → List ℕ
place_words flawed =
    codes "illegal after " ++ decimal flawed.events ++ codes " at line " ++ decimal flawed.line

-- where the list breaks and why
abbrev pub flawed_lines : Flawed → List (List ℕ)
flawed_lines flawed =
    place_words flawed ∷ item_words flawed.item ∷ flaw_words flawed.item flawed.flaw ∷ []

-- how many events, commands that were got and replies that were told a right list has
abbrev pub attested_words : Attested → List ℕ
attested_words counts =
    codes "legal " ++ decimal counts.events ++ codes " got " ++ decimal counts.gots
    ++ codes " told " ++ decimal counts.tolds

abbrev pub attested_lines : Attested → List (List ℕ)
attested_lines counts = attested_words counts ∷ []
