-- item of: the line of an attested list: an event, `got J`, or `R told J = REPLY`.
use Rattle.std.specs.Prelude.{ℕ, ◌<◌, List, [], ◌∷◌, codes, None, Some, if◌then◌else◌, ⊤}
use Rattle.std.specs.declared.option.Option.{Option}
use Rattle.std.specs.Option.{option_map}
use Rattle.std.specs.Str.{bytes_eq}
use Rattle.kv_store.specs.declared.store.Reply.{Reply}
use Rattle.mu_clients.specs.declared.items.Item.{Item}
use Rattle.mu_events.specs.Events.{event_of, of_three}
use Rattle.mu_input.specs.Fields.{is_text}
use Rattle.mu_text.specs.Numbers.{below, wide_number_of}

-- the text that a word is, if it is one
abbrev pub text_of : List ℕ → Option (List ℕ)
text_of word = if is_text word then Some word else None

-- a reply of one word
abbrev pub reply_alone : List ℕ → Option Reply
reply_alone name =
    if bytes_eq name (codes "done") then Some Reply.Done
    else if bytes_eq name (codes "none") then Some Reply.None
    else None

-- a reply with a text
abbrev pub reply_with : List ℕ → List ℕ → Option Reply
reply_with name word =
    if bytes_eq name (codes "value") then option_map Reply.Value (text_of word)
    else if bytes_eq name (codes "kept") then option_map Reply.Kept (text_of word)
    else None

-- a reply, as a report has it
abbrev pub reply_of : List (List ℕ) → Option Reply
reply_of (name ∷ []) = reply_alone name
reply_of (name ∷ word ∷ []) = reply_with name word
reply_of _ = None

-- the row of a command that was got, one of these
abbrev pub got_of : ℕ → List (List ℕ) → Option Item
got_of rows (row ∷ []) = option_map Item.Got (below rows (wide_number_of row))
got_of rows _ = None

-- the reply that this one of the replicas told of one of these rows, by what follows `told`
abbrev pub told_of : ℕ → ℕ → List ℕ → List (List ℕ) → Option Item
told_of replicas rows by (row ∷ equals ∷ reply) =
    if bytes_eq equals (codes "=")
    then of_three Item.Told (below replicas (wide_number_of by)) (below rows (wide_number_of row))
    (reply_of reply)
    else None
told_of replicas rows by _ = None

-- the item that the words of a line spell, if they spell one of this many replicas and rows
abbrev pub item_of : ℕ → ℕ → List (List ℕ) → Option Item
item_of replicas rows (first ∷ second ∷ []) =
    if bytes_eq first (codes "got") then got_of rows (second ∷ []) else None
item_of replicas rows (first ∷ second ∷ third ∷ words) =
    if bytes_eq first (codes "got") then None
    else if bytes_eq second (codes "told") then told_of replicas rows first (third ∷ words)
    else option_map Item.Event (event_of replicas (first ∷ second ∷ third ∷ words))
item_of replicas rows _ = None

-- it is told by one of this many replicas, if it is told
abbrev pub IsWithin : ℕ → Item → Type 0
IsWithin replicas (Item.Event event) = ⊤
IsWithin replicas (Item.Got row) = ⊤
IsWithin replicas (Item.Told by row reply) = by < replicas
