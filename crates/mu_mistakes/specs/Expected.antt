-- expected: what is expected in place of a refused line, by its cause.
use Rattle.std.specs.Prelude.{ℕ, zero, suc, ◌+◌, ◌-◌, ◌==◌, ◌&&◌, ◌||◌, nat_le, nat_lt, Bool, false, true, if◌then◌else◌, List, [], ◌∷◌, ◌++◌, codes, None, Some}
use Rattle.std.specs.declared.option.Option.{Option}
use Rattle.std.specs.Fmt.{decimal}
use Rattle.std.specs.List.{slice_get}
use Rattle.std.specs.Str.{bytes_eq}
use Rattle.kv_store.specs.Kinds.{name_of_kind, shape_of_kind}
use Rattle.kv_store.specs.declared.command.OpKind.{OpKind}
use Rattle.kv_store.specs.declared.command.OpShape.{OpShape}
use Rattle.kv_store.specs.declared.command.TheConstants.{OP_KINDS}
use Rattle.mu_events.specs.Table.{Row, row_named, rows}
use Rattle.mu_input.specs.declared.TheConstants.{MOST_REPLICAS}
use Rattle.mu_input.specs.declared.cause.TheConstants.{BATCH, CLIENT, EVENT, OPERATION, SCRIPT}
use Rattle.mu_text.specs.Lines.{is_first, lines, words}
use Rattle.mu_text.specs.Numbers.{number_of, within}
use Rattle.mu_mistakes.specs.Flaws.{first_words}

-- the line begins with this word
abbrev pub begins_with : List ℕ → List ℕ → Bool
begins_with word line = is_first word (first_words line)

-- one for a line that begins a client
abbrev pub one_client : List ℕ → ℕ
one_client line = if begins_with (codes "client") line then 1 else 0

-- how many of the first `count` lines begin one
abbrev pub clients_in : ℕ → List (List ℕ) → ℕ
clients_in zero lines = 0
clients_in (suc count) [] = 0
clients_in (suc count) (line ∷ lines) = one_client line + clients_in count lines

-- how many of the lines before this one do
abbrev pub clients_before : List ℕ → ℕ → ℕ
clients_before bytes number = clients_in (number - 1) (lines bytes)

-- how many replicas a line of two words says that there are, if it says so
abbrev pub replicas_of : List (List ℕ) → Option ℕ
replicas_of (name ∷ value ∷ []) = within 1 MOST_REPLICAS (number_of value)
replicas_of _ = None

abbrev pub replicas_in_line : Option (List ℕ) → Option ℕ
replicas_in_line None = None
replicas_in_line (Some line) = replicas_of (words line)

-- how many the second line of an input says that there are
abbrev pub replicas_in : List ℕ → Option ℕ
replicas_in bytes = replicas_in_line (slice_get (lines bytes) 1)

-- there is such a line, and it is this one
abbrev pub is_line : List ℕ → Option (List ℕ) → Bool
is_line wanted None = false
is_line wanted (Some line) = bytes_eq line wanted

-- what a replica is below
abbrev pub below_words : Option ℕ → List ℕ
below_words None = codes "below the number of replicas"
below_words (Some replicas) = codes "below " ++ decimal replicas

-- what is expected if this is the cause, and nothing else of the input counts
abbrev pub cause_words : ℕ → List ℕ
cause_words cause =
    if cause == 1
    then codes "mu 1 or mu 2, the first line of a job; a trace has its job before the events"
    else if cause == 2 then codes "replicas N, with N from 1 to 7"
    else if cause == 3 then codes "ring K, with K from 8 to 1024"
    else if cause == 4 then codes "budget B, with B from 1 to 131071"
    else if cause == 7 then codes "a key of 1 to 24 bytes, each from 33 to 126"
    else if cause == 8
    then codes "a text of 1 to 64 bytes, each from 33 to 126, and of 1 to 32 in cas"
    else if cause == 9
    then codes "no more than 16 clients, 1500 commands and 100 lines of the script"
    else if cause == 12 then codes "no line after the last end"
    else codes "batch M, with M from 1 to 4, the fifth line of a job of mu 2"

-- what stands behind the name of an operation
abbrev pub shape_words : OpShape → List ℕ
shape_words OpShape.Nothing = codes " KEY, "
shape_words OpShape.Text = codes " KEY TEXT, "
shape_words OpShape.Texts = codes " KEY OLD NEW, "

-- how the lines of these operations read
abbrev pub kinds_words : List OpKind → List ℕ
kinds_words [] = []
kinds_words (kind ∷ kinds) =
    name_of_kind kind ++ shape_words (shape_of_kind kind) ++ kinds_words kinds

-- a command, or what else may stand there
abbrev pub operations_words : List ℕ
operations_words =
    kinds_words OP_KINDS
    ++ codes "client N, script or end, in small letters; no key or text has a space"

-- the same, or what goes before a stop or pause
abbrev pub command_words : List ℕ → List ℕ
command_words line =
    if begins_with (codes "stop") line || begins_with (codes "pause") line
    then codes "script, alone in its line, before the first stop or pause"
    else operations_words

-- the next client
abbrev pub client_words : ℕ → List ℕ
client_words clients =
    codes "client " ++ decimal clients ++ codes ", the next client, before its first command"

-- a line of the script
abbrev pub script_words : Option ℕ → List ℕ
script_words replicas =
    codes "stop R K, once per R; pause R K M, with K above that of R's last pause; or end. R is "
    ++ below_words replicas ++ codes ", K at most 131071, M from 1 to 10000"

-- the names of the verbs of these rows with a comma before each but the first, before which this
-- stands
abbrev pub names_words : List ℕ → List Row → List ℕ
names_words before [] = []
names_words before (row ∷ rows) = before ++ row.name ++ names_words (codes ", ") rows

-- the names of all verbs
abbrev pub verb_words : List ℕ
verb_words = codes "BY VERB in small letters" ++ names_words (codes ": ") rows

-- an event whose replica is wrong
abbrev pub replica_words : Option ℕ → List ℕ
replica_words replicas =
    codes "BY VERB = ANSWER, with BY " ++ below_words replicas ++ codes ", or end"

-- how the line of an event reads whose verb has this row
abbrev pub line_of_row : Row → List ℕ
line_of_row row = codes "BY " ++ row.name ++ row.behind ++ codes "; numbers have no leading zero"

-- an event of this verb
abbrev pub row_words : Option Row → List ℕ
row_words None = verb_words
row_words (Some row) = line_of_row row

-- there is a number, and it is below that of the replicas
abbrev pub is_replica : Option ℕ → Option ℕ → Bool
is_replica (Some replicas) (Some by) = nat_lt by replicas
is_replica _ _ = false

-- an event of these words: its replica is judged first, and then the name of its verb
abbrev pub event_words : Option ℕ → List (List ℕ) → List ℕ
event_words replicas (by ∷ name ∷ words) =
    if is_replica replicas (number_of by) then row_words (row_named name)
    else replica_words replicas
event_words replicas _ = replica_words replicas

-- what is expected in place of this line, if this is the cause
abbrev pub line_words : List ℕ → ℕ → List ℕ → ℕ → List ℕ
line_words bytes number line cause =
    if cause == CLIENT then client_words (clients_before bytes number)
    else if cause == OPERATION then command_words line
    else if cause == SCRIPT then script_words (replicas_in bytes)
    else if cause == EVENT then event_words (replicas_in bytes) (first_words line)
    else cause_words cause

-- the line of this number is the missing one of a batch
abbrev pub lacks_batch : List ℕ → ℕ → Bool
lacks_batch bytes number = number == 5 && is_line (codes "mu 2") (slice_get (lines bytes) 0)

-- what is expected after the last line, by whether it is an `end`, which then ends only a job
abbrev pub ending_words : Bool → List ℕ
ending_words true = codes "the events of a trace and another end: the job alone fits"
ending_words false = codes "end, the last line of a job and of a trace"

-- what is expected if the input ends before a line: the first four lines have their numbers for
-- causes, and a job of version 2 has a fifth
abbrev pub missing_words : List ℕ → ℕ → List ℕ
missing_words bytes number =
    if nat_le number 4 then cause_words number
    else if lacks_batch bytes number then cause_words BATCH
    else ending_words (is_line (codes "end") (slice_get (lines bytes) (number - 2)))

-- what is expected at this place, if a line stands there or is missing
abbrev pub wanted_words : List ℕ → ℕ → Option (List ℕ) → ℕ → List ℕ
wanted_words bytes number None cause = missing_words bytes number
wanted_words bytes number (Some line) cause = line_words bytes number line cause

abbrev pub expected_words : List ℕ → ℕ → Option (List ℕ) → ℕ → List ℕ
expected_words bytes number line cause =
    codes "expected: " ++ wanted_words bytes number line cause
