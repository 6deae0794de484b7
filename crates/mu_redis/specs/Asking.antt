-- asking: what a request of these words asks for.
use Rattle.std.specs.Prelude.{ℕ, ◌<◌, ◌&&◌, nat_le, if◌then◌else◌, List, [], ◌∷◌, length, None, Some, codes, ⊤}
use Rattle.std.specs.declared.option.Option.{Option}
use Rattle.std.specs.Str.{bytes_eq}
use Rattle.kv_store.specs.Commands.{HasShortTexts}
use Rattle.kv_store.specs.declared.TheConstants.{CAS_TEXT_BYTES}
use Rattle.kv_store.specs.declared.command.Op.TheVariants as op
use Rattle.mu_strings.specs.Spellings.{key_spelled, text_spelled}
use Rattle.mu_text.specs.Numbers.{below, number_of, within}
use Rattle.mu_redis.specs.Names.{command_named, own_named, part_named, small_name}
use Rattle.mu_redis.specs.declared.TheConstants.{MOST_PAUSED}
use Rattle.mu_redis.specs.declared.asked.Asked.{Asked}
use Rattle.mu_redis.specs.declared.asked.Refused.TheVariants as refused
use Rattle.mu_redis.specs.declared.command_name.CommandName.{CommandName}
use Rattle.mu_redis.specs.declared.command_name.OwnName.{OwnName}
use Rattle.mu_redis.specs.declared.command_name.PartName.{PartName}
use Rattle.mu_redis.specs.declared.wording.Wording.{Wording}

-- reading a key, if it is one
abbrev pub get : Wording → Option (List ℕ) → Asked
get wording None = Asked.Refused refused.Key
get wording (Some key) = Asked.Operation (op.Get key) wording

abbrev pub get_words : Wording → List (List ℕ) → Asked
get_words wording [] = Asked.Refused refused.Words
get_words wording (key ∷ []) = get wording (key_spelled key)
get_words wording _ = Asked.Refused refused.Keys

-- removing a key
abbrev pub del : Option (List ℕ) → Asked
del None = Asked.Refused refused.Key
del (Some key) = Asked.Operation (op.Del key) Wording.Count

abbrev pub del_words : List (List ℕ) → Asked
del_words [] = Asked.Refused refused.Words
del_words (key ∷ []) = del (key_spelled key)
del_words _ = Asked.Refused refused.Keys

-- setting a value
abbrev pub put : Option (List ℕ) → Option (List ℕ) → Asked
put None text = Asked.Refused refused.Key
put (Some key) None = Asked.Refused refused.Value
put (Some key) (Some text) = Asked.Operation (op.Put key text) Wording.Fine

-- setting a value, and telling the one before
abbrev pub swap : Option (List ℕ) → Option (List ℕ) → Asked
swap None text = Asked.Refused refused.Key
swap (Some key) None = Asked.Refused refused.Value
swap (Some key) (Some text) = Asked.Operation (op.Swap key text) Wording.Value

-- setting a value with a word behind it
abbrev pub set_as : Option PartName → List ℕ → List ℕ → Asked
set_as (Some PartName.Get) key value = swap (key_spelled key) (text_spelled value)
set_as _ key value = Asked.Refused refused.Option

abbrev pub set_words : List (List ℕ) → Asked
set_words (key ∷ value ∷ []) = put (key_spelled key) (text_spelled value)
set_words (key ∷ value ∷ flag ∷ []) = set_as (part_named (small_name flag)) key value
set_words (key ∷ value ∷ flag ∷ more ∷ words) = Asked.Refused refused.Option
set_words _ = Asked.Refused refused.Words

abbrev pub getset_words : List (List ℕ) → Asked
getset_words (key ∷ value ∷ []) = swap (key_spelled key) (text_spelled value)
getset_words _ = Asked.Refused refused.Words

-- setting a value if the key has another
abbrev pub cas_short : List ℕ → List ℕ → List ℕ → Asked
cas_short key old new =
    if nat_le (length old) CAS_TEXT_BYTES && nat_le (length new) CAS_TEXT_BYTES
    then Asked.Operation (op.Cas key old new) Wording.Fine
    else Asked.Refused refused.Value

abbrev pub cas : Option (List ℕ) → Option (List ℕ) → Option (List ℕ) → Asked
cas None old new = Asked.Refused refused.Key
cas (Some key) None new = Asked.Refused refused.Value
cas (Some key) (Some old) None = Asked.Refused refused.Value
cas (Some key) (Some old) (Some new) = cas_short key old new

abbrev pub cas_words : List (List ℕ) → Asked
cas_words (key ∷ old ∷ new ∷ []) = cas (key_spelled key) (text_spelled old) (text_spelled new)
cas_words _ = Asked.Refused refused.Words

-- stopping a replica, pausing it, and ending its stop
abbrev pub stop : Option ℕ → Asked
stop None = Asked.Refused refused.Number
stop (Some replica) = Asked.Stop replica

abbrev pub stop_words : ℕ → List (List ℕ) → Asked
stop_words replicas (word ∷ []) = stop (below replicas (number_of word))
stop_words replicas _ = Asked.Refused refused.Words

abbrev pub pause : Option ℕ → Option ℕ → Asked
pause None rounds = Asked.Refused refused.Number
pause (Some replica) None = Asked.Refused refused.Number
pause (Some replica) (Some rounds) = Asked.Pause replica rounds

abbrev pub pause_words : ℕ → List (List ℕ) → Asked
pause_words replicas (word ∷ rounds ∷ []) =
    pause (below replicas (number_of word)) (within 1 MOST_PAUSED (number_of rounds))
pause_words replicas _ = Asked.Refused refused.Words

abbrev pub back : Option ℕ → Asked
back None = Asked.Refused refused.Number
back (Some replica) = Asked.Back replica

abbrev pub back_words : ℕ → List (List ℕ) → Asked
back_words replicas (word ∷ []) = back (below replicas (number_of word))
back_words replicas _ = Asked.Refused refused.Words

-- the server's own commands
abbrev pub own_as : ℕ → Option OwnName → List (List ℕ) → Asked
own_as replicas (Some OwnName.Stop) words = stop_words replicas words
own_as replicas (Some OwnName.Pause) words = pause_words replicas words
own_as replicas (Some OwnName.Back) words = back_words replicas words
own_as replicas (Some OwnName.Cas) words = cas_words words
own_as replicas (Some OwnName.Status) words = Asked.Information
own_as replicas None words = Asked.Refused refused.Syntax

abbrev pub own_words : ℕ → List (List ℕ) → Asked
own_words replicas [] = Asked.Refused refused.Words
own_words replicas (name ∷ words) = own_as replicas (own_named (small_name name)) words

-- what is answered without the store
abbrev pub ping_words : List (List ℕ) → Asked
ping_words [] = Asked.Pong
ping_words (word ∷ []) = Asked.Echo
ping_words _ = Asked.Refused refused.Words

abbrev pub echo_words : List (List ℕ) → Asked
echo_words (word ∷ []) = Asked.Echo
echo_words _ = Asked.Refused refused.Words

abbrev pub hello_words : List (List ℕ) → Asked
hello_words [] = Asked.Hello
hello_words (version ∷ words) =
    if bytes_eq version (codes "2") then Asked.Hello else Asked.Refused refused.Protocol

abbrev pub select_words : List (List ℕ) → Asked
select_words (number ∷ []) =
    if bytes_eq number (codes "0") then Asked.Fine else Asked.Refused refused.Database
select_words _ = Asked.Refused refused.Words

abbrev pub client_as : Option PartName → Asked
client_as (Some PartName.Setname) = Asked.Fine
client_as (Some PartName.Setinfo) = Asked.Fine
client_as (Some PartName.Getname) = Asked.Nil
client_as (Some PartName.Id) = Asked.One
client_as _ = Asked.Refused refused.Syntax

abbrev pub client_words : List (List ℕ) → Asked
client_words [] = Asked.Refused refused.Words
client_words (name ∷ words) = client_as (part_named (small_name name))

abbrev pub config_as : Option PartName → Asked
config_as (Some PartName.Get) = Asked.Setting
config_as _ = Asked.Refused refused.Syntax

abbrev pub config_words : List (List ℕ) → Asked
config_words (name ∷ setting ∷ []) = config_as (part_named (small_name name))
config_words _ = Asked.Refused refused.Words

-- what a command with these words behind its name asks for
abbrev pub asks_of : ℕ → Option CommandName → List (List ℕ) → Asked
asks_of replicas None words = Asked.Refused refused.Unknown
asks_of replicas (Some CommandName.Get) words = get_words Wording.Value words
asks_of replicas (Some CommandName.Exists) words = get_words Wording.Count words
asks_of replicas (Some CommandName.Strlen) words = get_words Wording.Length words
asks_of replicas (Some CommandName.Set) words = set_words words
asks_of replicas (Some CommandName.Del) words = del_words words
asks_of replicas (Some CommandName.Getset) words = getset_words words
asks_of replicas (Some CommandName.Mu) words = own_words replicas words
asks_of replicas (Some CommandName.Ping) words = ping_words words
asks_of replicas (Some CommandName.Echo) words = echo_words words
asks_of replicas (Some CommandName.Hello) words = hello_words words
asks_of replicas (Some CommandName.Select) words = select_words words
asks_of replicas (Some CommandName.Client) words = client_words words
asks_of replicas (Some CommandName.Config) words = config_words words
asks_of replicas (Some CommandName.Command) words = Asked.Empty
asks_of replicas (Some CommandName.Info) words = Asked.Information
asks_of replicas (Some CommandName.Quit) words = Asked.Quit
asks_of replicas (Some CommandName.Mget) words = Asked.Refused refused.Keys
asks_of replicas (Some CommandName.Mset) words = Asked.Refused refused.Keys
asks_of replicas (Some CommandName.Msetnx) words = Asked.Refused refused.Keys
asks_of replicas (Some CommandName.Setnx) words = Asked.Refused refused.Option
asks_of replicas (Some CommandName.Setex) words = Asked.Refused refused.Option
asks_of replicas (Some CommandName.Psetex) words = Asked.Refused refused.Option
asks_of replicas (Some CommandName.Dbsize) words = Asked.Refused refused.Size

-- what a request asks for, in a server of so many replicas
abbrev pub asks : ℕ → List (List ℕ) → Asked
asks replicas [] = Asked.Nothing
asks replicas (name ∷ words) = asks_of replicas (command_named (small_name name)) words

-- the engine can do it: two texts are short, and there is such a replica
abbrev pub CanBeDone : ℕ → Asked → Type 0
CanBeDone replicas (Asked.Operation op wording) = HasShortTexts op
CanBeDone replicas (Asked.Stop replica) = replica < replicas
CanBeDone replicas (Asked.Pause replica rounds) = replica < replicas
CanBeDone replicas (Asked.Back replica) = replica < replicas
CanBeDone replicas _ = ⊤
