-- refusals: in which words a client of Redis is told that a request isn't served.
use Rattle.std.specs.Prelude.{ℕ, ◌&&◌, nat_le, if◌then◌else◌, List, [], ◌∷◌, ◌++◌, codes}
use Rattle.mu_resp.specs.declared.stop.Fault.{Fault}
use Rattle.mu_resp.specs.declared.stop.Fault.TheVariants as fault
use Rattle.mu_redis.specs.declared.asked.Refused.{Refused}
use Rattle.mu_redis.specs.declared.asked.Refused.TheVariants as refused

-- why a request isn't served
abbrev pub words_of_refused : Refused → List ℕ
words_of_refused refused.Unknown = codes "ERR unknown command"
words_of_refused refused.Words = codes "ERR wrong number of arguments"
words_of_refused refused.Syntax = codes "ERR syntax error"
words_of_refused refused.Number = codes "ERR value is not an integer or out of range"
words_of_refused refused.Key =
    codes "ERR a key has at most 24 bytes here, and 8 if none is visible"
words_of_refused refused.Value =
    codes "ERR a value has at most 64 bytes here, and 21 if none is visible"
words_of_refused refused.Keys =
    codes "ERR one key a command here: several keys would be several commands"
words_of_refused refused.Database = codes "ERR DB index is out of range"
words_of_refused refused.Protocol = codes "NOPROTO unsupported protocol version"
words_of_refused refused.Option =
    codes "ERR of the options of SET only GET is here, not NX, XX or EX (see MU CAS)"
words_of_refused refused.Size = codes "ERR no command of the store counts its keys"

-- a byte as it is shown
abbrev pub shown : ℕ → ℕ
shown byte = if nat_le 32 byte && nat_le byte 126 then byte else 63

-- why bytes are no request
abbrev pub words_of_fault : Fault → List ℕ
words_of_fault (fault.NoRequest byte) =
    codes "ERR Protocol error: expected '*', got '" ++ shown byte ∷ 39 ∷ []
words_of_fault (fault.NoWord byte) =
    codes "ERR Protocol error: expected '$', got '" ++ shown byte ∷ 39 ∷ []
words_of_fault fault.WordCount = codes "ERR Protocol error: invalid multibulk length"
words_of_fault fault.WordLength = codes "ERR Protocol error: invalid bulk length"
words_of_fault fault.LineEnd = codes "ERR Protocol error: expected CRLF"

-- a command got no reply in time
abbrev pub no_reply : List ℕ
no_reply = codes "TRYAGAIN no reply in time; it may still be done"

-- a command wasn't taken, since the store had no room for it in time
abbrev pub no_room : List ℕ
no_room = codes "TRYAGAIN no room in the log in time; it was not done"

-- the store has as many keys as may be
abbrev pub many_keys : List ℕ
many_keys = codes "OOM as many keys as there may be"

-- the replica is stopped
abbrev pub is_stopped : List ℕ
is_stopped = codes "ERR the replica is stopped"
