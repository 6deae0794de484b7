-- names: the names of commands, and of words behind them, by which they are served. Their letters may
-- be large or small.
use Rattle.std.specs.Prelude.{ℕ, ◌+◌, ◌&&◌, nat_le, if◌then◌else◌, List, [], ◌∷◌, length, map, find, codes}
use Rattle.std.specs.declared.option.Option.{Option}
use Rattle.std.specs.Str.{bytes_eq}
use Rattle.mu_redis.specs.declared.TheConstants.{NAME_BYTES}
use Rattle.mu_redis.specs.declared.command_name.CommandName.{CommandName}
use Rattle.mu_redis.specs.declared.command_name.CommandName.TheVariants as command
use Rattle.mu_redis.specs.declared.command_name.OwnName.{OwnName}
use Rattle.mu_redis.specs.declared.command_name.OwnName.TheVariants as own
use Rattle.mu_redis.specs.declared.command_name.PartName.{PartName}
use Rattle.mu_redis.specs.declared.command_name.PartName.TheVariants as part

-- the small letter of a large one; another byte as it is
abbrev pub small : ℕ → ℕ
small byte = if nat_le 65 byte && nat_le byte 90 then byte + 32 else byte

-- a name in small letters: no name is longer than this
abbrev pub small_name : List ℕ → List ℕ
small_name word = if nat_le (length word) NAME_BYTES then map small word else []

-- the name of a command
abbrev pub name_of_command : CommandName → List ℕ
name_of_command command.Get = codes "get"
name_of_command command.Exists = codes "exists"
name_of_command command.Strlen = codes "strlen"
name_of_command command.Set = codes "set"
name_of_command command.Del = codes "del"
name_of_command command.Getset = codes "getset"
name_of_command command.Mu = codes "mu"
name_of_command command.Ping = codes "ping"
name_of_command command.Echo = codes "echo"
name_of_command command.Hello = codes "hello"
name_of_command command.Select = codes "select"
name_of_command command.Client = codes "client"
name_of_command command.Config = codes "config"
name_of_command command.Command = codes "command"
name_of_command command.Info = codes "info"
name_of_command command.Quit = codes "quit"
name_of_command command.Mget = codes "mget"
name_of_command command.Mset = codes "mset"
name_of_command command.Msetnx = codes "msetnx"
name_of_command command.Setnx = codes "setnx"
name_of_command command.Setex = codes "setex"
name_of_command command.Psetex = codes "psetex"
name_of_command command.Dbsize = codes "dbsize"

abbrev pub commands : List CommandName
commands =
    command.Get ∷ command.Exists ∷ command.Strlen ∷ command.Set ∷ command.Del ∷ command.Getset
    ∷ command.Mu ∷ command.Ping ∷ command.Echo ∷ command.Hello ∷ command.Select ∷ command.Client
    ∷ command.Config ∷ command.Command ∷ command.Info ∷ command.Quit ∷ command.Mget ∷ command.Mset
    ∷ command.Msetnx ∷ command.Setnx ∷ command.Setex ∷ command.Psetex ∷ command.Dbsize ∷ []

-- the command with this name, if there is one
abbrev pub command_named : List ℕ → Option CommandName
command_named name = find (λ c. bytes_eq name (name_of_command c)) commands

-- the same of the server's own
abbrev pub name_of_own : OwnName → List ℕ
name_of_own own.Stop = codes "stop"
name_of_own own.Pause = codes "pause"
name_of_own own.Back = codes "back"
name_of_own own.Cas = codes "cas"
name_of_own own.Status = codes "status"

abbrev pub own_named : List ℕ → Option OwnName
own_named name =
    find (λ c. bytes_eq name (name_of_own c))
    (own.Stop ∷ own.Pause ∷ own.Back ∷ own.Cas ∷ own.Status ∷ [])

-- the same of words behind the name
abbrev pub name_of_part : PartName → List ℕ
name_of_part part.Get = codes "get"
name_of_part part.Setname = codes "setname"
name_of_part part.Setinfo = codes "setinfo"
name_of_part part.Getname = codes "getname"
name_of_part part.Id = codes "id"

abbrev pub part_named : List ℕ → Option PartName
part_named name =
    find (λ c. bytes_eq name (name_of_part c))
    (part.Get ∷ part.Setname ∷ part.Setinfo ∷ part.Getname ∷ part.Id ∷ [])
