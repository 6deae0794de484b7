-- told alone: what is told to a request that asks nothing of the store or of a replica.
use Rattle.std.specs.Prelude.{ℕ, if◌then◌else◌, List, [], ◌++◌, codes, slice_index_or}
use Rattle.std.specs.Str.{bytes_eq}
use Rattle.mu_resp.specs.Answers.{array, integer, nil, refusal, simple}
use Rattle.mu_resp.specs.Requests.{bulk}
use Rattle.mu_redis.specs.Refusals.{words_of_refused}
use Rattle.mu_redis.specs.declared.asked.Asked.{Asked}

-- the word at a place, or none
abbrev pub word_at : ℕ → List (List ℕ) → List ℕ
word_at place words = slice_index_or words place []

-- a setting and its value: nothing is kept on disk
abbrev pub setting_is : List ℕ → List ℕ → List ℕ
setting_is name value = array 2 ++ bulk name ++ bulk value

abbrev pub setting_told : List ℕ → List ℕ
setting_told name =
    if bytes_eq name (codes "save") then setting_is name []
    else (if bytes_eq name (codes "appendonly") then setting_is name (codes "no") else array 0)

-- what the server is: names and values in turn
abbrev pub server_told : List ℕ
server_told =
    bulk (codes "server") ++ bulk (codes "mu") ++ bulk (codes "version") ++ bulk (codes "7.0.0")
    ++ bulk (codes "proto") ++ integer 2

abbrev pub mode_told : List ℕ
mode_told =
    bulk (codes "id") ++ integer 1 ++ bulk (codes "mode") ++ bulk (codes "standalone")
    ++ bulk (codes "role") ++ bulk (codes "master") ++ bulk (codes "modules") ++ array 0

abbrev pub hello_told : List ℕ
hello_told = array 14 ++ server_told ++ mode_told

-- what is told to a request of these words, which asks this
abbrev pub told_alone : Asked → List (List ℕ) → List ℕ
told_alone Asked.Pong words = simple (codes "PONG")
told_alone Asked.Echo words = bulk (word_at 1 words)
told_alone Asked.Fine words = simple (codes "OK")
told_alone Asked.Nil words = nil
told_alone Asked.One words = integer 1
told_alone Asked.Empty words = array 0
told_alone Asked.Hello words = hello_told
told_alone Asked.Setting words = setting_told (word_at 2 words)
told_alone Asked.Quit words = simple (codes "OK")
told_alone (Asked.Refused why) words = refusal (words_of_refused why)
told_alone _ words = []
