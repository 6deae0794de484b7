-- laws of requests: what is spelled is read, whatever follows it, what is read is spelled so, and
-- neither a request nor a refusal changes once it is read.
use Rattle.std.specs.Prelude.{ℕ, ◌≡◌, ◌≢◌, ◌<◌, List, ◌++◌, length, Err, Ok}
use Rattle.mu_resp.specs.declared.stop.Fault.{Fault}
use Rattle.mu_resp.specs.declared.stop.Stop.TheVariants.{Short, Wrong}
use Rattle.mu_resp.specs.declared.TheConstants.{MOST_REQUEST_BYTES}
use Rattle.mu_resp.specs.Readings.{request_at}
use Rattle.mu_resp.specs.Requests.{IsRequest, request}

-- a request is read, and the bytes behind it are left
abbrev pub IsReadAgain : Type 0
IsReadAgain =
    (words : List (List ℕ)) (rest : List ℕ) → IsRequest words
    → request_at (request words ++ rest) ≡ Ok (words, rest)

-- what is read is a request, which the bytes begin with
abbrev pub IsSpelled : Type 0
IsSpelled =
    (bytes : List ℕ) (words : List (List ℕ)) (rest : List ℕ)
    → request_at bytes ≡ Ok (words, rest) → IsRequest words × (bytes ≡ request words ++ rest)

-- once a request is read, it is the same however the bytes go on
abbrev pub IsReadForGood : Type 0
IsReadForGood =
    (bytes more : List ℕ) (words : List (List ℕ)) (rest : List ℕ)
    → request_at bytes ≡ Ok (words, rest) → request_at (bytes ++ more) ≡ Ok (words, rest ++ more)

-- and so is why there is none
abbrev pub IsRefusedForGood : Type 0
IsRefusedForGood =
    (bytes more : List ℕ) (fault : Fault) → request_at bytes ≡ Err (Wrong fault)
    → request_at (bytes ++ more) ≡ Err (Wrong fault)

-- what a request begins with isn't refused
abbrev pub IsRefusedJustly : Type 0
IsRefusedJustly =
    (bytes more : List ℕ) (words : List (List ℕ)) (rest : List ℕ) (fault : Fault)
    → IsRequest words → bytes ++ more ≡ request words ++ rest
    → request_at bytes ≢ Err (Wrong fault)

-- a request that isn't whole yet has few bytes: so a buffer that holds as many never stands still
abbrev pub IsSoonWhole : Type 0
IsSoonWhole =
    (bytes : List ℕ) → request_at bytes ≡ Err Short → length bytes < MOST_REQUEST_BYTES
