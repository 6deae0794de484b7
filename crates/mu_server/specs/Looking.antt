-- sees: what stands in front of the bytes that came: a request and what is told to it without the
-- store, less than one, or none.
use Rattle.std.specs.Prelude.{ℕ, ◌≡◌, ◌≤◌, List, ◌++◌, drop, length, Err, Ok}
use Rattle.mu_resp.specs.Readings.{request_at}
use Rattle.mu_resp.specs.Requests.{request}
use Rattle.mu_resp.specs.declared.stop.Stop.TheVariants as stop
use Rattle.mu_redis.specs.Alone.{told_alone}
use Rattle.mu_redis.specs.Asking.{CanBeDone, asks}
use Rattle.mu_redis.specs.declared.asked.Asked.{Asked}
use Rattle.mu_server.specs.declared.looking.Look.{Look}

-- the bytes begin with a request, which has so many bytes, asks this, and is told this without the
-- store
pub record SeesRequest (replicas : ℕ) (bytes : List ℕ) (asked : Asked) (count : ℕ)
    (text : List ℕ) : Type 0 where
  pub words : List (List ℕ)
  pub rest : List ℕ
  pub is : request_at bytes ≡ Ok (words, rest)
  pub spelled : bytes ≡ request words ++ rest
  pub asked_is : asked ≡ asks replicas words
  pub can : CanBeDone replicas asked
  pub within : count ≤ length bytes
  pub left : rest ≡ drop count bytes
  pub told : text ≡ told_alone asked words

abbrev pub Sees : ℕ → List ℕ → Look → List ℕ → Type 0
Sees replicas bytes Look.Short text = request_at bytes ≡ Err stop.Short
Sees replicas bytes (Look.Wrong fault) text = request_at bytes ≡ Err (stop.Wrong fault)
Sees replicas bytes (Look.Request asked count) text = SeesRequest replicas bytes asked count text
