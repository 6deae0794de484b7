-- sights of readers: what each reader saw while the writer published, and what it saw at last.
use Rattle.std.specs.Prelude.{ℕ, ◌+◌, ◌≡◌, ◌≤◌, List, [], ◌∷◌, length, map, drop, All, vec_capacity, ⊤}
use Rattle.kv_store.specs.Commands.{Request}
use Rattle.mu_outcome.specs.declared.outcome.Outcome.{Outcome}
use Rattle.mu_outcome.specs.Entries.{commands_in, longest}
use Rattle.snap_reads.specs.declared.sight.Sight.{Sight}
use Rattle.snap_reads.specs.declared.watching.Watcher.{Watcher}
use Rattle.snap_reads.specs.Keys.{gets, gets_beside, keys_of, round}
use Rattle.snap_reads.specs.Seats.{Reading}
use Rattle.snap_reads.specs.Sights.{AreRight, NeverFall}

-- the keys of sights, in order
abbrev pub keys_seen : List Sight → List (List ℕ)
keys_seen sights = map (λ sight. sight.key) sights

-- the sights of a reader while these commands were published, and after it was told of them at last
pub record AreSights (commands : List Request) (all : List (List ℕ))
    (sights : List Sight) : Type 0 where
  -- every sight is right
  pub right : AreRight commands sights
  -- there is one of each get: round the keys, and then of each key once
  pub keys : keys_seen sights ≡ gets all
  -- no sight saw fewer commands than the one before it
  pub rise : NeverFall 0 sights
  -- each of the last ones, one of each key, saw all commands
  pub last : All (λ sight. sight.seen.upto ≡ length commands) (drop (gets_beside all) sights)

-- the commands of the longest log of an outcome
abbrev pub told_commands : Outcome → List Request
told_commands o = commands_in o.job (longest o.logs)

-- the sights of this number of readers of the commands of an outcome's longest log
pub record AreAllSights (o : Outcome) (readers : ℕ) (lists : List (List Sight)) : Type 0 where
  pub count : length lists ≡ readers
  pub each : All (AreSights (told_commands o) (keys_of (told_commands o))) lists

-- a reader that has noted nothing, and has room for what it will see, and no more
pub record IsReady (keys : ℕ) (w : Watcher) : Type 0 where
  pub none : w.sights.items ≡ []
  pub room : vec_capacity w.sights ≡ 200 + keys

-- readers are numbered from this number on
abbrev pub AreNumbered : ℕ → List Watcher → Type 0
AreNumbered first [] = ⊤
AreNumbered first (watcher ∷ watchers) =
    (watcher.number ≡ first) × AreNumbered (first + 1) watchers

-- a reader that was this one, and since then made `count` gets round the keys
pub record HasWatched (first : Reading) (all : List (List ℕ)) (count : ℕ)
    (w : Watcher) : Type 0 where
  pub reader : w.reader ≡ record first { seen = w.reader.seen }
  pub right : AreRight w.reader.seen w.sights.items
  pub keys : keys_seen w.sights.items ≡ round all count
  pub rise : NeverFall 0 w.sights.items
  pub room : 200 + length all ≤ vec_capacity w.sights
