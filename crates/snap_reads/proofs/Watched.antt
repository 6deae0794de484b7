-- Readers alongside the writer: what their gets leave.
use Rattle.std.proofs.Common.{◌≡◌, ℕ, suc, zero, ◌+◌, ◌<◌, ◌==◌, Bool, false, List, [], ◌∷◌, ◌++◌, length, map, refl, sym, ap, subst, ◌∙◌, arith, length-append, true≢false}
use Rattle.std.specs.Prelude.{All, replicate, slice_index_or}
use Rattle.std.proofs.lemmas.List.{get_or-map, get_or-replicate, length-map, length-replicate}
use Rattle.snap_reads.specs.declared.sight.Sight.{Sight}
use Rattle.snap_reads.specs.declared.watching.Watcher.{Watcher}
use Rattle.snap_reads.specs.Keys.{gets_beside, key_at, round}
use Rattle.snap_reads.specs.Lives.{AreNumbered, HasWatched}
use Rattle.snap_reads.specs.Seats.{Reading}

pub round_length : (keys : List (List ℕ)) (count : ℕ) → length (round keys count) ≡ count
round_length keys zero = refl
round_length keys (suc k) = let rest = round_length keys k in let long = length-append (round keys k) (key_at keys k ∷ []) in omega (arith, rest, long)

-- there is a sight of each get
pub watched_length : (first : Reading) (keys : List (List ℕ)) (count : ℕ) (w : Watcher) → HasWatched first keys count w → length w.sights.items ≡ count
watched_length first keys count w watched = sym (length-map w.sights.items (λ (s : Sight). s.key)) ∙ (ap length watched.keys ∙ round_length keys count)

-- a list of keys that isn't empty
pub not_empty : (keys : List (List ℕ)) (b : Bool) → b ≡ (length keys == 0) → b ≡ false → 0 < length keys
not_empty [] b is some = absurd (true≢false (sym is ∙ some))
not_empty (key ∷ keys) b is some = omega arith

pub gets_some : (keys : List (List ℕ)) → 0 < length keys → gets_beside keys ≡ 200
gets_some [] some = absurd (omega arith)
gets_some (key ∷ keys) some = refl

-- readers that are these, of one table and fresh
pub all_fresh : (first : Reading) (count : ℕ) (watchers : List Watcher) → map (λ (w : Watcher). w.reader) watchers ≡ replicate count first → All (λ (w : Watcher). w.reader ≡ first) watchers
all_fresh first count watchers same k d low =
    let long = sym (length-map watchers (λ (w : Watcher). w.reader)) ∙ (ap length same ∙ length-replicate count first) in
    sym (get_or-map (λ (w : Watcher). w.reader) watchers k d first low) ∙ (ap (λ l. slice_index_or l k first) same ∙ get_or-replicate count k first first (omega (arith, low, long)))

-- what each of them made of itself while the writer ran
pub all_watched : (first : Reading) (keys : List (List ℕ)) (count : ℕ) (before after : List Watcher) → length after ≡ length before → All (λ (w : Watcher). w.reader ≡ first) before
    → ((i : ℕ) (d : Watcher) → i < length before → HasWatched (slice_index_or before i d).reader keys count (slice_index_or after i d)) → All (HasWatched first keys count) after
all_watched first keys count before after long fresh each i d low =
    let inside : i < length before = omega (arith, low, long) in
    subst (λ (r : Reading). HasWatched r keys count (slice_index_or after i d)) (fresh i d inside) (each i d inside)

-- one more reader, with the next number
pub numbered_push : (first : ℕ) (watchers : List Watcher) (w : Watcher) → AreNumbered first watchers → w.number ≡ first + length watchers → AreNumbered first (watchers ++ w ∷ [])
numbered_push first [] w numbered next = (omega (arith, next), tt)
numbered_push first (watcher ∷ watchers) w numbered next = (numbered.0, numbered_push (first + 1) watchers w numbered.1 (omega (arith, next)))
