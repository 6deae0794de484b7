-- In a replay without a pause, of version 2, the least replica that isn't stopped has every command in time, in any ring.
use Rattle.std.proofs.Common.{◌≡◌, ◌∙◌, ℕ, ◌+◌, ◌<◌, ◌≤◌, Bool, true, false, List, ◌∷◌, ◌++◌, ap, append_assoc, arith, length, sym}
use Rattle.std.specs.Prelude.{not, slice_index}
use Rattle.std.proofs.lemmas.Bool.{true≢false}
use Rattle.mu_model.specs.declared.config.Config.{Config}
use Rattle.mu_model.specs.declared.event.Event.{Event}
use Rattle.mu_model.specs.Contents.{IsConfig}
use Rattle.mu_model.specs.Histories.{part}
use Rattle.mu_alive.specs.Failing.{failing_steps}
use Rattle.mu_alive.specs.Stopping.{HoldsFailed, IsUnblocked, last_raising_in_any_ring}
use Rattle.mu_alive.proofs.Stopping.{last_raises}
use Rattle.mu_cluster.specs.Rounds.{part_of}
use Rattle.mu_cluster.proofs.Naming.{AreUnpaused}
use Rattle.mu_cluster.proofs.Onward.{AreNodes}
use Rattle.mu_cluster.proofs.Outliving.{fails_then, leads_last}
use Rattle.mu_cluster.proofs.Raised.{RaisedBy, raised_at}
use Rattle.mu_cluster.proofs.Taken.{GoOn, TakenAt, fetches_at, keep_at, opens_at, ordered_at, taken_at}
use Rattle.mu_alive.proofs.Settling.{score-part}
use Rattle.mu_alive.proofs.Cutting.{moments_of}

-- each that stopped took at most k steps
abbrev pub StopBy : Config → (ℕ → Bool) → List Event → ℕ → Type 0
StopBy c live events k = (q : ℕ) → q < c.replicas → live q ≡ false → length (part_of q events) ≤ k

-- up to a moment at which s has taken these steps nothing but heads blocks it
pub unblocked_at : (c : Config) (live : ℕ → Bool) (s : ℕ) (events : List Event) (lengths : List ℕ) (rounds k most : ℕ) → IsConfig c → AreUnpaused c events lengths rounds → AreNodes c events → GoOn c live s events → StopBy c live events k → (t : TakenAt c live s events most) → ((r : ℕ) → r < c.replicas → live r ≡ true → most ≤ slice_index lengths r)
    → IsUnblocked c live s (k + failing_steps c) (t.last ∷ t.older)
unblocked_at c live s events lengths rounds k most good run nodes on stop t late = record {
  opens = opens_at c live s events lengths rounds most run on.inside t;
  fetches = λ r low _. fetches_at c live s events lengths rounds most r good run low t;
  ordered = λ r low _. ordered_at c live s events lengths rounds most r run low t;
  keep = keep_at c live s events lengths rounds most run on t late;
  failed = moments_of s (HoldsFailed c live s (k + failing_steps c)) (t.last ∷ t.older) (λ newer before cuts. held newer before cuts);
}
  where
    held : (newer before : List Event) → t.last ∷ t.older ≡ newer ++ before → HoldsFailed c live s (k + failing_steps c) (part s before)
    held newer before cuts many q low gone =
        ap (λ x. not x.1) (score-part s q before)
        ∙ fails_then c events lengths rounds q s (t.front ++ newer) before run (nodes.reads s on.inside) (t.is ∙ ap (λ l. t.front ++ l) cuts ∙ sym (append_assoc t.front newer before)) low on.inside (λ same. true≢false (sym on.lives ∙ ap live (sym same) ∙ gone))
        (let few = stop q low gone in omega (arith, few, many))

pub lower_stop : (c : Config) (live : ℕ → Bool) (s : ℕ) (events : List Event) (k : ℕ) → GoOn c live s events → StopBy c live events k → (q : ℕ) → q < s → length (part_of q events) ≤ k
lower_stop c live s events k on stop q below = stop q (let inside = on.inside in omega (arith, below, inside)) (on.lower q below)

-- and all have raised their heads
pub raised_last_in_any_ring : (c : Config) (live : ℕ → Bool) (s : ℕ) (events : List Event) (lengths : List ℕ) (rounds k : ℕ) → IsConfig c → c.version ≡ 2 → AreUnpaused c events lengths rounds → AreNodes c events → GoOn c live s events → StopBy c live events k
    → ((r : ℕ) → r < c.replicas → live r ≡ true → k + failing_steps c + last_raising_in_any_ring c s ≤ slice_index lengths r) → RaisedBy c live events (k + failing_steps c + last_raising_in_any_ring c s)
raised_last_in_any_ring c live s events lengths rounds k good two run nodes on stop late = raised_at c live s events most t (last_raises c live s (k + failing_steps c) (t.last ∷ t.older) good two (leads_last c live events lengths rounds s k most good run nodes on (lower_stop c live s events k on stop) t) (unblocked_at c live s events lengths rounds k most good run nodes on stop t late) (let n = t.taken in omega (arith, n)))
  where
    most : ℕ
    most = k + failing_steps c + last_raising_in_any_ring c s

    t : TakenAt c live s events most
    t = taken_at c live s events lengths rounds most run on.inside on.lives (omega arith) late
