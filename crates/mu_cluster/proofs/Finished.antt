-- By the second number of its job each replica of a replay that isn't stopped has finished.
use Rattle.std.proofs.Common.{◌≡◌, ◌∙◌, ℕ, ◌+◌, ◌*◌, ◌<◌, ◌≤◌, ◌==◌, Bool, true, false, None, Some, List, ap, arith, eqb-true, length, refl, sym, ◌∷◌}
use Rattle.std.specs.declared.option.Option.{Option}
use Rattle.std.specs.Prelude.{if◌then◌else◌, max, not, slice_index}
use Rattle.std.proofs.Math.Nat.{le-max_left, le-max_right}
use Rattle.std.proofs.lemmas.Bool.{leb-true, true≢false}
use Rattle.mu_model.specs.declared.config.Config.{Config}
use Rattle.mu_model.specs.declared.event.Event.{Event}
use Rattle.mu_model.specs.declared.script.Script.{Script}
use Rattle.mu_model.specs.Bounds.{cycle}
use Rattle.mu_model.specs.Contents.{IsConfig, row_count}
use Rattle.mu_model.specs.Journals.{Record}
use Rattle.mu_model.specs.Room.{reserve}
use Rattle.mu_model.proofs.Basics.{same_some}
use Rattle.mu_outcome.specs.declared.outcome.Outcome.{Outcome}
use Rattle.mu_outcome.specs.Outcomes.{IsRun, journal_of}
use Rattle.mu_alive.specs.Enough.{HasLargeRing}
use Rattle.mu_alive.specs.Failing.{failing_steps}
use Rattle.mu_alive.specs.Finishing.{last_raising_steps, raising_steps}
use Rattle.mu_alive.specs.Lagging.{raising_in_any_ring}
use Rattle.mu_alive.specs.Stopping.{last_raising_in_any_ring}
use Rattle.mu_alive.proofs.LastRaising.{last_raises_all}
use Rattle.mu_alive.proofs.Lagging.{raises_in_any_ring}
use Rattle.mu_cluster.specs.declared.rounds.Seat.{Seat}
use Rattle.mu_cluster.specs.Finishing.{AppliesEachByThen, HasApplied}
use Rattle.mu_cluster.specs.Outliving.{GoesOnWith, was_stopped}
use Rattle.mu_cluster.specs.Paces.{AreDiligent}
use Rattle.mu_cluster.specs.Rounds.{Played, part_of}
use Rattle.mu_cluster.proofs.Committing.{first_on, granting_more, least_on, left_goes, lower_stopped, none_in, stopped_by}
use Rattle.mu_cluster.proofs.Finishing.{finishes_from, goes_on_of, lengths_of}
use Rattle.mu_cluster.proofs.Naming.{AreUnpaused, unpaused_of}
use Rattle.mu_cluster.proofs.Onward.{AreNodes, nodes_of}
use Rattle.mu_cluster.proofs.Raised.{RaisedBy, alone_at, raised_at, raised_last}
use Rattle.mu_cluster.proofs.Taken.{GoOn}
use Rattle.mu_cluster.proofs.Unblocking.{raised_last_in_any_ring}
use Rattle.mu_enough.specs.Finished.{finished_by, finishing_after, finishing_after_in_any_ring, finishing_in_any_ring, finishing_steps}
use Rattle.mu_enough.specs.Lines.{has_large_ring, has_pause, has_stop, is_left, is_majority_left, last_stop_below, last_stop_step, least_left}

-- which case a job is
data Case (c : Config) (script : Script) (m : ℕ) : Type 0 where
  by_first : HasLargeRing c → is_left script.stops 0 ≡ true → finishing_steps c ≤ m → last_stop_step script.stops + failing_steps c ≤ m → Case c script m
  by_last : HasLargeRing c → last_stop_below script.stops (least_left c script) + finishing_after c (least_left c script) ≤ m → last_stop_step script.stops + failing_steps c ≤ m → Case c script m
  by_none : has_stop script ≡ false → finishing_in_any_ring c ≤ m → Case c script m
  by_marks : c.version ≡ 2 → last_stop_step script.stops + finishing_after_in_any_ring c (least_left c script) ≤ m → Case c script m

abbrev chosen : Bool → Bool → Bool → Bool → Bool → Bool → ℕ → ℕ → ℕ → ℕ → ℕ → Option ℕ
chosen left paused large first stopped second x y f u w = if not left then None else if paused then None else if large then Some (max (if first then x else y) f) else if not stopped then Some u else if second then Some w else None

case_of : (c : Config) (script : Script) (m : ℕ) → finished_by c script ≡ Some m → (is_majority_left c script ≡ true) × (has_pause script ≡ false) × Case c script m
case_of c script m is = go (is_majority_left c script) refl (has_pause script) refl (has_large_ring c) refl (is_left script.stops 0) refl (has_stop script) refl (c.version == 2) refl is
  where
    y : ℕ
    y = last_stop_below script.stops (least_left c script) + finishing_after c (least_left c script)

    f : ℕ
    f = last_stop_step script.stops + failing_steps c

    w : ℕ
    w = last_stop_step script.stops + finishing_after_in_any_ring c (least_left c script)

    large : has_large_ring c ≡ true → HasLargeRing c
    large is = leb-true (row_count c + 2 * reserve c) c.ring is

    go : (l : Bool) → is_majority_left c script ≡ l → (p : Bool) → has_pause script ≡ p → (r : Bool) → has_large_ring c ≡ r → (t : Bool) → is_left script.stops 0 ≡ t → (s : Bool) → has_stop script ≡ s → (v : Bool) → (c.version == 2) ≡ v
        → chosen l p r t s v (finishing_steps c) y f (finishing_in_any_ring c) w ≡ Some m → (is_majority_left c script ≡ true) × (has_pause script ≡ false) × Case c script m
    go false hl p hp r hr t ht s hs v hv is = cc
    go true hl true hp r hr t ht s hs v hv is = cc
    go true hl false hp true hr true ht s hs v hv is =
        let same = same_some (max (finishing_steps c) f) m is in
        let a = le-max_left (finishing_steps c) f in
        let b = le-max_right (finishing_steps c) f in
        (hl, hp, Case.by_first (large hr) ht (omega (arith, same, a)) (omega (arith, same, b)))
    go true hl false hp true hr false ht s hs v hv is =
        let same = same_some (max y f) m is in
        let a = le-max_left y f in
        let b = le-max_right y f in
        (hl, hp, Case.by_last (large hr) (omega (arith, same, a)) (omega (arith, same, b)))
    go true hl false hp false hr t ht false hs v hv is = let same = same_some (finishing_in_any_ring c) m is in (hl, hp, Case.by_none hs (omega (arith, same)))
    go true hl false hp false hr t ht true hs true hv is = let same = same_some w m is in (hl, hp, Case.by_marks (eqb-true c.version 2 hv) (omega (arith, same)))
    go true hl false hp false hr t ht true hs false hv is = cc

-- in what a replay leaves
pub each_by_then : (o : Outcome) (order : Record) (seats : List Seat) (rounds : ℕ) → IsConfig o.job.config → (run : IsRun o) → o.order ≡ Some order → Played o.job.config o.job.script order.events seats rounds 0 → AreDiligent o → AppliesEachByThen o
each_by_then o order seats rounds good run given played diligent m is within = by_case (case_of c script m is)
  where
    c : Config
    c = o.job.config

    script : Script
    script = o.job.script

    live : ℕ → Bool
    live r = not (was_stopped o r)

    events : List Event
    events = run.order.events

    lengths : List ℕ
    lengths = lengths_of o

    nodes : AreNodes c events
    nodes = nodes_of o order seats rounds run given played diligent

    -- whoever was stopped is held failed in time
    failing : (k : ℕ) → last_stop_step script.stops + failing_steps c ≤ k → (q : ℕ) → q < c.replicas → live q ≡ false → length (part_of q events) + failing_steps c ≤ k
    failing k enough q low gone = let few = stopped_by o run q low gone in omega (arith, few, enough)

    -- each finishes, if all raise their heads in time
    from : has_pause script ≡ false → (s most : ℕ) → GoesOnWith o s
        → (AreUnpaused c events lengths run.turns.rounds → GoOn c live s events → ((r : ℕ) → r < c.replicas → live r ≡ true → most ≤ slice_index lengths r) → RaisedBy c live events most)
        → most + c.replicas * cycle c ≤ m → ((q : ℕ) → q < c.replicas → live q ≡ false → length (part_of q events) + failing_steps c ≤ m)
        → (r : ℕ) → r < c.replicas → was_stopped o r ≡ false → HasApplied o r × (length (journal_of o r) ≤ m)
    from none s most on raises enough failed =
        let unpaused = none_in script.pauses none in
        let all = unpaused_of o order seats rounds run given played unpaused in
        let goes_on = goes_on_of o order seats rounds s good run given played diligent unpaused on in
        finishes_from o order seats rounds s most m good run given played unpaused goes_on (raises all goes_on) enough within failed

    by_case : (is_majority_left c script ≡ true) × (has_pause script ≡ false) × Case c script m → (r : ℕ) → r < c.replicas → was_stopped o r ≡ false → HasApplied o r × (length (journal_of o r) ≤ m)
    by_case (left, none, Case.by_first large first enough failed) =
        from none 0 (raising_steps c) (first_on o good run left first)
        (λ all goes_on late.
        let a = alone_at c live events lengths run.turns.rounds (raising_steps c) good all nodes goes_on (omega arith) late in
        raised_at c live 0 events (raising_steps c) a.moment (last_raises_all c live 0 0 (a.moment.last ∷ a.moment.older) good large a.leads a.opens a.fetches a.keep (let n = a.moment.taken in omega (arith, n))))
        (omega (arith, enough)) (failing m failed)
    by_case (left, none, Case.by_last large enough failed) =
        let s = least_on o run left in
        let k = last_stop_below script.stops (least_left c script) in
        let more = granting_more c s.who (least_left c script) s.low in
        from none s.who (k + failing_steps c + last_raising_steps c s.who) s.on
        (λ all goes_on late. raised_last c live s.who events lengths run.turns.rounds k good large all nodes goes_on (lower_stopped o run s) late)
        (omega (arith, more, enough)) (failing m failed)
    by_case (left, none, Case.by_none unstopped enough) =
        let stops = none_in script.stops unstopped in
        let all_left : (r : ℕ) → is_left script.stops r ≡ true = λ r. ap (λ l. is_left l r) stops in
        let all_go : (r : ℕ) → r < c.replicas → live r ≡ true = λ r low. ap not (left_goes o run r low (all_left r)) in
        from none 0 (raising_in_any_ring c) (first_on o good run left (all_left 0))
        (λ all goes_on late.
        let a = alone_at c live events lengths run.turns.rounds (raising_in_any_ring c) good all nodes goes_on (omega arith) late in
        raised_at c live 0 events (raising_in_any_ring c) a.moment (raises_in_any_ring c live (a.moment.last ∷ a.moment.older) good all_go a.leads a.opens a.fetches a.writes a.keep (let n = a.moment.taken in omega (arith, n))))
        (omega (arith, enough)) (λ q low gone. absurd (true≢false (sym (all_go q low) ∙ gone)))
    by_case (left, none, Case.by_marks two enough) =
        let s = least_on o run left in
        let k = last_stop_step script.stops in
        let more = granting_more c s.who (least_left c script) s.low in
        from none s.who (k + failing_steps c + last_raising_in_any_ring c s.who) s.on
        (λ all goes_on late. raised_last_in_any_ring c live s.who events lengths run.turns.rounds k good two all nodes goes_on (stopped_by o run) late)
        (omega (arith, more, enough)) (failing m (omega (arith, enough)))
