-- By the number of its job a replica of a replay has every command.
use Rattle.std.proofs.Common.{◌≡◌, ◌∙◌, ℕ, zero, suc, ◌+◌, ◌*◌, ◌-◌, ◌<◌, ◌≤◌, ◌==◌, ◌&&◌, ◌||◌, inl, inr, Bool, true, false, None, Some, List, [], ◌∷◌, ◌++◌, ap, arith, eqb-true, length, map, refl, subst, sym, take}
use Rattle.std.specs.declared.option.Option.{Option}
use Rattle.std.specs.Prelude.{drop, if◌then◌else◌, max, nat_le, nat_lt, not, reverse, slice_index}
use Rattle.std.specs.List.{slice_get}
use Rattle.std.proofs.Math.Nat.{le-max_left, le-max_right, mul-le-mul_right}
use Rattle.std.proofs.Math.Seq.{take-append-add}
use Rattle.std.proofs.lemmas.Bool.{and_parts, cases_eq, cases_lt, leb-false, leb-true, lt-ltb, true≢false, not-false, not-true}
use Rattle.std.proofs.lemmas.List.{length-reverse, reverse-append, reverse-reverse, take-append-drop, take_all}
use Rattle.mu_agree.proofs.Counting.{count_more, some_below}
use Rattle.mu_follow.proofs.Due.{least_below_fails}
use Rattle.mu_input.specs.Heads.{HaveHeads}
use Rattle.mu_model.specs.declared.config.Config.{Config}
use Rattle.mu_model.specs.declared.event.Event.{Event}
use Rattle.mu_model.specs.declared.script.End.{End}
use Rattle.mu_model.specs.declared.script.Pause.{Pause}
use Rattle.mu_model.specs.declared.script.Script.{Script}
use Rattle.mu_model.specs.declared.script.Stop.{Stop}
use Rattle.mu_model.specs.Bounds.{cycle}
use Rattle.mu_model.specs.Contents.{IsConfig, holds_all, row_count}
use Rattle.mu_model.specs.Diligence.{IsDiligent}
use Rattle.mu_model.specs.Ends.{EndsBy, full_length, is_full, stops_at}
use Rattle.mu_model.specs.Histories.{count_below, history, part}
use Rattle.mu_model.specs.Journals.{Record}
use Rattle.mu_model.specs.Knowledge.{applied}
use Rattle.mu_model.specs.Leaderships.{majority_of}
use Rattle.mu_model.specs.Room.{reserve}
use Rattle.mu_model.specs.Scores.{least_below}
use Rattle.mu_model.specs.Stops.{is_stopped}
use Rattle.mu_model.proofs.Basics.{same_some}
use Rattle.mu_model.proofs.Parts.{filter-append}
use Rattle.mu_outcome.specs.declared.outcome.Outcome.{Outcome}
use Rattle.mu_outcome.specs.Outcomes.{IsRun, journal_of, journals_of}
use Rattle.mu_outcome.proofs.Completing.{all_from_log, least_passes}
use Rattle.mu_alive.specs.Enough.{HasLargeRing, steps_enough}
use Rattle.mu_alive.specs.Failing.{failing_steps}
use Rattle.mu_alive.specs.Lagging.{steps_in_any_ring}
use Rattle.mu_alive.proofs.Applying.{writer_applies_all}
use Rattle.mu_alive.proofs.Fetching.{applied_on, last_applies_all}
use Rattle.mu_alive.proofs.Lagging.{applies_in_any_ring}
use Rattle.mu_alive.proofs.Stopping.{last_applies}
use Rattle.mu_cluster.specs.declared.rounds.Seat.{Seat}
use Rattle.mu_cluster.specs.Committing.{AppliesAllByThen, CommitsByThen, HasAllBy}
use Rattle.mu_cluster.specs.Outliving.{GoesOnWith, is_stop, was_stopped}
use Rattle.mu_cluster.specs.Paces.{AreDiligent}
use Rattle.mu_cluster.specs.Pausing.{NoneOutrunInLargeRing, PausesBy}
use Rattle.mu_cluster.specs.Rounds.{Played, part_of}
use Rattle.mu_cluster.proofs.Agreeing.{agrees_of, over_order}
use Rattle.mu_cluster.proofs.Finishing.{goes_on_of}
use Rattle.mu_cluster.proofs.Naming.{AreUnpaused, unpaused_of}
use Rattle.mu_cluster.proofs.Onward.{AreNodes, journal_part, nodes_of}
use Rattle.mu_cluster.proofs.Outliving.{leads_last}
use Rattle.mu_cluster.proofs.Pausing.{AreRun, HoldsBy, holds_after_pauses, none_outrun_in_large, paused_run}
use Rattle.mu_cluster.proofs.Raised.{RaisedBy, alone_at, full_holds, holds_whole, late_or_raised, least_or_none}
use Rattle.mu_cluster.proofs.Taken.{GoOn, TakenAt, fetches_at, taken_at}
use Rattle.mu_node.proofs.Leading.{least_most}
use Rattle.mu_cluster.proofs.Unblocking.{StopBy, lower_stop, unblocked_at}
use Rattle.mu_enough.specs.Committed.{committed_by, steps_after, steps_after_in_any_ring, steps_after_pauses}
use Rattle.mu_enough.specs.Lines.{disturbed_until, has_large_ring, has_pause, has_stop, is_left, is_majority_left, last_line_step, last_pause_step, last_stop_below, last_stop_step, least_left, most_paused_rounds, paused_rounds}

-- a step at which a line stops r is at most the greatest
stop_within : (stops : List Stop) (r steps : ℕ) → stops_at r steps stops ≡ true → (is_stopped r stops ≡ true) × (steps ≤ last_stop_step stops)
stop_within [] r steps is = absurd (true≢false (sym is))
stop_within (s ∷ ss) r steps is = go (s.replica == r) (s.steps == steps) refl is (stop_within ss r steps)
  where
    first : s.steps ≡ steps → steps ≤ max s.steps (last_stop_step ss)
    first same = let most = le-max_left s.steps (last_stop_step ss) in omega (arith, same, most)

    later : steps ≤ last_stop_step ss → steps ≤ max s.steps (last_stop_step ss)
    later low = let most = le-max_right s.steps (last_stop_step ss) in omega (arith, low, most)

    go : (t u : Bool) → (s.steps == steps) ≡ u → ((t && u) || stops_at r steps ss) ≡ true → (stops_at r steps ss ≡ true → (is_stopped r ss ≡ true) × (steps ≤ last_stop_step ss)) → ((t || is_stopped r ss) ≡ true) × (steps ≤ max s.steps (last_stop_step ss))
    go true true at is ih = (refl, first (eqb-true s.steps steps at))
    go true false at is ih = (refl, later (ih is).1)
    go false u at is ih = ((ih is).0, later (ih is).1)

-- and one of a replica below s is at most the greatest of those
stop_below : (stops : List Stop) (r steps s : ℕ) → r < s → stops_at r steps stops ≡ true → steps ≤ last_stop_below stops s
stop_below [] r steps s low is = absurd (true≢false (sym is))
stop_below (x ∷ xs) r steps s low is = go (x.replica == r) refl (x.steps == steps) refl is (stop_below xs r steps s low)
  where
    later : steps ≤ last_stop_below xs s → steps ≤ last_stop_below (x ∷ xs) s
    later few = let most = le-max_right (if nat_lt x.replica s then x.steps else 0) (last_stop_below xs s) in omega (arith, few, most)

    first : x.replica ≡ r → x.steps ≡ steps → steps ≤ last_stop_below (x ∷ xs) s
    first own same =
        let most = le-max_left (if nat_lt x.replica s then x.steps else 0) (last_stop_below xs s) in
        let counts : (if nat_lt x.replica s then x.steps else 0) ≡ x.steps = ap (λ b. if b then x.steps else 0) (lt-ltb x.replica s (omega (arith, own, low))) in
        omega (arith, most, counts, same)

    go : (t : Bool) → (x.replica == r) ≡ t → (u : Bool) → (x.steps == steps) ≡ u → ((t && u) || stops_at r steps xs) ≡ true → (stops_at r steps xs ≡ true → steps ≤ last_stop_below xs s) → steps ≤ last_stop_below (x ∷ xs) s
    go true own true at is ih = first (eqb-true x.replica r own) (eqb-true x.steps steps at)
    go true own false at is ih = later (ih is)
    go false own u at is ih = later (ih is)

-- each pause begins by the greatest step
pauses_within : (pauses : List Pause) (k : ℕ) → last_pause_step pauses ≤ k → PausesBy pauses k
pauses_within [] k low = tt
pauses_within (p ∷ ps) k low =
    let first = le-max_left p.steps (last_pause_step ps) in
    let rest = le-max_right p.steps (last_pause_step ps) in
    (omega (arith, first, low), pauses_within ps k (omega (arith, rest, low)))

-- no replica is paused for more rounds than the most
rounds_within : (pauses : List Pause) (n r : ℕ) → r < n → paused_rounds pauses r ≤ most_paused_rounds pauses n
rounds_within pauses zero r low = absurd (omega (arith, low))
rounds_within pauses (suc n) r low =
    let own = le-max_left (paused_rounds pauses n) (most_paused_rounds pauses n) in
    let rest = le-max_right (paused_rounds pauses n) (most_paused_rounds pauses n) in
    elim (cases_eq r n) [
      | inl same ↦ (let e = ap (paused_rounds pauses) same in omega (arith, own, e))
      | inr other ↦ (let ih = rounds_within pauses n r (omega (arith, low, other)) in omega (arith, ih, rest))
    ]

-- a line stopped whoever was stopped
line_there : (o : Outcome) → IsRun o → (r : ℕ) → r < o.job.config.replicas → was_stopped o r ≡ true → stops_at r (length (journal_of o r)) o.job.script.stops ≡ true
line_there o run r low was = go (run.ended r low).0 (run.ended r low).1 (run.ended r low).2.ends
  where
    go : (end : End) → slice_get o.ends r ≡ Some end → EndsBy o.job.config o.job.script r (history (journal_of o r)) end → stops_at r (length (journal_of o r)) o.job.script.stops ≡ true
    go End.Stopped is ends = ap (λ n. stops_at r n o.job.script.stops) (sym (length-reverse (journal_of o r))) ∙ ends
    go End.Budget is ends = absurd (true≢false (sym was ∙ ap is_stop is))
    go (End.Outrun p i) is ends = absurd (true≢false (sym was ∙ ap is_stop is))
    go (End.Finished heads) is ends = absurd (true≢false (sym was ∙ ap is_stop is))

-- so it has a line, and took at most the greatest step
pub stopped_there : (o : Outcome) → IsRun o → (r : ℕ) → r < o.job.config.replicas → was_stopped o r ≡ true → (is_stopped r o.job.script.stops ≡ true) × (length (journal_of o r) ≤ last_stop_step o.job.script.stops)
stopped_there o run r low was = stop_within o.job.script.stops r (length (journal_of o r)) (line_there o run r low was)

-- so who has no line wasn't stopped
pub left_goes : (o : Outcome) → IsRun o → (r : ℕ) → r < o.job.config.replicas → is_left o.job.script.stops r ≡ true → was_stopped o r ≡ false
left_goes o run r low left = go (was_stopped o r) refl
  where
    go : (t : Bool) → was_stopped o r ≡ t → was_stopped o r ≡ false
    go true was = absurd (true≢false (sym left ∙ ap not (stopped_there o run r low was).0))
    go false was = was

-- if more than half have no line, more than half weren't stopped
majority_goes : (o : Outcome) → IsRun o → is_majority_left o.job.config o.job.script ≡ true → majority_of o.job.config.replicas ≤ count_below o.job.config.replicas (λ r. not (was_stopped o r))
majority_goes o run left =
    let many = leb-true (majority_of o.job.config.replicas) (count_below o.job.config.replicas (is_left o.job.script.stops)) left in
    let more = count_more o.job.config.replicas (is_left o.job.script.stops) (λ r. not (was_stopped o r)) (λ r low goes. ap not (left_goes o run r low goes)) in
    omega (arith, many, more)

-- the least of those; it is at most the least that has no line
pub record LeastOn (o : Outcome) : Type 0 where
  pub who : ℕ
  pub on : GoesOnWith o who
  pub low : who ≤ least_left o.job.config o.job.script

pub least_on : (o : Outcome) → IsRun o → is_majority_left o.job.config o.job.script ≡ true → LeastOn o
least_on o run left = record { who = s; on = record { inside = inside; left = not-true (was_stopped o s) (least_passes n live inside); lower = lower; majority = majority }; low = low }
  where
    n : ℕ
    n = o.job.config.replicas

    live : ℕ → Bool
    live r = not (was_stopped o r)

    s : ℕ
    s = least_below n live

    majority : majority_of n ≤ count_below n live
    majority = majority_goes o run left

    inside : s < n
    inside = let some = some_below n live (let many = majority in omega (arith, many)) in let most = least_most n some.who live some.below some.passes in let below = some.below in omega (arith, most, below)

    lower : (r : ℕ) → r < s → was_stopped o r ≡ true
    lower r below = not-false (was_stopped o r) (least_below_fails n live r below (let i = inside in omega (arith, below, i)))

    low : s ≤ least_left o.job.config o.job.script
    low =
        let many = leb-true (majority_of n) (count_below n (is_left o.job.script.stops)) left in
        let some = some_below n (is_left o.job.script.stops) (omega (arith, many)) in
        let most = least_most n some.who (is_left o.job.script.stops) some.below some.passes in
        let below = some.below in
        let there : least_left o.job.config o.job.script < n = omega (arith, most, below) in
        least_most n (least_left o.job.config o.job.script) live there (ap not (left_goes o run (least_left o.job.config o.job.script) there (least_passes n (is_left o.job.script.stops) there)))

-- replica 0 is the least, if it has no line
pub first_on : (o : Outcome) → IsConfig o.job.config → IsRun o → is_majority_left o.job.config o.job.script ≡ true → is_left o.job.script.stops 0 ≡ true → GoesOnWith o 0
first_on o good run left first =
    let few = good.replicas.0 in
    let some : 0 < o.job.config.replicas = omega (arith, few) in
    record { inside = some; left = left_goes o run 0 some first; lower = λ r low. absurd (omega (arith, low)); majority = majority_goes o run left }

-- the greater the least that goes on, the more steps until the regions are granted to it
pub granting_more : (c : Config) (s q : ℕ) → s ≤ q → (s + 1) * (2 * cycle c) ≤ (q + 1) * (2 * cycle c)
granting_more c s q low = let next : s + 1 ≤ q + 1 = omega (arith, low) in mul-le-mul_right (2 * cycle c) next

-- which case a job is
data Case (c : Config) (script : Script) (m : ℕ) : Type 0 where
  by_pauses : HasLargeRing c → has_pause script ≡ true → m ≡ disturbed_until c script + steps_after_pauses c → Case c script m
  by_first : HasLargeRing c → has_pause script ≡ false → is_left script.stops 0 ≡ true → m ≡ steps_enough c → Case c script m
  by_last : HasLargeRing c → has_pause script ≡ false → m ≡ last_stop_below script.stops (least_left c script) + steps_after c (least_left c script) → Case c script m
  by_none : has_pause script ≡ false → has_stop script ≡ false → m ≡ steps_in_any_ring c → Case c script m
  by_marks : has_pause script ≡ false → c.version ≡ 2 → m ≡ last_stop_step script.stops + steps_after_in_any_ring c (least_left c script) → Case c script m

abbrev chosen : Bool → Bool → Bool → Bool → Bool → Bool → ℕ → ℕ → ℕ → ℕ → ℕ → Option ℕ
chosen left large paused first stopped second x y z u w = if not left then None else if large then Some (if paused then x else if first then y else z) else if paused then None else if not stopped then Some u else if second then Some w else None

case_of : (c : Config) (script : Script) (m : ℕ) → committed_by c script ≡ Some m → (is_majority_left c script ≡ true) × Case c script m
case_of c script m is = go (is_majority_left c script) refl (has_large_ring c) refl (has_pause script) refl (is_left script.stops 0) refl (has_stop script) refl (c.version == 2) refl is
  where
    x : ℕ
    x = disturbed_until c script + steps_after_pauses c

    z : ℕ
    z = last_stop_below script.stops (least_left c script) + steps_after c (least_left c script)

    w : ℕ
    w = last_stop_step script.stops + steps_after_in_any_ring c (least_left c script)

    large : has_large_ring c ≡ true → HasLargeRing c
    large is = leb-true (row_count c + 2 * reserve c) c.ring is

    go : (l : Bool) → is_majority_left c script ≡ l → (r : Bool) → has_large_ring c ≡ r → (p : Bool) → has_pause script ≡ p → (f : Bool) → is_left script.stops 0 ≡ f → (s : Bool) → has_stop script ≡ s → (v : Bool) → (c.version == 2) ≡ v
        → chosen l r p f s v x (steps_enough c) z (steps_in_any_ring c) w ≡ Some m → (is_majority_left c script ≡ true) × Case c script m
    go false hl r hr p hp f hf s hs v hv is = cc
    go true hl true hr true hp f hf s hs v hv is = (hl, Case.by_pauses (large hr) hp (sym (same_some x m is)))
    go true hl true hr false hp true hf s hs v hv is = (hl, Case.by_first (large hr) hp hf (sym (same_some (steps_enough c) m is)))
    go true hl true hr false hp false hf s hs v hv is = (hl, Case.by_last (large hr) hp (sym (same_some z m is)))
    go true hl false hr true hp f hf s hs v hv is = cc
    go true hl false hr false hp f hf false hs v hv is = (hl, Case.by_none hp hs (sym (same_some (steps_in_any_ring c) m is)))
    go true hl false hr false hp f hf true hs true hv is = (hl, Case.by_marks hp (eqb-true c.version 2 hv) (sym (same_some w m is)))
    go true hl false hr false hp f hf true hs false hv is = cc

-- the list is empty
pub none_in : {A : Type 0} (xs : List A) → nat_le 1 (length xs) ≡ false → xs ≡ []
none_in [] is = refl
none_in (x ∷ xs) is = absurd (let low = leb-false 1 (length (x ∷ xs)) is in omega (arith, low))

-- without a pause: if all that go on take m steps; else one finished before, and so had all
unpaused_by : (c : Config) (live : ℕ → Bool) (s : ℕ) (events : List Event) (lengths : List ℕ) (rounds m : ℕ) → AreUnpaused c events lengths rounds → GoOn c live s events → m ≤ c.budget → (((r : ℕ) → r < c.replicas → live r ≡ true → m ≤ slice_index lengths r) → HoldsBy c s m events) → HoldsBy c s m events
unpaused_by c live s events lengths rounds m run on within late = elim (late_or_raised c live s events lengths rounds m run on within) [ inl more ↦ late more | inr by ↦ before by ]
  where
    before : RaisedBy c live events m → HoldsBy c s m events
    before b = record { front = b.front; past = b.past; is = b.is; few = b.few s on.inside on.lives; holds = holds_whole c b.raised.upto (applied c s (part s b.past)) (b.raised.held s on.inside on.lives) }

-- s has every row at such a moment
holds_at : (c : Config) (live : ℕ → Bool) (s m : ℕ) (events : List Event) (t : TakenAt c live s events m) → holds_all c (applied c s (part s (t.last ∷ t.older))) ≡ true → HoldsBy c s m events
holds_at c live s m events t holds = record { front = t.front; past = t.last ∷ t.older; is = t.is; few = (let n = t.taken in omega (arith, n)); holds = holds }

-- replica 0 goes on, in a large ring
first_by : (c : Config) (live : ℕ → Bool) (events : List Event) (lengths : List ℕ) (rounds m : ℕ) → IsConfig c → HasLargeRing c → AreUnpaused c events lengths rounds → AreNodes c events → GoOn c live 0 events → steps_enough c ≤ m → ((r : ℕ) → r < c.replicas → live r ≡ true → m ≤ slice_index lengths r)
    → HoldsBy c 0 m events
first_by c live events lengths rounds m good large run nodes on enough late =
    let a = alone_at c live events lengths rounds m good run nodes on (omega (arith, enough)) late in
    holds_at c live 0 m events a.moment (writer_applies_all c live 0 0 (a.moment.last ∷ a.moment.older) good large a.leads a.writes (let n = a.moment.taken in omega (arith, n, enough)))

-- nobody stops, in any ring
unstopped_by : (c : Config) (live : ℕ → Bool) (events : List Event) (lengths : List ℕ) (rounds m : ℕ) → IsConfig c → ((r : ℕ) → r < c.replicas → live r ≡ true) → AreUnpaused c events lengths rounds → AreNodes c events → GoOn c live 0 events → steps_in_any_ring c ≤ m
    → ((r : ℕ) → r < c.replicas → live r ≡ true → m ≤ slice_index lengths r) → HoldsBy c 0 m events
unstopped_by c live events lengths rounds m good all run nodes on enough late =
    let a = alone_at c live events lengths rounds m good run nodes on (omega (arith, enough)) late in
    holds_at c live 0 m events a.moment (applies_in_any_ring c live (a.moment.last ∷ a.moment.older) good all a.leads a.opens a.writes a.keep (let n = a.moment.taken in omega (arith, n, enough)))

-- others go on, in a large ring
last_by : (c : Config) (live : ℕ → Bool) (s : ℕ) (events : List Event) (lengths : List ℕ) (rounds k m : ℕ) → IsConfig c → HasLargeRing c → AreUnpaused c events lengths rounds → AreNodes c events → GoOn c live s events → ((q : ℕ) → q < s → length (part_of q events) ≤ k) → k + steps_after c s ≤ m → ((r : ℕ) → r < c.replicas → live r ≡ true → m ≤ slice_index lengths r) → HoldsBy c s m events
last_by c live s events lengths rounds k m good large run nodes on short enough late =
    let t = taken_at c live s events lengths rounds m run on.inside on.lives (omega (arith, enough)) late in
    holds_at c live s m events t
    (last_applies_all c live s (k + failing_steps c) (t.last ∷ t.older) good large (leads_last c live events lengths rounds s k m good run nodes on short t) (fetches_at c live s events lengths rounds m s good run on.inside t) (let n = t.taken in omega (arith, n, enough)))

-- others go on, in any ring, in version 2
second_by : (c : Config) (live : ℕ → Bool) (s : ℕ) (events : List Event) (lengths : List ℕ) (rounds k m : ℕ) → IsConfig c → c.version ≡ 2 → AreUnpaused c events lengths rounds → AreNodes c events → GoOn c live s events → StopBy c live events k → k + steps_after_in_any_ring c s ≤ m → ((r : ℕ) → r < c.replicas → live r ≡ true → m ≤ slice_index lengths r) → HoldsBy c s m events
second_by c live s events lengths rounds k m good two run nodes on stop enough late =
    let t = taken_at c live s events lengths rounds m run on.inside on.lives (omega (arith, enough)) late in
    holds_at c live s m events t
    (last_applies c live s (k + failing_steps c) (t.last ∷ t.older) good two (leads_last c live events lengths rounds s k m good run nodes on (lower_stop c live s events k on stop) t) (unblocked_at c live s events lengths rounds k m good run nodes on stop t late) (let n = t.taken in omega (arith, n, enough)))

-- the first m steps of a journal reach as far back as any of its pasts with at most m
first_steps : (m : ℕ) (journal front past : List Event) → history journal ≡ front ++ past → length past ≤ m → (more : List Event) × (history (take m journal) ≡ more ++ past)
first_steps m journal front past is few = (reverse (take rest (reverse front)), whole)
  where
    rest : ℕ
    rest = m - length past

    count : m ≡ length (reverse past) + rest
    count = let same = length-reverse past in omega (arith, same, few)

    turned : journal ≡ reverse past ++ reverse front
    turned = sym (reverse-reverse journal) ∙ ap reverse is ∙ reverse-append front past

    whole : history (take m journal) ≡ reverse (take rest (reverse front)) ++ past
    whole =
        ap reverse (ap (take m) turned ∙ ap (λ n. take n (reverse past ++ reverse front)) count ∙ take-append-add (reverse past) (reverse front) rest)
        ∙ reverse-append (reverse past) (take rest (reverse front))
        ∙ ap (λ l. reverse (take rest (reverse front)) ++ l) (reverse-reverse past)

-- so it has every row after its first m events
all_by : (o : Outcome) (run : IsRun o) (s m : ℕ) → GoesOnWith o s → HoldsBy o.job.config s m run.order.events → HasAllBy o m
all_by o run s m on by = at (first_steps m (journal_of o s) (part s by.front) (part s by.past) (journal_part o run s on.inside ∙ ap (part s) by.is ∙ filter-append (λ e. e.by == s) by.front by.past) by.few)
  where
    at : (more : List Event) × (history (take m (journal_of o s)) ≡ more ++ part s by.past) → HasAllBy o m
    at f = record { by = s; inside = on.inside; who = inl on; holds = subst (λ l. holds_all o.job.config (applied o.job.config s l) ≡ true) (sym f.1) (applied_on o.job.config s f.0 (part s by.past) by.holds) }

-- if one that goes on took fewer steps, it finished with every row
early_by : (o : Outcome) (run : IsRun o) (q m : ℕ) → NoneOutrunInLargeRing o → HasLargeRing o.job.config → has_pause o.job.script ≡ true → q < o.job.config.replicas → was_stopped o q ≡ false → length (journal_of o q) < m → m ≤ o.job.config.budget → HasAllBy o m
early_by o run q m none large paused low goes early within = by_end (run.ended q low).0 (run.ended q low).1 (run.ended q low).2.ends
  where
    c : Config
    c = o.job.config

    mine : List Event
    mine = history (journal_of o q)

    by_end : (end : End) → slice_get o.ends q ≡ Some end → EndsBy c o.job.script q mine end → HasAllBy o m
    by_end End.Stopped is ends = absurd (true≢false (sym (ap is_stop is) ∙ goes))
    by_end End.Budget is ends = absurd (let all = ends.1 in let same = length-reverse (journal_of o q) in omega (arith, all, same, early, within))
    by_end (End.Outrun p i) is ends = absurd (none large q p i low is)
    by_end (End.Finished heads) is ends = record { by = q; inside = low; who = inr (paused, record { heads = heads; ended = is; holds = ap (holds_all c) (run.logs q low) ∙ holds }); holds = ap (λ l. holds_all c (applied c q (history l))) (take_all m (journal_of o q) (omega (arith, early))) ∙ holds }
      where
        full : is_full c q mine ≡ true
        full = (and_parts (is_full c q mine) _ ends.2).0

        holds : holds_all c (applied c q mine) ≡ true
        holds = holds_whole c (full_length c q mine) (applied c q mine) (full_holds c q mine full)

journal_long : (o : Outcome) (run : IsRun o) (r : ℕ) → r < o.job.config.replicas → length (part_of r run.order.events) ≡ length (journal_of o r)
journal_long o run r low = ap length (sym (journal_part o run r low)) ∙ length-reverse (journal_of o r)

-- whoever was stopped took at most so many steps
pub stopped_by : (o : Outcome) (run : IsRun o) → StopBy o.job.config (λ r. not (was_stopped o r)) run.order.events (last_stop_step o.job.script.stops)
stopped_by o run q low gone = let few = (stopped_there o run q low (not-false (was_stopped o q) gone)).1 in let same = journal_long o run q low in omega (arith, few, same)

-- and whoever is below the least that goes on, at most so many
pub lower_stopped : (o : Outcome) (run : IsRun o) (s : LeastOn o) (q : ℕ) → q < s.who → length (part_of q run.order.events) ≤ last_stop_below o.job.script.stops (least_left o.job.config o.job.script)
lower_stopped o run s q below =
    let inside = s.on.inside in
    let low : q < o.job.config.replicas = omega (arith, below, inside) in
    let most = s.low in
    let few = stop_below o.job.script.stops q (length (journal_of o q)) (least_left o.job.config o.job.script) (omega (arith, below, most)) (line_there o run q low (s.on.lower q below)) in
    let same = journal_long o run q low in
    omega (arith, few, same)

-- in what a replay leaves
pub all_by_then : (o : Outcome) (order : Record) (seats : List Seat) (rounds : ℕ) → IsConfig o.job.config → (run : IsRun o) → o.order ≡ Some order → Played o.job.config o.job.script order.events seats rounds 0 → AreDiligent o → AppliesAllByThen o
all_by_then o order seats rounds good run given played diligent m is within = by_case (case_of c script m is)
  where
    c : Config
    c = o.job.config

    script : Script
    script = o.job.script

    live : ℕ → Bool
    live r = not (was_stopped o r)

    events : List Event
    events = run.order.events

    lengths : List ℕ
    lengths = map length (journals_of o)

    nodes : AreNodes c events
    nodes = nodes_of o order seats rounds run given played diligent

    in_unpaused : has_pause script ≡ false → (s : ℕ) → GoesOnWith o s → (AreUnpaused c events lengths run.turns.rounds → GoOn c live s events → ((r : ℕ) → r < c.replicas → live r ≡ true → m ≤ slice_index lengths r) → HoldsBy c s m events) → HasAllBy o m
    in_unpaused none s on then_holds =
        let unpaused = none_in script.pauses none in
        let all = unpaused_of o order seats rounds run given played unpaused in
        let goes_on = goes_on_of o order seats rounds s good run given played diligent unpaused on in
        all_by o run s m on (unpaused_by c live s events lengths run.turns.rounds m all goes_on within (then_holds all goes_on))

    after_last : LeastOn o → HasLargeRing c → has_pause script ≡ false → m ≡ last_stop_below script.stops (least_left c script) + steps_after c (least_left c script) → HasAllBy o m
    after_last least large none number =
        in_unpaused none least.who least.on
        (λ all goes_on late. last_by c live least.who events lengths run.turns.rounds (last_stop_below script.stops (least_left c script)) m good large all nodes goes_on
        (lower_stopped o run least)
        (let more = granting_more c least.who (least_left c script) least.low in omega (arith, more, number)) late)

    after_last_in_any_ring : LeastOn o → has_pause script ≡ false → c.version ≡ 2 → m ≡ last_stop_step script.stops + steps_after_in_any_ring c (least_left c script) → HasAllBy o m
    after_last_in_any_ring least none two number =
        in_unpaused none least.who least.on
        (λ all goes_on late. second_by c live least.who events lengths run.turns.rounds (last_stop_step script.stops) m good two all nodes goes_on (stopped_by o run)
        (let more = granting_more c least.who (least_left c script) least.low in omega (arith, more, number)) late)

    after_pauses : LeastOn o → HasLargeRing c → has_pause script ≡ true → m ≡ disturbed_until c script + steps_after_pauses c → HasAllBy o m
    after_pauses least large paused number = elim (least_or_none c.replicas live (λ r. slice_index lengths r)) [
      | inr none ↦ absurd (true≢false (sym (ap not least.on.left) ∙ none least.who least.on.inside))
      | inl q ↦ elim (cases_lt (slice_index lengths q.at) m) [
        | inr more ↦ all_by o run least.who m least.on (then_holds (λ r low lives. let l = q.least r low lives in omega (arith, l, more)))
        | inl early ↦ early_by o run q.at m (none_outrun_in_large o order seats rounds good run given played) large paused q.low (not-true (was_stopped o q.at) q.lives) (let same = taken q.at q.low in omega (arith, same, early)) within
      ]
    ]
      where
        all : AreRun c script.pauses events lengths run.turns.rounds
        all = paused_run o order seats rounds run given played

        taken : (r : ℕ) → r < c.replicas → slice_index lengths r ≡ length (journal_of o r)
        taken r low = all.taken r low ∙ journal_long o run r low

        stops_by : last_stop_step script.stops ≤ last_line_step script
        stops_by = le-max_left (last_stop_step script.stops) (last_pause_step script.pauses)

        then_holds : ((r : ℕ) → r < c.replicas → live r ≡ true → m ≤ slice_index lengths r) → HoldsBy c least.who m events
        then_holds late =
            subst (λ n. HoldsBy c least.who n events) (sym number)
            (holds_after_pauses c live least.who script.pauses events lengths run.turns.rounds (last_line_step script) (most_paused_rounds script.pauses c.replicas) good large all nodes
            (λ r low. subst (IsDiligent c r) (journal_part o run r low) (diligent r low))
            (record {
              inside = least.on.inside;
              lives = ap not least.on.left;
              lower = λ r below. ap not (least.on.lower r below);
              majority = least.on.majority;
              late = λ r low lives. (let l = late r low lives in omega (arith, l, number));
              stopped = λ r low gone. (let few = (stopped_there o run r low (not-false (was_stopped o r) gone)).1 in let same = taken r low in let by = stops_by in omega (arith, few, same, by));
              pauses_by = pauses_within script.pauses (last_line_step script) (le-max_right (last_stop_step script.stops) (last_pause_step script.pauses));
              rounds = λ r low. rounds_within script.pauses c.replicas r low;
            }))

    by_case : (is_majority_left c script ≡ true) × Case c script m → HasAllBy o m
    by_case (left, Case.by_pauses large paused number) = after_pauses (least_on o run left) large paused number
    by_case (left, Case.by_first large none first number) = in_unpaused none 0 (first_on o good run left first) (λ all goes_on late. first_by c live events lengths run.turns.rounds m good large all nodes goes_on (omega (arith, number)) late)
    by_case (left, Case.by_last large none number) = after_last (least_on o run left) large none number
    by_case (left, Case.by_none none unstopped number) =
        let stops = none_in script.stops unstopped in
        let all_left : (r : ℕ) → is_left script.stops r ≡ true = λ r. ap (λ l. is_left l r) stops in
        in_unpaused none 0 (first_on o good run left (all_left 0)) (λ all goes_on late. unstopped_by c live events lengths run.turns.rounds m good (λ r low. ap not (left_goes o run r low (all_left r))) all nodes goes_on (omega (arith, number)) late)
    by_case (left, Case.by_marks none two number) = after_last_in_any_ring (least_on o run left) none two number

-- so the longest log has every command
pub commits_by_then : (o : Outcome) → IsConfig o.job.config → HaveHeads o.job.config.width o.job.commands o.job.config.rows → IsRun o → AppliesAllByThen o → CommitsByThen o
commits_by_then o good have run applies m is within = (has, all_from_log o run.order.events good have (over_order o run) (agrees_of o good have run) has.by has.inside (ap (holds_all o.job.config) (run.logs has.by has.inside) ∙ subst (λ l. holds_all o.job.config (applied o.job.config has.by l) ≡ true) (sym later) (applied_on o.job.config has.by (history (drop m (journal_of o has.by))) (history (take m (journal_of o has.by))) has.holds)))
  where
    has : HasAllBy o m
    has = applies m is within

    later : history (journal_of o has.by) ≡ history (drop m (journal_of o has.by)) ++ history (take m (journal_of o has.by))
    later = ap reverse (sym (take-append-drop m (journal_of o has.by))) ∙ reverse-append (take m (journal_of o has.by)) (drop m (journal_of o has.by))
