-- After its last pause and its last stop the least replica that goes on has every command of a replay.
use Rattle.std.proofs.Common.{◌≡◌, ◌∙◌, ℕ, ◌+◌, ◌-◌, ◌<◌, ◌≤◌, ◌==◌, inl, inr, Bool, true, false, None, Some, List, [], ◌∷◌, ◌++◌, ap, append_assoc, arith, length, map, refl, subst, sym, eqb-true, length-set, set}
use Rattle.std.specs.Prelude.{if◌then◌else◌, reverse, slice_index, nat_lt}
use Rattle.std.specs.List.{slice_get}
use Rattle.std.proofs.lemmas.Bool.{cases_order, eq-eqb, ltb-true}
use Rattle.std.proofs.lemmas.List.{length-append, reverse-append, length-map}
use Rattle.mu_agree.proofs.Legal.{legal_older, event_after, legal_induction}
use Rattle.mu_model.specs.declared.config.Config.{Config}
use Rattle.mu_model.specs.declared.event.Event.{Event}
use Rattle.mu_model.specs.declared.event.Verb.{Verb}
use Rattle.mu_model.specs.declared.script.Pause.{Pause}
use Rattle.mu_model.specs.Contents.{IsConfig, holds_all, row_count}
use Rattle.mu_model.specs.Diligence.{IsDiligent, ReadsInTime}
use Rattle.mu_model.specs.Ends.{outrun, outrun_by}
use Rattle.mu_model.specs.Histories.{count_below, history, part, earlier_or}
use Rattle.mu_model.specs.Knowledge.{applied, known}
use Rattle.mu_model.specs.Leaderships.{majority_of}
use Rattle.mu_model.specs.Legal.{IsLegal, IsLegalHistory}
use Rattle.mu_model.specs.Room.{reserve}
use Rattle.mu_model.specs.Regions.{log_with, region_log}
use Rattle.mu_model.proofs.Basics.{same_some}
use Rattle.mu_model.proofs.Parts.{filter-append, part_is_possible}
use Rattle.mu_node.specs.Journal.{WasMade}
use Rattle.mu_outcome.specs.Turns.{ids_after, pace}
use Rattle.mu_agree.specs.Moments.{AtEachStep}
use Rattle.mu_alive.specs.Enough.{HasLargeRing}
use Rattle.mu_alive.specs.Resuming.{LeadsAfter}
use Rattle.mu_alive.specs.Fair.{KeepsStep}
use Rattle.mu_alive.proofs.Beginning.{reads_before}
use Rattle.mu_alive.proofs.Enough.{outrun_before}
use Rattle.mu_cluster.specs.Pausing.{PausesBy, NoneOutrunInLargeRing}
use Rattle.mu_cluster.specs.Rounds.{id_of, part_of, Played}
use Rattle.mu_cluster.proofs.InStep.{map_reverse}
use Rattle.mu_cluster.proofs.Onward.{AreNodes, journal_part}
use Rattle.mu_cluster.proofs.Paused.{Alternate, Split, count_after, count_due, count_idle, count_of, count_part, count_reverse, due_in, due_then, even_in, few_rounds, from_split, idle_then, ids_from, ids_split, split_ids, take_turns}
use Rattle.mu_agree.proofs.Possible.{part_looks_are_kept_law}
use Rattle.mu_cluster.proofs.Living.{none_of}
use Rattle.mu_cluster.proofs.Outrunning.{none_earlier, outrun_end, past_look, stands_last}
use Rattle.mu_cluster.specs.Fair.{IsFairStretch}
use Rattle.mu_cluster.proofs.Fair.{AreRunNodes, applies_then, leads_in}
use Rattle.mu_alive.proofs.Fair.{even_keep, fast_found}
use Rattle.mu_cluster.specs.declared.rounds.Seat.{Seat}
use Rattle.mu_model.proofs.Lists.{item_below}
use Rattle.mu_model.specs.Allowed.{Needs}
use Rattle.mu_model.specs.Answers.{answer_of, drained, put_answer, shown}
use Rattle.mu_model.specs.Journals.{Record}
use Rattle.mu_model.specs.Parts.{IsPossible}
use Rattle.mu_model.specs.Picks.{is_past}
use Rattle.mu_model.specs.declared.event.Answer.{Answer}
use Rattle.mu_model.specs.declared.script.End.{End}
use Rattle.mu_outcome.proofs.Journals.{length_at, length_of_part}
use Rattle.mu_outcome.specs.Outcomes.{IsRun, journal_of, journals_of}
use Rattle.mu_outcome.specs.declared.outcome.Outcome.{Outcome}
use Rattle.std.specs.declared.option.Option.{Option}
use Rattle.mu_enough.specs.Committed.{steps_after_pauses}
use Rattle.mu_enough.specs.Lines.{paused_rounds}

-- the events of a replay are those of nodes, in the order of rounds with these pauses
pub record AreRun (c : Config) (pauses : List Pause) (events : List Event) (lengths : List ℕ) (rounds : ℕ) : Type 0 where
  pub legal : IsLegal c events
  pub order : map id_of events ≡ ids_after pauses lengths rounds
  pub count : length lengths ≡ c.replicas
  pub all : (r : ℕ) → r < c.replicas → (pace pauses r (slice_index lengths r) rounds).taken ≡ slice_index lengths r
  pub taken : (r : ℕ) → r < c.replicas → slice_index lengths r ≡ length (part_of r events)
  pub made : (r : ℕ) → r < c.replicas → AtEachStep (WasMade c r) (part_of r events)

-- a majority goes on with s, the least of them; the others end and the pauses begin by step k, the pauses have p rounds at most, and those that go on take so many steps more
pub record GoOnAfter (c : Config) (live : ℕ → Bool) (s : ℕ) (pauses : List Pause) (lengths : List ℕ) (k p left : ℕ) : Type 0 where
  pub inside : s < c.replicas
  pub lives : live s ≡ true
  pub lower : (r : ℕ) → r < s → live r ≡ false
  pub majority : majority_of c.replicas ≤ count_below c.replicas live
  pub late : (r : ℕ) → r < c.replicas → live r ≡ true → k + p + 1 + left ≤ slice_index lengths r
  pub stopped : (r : ℕ) → r < c.replicas → live r ≡ false → slice_index lengths r ≤ k
  pub pauses_by : PausesBy pauses k
  pub rounds : (r : ℕ) → r < c.replicas → paused_rounds pauses r ≤ p

-- the events after the last pause, up to a moment at which s has taken at most `all` steps
record Resumed (c : Config) (live : ℕ → Bool) (s : ℕ) (events : List Event) (all left : ℕ) : Type 0 where
  front : List Event
  newer : List Event
  older : List Event
  is : history events ≡ front ++ (newer ++ older)
  leads : LeadsAfter false c live 1 1 s newer older
  steps : length (part s newer) ≡ left
  few : length (part s (newer ++ older)) ≤ all

-- whatever their order
run_nodes : (c : Config) (pauses : List Pause) (events : List Event) (lengths : List ℕ) (rounds : ℕ) → AreRun c pauses events lengths rounds → AreNodes c events → ((r : ℕ) → r < c.replicas → IsDiligent c r (part_of r events)) → AreRunNodes false c events
run_nodes c pauses events lengths rounds run nodes diligent = record { legal = run.legal; made = run.made; order = nodes.order; led = nodes.led; diligent = diligent }

-- no log is longer than there are positions
log_few : (c : Config) (p : ℕ) (past : List Event) → IsLegalHistory c past → length (region_log p past) ≤ row_count c + reserve c + 1
log_few c p = legal_induction c (λ past. length (region_log p past) ≤ row_count c + reserve c + 1) (omega arith) (λ past by v h may ih. step past by v may.may ih)
  where
    step : (past : List Event) (by : ℕ) (v : Verb) → Needs c by (part by past) v → length (region_log p past) ≤ row_count c + reserve c + 1 → length (region_log p (event_after c past by v ∷ past)) ≤ row_count c + reserve c + 1
    step past by (Verb.PutSlot q i b v) may ih = go (put_answer (drained by q past)) (q == p) (i == length (region_log p past)) refl
      where
        go : (y : Answer) (t u : Bool) → (i == length (region_log p past)) ≡ u → length (log_with p (Verb.PutSlot q i b v) y (region_log p past)) ≤ row_count c + reserve c + 1
        go Answer.Done t u hu = put (q == p) (i == length (region_log p past)) refl
          where
            put : (t u : Bool) → (i == length (region_log p past)) ≡ u → length (if t then (if u then region_log p past ++ (b, v) ∷ [] else set (region_log p past) i (b, v)) else region_log p past) ≤ row_count c + reserve c + 1
            put true true at = let is = eqb-true i (length (region_log p past)) at in let low = may.1.0 in let sum = length-append (region_log p past) ((b, v) ∷ []) in omega (arith, is, low, sum)
            put true false at = let same = length-set (region_log p past) i (b, v) in omega (arith, same, ih)
            put false u at = ih
        go y t u hu = ih
    step past by v may ih = ih

-- so in a large ring nobody finds a place that is used again
pub none_outrun_large : (c : Config) (events : List Event) (q p i : ℕ) → IsConfig c → HasLargeRing c → IsLegalHistory c (history events) → q < c.replicas → AtEachStep (WasMade c q) (part_of q events) → outrun c q (part_of q events) ≡ Some (p, i) → ⊥
none_outrun_large c events q p i good large legal low made = go (part_of q events) refl made
  where
    go : (mine : List Event) → part_of q events ≡ mine → AtEachStep (WasMade c q) mine → outrun c q mine ≡ Some (p, i) → ⊥
    go [] is made some = cc
    go (e ∷ mine) is made some =
        let look = past_look q p i (length (known c q mine)) e.by e.verb e.answer (sym (none_earlier (outrun_by q (length (known c q mine)) e.by e.verb e.answer)) ∙ (sym (ap (λ o. earlier_or (outrun_by q (length (known c q mine)) e.by e.verb e.answer) o) made.1.going) ∙ some)) in
        let second = part_looks_are_kept_law c q p i mine e (subst (IsPossible c q) is (part_is_possible c q (history events) legal)) look.looks look.unread look.past in
        let at = stands_last q (history events) e mine is in
        let here : IsLegalHistory c (e ∷ at.older) = legal_older c at.newer (e ∷ at.older) (subst (IsLegalHistory c) at.is legal) in
        used e.verb e.answer at.older look.looks look.past here.1.answer here.0 second
      where
        used : (verb : Verb) (answer : Answer) (past : List Event) → verb ≡ Verb.Look p i → answer ≡ Answer.Past → answer ≡ answer_of c e.by past verb → IsLegalHistory c past → c.version ≡ 2 → ⊥
        used verb answer past looks is_past says legal second =
            let long = far (nat_lt (i + c.ring) (length (region_log p past))) refl (sym is_past ∙ says ∙ ap (answer_of c e.by past) looks) in
            let few = log_few c p past legal in
            let kept : reserve c ≡ c.replicas = ap (λ t. if t then c.replicas else 0) (eq-eqb c.version 2 second) in
            let some = good.replicas.0 in
            omega (arith, long, few, kept, some, large)
          where
            shown_not : (o : Option (ℕ × ℕ)) → Answer.Past ≡ shown o → ⊥
            shown_not None is = cc
            shown_not (Some x) is = cc

            far : (t : Bool) → nat_lt (i + c.ring) (length (region_log p past)) ≡ t → Answer.Past ≡ (if t then Answer.Past else shown (slice_get (region_log p past) i)) → i + c.ring < length (region_log p past)
            far true more is = ltb-true (i + c.ring) (length (region_log p past)) more
            far false less is = absurd (shown_not (slice_get (region_log p past) i) is)

resumes : (c : Config) (live : ℕ → Bool) (s : ℕ) (pauses : List Pause) (events : List Event) (lengths : List ℕ) (rounds k p left : ℕ) → IsConfig c → HasLargeRing c → AreRun c pauses events lengths rounds → AreNodes c events → ((r : ℕ) → r < c.replicas → IsDiligent c r (part_of r events)) → GoOnAfter c live s pauses lengths k p left → Resumed c live s events (k + p + 1 + left) left
resumes c live s pauses events lengths rounds k p left good large run nodes diligent on = record { front = front; newer = newer; older = older; is = is; leads = leads; steps = steps; few = few }
  where
    start : ℕ
    start = k + p + 1

    long : start + left ≤ rounds
    long = let late = on.late s on.inside on.lives in let all = run.all s on.inside in let few = few_rounds pauses s (slice_index lengths s) rounds in omega (arith, late, all, few)

    ids : map id_of events ≡ ids_after pauses lengths start ++ (ids_from pauses lengths start left ++ ids_from pauses lengths (start + left) (rounds - (start + left)))
    ids =
        run.order ∙ ap (ids_after pauses lengths) (let l = long in let e : rounds ≡ start + (left + (rounds - (start + left))) = omega (arith, l) in e)
        ∙ ids_split pauses lengths start (left + (rounds - (start + left)))
        ∙ ap (λ l. ids_after pauses lengths start ++ l) (from_split pauses lengths start left (rounds - (start + left)))

    one : Split events (ids_after pauses lengths start) (ids_from pauses lengths start left ++ ids_from pauses lengths (start + left) (rounds - (start + left)))
    one = split_ids events (ids_after pauses lengths start) (ids_from pauses lengths start left ++ ids_from pauses lengths (start + left) (rounds - (start + left))) ids

    two : Split one.second (ids_from pauses lengths start left) (ids_from pauses lengths (start + left) (rounds - (start + left)))
    two = split_ids one.second (ids_from pauses lengths start left) (ids_from pauses lengths (start + left) (rounds - (start + left))) one.second_ids

    front : List Event
    front = reverse two.second

    newer : List Event
    newer = reverse two.first

    older : List Event
    older = reverse one.first

    is : history events ≡ front ++ (newer ++ older)
    is = ap reverse (one.is ∙ ap (λ l. one.first ++ l) two.is) ∙ reverse-append one.first (two.first ++ two.second) ∙ ap (λ l. l ++ older) (reverse-append two.first two.second) ∙ append_assoc front newer older

    newer_ids : map id_of newer ≡ reverse (ids_from pauses lengths start left)
    newer_ids = map_reverse id_of two.first ∙ ap reverse two.first_ids

    low : (r : ℕ) → r < c.replicas → r < length lengths
    low r inside = let count = run.count in omega (arith, count, inside)

    due : (r : ℕ) → r < c.replicas → live r ≡ true → (y : ℕ) → y < left → due_in pauses lengths (start + y) r ≡ true
    due r inside lives y few = due_then pauses r (slice_index lengths r) k (start + y) on.pauses_by (let most = on.rounds r inside in omega (arith, most)) (let late = on.late r inside lives in omega (arith, late, few))

    idle : (r : ℕ) → r < c.replicas → live r ≡ false → (y : ℕ) → y < left → due_in pauses lengths (start + y) r ≡ false
    idle r inside gone y few = idle_then pauses r (slice_index lengths r) k (start + y) (on.stopped r inside gone) (let few = on.rounds r inside in omega (arith, few))

    steps_of : (r : ℕ) → length (part r newer) ≡ count_of r (ids_from pauses lengths start left)
    steps_of r = sym (count_part r newer) ∙ ap (count_of r) newer_ids ∙ count_reverse r (ids_from pauses lengths start left)

    steps : length (part s newer) ≡ left
    steps = steps_of s ∙ count_due pauses lengths start s left (low s on.inside) (due s on.inside on.lives)

    empty : (xs : List Event) → length xs ≡ 0 → xs ≡ []
    empty [] none = refl
    empty (x ∷ xs) none = absurd (omega (arith, none))

    quiet : (r : ℕ) → r < c.replicas → live r ≡ false → part r newer ≡ []
    quiet r inside gone = empty (part r newer) (steps_of r ∙ count_idle pauses lengths start r left (low r inside) (idle r inside gone))

    step : KeepsStep c live newer
    step q lq hq r above window below lr hr cuts = elim (cases_order q r) [
      | inl same ↦ (let e = ap (λ i. length (part i window)) same in omega (arith, e))
      | inr (inl less) ↦ even_in r q above window below (λ same. omega (arith, same, less)) (inl (subst (Alternate r q) (sym newer_ids ∙ ap (map id_of) cuts) (take_turns pauses lengths start q r left less (low r lr) (λ y few. (due q lq hq y few, due r lr hr y few)))))
      | inr (inr more) ↦ even_in r q above window below (λ same. omega (arith, same, more)) (inr (subst (Alternate q r) (sym newer_ids ∙ ap (map id_of) cuts) (take_turns pauses lengths start r q left more (low q lq) (λ y few. (due r lr hr y few, due q lq hq y few)))))
    ]

    split : (r : ℕ) → part_of r events ≡ part r front ++ part r (newer ++ older)
    split r = ap (part r) is ∙ filter-append (λ e. e.by == r) front (newer ++ older)

    legal : IsLegalHistory c (newer ++ older)
    legal = legal_older c front (newer ++ older) (subst (IsLegalHistory c) is run.legal)

    few : length (part s (newer ++ older)) ≤ start + left
    few =
        let both = ap length (filter-append (λ e. e.by == s) newer older) ∙ length-append (part s newer) (part s older) in
        let new = steps in
        let old = sym (count_part s older) ∙ ap (count_of s) (map_reverse id_of one.first ∙ ap reverse one.first_ids) ∙ count_reverse s (ids_after pauses lengths start) ∙ count_after pauses lengths s start (low s on.inside) in
        let most = few_rounds pauses s (slice_index lengths s) start in
        omega (arith, both, new, old, most)

    going : outrun c s (part s (newer ++ older)) ≡ None
    going =
        outrun_before c s (part s front) (part s (newer ++ older))
        (ap (outrun c s) (sym (split s)) ∙ none_of c s (part_of s events) (outrun c s (part_of s events)) refl (λ p i. none_outrun_large c events s p i good large run.legal on.inside (run.made s on.inside)))

    reads : (r : ℕ) → r < c.replicas → live r ≡ true → ReadsInTime c r (part r (newer ++ older))
    reads = λ r inside _. reads_before c r (part r front) (part r (newer ++ older)) (subst (ReadsInTime c r) (split r) (diligent r inside).heartbeat_pace)

    -- they are fair
    fair : IsFairStretch c live 1 1 s newer older
    fair = record {
      inside = on.inside;
      lives = on.lives;
      least = on.lower;
      majority = on.majority;
      quiet = quiet;
      seen = inl (fast_found c live s newer older on.inside on.lives legal reads (step s on.inside on.lives));
      keeps_up = even_keep c live s newer on.inside on.lives step;
    }

    leads : LeadsAfter false c live 1 1 s newer older
    leads = leads_in false c live 1 1 s events front newer older (run_nodes c pauses events lengths rounds run nodes diligent) is fair going

-- a moment at which s has taken at most m steps, and has every row in its log
pub record HoldsBy (c : Config) (s m : ℕ) (events : List Event) : Type 0 where
  pub front : List Event
  pub past : List Event
  pub is : history events ≡ front ++ past
  pub few : length (part s past) ≤ m
  pub holds : holds_all c (applied c s (part s past)) ≡ true

-- after pauses there is such a moment
pub holds_after_pauses : (c : Config) (live : ℕ → Bool) (s : ℕ) (pauses : List Pause) (events : List Event) (lengths : List ℕ) (rounds k p : ℕ) → IsConfig c → HasLargeRing c → AreRun c pauses events lengths rounds → AreNodes c events → ((r : ℕ) → r < c.replicas → IsDiligent c r (part_of r events)) → GoOnAfter c live s pauses lengths k p (steps_after_pauses c)
    → HoldsBy c s (k + p + 1 + steps_after_pauses c) events
holds_after_pauses c live s pauses events lengths rounds k p good large run nodes diligent on = at (resumes c live s pauses events lengths rounds k p (steps_after_pauses c) good large run nodes diligent on)
  where
    at : Resumed c live s events (k + p + 1 + steps_after_pauses c) (steps_after_pauses c) → HoldsBy c s (k + p + 1 + steps_after_pauses c) events
    at r = record { front = r.front; past = r.newer ++ r.older; is = r.is; few = r.few; holds = applies_then false c live 1 1 s events r.front r.newer r.older good large (run_nodes c pauses events lengths rounds run nodes diligent) r.is r.leads (let n = r.steps in omega (arith, n)) }

-- in what a replay leaves
pub paused_run : (o : Outcome) (order : Record) (seats : List Seat) (rounds : ℕ) (run : IsRun o) → o.order ≡ Some order → Played o.job.config o.job.script order.events seats rounds 0 → AreRun o.job.config o.job.script.pauses run.order.events (map length (journals_of o)) run.turns.rounds
paused_run o order seats rounds run given played = record {
  legal = run.legal;
  order = run.turns.is;
  count = length-map (journals_of o) length ∙ run.parts.count;
  all = λ r low. run.turns.all r (let count = length-map (journals_of o) length ∙ run.parts.count in omega (arith, count, low));
  taken = λ r low. length_at (journals_of o) r (part r run.order.events) (run.parts.each r low) ∙ length_of_part r run.order.events;
  made = λ r low. made r low;
}
  where
    made : (r : ℕ) → r < o.job.config.replicas → AtEachStep (WasMade o.job.config r) (part_of r run.order.events)
    made r low =
        let count = played.count in
        let found = item_below seats r (omega (arith, low, count)) in
        subst (λ (x : Record). AtEachStep (WasMade o.job.config r) (part_of r x.events)) (same_some order run.order (sym given ∙ run.given)) ((played.waits r found.0 found.1 (omega arith)).follows.made)

pub none_outrun_in_large : (o : Outcome) (order : Record) (seats : List Seat) (rounds : ℕ) → IsConfig o.job.config → (run : IsRun o) → o.order ≡ Some order → Played o.job.config o.job.script order.events seats rounds 0 → NoneOutrunInLargeRing o
none_outrun_in_large o order seats rounds good run given played large r p i low is =
    let all = paused_run o order seats rounds run given played in
    let ended = run.ended r low in
    none_outrun_large o.job.config run.order.events r p i good large run.legal low (all.made r low)
    (subst (λ l. outrun o.job.config r l ≡ Some (p, i)) (journal_part o run r low) (outrun_end o.job.config o.job.script r p i (history (journal_of o r)) ended.0 (same_some ended.0 (End.Outrun p i) (sym ended.1 ∙ is)) ended.2.ends))
