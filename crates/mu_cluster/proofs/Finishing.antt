-- In a replay without a pause each replica that wasn't stopped finishes.
use Rattle.std.proofs.Common.{◌≡◌, ◌∙◌, ◌≢◌, ◌⊎◌, ℕ, zero, suc, ◌+◌, ◌-◌, ◌*◌, ◌<◌, ◌≤◌, ◌==◌, ◌&&◌, ◌||◌, inl, inr, Bool, true, false, cond, None, Some, List, [], ◌∷◌, ◌++◌, ap, append_assoc, arith, length, map, refl, subst, sym, take}
use Rattle.std.specs.declared.option.Option.{Option}
use Rattle.std.specs.Prelude.{nat_le, not, slice_index}
use Rattle.std.specs.List.{slice_get}
use Rattle.std.proofs.lemmas.Bool.{and_from, and_parts, cases_eq, cases_lt, eq-eqb, eqb-true, le-leb, true≢false, not-true}
use Rattle.std.proofs.lemmas.List.{length-append, length-reverse, length-take}
use Rattle.mu_agree.proofs.Knowing.{known_stays}
use Rattle.mu_agree.proofs.Legal.{legal_older}
use Rattle.mu_agree.proofs.Prefixes.{greatest_along}
use Rattle.mu_model.specs.declared.config.Config.{Config}
use Rattle.mu_model.specs.declared.event.Answer.{Answer}
use Rattle.mu_model.specs.declared.event.Event.{Event}
use Rattle.mu_model.specs.declared.event.Verb.{Verb}
use Rattle.mu_model.specs.declared.script.End.{End}
use Rattle.mu_model.specs.Answers.{answer_of}
use Rattle.mu_model.specs.Bounds.{cycle}
use Rattle.mu_model.specs.Contents.{IsConfig, holds_all}
use Rattle.mu_model.specs.Diligence.{IsDiligent}
use Rattle.mu_model.specs.Ends.{EndsBy, full_length, head_known, is_at_least, is_finished, is_full, outrun, stops_at}
use Rattle.mu_model.specs.Histories.{has, history, newer_or, newest, part}
use Rattle.mu_model.specs.Journals.{Record}
use Rattle.mu_model.specs.Knowledge.{applied, has_entry, known}
use Rattle.mu_model.specs.Legal.{IsLegalHistory}
use Rattle.mu_model.specs.Regions.{head_raised, region_head}
use Rattle.mu_model.specs.Room.{head_read}
use Rattle.mu_model.specs.Scores.{is_failed}
use Rattle.mu_model.specs.Steps.{is_head_of, is_head_of_verb}
use Rattle.mu_model.proofs.Basics.{same_some}
use Rattle.mu_model.proofs.Lists.{get_front}
use Rattle.mu_model.proofs.Owned.{greatest-part}
use Rattle.mu_model.proofs.Parts.{filter-append}
use Rattle.mu_model.proofs.Scans.{each_all}
use Rattle.mu_outcome.specs.declared.outcome.Outcome.{Outcome}
use Rattle.mu_outcome.specs.Outcomes.{IsRun, journal_of, journals_of}
use Rattle.mu_alive.specs.Failing.{failing_steps}
use Rattle.mu_alive.proofs.Cutting.{Located, located}
use Rattle.mu_alive.proofs.Enough.{outrun_before}
use Rattle.mu_alive.proofs.Fetching.{applied_grows}
use Rattle.mu_alive.proofs.Spreading.{get_of_front, get_take, heads-own}
use Rattle.mu_cluster.specs.declared.rounds.Seat.{Seat}
use Rattle.mu_cluster.specs.Finishing.{HasApplied}
use Rattle.mu_cluster.specs.Outliving.{GoesOnWith, is_stop, was_stopped}
use Rattle.mu_cluster.specs.Paces.{AreDiligent}
use Rattle.mu_cluster.specs.Rounds.{Played, part_of}
use Rattle.mu_cluster.proofs.Living.{none_of}
use Rattle.mu_cluster.proofs.Naming.{AreUnpaused, unpaused_of}
use Rattle.mu_cluster.proofs.Onward.{journal_part, nodes_of}
use Rattle.mu_cluster.proofs.Outliving.{After, after, fails_then}
use Rattle.mu_cluster.proofs.Outrunning.{none_outrun}
use Rattle.mu_cluster.proofs.Raised.{RaisedBy, full_holds, holds_whole, late_or_raised}
use Rattle.mu_cluster.proofs.Taken.{GoOn}
use Rattle.mu_node.proofs.Leading.{least_most}
use Rattle.mu_agree.proofs.Sessions.{same_list}
use Rattle.mu_pace.proofs.Pasts.{cut, has_later}
use Rattle.mu_alive.proofs.Settling.{score-part}

-- what a log held it holds later
same_later : (c : Config) (r l : ℕ) (newer older : List Event) → l ≤ length (applied c r older) → take l (applied c r (newer ++ older)) ≡ take l (applied c r older)
same_later c r l newer older low =
    same_list (take l (applied c r (newer ++ older))) (take l (applied c r older))
    (let a = length-take l (applied c r (newer ++ older)) in let b = length-take l (applied c r older) in let grows = applied_grows c r newer older in omega (arith, a, b, low, grows))
    (λ i v w at there.
    let more = known_stays c r newer older in
    let now = get_of_front (λ x. has_entry c r x (newer ++ older)) (known c r (newer ++ older)) i v (get_take l (applied c r (newer ++ older)) i v at) in
    let then_known = get_front (known c r older) more.0 i w (get_of_front (λ x. has_entry c r x older) (known c r older) i w (get_take l (applied c r older) i w there)) in
    same_some v w (sym now ∙ (ap (λ x. slice_get x i) more.1 ∙ then_known)))

-- what was read last of a head, if each read since tells as much
newest_read : (r q l : ℕ) (xs base : List Event) → ((above below : List Event) (e : Event) → xs ≡ above ++ e ∷ below → is_head_of q e ≡ true → (y : ℕ) × (head_read r q e.by e.verb e.answer ≡ Some y) × (l ≤ y)) → has (is_head_of q) xs ≡ true
    → (y : ℕ) × (newest (λ e. head_read r q e.by e.verb e.answer) (xs ++ base) ≡ Some y) × (l ≤ y)
newest_read r q l [] base tells some = absurd (true≢false (sym some))
newest_read r q l (e ∷ xs) base tells some = go (is_head_of q e) refl some (λ there. newest_read r q l xs base (λ above below f is. tells (e ∷ above) below f (ap (λ z. e ∷ z) is)) there)
  where
    unread : (by : ℕ) (verb : Verb) (answer : Answer) → is_head_of_verb q verb ≡ false → head_read r q by verb answer ≡ None
    unread by (Verb.Head p) (Answer.Number x) other = off (by == r) (p == q) other
      where
        off : (t u : Bool) → u ≡ false → cond {A = Option ℕ} (t && u) (Some x) None ≡ None
        off true u h = ap (λ z. cond {A = Option ℕ} z (Some x) None) h
        off false u h = refl
    unread by verb answer other = refl

    go : (t : Bool) → is_head_of q e ≡ t → cond t true (has (is_head_of q) xs) ≡ true → (has (is_head_of q) xs ≡ true → (y : ℕ) × (newest (λ f. head_read r q f.by f.verb f.answer) (xs ++ base) ≡ Some y) × (l ≤ y))
        → (y : ℕ) × (newer_or (head_read r q e.by e.verb e.answer) (newest (λ f. head_read r q f.by f.verb f.answer) (xs ++ base)) ≡ Some y) × (l ≤ y)
    go true is some ih = let told = tells [] xs e refl is in (told.0, ap (λ o. newer_or o (newest (λ f. head_read r q f.by f.verb f.answer) (xs ++ base))) told.1, told.2)
    go false is some ih = let more = ih some in (more.0, ap (λ o. newer_or o (newest (λ f. head_read r q f.by f.verb f.answer) (xs ++ base))) (unread e.by e.verb e.answer is) ∙ more.1, more.2)

reads_head : (c : Config) (r q by : ℕ) (verb : Verb) (answer : Answer) (past : List Event) → by ≡ r → is_head_of_verb q verb ≡ true → answer ≡ answer_of c by past verb → head_read r q by verb answer ≡ Some (region_head q past)
reads_head c r q by (Verb.Head p) answer past own reads is =
    ap (head_read r q by (Verb.Head p)) is ∙ ap (λ t. cond {A = Option ℕ} t (Some (region_head p past)) None) (and_from (by == r) (p == q) (eq-eqb by r own) reads) ∙ ap (λ x. Some (region_head x past)) (eqb-true p q reads)
reads_head c r q by verb answer past own reads is = absurd (true≢false (sym reads))

-- after m of its events r has finished
record DoneAfter (c : Config) (r m : ℕ) (whole : List Event) : Type 0 where
  newer : List Event
  event : Event
  mine : List Event
  is : whole ≡ newer ++ event ∷ mine
  count : length mine ≡ m
  done : is_finished c r mine ≡ true

done_after : (c : Config) (live : ℕ → Bool) (events : List Event) (lengths : List ℕ) (rounds most s r m : ℕ) → AreUnpaused c events lengths rounds → (on : GoOn c live s events) → (by : RaisedBy c live events most) → r < c.replicas → live r ≡ true → m < length (part_of r events) → most + c.replicas * cycle c ≤ m
    → ((q : ℕ) → q < c.replicas → live q ≡ false → length (part_of q events) + failing_steps c ≤ m) → DoneAfter c r m (part_of r events)
done_after c live events lengths rounds most s r m run on by low lives more enough failing = start (after left (part r by.front) many)
  where
    upto : ℕ
    upto = by.raised.upto

    split : (q : ℕ) → part_of q events ≡ part q by.front ++ part q by.past
    split q = ap (part q) by.is ∙ filter-append (λ e. e.by == q) by.front by.past

    -- how many of its events are left after the moment at which all have raised their heads
    left : ℕ
    left = m - length (part r by.past)

    count : left + length (part r by.past) ≡ m
    count = let few = by.few r low lives in omega (arith, few, enough)

    many : left < length (part r by.front)
    many = let sum = ap length (split r) ∙ length-append (part r by.front) (part r by.past) in let n = count in omega (arith, sum, n, more)

    start : After left (part r by.front) → DoneAfter c r m (part_of r events)
    start a = at (located r by.front a.top a.bottom a.event a.is)
      where
        event : Event
        event = a.event

        rest : List Event
        rest = a.bottom

        at : Located r by.front event rest → DoneAfter c r m (part_of r events)
        at l = record { newer = a.top; event = event; mine = mine; is = split r ∙ ap (λ x. x ++ part r by.past) a.is ∙ append_assoc a.top (event ∷ rest) (part r by.past); count = long; done = done }
          where
            mine : List Event
            mine = rest ++ part r by.past

            moment : List Event
            moment = l.older ++ by.past

            whole : history events ≡ (l.newer ++ event ∷ []) ++ moment
            whole = by.is ∙ ap (λ x. x ++ by.past) l.is ∙ append_assoc l.newer (event ∷ l.older) by.past ∙ sym (append_assoc l.newer (event ∷ []) moment)

            mine_is : part r moment ≡ mine
            mine_is = filter-append (λ e. e.by == r) l.older by.past ∙ ap (λ x. x ++ part r by.past) l.before

            long : length mine ≡ m
            long = let sum = length-append rest (part r by.past) in let n = a.count in let all = count in omega (arith, sum, n, all)

            rounds_long : c.replicas * cycle c ≤ length rest
            rounds_long = let n = a.count in let all = count in let few = by.few r low lives in omega (arith, n, all, few, enough)

            had : upto ≤ length (applied c r (part r by.past))
            had = by.raised.reached r low lives

            has_now : upto ≤ length (applied c r mine)
            has_now = let grows = applied_grows c r rest (part r by.past) in let h = had in omega (arith, grows, h)

            full_low : full_length c r mine ≤ upto
            full_low = least_most (length (applied c r mine) + 1) upto (λ k. holds_all c (take k (applied c r mine))) (let h = has_now in omega (arith, h)) (ap (holds_all c) (same_later c r upto rest (part r by.past) had) ∙ by.raised.held r low lives)

            own_head : upto ≤ region_head r mine
            own_head =
                let region = greatest-part (λ e. head_raised r e.by e.verb) r (heads-own r) moment in
                let same = ap (region_head r) mine_is in
                let up = greatest_along (λ e. head_raised r e.by e.verb) l.older by.past in
                let high = by.raised.raised r low lives in
                omega (arith, region, same, up, high)

            -- each read of a head of one that goes on, since then
            tells : (q : ℕ) → q < c.replicas → live q ≡ true → (above below : List Event) (e : Event) → rest ≡ above ++ e ∷ below → is_head_of q e ≡ true → (y : ℕ) × (head_read r q e.by e.verb e.answer ≡ Some y) × (upto ≤ y)
            tells q inside goes above below e cuts reads = told (located r l.older above below e (l.before ∙ cuts))
              where
                told : Located r l.older e below → (y : ℕ) × (head_read r q e.by e.verb e.answer ≡ Some y) × (upto ≤ y)
                told k =
                    let there : history events ≡ ((l.newer ++ event ∷ []) ++ k.newer) ++ e ∷ (k.older ++ by.past) = whole ∙ ap (λ x. (l.newer ++ event ∷ []) ++ x) (ap (λ x. x ++ by.past) k.is ∙ append_assoc k.newer (e ∷ k.older) by.past) ∙ sym (append_assoc (l.newer ++ event ∷ []) k.newer (e ∷ (k.older ++ by.past))) in
                    let legal = (legal_older c ((l.newer ++ event ∷ []) ++ k.newer) (e ∷ (k.older ++ by.past)) (subst (IsLegalHistory c) there run.legal)).1 in
                    let up = greatest_along (λ f. head_raised q f.by f.verb) k.older by.past in
                    let high = by.raised.raised q inside goes in
                    (region_head q (k.older ++ by.past), reads_head c r q e.by e.verb e.answer (k.older ++ by.past) k.own reads legal.answer, omega (arith, up, high))

            read : (q : ℕ) → q < c.replicas → q ≢ r → has (is_head_of q) rest ≡ true
            read q inside other =
                let k = cut (c.replicas * cycle c) rest rounds_long in
                let there : part r by.front ≡ (a.top ++ event ∷ k.newer) ++ k.rest = a.is ∙ ap (λ x. a.top ++ event ∷ x) k.is ∙ sym (append_assoc a.top (event ∷ k.newer) k.rest) in
                let stretch : part_of r events ≡ (a.top ++ event ∷ k.newer) ++ (k.rest ++ part r by.past) = split r ∙ ap (λ x. x ++ part r by.past) there ∙ append_assoc (a.top ++ event ∷ k.newer) k.rest (part r by.past) in
                subst (λ x. has (is_head_of q) x ≡ true) (sym k.is) (has_later (is_head_of q) k.newer k.rest ((on.diligent r low).head_pace.reads q k.rest (part r by.past) inside other (record { newer = a.top ++ event ∷ k.newer; is = stretch }) k.count))

            other_is : (q : ℕ) → q < c.replicas → q ≢ r → (t : Bool) → live q ≡ t → (is_at_least (full_length c r mine) (newest (λ e. head_read r q e.by e.verb e.answer) mine) || is_failed r q mine) ≡ true
            other_is q inside other true goes =
                let k = newest_read r q upto rest (part r by.past) (tells q inside goes) (read q inside other) in
                ap (λ o. is_at_least (full_length c r mine) o || is_failed r q mine) k.1 ∙ ap (λ t. t || is_failed r q mine) (le-leb (full_length c r mine) k.0 (let low = full_low in let high = k.2 in omega (arith, low, high)))
            other_is q inside other false stopped =
                let late = failing q inside stopped in
                let n = long in
                let same = ap length mine_is in
                let failed = fails_then c events lengths rounds q r (l.newer ++ event ∷ []) moment run (on.diligent r low).heartbeat_pace whole inside low other (omega (arith, late, n, same)) in
                let mine_failed : is_failed r q mine ≡ true = ap (is_failed r q) (sym mine_is) ∙ ap (λ s. not s.1) (score-part r q moment) ∙ failed in
                either (is_at_least (full_length c r mine) (newest (λ e. head_read r q e.by e.verb e.answer) mine)) (is_failed r q mine) mine_failed
              where
                either : (t u : Bool) → u ≡ true → (t || u) ≡ true
                either true u h = refl
                either false u h = h

            each : (q : ℕ) → q < c.replicas → ((q == r) || (is_at_least (full_length c r mine) (newest (λ e. head_read r q e.by e.verb e.answer) mine) || is_failed r q mine)) ≡ true
            each q inside = elim (cases_eq q r) [
              | inl same ↦ ap (λ t. t || (is_at_least (full_length c r mine) (newest (λ e. head_read r q e.by e.verb e.answer) mine) || is_failed r q mine)) (eq-eqb q r same)
              | inr other ↦ late (q == r) (other_is q inside other (live q) refl)
            ]
              where
                late : (t : Bool) → (is_at_least (full_length c r mine) (newest (λ e. head_read r q e.by e.verb e.answer) mine) || is_failed r q mine) ≡ true → (t || (is_at_least (full_length c r mine) (newest (λ e. head_read r q e.by e.verb e.answer) mine) || is_failed r q mine)) ≡ true
                late true h = refl
                late false h = h

            done : is_finished c r mine ≡ true
            done =
                and_from (is_full c r mine) _ (le-leb (full_length c r mine) (length (applied c r mine)) (let a = full_low in let b = has_now in omega (arith, a, b)))
                (and_from (nat_le (full_length c r mine) (region_head r mine)) _ (le-leb (full_length c r mine) (region_head r mine) (let a = full_low in let b = own_head in omega (arith, a, b)))
                (each_all c.replicas (λ q. (q == r) || (is_at_least (full_length c r mine) (newest (λ e. head_read r q e.by e.verb e.answer) mine) || is_failed r q mine)) each))

-- the heads that it knows, as they are told
abbrev heads_of : (ℕ → ℕ) → List ℕ
heads_of f = f 0 ∷ f 1 ∷ f 2 ∷ f 3 ∷ f 4 ∷ f 5 ∷ f 6 ∷ []

heads_are : (f : ℕ → ℕ) (q : ℕ) → q < 7 → slice_index (heads_of f) q ≡ f q
heads_are f zero low = refl
heads_are f (suc zero) low = refl
heads_are f (suc (suc zero)) low = refl
heads_are f (suc (suc (suc zero))) low = refl
heads_are f (suc (suc (suc (suc zero)))) low = refl
heads_are f (suc (suc (suc (suc (suc zero))))) low = refl
heads_are f (suc (suc (suc (suc (suc (suc zero)))))) low = refl
heads_are f (suc (suc (suc (suc (suc (suc (suc q))))))) low = absurd (omega (arith, low))

-- how many steps each took
abbrev pub lengths_of : Outcome → List ℕ
lengths_of o = map length (journals_of o)

-- in what a replay leaves, those that weren't stopped go on
pub goes_on_of : (o : Outcome) (order : Record) (seats : List Seat) (rounds s : ℕ) → IsConfig o.job.config → (run : IsRun o) → o.order ≡ Some order → Played o.job.config o.job.script order.events seats rounds 0 → AreDiligent o → o.job.script.pauses ≡ [] → GoesOnWith o s → GoOn o.job.config (λ r. not (was_stopped o r)) s run.order.events
goes_on_of o order seats rounds s good run given played diligent unpaused on = record {
  inside = on.inside;
  lives = ap not on.left;
  lower = λ r low. ap not (on.lower r low);
  majority = on.majority;
  diligent = λ q inside. subst (IsDiligent c q) (journal_part o run q inside) (diligent q inside);
  led = (nodes_of o order seats rounds run given played diligent).led s on.inside;
  ended = ended;
}
  where
    c : Config
    c = o.job.config

    events : List Event
    events = run.order.events

    ended : (q : ℕ) → q < c.replicas → not (was_stopped o q) ≡ true → (length (part_of q events) ≡ c.budget) ⊎ (is_finished c q (part_of q events) ≡ true)
    ended q inside goes = go (run.ended q inside).0 (run.ended q inside).1 (run.ended q inside).2.ends
      where
        go : (end : End) → slice_get o.ends q ≡ Some end → EndsBy c o.job.script q (history (journal_of o q)) end → (length (part_of q events) ≡ c.budget) ⊎ (is_finished c q (part_of q events) ≡ true)
        go End.Stopped is ends = absurd (true≢false (sym (ap is_stop is) ∙ not-true (was_stopped o q) goes))
        go End.Budget is ends = inl (ap length (sym (journal_part o run q inside)) ∙ ends.1)
        go (End.Outrun p i) is ends = absurd (none_outrun c events (map length (journals_of o)) run.turns.rounds q p i good (unpaused_of o order seats rounds run given played unpaused) inside (ap (outrun c q) (sym (journal_part o run q inside)) ∙ ends.1))
        go (End.Finished heads) is ends = inr (ap (is_finished c q) (sym (journal_part o run q inside)) ∙ ends.2)

-- and each of them finishes by m events, if all raise their heads in time and hold the others failed in time
pub finishes_from : (o : Outcome) (order : Record) (seats : List Seat) (rounds s most m : ℕ) → IsConfig o.job.config → (run : IsRun o) → o.order ≡ Some order → Played o.job.config o.job.script order.events seats rounds 0 → o.job.script.pauses ≡ [] → GoOn o.job.config (λ r. not (was_stopped o r)) s run.order.events
    → (((r : ℕ) → r < o.job.config.replicas → not (was_stopped o r) ≡ true → most ≤ slice_index (lengths_of o) r) → RaisedBy o.job.config (λ r. not (was_stopped o r)) run.order.events most) → most + o.job.config.replicas * cycle o.job.config ≤ m → m < o.job.config.budget
    → ((q : ℕ) → q < o.job.config.replicas → not (was_stopped o q) ≡ false → length (part_of q run.order.events) + failing_steps o.job.config ≤ m)
    → (r : ℕ) → r < o.job.config.replicas → was_stopped o r ≡ false → HasApplied o r × (length (journal_of o r) ≤ m)
finishes_from o order seats rounds s most m good run given played unpaused goes_on raises enough within failing r low there = (by_end (run.ended r low).0 (run.ended r low).1 (run.ended r low).2.ends, few)
  where
    c : Config
    c = o.job.config

    events : List Event
    events = run.order.events

    lengths : List ℕ
    lengths = lengths_of o

    live : ℕ → Bool
    live q = not (was_stopped o q)

    all : AreUnpaused c events lengths run.turns.rounds
    all = unpaused_of o order seats rounds run given played unpaused

    raised : RaisedBy c live events most
    raised = elim (late_or_raised c live s events lengths run.turns.rounds most all goes_on (omega (arith, enough, within))) [ inl late ↦ raises late | inr by ↦ by ]

    -- it can't have gone on
    longer : DoneAfter c r m (part_of r events) → ⊥
    longer d = first_end (stops_at r (length d.mine) o.job.script.stops) refl
      where
        newer : List Event
        newer = d.newer ++ d.event ∷ []

        mine : part_of r events ≡ newer ++ d.mine
        mine = d.is ∙ sym (append_assoc d.newer (d.event ∷ []) d.mine)

        some : newer ≢ []
        some none = let n = ap length none in let sum = length-append d.newer (d.event ∷ []) in omega (arith, n, sum)

        short : length d.mine ≢ c.budget
        short same = let n = d.count in omega (arith, same, n, within)

        none : outrun c r d.mine ≡ None
        none = outrun_before c r newer d.mine (ap (outrun c r) (sym mine) ∙ none_of c r (part_of r events) (outrun c r (part_of r events)) refl (λ p i. none_outrun c events lengths run.turns.rounds r p i good all low))

        no_end : (end : End) → EndsBy c o.job.script r d.mine end → ⊥
        no_end end ends = (run.ended r low).2.first newer d.mine end (journal_part o run r low ∙ mine) some ends

        first_end : (t : Bool) → stops_at r (length d.mine) o.job.script.stops ≡ t → ⊥
        first_end true stops = no_end End.Stopped stops
        first_end false stops = no_end (End.Finished (heads_of (head_known r d.mine))) ((stops, short), none, d.done, heads_are (head_known r d.mine))

    few_events : length (part_of r events) ≤ m
    few_events = elim (cases_lt m (length (part_of r events))) [
      | inl more ↦ absurd (longer (done_after c live events lengths run.turns.rounds most s r m all goes_on raised low (ap not there) more enough failing))
      | inr few ↦ few
    ]

    few : length (journal_of o r) ≤ m
    few = let n = few_events in let same = ap length (journal_part o run r low) in let long = length-reverse (journal_of o r) in omega (arith, n, same, long)

    by_end : (end : End) → slice_get o.ends r ≡ Some end → EndsBy c o.job.script r (history (journal_of o r)) end → HasApplied o r
    by_end End.Stopped is ends = absurd (true≢false (sym (ap is_stop is) ∙ there))
    by_end End.Budget is ends = absurd (let n = few in let all = ends.1 in let long = length-reverse (journal_of o r) in omega (arith, n, all, long, within))
    by_end (End.Outrun p i) is ends = absurd (none_outrun c events lengths run.turns.rounds r p i good all low (ap (outrun c r) (sym (journal_part o run r low)) ∙ ends.1))
    by_end (End.Finished heads) is ends = record { heads = heads; ended = is; holds = ap (holds_all c) (run.logs r low) ∙ holds_mine }
      where
        mine : List Event
        mine = history (journal_of o r)

        full : is_full c r mine ≡ true
        full = (and_parts (is_full c r mine) _ ends.2).0

        holds_mine : holds_all c (applied c r mine) ≡ true
        holds_mine = holds_whole c (full_length c r mine) (applied c r mine) (full_holds c r mine full)
