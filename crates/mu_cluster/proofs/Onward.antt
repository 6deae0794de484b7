-- In a replay whose script has no pause no leadership is ever over.
use Rattle.std.proofs.Common.{◌≡◌, ◌∙◌, ℕ, ◌+◌, ◌*◌, ◌-◌, ◌<◌, ◌≤◌, ◌==◌, ◌&&◌, inl, inr, Bool, true, false, cond, None, Some, List, [], ◌∷◌, ◌++◌, ap, append_assoc, arith, eqb-true, length, map, refl, subst, sym}
use Rattle.std.specs.declared.option.Option.{Option}
use Rattle.std.specs.Prelude.{nat_lt, not}
use Rattle.std.proofs.lemmas.Bool.{cases_lt, eq-eqb, le-ltb, lt-ltb, ne_eqb, true≢false}
use Rattle.std.proofs.lemmas.List.{length-append}
use Rattle.mu_agree.proofs.Legal.{legal_older}
use Rattle.mu_agree.proofs.Members.{over-part}
use Rattle.mu_model.specs.declared.config.Config.{Config}
use Rattle.mu_model.specs.declared.event.Answer.{Answer}
use Rattle.mu_model.specs.declared.event.Event.{Event}
use Rattle.mu_model.specs.declared.event.Verb.{Verb}
use Rattle.mu_model.specs.Answers.{answer_of}
use Rattle.mu_model.specs.Bounds.{cycle}
use Rattle.mu_model.specs.Contents.{IsConfig}
use Rattle.mu_model.specs.Diligence.{ReadsInTime, was_unnamed}
use Rattle.mu_model.specs.Histories.{has, history, newest, or_zero, part}
use Rattle.mu_model.specs.Journals.{Record}
use Rattle.mu_model.specs.Leaderships.{begins_leadership, is_over}
use Rattle.mu_model.specs.Legal.{IsLegalHistory}
use Rattle.mu_model.specs.Regions.{beats}
use Rattle.mu_model.specs.Scores.{alive_after, beat_read, leader, next_score, points_after, score, score_after_read}
use Rattle.mu_model.specs.Steps.{is_asking, is_asking_verb, is_beat_read, is_named}
use Rattle.mu_model.specs.Stretches.{is_replication}
use Rattle.mu_model.proofs.Basics.{same_number, same_some}
use Rattle.mu_model.proofs.Least.{least_found, least_none}
use Rattle.mu_model.proofs.Lists.{item_below}
use Rattle.mu_model.proofs.Parts.{history-part, part_is_possible}
use Rattle.mu_detect.proofs.Leaders.{failed_follows, may_lead, own_leads}
use Rattle.mu_detect.specs.Stands.{last_count}
use Rattle.mu_lively.specs.Order.{InCycleOrder}
use Rattle.mu_node.specs.declared.zeal.Zeal.{Zeal}
use Rattle.mu_node.specs.Journal.{IsListed, WasMade}
use Rattle.mu_lively.proofs.Listed.{listed_is_paced}
use Rattle.mu_lively.proofs.Order.{in_order}
use Rattle.mu_lively.proofs.Naming.{asker_named}
use Rattle.mu_outcome.specs.declared.outcome.Outcome.{Outcome}
use Rattle.mu_outcome.specs.Outcomes.{IsRun, journal_of, journals_of, or_empty}
use Rattle.mu_pace.specs.Collecting.{LeaderKeeps}
use Rattle.mu_agree.specs.Moments.{AtEachMoment, AtEachStep}
use Rattle.mu_pace.proofs.Counting.{last_moment, moments_before, steps_before}
use Rattle.mu_alive.specs.Turns.{AreInTurn, is_own_min}
use Rattle.mu_alive.proofs.Beginning.{begins_now, cause_is}
use Rattle.mu_alive.proofs.Cutting.{Located, located, met}
use Rattle.mu_alive.proofs.Settling.{score-part}
use Rattle.mu_alive.proofs.Failing.{beat_verb, quiet_beats, quiet_last}
use Rattle.mu_alive.proofs.TurnFences.{lead_on_moments, turns_lead_on}
use Rattle.mu_alive.proofs.Turns.{begun-part, min_begun, min_leads}
use Rattle.mu_cluster.specs.declared.rounds.Seat.{Seat}
use Rattle.mu_cluster.specs.Leading.{LeadOnUnpaused}
use Rattle.mu_cluster.specs.Paces.{AreDiligent}
use Rattle.mu_cluster.specs.Rounds.{Played, Sits, part_of}
use Rattle.mu_cluster.proofs.Naming.{AreUnpaused, part_before, part_step, unpaused_of}
use Rattle.mu_cluster.proofs.Turning.{asks_late, names_failed, outlasted}
use Rattle.mu_cluster.proofs.InTurn.{Asked, asked, insider, none_below, none_left}
use Rattle.mu_cluster.proofs.Turned.{fresh_read, part_split, resting_read}
use Rattle.mu_pace.proofs.Pasts.{cut}

-- who is held failed has few points
few_points : (n : ℕ) (was : Bool) → alive_after n was ≡ false → n ≤ 6
few_points n was is = elim (cases_lt 6 n) [
  | inl high ↦ absurd (true≢false (sym (alive (le-ltb n 2 (omega (arith, high))) (lt-ltb 6 n high)) ∙ is))
  | inr low ↦ low
]
  where
    alive : nat_lt n 2 ≡ false → nat_lt 6 n ≡ true → alive_after n was ≡ true
    alive a b = rw (a, b) refl

failed_points : (r q : ℕ) (past : List Event) → (score r q past).1 ≡ false → (score r q past).0 ≤ 6
failed_points r q [] failed = absurd (true≢false failed)
failed_points r q (e ∷ past) failed = go (beat_read r q e.by e.verb e.answer) failed (failed_points r q past)
  where
    go : (o : Option ℕ) → (score_after_read (score r q past) (or_zero (newest (λ f. beat_read r q f.by f.verb f.answer) past)) o).1 ≡ false → ((score r q past).1 ≡ false → (score r q past).0 ≤ 6)
        → (score_after_read (score r q past) (or_zero (newest (λ f. beat_read r q f.by f.verb f.answer) past)) o).0 ≤ 6
    go None failed ih = ih failed
    go (Some x) failed ih = few_points (points_after (score r q past).0 (not (x == or_zero (newest (λ f. beat_read r q f.by f.verb f.answer) past)))) (score r q past).1 failed

-- if q makes no event a failed score stays
record StaysFailed (r q : ℕ) (count : ℕ) (past : List Event) : Type 0 where
  failed : (score r q past).1 ≡ false
  last : last_count r q past ≡ count

quiet_step : (c : Config) (r q count by : ℕ) (verb : Verb) (past : List Event) → beats q past ≡ count → StaysFailed r q count past → StaysFailed r q count (record { by = by; verb = verb; answer = answer_of c by past verb } ∷ past)
quiet_step c r q count by (Verb.ReadBeat p) past stays was = go (by == r) refl (p == q) refl
  where
    go : (t : Bool) → (by == r) ≡ t → (u : Bool) → (p == q) ≡ u → StaysFailed r q count (record { by = by; verb = Verb.ReadBeat p; answer = Answer.Number (beats p past) } ∷ past)
    go true ht true hu =
        let same : beats p past ≡ count = ap (λ x. beats x past) (eqb-true p q hu) ∙ stays in
        let unchanged : (beats p past == last_count r q past) ≡ true = eq-eqb (beats p past) (last_count r q past) (same ∙ sym was.last) in
        let few = failed_points r q past was.failed in
        record {
          failed = rw (ht, hu) (ap (λ t. (next_score (score r q past).0 (score r q past).1 (not t)).1) unchanged ∙ still (score r q past).0 (score r q past).1 few was.failed);
          last = rw (ht, hu) same;
        }
      where
        still : (n : ℕ) (alive : Bool) → n ≤ 6 → alive ≡ false → alive_after (n - 1) alive ≡ false
        still n alive few is = rw (is, le-ltb 6 (n - 1) (omega (arith, few))) (by_test (nat_lt (n - 1) 2))
          where
            by_test : (t : Bool) → cond t false false ≡ false
            by_test true = refl
            by_test false = refl
    go true ht false hu = record { failed = rw (ht, hu) was.failed; last = rw (ht, hu) was.last }
    go false ht u hu = record { failed = rw ht was.failed; last = rw ht was.last }
quiet_step c r q count by verb past stays was = record { failed = was.failed; last = was.last }

quiet_failed : (c : Config) (r q : ℕ) (newer older : List Event) → IsLegalHistory c (newer ++ older) → length (part q newer) ≡ 0 → StaysFailed r q (beats q older) older → StaysFailed r q (beats q older) (newer ++ older)
quiet_failed c r q [] older legal none was = was
quiet_failed c r q (e ∷ newer) older legal none was =
    subst (λ a. StaysFailed r q (beats q older) (record { by = e.by; verb = e.verb; answer = a } ∷ (newer ++ older))) (sym legal.1.answer)
    (quiet_step c r q (beats q older) e.by e.verb (newer ++ older) (quiet_beats q newer older fewer) (quiet_failed c r q newer older legal.0 fewer was))
  where
    less : (t : Bool) → length (cond t (e ∷ part q newer) (part q newer)) ≡ 0 → length (part q newer) ≡ 0
    less true none = absurd (omega (arith, none))
    less false none = none

    fewer : length (part q newer) ≡ 0
    fewer = less (e.by == q) none

-- who asks has read the last count of each lower one
count_settled : (c : Config) (events : List Event) (lengths : List ℕ) (rounds : ℕ) (front older : List Event) (a : Event) (q : ℕ) → AreUnpaused c events lengths rounds → ((p : ℕ) → p < c.replicas → ReadsInTime c p (part_of p events)) → history events ≡ front ++ a ∷ older → is_asking 0 a ≡ true → q < a.by
    → (last_count a.by q older ≡ beats q older) × (length (part q older) ≡ length (part_of q events))
count_settled c events lengths rounds front older a q run reads is asks below =
    let inside = insider c events lengths rounds front older a run is in
    let far = asks_late c events lengths rounds q a.by 0 front older a run is refl asks below inside in
    let low : q < c.replicas = omega (arith, below, inside) in
    let gone = outlasted c events lengths rounds q a.by front older a run is refl low (λ same. omega (arith, same, below)) (omega (arith, far)) in
    (found low inside far gone, gone)
  where
    found : q < c.replicas → a.by < c.replicas → length (part_of q events) + 2 * cycle c ≤ length (part a.by older) → length (part q older) ≡ length (part_of q events) → last_count a.by q older ≡ beats q older
    found low inside long gone =
        let at = cut (length (part_of q events) + cycle c) (part a.by older) (omega (arith, long)) in
        let split = ap length at.is ∙ length-append at.newer at.rest in
        let last = cut (cycle c) at.newer (let n = at.count in omega (arith, long, split, n)) in
        let stretch : part_of a.by events ≡ ((part a.by front ++ a ∷ []) ++ last.newer) ++ (last.rest ++ at.rest) =
        part_split events front older a a.by is refl ∙ ap (λ l. (part a.by front ++ a ∷ []) ++ l) (at.is ∙ ap (λ l. l ++ at.rest) last.is ∙ append_assoc last.newer last.rest at.rest)
        ∙ sym (append_assoc (part a.by front ++ a ∷ []) last.newer (last.rest ++ at.rest)) in
        let read = met (is_beat_read q) last.rest ((reads a.by inside).beats q last.rest at.rest low (λ same. omega (arith, same, below)) (record { newer = (part a.by front ++ a ∷ []) ++ last.newer; is = stretch }) last.count) in
        let mine : part a.by older ≡ (last.newer ++ read.newer) ++ read.event ∷ (read.older ++ at.rest) =
        at.is ∙ ap (λ l. l ++ at.rest) (last.is ∙ ap (λ l. last.newer ++ l) read.is) ∙ append_assoc last.newer (read.newer ++ read.event ∷ read.older) at.rest ∙ ap (λ l. last.newer ++ l) (append_assoc read.newer (read.event ∷ read.older) at.rest)
        ∙ sym (append_assoc last.newer read.newer (read.event ∷ (read.older ++ at.rest))) in
        settled low at.rest at.count read.older read.event read.passes (located a.by older (last.newer ++ read.newer) (read.older ++ at.rest) read.event mine)
      where
        settled : q < c.replicas → (rest : List Event) → length rest ≡ length (part_of q events) + cycle c → (between : List Event) (x : Event) → is_beat_read q x ≡ true → Located a.by older x (between ++ rest) → last_count a.by q older ≡ beats q older
        settled low rest count between x reads_it l =
            let whole : history events ≡ (front ++ a ∷ l.newer) ++ x ∷ l.older = is ∙ ap (λ y. front ++ a ∷ y) l.is ∙ sym (append_assoc front (a ∷ l.newer) (x ∷ l.older)) in
            let long = ap length l.before ∙ length-append between rest in
            let gone = outlasted c events lengths rounds q a.by (front ++ a ∷ l.newer) l.older x run whole l.own low (λ same. omega (arith, same, below)) (omega (arith, long, count)) in
            let not_its : (x.by == q) ≡ false = ne_eqb x.by q (λ y. (let o = l.own in omega (arith, y, o, below))) in
            let same : length (part q (x ∷ l.older)) ≡ length (part q l.older) = ap (λ t. length (cond t (x ∷ part q l.older) (part q l.older))) not_its in
            let split : history events ≡ (front ++ a ∷ []) ++ (l.newer ++ (x ∷ l.older)) = is ∙ ap (λ y. front ++ a ∷ y) l.is ∙ sym (append_assoc front (a ∷ []) (l.newer ++ (x ∷ l.older))) in
            let quiet = none_left c events (front ++ a ∷ []) l.newer (x ∷ l.older) q split (same ∙ gone) in
            let legal = legal_older c (front ++ a ∷ []) (l.newer ++ x ∷ l.older) (subst (IsLegalHistory c) split run.legal) in
            let here = legal_older c l.newer (x ∷ l.older) legal in
            let verb = beat_verb q x.verb reads_it in
            let seen = sees x.by x.verb x.answer l.older l.own verb (here.1.answer ∙ ap (answer_of c x.by l.older) verb) in
            ap (last_count a.by q) l.is ∙ quiet_last c a.by q l.newer (x ∷ l.older) legal quiet seen ∙ sym (ap (beats q) l.is ∙ quiet_beats q l.newer (x ∷ l.older) quiet)
          where
            sees : (by : ℕ) (verb : Verb) (answer : Answer) (o : List Event) → by ≡ a.by → verb ≡ Verb.ReadBeat q → answer ≡ answer_of c by o (Verb.ReadBeat q) → last_count a.by q (record { by = by; verb = verb; answer = answer } ∷ o) ≡ beats q (record { by = by; verb = verb; answer = answer } ∷ o)
            sees by verb answer o own is_read says =
                subst (λ v. last_count a.by q (record { by = by; verb = v; answer = answer } ∷ o) ≡ beats q (record { by = by; verb = v; answer = answer } ∷ o)) (sym is_read)
                (subst (λ y. last_count a.by q (record { by = by; verb = Verb.ReadBeat q; answer = y } ∷ o) ≡ beats q o) (sym says) (rw (eq-eqb by a.by own, same_number q) refl))

-- who holds all lower ones to be failed names itself
pub names_own : (c : Config) (r : ℕ) (mine : List Event) → r < c.replicas → ((q : ℕ) → q < r → (score r q mine).1 ≡ false) → leader c r mine ≡ r
names_own c r mine inside failed = least_found (may_lead r mine) c.replicas r (least_none r (may_lead r mine) (λ q below. failed_follows r q mine below (failed q below))) (own_leads r mine) inside

-- who asked names itself from then on
pub stays_named : (c : Config) (events : List Event) (lengths : List ℕ) (rounds : ℕ) (front newer older : List Event) (a : Event) → AreUnpaused c events lengths rounds → ((p : ℕ) → p < c.replicas → ReadsInTime c p (part_of p events)) → history events ≡ front ++ (newer ++ a ∷ older) → is_asking 0 a ≡ true
    → leader c a.by (part a.by older) ≡ a.by → leader c a.by (part a.by (newer ++ a ∷ older)) ≡ a.by
stays_named c events lengths rounds front newer older a run reads is asks named = names_own c a.by (part a.by (newer ++ a ∷ older)) inside failed
  where
    whole : history events ≡ (front ++ newer) ++ a ∷ older
    whole = is ∙ sym (append_assoc front newer (a ∷ older))

    inside : a.by < c.replicas
    inside = insider c events lengths rounds (front ++ newer) older a run whole

    split : newer ++ a ∷ older ≡ (newer ++ a ∷ []) ++ older
    split = sym (append_assoc newer (a ∷ []) older)

    failed : (q : ℕ) → q < a.by → (score a.by q (part a.by (newer ++ a ∷ older))).1 ≡ false
    failed q below =
        let settled = count_settled c events lengths rounds (front ++ newer) older a q run reads whole asks below in
        let legal = legal_older c front (newer ++ a ∷ older) (subst (IsLegalHistory c) is run.legal) in
        let before = names_failed c a.by q (part a.by older) named below inside in
        let quiet = none_left c events front (newer ++ a ∷ []) older q (is ∙ ap (λ l. front ++ l) split) settled.1 in
        let stays = quiet_failed c a.by q (newer ++ a ∷ []) older (subst (IsLegalHistory c) split legal) quiet (record { failed = sym (ap (λ s. s.1) (score-part a.by q older)) ∙ before; last = settled.0 }) in
        ap (λ s. s.1) (score-part a.by q (newer ++ a ∷ older)) ∙ ap (λ l. (score a.by q l).1) split ∙ stays.failed

-- so since it asked no other was named
none_unnamed : (c : Config) (r : ℕ) (newer older : List Event) (a : Event) → begins_leadership r a ≡ true → (a.by == r) ≡ true → leader c r (part r older) ≡ r → ((later w : List Event) → newer ≡ later ++ w → leader c r (part r (w ++ a ∷ older)) ≡ r) → was_unnamed c r (part r (newer ++ a ∷ older)) ≡ false
none_unnamed c r [] older a begins own named all = ap (was_unnamed c r) (ap (λ t. cond t (a ∷ part r older) (part r older)) own) ∙ go (is_replication (part r older) a) (is_named c r (part r older)) (begins_leadership r a) (eq-eqb (leader c r (part r older)) r named) begins
  where
    go : (t u b : Bool) → u ≡ true → b ≡ true → cond (t && not u) true (cond b false (was_unnamed c r (part r older))) ≡ false
    go true true true hu hb = refl
    go false u true hu hb = refl
    go t u false hu hb = absurd (true≢false (sym hb))
    go true false true hu hb = absurd (true≢false (sym hu))
none_unnamed c r (e ∷ newer) older a begins own named all = go (e.by == r) (none_unnamed c r newer older a begins own named (λ later w is. all (e ∷ later) w (ap (λ l. e ∷ l) is)))
  where
    rest : List Event
    rest = part r (newer ++ a ∷ older)

    here : is_named c r rest ≡ true
    here = eq-eqb (leader c r rest) r (all (e ∷ []) newer refl)

    step : (t u b : Bool) → u ≡ true → was_unnamed c r rest ≡ false → cond (t && not u) true (cond b false (was_unnamed c r rest)) ≡ false
    step true true true hu ih = refl
    step true true false hu ih = ih
    step false u true hu ih = refl
    step false u false hu ih = ih
    step true false b hu ih = absurd (true≢false (sym hu))

    go : (t : Bool) → was_unnamed c r rest ≡ false → was_unnamed c r (cond t (e ∷ rest) rest) ≡ false
    go true ih = step (is_replication rest e) (is_named c r rest) (begins_leadership r e) here ih
    go false ih = ih

-- what the nodes of a replay keep
pub record AreNodes (c : Config) (events : List Event) : Type 0 where
  pub reads : (p : ℕ) → p < c.replicas → ReadsInTime c p (part_of p events)
  pub order : (p : ℕ) → p < c.replicas → InCycleOrder c p (part_of p events)
  pub led : (p : ℕ) → p < c.replicas → AtEachStep (LeaderKeeps c p) (part_of p events)

-- who has read a minimum asks no more
asks_once : (c : Config) (events : List Event) (lengths : List ℕ) (rounds : ℕ) (front past : List Event) (e : Event) → c.replicas < 8 → AreUnpaused c events lengths rounds → AreNodes c events → history events ≡ front ++ e ∷ past → AreInTurn past → e.verb ≡ Verb.Ask 0 → has (is_own_min e.by) past ≡ true → ⊥
asks_once c events lengths rounds front past e few run nodes is turns verb some =
    let legal = (legal_older c front (e ∷ past) (subst (IsLegalHistory c) is run.legal)).0 in
    let begun = min_begun c e.by past legal some in
    let a = asked e.by past begun in
    let inside = insider c events lengths rounds front past e run is in
    let there = part_split events front past e e.by is refl ∙ append_assoc (part e.by front) (e ∷ []) (part e.by past) in
    let kept = (steps_before (LeaderKeeps c e.by) (part e.by front) (e ∷ part e.by past) (subst (AtEachStep (LeaderKeeps c e.by)) there (nodes.led e.by inside))).1 in
    let on : is_over e.by (part e.by past) ≡ false = over-part e.by past ∙ turns_lead_on c past e.by legal turns few in
    let cause = cause_is c e.by (part e.by past) (kept.cause.anew (ap (is_asking_verb 0) verb)) (begun-part e.by past ∙ begun) on (quiet a) in
    true≢false (sym (min_leads c e.by past legal turns some) ∙ cause.0)
  where
    quiet : Asked e.by past → was_unnamed c e.by (part e.by past) ≡ false
    quiet a =
        let whole : history events ≡ (front ++ e ∷ []) ++ (a.newer ++ a.event ∷ a.older) = is ∙ ap (λ l. front ++ e ∷ l) a.is ∙ sym (append_assoc front (e ∷ []) (a.newer ++ a.event ∷ a.older)) in
        let at : history events ≡ ((front ++ e ∷ []) ++ a.newer) ++ a.event ∷ a.older = whole ∙ sym (append_assoc (front ++ e ∷ []) a.newer (a.event ∷ a.older)) in
        let named = named_there a at in
        ap (λ l. was_unnamed c e.by (part e.by l)) a.is
        ∙ none_unnamed c e.by a.newer a.older a.event (begins_now e.by a.event a.own a.asks) (eq-eqb a.event.by e.by a.own) (subst (λ i. leader c i (part i a.older) ≡ i) a.own named)
        (λ later w split. subst (λ i. leader c i (part i (w ++ a.event ∷ a.older)) ≡ i) a.own
        (stays_named c events lengths rounds ((front ++ e ∷ []) ++ later) w a.older a.event run nodes.reads
        (whole ∙ ap (λ l. (front ++ e ∷ []) ++ l) (ap (λ l. l ++ a.event ∷ a.older) split ∙ append_assoc later w (a.event ∷ a.older)) ∙ sym (append_assoc (front ++ e ∷ []) later (w ++ a.event ∷ a.older))) a.asks named))
      where
        named_there : (a : Asked e.by past) → history events ≡ ((front ++ e ∷ []) ++ a.newer) ++ a.event ∷ a.older → leader c a.event.by (part a.event.by a.older) ≡ a.event.by
        named_there a at =
            let inside = insider c events lengths rounds ((front ++ e ∷ []) ++ a.newer) a.older a.event run at in
            let there = subst (λ l. AtEachStep (WasMade c a.event.by) (part a.event.by l)) at (run.made a.event.by inside) in
            let made = part_step (WasMade c a.event.by) a.older a.event (part_before (WasMade c a.event.by) a.event.by ((front ++ e ∷ []) ++ a.newer) (a.event ∷ a.older) there) in
            asker_named c a.event.by 0 (part a.event.by a.older) a.event made a.asks

-- so each event is in turn
pub in_turn : (c : Config) (events : List Event) (lengths : List ℕ) (rounds : ℕ) (front past : List Event) → c.replicas < 8 → AreUnpaused c events lengths rounds → AreNodes c events → history events ≡ front ++ past → AreInTurn past
in_turn c events lengths rounds front [] few run nodes is = tt
in_turn c events lengths rounds front (e ∷ past) few run nodes is =
    let ih = in_turn c events lengths rounds (front ++ e ∷ []) past few run nodes (is ∙ sym (append_assoc front (e ∷ []) past)) in
    let inside = insider c events lengths rounds front past e run is in (
      ih,
      record {
        last = λ r below. none_below c events lengths rounds front past e r run is below;
        fresh = λ w r reads below begun. fresh_read c events lengths rounds front past e w r run nodes.reads is below begun;
        resting = λ w reads. resting_read c events lengths rounds front past e w run (nodes.order e.by inside) is reads;
        once = λ verb. none (has (is_own_min e.by) past) refl ih verb;
      },
    )
  where
    none : (t : Bool) → has (is_own_min e.by) past ≡ t → AreInTurn past → e.verb ≡ Verb.Ask 0 → t ≡ false
    none true some turns verb = absurd (asks_once c events lengths rounds front past e few run nodes is turns verb some)
    none false some turns verb = refl

-- the journals that a replay leaves
pub journal_part : (o : Outcome) (run : IsRun o) (r : ℕ) → r < o.job.config.replicas → history (journal_of o r) ≡ part_of r run.order.events
journal_part o run r low = ap (λ l. history (or_empty l)) (run.parts.each r low) ∙ history-part r run.order.events

pub nodes_of : (o : Outcome) (order : Record) (seats : List Seat) (rounds : ℕ) (run : IsRun o) → o.order ≡ Some order → Played o.job.config o.job.script order.events seats rounds 0 → AreDiligent o → AreNodes o.job.config run.order.events
nodes_of o order seats rounds run given played diligent = record {
  reads = λ p low. subst (ReadsInTime o.job.config p) (journal_part o run p low) (diligent p low).heartbeat_pace;
  order = λ p low. in_order c p (part_of p run.order.events) (made p low);
  led = λ p low. (listed_is_paced Zeal.Plain c p (part_of p run.order.events) (good p low) low (part_is_possible c p (history run.order.events) run.legal) (made p low) (listed p low)).led;
}
  where
    c : Config
    c = o.job.config

    same : order ≡ run.order
    same = same_some order run.order (sym given ∙ run.given)

    here : (p : ℕ) → p < c.replicas → (seat : Seat) × Sits Zeal.Plain c o.job.script p (part_of p order.events) seat rounds
    here p low = let count = played.count in let found = item_below seats p (omega (arith, low, count)) in (found.0, played.waits p found.0 found.1 (omega arith))

    good : (p : ℕ) → p < c.replicas → IsConfig c
    good p low = let lead = (here p low).1.follows.stands.lead in subst IsConfig lead.config lead.stands.config

    made : (p : ℕ) → p < c.replicas → AtEachStep (WasMade c p) (part_of p run.order.events)
    made p low = subst (λ (x : Record). AtEachStep (WasMade c p) (part_of p x.events)) same ((here p low).1.follows.made)

    listed : (p : ℕ) → p < c.replicas → AtEachStep (IsListed Zeal.Plain c p) (part_of p run.order.events)
    listed p low = let sits = (here p low).1 in subst (λ (x : Record). AtEachStep (IsListed Zeal.Plain c p) (part_of p x.events)) same (subst (λ z. AtEachStep (IsListed z c p) (part_of p order.events)) sits.zeal sits.follows.listed)

-- in what a replay leaves
pub leads_of : (o : Outcome) (order : Record) (seats : List Seat) (rounds : ℕ) → IsConfig o.job.config → (run : IsRun o) → o.order ≡ Some order → Played o.job.config o.job.script order.events seats rounds 0 → AreDiligent o → LeadOnUnpaused o
leads_of o order seats rounds good run given played diligent unpaused r newer older low is =
    let c = o.job.config in
    let all = unpaused_of o order seats rounds run given played unpaused in
    let few : c.replicas < 8 = (let most = good.replicas.1 in omega (arith, most)) in
    let nodes = nodes_of o order seats rounds run given played diligent in
    let turns = in_turn c run.order.events (map length (journals_of o)) run.turns.rounds [] (history run.order.events) few all nodes refl in
    let moments = lead_on_moments c r (history run.order.events) all.legal turns few in
    last_moment (λ now. is_over r now ≡ false) older (moments_before (λ now. is_over r now ≡ false) newer older (subst (AtEachMoment (λ now. is_over r now ≡ false)) (sym (journal_part o run r low) ∙ is) moments))
