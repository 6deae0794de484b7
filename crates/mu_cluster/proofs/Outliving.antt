-- In a replay without a pause, the least replica that isn't stopped leads on after the leaders
-- below it were stopped.
use Rattle.std.proofs.Common.{◌≡◌, ◌∙◌, ◌≢◌, ℕ, ◌+◌, ◌<◌, ◌≤◌, ◌==◌, inl, inr, Bool, true, false, cond, List, [], ◌∷◌, ◌++◌, ap, append_assoc, arith, length, refl, subst, sym}
use Rattle.std.specs.Prelude.{not}
use Rattle.std.proofs.lemmas.Bool.{eq-eqb, true≢false}
use Rattle.std.proofs.lemmas.List.{length-append}
use Rattle.mu_agree.proofs.Legal.{legal_older}
use Rattle.mu_model.specs.declared.config.Config.{Config}
use Rattle.mu_model.specs.declared.event.Event.{Event}
use Rattle.mu_model.specs.Contents.{IsConfig}
use Rattle.mu_model.specs.Diligence.{AsksInTime, GrantsInTime, ReadsInTime}
use Rattle.mu_model.specs.Ends.{outrun}
use Rattle.mu_model.specs.Histories.{history, part}
use Rattle.mu_model.specs.Leaderships.{begins_leadership, has_begun}
use Rattle.mu_model.specs.Legal.{IsLegalHistory}
use Rattle.mu_model.specs.Scores.{is_failed, leader, score}
use Rattle.mu_model.proofs.Parts.{filter-append}
use Rattle.mu_node.specs.Journal.{WasMade}
use Rattle.mu_lively.proofs.Naming.{asker_named}
use Rattle.mu_pace.specs.Collecting.{LeaderKeeps}
use Rattle.mu_agree.specs.Moments.{AtEachStep, AtEachMoment}
use Rattle.mu_pace.proofs.Counting.{steps_before}
use Rattle.mu_alive.specs.Failing.{failing_steps}
use Rattle.mu_alive.specs.Last.{LeadsLast, NamesItself}
use Rattle.mu_alive.specs.Turns.{AreInTurn}
use Rattle.mu_alive.proofs.Beginning.{grants_before, reads_before}
use Rattle.mu_alive.proofs.Cutting.{Located, located, moments_of}
use Rattle.mu_alive.proofs.Failing.{held_failed}
use Rattle.mu_alive.proofs.Enough.{asks_before, outrun_before}
use Rattle.mu_alive.proofs.Turns.{begun-part, turns_before}
use Rattle.mu_cluster.specs.Rounds.{part_of}
use Rattle.mu_cluster.proofs.InTurn.{asked, begins_ask, insider, none_left}
use Rattle.mu_cluster.proofs.Living.{names_itself, none_of}
use Rattle.mu_cluster.proofs.Naming.{AreUnpaused, part_before, part_step}
use Rattle.mu_cluster.proofs.Onward.{AreNodes, in_turn, names_own, stays_named}
use Rattle.mu_cluster.proofs.Outrunning.{none_outrun}
use Rattle.mu_cluster.proofs.Taken.{GoOn, TakenAt}
use Rattle.mu_cluster.proofs.Turning.{outlasted}
use Rattle.mu_pace.proofs.Pasts.{cut}
use Rattle.mu_alive.proofs.Settling.{score-part}
use Rattle.mu_model.specs.Steps.{is_named}
use Rattle.mu_alive.proofs.Spreading.{moments_more}

-- who makes no events has none
none_there : (events : List Event) → length events ≡ 0 → events ≡ []
none_there [] none = refl
none_there (e ∷ events) none = absurd (omega (arith, none))

-- r's event after n of its own
pub record After (n : ℕ) (mine : List Event) : Type 0 where
  pub top : List Event
  pub event : Event
  pub bottom : List Event
  pub is : mine ≡ top ++ event ∷ bottom
  pub count : length bottom ≡ n

pub after : (n : ℕ) (mine : List Event) → n < length mine → After n mine
after n mine more =
    let one = cut (n + 1) mine (omega (arith, more)) in
    go one.newer one.rest one.is one.count
  where
    go : (newer rest : List Event) → mine ≡ newer ++ rest → length rest ≡ n + 1 → After n mine
    go newer [] is count = absurd (omega (arith, count))
    go newer (e ∷ rest) is count = record { top = newer; event = e; bottom = rest; is = is; count = omega (arith, count) }

-- a replica that has ended is held failed this many steps of the reader later
pub fails_then : (c : Config) (events : List Event) (lengths : List ℕ) (rounds q r : ℕ) (newer older : List Event) → AreUnpaused c events lengths rounds → ReadsInTime c r (part_of r events) → history events ≡ newer ++ older → q < c.replicas → r < c.replicas → q ≢ r
    → length (part_of q events) + failing_steps c ≤ length (part r older) → is_failed r q older ≡ true
fails_then c events lengths rounds q r newer older run reads is low inside other late = found (after (length (part_of q events)) (part r older) (omega (arith, late)))
  where
    there : (a : After (length (part_of q events)) (part r older)) → Located r older a.event a.bottom → is_failed r q older ≡ true
    there a l =
        let whole : history events ≡ (newer ++ l.newer) ++ a.event ∷ l.older = is ∙ ap (λ y. newer ++ y) l.is ∙ sym (append_assoc newer l.newer (a.event ∷ l.older)) in
        let split : older ≡ (l.newer ++ a.event ∷ []) ++ l.older = l.is ∙ sym (append_assoc l.newer (a.event ∷ []) l.older) in
        let same = ap length l.before in
        let count = a.count in
        let gone = outlasted c events lengths rounds q r (newer ++ l.newer) l.older a.event run whole l.own low other (omega (arith, same, count)) in
        let quiet = none_left c events newer (l.newer ++ a.event ∷ []) l.older q (is ∙ ap (λ y. newer ++ y) split) gone in
        let parts = ap (λ y. length (part r y)) split ∙ ap length (filter-append (λ e. e.by == r) (l.newer ++ a.event ∷ []) l.older) ∙ length-append (part r (l.newer ++ a.event ∷ [])) (part r l.older) in
        let legal = legal_older c newer older (subst (IsLegalHistory c) is run.legal) in
        let mine : part_of r events ≡ part r newer ++ part r older = ap (part r) is ∙ filter-append (λ e. e.by == r) newer older in
        let paced = reads_before c r (part r newer) (part r older) (subst (ReadsInTime c r) mine reads) in
        ap (is_failed r q) split
        ∙ held_failed c q r (l.newer ++ a.event ∷ []) l.older low other (subst (IsLegalHistory c) split legal) (none_there (part q (l.newer ++ a.event ∷ [])) quiet) (subst (λ y. ReadsInTime c r (part r y)) split paced) (omega (arith, parts, same, count, late))

    found : After (length (part_of q events)) (part r older) → is_failed r q older ≡ true
    found a = there a (located r older a.top a.bottom a.event a.is)

-- so the least that goes on names itself then
named_then : (c : Config) (events : List Event) (lengths : List ℕ) (rounds a : ℕ) (newer older : List Event) → AreUnpaused c events lengths rounds → ReadsInTime c a (part_of a events) → history events ≡ newer ++ older → a < c.replicas
    → ((q : ℕ) → q < a → length (part_of q events) + failing_steps c ≤ length (part a older)) → leader c a (part a older) ≡ a
named_then c events lengths rounds a newer older run reads is inside late = names_own c a (part a older) inside (λ q below. ap (λ s. s.1) (score-part a q older) ∙ dead (score a q older).1 (fails_then c events lengths rounds q a newer older run reads is (omega (arith, below, inside)) inside (λ same. omega (arith, same, below)) (late q below)))
  where
    dead : (t : Bool) → not t ≡ true → t ≡ false
    dead true is = absurd (true≢false (sym is))
    dead false is = refl

-- and once it has asked
begun_named : (c : Config) (events : List Event) (lengths : List ℕ) (rounds a : ℕ) (newer older : List Event) → AreUnpaused c events lengths rounds → AreNodes c events → history events ≡ newer ++ older → has_begun a (part a older) ≡ true → leader c a (part a older) ≡ a
begun_named c events lengths rounds a newer older run nodes is begun =
    let k = asked a older (sym (begun-part a older) ∙ begun) in
    let whole : history events ≡ newer ++ (k.newer ++ k.event ∷ k.older) = is ∙ ap (λ l. newer ++ l) k.is in
    let at : history events ≡ (newer ++ k.newer) ++ k.event ∷ k.older = whole ∙ sym (append_assoc newer k.newer (k.event ∷ k.older)) in
    let inside = insider c events lengths rounds (newer ++ k.newer) k.older k.event run at in
    let there = subst (λ l. AtEachStep (WasMade c k.event.by) (part k.event.by l)) at (run.made k.event.by inside) in
    let made = part_step (WasMade c k.event.by) k.older k.event (part_before (WasMade c k.event.by) k.event.by (newer ++ k.newer) (k.event ∷ k.older) there) in
    let named = asker_named c k.event.by 0 (part k.event.by k.older) k.event made k.asks in
    ap (λ l. leader c a (part a l)) k.is ∙ subst (λ i. leader c i (part i (k.newer ++ k.event ∷ k.older)) ≡ i) k.own (stays_named c events lengths rounds newer k.newer k.older k.event run nodes.reads whole k.asks named)

-- so who names itself from some step on leads last up to each of its events
leads_from : (c : Config) (live : ℕ → Bool) (events : List Event) (lengths : List ℕ) (rounds a start most : ℕ) → IsConfig c → AreUnpaused c events lengths rounds → AreNodes c events → GoOn c live a events → (t : TakenAt c live a events most)
    → AtEachMoment (NamesItself c a start) (part a (t.last ∷ t.older)) → LeadsLast c live a start (t.last ∷ t.older)
leads_from c live events lengths rounds a start most good run nodes on t named = record {
  inside = on.inside;
  lives = on.lives;
  majority = on.majority;
  legal = legal_older c t.front past (subst (IsLegalHistory c) t.is run.legal);
  turns = turns;
  highest = λ w above. none_higher w above (begins_leadership w t.last) refl;
  near = t.near;
  reads = λ r low _. reads_before c r (part r t.front) (part r past) (subst (ReadsInTime c r) (split r) (on.diligent r low).heartbeat_pace);
  grants = λ r low _. grants_before c r (part r t.front) (part r past) (subst (GrantsInTime c r) (split r) (on.diligent r low).grant_pace);
  asks = asks_before c a (part a t.front) (part a past) (subst (AsksInTime c a) (split a) (on.diligent a on.inside).election_pace);
  led = steps_before (LeaderKeeps c a) (part a t.front) (part a past) (subst (AtEachStep (LeaderKeeps c a)) (split a) on.led);
  named = named;
  going = outrun_before c a (part a t.front) (part a past) (sym (ap (outrun c a) (split a)) ∙ none_of c a (part_of a events) (outrun c a (part_of a events)) refl (λ p i. none_outrun c events lengths rounds a p i good run on.inside));
}
  where
    past : List Event
    past = t.last ∷ t.older

    turns : AreInTurn past
    turns = turns_before t.front past (subst AreInTurn t.is (in_turn c events lengths rounds [] (history events) (let most = good.replicas.1 in omega (arith, most)) run nodes refl))

    none_higher : (w : ℕ) → a < w → (b : Bool) → begins_leadership w t.last ≡ b → has_begun w past ≡ false
    none_higher w above false not_it = ap (λ b. cond b true (has_begun w t.older)) not_it ∙ turns.1.last w (let own = t.own in omega (arith, own, above))
    none_higher w above true it = let by_w = (begins_ask w t.last.by t.last.verb t.last.answer it).0 in absurd (let own = t.own in omega (arith, by_w, own, above))

    split : (r : ℕ) → part_of r events ≡ part r t.front ++ part r past
    split r = ap (part r) t.is ∙ filter-append (λ e. e.by == r) t.front past

-- replica 0 does so from the start on
pub leads_first : (c : Config) (live : ℕ → Bool) (events : List Event) (lengths : List ℕ) (rounds most : ℕ) → IsConfig c → AreUnpaused c events lengths rounds → AreNodes c events → GoOn c live 0 events → (t : TakenAt c live 0 events most) → LeadsLast c live 0 0 (t.last ∷ t.older)
leads_first c live events lengths rounds most good run nodes on t =
    leads_from c live events lengths rounds 0 0 most good run nodes on t (moments_more (λ now. is_named c 0 now ≡ true) (NamesItself c 0 0) (λ now named _. named) (part 0 (t.last ∷ t.older)) (names_itself c (part 0 (t.last ∷ t.older)) on.inside))

-- the least that goes on does once the lower ones are held failed
pub leads_last : (c : Config) (live : ℕ → Bool) (events : List Event) (lengths : List ℕ) (rounds a k most : ℕ) → IsConfig c → AreUnpaused c events lengths rounds → AreNodes c events → GoOn c live a events → ((q : ℕ) → q < a → length (part_of q events) ≤ k) → (t : TakenAt c live a events most)
    → LeadsLast c live a (k + failing_steps c) (t.last ∷ t.older)
leads_last c live events lengths rounds a k most good run nodes on short t = leads_from c live events lengths rounds a (k + failing_steps c) most good run nodes on t (moments_of a (NamesItself c a (k + failing_steps c)) (t.last ∷ t.older) (λ newer before split. itself newer before split))
  where
    itself : (newer before : List Event) → t.last ∷ t.older ≡ newer ++ before → NamesItself c a (k + failing_steps c) (part a before)
    itself newer before cuts (inl late) =
        eq-eqb (leader c a (part a before)) a
        (named_then c events lengths rounds a (t.front ++ newer) before run (nodes.reads a on.inside) (t.is ∙ ap (λ l. t.front ++ l) cuts ∙ sym (append_assoc t.front newer before)) on.inside
        (λ q below. let few = short q below in omega (arith, few, late)))
    itself newer before cuts (inr begun) =
        eq-eqb (leader c a (part a before)) a (begun_named c events lengths rounds a (t.front ++ newer) before run nodes (t.is ∙ ap (λ l. t.front ++ l) cuts ∙ sym (append_assoc t.front newer before)) begun)
