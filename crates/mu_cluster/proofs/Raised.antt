-- In a replay without a pause all that weren't stopped have raised their heads to all commands in time.
use Rattle.std.proofs.Common.{◌≡◌, ◌∙◌, ◌≢◌, ◌⊎◌, ℕ, zero, suc, ◌+◌, ◌<◌, ◌≤◌, ◌==◌, ◌||◌, inl, inr, Bool, true, false, cond, None, Some, List, [], ◌∷◌, ◌++◌, ap, arith, eqb-true, length, refl, subst, sym, drop, take}
use Rattle.std.specs.declared.option.Option.{Option}
use Rattle.std.specs.Prelude.{nat_le, not, slice_index}
use Rattle.std.proofs.lemmas.Bool.{and_parts, cases_eq, cases_lt, eq-eqb, leb-true, ne_eqb, true≢false}
use Rattle.std.proofs.lemmas.List.{length-take, take-append-drop}
use Rattle.mu_agree.proofs.Legal.{event_after, legal_induction, legal_older}
use Rattle.mu_agree.proofs.Prefixes.{known_agree}
use Rattle.mu_agree.proofs.Room.{heads_read}
use Rattle.mu_model.specs.declared.config.Config.{Config}
use Rattle.mu_model.specs.declared.event.Event.{Event}
use Rattle.mu_model.specs.declared.event.Verb.{Verb}
use Rattle.mu_model.specs.Allowed.{Needs}
use Rattle.mu_model.specs.Contents.{IsConfig, holds_all}
use Rattle.mu_model.specs.Ends.{full_length, is_at_least, is_finished, is_full}
use Rattle.mu_model.specs.Histories.{all_below, history, max_with, newest, or_zero, part}
use Rattle.mu_model.specs.Knowledge.{applied, has_entry, known}
use Rattle.mu_model.specs.Legal.{IsLegalHistory}
use Rattle.mu_model.specs.Regions.{head_raised, region_head}
use Rattle.mu_model.specs.Room.{head_read}
use Rattle.mu_model.specs.Scores.{is_failed}
use Rattle.mu_model.proofs.Owned.{greatest-part}
use Rattle.mu_model.proofs.Putting.{head_applied}
use Rattle.mu_model.proofs.Scans.{all_at}
use Rattle.mu_alive.specs.Alone.{WritesAlone}
use Rattle.mu_alive.specs.Enough.{HasLargeRing}
use Rattle.mu_alive.specs.Failing.{failing_steps}
use Rattle.mu_alive.specs.Finishing.{HaveAllRaised, KeepUp, last_raising_steps}
use Rattle.mu_alive.proofs.Enough.{holds_more}
use Rattle.mu_alive.proofs.Fetching.{applied_grows}
use Rattle.mu_alive.proofs.LastRaising.{last_raises_all}
use Rattle.mu_alive.proofs.Spreading.{get_of_front, get_take, heads-own}
use Rattle.mu_cluster.specs.Rounds.{part_of}
use Rattle.mu_cluster.proofs.Living.{more_front, writes_alone}
use Rattle.mu_cluster.proofs.Naming.{AreUnpaused, few_steps, names_in, trusts_then}
use Rattle.mu_cluster.proofs.Onward.{AreNodes}
use Rattle.mu_cluster.proofs.Outliving.{leads_first, leads_last}
use Rattle.mu_cluster.proofs.Taken.{GoOn, TakenAt, fetches_at, keep_at, opens_at, taken_at}
use Rattle.mu_agree.proofs.Sessions.{same_list}
use Rattle.mu_outcome.proofs.Completing.{least_passes}
use Rattle.mu_pace.proofs.Pasts.{has_later}
use Rattle.mu_alive.specs.Last.{FetchesInTime, LeadsLast}
use Rattle.mu_alive.specs.Opens.{OpensInTime}

-- the least of the numbers of those that pass
pub record Least (n : ℕ) (live : ℕ → Bool) (f : ℕ → ℕ) : Type 0 where
  pub at : ℕ
  pub low : at < n
  pub lives : live at ≡ true
  pub least : (r : ℕ) → r < n → live r ≡ true → f at ≤ f r

pub least_or_none : (n : ℕ) (live : ℕ → Bool) (f : ℕ → ℕ) → Least n live f ⊎ ((r : ℕ) → r < n → live r ≡ false)
least_or_none zero live f = inr (λ r low. absurd (omega (arith, low)))
least_or_none (suc n) live f = go (live n) refl (least_or_none n live f)
  where
    go : (t : Bool) → live n ≡ t → Least n live f ⊎ ((r : ℕ) → r < n → live r ≡ false) → Least (suc n) live f ⊎ ((r : ℕ) → r < suc n → live r ≡ false)
    go true is (inl k) = elim (cases_lt (f n) (f k.at)) [
      | inl less ↦ inl (record { at = n; low = omega arith; lives = is; least = λ r low lives. elim (cases_eq r n) [ inl same ↦ (let e = ap f same in omega (arith, e)) | inr other ↦ (let l = k.least r (omega (arith, low, other)) lives in omega (arith, l, less)) ] })
      | inr more ↦ inl (record { at = k.at; low = (let l = k.low in omega (arith, l)); lives = k.lives; least = λ r low lives. elim (cases_eq r n) [ inl same ↦ (let e = ap f same in omega (arith, e, more)) | inr other ↦ k.least r (omega (arith, low, other)) lives ] })
    ]
    go true is (inr none) = inl (record { at = n; low = omega arith; lives = is; least = λ r low lives. elim (cases_eq r n) [ inl same ↦ (let e = ap f same in omega (arith, e)) | inr other ↦ absurd (true≢false (sym lives ∙ none r (omega (arith, low, other)))) ] })
    go false is (inl k) = inl (record { at = k.at; low = (let l = k.low in omega (arith, l)); lives = k.lives; least = λ r low lives. elim (cases_eq r n) [ inl same ↦ absurd (true≢false (sym lives ∙ ap live same ∙ is)) | inr other ↦ k.least r (omega (arith, low, other)) lives ] })
    go false is (inr none) = inr (λ r low. elim (cases_eq r n) [ inl same ↦ ap live same ∙ is | inr other ↦ none r (omega (arith, low, other)) ])

-- a head is at most what is applied
head_is_applied : (c : Config) (r : ℕ) (past : List Event) → IsLegalHistory c past → region_head r past ≤ length (applied c r (part r past))
head_is_applied c r = legal_induction c (λ past. region_head r past ≤ length (applied c r (part r past))) (omega arith) (λ past by v legal may ih. step past by v may.may ih)
  where
    grows : (e : Event) (past : List Event) → region_head r past ≤ length (applied c r (part r past)) → region_head r past ≤ length (applied c r (part r (e ∷ past)))
    grows e past ih = go (e.by == r)
      where
        go : (t : Bool) → region_head r past ≤ length (applied c r (cond t (e ∷ part r past) (part r past)))
        go true = let more = applied_grows c r (e ∷ []) (part r past) in omega (arith, ih, more)
        go false = ih

    step : (past : List Event) (by : ℕ) (v : Verb) → Needs c by (part by past) v → region_head r past ≤ length (applied c r (part r past)) → region_head r (event_after c past by v ∷ past) ≤ length (applied c r (part r (event_after c past by v ∷ past)))
    step past by (Verb.RaiseHead h) needs ih = raised (by == r) refl
      where
        raised : (t : Bool) → (by == r) ≡ t → max_with (cond t (Some h) None) (region_head r past) ≤ length (applied c r (part r (event_after c past by (Verb.RaiseHead h) ∷ past)))
        raised true own =
            let same = eqb-true by r own in
            let low = head_applied c by (part by past) h needs in
            let mine = ap (λ x. length (applied c x (part x past))) same in
            let more = grows (event_after c past by (Verb.RaiseHead h)) past ih in
            let on : length (applied c r (part r past)) ≤ length (applied c r (part r (event_after c past by (Verb.RaiseHead h) ∷ past))) = still (by == r) in
            omega (arith, low, mine, more, on)
          where
            still : (t : Bool) → length (applied c r (part r past)) ≤ length (applied c r (cond t (event_after c past by (Verb.RaiseHead h) ∷ part r past) (part r past)))
            still true = applied_grows c r (event_after c past by (Verb.RaiseHead h) ∷ []) (part r past)
            still false = omega arith
        raised false other = grows (event_after c past by (Verb.RaiseHead h)) past ih
    step past by v needs ih = grows (event_after c past by v) past ih

-- a full log holds all commands up to its full length
pub full_holds : (c : Config) (r : ℕ) (mine : List Event) → is_full c r mine ≡ true → holds_all c (take (full_length c r mine) (applied c r mine)) ≡ true
full_holds c r mine full = let fits = leb-true (full_length c r mine) (length (applied c r mine)) full in least_passes (length (applied c r mine) + 1) (λ k. holds_all c (take k (applied c r mine))) (omega (arith, fits))

-- a log that holds every row in its front holds them
pub holds_whole : (c : Config) (k : ℕ) (log : List ℕ) → holds_all c (take k log) ≡ true → holds_all c log ≡ true
holds_whole c k log front = subst (λ x. holds_all c x ≡ true) (take-append-drop k log) (holds_more c (take k log) (drop k log) front)

-- two logs agree as far as both reach
pub same_taken : (c : Config) (r s l : ℕ) (past : List Event) → IsLegalHistory c past → l ≤ length (applied c r (part r past)) → l ≤ length (applied c s (part s past)) → take l (applied c r (part r past)) ≡ take l (applied c s (part s past))
same_taken c r s l past legal one other =
    same_list (take l (applied c r (part r past))) (take l (applied c s (part s past)))
    (let a = length-take l (applied c r (part r past)) in let b = length-take l (applied c s (part s past)) in omega (arith, a, b, one, other))
    (λ i v w at there.
    known_agree c r s past legal i v w (get_of_front (λ x. has_entry c r x (part r past)) (known c r (part r past)) i v (get_take l (applied c r (part r past)) i v at)) (get_of_front (λ x. has_entry c s x (part s past)) (known c s (part s past)) i w (get_take l (applied c s (part s past)) i w there)))

-- a moment at which all have, after at most this many steps of each
pub record RaisedBy (c : Config) (live : ℕ → Bool) (events : List Event) (most : ℕ) : Type 0 where
  pub front : List Event
  pub past : List Event
  pub is : history events ≡ front ++ past
  pub few : (r : ℕ) → r < c.replicas → live r ≡ true → length (part r past) ≤ most
  pub raised : HaveAllRaised c live past

-- at the moment at which replica 0 has taken this many steps it has led and written rows alone, and
-- all kept up with it
pub record AloneAt (c : Config) (live : ℕ → Bool) (events : List Event) (most : ℕ) : Type 0 where
  pub moment : TakenAt c live 0 events most
  pub leads : LeadsLast c live 0 0 (moment.last ∷ moment.older)
  pub opens : OpensInTime c 0 (part 0 (moment.last ∷ moment.older))
  pub fetches : FetchesInTime c 0 (part 0 (moment.last ∷ moment.older))
  pub writes : WritesAlone 0 (moment.last ∷ moment.older)
  pub keep : KeepUp c live 0 (moment.last ∷ moment.older)

-- if none finished before
pub alone_at : (c : Config) (live : ℕ → Bool) (events : List Event) (lengths : List ℕ) (rounds most : ℕ) → IsConfig c → AreUnpaused c events lengths rounds → AreNodes c events → GoOn c live 0 events → 1 ≤ most → ((r : ℕ) → r < c.replicas → live r ≡ true → most ≤ slice_index lengths r) → AloneAt c live events most
alone_at c live events lengths rounds most good run nodes on one_more late = record {
  moment = t;
  leads = leads_first c live events lengths rounds most good run nodes on t;
  opens = opens_at c live 0 events lengths rounds most run on.inside t;
  fetches = fetches_at c live 0 events lengths rounds most 0 good run on.inside t;
  writes = (writes_alone c events (t.front ++ t.last ∷ []) t.older lengths rounds (names_in c events lengths rounds run) run (more_front events t.front t.older t.last t.is) (has_later (λ f. f.by == 0) t.front (t.last ∷ []) (ap (λ t. cond t true false) (eq-eqb t.last.by 0 t.own))), λ j k x wrote. t.own);
  keep = keep_at c live 0 events lengths rounds most run on t late;
}
  where
    t : TakenAt c live 0 events most
    t = taken_at c live 0 events lengths rounds most run on.inside on.lives one_more late

-- all have raised their heads at such a moment
pub raised_at : (c : Config) (live : ℕ → Bool) (s : ℕ) (events : List Event) (most : ℕ) (t : TakenAt c live s events most) → HaveAllRaised c live (t.last ∷ t.older) → RaisedBy c live events most
raised_at c live s events most t raised = record { front = t.front; past = t.last ∷ t.older; is = t.is; few = t.few; raised = raised }

-- and so they have if s leads last
pub raised_last : (c : Config) (live : ℕ → Bool) (s : ℕ) (events : List Event) (lengths : List ℕ) (rounds k : ℕ) → IsConfig c → HasLargeRing c → AreUnpaused c events lengths rounds → AreNodes c events → GoOn c live s events → ((q : ℕ) → q < s → length (part_of q events) ≤ k)
    → ((r : ℕ) → r < c.replicas → live r ≡ true → k + failing_steps c + last_raising_steps c s ≤ slice_index lengths r) → RaisedBy c live events (k + failing_steps c + last_raising_steps c s)
raised_last c live s events lengths rounds k good large run nodes on short late =
    raised_at c live s events most t
    (last_raises_all c live s (k + failing_steps c) (t.last ∷ t.older) good large (leads_last c live events lengths rounds s k most good run nodes on short t) (opens_at c live s events lengths rounds most run on.inside t)
    (fetches_at c live s events lengths rounds most s good run on.inside t) (keep_at c live s events lengths rounds most run on t late) (let n = t.taken in omega (arith, n)))
  where
    most : ℕ
    most = k + failing_steps c + last_raising_steps c s

    t : TakenAt c live s events most
    t = taken_at c live s events lengths rounds most run on.inside on.lives (omega arith) late

-- the history up to the last event of q
record UpTo (q : ℕ) (whole : List Event) : Type 0 where
  front : List Event
  past : List Event
  is : whole ≡ front ++ past
  all : part q past ≡ part q whole
  ends : (past ≡ []) ⊎ ((last : Event) × ((older : List Event) × ((past ≡ last ∷ older) × (last.by ≡ q))))

up_to : (q : ℕ) (whole : List Event) → UpTo q whole
up_to q [] = record { front = []; past = []; is = refl; all = refl; ends = inl refl }
up_to q (e ∷ whole) = go (e.by == q) refl (up_to q whole)
  where
    go : (t : Bool) → (e.by == q) ≡ t → UpTo q whole → UpTo q (e ∷ whole)
    go true own k = record { front = []; past = e ∷ whole; is = refl; all = refl; ends = inr (e, (whole, (refl, eqb-true e.by q own))) }
    go false other k = record { front = e ∷ k.front; past = k.past; is = ap (λ l. e ∷ l) k.is; all = k.all ∙ sym (ap (λ t. cond t (e ∷ part q whole) (part q whole)) other); ends = k.ends }

-- if one finished before, all had
one_before : (c : Config) (live : ℕ → Bool) (events : List Event) (lengths : List ℕ) (rounds most : ℕ) → AreUnpaused c events lengths rounds → (q : Least c.replicas live (λ r. slice_index lengths r)) → slice_index lengths q.at ≤ most → is_finished c q.at (part_of q.at events) ≡ true → RaisedBy c live events most
one_before c live events lengths rounds most run least short finished = at (up_to q (history events))
  where
    q : ℕ
    q = least.at

    at : UpTo q (history events) → RaisedBy c live events most
    at u = record { front = u.front; past = u.past; is = u.is; few = few; raised = record { upto = upto; raised = λ r low lives. raised r low lives (cases_eq r q); reached = reached; held = held } }
      where
        taken : length (part q u.past) ≡ slice_index lengths q
        taken = let low = least.low in let all = run.taken q low in let same = ap length u.all in omega (arith, all, same)

        few : (r : ℕ) → r < c.replicas → live r ≡ true → length (part r u.past) ≤ most
        few r low lives = by_end u.ends
          where
            by_end : (u.past ≡ []) ⊎ ((last : Event) × ((older : List Event) × ((u.past ≡ last ∷ older) × (last.by ≡ q)))) → length (part r u.past) ≤ most
            by_end (inl none) = let e = ap (λ x. length (part r x)) none in omega (arith, e)
            by_end (inr x) = elim (cases_eq r q) [
              | inl same ↦ (let e = ap (λ i. length (part i u.past)) same in let n = taken in omega (arith, e, n, short))
              | inr other ↦
                  let steps = few_steps c events lengths rounds r q u.front x.1.0 x.0 run (u.is ∙ ap (λ l. u.front ++ l) x.1.1.0) x.1.1.1 low other in
                  let own : length (part q u.past) ≡ length (part q x.1.0) + 1 = ap (λ l. length (part q l)) x.1.1.0 ∙ ap (λ t. length (cond t (x.0 ∷ part q x.1.0) (part q x.1.0))) (eq-eqb x.0.by q x.1.1.1) ∙ omega arith in
                  let same : length (part r u.past) ≡ length (part r x.1.0) = ap (λ l. length (part r l)) x.1.1.0 ∙ ap (λ t. length (cond t (x.0 ∷ part r x.1.0) (part r x.1.0))) (ne_eqb x.0.by r (λ e. other (sym e ∙ x.1.1.1))) in
                  let n = taken in
                  omega (arith, steps, own, same, n, short)
            ]

        legal : IsLegalHistory c u.past
        legal = legal_older c u.front u.past (subst (IsLegalHistory c) u.is run.legal)

        done : is_finished c q (part q u.past) ≡ true
        done = ap (is_finished c q) u.all ∙ finished

        upto : ℕ
        upto = full_length c q (part q u.past)

        full : is_full c q (part q u.past) ≡ true
        full = (and_parts (is_full c q (part q u.past)) _ done).0

        rest : (nat_le upto (region_head q (part q u.past)) ≡ true) × (all_below c.replicas (λ p. (p == q) || (is_at_least upto (newest (λ e. head_read q p e.by e.verb e.answer) (part q u.past)) || is_failed q p (part q u.past))) ≡ true)
        rest = and_parts (nat_le upto (region_head q (part q u.past))) _ (and_parts (is_full c q (part q u.past)) _ done).1

        raised : (r : ℕ) → r < c.replicas → live r ≡ true → (r ≡ q) ⊎ (r ≢ q) → upto ≤ region_head r u.past
        raised r low lives (inl same) =
            let own = leb-true upto (region_head q (part q u.past)) rest.0 in
            let region = greatest-part (λ e. head_raised q e.by e.verb) q (heads-own q) u.past in
            let e = ap (λ x. region_head x u.past) same in
            omega (arith, own, region, e)
        raised r low lives (inr other) =
            let here = all_at c.replicas (λ p. (p == q) || (is_at_least upto (newest (λ e. head_read q p e.by e.verb e.answer) (part q u.past)) || is_failed q p (part q u.past))) rest.1 r low in
            let enough = least.least r low lives in
            let all = run.taken r low in
            let n = taken in
            let alive = trusts_then c events lengths rounds r q u.front u.past run u.is low least.low other (omega (arith, enough, all, n)) in
            let high = known_head (newest (λ e. head_read q r e.by e.verb e.answer) (part q u.past)) (r == q) (is_failed q r (part q u.past)) (ne_eqb r q other) (ap not alive) here in
            let read = heads_read c q r u.past legal in
            omega (arith, high, read)
          where
            known_head : (o : Option ℕ) (t f : Bool) → t ≡ false → f ≡ false → (t || (is_at_least upto o || f)) ≡ true → upto ≤ or_zero o
            known_head None t f ht hf is = absurd (true≢false (sym is ∙ rw (ht, hf) refl))
            known_head (Some x) t f ht hf is = leb-true upto x (either (nat_le upto x) t f ht hf is)
              where
                either : (a t f : Bool) → t ≡ false → f ≡ false → (t || (a || f)) ≡ true → a ≡ true
                either true t f ht hf is = refl
                either false t f ht hf is = absurd (true≢false (sym is ∙ rw (ht, hf) refl))

        reached : (r : ℕ) → r < c.replicas → live r ≡ true → upto ≤ length (applied c r (part r u.past))
        reached r low lives = let high = raised r low lives (cases_eq r q) in let most = head_is_applied c r u.past legal in omega (arith, high, most)

        held : (r : ℕ) → r < c.replicas → live r ≡ true → holds_all c (take upto (applied c r (part r u.past))) ≡ true
        held r low lives = ap (holds_all c) (same_taken c r q upto u.past legal (reached r low lives) (reached q least.low least.lives)) ∙ full_holds c q (part q u.past) full

-- so by these steps of each that goes on, or at such a moment before
pub late_or_raised : (c : Config) (live : ℕ → Bool) (s : ℕ) (events : List Event) (lengths : List ℕ) (rounds most : ℕ) → AreUnpaused c events lengths rounds → GoOn c live s events → most ≤ c.budget → ((r : ℕ) → r < c.replicas → live r ≡ true → most ≤ slice_index lengths r) ⊎ RaisedBy c live events most
late_or_raised c live s events lengths rounds most run on enough = elim (least_or_none c.replicas live (λ r. slice_index lengths r)) [
  | inr none ↦ absurd (true≢false (sym on.lives ∙ none s on.inside))
  | inl q ↦ elim (cases_lt (slice_index lengths q.at) most) [
    | inr late ↦ inl (λ r low lives. let l = q.least r low lives in omega (arith, l, late))
    | inl early ↦ elim (on.ended q.at q.low q.lives) [
      | inl spent ↦ absurd (let taken = run.taken q.at q.low in omega (arith, spent, taken, early, enough))
      | inr finished ↦ inr (one_before c live events lengths rounds most run q (omega (arith, early)) finished)
    ]
  ]
]
