-- The last that asks in turn applies every command in time in version 2, though replicas stopped and heads lag.
use Rattle.std.proofs.Common.{append-nil, ◌≡◌, ◌≢◌, ℕ, zero, suc, ◌+◌, ◌*◌, ◌<◌, ◌≤◌, ◌==◌, inl, inr, Bool, true, false, cond, None, Some, List, [], ◌∷◌, ◌++◌, length, refl, sym, ◌∙◌, ap, arith, subst, true≢false, append_assoc, is_some, not}
use Rattle.std.specs.Prelude.{if◌then◌else◌}
use Rattle.std.proofs.lemmas.Bool.{cases_eq}
use Rattle.std.proofs.lemmas.List.{length-append}
use Rattle.mu_model.specs.declared.config.Config.{Config}
use Rattle.mu_model.specs.declared.event.Event.{Event}
use Rattle.mu_model.specs.Bounds.{cycle, stays}
use Rattle.mu_model.specs.Contents.{IsConfig, row_count}
use Rattle.mu_model.specs.Histories.{greatest, has, newer_or, part}
use Rattle.mu_model.specs.Knowledge.{greatest_fuo_read, known}
use Rattle.mu_model.specs.Leaderships.{begins_leadership, grant_at_joining, has_begun, is_member, lands_min, noted_grant}
use Rattle.mu_model.specs.Placing.{fuo_read_or_raised}
use Rattle.mu_model.specs.Room.{reserve}
use Rattle.mu_model.specs.Steps.{has_min, knows_all}
use Rattle.mu_model.proofs.Parts.{filter-append, part_is_possible}
use Rattle.mu_agree.proofs.Fitting.{part_positions_suffice_law}
use Rattle.mu_agree.proofs.Prefixes.{greatest_along}
use Rattle.mu_pace.specs.Collecting.{LeaderKeeps}
use Rattle.mu_agree.specs.Moments.{AtEachMoment, AtEachStep}
use Rattle.mu_pace.specs.Watches.{bringing_up, limit, raising}
use Rattle.mu_pace.proofs.Counting.{last_moment}
use Rattle.mu_alive.specs.Bringing.{most_paid}
use Rattle.mu_alive.specs.Finishing.{spreading_steps}
use Rattle.mu_alive.specs.Lagging.{gain_steps}
use Rattle.mu_alive.specs.Last.{LeadsLast}
use Rattle.mu_alive.specs.Stopping.{IsUnblocked, LastLeadersApplyAllInAnyRing, LastLeadersRaiseAllInAnyRing, entry_steps, last_steps_in_any_ring}
use Rattle.mu_alive.proofs.Beginning.{CutAt, cut_at}
use Rattle.mu_alive.proofs.Bringing.{bringing_moments, raising_moments}
use Rattle.mu_alive.proofs.CatchingUp.{HaveGained, Next, Round, catch, gained_on}
use Rattle.mu_alive.proofs.Ending.{HasEach, ends, finished}
use Rattle.mu_alive.proofs.Enough.{FirstMin, IsFine, Leads, first_verb, min_or_none}
use Rattle.mu_alive.proofs.Following.{own_fuo, read_is_less}
use Rattle.mu_alive.proofs.Joining.{Began, HasJoined, began_on}
use Rattle.mu_alive.proofs.LastRaising.{raised_by}
use Rattle.mu_alive.proofs.Lasting.{last_before}
use Rattle.mu_alive.proofs.Reaching.{advancing_first, advancing_on}
use Rattle.mu_alive.proofs.Rising.{read_in_time}
use Rattle.mu_alive.proofs.Since.{BroughtSince, Since, brought_since, covers_by}
use Rattle.mu_alive.proofs.Spreading.{in_region}
use Rattle.mu_alive.proofs.Started.{Started, one_leads}
use Rattle.mu_alive.proofs.Steady.{Steady}
use Rattle.mu_alive.proofs.Stopped.{Waits, begun_by, fine_of, go_on, leads_of, opening_steps, steady_of, unblocked_before, waits_before}
use Rattle.mu_alive.proofs.Stands.{Stands, Ticked, ticked}
use Rattle.mu_alive.proofs.Ticking.{closes_by}
use Rattle.mu_alive.proofs.Waiting.{stays_both, unpaid}
use Rattle.mu_pace.proofs.Pasts.{min_now}

-- the FUOs of all that go on have come to k
record Risen (c : Config) (live : ℕ → Bool) (a start k left m gains at first : ℕ) (n base newer older : List Event) : Type 0 where
  waits : Waits c live a start (newer ++ older)
  stands : Stands c live a at n base older
  began : Began c a start k first n base older
  far : first + 2 * limit c c.replicas ≤ at
  high : (p : ℕ) → p < c.replicas → live p ≡ true → k ≤ greatest (λ e. fuo_read_or_raised a p e.by e.verb e.answer) (part a older)
  knew : k ≤ length (known c a (part a older))
  late : start + opening_steps c a ≤ length (part a older)
  entries : row_count c + reserve c ≤ k + suc left
  gained : HaveGained c live k m older
  rows : (c.width + 1) * (row_count c + reserve c) + 1 ≤ m + gains
  room : at + (gain_steps c + (left * entry_steps c + gains * gain_steps c + (cycle c + 2 + 2 * limit c c.replicas))) + 4 * most_paid c ≤ length (part a newer ++ n)
  next : Next c live a start (k + 1) left base

-- in two rounds all read that, and then they catch up
sees : (c : Config) (live : ℕ → Bool) (a start k left m gains at first : ℕ) (n base newer older : List Event) → Risen c live a start k left m gains at first n base newer older → HasEach c a (newer ++ older)
sees c live a start k left m gains at first n base newer older s = go (knows_all c a (part a moment)) refl
  where
    rest : ℕ
    rest = left * entry_steps c + gains * gain_steps c + (cycle c + 2 + 2 * limit c c.replicas)

    t : Ticked c live a start at (gain_steps c) n base newer older
    t = ticked c live a start at (gain_steps c) n base newer older s.waits s.stands (let r = s.room in omega (arith, r))

    moment : List Event
    moment = t.lower ++ older

    seen : (r : ℕ) → r < c.replicas → live r ≡ true → r ≢ a → k ≤ greatest_fuo_read r r (part r moment)
    seen = read_in_time c live a k t.lower older (go_on c live a start moment t.then.there) (λ p low lives. in_region c a p k older (waits_before c live a start newer older s.waits).last.legal (s.high p low lives)) t.long

    own : (r : ℕ) → r < c.replicas → live r ≡ true → k ≤ own_fuo r (part r moment)
    own r low lives = elim (cases_eq r a) [
      | inr other ↦ (let there = seen r low lives other in let less = read_is_less r (part r moment) in omega (arith, there, less))
      | inl same ↦
          let covers = s.high a s.waits.last.inside s.waits.last.lives in
          let up = greatest_along (λ f. fuo_read_or_raised a a f.by f.verb f.answer) (part a t.lower) (part a older) in
          let mine = ap (own_fuo a) (filter-append (λ e. e.by == a) t.lower older) in
          let e = ap (λ i. own_fuo i (part i moment)) same in
          omega (arith, covers, up, mine, e)
    ]

    go : (l : Bool) → knows_all c a (part a moment) ≡ l → HasEach c a (newer ++ older)
    go true knows = ends c live a start k m gains at (gain_steps c) rest n base newer older s.waits t s.room (omega arith) (s.gained a s.waits.last.inside s.waits.last.lives) s.rows knows
    go false lacks =
        subst (HasEach c a) (sym t.then.whole)
        (catch c live a start k left m gains (at + gain_steps c) first (part a t.lower ++ n) base t.upper moment
        (record {
          waits = t.then.waits;
          stands = t.then.stands (at + gain_steps c) t.below lacks;
          began = began_on c a start k first n base t.lower older s.began;
          far = (let f = s.far in omega (arith, f));
          decided = record { own = own; read = seen };
          knew = (let knew = s.knew in let more = t.then.knows in omega (arith, knew, more));
          late = (let l = s.late in let u = t.then.late in omega (arith, l, u));
          entries = s.entries;
          gained = gained_on c live k k m t.lower older (omega arith) s.gained;
          rows = s.rows;
          room = (let r = s.room in let total = t.then.total in omega (arith, r, total));
          next = s.next;
        }))

-- a round: the FUOs of members are raised to what was known
rises : (c : Config) (live : ℕ → Bool) (a start k left m gains at : ℕ) (n base newer older : List Event) → Round c live a start k (suc left) m gains at n base newer older → Next c live a start (k + 1) left base → HasEach c a (newer ++ older)
rises c live a start k left m gains at n base newer older s next = go (knows_all c a (part a moment)) refl
  where
    next_entry : suc left * entry_steps c ≡ left * entry_steps c + entry_steps c
    next_entry = omega arith

    rest : ℕ
    rest = gain_steps c + (left * entry_steps c + gains * gain_steps c + (cycle c + 2 + 2 * limit c c.replicas))

    room : at + (2 * limit c c.replicas + rest) + 4 * most_paid c ≤ length (part a newer ++ n)
    room = let r = s.room in omega (arith, r, next_entry)

    t : Ticked c live a start at (2 * limit c c.replicas) n base newer older
    t = ticked c live a start at (2 * limit c c.replicas) n base newer older s.waits s.stands (omega (arith, room))

    v : List Event
    v = part a t.lower

    moment : List Event
    moment = t.lower ++ older

    mine : part a moment ≡ v ++ (n ++ base)
    mine = t.then.parts ∙ append_assoc v n base

    led : AtEachStep (LeaderKeeps c a) (v ++ (n ++ base))
    led = subst (AtEachStep (LeaderKeeps c a)) mine t.then.there.last.led

    covers : (p : ℕ) → p < c.replicas → live p ≡ true → HasJoined c a p k (n ++ base) → k ≤ greatest (λ e. fuo_read_or_raised a p e.by e.verb e.answer) (v ++ (n ++ base))
    covers p low lives (inr high) = let up = greatest_along (λ e. fuo_read_or_raised a p e.by e.verb e.answer) v (n ++ base) in omega (arith, high, up)
    covers p low lives (inl member) =
        covers_by (λ w. Since c a w n base) c a p k v n base (subst (AtEachStep (Steady c a)) t.then.parts (steady_of c live a start moment t.then.there)) t.then.same member (s.stands.brought p low lives member) (let knew = s.knew in let same = ap (λ z. length (known c a z)) s.stands.is in omega (arith, knew, same))
        (λ held. closes_by c a (bringing_up c a p) at v n base (λ u o. omega arith) (λ u o. omega arith) (bringing_moments c a p (v ++ (n ++ base)) low led) held s.stands.below t.enough)
        (λ held. closes_by c a (raising c a p) at v n base (λ u o. let none = unpaid u o in omega (arith, none)) (λ u o. omega arith) (raising_moments c a p (v ++ (n ++ base)) low led) held s.stands.below t.enough)

    go : (l : Bool) → knows_all c a (part a moment) ≡ l → HasEach c a (newer ++ older)
    go true knows = ends c live a start k m gains at (2 * limit c c.replicas) rest n base newer older s.waits t room (omega arith) (s.gained a s.waits.last.inside s.waits.last.lives) s.rows knows
    go false lacks =
        subst (HasEach c a) (sym t.then.whole)
        (sees c live a start k left m gains (at + 2 * limit c c.replicas) at (v ++ n) base t.upper moment
        (record {
          waits = t.then.waits;
          stands = t.then.stands (at + 2 * limit c c.replicas) t.below lacks;
          began = record { seg = t.lower; before = older; first = n; is = refl; parts = refl; own = s.stands.is; late = s.late; knew = s.knew; below = s.stands.below };
          far = omega arith;
          high = λ p low lives. (let there = covers p low lives (s.joined p low lives) in let same = ap (greatest (λ e. fuo_read_or_raised a p e.by e.verb e.answer)) mine in omega (arith, there, same));
          knew = (let knew = s.knew in let more = t.then.knows in omega (arith, knew, more));
          late = (let l = s.late in let u = t.then.late in omega (arith, l, u));
          entries = s.entries;
          gained = gained_on c live k k m t.lower older (omega arith) s.gained;
          rows = s.rows;
          room = (let total = t.then.total in omega (arith, room, total));
          next = next;
        }))

-- round after round
goes : (c : Config) (live : ℕ → Bool) (a start k left : ℕ) (base : List Event) → Next c live a start k left base
goes c live a start k zero base m gains at n newer older s =
    let there = waits_before c live a start newer older s.waits in
    let few = part_positions_suffice_law c a (part a older) there.good (part_is_possible c a older there.last.legal) s.stands.lacks in
    let entries = s.entries in
    let knew = s.knew in
    absurd (omega (arith, few, entries, knew))
goes c live a start k (suc left) base m gains at n newer older s = rises c live a start k left m gains at n base newer older s (goes c live a start (k + 1) left base)

-- the beginning of the leadership that is under way
record Under (a : ℕ) (mine : List Event) : Type 0 where
  newer : List Event
  ask : Event
  older : List Event
  is : mine ≡ newer ++ ask ∷ older
  begins : begins_leadership a ask ≡ true
  same : stays a newer ≡ true

under : (a : ℕ) (mine : List Event) → has_begun a mine ≡ true → Under a mine
under a [] begun = absurd (true≢false (sym begun))
under a (e ∷ mine) begun = go (begins_leadership a e) refl begun (under a mine)
  where
    go : (t : Bool) → begins_leadership a e ≡ t → cond t true (has_begun a mine) ≡ true → (has_begun a mine ≡ true → Under a mine) → Under a (e ∷ mine)
    go true is begun rest = record { newer = []; ask = e; older = mine; is = refl; begins = is; same = refl }
    go false none begun rest = let k = rest begun in record { newer = e ∷ k.newer; ask = k.ask; older = k.older; is = ap (λ l. e ∷ l) k.is; begins = k.begins; same = ap (λ t. not (if t then true else has (begins_leadership a) k.newer)) none ∙ k.same }

no_member : (a p : ℕ) (e : Event) (past : List Event) → begins_leadership a e ≡ true → is_member a p (e ∷ past) ≡ false
no_member a p e past begins = ap (λ t. is_some (if t then None else if lands_min a p e.by e.verb e.answer then newer_or (grant_at_joining a p past) (Some (noted_grant a p past)) else grant_at_joining a p past)) begins

-- once it has started, round after round
begins : (c : Config) (live : ℕ → Bool) (a start : ℕ) (newer older : List Event) → Waits c live a start (newer ++ older) → start + opening_steps c a ≤ length (part a older)
    → (row_count c + reserve c) * entry_steps c + ((c.width + 1) * (row_count c + reserve c) + 1) * gain_steps c + 4 * most_paid c ≤ length (part a newer) → HasEach c a (newer ++ older)
begins c live a start newer older w late long = go (knows_all c a (part a older)) refl
  where
    here : Waits c live a start older
    here = waits_before c live a start newer older w

    begun : Started c a older
    begun = begun_by c live a start older here late

    from : knows_all c a (part a older) ≡ false → (m : FirstMin a (part a older)) → Under a m.older → HasEach c a (newer ++ older)
    from lacks m u =
        goes c live a start 0 (row_count c + reserve c) base 0 ((c.width + 1) * (row_count c + reserve c) + 1) (length n) n newer older
        (record {
          waits = w;
          stands = stands;
          late = late;
          joined = λ p low lives. inr (omega arith);
          knew = omega arith;
          entries = omega arith;
          gained = λ r low lives. omega arith;
          rows = omega arith;
          room = (let sum = length-append (part a newer) n in omega (arith, long, sum));
        })
      where
        base : List Event
        base = u.ask ∷ u.older

        first : List Event
        first = m.first ∷ u.newer

        n : List Event
        n = m.newer ++ first

        opened : m.first ∷ m.older ≡ first ++ base
        opened = ap (λ l. m.first ∷ l) u.is

        flat : part a older ≡ n ++ base
        flat = m.is ∙ ap (λ l. m.newer ++ l) opened ∙ sym (append_assoc m.newer first base)

        read : has_min a (first ++ base) ≡ true
        read = subst (λ l. has_min a l ≡ true) opened (min_now a m.first m.older m.min m.begun)

        leads : AtEachStep (Leads c a) (n ++ base)
        leads = subst (AtEachStep (Leads c a)) flat (leads_of c live a start older here)

        fine : AtEachMoment (IsFine c a) (n ++ base)
        fine = subst (AtEachMoment (IsFine c a)) flat (fine_of c live a start older here lacks)

        steady : AtEachStep (Steady c a) (n ++ base)
        steady = subst (AtEachStep (Steady c a)) flat (steady_of c live a start older here)

        on : (stays a m.newer ≡ true) × (has_min a (m.newer ++ (first ++ base)) ≡ true)
        on = one_leads c a m.newer (first ++ base) (subst (AtEachStep (Leads c a)) (append_assoc m.newer first base) leads) read

        stands : Stands c live a (length n) n base older
        stands = record {
          is = flat;
          read = subst (λ l. has_min a l ≡ true) (sym (append_assoc m.newer first base)) on.1;
          one = stays_both a m.newer first on.0 (ap (λ t. not (if t then true else has (begins_leadership a) u.newer)) (first_verb a m.first.by m.first.verb m.first.answer m.min) ∙ u.same);
          lacks = lacks;
          below = λ xs ys is. (let sum = ap length is ∙ length-append xs ys in omega (arith, sum));
          brought = λ p low lives. subst (λ l. BroughtSince c a p l base) (append-nil n) (brought_since c a p n [] base (subst (λ l. AtEachStep (Steady c a) (l ++ base)) (sym (append-nil n)) steady) (λ member. absurd (true≢false (sym member ∙ no_member a p u.ask u.older u.begins))));
          advancing = advancing_on c a m.newer first base leads fine read (advancing_first c a (part a older) first base m opened);
        }

    go : (t : Bool) → knows_all c a (part a older) ≡ t → HasEach c a (newer ++ older)
    go true knows = finished c live a start ((c.width + 1) * (row_count c + reserve c) + 1) newer older w knows (omega arith) (omega (arith, long))
    go false lacks = elim (min_or_none a (part a older)) [
      | inl none ↦ absurd (true≢false (sym begun.read ∙ last_moment (λ now. has_min a now ≡ false) (part a older) none))
      | inr m ↦ from lacks m (under a m.older m.begun)
    ]

-- it knows every command, and has applied it
has_each : (c : Config) (live : ℕ → Bool) (a start : ℕ) (past : List Event) → IsConfig c → c.version ≡ 2 → LeadsLast c live a start past → IsUnblocked c live a start past → start + last_steps_in_any_ring c a ≤ length (part a past) → HasEach c a past
has_each c live a start past good two last free many =
    subst (HasEach c a) (sym first.is)
    (begins c live a start first.newer first.rest (subst (Waits c live a start) first.is (record { good = good; two = two; last = last; free = free })) (let count = first.count in omega (arith, count))
    (rest start (opening_steps c a) ((row_count c + reserve c) * entry_steps c) (((c.width + 1) * (row_count c + reserve c) + 1) * gain_steps c) (4 * most_paid c) (length (part a past)) (length (part a first.newer)) (length (part a first.rest))
    (ap (λ l. length (part a l)) first.is ∙ ap length (filter-append (λ e. e.by == a) first.newer first.rest) ∙ length-append (part a first.newer) (part a first.rest)) first.count many))
  where
    fewer : (x o e g p n : ℕ) → x + (o + e + g + p) ≤ n → x + o ≤ n
    fewer x o e g p n long = omega (arith, long)

    rest : (x o e g p n m k : ℕ) → n ≡ m + k → k ≡ x + o → x + (o + e + g + p) ≤ n → e + g + p ≤ m
    rest x o e g p n m k sum is long = omega (arith, sum, is, long)

    first : CutAt a (start + opening_steps c a) past
    first = cut_at a (start + opening_steps c a) past (fewer start (opening_steps c a) ((row_count c + reserve c) * entry_steps c) (((c.width + 1) * (row_count c + reserve c) + 1) * gain_steps c) (4 * most_paid c) (length (part a past)) many)

pub last_applies : LastLeadersApplyAllInAnyRing
last_applies c live a start past good two last free many = (has_each c live a start past good two last free many).1

flat : (x y z n : ℕ) → x + (y + z) ≤ n → x + y + z ≤ n
flat x y z n many = omega (arith, many)

pub last_raises : LastLeadersRaiseAllInAnyRing
last_raises c live a start past good two last free many =
    raised_by c live a start (start + last_steps_in_any_ring c a) past good last free.opens (free.fetches a last.inside last.lives) free.keep (omega arith)
    (λ newer older is enough. (has_each c live a start older good two (last_before c live a start newer older (subst (LeadsLast c live a start) is last)) (unblocked_before c live a start newer older (subst (IsUnblocked c live a start) is free)) enough).0) (flat start (last_steps_in_any_ring c a) (spreading_steps c) (length (part a past)) many)
