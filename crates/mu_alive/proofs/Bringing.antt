-- A region that grants to a leader becomes a member in time, and is brought to what the leader knows.
use Rattle.std.proofs.Common.{◌≡◌, ◌⊎◌, ℕ, ◌+◌, ◌*◌, ◌<◌, ◌≤◌, ◌==◌, ◌&&◌, ◌||◌, not, inl, inr, Bool, true, false, cond, Some, None, List, [], ◌∷◌, ◌++◌, length, refl, sym, ◌∙◌, ap, arith, subst, true≢false, append-nil, append_assoc, is_some}
use Rattle.std.specs.declared.option.Option.{Option}
use Rattle.std.specs.Prelude.{if◌then◌else◌, nat_le}
use Rattle.std.proofs.lemmas.Bool.{and_from, and_parts, eq-eqb, le-leb, leb-false, leb-true}
use Rattle.std.proofs.lemmas.List.{length-append}
use Rattle.mu_model.specs.declared.config.Config.{Config}
use Rattle.mu_model.specs.declared.event.Answer.{Answer}
use Rattle.mu_model.specs.declared.event.Event.{Event}
use Rattle.mu_model.specs.declared.event.Verb.{Verb}
use Rattle.mu_model.specs.Answers.{answer_of, drained, put_answer}
use Rattle.mu_model.specs.Bounds.{is_at_most, is_learning, members, stays}
use Rattle.mu_model.specs.Contents.{IsConfig, row_count}
use Rattle.mu_model.specs.Diligence.{is_fuo_above, is_joining_step}
use Rattle.mu_model.specs.Histories.{greatest, max_with, newer_or, event_by}
use Rattle.mu_model.specs.Knowledge.{commits, known}
use Rattle.mu_model.specs.Leaderships.{begins_leadership, grant_at_joining, is_member, is_over, lands_min, leadership, noted_grant, proposal_number}
use Rattle.mu_model.specs.Legal.{IsLegalHistory}
use Rattle.mu_model.specs.Parts.{IsPossible}
use Rattle.mu_model.specs.Placing.{fuo_read_or_raised}
use Rattle.mu_model.specs.Room.{reserve}
use Rattle.mu_model.specs.Steps.{commits_more, has_min, is_fencing, is_min_put, is_min_put_verb, is_named, is_over_after, leads}
use Rattle.mu_model.specs.Stretches.{is_replication, replications}
use Rattle.mu_agree.proofs.Landings.{greatest_since}
use Rattle.mu_agree.proofs.Legal.{legal_older}
use Rattle.mu_agree.proofs.Possible.{parts_shorten_law}
use Rattle.mu_agree.proofs.Prefixes.{greatest_along}
use Rattle.mu_pace.specs.Collecting.{LeaderKeeps}
use Rattle.mu_pace.specs.Counters.{IsInTime, Watch, paid}
use Rattle.mu_agree.specs.Moments.{AtEachMoment, AtEachStep}
use Rattle.mu_pace.specs.Watches.{asking_after, bringing_up, earns, falls_behind, is_answer_to_welcome, is_brought_up, is_full_raise, is_welcoming, joining, leaves, limit, limit_now, raising}
use Rattle.mu_pace.proofs.Counting.{allowed_here, allowed_now, last_moment, moments_before, steps_before}
use Rattle.mu_pace.proofs.Growing.{greatest_on, known_grows, member_stays, stays_less, twice_paid}
use Rattle.mu_agree.proofs.Members.{member_on}
use Rattle.mu_pace.proofs.Positions.{known_fits}
use Rattle.mu_alive.specs.Bringing.{FollowersAreBroughtUp, IsGranted, LeadsOn, bringing_steps}
use Rattle.mu_alive.proofs.Calm.{PutsInside, count_few, limit_fits, paid_few}
use Rattle.mu_alive.proofs.Cutting.{Located, located}
use Rattle.mu_alive.proofs.Enough.{puts_inside}
use Rattle.mu_alive.proofs.Moments.{at_least_halves, halves}
use Rattle.mu_alive.proofs.Waiting.{Closed, Pending, closed_or, steps_both, open_short, pending_on, stays_both, stays_newer, stays_older, unpaid}
use Rattle.mu_alive.proofs.Steady.{Steady, away_by, joins_here, member_numbered, min_stays, not_away, numbered_on, numbered_stays, raises_brought, same_known, steady_steps}
use Rattle.mu_pace.proofs.Pasts.{possible_before, cut, Cut}

-- a member is brought up, or a count is held open that waits for it
abbrev pub BroughtBy : (Watch → Type 0) → Config → ℕ → ℕ → List Event → Type 0
BroughtBy Holds c a p now = (is_brought_up c a p now ≡ true) ⊎ (Holds (bringing_up c a p) ⊎ Holds (raising c a p))

abbrev Brought : Config → ℕ → ℕ → List Event → Type 0
Brought c a p now = BroughtBy (λ w. Pending a w (limit c c.replicas) now) c a p now

abbrev HasBrought : Config → ℕ → ℕ → List Event → Type 0
HasBrought c a p now = is_member a p now ≡ true → Brought c a p now

members_fit : (c : Config) (r : ℕ) (now : List Event) → members c r now ≤ limit c c.replicas
members_fit c r now = let l = count_few c.replicas (λ p. is_member r p now) in omega (arith, l)

-- one event more, however counts are held open
pub brought_next : (Was Is : Watch → Type 0) (c : Config) (a p : ℕ) (e : Event) (past : List Event) → Steady c a past e → ((w : Watch) (amount : ℕ) → w.allows (e ∷ past) ≡ Some amount → amount ≤ limit c c.replicas → Is w) → ((w : Watch) → begins_leadership a e ≡ false → w.closes past e ≡ false → Was w → Is w)
    → (is_member a p past ≡ true → BroughtBy Was c a p past) → is_member a p (e ∷ past) ≡ true → BroughtBy Is c a p (e ∷ past)
brought_next Was Is c a p e past steady opens on before now = go (begins_leadership a e) refl (is_member a p past) refl
  where
    brought_now : Bool
    brought_now = is_brought_up c a p (e ∷ past)

    -- it became a member, or an entry was learnt
    fell : begins_leadership a e ≡ false → (is_joining_step a past e || is_learning c a past e) ≡ true → (t : Bool) → brought_now ≡ t → BroughtBy Is c a p (e ∷ past)
    fell same starts true up = inl up
    fell same starts false down = inr (inl
        (opens (bringing_up c a p) (limit_now c a (e ∷ past))
        (allowed_here (falls_behind c a p) (limit_now c a) past e
        (and_from (is_joining_step a past e || is_learning c a past e) (is_some (proposal_number a (e ∷ past)) && (is_member a p (e ∷ past) && not brought_now)) starts
        (and_from (is_some (proposal_number a (e ∷ past))) (is_member a p (e ∷ past) && not brought_now) (member_numbered a p (e ∷ past) now) (and_from (is_member a p (e ∷ past)) (not brought_now) now (ap not down)))))
        (limit_fits c a (e ∷ past))))

    -- nothing more is known
    still : begins_leadership a e ≡ false → is_member a p past ≡ true → length (known c a (e ∷ past)) ≤ length (known c a past) → (t : Bool) → brought_now ≡ t → (u : Bool) → is_full_raise c a p past e ≡ u → BroughtBy Was c a p past → BroughtBy Is c a p (e ∷ past)
    still same member few true up u hu old = inl up
    still same member few false down true hu old = absurd (true≢false (sym (raises_brought c a p e.by e.verb e.answer past steady.own hu) ∙ down))
    still same member few false down false hu (inl up) =
        let high = leb-true (length (known c a past)) (greatest (λ f. fuo_read_or_raised a p f.by f.verb f.answer) (leadership a past)) up in
        let more = greatest_on (λ f. fuo_read_or_raised a p f.by f.verb f.answer) a e past same in
        absurd (true≢false (sym (le-leb (length (known c a (e ∷ past))) (greatest (λ f. fuo_read_or_raised a p f.by f.verb f.answer) (leadership a (e ∷ past))) (omega (arith, few, high, more))) ∙ down))
    still same member few false down false hu (inr (inl k)) =
        inr (inl (on (bringing_up c a p) same (ap (λ t. t || leaves c a (is_over_after a) past e) down ∙ not_away (begins_leadership a e) (is_replication past e) (is_named c a past) (is_over_after a past e) same (steady.named (member_numbered a p past member)) steady.on) k))
    still same member few false down false hu (inr (inr k)) =
        inr (inr (on (raising c a p) same (not_away (begins_leadership a e) (is_replication past e) (is_named c a past) (is_full_raise c a p past e) same (steady.named (member_numbered a p past member)) hu) k))

    member_before : begins_leadership a e ≡ false → is_member a p past ≡ true → (t : Bool) → commits_more c a past e ≡ t → (u : Bool) → is_learning c a past e ≡ u → BroughtBy Is c a p (e ∷ past)
    member_before same member true commits u hu = inr (inr (opens (raising c a p) (members c a (e ∷ past)) (allowed_here (λ past e. commits_more c a past e && is_member a p (e ∷ past)) (members c a) past e (and_from (commits_more c a past e) (is_member a p (e ∷ past)) commits now)) (members_fit c a (e ∷ past))))
    member_before same member false none true learns = fell same (either (is_joining_step a past e) (is_learning c a past e) learns) brought_now refl
      where
        either : (x y : Bool) → y ≡ true → (x || y) ≡ true
        either true y h = refl
        either false y h = h
    member_before same member false none false nothing_learnt = still same member (same_known c a e.by e.verb e.answer past none nothing_learnt) brought_now refl (is_full_raise c a p past e) refl (before member)

    -- it wasn't one
    joined : begins_leadership a e ≡ false → is_member a p past ≡ false → lands_min a p e.by e.verb e.answer ≡ true
    joined same none = landed (lands_min a p e.by e.verb e.answer) refl (sym (ap (λ t. is_some (if t then None else if lands_min a p e.by e.verb e.answer then newer_or (grant_at_joining a p past) (Some (noted_grant a p past)) else grant_at_joining a p past)) same) ∙ now)
      where
        landed : (t : Bool) → lands_min a p e.by e.verb e.answer ≡ t → is_some (if t then newer_or (grant_at_joining a p past) (Some (noted_grant a p past)) else grant_at_joining a p past) ≡ true → t ≡ true
        landed true is some = refl
        landed false is some = absurd (true≢false (sym some ∙ none))

    go : (b : Bool) → begins_leadership a e ≡ b → (m : Bool) → is_member a p past ≡ m → BroughtBy Is c a p (e ∷ past)
    go true begins m hm = absurd (true≢false (sym now ∙ ap (λ t. is_some (if t then None else if lands_min a p e.by e.verb e.answer then newer_or (grant_at_joining a p past) (Some (noted_grant a p past)) else grant_at_joining a p past)) begins))
    go false same true member = member_before same member (commits_more c a past e) refl (is_learning c a past e) refl
    go false same false none = fell same (ap (λ t. t || is_learning c a past e) (joins_here a p e.by e.verb e.answer past (joined same none) none)) brought_now refl

brought_step : (c : Config) (a p : ℕ) (e : Event) (past : List Event) → Steady c a past e → HasBrought c a p past → HasBrought c a p (e ∷ past)
brought_step c a p e past steady before now =
    brought_next (λ w. Pending a w (limit c c.replicas) past) (λ w. Pending a w (limit c c.replicas) (e ∷ past)) c a p e past steady (λ w amount allows few. record { window = []; opened = e ∷ past; amount = amount; is = refl; same = refl; allows = allows; few = few; unclosed = refl })
    (λ w same open_yet k. pending_on a w (limit c c.replicas) e past same open_yet k) before now

pub has_brought : (c : Config) (a p : ℕ) (mine : List Event) → AtEachStep (Steady c a) mine → HasBrought c a p mine
has_brought c a p [] steady = λ member. absurd (true≢false (sym member))
has_brought c a p (e ∷ mine) steady = brought_step c a p e mine steady.1 (has_brought c a p mine steady.0)

inside_puts : (c : Config) (a : ℕ) (window base : List Event) → IsPossible c a (window ++ base) → PutsInside c window
inside_puts c a [] base possible = tt
inside_puts c a (e ∷ window) base possible = (inside_puts c a window base (parts_shorten_law c a (window ++ base) e possible).before, puts_inside c a (window ++ base) e possible)

-- what such a stretch is paid
pub paid_at_most : (c : Config) (a : ℕ) (window base : List Event) → IsConfig c → IsPossible c a (window ++ base) → stays a window ≡ true → paid (earns c a) window base ≤ 6 * c.replicas + 8 * ((row_count c + reserve c) + c.replicas * (row_count c + reserve c))
paid_at_most c a window base good possible same = paid_few c a (row_count c + reserve c) window base same (inside_puts c a window base possible) (known_fits c a (window ++ base) good possible)

-- the counts of a journal at each moment
pub bringing_moments : (c : Config) (a p : ℕ) (mine : List Event) → p < c.replicas → AtEachStep (LeaderKeeps c a) mine → AtEachMoment (IsInTime (bringing_up c a p)) mine
bringing_moments c a p [] low kept = λ left is. absurd (let k = is in cc)
bringing_moments c a p (e ∷ mine) low kept = (bringing_moments c a p mine low kept.0, kept.1.places.bringing p)

pub raising_moments : (c : Config) (a p : ℕ) (mine : List Event) → p < c.replicas → AtEachStep (LeaderKeeps c a) mine → AtEachMoment (IsInTime (raising c a p)) mine
raising_moments c a p [] low kept = λ left is. absurd (let k = is in cc)
raising_moments c a p (e ∷ mine) low kept = (raising_moments c a p mine low kept.0, kept.1.raises p low)

joining_moments : (c : Config) (a p : ℕ) (mine : List Event) → p < c.replicas → AtEachStep (LeaderKeeps c a) mine → AtEachMoment (IsInTime (joining c a p)) mine
joining_moments c a p [] low kept = λ left is. absurd (let k = is in cc)
joining_moments c a p (e ∷ mine) low kept = (joining_moments c a p mine low kept.0, kept.1.joins p low)

asking_moments : (c : Config) (a p : ℕ) (mine : List Event) → 1 ≤ c.width → p < c.replicas → AtEachStep (LeaderKeeps c a) mine → AtEachMoment (IsInTime (asking_after c a p)) mine
asking_moments c a p [] wide low kept = λ left is. some left is
  where
    some : (left : ℕ) → Some (2 * limit_now c a []) ≡ Some left → 1 ≤ left
    some left is = let same : 2 * limit_now c a [] ≡ left = ap (λ o. number o) is in omega (arith, same)
      where
        number : Option ℕ → ℕ
        number None = 0
        number (Some x) = x
asking_moments c a p (e ∷ mine) wide low kept = (asking_moments c a p mine wide low kept.0, kept.1.places.asking p low)

-- a member is brought up in time
pub member_in_time : (c : Config) (a p l : ℕ) (window base : List Event) → IsConfig c → LeadsOn c a (window ++ base) → p < c.replicas → stays a window ≡ true → is_member a p base ≡ true → l ≤ length (known c a base) → bringing_steps c ≤ replications window base
    → l ≤ greatest (λ e. fuo_read_or_raised a p e.by e.verb e.answer) (window ++ base)
member_in_time c a p l window base good leads low same member knows long = go (has_brought c a p base (steps_before (Steady c a) window base steady) member)
  where
    steady : AtEachStep (Steady c a) (window ++ base)
    steady = steady_steps c a (window ++ base) leads.possible leads.on leads.named

    covers : (newer older : List Event) → window ≡ newer ++ older → is_brought_up c a p (older ++ base) ≡ true → l ≤ greatest (λ e. fuo_read_or_raised a p e.by e.verb e.answer) (window ++ base)
    covers newer older is up =
        let high = leb-true (length (known c a (older ++ base))) (greatest (λ f. fuo_read_or_raised a p f.by f.verb f.answer) (leadership a (older ++ base))) up in
        let grows = known_grows c a older base in
        let all = greatest_since (λ f. fuo_read_or_raised a p f.by f.verb f.answer) (begins_leadership a) (older ++ base) in
        let along = greatest_along (λ f. fuo_read_or_raised a p f.by f.verb f.answer) newer (older ++ base) in
        let whole = ap (greatest (λ f. fuo_read_or_raised a p f.by f.verb f.answer)) (ap (λ x. x ++ base) is ∙ append_assoc newer older base) in
        omega (arith, high, grows, all, along, whole, knows)

    here : (newer older : List Event) (e : Event) → window ≡ newer ++ e ∷ older → Steady c a (older ++ base) e
    here newer older e is = (steps_before (Steady c a) newer (e ∷ (older ++ base)) (subst (AtEachStep (Steady c a)) (ap (λ x. x ++ base) is ∙ append_assoc newer (e ∷ older) base) steady)).1

    parts : (newer older : List Event) (e : Event) → window ≡ newer ++ e ∷ older → (begins_leadership a e ≡ false) × (is_member a p (older ++ base) ≡ true)
    parts newer older e is =
        let less = stays_less a e older (stays_older a newer (e ∷ older) (subst (λ x. stays a x ≡ true) is same)) in
        (less.0, member_stays a p older base less.1 member)

    bound : (k : List Event) (opened : List Event) → window ++ base ≡ (window ++ k) ++ opened → stays a k ≡ true → paid (earns c a) (window ++ k) opened ≤ 6 * c.replicas + 8 * ((row_count c + reserve c) + c.replicas * (row_count c + reserve c))
    bound k opened whole stayed = paid_at_most c a (window ++ k) opened good (subst (IsPossible c a) whole leads.possible) (stays_both a window k same stayed)

    go : Brought c a p base → l ≤ greatest (λ e. fuo_read_or_raised a p e.by e.verb e.answer) (window ++ base)
    go (inl up) = covers window [] (sym (append-nil window)) up
    go (inr (inl k)) = elim (closed_or (bringing_up c a p) window base) [
      | inl x ↦
          let s = here x.newer x.older x.event x.is in
          let q = parts x.newer x.older x.event x.is in
          covers x.newer (x.event ∷ x.older) x.is (up (is_brought_up c a p (x.event ∷ (x.older ++ base))) (leaves c a (is_over_after a) (x.older ++ base) x.event)
          (not_away (begins_leadership a x.event) (is_replication (x.older ++ base) x.event) (is_named c a (x.older ++ base)) (is_over_after a (x.older ++ base) x.event) q.0 (s.named (member_numbered a p (x.older ++ base) q.1)) s.on) x.closes)
      | inr open_yet ↦
          let less = open_short a (bringing_up c a p) (limit c c.replicas) window base (bringing_moments c a p (window ++ base) low leads.led) k open_yet in
          let few = bound k.window k.opened (ap (λ x. window ++ x) k.is ∙ sym (append_assoc window k.window k.opened)) k.same in
          absurd (omega (arith, less, few, long))
    ]
      where
        up : (t u : Bool) → u ≡ false → (t || u) ≡ true → t ≡ true
        up true u h is = refl
        up false u h is = absurd (true≢false (sym is ∙ h))
    go (inr (inr k)) = elim (closed_or (raising c a p) window base) [
      | inl x ↦
          let s = here x.newer x.older x.event x.is in
          let q = parts x.newer x.older x.event x.is in
          let raise = away_by (begins_leadership a x.event) (is_replication (x.older ++ base) x.event) (is_named c a (x.older ++ base)) (is_full_raise c a p (x.older ++ base) x.event) q.0 (s.named (member_numbered a p (x.older ++ base) q.1)) x.closes in
          covers x.newer (x.event ∷ x.older) x.is (raises_brought c a p x.event.by x.event.verb x.event.answer (x.older ++ base) s.own raise.1)
      | inr open_yet ↦
          let less = open_short a (raising c a p) (limit c c.replicas) window base (raising_moments c a p (window ++ base) low leads.led) k open_yet in
          let none = unpaid (window ++ k.window) k.opened in
          absurd (omega (arith, less, none, long))
    ]

-- a FUO of p was read that was above what was known, and that was l or more
pub record Ahead (c : Config) (a p l : ℕ) (now : List Event) : Type 0 where
  pub newer : List Event
  pub event : Event
  pub older : List Event
  pub is : now ≡ newer ++ event ∷ older
  pub above : is_fuo_above a p (length (known c a older)) event ≡ true
  pub least : l ≤ length (known c a older)

-- what a stretch comes to
abbrev pub Joins : Config → ℕ → ℕ → ℕ → List Event → Type 0
Joins c a p l now = (is_member a p now ≡ true) ⊎ Ahead c a p l now

joins_stays : (c : Config) (a p l : ℕ) (window base : List Event) → stays a window ≡ true → Joins c a p l base → Joins c a p l (window ++ base)
joins_stays c a p l window base same (inl member) = inl (member_stays a p window base same member)
joins_stays c a p l window base same (inr k) = inr (record { newer = window ++ k.newer; event = k.event; older = k.older; is = ap (λ x. window ++ x) k.is ∙ sym (append_assoc window k.newer (k.event ∷ k.older)); above = k.above; least = k.least })

-- a put of the number that doesn't end the leadership lands
lands_there : (c : Config) (a p : ℕ) (e : Event) (past : List Event) → IsPossible c a (e ∷ past) → e.by ≡ a → is_min_put p e ≡ true → is_over_after a past e ≡ false → lands_min a p e.by e.verb e.answer ≡ true
lands_there c a p e past possible own put on = go (located a possible.past [] past e possible.is)
  where
    by_drain : (by q b : ℕ) (answer : Answer) (t : Bool) → by ≡ a → (q == p) ≡ true → answer ≡ put_answer t → is_over a (event_by by (Verb.PutMin q b) answer ∷ past) ≡ false → lands_min a p by (Verb.PutMin q b) answer ≡ true
    by_drain by q b answer true mine there is on = absurd (true≢false (sym (ap (λ t. t || is_over a past) (eq-eqb by a mine)) ∙ subst (λ x. is_over a (event_by by (Verb.PutMin q b) x ∷ past) ≡ false) is on))
    by_drain by q b answer false mine there is on = subst (λ x. lands_min a p by (Verb.PutMin q b) x ≡ true) (sym is) (and_from (by == a) (q == p) (eq-eqb by a mine) there)

    put_lands : (by : ℕ) (verb : Verb) (answer : Answer) (before : List Event) → by ≡ a → is_min_put_verb p verb ≡ true → answer ≡ answer_of c by before verb → is_over a (event_by by verb answer ∷ past) ≡ false → lands_min a p by verb answer ≡ true
    put_lands by (Verb.PutMin q b) answer before mine there is on = by_drain by q b answer (drained by q before) mine there is on
    put_lands by verb answer before mine there is on = absurd (true≢false (sym there))

    go : Located a possible.past e past → lands_min a p e.by e.verb e.answer ≡ true
    go at =
        let follows = (legal_older c at.newer (e ∷ at.older) (subst (IsLegalHistory c) at.is possible.legal)).1 in
        put_lands e.by e.verb e.answer at.older own put follows.answer on

landing_joins : (a p : ℕ) (e : Event) (past : List Event) → begins_leadership a e ≡ false → lands_min a p e.by e.verb e.answer ≡ true → is_member a p (e ∷ past) ≡ true
landing_joins a p e past same lands =
    ap (λ t. is_some (if t then None else if lands_min a p e.by e.verb e.answer then newer_or (grant_at_joining a p past) (Some (noted_grant a p past)) else grant_at_joining a p past)) same
    ∙ ap (λ t. is_some (if t then newer_or (grant_at_joining a p past) (Some (noted_grant a p past)) else grant_at_joining a p past)) lands ∙ go (grant_at_joining a p past)
  where
    go : (o : Option (Option ℕ)) → is_some (newer_or o (Some (noted_grant a p past))) ≡ true
    go None = refl
    go (Some x) = refl

-- a FUO that is read above i
above_read : (a p i by old : ℕ) (verb : Verb) (answer : Answer) → is_fuo_above a p i (event_by by verb answer) ≡ true → i < max_with (fuo_read_or_raised a p by verb answer) old
above_read a p i by old (Verb.Fuo q) (Answer.Number x) is = go ((by == a) && (q == p)) is
  where
    go : (t : Bool) → (not (is_at_most i (cond t (Some x) None)) && is_some (cond t (Some x) None)) ≡ true → i < max_with (cond t (Some x) None) old
    go true is = high (nat_le x i) refl (and_parts (not (nat_le x i)) true is).0
      where
        high : (u : Bool) → nat_le x i ≡ u → not u ≡ true → i < max_with (Some x) old
        high true low is = absurd (true≢false (sym is))
        high false low is = let l = leb-false x i low in omega (arith, l)
    go false is = absurd (true≢false (sym is))
above_read a p i by old verb answer is = absurd (true≢false (sym is))

pub leads_older : (c : Config) (a : ℕ) (newer older : List Event) → LeadsOn c a (newer ++ older) → LeadsOn c a older
leads_older c a newer older leads = record {
  inside = leads.inside;
  possible = possible_before c a newer older leads.possible;
  on = moments_before (λ now. is_over a now ≡ false) newer older leads.on;
  named = moments_before (λ now. is_some (proposal_number a now) ≡ true → is_named c a now ≡ true) newer older leads.named;
  led = steps_before (LeaderKeeps c a) newer older leads.led;
}

-- a region whose fences grant to the leader becomes a member in time, unless its FUO is ahead
pub joins_in_time : (c : Config) (a p l : ℕ) (later first base : List Event) → IsConfig c → LeadsOn c a (later ++ (first ++ base)) → IsGranted c a p first base → stays a later ≡ true → l ≤ length (known c a base)
    → 2 * limit c c.replicas + 2 * paid (earns c a) first base ≤ replications first base → 4 ≤ replications later (first ++ base) → Joins c a p l (later ++ (first ++ base))
joins_in_time c a p l later first base good goes granted late knows long enough = go (is_member a p base) refl
  where
    steady : AtEachStep (Steady c a) (later ++ (first ++ base))
    steady = steady_steps c a (later ++ (first ++ base)) goes.possible goes.on goes.named

    under : LeadsOn c a (first ++ base)
    under = leads_older c a later (first ++ base) goes

    -- the answer to a fence that grants
    answered : (newer past : List Event) (e : Event) → later ++ (first ++ base) ≡ newer ++ e ∷ past → begins_leadership a e ≡ false → stays a newer ≡ true → is_some (proposal_number a past) ≡ true → l ≤ length (known c a past) → (joining c a p).closes past e ≡ true
        → Joins c a p l (later ++ (first ++ base))
    answered newer past e whole same stayed numbered knew closes =
        let s = (steps_before (Steady c a) newer (e ∷ past) (subst (AtEachStep (Steady c a)) whole steady)).1 in
        subst (Joins c a p l) (sym whole) (joins_stays c a p l newer (e ∷ past) stayed (by_kind s (is_min_put p e) refl (is_over_after a past e) s.on (away_by (begins_leadership a e) (is_replication past e) (is_named c a past) (is_answer_to_welcome c a p past e) same (s.named numbered) closes).1))
      where
        by_kind : Steady c a past e → (m : Bool) → is_min_put p e ≡ m → (o : Bool) → o ≡ false → (m || (o || is_fuo_above a p (length (known c a past)) e)) ≡ true → Joins c a p l (e ∷ past)
        by_kind s true put o off is = inl (landing_joins a p e past same (lands_there c a p e past (possible_before c a newer (e ∷ past) (subst (IsPossible c a) whole goes.possible)) s.own put s.on))
        by_kind s false put false off is = inr (record { newer = []; event = e; older = past; is = refl; above = is; least = knew })
        by_kind s false put true off is = absurd (true≢false off)

    -- the fence of a late follower
    welcomed : (x : Closed (asking_after c a p) first base) → is_member a p (x.event ∷ (x.older ++ base)) ≡ false → (asking_after c a p).closes (x.older ++ base) x.event ≡ true → Joins c a p l (later ++ (first ++ base))
    welcomed x out closes = elim (closed_or (joining c a p) (later ++ x.newer) (x.event ∷ past)) [
      | inl y ↦
          let stretch : later ++ (first ++ base) ≡ y.newer ++ y.event ∷ (y.older ++ (x.event ∷ past)) = whole ∙ ap (λ z. z ++ (x.event ∷ past)) y.is ∙ append_assoc y.newer (y.event ∷ y.older) (x.event ∷ past) in
          let both = subst (λ z. stays a z ≡ true) y.is (stays_both a later x.newer late (stays_newer a x.newer (x.event ∷ x.older) parts)) in
          let less = stays_less a y.event y.older (stays_older a y.newer (y.event ∷ y.older) both) in
          let grows = known_grows c a (y.older ++ (x.event ∷ x.older)) base in
          let same = ap (λ z. length (known c a z)) (append_assoc y.older (x.event ∷ x.older) base) in
          answered y.newer (y.older ++ (x.event ∷ past)) y.event stretch less.0 (stays_newer a y.newer (y.event ∷ y.older) both)
          (numbered_stays a y.older (x.event ∷ past) less.1 (numbered_on a x.event past begun.0 numbered)) (omega (arith, knows, grows, same)) y.closes
      | inr open_yet ↦
          let k : Pending a (joining c a p) 4 (x.event ∷ past) = record { window = []; opened = x.event ∷ past; amount = 4; is = refl; same = refl; allows = allowed_here (is_welcoming c a p) (λ now. 4) past x.event welcoming; few = omega arith; unclosed = refl } in
          let short = open_short a (joining c a p) 4 (later ++ x.newer) (x.event ∷ past) (subst (AtEachMoment (IsInTime (joining c a p))) whole (joining_moments c a p (later ++ (first ++ base)) granted.inside goes.led)) k open_yet in
          let none = unpaid ((later ++ x.newer) ++ []) (x.event ∷ past) in
          let more = steps_both is_replication later x.newer (x.event ∷ past) in
          let same = ap (replications later) split in
          absurd (omega (arith, short, none, more, same, enough))
    ]
      where
        past : List Event
        past = x.older ++ base

        split : first ++ base ≡ x.newer ++ (x.event ∷ past)
        split = ap (λ z. z ++ base) x.is ∙ append_assoc x.newer (x.event ∷ x.older) base

        whole : later ++ (first ++ base) ≡ (later ++ x.newer) ++ (x.event ∷ past)
        whole = ap (λ z. later ++ z) split ∙ sym (append_assoc later x.newer (x.event ∷ past))

        parts : stays a (x.newer ++ x.event ∷ x.older) ≡ true
        parts = subst (λ z. stays a z ≡ true) x.is granted.same

        begun : (begins_leadership a x.event ≡ false) × (stays a x.older ≡ true)
        begun = stays_less a x.event x.older (stays_older a x.newer (x.event ∷ x.older) parts)

        numbered : is_some (proposal_number a past) ≡ true
        numbered = numbered_stays a x.older base begun.1 granted.numbered

        s : Steady c a past x.event
        s = (steps_before (Steady c a) (later ++ x.newer) (x.event ∷ past) (subst (AtEachStep (Steady c a)) whole steady)).1

        on : is_over a past ≡ false
        on = last_moment (λ now. is_over a now ≡ false) past (moments_before (λ now. is_over a now ≡ false) (later ++ x.newer) (x.event ∷ past) (subst (AtEachMoment (λ now. is_over a now ≡ false)) whole goes.on)).0

        leading : leads a past ≡ true
        leading = and_from (has_min a past) (not (is_over a past)) (min_stays a x.older base begun.1 granted.read) (ap not on)

        outside : is_member a p past ≡ false
        outside = before (is_member a p past) refl
          where
            before : (t : Bool) → is_member a p past ≡ t → t ≡ false
            before true member = absurd (true≢false (sym (member_on a p x.event past begun.0 member) ∙ out))
            before false none = refl

        fence : is_fencing p x.event ≡ true
        fence = away (leads a past) leading (away_by (begins_leadership a x.event) (is_replication past x.event) (is_named c a past) (not (leads a past) || is_fencing p x.event) begun.0 (s.named numbered) (sym (ap (λ t. t || leaves c a (λ before f. not (leads a before) || is_fencing p f) past x.event) out) ∙ closes)).1
          where
            away : (t : Bool) → t ≡ true → (not t || is_fencing p x.event) ≡ true → is_fencing p x.event ≡ true
            away true h is = is
            away false h is = absurd (true≢false (sym h))

        welcoming : is_welcoming c a p past x.event ≡ true
        welcoming =
            and_from (is_fencing p x.event) (is_some (proposal_number a past) && (not (is_over a past) && (not (is_member a p past) && is_some (noted_grant a p (x.event ∷ past))))) fence
            (and_from (is_some (proposal_number a past)) (not (is_over a past) && (not (is_member a p past) && is_some (noted_grant a p (x.event ∷ past)))) numbered
            (and_from (not (is_over a past)) (not (is_member a p past) && is_some (noted_grant a p (x.event ∷ past))) (ap not on)
            (and_from (not (is_member a p past)) (is_some (noted_grant a p (x.event ∷ past))) (ap not outside) (granted.notes x.newer x.older x.event x.is fence))))

    asked : is_member a p base ≡ false → Joins c a p l (later ++ (first ++ base))
    asked out = elim (closed_or (asking_after c a p) first base) [
      | inl x ↦ closing x (is_member a p (x.event ∷ (x.older ++ base))) refl
      | inr open_yet ↦
          let k : Pending a (asking_after c a p) (2 * limit c c.replicas) base = record { window = []; opened = base; amount = 2 * limit_now c a base; is = refl; same = refl; allows = allowed_now (λ now. not (is_member a p now)) (λ now. 2 * limit_now c a now) base (ap not out); few = (let l = limit_fits c a base in omega (arith, l)); unclosed = refl } in
          let short = open_short a (asking_after c a p) (2 * limit c c.replicas) first base (asking_moments c a p (first ++ base) good.widths.0 granted.inside under.led) k open_yet in
          let twice = twice_paid (earns c a) (first ++ []) base in
          let same = ap (λ z. paid (earns c a) z base) (append-nil first) in
          absurd (omega (arith, short, twice, same, long))
    ]
      where
        closing : (x : Closed (asking_after c a p) first base) → (t : Bool) → is_member a p (x.event ∷ (x.older ++ base)) ≡ t → Joins c a p l (later ++ (first ++ base))
        closing x true member =
            let split : first ++ base ≡ x.newer ++ (x.event ∷ (x.older ++ base)) = ap (λ z. z ++ base) x.is ∙ append_assoc x.newer (x.event ∷ x.older) base in
            let stayed = stays_newer a x.newer (x.event ∷ x.older) (subst (λ z. stays a z ≡ true) x.is granted.same) in
            inl (member_stays a p later (first ++ base) late (subst (λ z. is_member a p z ≡ true) (sym split) (member_stays a p x.newer (x.event ∷ (x.older ++ base)) stayed member)))
        closing x false none = welcomed x none x.closes

    go : (t : Bool) → is_member a p base ≡ t → Joins c a p l (later ++ (first ++ base))
    go true member = inl (member_stays a p later (first ++ base) late (member_stays a p first base granted.same member))
    go false out = asked out

-- what is so over a stretch is so over its older part
pub granted_first : (c : Config) (a p : ℕ) (newer first base : List Event) → IsGranted c a p (newer ++ first) base → IsGranted c a p first base
granted_first c a p newer first base granted = record {
  inside = granted.inside;
  read = granted.read;
  numbered = granted.numbered;
  same = stays_older a newer first granted.same;
  notes = λ above below e is fence. granted.notes (newer ++ above) below e (ap (λ z. newer ++ z) is ∙ sym (append_assoc newer above (e ∷ below))) fence;
}

-- the same in steps
pub joins_up : (c : Config) (a p l : ℕ) (window base : List Event) → IsConfig c → LeadsOn c a (window ++ base) → IsGranted c a p window base → l ≤ length (known c a base) → 4 * bringing_steps c + 8 ≤ length window → Joins c a p l (window ++ base)
joins_up c a p l window base good leads granted knows long =
    subst (Joins c a p l) (sym split)
    (joins_in_time c a p l first.newer first.rest base good (subst (LeadsOn c a) split leads) (granted_first c a p first.newer first.rest base (subst (λ x. IsGranted c a p x base) first.is granted)) stayed knows
    (let half = halves (2 * bringing_steps c) first.rest base (let count = first.count in omega (arith, count)) in
    let few = paid_at_most c a first.rest base good (leads_older c a first.newer (first.rest ++ base) (subst (LeadsOn c a) split leads)).possible (stays_older a first.newer first.rest (subst (λ z. stays a z ≡ true) first.is granted.same)) in
    omega (arith, half, few))
    (let half = at_least_halves first.newer (first.rest ++ base) in let sum = ap length first.is ∙ length-append first.newer first.rest in let count = first.count in omega (arith, half, sum, count, long)))
  where
    first : Cut (4 * bringing_steps c) window
    first = cut (4 * bringing_steps c) window (omega (arith, long))

    split : window ++ base ≡ first.newer ++ (first.rest ++ base)
    split = ap (λ z. z ++ base) first.is ∙ append_assoc first.newer first.rest base

    stayed : stays a first.newer ≡ true
    stayed = stays_newer a first.newer first.rest (subst (λ z. stays a z ≡ true) first.is granted.same)

pub ahead_covers : (c : Config) (a p l : ℕ) (now : List Event) → Ahead c a p l now → l < greatest (λ e. fuo_read_or_raised a p e.by e.verb e.answer) now
ahead_covers c a p l now k =
    let high = above_read a p (length (known c a k.older)) k.event.by (greatest (λ f. fuo_read_or_raised a p f.by f.verb f.answer) k.older) k.event.verb k.event.answer k.above in
    let along = greatest_along (λ f. fuo_read_or_raised a p f.by f.verb f.answer) k.newer (k.event ∷ k.older) in
    let same = ap (greatest (λ f. fuo_read_or_raised a p f.by f.verb f.answer)) k.is in
    let least = k.least in
    omega (arith, high, along, same, least)

pub brought_up : FollowersAreBroughtUp
brought_up c a p l window base good leads granted knows long = done (joins_up c a p l lower.rest base good (leads_older c a lower.newer middle goes) (granted_first c a p lower.newer lower.rest base (subst (λ x. IsGranted c a p x base) lower.is granted)) knows (let count = lower.count in omega (arith, count)))
  where
    lower : Cut (4 * bringing_steps c + 8) window
    lower = cut (4 * bringing_steps c + 8) window (omega (arith, long))

    middle : List Event
    middle = lower.rest ++ base

    split : window ++ base ≡ lower.newer ++ middle
    split = ap (λ z. z ++ base) lower.is ∙ append_assoc lower.newer lower.rest base

    goes : LeadsOn c a (lower.newer ++ middle)
    goes = subst (LeadsOn c a) split leads

    done : Joins c a p l middle → l ≤ greatest (λ e. fuo_read_or_raised a p e.by e.verb e.answer) (window ++ base)
    done (inr ahead) =
        let covers = ahead_covers c a p l middle ahead in
        let more = greatest_along (λ e. fuo_read_or_raised a p e.by e.verb e.answer) lower.newer middle in
        let same = ap (greatest (λ e. fuo_read_or_raised a p e.by e.verb e.answer)) split in
        omega (arith, covers, more, same)
    done (inl member) =
        let grows = known_grows c a lower.rest base in
        let half = at_least_halves lower.newer middle in
        let sum = ap length lower.is ∙ length-append lower.newer lower.rest in
        let count = lower.count in
        let there = member_in_time c a p l lower.newer middle good goes granted.inside (stays_newer a lower.newer lower.rest (subst (λ z. stays a z ≡ true) lower.is granted.same)) member (omega (arith, grows, knows)) (omega (arith, half, sum, count, long)) in
        let same = ap (greatest (λ e. fuo_read_or_raised a p e.by e.verb e.answer)) split in
        omega (arith, there, same)
