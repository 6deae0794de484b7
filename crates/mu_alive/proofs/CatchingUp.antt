-- Those that go on catch up with what their leader knows, and then it knows an entry more.
use Rattle.std.proofs.Common.{◌≡◌, ℕ, zero, suc, ◌+◌, ◌*◌, ◌<◌, ◌≤◌, ◌==◌, inl, inr, Bool, true, false, cond, List, ◌∷◌, ◌++◌, length, refl, sym, ◌∙◌, ap, arith, subst, append_assoc}
use Rattle.std.proofs.lemmas.Bool.{cases_lt}
use Rattle.std.proofs.lemmas.List.{length-append}
use Rattle.mu_model.specs.declared.config.Config.{Config}
use Rattle.mu_model.specs.declared.event.Event.{Event}
use Rattle.mu_model.specs.Bounds.{cycle}
use Rattle.mu_model.specs.Contents.{row_count}
use Rattle.mu_model.specs.Histories.{part}
use Rattle.mu_model.specs.Knowledge.{applied, known}
use Rattle.mu_model.specs.Legal.{IsLegalHistory}
use Rattle.mu_model.specs.Regions.{head_raised, region_head}
use Rattle.mu_model.specs.Room.{reserve}
use Rattle.mu_model.specs.Steps.{knows_all}
use Rattle.mu_model.proofs.Parts.{filter-append, part_is_possible}
use Rattle.mu_agree.proofs.Legal.{legal_older}
use Rattle.mu_agree.proofs.Prefixes.{greatest_along}
use Rattle.mu_pace.specs.Blocking.{is_blocking}
use Rattle.mu_pace.specs.Counters.{IsInTime}
use Rattle.mu_agree.specs.Moments.{AtEachMoment, AtEachStep}
use Rattle.mu_pace.specs.Watches.{advancing, limit}
use Rattle.mu_pace.proofs.Counting.{moments_before}
use Rattle.mu_alive.specs.Bringing.{most_paid}
use Rattle.mu_alive.specs.Lagging.{gain_steps}
use Rattle.mu_alive.specs.Stopping.{HoldsFailed, entry_steps}
use Rattle.mu_alive.proofs.Catching.{all_or_one}
use Rattle.mu_alive.proofs.Cutting.{Located, located}
use Rattle.mu_alive.proofs.Ending.{HasEach, ends}
use Rattle.mu_alive.proofs.Enough.{IsFine, Leads}
use Rattle.mu_alive.proofs.Fetching.{applied_grows}
use Rattle.mu_alive.proofs.Gaining.{gain_few}
use Rattle.mu_alive.proofs.GainingUpTo.{applied_up_to, gain_up_to, up_to_gain, up_to_grows}
use Rattle.mu_alive.proofs.Joining.{Began, HasJoined, began_on, joined_then}
use Rattle.mu_alive.proofs.Reaching.{NoneBlocks, advances}
use Rattle.mu_alive.proofs.Rising.{Decided, decided_on, raise_in_time}
use Rattle.mu_alive.proofs.Stopped.{Waits, fine_of, go_on, leads_of, none_blocks, opening_steps, waits_before}
use Rattle.mu_alive.proofs.Stands.{Stands, Ticked, lags_gains, ticked}
use Rattle.mu_alive.proofs.Ticking.{closes_by}
use Rattle.mu_alive.proofs.Waiting.{Closed}
use Rattle.mu_pace.proofs.Cycles.{advancing_moments}

-- each that goes on has gained m or more of the first k entries
abbrev pub HaveGained : Config → (ℕ → Bool) → ℕ → ℕ → List Event → Type 0
HaveGained c live k m past = (r : ℕ) → r < c.replicas → live r ≡ true → m ≤ gain_up_to c k r (part r past)

pub gained_on : (c : Config) (live : ℕ → Bool) (k l m : ℕ) (newer older : List Event) → k ≤ l → HaveGained c live k m older → HaveGained c live l m (newer ++ older)
gained_on c live k l m newer older less had r low lives = let more = up_to_grows c k l r (part r newer) (part r older) less in let same = ap (gain_up_to c l r) (filter-append (λ e. e.by == r) newer older) in let few = had r low lives in omega (arith, more, same, few)

-- a round begins when k entries are known, and the regions of those that go on are members, or their
-- FUOs have come to k; so much is left to be committed and gained
pub record Round (c : Config) (live : ℕ → Bool) (a start k left m gains at : ℕ) (n base newer older : List Event) : Type 0 where
  pub waits : Waits c live a start (newer ++ older)
  pub stands : Stands c live a at n base older
  pub late : start + opening_steps c a ≤ length (part a older)
  pub joined : (p : ℕ) → p < c.replicas → live p ≡ true → HasJoined c a p k (n ++ base)
  pub knew : k ≤ length (known c a (part a older))
  pub entries : row_count c + reserve c ≤ k + left
  pub gained : HaveGained c live k m older
  pub rows : (c.width + 1) * (row_count c + reserve c) + 1 ≤ m + gains
  pub room : at + (left * entry_steps c + gains * gain_steps c) + 4 * most_paid c ≤ length (part a newer ++ n)

-- what comes after a round
abbrev pub Next : Config → (ℕ → Bool) → ℕ → ℕ → ℕ → ℕ → List Event → Type 0
Next c live a start k left base = (m gains at : ℕ) (n newer older : List Event) → Round c live a start k left m gains at n base newer older → HasEach c a (newer ++ older)

-- a moment in the round at which all know k to be decided
pub record Catching (c : Config) (live : ℕ → Bool) (a start k left m gains at first : ℕ) (n base newer older : List Event) : Type 0 where
  pub waits : Waits c live a start (newer ++ older)
  pub stands : Stands c live a at n base older
  pub began : Began c a start k first n base older
  pub far : first + 2 * limit c c.replicas + gain_steps c ≤ at
  pub decided : Decided c live a k older
  pub knew : k ≤ length (known c a (part a older))
  pub late : start + opening_steps c a ≤ length (part a older)
  pub entries : row_count c + reserve c ≤ k + suc left
  pub gained : HaveGained c live k m older
  pub rows : (c.width + 1) * (row_count c + reserve c) + 1 ≤ m + gains
  pub room : at + (left * entry_steps c + gains * gain_steps c + (cycle c + 2 + 2 * limit c c.replicas)) + 4 * most_paid c ≤ length (part a newer ++ n)
  pub next : Next c live a start (k + 1) left base

-- once all heads have come to k, the leader commits in time
record Raised (c : Config) (live : ℕ → Bool) (a start k left m gains at first : ℕ) (n base newer older : List Event) : Type 0 where
  waits : Waits c live a start (newer ++ older)
  stands : Stands c live a at n base older
  began : Began c a start k first n base older
  far : first + 2 * limit c c.replicas + 8 ≤ at
  heads : (r : ℕ) → r < c.replicas → live r ≡ true → k ≤ region_head r older
  knew : k ≤ length (known c a (part a older))
  late : start + opening_steps c a ≤ length (part a older)
  entries : row_count c + reserve c ≤ k + suc left
  gained : HaveGained c live k m older
  rows : (c.width + 1) * (row_count c + reserve c) + 1 ≤ m + gains
  room : at + (2 * limit c c.replicas + (left * entry_steps c + gains * gain_steps c)) + 4 * most_paid c ≤ length (part a newer ++ n)
  next : Next c live a start (k + 1) left base

commits : (c : Config) (live : ℕ → Bool) (a start k left m gains at first : ℕ) (n base newer older : List Event) → Raised c live a start k left m gains at first n base newer older → HasEach c a (newer ++ older)
commits c live a start k left m gains at first n base newer older s = go (knows_all c a (part a moment)) refl
  where
    rest : ℕ
    rest = left * entry_steps c + gains * gain_steps c

    t : Ticked c live a start at (2 * limit c c.replicas) n base newer older
    t = ticked c live a start at (2 * limit c c.replicas) n base newer older s.waits s.stands (let r = s.room in omega (arith, r))

    v : List Event
    v = part a t.lower

    moment : List Event
    moment = t.lower ++ older

    mine : part a moment ≡ v ++ (n ++ base)
    mine = t.then.parts ∙ append_assoc v n base

    free : NoneBlocks c a k v (n ++ base)
    free above below e is exact = at_event (located a t.lower above below e is)
      where
        at_event : Located a t.lower e below → is_blocking c a (below ++ (n ++ base)) e ≡ false
        at_event l =
            subst (λ z. is_blocking c a z e ≡ false) own
            (none_blocks c live a start k past e s.waits.good s.waits.two (legal_older c l.newer (e ∷ past) (subst (IsLegalHistory c) history t.then.there.last.legal)) (subst (λ z. HoldsFailed c live a start (e ∷ z)) (sym own) failed.1)
            (let late = s.late in let sum = ap length (filter-append (λ f. f.by == a) l.older older) ∙ length-append (part a l.older) (part a older) in omega (arith, late, sum)) (ap (λ z. length (known c a z)) own ∙ exact)
            (λ r low lives. let up = greatest_along (λ f. head_raised r f.by f.verb) l.older older in let high = s.heads r low lives in omega (arith, up, high)))
          where
            past : List Event
            past = l.older ++ older

            own : part a past ≡ below ++ (n ++ base)
            own = filter-append (λ f. f.by == a) l.older older ∙ ap (λ z. z ++ part a older) l.before ∙ ap (λ z. below ++ z) s.stands.is

            history : moment ≡ l.newer ++ e ∷ past
            history = ap (λ z. z ++ older) l.is ∙ append_assoc l.newer (e ∷ l.older) older

            failed : AtEachMoment (HoldsFailed c live a start) (e ∷ (below ++ (n ++ base)))
            failed = moments_before (HoldsFailed c live a start) above (e ∷ (below ++ (n ++ base))) (subst (AtEachMoment (HoldsFailed c live a start)) (mine ∙ ap (λ z. z ++ (n ++ base)) is ∙ append_assoc above (e ∷ below) (n ++ base)) t.then.there.free.failed)

    closed : Closed (advancing c a) v (n ++ base)
    closed = closes_by c a (advancing c a) at v n base (λ u o. omega arith) (λ u o. omega arith) (subst (AtEachMoment (IsInTime (advancing c a))) mine (advancing_moments false c a (part a moment) t.then.there.last.led)) s.stands.advancing s.stands.below t.enough

    go : (l : Bool) → knows_all c a (part a moment) ≡ l → HasEach c a (newer ++ older)
    go true knows = ends c live a start k m gains at (2 * limit c c.replicas) rest n base newer older s.waits t s.room (omega arith) (s.gained a s.waits.last.inside s.waits.last.lives) s.rows knows
    go false lacks =
        subst (HasEach c a) (sym t.then.whole)
        (s.next m gains (at + 2 * limit c c.replicas) (v ++ n) t.upper moment
        (record {
          waits = t.then.waits;
          stands = t.then.stands (at + 2 * limit c c.replicas) t.below lacks;
          late = (let l = s.late in let u = t.then.late in omega (arith, l, u));
          joined = λ p low lives. joined_then c live a start k first p (v ++ n) base moment t.then.there (began_on c a start k first n base t.lower older s.began) (let far = s.far in let enough = t.enough in omega (arith, far, enough)) low lives;
          knew = (let more = advances c a k v n base leads fine s.stands.read (let knew = s.knew in let same = ap (λ z. length (known c a z)) s.stands.is in omega (arith, knew, same)) free closed in let same = ap (λ z. length (known c a z)) mine in omega (arith, more, same));
          entries = (let e = s.entries in omega (arith, e));
          gained = gained_on c live k (k + 1) m t.lower older (omega arith) s.gained;
          rows = s.rows;
          room = (let r = s.room in let total = t.then.total in omega (arith, r, total));
        }))
      where
        leads : AtEachStep (Leads c a) ((v ++ n) ++ base)
        leads = subst (AtEachStep (Leads c a)) t.then.parts (leads_of c live a start moment t.then.there)

        fine : AtEachMoment (IsFine c a) ((v ++ n) ++ base)
        fine = subst (AtEachMoment (IsFine c a)) t.then.parts (fine_of c live a start moment t.then.there lacks)

-- if all have caught up, their heads rise, and the next entry is committed
caught_up : (c : Config) (live : ℕ → Bool) (a start k left m gains at first : ℕ) (n base newer older : List Event) → Catching c live a start k left m gains at first n base newer older → ((r : ℕ) → r < c.replicas → live r ≡ true → k ≤ length (applied c r (part r older))) → HasEach c a (newer ++ older)
caught_up c live a start k left m gains at first n base newer older s had = go (knows_all c a (part a moment)) refl
  where
    t : Ticked c live a start at (cycle c + 2) n base newer older
    t = ticked c live a start at (cycle c + 2) n base newer older s.waits s.stands (let r = s.room in omega (arith, r))

    moment : List Event
    moment = t.lower ++ older

    go : (l : Bool) → knows_all c a (part a moment) ≡ l → HasEach c a (newer ++ older)
    go true knows = ends c live a start k m gains at (cycle c + 2) (2 * limit c c.replicas + (left * entry_steps c + gains * gain_steps c)) n base newer older s.waits t (let r = s.room in omega (arith, r)) (omega arith) (s.gained a s.waits.last.inside s.waits.last.lives) s.rows knows
    go false lacks =
        subst (HasEach c a) (sym t.then.whole)
        (commits c live a start k left m gains (at + (cycle c + 2)) first (part a t.lower ++ n) base t.upper moment
        (record {
          waits = t.then.waits;
          stands = t.then.stands (at + (cycle c + 2)) t.below lacks;
          began = began_on c a start k first n base t.lower older s.began;
          far = (let f = s.far in omega (arith, f));
          heads = raise_in_time c live a k t.lower older (go_on c live a start moment t.then.there) s.decided.own had t.long;
          knew = (let knew = s.knew in let more = t.then.knows in omega (arith, knew, more));
          late = (let l = s.late in let u = t.then.late in omega (arith, l, u));
          entries = s.entries;
          gained = gained_on c live k k m t.lower older (omega arith) s.gained;
          rows = s.rows;
          room = (let r = s.room in let total = t.then.total in omega (arith, r, total));
          next = s.next;
        }))

-- if one hasn't, it gains in two rounds, and so it has gained no more than those that have
behind : (c : Config) (live : ℕ → Bool) (a start k left m gains at first q : ℕ) (n base newer older : List Event) → Catching c live a start k left m (suc gains) at first n base newer older → q < c.replicas → live q ≡ true → length (applied c q (part q older)) < k
    → ((now : ℕ) (mine upper moment : List Event) → Catching c live a start k left (m + 1) gains now first mine base upper moment → HasEach c a (upper ++ moment)) → HasEach c a (newer ++ older)
behind c live a start k left m gains at first q n base newer older s low lives lags again = go (knows_all c a (part a moment)) refl
  where
    next_gain : suc gains * gain_steps c ≡ gains * gain_steps c + gain_steps c
    next_gain = omega arith

    -- two rounds take no longer than what comes after
    wide : gain_steps c ≤ cycle c + 2 + 2 * limit c c.replicas
    wide = let n = s.waits.good.replicas.0 in let w = s.waits.good.widths.0 in omega (arith, n, w)

    t : Ticked c live a start at (gain_steps c) n base newer older
    t = ticked c live a start at (gain_steps c) n base newer older s.waits s.stands (let r = s.room in omega (arith, r, next_gain))

    moment : List Event
    moment = t.lower ++ older

    one : (r : ℕ) → r < c.replicas → live r ≡ true → length (applied c r (part r older)) < k → m + 1 ≤ gain_up_to c k r (part r moment)
    one r inside goes less = let more = lags_gains c live a start k r t.lower older t.then.there s.decided s.knew inside goes less t.long in let had = s.gained r inside goes in omega (arith, more, had)

    gained : HaveGained c live k (m + 1) moment
    gained r inside goes = elim (cases_lt (length (applied c r (part r older))) k) [
      | inl less ↦ one r inside goes less
      | inr had ↦
          let first_one = one q low lives lags in
          let more = applied_grows c r (part r t.lower) (part r older) in
          let same = ap (λ z. length (applied c r z)) (filter-append (λ e. e.by == r) t.lower older) in
          let as_much = applied_up_to c k q r moment t.then.there.last.legal (omega (arith, had, more, same)) in
          omega (arith, first_one, as_much)
    ]

    go : (l : Bool) → knows_all c a (part a moment) ≡ l → HasEach c a (newer ++ older)
    go true knows =
        ends c live a start k m (suc gains) at (gain_steps c) (left * entry_steps c + gains * gain_steps c + (cycle c + 2 + 2 * limit c c.replicas)) n base newer older s.waits t (let r = s.room in omega (arith, r, next_gain)) (omega (arith, next_gain, wide)) (s.gained a s.waits.last.inside s.waits.last.lives) s.rows knows
    go false lacks =
        subst (HasEach c a) (sym t.then.whole)
        (again (at + gain_steps c) (part a t.lower ++ n) t.upper moment
        (record {
          waits = t.then.waits;
          stands = t.then.stands (at + gain_steps c) t.below lacks;
          began = began_on c a start k first n base t.lower older s.began;
          far = (let f = s.far in omega (arith, f));
          decided = decided_on c live a k t.lower older s.decided;
          knew = (let knew = s.knew in let more = t.then.knows in omega (arith, knew, more));
          late = (let l = s.late in let u = t.then.late in omega (arith, l, u));
          entries = s.entries;
          gained = gained;
          rows = (let r = s.rows in omega (arith, r));
          room = (let r = s.room in let total = t.then.total in omega (arith, r, total, next_gain));
          next = s.next;
        }))

-- so all catch up
lagging_one : (k l : ℕ) (t : Bool) → cond t l k < k → (t ≡ true) × (l < k)
lagging_one k l true less = (refl, less)
lagging_one k l false less = absurd (omega (arith, less))

pub catch : (c : Config) (live : ℕ → Bool) (a start k left m gains at first : ℕ) (n base newer older : List Event) → Catching c live a start k left m gains at first n base newer older → HasEach c a (newer ++ older)
catch c live a start k left m zero at first n base newer older s = elim (all_or_one c.replicas k (λ r. cond (live r) (length (applied c r (part r older))) k)) [
  | inl had ↦ caught_up c live a start k left m 0 at first n base newer older s (λ r low lives. let all = had r low in let same = ap (λ t. cond t (length (applied c r (part r older))) k) lives in omega (arith, all, same))
  | inr one ↦ absurd
      (let gained = s.gained a s.waits.last.inside s.waits.last.lives in
      let less = up_to_gain c k a (part a older) in
      let most = gain_few c a (part a older) s.waits.good (part_is_possible c a older (waits_before c live a start newer older s.waits).last.legal) in
      let rows = s.rows in
      omega (arith, gained, less, most, rows))
]
catch c live a start k left m (suc gains) at first n base newer older s = elim (all_or_one c.replicas k (λ r. cond (live r) (length (applied c r (part r older))) k)) [
  | inl had ↦ caught_up c live a start k left m (suc gains) at first n base newer older s (λ r low lives. let all = had r low in let same = ap (λ t. cond t (length (applied c r (part r older))) k) lives in omega (arith, all, same))
  | inr one ↦
      let lags = lagging_one k (length (applied c one.0 (part one.0 older))) (live one.0) one.1.1 in
      behind c live a start k left m gains at first one.0 n base newer older s one.1.0 lags.0 lags.1 (λ now mine upper moment later. catch c live a start k left (m + 1) gains now first mine base upper moment later)
]
