-- Each entry that a leader knows all others catch up with, so it commits the next, until it has committed all.
use Rattle.std.proofs.Common.{◌≡◌, ◌≢◌, ◌⊎◌, ℕ, zero, suc, ◌+◌, ◌*◌, ◌<◌, ◌≤◌, ◌==◌, inl, inr, Bool, List, ◌++◌, length, ◌∙◌, ap, arith, subst, append_assoc}
use Rattle.std.proofs.lemmas.Bool.{cases_eq, cases_lt}
use Rattle.mu_model.specs.declared.config.Config.{Config}
use Rattle.mu_model.specs.declared.event.Event.{Event}
use Rattle.mu_model.specs.Bounds.{cycle}
use Rattle.mu_model.specs.Contents.{row_count}
use Rattle.mu_model.specs.Histories.{greatest, part}
use Rattle.mu_model.specs.Knowledge.{applied, greatest_fuo_read, known}
use Rattle.mu_model.specs.Placing.{fuo_read_or_raised}
use Rattle.mu_model.specs.Regions.{region_head}
use Rattle.mu_model.specs.Room.{reserve}
use Rattle.mu_model.proofs.Parts.{filter-append}
use Rattle.mu_agree.proofs.Prefixes.{greatest_along}
use Rattle.mu_pace.specs.Watches.{limit}
use Rattle.mu_alive.specs.Bringing.{most_paid}
use Rattle.mu_alive.specs.Lagging.{commit_steps, gain_steps}
use Rattle.mu_alive.proofs.Fetching.{applied_grows}
use Rattle.mu_alive.proofs.Spreading.{in_region}
use Rattle.mu_alive.proofs.Following.{own_fuo, read_is_less}
use Rattle.mu_alive.proofs.Gaining.{caught_up_gains, gain}
use Rattle.mu_alive.proofs.KnowsMost.{knows_most}
use Rattle.mu_alive.proofs.Opening.{Committed, Open, commits_next}
use Rattle.mu_alive.proofs.Rising.{Decided, Lacking, Later, Ready, applies_own, decided_on, few_gained, few_known, fuos_read, fuos_rise, gains_one, heads_rise, lacking_before, lacking_on, later, ready_on, reserve_fits, lone_of}

-- all of the first numbers reach it, or one doesn't
pub all_or_one : (n k : ℕ) (f : ℕ → ℕ) → ((r : ℕ) → r < n → k ≤ f r) ⊎ ((r : ℕ) × ((r < n) × (f r < k)))
all_or_one zero k f = inl (λ r low. absurd (omega (arith, low)))
all_or_one (suc n) k f = elim (cases_lt (f n) k) [
  | inl less ↦ inr (n, (omega arith, less))
  | inr more ↦ elim (all_or_one n k f) [
    | inl all ↦ inl (λ r low. elim (cases_eq r n) [ inl same ↦ (let e = ap f same in omega (arith, e, more)) | inr other ↦ all r (omega (arith, low, other)) ])
    | inr one ↦ inr (one.0, (let l = one.1.0 in omega (arith, l), one.1.1))
  ]
]

-- if the leader goes on with fewer entries to commit
abbrev Next : Config → (ℕ → Bool) → ℕ → ℕ → List Event → List Event → Type 0
Next c live a left base whole =
    (gains m x rest : ℕ) (newer older : List Event) → whole ≡ newer ++ older → Ready c a m older → Open c a x base (part a older) → row_count c + reserve c ≤ length (known c a (part a older)) + left → (c.width + 1) * (row_count c + reserve c) ≤ m + gains → most_paid c ≤ x + rest
    → left * commit_steps c + gains * gain_steps c + 2 * rest ≤ length (part a newer) → ⊥

-- a moment at which all know k to be decided, and how many steps come after it
record Catching (c : Config) (live : ℕ → Bool) (a left gains m x rest k : ℕ) (base whole newer older : List Event) : Type 0 where
  lacking : Lacking c live a whole
  is : whole ≡ newer ++ older
  ready : Ready c a m older
  open_yet : Open c a x base (part a older)
  decided : Decided c live a k older
  exact : length (known c a (part a older)) ≡ k
  entries : row_count c + reserve c ≤ k + suc left
  rows : (c.width + 1) * (row_count c + reserve c) ≤ m + gains
  pays : most_paid c ≤ x + rest
  long : left * commit_steps c + gains * gain_steps c + 2 * rest + (cycle c + 2 + 2 * limit c c.replicas) ≤ length (part a newer)
  next : Next c live a left base whole

-- if all have caught up, their heads rise, and the next entry is committed
caught_up : (c : Config) (live : ℕ → Bool) (a left gains m x rest k : ℕ) (base whole newer older : List Event) → Catching c live a left gains m x rest k base whole newer older → ((r : ℕ) → r < c.replicas → k ≤ length (applied c r (part r older))) → ⊥
caught_up c live a left gains m x rest k base whole newer older s had = committed (commits_next c live a k x rest base at.upper moment at.there.good (reserve_fits c at.there.good) at.lacking.last at.lacking.lacks at.open_yet heads at.knows s.pays (let n = at.above in let l = s.long in omega (arith, n, l)))
  where
    at : Later c live a (cycle c + 2) x k base whole newer older
    at = later c live a (cycle c + 2) x k base whole newer older s.lacking s.is s.open_yet (let e = s.exact in omega (arith, e)) (let l = s.long in omega (arith, l))

    moment : List Event
    moment = at.lower ++ older

    heads : (r : ℕ) → r < c.replicas → k ≤ region_head r moment
    heads = heads_rise c live a k at.lower older at.there (λ r low. s.decided.own r low (s.lacking.all r low)) had (let taken = at.taken in omega (arith, taken))

    committed : Committed c a k rest base at.upper moment → ⊥
    committed d =
        s.next gains m d.spent d.rest d.upper (d.lower ++ moment) whole_is (ready_on c live a m d.lower moment up at.open_yet.read (ready_on c live a m at.lower older at.there s.open_yet.read s.ready)) d.open_yet (let more = d.more in let all = s.entries in omega (arith, all, more)) s.rows d.all
        (let few = d.long in let n = at.above in let l = s.long in omega (arith, few, n, l))
      where
        whole_is : whole ≡ d.upper ++ (d.lower ++ moment)
        whole_is = at.is ∙ ap (λ z. z ++ moment) d.is ∙ append_assoc d.upper d.lower moment

        up : Lacking c live a (d.lower ++ moment)
        up = lacking_before c live a d.upper (d.lower ++ moment) (subst (Lacking c live a) whole_is s.lacking)

-- if one hasn't, it gains in two rounds, and so it has gained no more than those that have
behind : (c : Config) (live : ℕ → Bool) (a left gains m x rest k q : ℕ) (base whole newer older : List Event) → Catching c live a left (suc gains) m x rest k base whole newer older → q < c.replicas → length (applied c q (part q older)) < k
    → ((upper moment : List Event) → Catching c live a left gains (m + 1) x rest k base whole upper moment → ⊥) → ⊥
behind c live a left gains m x rest k q base whole newer older s low lags again = elim (cases_lt k (length (known c a (part a moment)))) [
  | inl more ↦ s.next (suc gains) m x rest at.upper moment at.is on at.open_yet (let all = s.entries in omega (arith, all, more)) s.rows s.pays (let n = at.above in let w = wide in let l = s.long in omega (arith, n, w, l))
  | inr none ↦
      let still : length (known c a (part a moment)) ≡ k = (let high = at.knows in omega (arith, none, high)) in
      again at.upper moment
      (record {
        lacking = s.lacking;
        is = at.is;
        ready = record { members = on.members; raised = on.raised; gained = λ r inside. gained still r inside };
        open_yet = at.open_yet;
        decided = decided_on c live a k at.lower older s.decided;
        exact = still;
        entries = s.entries;
        rows = (let all = s.rows in omega (arith, all));
        pays = s.pays;
        long = (let n = at.above in let l = s.long in omega (arith, n, next_gain, l));
        next = s.next;
      })
]
  where
    here : Lacking c live a older
    here = lacking_before c live a newer older (subst (Lacking c live a) s.is s.lacking)

    next_gain : suc gains * gain_steps c ≡ gains * gain_steps c + gain_steps c
    next_gain = omega arith

    -- two rounds take no longer than what comes after
    wide : gain_steps c ≤ cycle c + 2 + 2 * limit c c.replicas
    wide = let n = here.good.replicas.0 in let w = here.good.widths.0 in omega (arith, n, w)

    at : Later c live a (gain_steps c) x k base whole newer older
    at = later c live a (gain_steps c) x k base whole newer older s.lacking s.is s.open_yet (let e = s.exact in omega (arith, e)) (let w = wide in let l = s.long in omega (arith, w, l))

    moment : List Event
    moment = at.lower ++ older

    on : Ready c a m moment
    on = ready_on c live a m at.lower older at.there s.open_yet.read s.ready

    one : (r : ℕ) → r < c.replicas → length (applied c r (part r older)) < k → m + 1 ≤ gain c r (part r moment)
    one r inside less = elim (cases_eq r a) [
      | inl same ↦ absurd (let own = applies_own c live a older here in let e = ap (λ i. length (applied c i (part i older))) same in let exact = s.exact in omega (arith, own, e, less, exact))
      | inr other ↦ (let more = gains_one c live a r k at.lower older (lacking_on c live a (at.lower ++ older) at.there) inside (at.there.all r inside) other (s.decided.read r inside (at.there.all r inside) other) less (let taken = at.taken in omega (arith, taken)) in let old = s.ready.gained r inside in omega (arith, more, old))
    ]

    gained : length (known c a (part a moment)) ≡ k → (r : ℕ) → r < c.replicas → m + 1 ≤ gain c r (part r moment)
    gained still r inside = elim (cases_lt (length (applied c r (part r older))) k) [
      | inl less ↦ one r inside less
      | inr had ↦
          let first = one q low lags in
          let most = (knows_most c a moment at.there.last.legal (lone_of c live a moment at.there)).others q in
          let more = applied_grows c r (part r at.lower) (part r older) in
          let same = ap (λ z. length (applied c r z)) (filter-append (λ e. e.by == r) at.lower older) in
          let as_much = caught_up_gains c q r moment at.there.last.legal (omega (arith, most, still, had, more, same)) in
          omega (arith, first, as_much)
    ]

-- so all catch up
catch : (c : Config) (live : ℕ → Bool) (a left gains m x rest k : ℕ) (base whole newer older : List Event) → Catching c live a left gains m x rest k base whole newer older → ⊥
catch c live a left zero m x rest k base whole newer older s = elim (all_or_one c.replicas k (λ r. length (applied c r (part r older)))) [
  | inl had ↦ caught_up c live a left 0 m x rest k base whole newer older s had
  | inr one ↦ absurd (let few = few_gained c live a m older (lacking_before c live a newer older (subst (Lacking c live a) s.is s.lacking)) s.ready in let all = s.rows in omega (arith, few, all))
]
catch c live a left (suc gains) m x rest k base whole newer older s = elim (all_or_one c.replicas k (λ r. length (applied c r (part r older)))) [
  | inl had ↦ caught_up c live a left (suc gains) m x rest k base whole newer older s had
  | inr one ↦ behind c live a left gains m x rest k one.0 base whole newer older s one.1.0 one.1.1 (λ upper moment later. catch c live a left gains (m + 1) x rest k base whole upper moment later)
]

-- after a commit the FUOs are raised and read
rises : (c : Config) (live : ℕ → Bool) (a left gains m x rest : ℕ) (base whole newer older : List Event) → Lacking c live a whole → whole ≡ newer ++ older → Ready c a m older → Open c a x base (part a older) → row_count c + reserve c ≤ length (known c a (part a older)) + suc left → (c.width + 1) * (row_count c + reserve c) ≤ m + gains → most_paid c ≤ x + rest
    → suc left * commit_steps c + gains * gain_steps c + 2 * rest ≤ length (part a newer) → Next c live a left base whole → ⊥
rises c live a left gains m x rest base whole newer older lacking is ready o entries rows pays long next = elim (cases_lt k (length (known c a (part a moment)))) [
  | inl more ↦ next gains m x rest second.upper moment second.is on second.open_yet (omega (arith, entries, more)) rows pays (let n = first.above in let p = second.above in omega (arith, n, p, next_commit, long))
  | inr none ↦ catch c live a left gains m x rest k base whole second.upper moment
      (record {
        lacking = lacking;
        is = second.is;
        ready = on;
        open_yet = second.open_yet;
        decided = decided;
        exact = (let high = second.knows in omega (arith, none, high));
        entries = entries;
        rows = rows;
        pays = pays;
        long = (let n = first.above in let p = second.above in omega (arith, n, p, next_commit, long));
        next = next;
      })
]
  where
    k : ℕ
    k = length (known c a (part a older))

    next_commit : suc left * commit_steps c ≡ left * commit_steps c + commit_steps c
    next_commit = omega arith

    first : Later c live a (2 * c.replicas) x k base whole newer older
    first = later c live a (2 * c.replicas) x k base whole newer older lacking is o (omega arith) (omega (arith, next_commit, long))

    risen : List Event
    risen = first.lower ++ older

    second : Later c live a (gain_steps c) x k base whole first.upper risen
    second = later c live a (gain_steps c) x k base whole first.upper risen lacking first.is first.open_yet first.knows (let n = first.above in omega (arith, n, next_commit, long))

    moment : List Event
    moment = second.lower ++ risen

    on_risen : Ready c a m risen
    on_risen = ready_on c live a m first.lower older first.there o.read ready

    on : Ready c a m moment
    on = ready_on c live a m second.lower risen second.there first.open_yet.read on_risen

    raised : (p : ℕ) → p < c.replicas → k ≤ greatest (λ e. fuo_read_or_raised a p e.by e.verb e.answer) (part a risen)
    raised = fuos_rise c live a m first.lower older first.there o.read ready first.taken

    read : (r : ℕ) → r < c.replicas → r ≢ a → k ≤ greatest_fuo_read r r (part r moment)
    read = fuos_read c live a k second.lower risen second.there (λ p low. in_region c a p k risen first.there.last.legal (raised p low)) (let taken = second.taken in omega (arith, taken))

    own : (r : ℕ) → r < c.replicas → k ≤ own_fuo r (part r moment)
    own r low = elim (cases_eq r a) [
      | inl same ↦
          let high = raised a first.there.last.inside in
          let up = greatest_along (λ f. fuo_read_or_raised a a f.by f.verb f.answer) (part a second.lower) (part a risen) in
          let mine = ap (own_fuo a) (filter-append (λ e. e.by == a) second.lower risen) in
          let e = ap (λ i. own_fuo i (part i moment)) same in
          omega (arith, high, up, mine, e)
      | inr other ↦ (let seen = read r low other in let less = read_is_less r (part r moment) in omega (arith, seen, less))
    ]

    decided : Decided c live a k moment
    decided = record { own = λ r low _. own r low; read = λ r low _ other. read r low other }

-- so the steps don't suffice for what is left
pub commits_all : (c : Config) (live : ℕ → Bool) (a left gains m x rest : ℕ) (base whole newer older : List Event) → Lacking c live a whole → whole ≡ newer ++ older → Ready c a m older → Open c a x base (part a older) → row_count c + reserve c ≤ length (known c a (part a older)) + left → (c.width + 1) * (row_count c + reserve c) ≤ m + gains → most_paid c ≤ x + rest
    → left * commit_steps c + gains * gain_steps c + 2 * rest ≤ length (part a newer) → ⊥
commits_all c live a zero gains m x rest base whole newer older lacking is ready o entries rows pays long = let few = few_known c live a older (lacking_before c live a newer older (subst (Lacking c live a) is lacking)) in omega (arith, few, entries)
commits_all c live a (suc left) gains m x rest base whole newer older lacking is ready o entries rows pays long = rises c live a left gains m x rest base whole newer older lacking is ready o entries rows pays long (λ g n y z upper lower split then_ready then_open more fewer paid enough. commits_all c live a left g n y z base whole upper lower lacking split then_ready then_open more fewer paid enough)
