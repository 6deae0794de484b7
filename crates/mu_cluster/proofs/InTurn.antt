-- In a replay whose script has no pause what is read of asks is settled, and who has read a minimum asks no more.
use Rattle.std.proofs.Common.{◌≡◌, ◌∙◌, ℕ, ◌+◌, ◌<◌, ◌≤◌, ◌==◌, ◌&&◌, inl, inr, Bool, true, false, cond, None, Some, List, [], ◌∷◌, ◌++◌, ap, append_assoc, arith, eqb-true, length, refl, subst, sym}
use Rattle.std.specs.Prelude.{nat_lt, not, slice_index}
use Rattle.std.proofs.lemmas.Bool.{and_parts, cases_eq, cases_lt, eq-eqb, ltb-true, true≢false}
use Rattle.std.proofs.lemmas.List.{length-append}
use Rattle.mu_model.specs.declared.config.Config.{Config}
use Rattle.mu_model.specs.declared.event.Answer.{Answer}
use Rattle.mu_model.specs.declared.event.Event.{Event}
use Rattle.mu_model.specs.declared.event.Verb.{Verb}
use Rattle.mu_model.specs.Answers.{answer_of}
use Rattle.mu_model.specs.Histories.{has, history, newer_or, newest, or_zero, part}
use Rattle.mu_model.specs.Leaderships.{begins_leadership, has_begun}
use Rattle.mu_model.specs.Legal.{IsLegalHistory}
use Rattle.mu_model.specs.Regions.{asks, is_ask_by}
use Rattle.mu_model.specs.Serving.{ask_read, seen_asks}
use Rattle.mu_model.specs.Steps.{is_asking, is_asking_verb}
use Rattle.mu_model.proofs.Basics.{same_number}
use Rattle.mu_model.proofs.Parts.{filter-append}
use Rattle.mu_alive.proofs.Cutting.{met}
use Rattle.mu_agree.specs.Moments.{AtEachStep}
use Rattle.mu_pace.proofs.Counting.{steps_before}
use Rattle.mu_cluster.specs.Rounds.{part_of}
use Rattle.mu_cluster.proofs.InStep.{StaysAhead, in_step}
use Rattle.mu_cluster.proofs.Naming.{AreUnpaused, none_here}
use Rattle.mu_cluster.proofs.Turning.{asks_late}

-- the first ask of a leadership
pub begins_ask : (r by : ℕ) (verb : Verb) (answer : Answer) → begins_leadership r (record { by = by; verb = verb; answer = answer }) ≡ true → (by ≡ r) × (is_asking_verb 0 verb ≡ true)
begins_ask r by (Verb.Ask q) answer is = let parts = and_parts (by == r) (q == 0) is in (eqb-true by r parts.0, parts.1)
begins_ask r by verb answer is = absurd (true≢false (sym is))

-- if w makes no event its asks stay
pub quiet_asks : (w p : ℕ) (newer older : List Event) → length (part w newer) ≡ 0 → asks w p (newer ++ older) ≡ asks w p older
quiet_asks w p [] older none = refl
quiet_asks w p (e ∷ newer) older none = go (e.by == w) refl none (quiet_asks w p newer older)
  where
    other : (by : ℕ) (verb : Verb) → (by == w) ≡ false → is_ask_by w p by verb ≡ false
    other by (Verb.Ask q) h = rw h refl
    other by verb h = refl

    go : (t : Bool) → (e.by == w) ≡ t → length (cond t (e ∷ part w newer) (part w newer)) ≡ 0 → (length (part w newer) ≡ 0 → asks w p (newer ++ older) ≡ asks w p older) → cond (is_ask_by w p e.by e.verb) (asks w p (newer ++ older) + 1) (asks w p (newer ++ older)) ≡ asks w p older
    go true is none ih = absurd (omega (arith, none))
    go false is none ih = ap (λ t. cond t (asks w p (newer ++ older) + 1) (asks w p (newer ++ older))) (other e.by e.verb is) ∙ ih none

-- so what was seen of them stays
pub quiet_seen : (c : Config) (w p : ℕ) (newer older : List Event) → IsLegalHistory c (newer ++ older) → length (part w newer) ≡ 0 → seen_asks p w older ≡ asks w p older → seen_asks p w (newer ++ older) ≡ asks w p older
quiet_seen c w p [] older legal none seen = seen
quiet_seen c w p (e ∷ newer) older legal none seen =
    ap (λ o. or_zero (newer_or o (newest (λ f. ask_read p w f.by f.verb f.answer) (newer ++ older)))) (ap (ask_read p w e.by e.verb) legal.1.answer) ∙ read e.by e.verb (quiet_seen c w p newer older legal.0 fewer seen)
  where
    less : (t : Bool) → length (cond t (e ∷ part w newer) (part w newer)) ≡ 0 → length (part w newer) ≡ 0
    less true none = absurd (omega (arith, none))
    less false none = none

    fewer : length (part w newer) ≡ 0
    fewer = less (e.by == w) none

    read : (by : ℕ) (verb : Verb) → seen_asks p w (newer ++ older) ≡ asks w p older → or_zero (newer_or (ask_read p w by verb (answer_of c by (newer ++ older) verb)) (newest (λ f. ask_read p w f.by f.verb f.answer) (newer ++ older))) ≡ asks w p older
    read by (Verb.ReadAsk q) ih = go (by == p) refl (q == w) refl
      where
        go : (t : Bool) → (by == p) ≡ t → (u : Bool) → (q == w) ≡ u → or_zero (newer_or (cond (t && u) (Some (asks q by (newer ++ older))) None) (newest (λ f. ask_read p w f.by f.verb f.answer) (newer ++ older))) ≡ asks w p older
        go true ht true hu = ap (λ x. asks x by (newer ++ older)) (eqb-true q w hu) ∙ ap (λ x. asks w x (newer ++ older)) (eqb-true by p ht) ∙ quiet_asks w p newer older fewer
        go true ht false hu = ih
        go false ht u hu = ih
    read by verb ih = ih

-- a part has no event of one that has made its last
pub none_left : (c : Config) (events newer middle older : List Event) (w : ℕ) → history events ≡ newer ++ (middle ++ older) → length (part w older) ≡ length (part_of w events) → length (part w middle) ≡ 0
none_left c events newer middle older w is last =
    let all = ap (λ l. length (part w l)) is ∙ ap length (filter-append (λ e. e.by == w) newer (middle ++ older)) ∙ length-append (part w newer) (part w (middle ++ older)) in
    let rest = ap length (filter-append (λ e. e.by == w) middle older) ∙ length-append (part w middle) (part w older) in
    omega (arith, last, all, rest)

-- who has asked: an ask of region 0 of it
pub record Asked (r : ℕ) (past : List Event) : Type 0 where
  pub newer : List Event
  pub event : Event
  pub older : List Event
  pub is : past ≡ newer ++ event ∷ older
  pub own : event.by ≡ r
  pub asks : is_asking 0 event ≡ true

pub asked : (r : ℕ) (past : List Event) → has_begun r past ≡ true → Asked r past
asked r past begun = let m = met (begins_leadership r) past begun in let k = begins_ask r m.event.by m.event.verb m.event.answer m.passes in record { newer = m.newer; event = m.event; older = m.older; is = m.is; own = k.0; asks = k.1 }

pub insider : (c : Config) (events : List Event) (lengths : List ℕ) (rounds : ℕ) (newer older : List Event) (e : Event) → AreUnpaused c events lengths rounds → history events ≡ newer ++ e ∷ older → e.by < c.replicas
insider c events lengths rounds newer older e run is = go (nat_lt e.by c.replicas) refl
  where
    go : (t : Bool) → nat_lt e.by c.replicas ≡ t → e.by < c.replicas
    go true low = ltb-true e.by c.replicas low
    go false high = absurd (true≢false (sym (ap not high) ∙ none_here (λ f. not (nat_lt f.by c.replicas)) newer older e (sym (ap (has (λ f. not (nat_lt f.by c.replicas))) is) ∙ run.whole)))

-- a step of p after the first ask of r: p has taken as many steps then
pub steps_then : (c : Config) (events : List Event) (lengths : List ℕ) (rounds p r : ℕ) (front newer older : List Event) (e a : Event) → AreUnpaused c events lengths rounds → history events ≡ front ++ e ∷ (newer ++ a ∷ older) → e.by ≡ p → a.by ≡ r → p < c.replicas → length (part r older) ≤ length (part p (newer ++ a ∷ older))
steps_then c events lengths rounds p r front newer older e a run is own by low = elim (cases_eq p r) [
  | inl same ↦ subst (λ i. length (part i older) ≤ length (part p (newer ++ a ∷ older))) same (longer p)
  | inr other ↦
      let count = run.count in
      let step = in_step lengths rounds p r events other (omega (arith, low, count)) run.order in
      let whole : history events ≡ (front ++ e ∷ newer) ++ (a ∷ older) = is ∙ sym (append_assoc front (e ∷ newer) (a ∷ older)) in
      let each : AtEachStep (StaysAhead step.lead p (slice_index lengths p) r) (a ∷ older) = steps_before (StaysAhead step.lead p (slice_index lengths p) r) (front ++ e ∷ newer) (a ∷ older) (subst (AtEachStep (StaysAhead step.lead p (slice_index lengths p) r)) whole step.each) in
      let here = each.1 by in
      let most = run.taken p low in
      let fewer = fewer_then p own in
      let more = longer p in
      elim (cases_lt (slice_index lengths p) (length (part r older) + step.lead)) [
        | inl over ↦ (let all = here.1 (omega (arith, over)) in absurd (omega (arith, all, most, fewer, more)))
        | inr under ↦ (let all = here.0 under in omega (arith, all, more))
      ]
]
  where
    longer : (i : ℕ) → length (part i older) ≤ length (part i (newer ++ a ∷ older))
    longer i =
        let split = ap length (filter-append (λ e. e.by == i) newer (a ∷ older)) ∙ length-append (part i newer) (part i (a ∷ older)) in
        let one = more (a.by == i) in
        omega (arith, split, one)
      where
        more : (t : Bool) → length (part i older) ≤ length (cond t (a ∷ part i older) (part i older))
        more true = omega arith
        more false = omega arith

    fewer_then : (i : ℕ) → e.by ≡ i → length (part i (newer ++ a ∷ older)) < length (part_of i events)
    fewer_then i own =
        let all = ap (λ l. length (part i l)) is ∙ ap length (filter-append (λ e. e.by == i) front (e ∷ (newer ++ a ∷ older))) ∙ length-append (part i front) (part i (e ∷ (newer ++ a ∷ older))) in
        let one = ap (λ t. length (cond t (e ∷ part i (newer ++ a ∷ older)) (part i (newer ++ a ∷ older)))) (eq-eqb e.by i own) in
        omega (arith, all, one)

-- nobody below one that has asked makes an event
pub none_below : (c : Config) (events : List Event) (lengths : List ℕ) (rounds : ℕ) (front past : List Event) (e : Event) (r : ℕ) → AreUnpaused c events lengths rounds → history events ≡ front ++ e ∷ past → e.by < r → has_begun r past ≡ false
none_below c events lengths rounds front past e r run is below = go (has_begun r past) refl
  where
    late : Asked r past → ⊥
    late a =
        let whole : history events ≡ (front ++ e ∷ a.newer) ++ a.event ∷ a.older = is ∙ ap (λ l. front ++ e ∷ l) a.is ∙ sym (append_assoc front (e ∷ a.newer) (a.event ∷ a.older)) in
        let inside = subst (λ i. i < c.replicas) a.own (insider c events lengths rounds (front ++ e ∷ a.newer) a.older a.event run whole) in
        let far = asks_late c events lengths rounds e.by r 0 (front ++ e ∷ a.newer) a.older a.event run whole a.own a.asks below inside in
        let steps = steps_then c events lengths rounds e.by r front a.newer a.older e a.event run (is ∙ ap (λ l. front ++ e ∷ l) a.is) refl a.own (insider c events lengths rounds front past e run is) in
        let all = ap (λ l. length (part e.by l)) is ∙ ap length (filter-append (λ f. f.by == e.by) front (e ∷ past)) ∙ length-append (part e.by front) (part e.by (e ∷ past)) in
        let one = ap (λ t. length (cond t (e ∷ part e.by past) (part e.by past))) (same_number e.by) in
        let same = ap (λ l. length (part e.by l)) a.is in
        omega (arith, far, steps, all, one, same)

    go : (t : Bool) → has_begun r past ≡ t → t ≡ false
    go true begun = absurd (late (asked r past begun))
    go false none = refl
