-- In a replay whose script has no pause replicas ask in turn.
use Rattle.std.proofs.Common.{◌≡◌, ◌∙◌, ◌≢◌, ◌⊎◌, ℕ, suc, ◌+◌, ◌*◌, ◌<◌, ◌≤◌, ◌==◌, ◌&&◌, inl, inr, Bool, true, false, cond, None, Some, List, [], ◌∷◌, ◌++◌, ap, append_assoc, arith, length, refl, subst, sym}
use Rattle.std.specs.declared.option.Option.{Option}
use Rattle.std.specs.Prelude.{nat_lt, not, slice_index}
use Rattle.std.proofs.Math.Nat.{mul-le-mul_right}
use Rattle.std.proofs.lemmas.Bool.{cases_lt, le-ltb, true≢false}
use Rattle.std.proofs.lemmas.List.{length-append}
use Rattle.mu_agree.proofs.Legal.{legal_older}
use Rattle.mu_model.specs.declared.config.Config.{Config}
use Rattle.mu_model.specs.declared.event.Answer.{Answer}
use Rattle.mu_model.specs.declared.event.Event.{Event}
use Rattle.mu_model.specs.declared.event.Verb.{Verb}
use Rattle.mu_model.specs.Bounds.{cycle}
use Rattle.mu_model.specs.Histories.{has, history, how_many, newest, or_zero, part, since}
use Rattle.mu_model.specs.Legal.{IsLegalHistory}
use Rattle.mu_model.specs.Regions.{asks}
use Rattle.mu_model.specs.Scores.{alive_after, beat_read, least_below, leader, points_after, score, score_after_read}
use Rattle.mu_model.specs.Steps.{is_asking, is_beat_read, is_beat_read_verb}
use Rattle.mu_model.proofs.Parts.{filter-append}
use Rattle.mu_detect.proofs.Leaders.{alive_leads, may_lead}
use Rattle.mu_node.specs.Journal.{WasMade}
use Rattle.mu_node.proofs.Leading.{least_most}
use Rattle.mu_lively.proofs.Naming.{asker_named, reads_apart}
use Rattle.mu_agree.specs.Moments.{AtEachStep}
use Rattle.mu_pace.proofs.Counting.{steps_before}
use Rattle.mu_alive.proofs.Beginning.{CutAt, cut_at}
use Rattle.mu_cluster.specs.Rounds.{part_of}
use Rattle.mu_cluster.proofs.InStep.{StaysAhead, in_step}
use Rattle.mu_cluster.proofs.Naming.{AreUnpaused, part_before, part_step}
use Rattle.mu_cluster.proofs.Trusting.{trusts}
use Rattle.mu_pace.proofs.Pasts.{has_newer}

-- who names itself holds each lower one to be failed
pub names_failed : (c : Config) (r q : ℕ) (mine : List Event) → leader c r mine ≡ r → q < r → r < c.replicas → (score r q mine).1 ≡ false
names_failed c r q mine named below inside = go (score r q mine).1 refl
  where
    go : (t : Bool) → (score r q mine).1 ≡ t → t ≡ false
    go true alive = absurd (let most = least_most c.replicas q (may_lead r mine) (omega (arith, below, inside)) (alive_leads r q mine alive) in let is : least_below c.replicas (may_lead r mine) ≡ r = named in omega (arith, most, is, below))
    go false is = refl

-- a score falls by at most one with each read
score_window : (r q : ℕ) (window older : List Event) → score r q older ≡ (15, true) → how_many (is_beat_read q) window ≤ 8 → ((score r q (window ++ older)).1 ≡ true) × (15 ≤ (score r q (window ++ older)).0 + how_many (is_beat_read q) window) × ((score r q (window ++ older)).0 ≤ 15)
score_window r q [] older full few = (ap (λ s. s.1) full, (let is = ap (λ s. s.0) full in omega (arith, is)), (let is = ap (λ s. s.0) full in omega (arith, is)))
score_window r q (e ∷ window) older full few = go (is_beat_read q e) refl few (λ less. score_window r q window older full less)
  where
    past : List Event
    past = window ++ older

    unread : (by : ℕ) (verb : Verb) (answer : Answer) → is_beat_read_verb q verb ≡ false → beat_read r q by verb answer ≡ None
    unread by (Verb.ReadBeat p) (Answer.Number x) h = off (by == r) (p == q) h
      where
        off : (t u : Bool) → u ≡ false → cond (t && u) (Some x) None ≡ None
        off true u h = rw h refl
        off false u h = refl
    unread by verb answer h = refl

    points : (n : ℕ) (t : Bool) → n ≤ 15 → (n ≤ points_after n t + 1) × (points_after n t ≤ 15)
    points n true most = (omega (arith, most), omega arith)
    points n false most = (omega arith, omega (arith, most))

    keeps : (o : Option ℕ) (s : ℕ × Bool) (last : ℕ) → s.1 ≡ true → 7 ≤ s.0 → s.0 ≤ 15 → ((score_after_read s last o).1 ≡ true) × (s.0 ≤ (score_after_read s last o).0 + 1) × ((score_after_read s last o).0 ≤ 15)
    keeps None s last alive high most = (alive, omega arith, most)
    keeps (Some x) s last alive high most =
        let less = points s.0 (not (x == last)) most in
        let first = less.0 in
        (still (points_after s.0 (not (x == last))) (omega (arith, high, first)), less.0, less.1)
      where
        still : (n : ℕ) → 6 ≤ n → alive_after n s.1 ≡ true
        still n h = rw (le-ltb n 2 (omega (arith, h))) (by_test (nat_lt 6 n))
          where
            by_test : (t : Bool) → cond t true s.1 ≡ true
            by_test true = refl
            by_test false = alive

    go : (t : Bool) → is_beat_read q e ≡ t → cond t (how_many (is_beat_read q) window + 1) (how_many (is_beat_read q) window) ≤ 8
        → (how_many (is_beat_read q) window ≤ 8 → ((score r q past).1 ≡ true) × (15 ≤ (score r q past).0 + how_many (is_beat_read q) window) × ((score r q past).0 ≤ 15))
        → ((score r q (e ∷ past)).1 ≡ true) × (15 ≤ (score r q (e ∷ past)).0 + cond t (how_many (is_beat_read q) window + 1) (how_many (is_beat_read q) window)) × ((score r q (e ∷ past)).0 ≤ 15)
    go true is few ih =
        let was = ih (omega (arith, few)) in
        let high = was.1 in
        let now = keeps (beat_read r q e.by e.verb e.answer) (score r q past) (or_zero (newest (λ f. beat_read r q f.by f.verb f.answer) past)) was.0 (omega (arith, few, high)) was.2 in
        let less = now.1 in
        (now.0, omega (arith, high, less), now.2)
    go false is few ih =
        let was = ih few in
        let same : score r q (e ∷ past) ≡ score r q past = ap (λ o. score_after_read (score r q past) (or_zero (newest (λ f. beat_read r q f.by f.verb f.answer) past)) o) (unread e.by e.verb e.answer is) in
        (ap (λ s. s.1) same ∙ was.0, (let n = ap (λ s. s.0) same in let high = was.1 in omega (arith, n, high)), (let n = ap (λ s. s.0) same in let most = was.2 in omega (arith, n, most)))

-- reads of a count are a round apart, so there are few in a short stretch
since_newer : (test : Event → Bool) (window older : List Event) → has test window ≡ true → since test (window ++ older) ≡ since test window
since_newer test [] older some = absurd (true≢false (sym some))
since_newer test (e ∷ window) older some = go (test e) some (since_newer test window older)
  where
    go : (t : Bool) → cond t true (has test window) ≡ true → (has test window ≡ true → since test (window ++ older) ≡ since test window) → cond t [] (e ∷ since test (window ++ older)) ≡ cond t [] (e ∷ since test window)
    go true some ih = refl
    go false some ih = ap (λ l. e ∷ l) (ih some)

abbrev IsSparse : Config → ℕ → List Event → Type 0
IsSparse c q window = (how_many (is_beat_read q) window ≡ 0) ⊎ ((how_many (is_beat_read q) window * cycle c + length (since (is_beat_read q) window) ≤ length window + cycle c) × (has (is_beat_read q) window ≡ true))

few_reads : (c : Config) (r q : ℕ) (window older : List Event) → r < c.replicas → AtEachStep (WasMade c r) (window ++ older) → IsSparse c q window
few_reads c r q [] older inside made = inl refl
few_reads c r q (e ∷ window) older inside made = go (is_beat_read q e) refl (few_reads c r q window older inside made.0)
  where
    apart : is_beat_read q e ≡ true → has (is_beat_read q) window ≡ true → cycle c ≤ length (since (is_beat_read q) window) + 1
    apart is some = let far = reads_apart c r q (window ++ older) e inside made is (has_newer (is_beat_read q) window older some) in let same = ap length (since_newer (is_beat_read q) window older some) in omega (arith, far, same)

    one_more : (k m : ℕ) → (k + 1) * m ≡ k * m + m
    one_more k m = omega arith

    go : (t : Bool) → is_beat_read q e ≡ t → IsSparse c q window
        → (cond t (how_many (is_beat_read q) window + 1) (how_many (is_beat_read q) window) ≡ 0) ⊎ ((cond t (how_many (is_beat_read q) window + 1) (how_many (is_beat_read q) window) * cycle c + length (cond t [] (e ∷ since (is_beat_read q) window)) ≤ suc (length window) + cycle c) × (cond t true (has (is_beat_read q) window) ≡ true))
    go true is (inl none) = inr ((let one : (how_many (is_beat_read q) window + 1) * cycle c ≡ cycle c = ap (λ n. (n + 1) * cycle c) none ∙ (let unit : (0 + 1) * cycle c ≡ cycle c = omega arith in unit) in omega (arith, one)), refl)
    go true is (inr some) = inr ((let far = apart is some.1 in let had = some.0 in let more = one_more (how_many (is_beat_read q) window) (cycle c) in omega (arith, far, had, more)), refl)
    go false is (inl none) = inl none
    go false is (inr some) = inr ((let had = some.0 in omega (arith, had)), some.1)

-- in fewer than two rounds there are at most three
at_most_three : (k m l s : ℕ) → 0 < m → k * m + s ≤ l + m → l < 2 * m → k ≤ 3
at_most_three k m l s some fits short = elim (cases_lt k 4) [
  | inl low ↦ omega (arith, low)
  | inr high ↦ (let most : 4 * m ≤ k * m = mul-le-mul_right m high in absurd (omega (arith, most, fits, short, some)))
]

-- r trusts q in full while it has taken no more steps than q takes in all
trusts_full : (c : Config) (events : List Event) (lengths : List ℕ) (rounds q r : ℕ) (newer older : List Event) → AreUnpaused c events lengths rounds → history events ≡ newer ++ older → q < c.replicas → r < c.replicas → q ≢ r
    → length (part r older) ≤ length (part_of q events) → score r q (part r older) ≡ (15, true)
trusts_full c events lengths rounds q r newer older run is low inside other few =
    let count = run.count in
    let step = in_step lengths rounds q r events other (omega (arith, low, count)) run.order in
    let most = run.taken q low in
    let each = steps_before (StaysAhead step.lead q (slice_index lengths q) r) newer older (subst (AtEachStep (StaysAhead step.lead q (slice_index lengths q) r)) is step.each) in
    let legal = legal_older c newer older (subst (IsLegalHistory c) is run.legal) in
    (trusts c step.lead q r (slice_index lengths q) older low inside other step.short legal each (made q low) (made r inside) (omega (arith, few, most))).full
  where
    made : (r : ℕ) → r < c.replicas → AtEachStep (WasMade c r) (part r older)
    made r low = part_before (WasMade c r) r newer older (subst (λ l. AtEachStep (WasMade c r) (part r l)) is (run.made r low))

-- so who holds q to be failed has taken steps of two rounds more than q in all
far_failed : (c : Config) (events : List Event) (lengths : List ℕ) (rounds q r : ℕ) (newer older : List Event) → AreUnpaused c events lengths rounds → history events ≡ newer ++ older → q < c.replicas → r < c.replicas → q ≢ r
    → (score r q (part r older)).1 ≡ false → length (part_of q events) + 2 * cycle c ≤ length (part r older)
far_failed c events lengths rounds q r newer older run is low inside other failed = elim (cases_lt (length (part r older)) (length (part_of q events) + 2 * cycle c)) [
  | inl near ↦ absurd (true≢false (sym (alive near) ∙ failed))
  | inr far ↦ far
]
  where
    alive : length (part r older) < length (part_of q events) + 2 * cycle c → (score r q (part r older)).1 ≡ true
    alive near = elim (cases_lt (length (part_of q events)) (length (part r older))) [
      | inr early ↦ ap (λ s. s.1) (trusts_full c events lengths rounds q r newer older run is low inside other early)
      | inl late ↦ window (cut_at r (length (part_of q events)) older (omega (arith, late))) near
    ]
      where
        window : CutAt r (length (part_of q events)) older → length (part r older) < length (part_of q events) + 2 * cycle c → (score r q (part r older)).1 ≡ true
        window at near =
            let split : part r older ≡ part r at.newer ++ part r at.rest = ap (part r) at.is ∙ filter-append (λ e. e.by == r) at.newer at.rest in
            let whole : history events ≡ (newer ++ at.newer) ++ at.rest = is ∙ ap (λ l. newer ++ l) at.is ∙ sym (append_assoc newer at.newer at.rest) in
            let count = at.count in
            let full = trusts_full c events lengths rounds q r (newer ++ at.newer) at.rest run whole low inside other (omega (arith, count)) in
            let made = part_before (WasMade c r) r newer older (subst (λ l. AtEachStep (WasMade c r) (part r l)) is (run.made r inside)) in
            let sparse = few_reads c r q (part r at.newer) (part r at.rest) inside (subst (AtEachStep (WasMade c r)) split made) in
            let long = ap length split ∙ length-append (part r at.newer) (part r at.rest) in
            let few : how_many (is_beat_read q) (part r at.newer) ≤ 8 = elim sparse [
              | inl none ↦ omega (arith, none)
              | inr some ↦ (let three = at_most_three (how_many (is_beat_read q) (part r at.newer)) (cycle c) (length (part r at.newer)) (length (since (is_beat_read q) (part r at.newer))) (omega arith) some.0 (omega (arith, long, count, near)) in omega (arith, three))
            ] in
            ap (λ l. (score r q l).1) split ∙ (score_window r q (part r at.newer) (part r at.rest) full few).0

-- who asks has taken steps of two rounds more than each lower one in all
pub asks_late : (c : Config) (events : List Event) (lengths : List ℕ) (rounds q r p : ℕ) (newer older : List Event) (e : Event) → AreUnpaused c events lengths rounds → history events ≡ newer ++ e ∷ older → e.by ≡ r → is_asking p e ≡ true → q < r → r < c.replicas
    → length (part_of q events) + 2 * cycle c ≤ length (part r older)
asks_late c events lengths rounds q r p newer older e run is own asks below inside =
    let there = subst (λ l. AtEachStep (WasMade c e.by) (part e.by l)) is (subst (λ i. AtEachStep (WasMade c i) (part_of i events)) (sym own) (run.made r inside)) in
    let made = part_step (WasMade c e.by) older e (part_before (WasMade c e.by) e.by newer (e ∷ older) there) in
    let named = asker_named c e.by p (part e.by older) e made asks in
    let named_r : leader c r (part r older) ≡ r = subst (λ i. leader c i (part i older) ≡ i) own named in
    let whole : history events ≡ (newer ++ e ∷ []) ++ older = is ∙ sym (append_assoc newer (e ∷ []) older) in
    far_failed c events lengths rounds q r (newer ++ e ∷ []) older run whole (omega (arith, below, inside)) inside (λ same. omega (arith, same, below)) (names_failed c r q (part r older) named_r below inside)

-- at an event of p each other that p has outlasted has made its last event
pub outlasted : (c : Config) (events : List Event) (lengths : List ℕ) (rounds q p : ℕ) (newer older : List Event) (e : Event) → AreUnpaused c events lengths rounds → history events ≡ newer ++ e ∷ older → e.by ≡ p → q < c.replicas → q ≢ p
    → length (part_of q events) ≤ length (part p older) → length (part q older) ≡ length (part_of q events)
outlasted c events lengths rounds q p newer older e run is own low other late =
    let count = run.count in
    let step = in_step lengths rounds q p events other (omega (arith, low, count)) run.order in
    let each : AtEachStep (StaysAhead step.lead q (slice_index lengths q) p) (e ∷ older) = steps_before (StaysAhead step.lead q (slice_index lengths q) p) newer (e ∷ older) (subst (AtEachStep (StaysAhead step.lead q (slice_index lengths q) p)) is step.each) in
    let here = each.1 own in
    let most = run.taken q low in
    let all = here.1 (omega (arith, late, most)) in
    omega (arith, all, most)
