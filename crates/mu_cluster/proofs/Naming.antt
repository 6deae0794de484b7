-- In a replay whose script has no pause replica 0 is named leader until it has ended.
use Rattle.std.proofs.Common.{◌≡◌, ◌∙◌, ◌≢◌, ℕ, ◌+◌, ◌<◌, ◌≤◌, ◌==◌, inl, inr, Bool, true, false, cond, Some, List, [], ◌∷◌, ◌++◌, ap, append_assoc, arith, eqb-true, length, map, refl, subst, sym}
use Rattle.std.specs.Prelude.{nat_lt, not, slice_index}
use Rattle.std.proofs.lemmas.Bool.{cases_lt, ltb-true, ne_eqb, true≢false}
use Rattle.std.proofs.lemmas.List.{length-append, length-map, reverse-append}
use Rattle.mu_agree.proofs.Legal.{legal_older}
use Rattle.mu_model.specs.declared.config.Config.{Config}
use Rattle.mu_model.specs.declared.event.Event.{Event}
use Rattle.mu_model.specs.declared.event.Verb.{Verb}
use Rattle.mu_model.specs.Histories.{has, history, part}
use Rattle.mu_model.specs.Journals.{Record}
use Rattle.mu_model.specs.Legal.{IsLegal, IsLegalHistory}
use Rattle.mu_model.specs.Scores.{leader, score}
use Rattle.mu_model.specs.Steps.{is_asking_verb}
use Rattle.mu_model.proofs.Basics.{same_number, same_some}
use Rattle.mu_model.proofs.Parts.{filter-append}
use Rattle.mu_node.specs.declared.zeal.Zeal.{Zeal}
use Rattle.mu_node.specs.Journal.{IsListed, WasMade}
use Rattle.mu_lively.proofs.Naming.{asker_named, first_named}
use Rattle.mu_outcome.specs.declared.outcome.Outcome.{Outcome}
use Rattle.mu_outcome.specs.Outcomes.{IsRun, journals_of}
use Rattle.mu_outcome.specs.Turns.{ids_after}
use Rattle.mu_outcome.proofs.Journals.{length_at, length_of_part}
use Rattle.mu_agree.specs.Moments.{AtEachStep}
use Rattle.mu_pace.proofs.Counting.{steps_before}
use Rattle.mu_cluster.specs.declared.rounds.Seat.{Seat}
use Rattle.mu_cluster.specs.Naming.{IsBeforeEnd, IsReached, NamesFirst, NamesFirstUnpaused}
use Rattle.mu_cluster.specs.Rounds.{PlayedBy, id_of, part_of}
use Rattle.mu_model.proofs.Lists.{item_below}
use Rattle.mu_cluster.proofs.InStep.{StaysAhead, in_step}
use Rattle.mu_cluster.proofs.Passes.{has_history}
use Rattle.mu_cluster.proofs.Trusting.{trusts}
use Rattle.mu_pace.proofs.Pasts.{has_newer}

-- the history before an event, and with it
before_event : (events earlier later : List Event) (e : Event) → events ≡ earlier ++ e ∷ later → history events ≡ history (e ∷ later) ++ history earlier
before_event events earlier later e is = ap history is ∙ reverse-append earlier (e ∷ later)

with_event : (events earlier later : List Event) (e : Event) → events ≡ earlier ++ e ∷ later → history events ≡ history later ++ (e ∷ history earlier)
with_event events earlier later e is = before_event events earlier later e is ∙ (ap (λ l. l ++ history earlier) (reverse-append (e ∷ []) later) ∙ append_assoc (history later) (e ∷ []) (history earlier))

-- what holds of each event of a part
pub part_before : (P : List Event → Event → Type 0) (r : ℕ) (newer older : List Event) → AtEachStep P (part r (newer ++ older)) → AtEachStep P (part r older)
part_before P r newer older held = steps_before P (part r newer) (part r older) (subst (AtEachStep P) (filter-append (λ e. e.by == r) newer older) held)

pub part_step : (P : List Event → Event → Type 0) (older : List Event) (e : Event) → AtEachStep P (part e.by (e ∷ older)) → P (part e.by older) e
part_step P older e held = go (e.by == e.by) (same_number e.by) held
  where
    go : (t : Bool) → t ≡ true → AtEachStep P (cond t (e ∷ part e.by older) (part e.by older)) → P (part e.by older) e
    go true is held = held.1
    go false is held = absurd (true≢false (sym is))

-- if none passes, this one doesn't
pub none_here : (test : Event → Bool) (newer older : List Event) (e : Event) → has test (newer ++ e ∷ older) ≡ false → test e ≡ false
none_here test [] older e none = go (test e) none
  where
    go : (t : Bool) → cond t true (has test older) ≡ false → t ≡ false
    go true is = absurd (true≢false is)
    go false is = refl
none_here test (f ∷ newer) older e none = none_here test newer older e (go (test f) none)
  where
    go : (t : Bool) → cond t true (has test (newer ++ e ∷ older)) ≡ false → has test (newer ++ e ∷ older) ≡ false
    go true is = absurd (true≢false is)
    go false is = is

some_part : (q : ℕ) (events : List Event) → has (λ e. e.by == q) events ≡ true → 1 ≤ length (part q events)
some_part q [] some = absurd (true≢false (sym some))
some_part q (e ∷ events) some = go (e.by == q) some (some_part q events)
  where
    go : (t : Bool) → cond t true (has (λ f. f.by == q) events) ≡ true → (has (λ f. f.by == q) events ≡ true → 1 ≤ length (part q events)) → 1 ≤ length (cond t (e ∷ part q events) (part q events))
    go true some ih = omega arith
    go false some ih = ih some

-- the events of a replay are those of nodes of this kind, in the order of rounds without a pause
pub record AreUnpausedBy (kind : Zeal) (c : Config) (events : List Event) (lengths : List ℕ) (rounds : ℕ) : Type 0 where
  pub legal : IsLegal c events
  pub whole : has (λ e. not (nat_lt e.by c.replicas)) (history events) ≡ false
  pub order : map id_of events ≡ ids_after [] lengths rounds
  pub count : length lengths ≡ c.replicas
  pub taken : (r : ℕ) → r < c.replicas → slice_index lengths r ≡ length (part_of r events)
  pub made : (r : ℕ) → r < c.replicas → AtEachStep (WasMade c r) (part_of r events)
  pub listed : (r : ℕ) → r < c.replicas → AtEachStep (IsListed kind c r) (part_of r events)

-- the same of plain nodes
abbrev pub AreUnpaused : Config → List Event → List ℕ → ℕ → Type 0
AreUnpaused c events lengths rounds = AreUnpausedBy Zeal.Plain c events lengths rounds

maker_inside : {kind : Zeal} (c : Config) (events : List Event) (lengths : List ℕ) (rounds : ℕ) (earlier : List Event) (e : Event) → AreUnpausedBy kind c events lengths rounds → IsReached events earlier e → e.by < c.replicas
maker_inside c events lengths rounds earlier e run at =
    go (nat_lt e.by c.replicas) refl (none_here (λ f. not (nat_lt f.by c.replicas)) (history at.later) (history earlier) e (sym (ap (has (λ f. not (nat_lt f.by c.replicas))) (with_event events earlier at.later e at.is)) ∙ run.whole))
  where
    go : (t : Bool) → nat_lt e.by c.replicas ≡ t → not t ≡ false → e.by < c.replicas
    go true is _ = ltb-true e.by c.replicas is
    go false is none = absurd (true≢false none)

-- at each moment a replica holds alive each other that takes as many steps in all as it has taken
pub trusts_then : {kind : Zeal} (c : Config) (events : List Event) (lengths : List ℕ) (rounds q r : ℕ) (newer older : List Event) → AreUnpausedBy kind c events lengths rounds → history events ≡ newer ++ older → q < c.replicas → r < c.replicas → q ≢ r
    → length (part r older) ≤ length (part_of q events) → (score r q (part r older)).1 ≡ true
trusts_then c events lengths rounds q r newer older run is low inside other few =
    let count = run.count in
    let step = in_step lengths rounds q r events other (omega (arith, low, count)) run.order in
    let most = run.taken q low in
    let each = steps_before (StaysAhead step.lead q (slice_index lengths q) r) newer older (subst (AtEachStep (StaysAhead step.lead q (slice_index lengths q) r)) is step.each) in
    let legal = legal_older c newer older (subst (IsLegalHistory c) is run.legal) in
    ap (λ s. s.1)
    (trusts c step.lead q r (slice_index lengths q) older low inside other step.short legal each (made q low) (made r inside) (omega (arith, few, most))).full
  where
    made : (r : ℕ) → r < c.replicas → AtEachStep (WasMade c r) (part r older)
    made r low = part_before (WasMade c r) r newer older (subst (λ l. AtEachStep (WasMade c r) (part r l)) is (run.made r low))

-- at an event of r each other replica has taken at most as many steps as r with it
pub few_steps : {kind : Zeal} (c : Config) (events : List Event) (lengths : List ℕ) (rounds q r : ℕ) (newer older : List Event) (e : Event) → AreUnpausedBy kind c events lengths rounds → history events ≡ newer ++ e ∷ older → e.by ≡ r → q < c.replicas → q ≢ r
    → length (part q older) ≤ length (part r older) + 1
few_steps c events lengths rounds q r newer older e run is own low other =
    let count = run.count in
    let step = in_step lengths rounds q r events other (omega (arith, low, count)) run.order in
    let each : AtEachStep (StaysAhead step.lead q (slice_index lengths q) r) (e ∷ older) = steps_before (StaysAhead step.lead q (slice_index lengths q) r) newer (e ∷ older) (subst (AtEachStep (StaysAhead step.lead q (slice_index lengths q) r)) is step.each) in
    let here = each.1 own in
    let short = step.short in
    elim (cases_lt (slice_index lengths q) (length (part r older) + step.lead)) [
      | inl over ↦ (let taken = here.1 (omega (arith, over)) in omega (arith, taken, over, short))
      | inr under ↦ (let taken = here.0 under in omega (arith, taken, short))
    ]

-- and no more than replica 0 takes in all, with this event too, until that has ended
few_with : {kind : Zeal} (c : Config) (events : List Event) (lengths : List ℕ) (rounds r : ℕ) (newer older : List Event) (e : Event) → AreUnpausedBy kind c events lengths rounds → history events ≡ newer ++ e ∷ older → has (λ f. f.by == 0) newer ≡ true → e.by ≡ r → r ≢ 0 → 0 < c.replicas
    → length (part r older) + 1 ≤ length (part_of 0 events)
few_with c events lengths rounds r newer older e run is left own other some =
    let count = run.count in
    let most = slice_index lengths 0 in
    let all = run.taken 0 some in
    let step = in_step lengths rounds 0 r events (λ same. other (sym same)) (omega (arith, some, count)) run.order in
    let each : AtEachStep (StaysAhead step.lead 0 most r) (e ∷ older) = steps_before (StaysAhead step.lead 0 most r) newer (e ∷ older) (subst (AtEachStep (StaysAhead step.lead 0 most r)) is step.each) in
    let here = each.1 own in
    let whole : length (part_of 0 events) ≡ length (part 0 newer) + length (part 0 (e ∷ older)) = ap (λ l. length (part 0 l)) is ∙ (ap length (filter-append (λ f. f.by == 0) newer (e ∷ older)) ∙ length-append (part 0 newer) (part 0 (e ∷ older))) in
    let same : length (part 0 (e ∷ older)) ≡ length (part 0 older) = ap (λ t. length (cond t (e ∷ part 0 older) (part 0 older))) (ne_eqb e.by 0 (λ first. other (sym own ∙ first))) in
    let more = some_part 0 newer left in
    elim (cases_lt most (length (part r older) + step.lead)) [
      | inl over ↦ (let ended = here.1 (omega (arith, over)) in absurd (omega (arith, ended, all, whole, same, more)))
      | inr under ↦ (let taken = here.0 under in omega (arith, taken, all, whole, same, more))
    ]

-- so at each moment until then
few_then : {kind : Zeal} (c : Config) (events : List Event) (lengths : List ℕ) (rounds r : ℕ) (newer older : List Event) → AreUnpausedBy kind c events lengths rounds → history events ≡ newer ++ older → has (λ f. f.by == 0) newer ≡ true → r ≢ 0 → 0 < c.replicas
    → length (part r older) ≤ length (part_of 0 events)
few_then c events lengths rounds r newer [] run is left other some = omega arith
few_then c events lengths rounds r newer (e ∷ older) run is left other some =
    go (e.by == r) refl (few_then c events lengths rounds r (newer ++ e ∷ []) older run (is ∙ sym (append_assoc newer (e ∷ []) older)) (has_newer (λ f. f.by == 0) newer (e ∷ []) left) other some)
  where
    go : (t : Bool) → (e.by == r) ≡ t → length (part r older) ≤ length (part_of 0 events) → length (cond t (e ∷ part r older) (part r older)) ≤ length (part_of 0 events)
    go true own _ = (let few = few_with c events lengths rounds r newer older e run is left (eqb-true e.by r own) other some in omega (arith, few))
    go false _ few = few

-- until replica 0 has ended each other holds it to be alive
holds_first : {kind : Zeal} (c : Config) (events : List Event) (lengths : List ℕ) (rounds : ℕ) (earlier : List Event) (r : ℕ) → AreUnpausedBy kind c events lengths rounds → IsBeforeEnd events earlier → r < c.replicas → r ≢ 0 → (score r 0 (part_of r earlier)).1 ≡ true
holds_first c events lengths rounds earlier r run at inside other =
    let some : 0 < c.replicas = omega (arith, inside) in
    let split : history events ≡ history at.later ++ history earlier = ap history at.is ∙ reverse-append earlier at.later in
    let left = has_history (λ f. f.by == 0) at.later at.left in
    trusts_then c events lengths rounds 0 r (history at.later) (history earlier) run split some inside (λ same. other (sym same))
    (few_then c events lengths rounds r (history at.later) (history earlier) run split left other some)

-- who makes an event until then does so before it has ended
pub before_end : (events earlier : List Event) (e : Event) → IsReached events earlier e → IsBeforeEnd events earlier
before_end events earlier e at = record { later = e ∷ at.later; is = at.is; left = at.left }

pub names_in : {kind : Zeal} (c : Config) (events : List Event) (lengths : List ℕ) (rounds : ℕ) → AreUnpausedBy kind c events lengths rounds → NamesFirst c events
names_in c events lengths rounds run = record { named = named; asks = asks }
  where
    named : (earlier : List Event) (r : ℕ) → IsBeforeEnd events earlier → r < c.replicas → leader c r (part_of r earlier) ≡ 0
    named earlier r at inside = first_named c r (part_of r earlier) (omega (arith, inside)) (holds_first c events lengths rounds earlier r run at inside)

    asks : (earlier : List Event) (e : Event) (p : ℕ) → IsReached events earlier e → e.verb ≡ Verb.Ask p → e.by ≡ 0
    asks earlier e p at asked =
        let inside = maker_inside c events lengths rounds earlier e run at in
        let there = subst (λ l. AtEachStep (WasMade c e.by) (part e.by l)) (with_event events earlier at.later e at.is) (run.made e.by inside) in
        let made = part_step (WasMade c e.by) (history earlier) e (part_before (WasMade c e.by) e.by (history at.later) (e ∷ history earlier) there) in
        sym (asker_named c e.by p (part_of e.by earlier) e made (ap (is_asking_verb p) asked ∙ same_number p)) ∙ named earlier e.by (before_end events earlier e at) inside

-- in what a replay leaves
pub unpaused_of : {kind : Zeal} (o : Outcome) (order : Record) (seats : List Seat) (rounds : ℕ) (run : IsRun o) → o.order ≡ Some order → PlayedBy kind o.job.config o.job.script order.events seats rounds 0 → o.job.script.pauses ≡ []
    → AreUnpausedBy kind o.job.config run.order.events (map length (journals_of o)) run.turns.rounds
unpaused_of {kind} o order seats rounds run given played unpaused = record {
  legal = run.legal;
  whole = run.parts.whole;
  order = subst (λ pauses. map id_of run.order.events ≡ ids_after pauses (map length (journals_of o)) run.turns.rounds) unpaused run.turns.is;
  count = length-map (journals_of o) length ∙ run.parts.count;
  taken = λ r low. length_at (journals_of o) r (part r run.order.events) (run.parts.each r low) ∙ length_of_part r run.order.events;
  made = λ r low. made r low;
  listed = λ r low. listed r low;
}
  where
    listed : (r : ℕ) → r < o.job.config.replicas → AtEachStep (IsListed kind o.job.config r) (part_of r run.order.events)
    listed r low =
        let count = played.count in
        let found = item_below seats r (omega (arith, low, count)) in
        let sits = played.waits r found.0 found.1 (omega arith) in
        subst (λ (x : Record). AtEachStep (IsListed kind o.job.config r) (part_of r x.events)) (same_some order run.order (sym given ∙ run.given)) (subst (λ z. AtEachStep (IsListed z o.job.config r) (part_of r order.events)) sits.zeal sits.follows.listed)

    made : (r : ℕ) → r < o.job.config.replicas → AtEachStep (WasMade o.job.config r) (part_of r run.order.events)
    made r low =
        let count = played.count in
        let found = item_below seats r (omega (arith, low, count)) in
        subst (λ (x : Record). AtEachStep (WasMade o.job.config r) (part_of r x.events)) (same_some order run.order (sym given ∙ run.given)) ((played.waits r found.0 found.1 (omega arith)).follows.made)

pub named_of : {kind : Zeal} (o : Outcome) (order : Record) (seats : List Seat) (rounds : ℕ) → IsRun o → o.order ≡ Some order → PlayedBy kind o.job.config o.job.script order.events seats rounds 0 → NamesFirstUnpaused o
named_of o order seats rounds run given played unpaused other also =
    subst (λ (x : Record). NamesFirst o.job.config x.events) (same_some run.order other (sym run.given ∙ also))
    (names_in o.job.config run.order.events (map length (journals_of o)) run.turns.rounds (unpaused_of o order seats rounds run given played unpaused))
