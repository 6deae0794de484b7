-- The counts of steps since each region was asked and its fence read, step by step.
use Rattle.std.proofs.Common.{[], ◌≡◌, ℕ, ◌+◌, ◌*◌, ◌<◌, ◌≤◌, ◌⊎◌, inl, inr, Bool, true, false, List, ◌∷◌, Some, refl, sym, ◌∙◌, subst, arith, true≢false}
use Rattle.std.specs.declared.option.Option.{Option}
use Rattle.std.proofs.lemmas.Bool.{cases_lt}
use Rattle.mu_model.specs.declared.config.Config.{Config}
use Rattle.mu_model.specs.declared.event.Answer.{Answer}
use Rattle.mu_model.specs.declared.event.Event.{Event}
use Rattle.mu_model.specs.declared.event.Verb.{Verb}
use Rattle.mu_model.specs.Leaderships.{has_begun, is_member, is_over}
use Rattle.mu_model.specs.Steps.{has_min, is_asking, is_fencing, is_named}
use Rattle.mu_model.specs.Stretches.{is_replication}
use Rattle.mu_model.proofs.Basics.{same_some}
use Rattle.mu_model.specs.Histories.{event_by}
use Rattle.mu_pace.proofs.Countdowns.{countdowns_run}
use Rattle.mu_lead.specs.declared.place.Place.{Place}
use Rattle.mu_lead.specs.Beside.{is_beside}
use Rattle.mu_lively.specs.Elections.{AsksNext, ElectsAt, FencesNext, HasStepsLeft, ReadsNext, since_ask, since_fence}
use Rattle.mu_lively.specs.Gathering.{GoesFrom}
use Rattle.mu_lead.specs.Offering.{AtRest}
use Rattle.mu_lead.specs.Standing.{At, verb_at}
use Rattle.mu_lively.proofs.RoomsMin.{min_now}
use Rattle.mu_lead.proofs.Asks.{is_ask, verb_asks_none}
use Rattle.mu_lively.proofs.ElectionSteps.{all_rounds, anywhere, asked_last, asked_next, asks_quiet, ended_asks, fenced_asked, fenced_next, fenced_reads, fenced_round, leads_on, led_anywhere, min_left, quiet_led, quiet_rest, quiet_unnamed, read_on, reads_on, stays_quiet}

-- what a step from a place to the next one gives
abbrev pub Elected : Config → ℕ → List Event → Answer → Place → Place → Verb → Type 0
Elected c r mine a place next verb =
    is_replication mine (event_by r verb a) ≡ true → GoesFrom c.replicas r (event_by r verb a ∷ mine) place next
    → (next ≡ Place.Rest → AtRest c r (event_by r verb a ∷ mine)) → ElectsAt c r (event_by r verb a ∷ mine) next

elects_asked : (c : Config) (r p : ℕ) (a : Answer) (mine : List Event) (next : Place) → p < c.replicas → AsksNext c r mine p → Elected c r mine a (Place.Ask p) next (Verb.Ask p)
elects_asked c r p a mine next low at turn goes rests = elim goes [
  | inl is ↦ subst (ElectsAt c r (event_by r (Verb.Ask p) a ∷ mine)) (sym is) (asked_next c r p a mine turn at)
  | inr x ↦ subst (ElectsAt c r (event_by r (Verb.Ask p) a ∷ mine)) (sym x.1) (asked_last c r p a mine turn low x.0 at)
]

elects_fenced : (c : Config) (r round p : ℕ) (a : Answer) (mine : List Event) (next : Place) → round < 16 → p < c.replicas → is_member r 0 mine ≡ false → FencesNext c r mine round p → Elected c r mine a (Place.Confirm round p) next (Verb.Fence p)
elects_fenced c r round p a mine next within low alone at turn goes rests =
    let now = event_by r (Verb.Fence p) a ∷ mine in
    elim goes [
      | inl is ↦ subst (ElectsAt c r now) (sym is) (fenced_next c r round p a mine turn at)
      | inr x ↦ elim x.1 [
        | inl y ↦ subst (ElectsAt c r now) (sym y.1) (fenced_round c r round p a mine turn low x.0 at)
        | inr z ↦ elim z [
          | inl y ↦ subst (ElectsAt c r now) (sym y.1) (fenced_asked c r round p a mine turn low x.0 within at)
          | inr reads ↦ reads_on c r now next reads (omega arith) rests alone (fenced_reads c r round p a mine turn low x.0 within at)
        ]
      ]
    ]

elects_read : (c : Config) (r p : ℕ) (a : Answer) (mine : List Event) (next : Place) → has_begun r mine ≡ true → is_over r mine ≡ false → ReadsNext c r mine → Elected c r mine a (Place.ReadMin p) next (Verb.Min p)
elects_read c r p a mine next begun going at turn goes rests =
    led_anywhere c r (event_by r (Verb.Min p) a ∷ mine) next goes (record { read = min_now r p a mine begun; left = min_left c r p a mine turn going at })

elects_led : (c : Config) (r : ℕ) (verb : Verb) (a : Answer) (mine : List Event) (next : Place) → 1 ≤ c.replicas → is_replication mine (event_by r verb a) ≡ true → is_ask verb ≡ false → is_over r mine ≡ false → has_min r mine ≡ true
    → ElectsAt c r (event_by r verb a ∷ mine) next
elects_led c r verb a mine next some turn none going read = anywhere c r (event_by r verb a ∷ mine) next some (quiet_led c r mine (event_by r verb a) turn read going) (read_on r verb a mine none read)

-- from each place
pub elects_from : (c : Config) (r b : ℕ) (mine : List Event) (up : List ℕ) (reach : List (Option ℕ)) (written values : List ℕ) (verb : Verb) (a : Answer) (place next : Place) → r < c.replicas → At c r b mine up reach written place
    → verb_at c b values up written place ≡ Some verb → ElectsAt c r mine place → Elected c r mine a place next verb
elects_from c r b mine up reach written values verb a (Place.Ask p) next inside at due elects turn goes rests =
    subst (Elected c r mine a (Place.Ask p) next) (same_some (Verb.Ask p) verb due) (elects_asked c r p a mine next at.region elects) turn goes rests
elects_from c r b mine up reach written values verb a (Place.Confirm round p) next inside at due elects turn goes rests =
    subst (Elected c r mine a (Place.Confirm round p) next) (same_some (Verb.Fence p) verb due) (elects_fenced c r round p a mine next at.0 at.1.region (at.1.fresh.alone 0) elects) turn goes rests
elects_from c r b mine up reach written values verb a (Place.ReadMin p) next inside at due elects turn goes rests =
    subst (Elected c r mine a (Place.ReadMin p) next) (same_some (Verb.Min p) verb due) (elects_read c r p a mine next at.telling.fresh.begun at.telling.fresh.goes_on elects) turn goes rests
elects_from c r b mine up reach written values verb a (Place.Evidence p) next inside at due elects turn goes rests =
    subst (ElectsAt c r (event_by r verb a ∷ mine)) (sym goes) (ended_asks c r mine (event_by r verb a) elects)
elects_from c r b mine up reach written values verb a place next inside at due elects turn goes rests =
    elects_led c r verb a mine next (omega arith) turn (verb_asks_none c b values up written place verb refl due) (leads_on c r b mine up reach written verb values place refl due at) elects.read

-- what another machine does in the background
pub min_beside : (r : ℕ) (leading : Bool) (verb : Verb) (a : Answer) (mine : List Event) → is_beside leading verb ≡ true → has_min r (event_by r verb a ∷ mine) ≡ has_min r mine
min_beside r leading (Verb.Ask p) a mine beside = absurd (true≢false (sym beside))
min_beside r leading (Verb.Min p) a mine beside = absurd (true≢false (sym beside))
min_beside r leading verb a mine beside = refl

same_left : (c : Config) (r left : ℕ) (mine now : List Event) → ((q : ℕ) → since_ask c r q now ≡ since_ask c r q mine) → ((q : ℕ) → since_fence c r q now ≡ since_fence c r q mine) → HasStepsLeft c r mine left → HasStepsLeft c r now left
same_left c r left mine now asks fences at = record {
  asks = λ q there. subst (λ k. k + left ≤ 17 * c.replicas) (sym (asks q)) (at.asks q there);
  fences = λ q there. subst (λ k. k + left ≤ 17 * c.replicas) (sym (fences q)) (at.fences q there);
}

elects_same : (c : Config) (r : ℕ) (mine now : List Event) (place : Place) → ((q : ℕ) → since_ask c r q now ≡ since_ask c r q mine) → ((q : ℕ) → since_fence c r q now ≡ since_fence c r q mine) → has_min r now ≡ has_min r mine
    → ElectsAt c r mine place → ElectsAt c r now place
elects_same c r mine now (Place.Ask p) asks fences read at = record {
  asked = λ q low. subst (λ k. k + q < p) (sym (asks q)) (at.asked q low);
  asks = λ q high low. subst (λ k. k + q < 17 * c.replicas + p) (sym (asks q)) (at.asks q high low);
  fences = λ q low. subst (λ k. k ≤ c.replicas + p) (sym (fences q)) (at.fences q low);
}
elects_same c r mine now (Place.Confirm round p) asks fences read at = record {
  asks = λ q low. subst (λ k. k + q < (round + 1) * c.replicas + p) (sym (asks q)) (at.asks q low);
  fenced = λ q low. subst (λ k. k + q < p) (sym (fences q)) (at.fenced q low);
  fences = λ q high low. subst (λ k. k ≤ 2 * c.replicas + p) (sym (fences q)) (at.fences q high low);
}
elects_same c r mine now (Place.ReadMin p) asks fences read at = record {
  first = λ unread. same_left c r 1 mine now asks fences (at.first (sym read ∙ unread));
  later = λ is. same_left c r 0 mine now asks fences (at.later (sym read ∙ is));
}
elects_same c r mine now (Place.Evidence p) asks fences read at = same_left c r (17 * c.replicas) mine now asks fences at
elects_same c r mine now place asks fences read at = record { read = read ∙ at.read; left = same_left c r 0 mine now asks fences at.left }

pub elects_beside : (c : Config) (r : ℕ) (mine : List Event) (leading : Bool) (place : Place) (verb : Verb) (answer : Answer) → is_replication mine (event_by r verb answer) ≡ false → is_beside leading verb ≡ true → ElectsAt c r mine place
    → ElectsAt c r (event_by r verb answer ∷ mine) place
elects_beside c r mine leading place verb answer off beside at =
    let e = event_by r verb answer in
    elects_same c r mine (e ∷ mine) place (λ q. countdowns_run.asks.beside c r (is_asking q) mine e off) (λ q. countdowns_run.asks.beside c r (is_fencing q) mine e off) (min_beside r leading verb answer mine beside) at

-- and in a turn of the leader, if another is named or nothing is due
pub elects_unnamed : (c : Config) (r : ℕ) (mine : List Event) (old new : Place) (leading : Bool) (verb : Verb) (answer : Answer) → is_replication mine (event_by r verb answer) ≡ true → is_named c r mine ≡ false → is_beside leading verb ≡ true
    → (new ≡ old) ⊎ (new ≡ Place.Ask 0) → ElectsAt c r mine old → ElectsAt c r (event_by r verb answer ∷ mine) new
elects_unnamed c r mine old new leading verb answer turn unnamed beside goes at =
    let now = event_by r verb answer ∷ mine in
    let quiet = quiet_unnamed c r mine (event_by r verb answer) turn unnamed in
    elim goes [
      | inl same ↦ subst (ElectsAt c r now) (sym same) (stays_quiet c r mine now old quiet (λ read. min_beside r leading verb answer mine beside ∙ read) at)
      | inr begins ↦ subst (ElectsAt c r now) (sym begins) (asks_quiet c r 0 now quiet)
    ]

pub elects_rest : (c : Config) (r : ℕ) (mine : List Event) (leading : Bool) (verb : Verb) (answer : Answer) → is_replication mine (event_by r verb answer) ≡ true → is_beside leading verb ≡ true → AtRest c r mine → ElectsAt c r mine Place.Rest
    → ElectsAt c r (event_by r verb answer ∷ mine) Place.Rest
elects_rest c r mine leading verb answer turn beside rests at =
    stays_quiet c r mine (event_by r verb answer ∷ mine) Place.Rest (quiet_rest c r mine (event_by r verb answer) turn rests.all) (λ read. min_beside r leading verb answer mine beside ∙ read) at

-- each place is in time
asked_in_time : (a q p n : ℕ) → a + q < p → p < n → a + 0 ≤ 17 * n
asked_in_time a q p n low high = omega arith

asks_in_time : (a q p n : ℕ) → a + q < 17 * n + p → p ≤ q → a + 0 ≤ 17 * n
asks_in_time a q p n low high = omega arith

fences_in_time : (a p n : ℕ) → a ≤ 2 * n + p → p < n → a + 0 ≤ 17 * n
fences_in_time a p n low high = omega arith

round_in_time : (a q round p n : ℕ) → a + q < (round + 1) * n + p → round < 16 → p < n → a + 0 ≤ 17 * n
round_in_time a q round p n low within there = let most = all_rounds round n p within there in omega (arith, most)

pub left_at : (c : Config) (r b : ℕ) (mine : List Event) (up : List ℕ) (reach : List (Option ℕ)) (written : List ℕ) (place : Place) → At c r b mine up reach written place → ElectsAt c r mine place → HasStepsLeft c r mine 0
left_at c r b mine up reach written (Place.Ask p) at elects = record {
  asks = λ q there. elim (cases_lt q p) [
    | inl low ↦ asked_in_time (since_ask c r q mine) q p c.replicas (elects.asked q low) at.region
    | inr high ↦ asks_in_time (since_ask c r q mine) q p c.replicas (elects.asks q high there) high
  ];
  fences = λ q there. fences_in_time (since_fence c r q mine) p c.replicas (let most = elects.fences q there in omega (arith, most)) at.region;
}
left_at c r b mine up reach written (Place.Confirm round p) at elects = record {
  asks = λ q there. round_in_time (since_ask c r q mine) q round p c.replicas (elects.asks q there) at.0 at.1.region;
  fences = λ q there. elim (cases_lt q p) [
    | inl low ↦ asked_in_time (since_fence c r q mine) q p c.replicas (elects.fenced q low) at.1.region
    | inr high ↦ fences_in_time (since_fence c r q mine) p c.replicas (elects.fences q high there) at.1.region
  ];
}
left_at c r b mine up reach written (Place.ReadMin p) at elects = go (has_min r mine) refl
  where
    go : (t : Bool) → has_min r mine ≡ t → HasStepsLeft c r mine 0
    go true read = elects.later read
    go false unread = let left = elects.first unread in record {
      asks = λ q there. let most = left.asks q there in omega (arith, most);
      fences = λ q there. let most = left.fences q there in omega (arith, most);
    }
left_at c r b mine up reach written (Place.Evidence p) at elects = record {
  asks = λ q there. let most = elects.asks q there in omega (arith, most);
  fences = λ q there. let most = elects.fences q there in omega (arith, most);
}
left_at c r b mine up reach written place at elects = elects.left

pub lately : (a m : ℕ) → a + 0 ≤ m → a < m + 1
lately a m low = omega arith

-- before any event
pub elects_start : (c : Config) (r : ℕ) → ElectsAt c r [] (Place.Ask 0)
elects_start c r = asks_quiet c r 0 [] (record { asks = λ q. refl; fences = λ q. refl })
