-- The counts of steps since each region was asked and its fence read: what a step of each kind leaves of them.
use Rattle.mu_lead.proofs.Asks.{is_ask}
use Rattle.std.proofs.Common.{◌≡◌, ℕ, ◌+◌, ◌*◌, ◌<◌, ◌≤◌, inl, inr, Bool, true, false, ◌&&◌, List, ◌∷◌, Some, refl, sym, ◌∙◌, ap, subst, arith, true≢false}
use Rattle.std.specs.Prelude.{not}
use Rattle.std.specs.declared.option.Option.{Option}
use Rattle.std.proofs.lemmas.Bool.{and_from, and_left, and_right, cases_eq}
use Rattle.std.proofs.lemmas.Nat.{mul-le}
use native.Mathlib.Nat.{suc-mul}
use Rattle.mu_model.specs.declared.config.Config.{Config}
use Rattle.mu_model.specs.declared.event.Answer.{Answer}
use Rattle.mu_model.specs.declared.event.Event.{Event}
use Rattle.mu_model.specs.declared.event.Verb.{Verb}
use Rattle.mu_model.specs.Contents.{holds_all}
use Rattle.mu_model.specs.Diligence.{has_to_ask}
use Rattle.mu_model.specs.Knowledge.{known}
use Rattle.mu_model.specs.Leaderships.{is_member, is_over}
use Rattle.mu_model.specs.Steps.{has_min, is_asking, is_fencing, is_named, knows_all, leads}
use Rattle.mu_model.specs.Stretches.{is_replication}
use Rattle.mu_model.proofs.Basics.{none_some, same_number}
use Rattle.mu_model.specs.Histories.{event_by}
use Rattle.mu_pace.proofs.Countdowns.{countdowns_run}
use Rattle.mu_lead.specs.declared.place.Place.{Place}
use Rattle.mu_lead.specs.Beside.{leads_at}
use Rattle.mu_lively.specs.Elections.{AsksNext, ElectsAt, FencesNext, HasLed, HasStepsLeft, ReadsNext, since_ask, since_fence}
use Rattle.mu_lively.specs.Gathering.{reads_first}
use Rattle.mu_lead.specs.Offering.{AtRest}
use Rattle.mu_lead.specs.Standing.{At, verb_at}
use Rattle.mu_lively.proofs.Confirms.{later_read}

-- no step came since r had no need to ask
pub record Quiet (c : Config) (r : ℕ) (now : List Event) : Type 0 where
  pub asks : (q : ℕ) → since_ask c r q now ≡ 0
  pub fences : (q : ℕ) → since_fence c r q now ≡ 0

quiet_now : (c : Config) (r : ℕ) (mine : List Event) (e : Event) → is_replication mine e ≡ true → has_to_ask c r mine ≡ false → Quiet c r (e ∷ mine)
quiet_now c r mine e turn none = record {
  asks = λ q. countdowns_run.asks.rests c r (is_asking q) mine e turn none;
  fences = λ q. countdowns_run.asks.rests c r (is_fencing q) mine e turn none;
}

-- it has none if it leads, if another is named, and if all is known
idle_led : (a b l : Bool) → l ≡ true → (a && (not b && not l)) ≡ false
idle_led a b true is = and_right a (not b && false) (and_right (not b) false refl)
idle_led a b false is = absurd (true≢false (sym is))

idle_all : (a b l : Bool) → b ≡ true → (a && (not b && not l)) ≡ false
idle_all a true l is = and_right a false refl
idle_all a false l is = absurd (true≢false (sym is))

pub quiet_led : (c : Config) (r : ℕ) (mine : List Event) (e : Event) → is_replication mine e ≡ true → has_min r mine ≡ true → is_over r mine ≡ false → Quiet c r (e ∷ mine)
quiet_led c r mine e turn read going = quiet_now c r mine e turn (idle_led (is_named c r mine) (knows_all c r mine) (leads r mine) (and_from (has_min r mine) (not (is_over r mine)) read (ap not going)))

pub quiet_unnamed : (c : Config) (r : ℕ) (mine : List Event) (e : Event) → is_replication mine e ≡ true → is_named c r mine ≡ false → Quiet c r (e ∷ mine)
quiet_unnamed c r mine e turn unnamed = quiet_now c r mine e turn (and_left (is_named c r mine) (not (knows_all c r mine) && not (leads r mine)) unnamed)

pub quiet_rest : (c : Config) (r : ℕ) (mine : List Event) (e : Event) → is_replication mine e ≡ true → holds_all c (known c r mine) ≡ true → Quiet c r (e ∷ mine)
quiet_rest c r mine e turn all = quiet_now c r mine e turn (idle_all (is_named c r mine) (knows_all c r mine) (leads r mine) all)

-- then what is asked of the counts holds at each place
below_zero : (a q p : ℕ) → a ≡ 0 → q < p → a + q < p
below_zero a q p none low = omega arith

under_zero : (a q p n : ℕ) → a ≡ 0 → q < n → n ≤ p → a + q < p
under_zero a q p n none low more = omega arith

least : (a b : ℕ) → a ≡ 0 → a ≤ b
least a b none = omega arith

left_zero : (a l m : ℕ) → a ≡ 0 → l ≤ m → a + l ≤ m
left_zero a l m none low = omega arith

pub asks_quiet : (c : Config) (r p : ℕ) (now : List Event) → Quiet c r now → AsksNext c r now p
asks_quiet c r p now quiet = record {
  asked = λ q low. below_zero (since_ask c r q now) q p (quiet.asks q) low;
  asks = λ q high low. under_zero (since_ask c r q now) q (17 * c.replicas + p) c.replicas (quiet.asks q) low (omega arith);
  fences = λ q low. least (since_fence c r q now) (c.replicas + p) (quiet.fences q);
}

one_more : (round n p : ℕ) → n ≤ (round + 1) * n + p
one_more round n p = let one = suc-mul round n in omega (arith, one)

pub fences_quiet : (c : Config) (r round p : ℕ) (now : List Event) → Quiet c r now → FencesNext c r now round p
fences_quiet c r round p now quiet = record {
  asks = λ q low. under_zero (since_ask c r q now) q ((round + 1) * c.replicas + p) c.replicas (quiet.asks q) low (one_more round c.replicas p);
  fenced = λ q low. below_zero (since_fence c r q now) q p (quiet.fences q) low;
  fences = λ q high low. least (since_fence c r q now) (2 * c.replicas + p) (quiet.fences q);
}

left_quiet : (c : Config) (r left : ℕ) (now : List Event) → left ≤ 17 * c.replicas → Quiet c r now → HasStepsLeft c r now left
left_quiet c r left now low quiet = record {
  asks = λ q there. left_zero (since_ask c r q now) left (17 * c.replicas) (quiet.asks q) low;
  fences = λ q there. left_zero (since_fence c r q now) left (17 * c.replicas) (quiet.fences q) low;
}

reads_quiet : (c : Config) (r : ℕ) (now : List Event) → 1 ≤ c.replicas → Quiet c r now → ReadsNext c r now
reads_quiet c r now some quiet = record { first = λ unread. left_quiet c r 1 now (omega arith) quiet; later = λ read. left_quiet c r 0 now (omega arith) quiet }

pub anywhere : (c : Config) (r : ℕ) (now : List Event) (place : Place) → 1 ≤ c.replicas → Quiet c r now → has_min r now ≡ true → ElectsAt c r now place
anywhere c r now (Place.Ask p) some quiet read = asks_quiet c r p now quiet
anywhere c r now (Place.Confirm round p) some quiet read = fences_quiet c r round p now quiet
anywhere c r now (Place.ReadMin p) some quiet read = reads_quiet c r now some quiet
anywhere c r now (Place.Evidence p) some quiet read = left_quiet c r (17 * c.replicas) now (omega arith) quiet
anywhere c r now place some quiet read = record { read = read; left = left_quiet c r 0 now (omega arith) quiet }

pub stays_quiet : (c : Config) (r : ℕ) (mine now : List Event) (place : Place) → Quiet c r now → (has_min r mine ≡ true → has_min r now ≡ true) → ElectsAt c r mine place → ElectsAt c r now place
stays_quiet c r mine now (Place.Ask p) quiet keeps at = asks_quiet c r p now quiet
stays_quiet c r mine now (Place.Confirm round p) quiet keeps at = fences_quiet c r round p now quiet
stays_quiet c r mine now (Place.ReadMin p) quiet keeps at = record {
  first = λ unread. record {
    asks = λ q there. left_zero (since_ask c r q now) 1 (17 * c.replicas) (quiet.asks q) (omega arith);
    fences = λ q there. left_zero (since_fence c r q now) 1 (17 * c.replicas) (quiet.fences q) (omega arith);
  };
  later = λ read. left_quiet c r 0 now (omega arith) quiet;
}
stays_quiet c r mine now (Place.Evidence p) quiet keeps at = left_quiet c r (17 * c.replicas) now (omega arith) quiet
stays_quiet c r mine now place quiet keeps at = record { read = keeps at.read; left = left_quiet c r 0 now (omega arith) quiet }

-- one step more at most
ask_step : (c : Config) (r q : ℕ) (mine : List Event) (e : Event) → since_ask c r q (e ∷ mine) ≤ since_ask c r q mine + 1
ask_step c r q mine e = countdowns_run.asks.step c r (is_asking q) mine e

fence_step : (c : Config) (r q : ℕ) (mine : List Event) (e : Event) → since_fence c r q (e ∷ mine) ≤ since_fence c r q mine + 1
fence_step c r q mine e = countdowns_run.asks.step c r (is_fencing q) mine e

one_below : (a b q p m : ℕ) → b ≤ a + 1 → a + q < p → p + 1 ≤ m → b + q < m
one_below a b q p m step low high = omega arith

one_within : (a b m n : ℕ) → b ≤ a + 1 → a ≤ m → m + 1 ≤ n → b ≤ n
one_within a b m n step low high = omega arith

-- the region p was asked
asked_below : (c : Config) (r p : ℕ) (a : Answer) (mine : List Event) → is_replication mine (event_by r (Verb.Ask p) a) ≡ true → AsksNext c r mine p
    → (q : ℕ) → q < p + 1 → since_ask c r q (event_by r (Verb.Ask p) a ∷ mine) + q < p + 1
asked_below c r p a mine turn at q low = elim (cases_eq q p) [
  | inl same ↦ subst (λ k. since_ask c r k (event_by r (Verb.Ask p) a ∷ mine) + k < p + 1) (sym same)
      (below_zero (since_ask c r p (event_by r (Verb.Ask p) a ∷ mine)) p (p + 1) (countdowns_run.asks.asked c r (is_asking p) mine (event_by r (Verb.Ask p) a) turn (same_number p)) (omega arith))
  | inr other ↦ one_below (since_ask c r q mine) (since_ask c r q (event_by r (Verb.Ask p) a ∷ mine)) q p (p + 1) (ask_step c r q mine (event_by r (Verb.Ask p) a)) (at.asked q (omega arith)) (omega arith)
]

pub asked_next : (c : Config) (r p : ℕ) (a : Answer) (mine : List Event) → is_replication mine (event_by r (Verb.Ask p) a) ≡ true → AsksNext c r mine p → AsksNext c r (event_by r (Verb.Ask p) a ∷ mine) (p + 1)
asked_next c r p a mine turn at =
    let e = event_by r (Verb.Ask p) a in
    record {
      asked = asked_below c r p a mine turn at;
      asks = λ q high low. one_below (since_ask c r q mine) (since_ask c r q (e ∷ mine)) q (17 * c.replicas + p) (17 * c.replicas + (p + 1)) (ask_step c r q mine e) (at.asks q (omega arith) low) (omega arith);
      fences = λ q low. one_within (since_fence c r q mine) (since_fence c r q (e ∷ mine)) (c.replicas + p) (c.replicas + (p + 1)) (fence_step c r q mine e) (at.fences q low) (omega arith);
    }

wider : (a q p m : ℕ) → a + q < p → p ≤ m → a + q < m
wider a q p m low high = omega arith

pub asked_last : (c : Config) (r p : ℕ) (a : Answer) (mine : List Event) → is_replication mine (event_by r (Verb.Ask p) a) ≡ true → p < c.replicas → c.replicas ≤ p + 1 → AsksNext c r mine p → FencesNext c r (event_by r (Verb.Ask p) a ∷ mine) 0 0
asked_last c r p a mine turn low last at =
    let e = event_by r (Verb.Ask p) a in
    record {
      asks = λ q there. wider (since_ask c r q (e ∷ mine)) q (p + 1) ((0 + 1) * c.replicas + 0) (asked_below c r p a mine turn at q (omega arith)) (omega arith);
      fenced = λ q none. absurd (omega arith);
      fences = λ q high there. one_within (since_fence c r q mine) (since_fence c r q (e ∷ mine)) (c.replicas + p) (2 * c.replicas + 0) (fence_step c r q mine e) (at.fences q there) (omega arith);
    }

-- the fence of p was read
fenced_below : (c : Config) (r round p : ℕ) (a : Answer) (mine : List Event) → is_replication mine (event_by r (Verb.Fence p) a) ≡ true → FencesNext c r mine round p
    → (q : ℕ) → q < p + 1 → since_fence c r q (event_by r (Verb.Fence p) a ∷ mine) + q < p + 1
fenced_below c r round p a mine turn at q low = elim (cases_eq q p) [
  | inl same ↦ subst (λ k. since_fence c r k (event_by r (Verb.Fence p) a ∷ mine) + k < p + 1) (sym same)
      (below_zero (since_fence c r p (event_by r (Verb.Fence p) a ∷ mine)) p (p + 1) (countdowns_run.asks.asked c r (is_fencing p) mine (event_by r (Verb.Fence p) a) turn (same_number p)) (omega arith))
  | inr other ↦ one_below (since_fence c r q mine) (since_fence c r q (event_by r (Verb.Fence p) a ∷ mine)) q p (p + 1) (fence_step c r q mine (event_by r (Verb.Fence p) a)) (at.fenced q (omega arith)) (omega arith)
]

fenced_asks : (c : Config) (r round p : ℕ) (e : Event) (mine : List Event) → FencesNext c r mine round p → (q : ℕ) → q < c.replicas → since_ask c r q (e ∷ mine) + q < (round + 1) * c.replicas + p + 1
fenced_asks c r round p e mine at q low = one_below (since_ask c r q mine) (since_ask c r q (e ∷ mine)) q ((round + 1) * c.replicas + p) ((round + 1) * c.replicas + p + 1) (ask_step c r q mine e) (at.asks q low) (omega arith)

next_bound : (m p : ℕ) → m + p + 1 ≤ m + (p + 1)
next_bound m p = omega arith

pub fenced_next : (c : Config) (r round p : ℕ) (a : Answer) (mine : List Event) → is_replication mine (event_by r (Verb.Fence p) a) ≡ true → FencesNext c r mine round p → FencesNext c r (event_by r (Verb.Fence p) a ∷ mine) round (p + 1)
fenced_next c r round p a mine turn at =
    let e = event_by r (Verb.Fence p) a in
    record {
      asks = λ q low. wider (since_ask c r q (e ∷ mine)) q ((round + 1) * c.replicas + p + 1) ((round + 1) * c.replicas + (p + 1)) (fenced_asks c r round p e mine at q low) (next_bound ((round + 1) * c.replicas) p);
      fenced = fenced_below c r round p a mine turn at;
      fences = λ q high low. one_within (since_fence c r q mine) (since_fence c r q (e ∷ mine)) (2 * c.replicas + p) (2 * c.replicas + (p + 1)) (fence_step c r q mine e) (at.fences q (omega arith) low) (omega arith);
    }

-- the last one of a round: another round, asks or minima
few : (a q n m : ℕ) → a + q < n → n ≤ m → a ≤ m
few a q n m low high = omega arith

round_bound : (round n p : ℕ) → p < n → (round + 1) * n + p + 1 ≤ (round + 1 + 1) * n + 0
round_bound round n p low = let one = suc-mul (round + 1) n in omega (arith, one)

pub fenced_round : (c : Config) (r round p : ℕ) (a : Answer) (mine : List Event) → is_replication mine (event_by r (Verb.Fence p) a) ≡ true → p < c.replicas → c.replicas ≤ p + 1 → FencesNext c r mine round p
    → FencesNext c r (event_by r (Verb.Fence p) a ∷ mine) (round + 1) 0
fenced_round c r round p a mine turn low last at =
    let e = event_by r (Verb.Fence p) a in
    record {
      asks = λ q there. wider (since_ask c r q (e ∷ mine)) q ((round + 1) * c.replicas + p + 1) ((round + 1 + 1) * c.replicas + 0) (fenced_asks c r round p e mine at q there) (round_bound round c.replicas p low);
      fenced = λ q none. absurd (omega arith);
      fences = λ q high there. few (since_fence c r q (e ∷ mine)) q (p + 1) (2 * c.replicas + 0) (fenced_below c r round p a mine turn at q (omega arith)) (omega arith);
    }

pub all_rounds : (round n p : ℕ) → round < 16 → p < n → (round + 1) * n + p + 1 ≤ 17 * n
all_rounds round n p within low = let most = mul-le (round + 1) n 16 n (omega arith) (omega arith) in omega (arith, most)

one_left : (a q m : ℕ) → a + q < m → a + 1 ≤ m
one_left a q m low = omega arith

pub fenced_asked : (c : Config) (r round p : ℕ) (a : Answer) (mine : List Event) → is_replication mine (event_by r (Verb.Fence p) a) ≡ true → p < c.replicas → c.replicas ≤ p + 1 → round < 16 → FencesNext c r mine round p
    → AsksNext c r (event_by r (Verb.Fence p) a ∷ mine) 0
fenced_asked c r round p a mine turn low last within at =
    let e = event_by r (Verb.Fence p) a in
    record {
      asked = λ q none. absurd (omega arith);
      asks = λ q high there. wider (since_ask c r q (e ∷ mine)) q ((round + 1) * c.replicas + p + 1) (17 * c.replicas + 0) (fenced_asks c r round p e mine at q there) (let most = all_rounds round c.replicas p within low in omega (arith, most));
      fences = λ q there. few (since_fence c r q (e ∷ mine)) q (p + 1) (c.replicas + 0) (fenced_below c r round p a mine turn at q (omega arith)) (omega arith);
    }

pub fenced_reads : (c : Config) (r round p : ℕ) (a : Answer) (mine : List Event) → is_replication mine (event_by r (Verb.Fence p) a) ≡ true → p < c.replicas → c.replicas ≤ p + 1 → round < 16 → FencesNext c r mine round p
    → HasStepsLeft c r (event_by r (Verb.Fence p) a ∷ mine) 1
fenced_reads c r round p a mine turn low last within at =
    let e = event_by r (Verb.Fence p) a in
    record {
      asks = λ q there. one_left (since_ask c r q (e ∷ mine)) q (17 * c.replicas) (wider (since_ask c r q (e ∷ mine)) q ((round + 1) * c.replicas + p + 1) (17 * c.replicas) (fenced_asks c r round p e mine at q there) (all_rounds round c.replicas p within low));
      fences = λ q there. one_left (since_fence c r q (e ∷ mine)) q (17 * c.replicas) (wider (since_fence c r q (e ∷ mine)) q (p + 1) (17 * c.replicas) (fenced_below c r round p a mine turn at q (omega arith)) (omega arith));
    }

-- a step takes one of those that are left
one_less : (a b l m : ℕ) → b ≤ a + 1 → a + (l + 1) ≤ m → b + l ≤ m
one_less a b l m step low = omega arith

left_less : (c : Config) (r left : ℕ) (mine : List Event) (e : Event) → HasStepsLeft c r mine (left + 1) → HasStepsLeft c r (e ∷ mine) left
left_less c r left mine e at = record {
  asks = λ q there. one_less (since_ask c r q mine) (since_ask c r q (e ∷ mine)) left (17 * c.replicas) (ask_step c r q mine e) (at.asks q there);
  fences = λ q there. one_less (since_fence c r q mine) (since_fence c r q (e ∷ mine)) left (17 * c.replicas) (fence_step c r q mine e) (at.fences q there);
}

-- if the leadership has just ended
just_asks : (a b q n p : ℕ) → b ≤ a + 1 → a + 17 * n ≤ 17 * n → q < n → b + q < 17 * n + p
just_asks a b q n p step none low = omega arith

just_fences : (a b q n p : ℕ) → b ≤ a + 1 → a + 17 * n ≤ 17 * n → q < n → b ≤ n + p
just_fences a b q n p step none low = omega arith

pub ended_asks : (c : Config) (r : ℕ) (mine : List Event) (e : Event) → HasStepsLeft c r mine (17 * c.replicas) → AsksNext c r (e ∷ mine) 0
ended_asks c r mine e at = record {
  asked = λ q none. absurd (omega arith);
  asks = λ q high there. just_asks (since_ask c r q mine) (since_ask c r q (e ∷ mine)) q c.replicas 0 (ask_step c r q mine e) (at.asks q there) there;
  fences = λ q there. just_fences (since_fence c r q mine) (since_fence c r q (e ∷ mine)) q c.replicas 0 (fence_step c r q mine e) (at.fences q there) there;
}

-- once a minimum was read
pub led_anywhere : (c : Config) (r : ℕ) (now : List Event) (place : Place) → leads_at place ≡ true → HasLed c r now → ElectsAt c r now place
led_anywhere c r now (Place.Ask p) leading led = absurd (true≢false (sym leading))
led_anywhere c r now (Place.Confirm round p) leading led = absurd (true≢false (sym leading))
led_anywhere c r now (Place.Evidence p) leading led = absurd (true≢false (sym leading))
led_anywhere c r now (Place.ReadMin p) leading led = record { first = λ unread. absurd (true≢false (sym led.read ∙ unread)); later = λ read. led.left }
led_anywhere c r now place leading led = led

pub min_left : (c : Config) (r p : ℕ) (a : Answer) (mine : List Event) → is_replication mine (event_by r (Verb.Min p) a) ≡ true → is_over r mine ≡ false → ReadsNext c r mine → HasStepsLeft c r (event_by r (Verb.Min p) a ∷ mine) 0
min_left c r p a mine turn going at = go (has_min r mine) refl
  where
    go : (t : Bool) → has_min r mine ≡ t → HasStepsLeft c r (event_by r (Verb.Min p) a ∷ mine) 0
    go true read = left_quiet c r 0 (event_by r (Verb.Min p) a ∷ mine) (omega arith) (quiet_led c r mine (event_by r (Verb.Min p) a) turn read going)
    go false unread = left_less c r 0 mine (event_by r (Verb.Min p) a) (at.first unread)

-- a confirmed leadership reads minima, as no region is a member yet
pub reads_on : (c : Config) (r : ℕ) (now : List Event) (place : Place) → reads_first place ≡ true → 0 < c.replicas → (place ≡ Place.Rest → AtRest c r now) → is_member r 0 now ≡ false → HasStepsLeft c r now 1 → ElectsAt c r now place
reads_on c r now (Place.ReadMin p) reads some rests alone left = record {
  first = λ unread. left;
  later = λ read. record { asks = λ q there. let l = left.asks q there in omega (arith, l); fences = λ q there. let l = left.fences q there in omega (arith, l) };
}
reads_on c r now Place.Rest reads some rests alone left = absurd (true≢false (sym ((rests refl).members 0 some) ∙ alone))
reads_on c r now place reads some rests alone left = absurd (true≢false (sym reads))

-- no leadership is over if it leads
pub leads_on : (c : Config) (r b : ℕ) (mine : List Event) (up : List ℕ) (reach : List (Option ℕ)) (written : List ℕ) (verb : Verb) (values : List ℕ) (place : Place) → leads_at place ≡ true → verb_at c b values up written place ≡ Some verb
    → At c r b mine up reach written place → is_over r mine ≡ false
leads_on c r b mine up reach written verb values (Place.Ask p) leading due at = absurd (true≢false (sym leading))
leads_on c r b mine up reach written verb values (Place.Confirm round p) leading due at = absurd (true≢false (sym leading))
leads_on c r b mine up reach written verb values (Place.Evidence p) leading due at = absurd (true≢false (sym leading))
leads_on c r b mine up reach written verb values (Place.ReadMin p) leading due at = at.telling.fresh.goes_on
leads_on c r b mine up reach written verb values (Place.EnterMin p) leading due at = at.numbered.goes_on
leads_on c r b mine up reach written verb values (Place.PutMin p) leading due at = at.entering.numbered.goes_on
leads_on c r b mine up reach written verb values (Place.ReadFuo p source) leading due at = at.leads.goes_on
leads_on c r b mine up reach written verb values (Place.Learn p) leading due at = at.leads.goes_on
leads_on c r b mine up reach written verb values (Place.WidenBehind p on) leading due at = at.behind.leads.goes_on
leads_on c r b mine up reach written verb values (Place.LookBehind p on) leading due at = at.behind.leads.goes_on
leads_on c r b mine up reach written verb values (Place.EnterBehind p on) leading due at = at.near.behind.leads.goes_on
leads_on c r b mine up reach written verb values (Place.PutBehind p on) leading due at = at.near.behind.leads.goes_on
leads_on c r b mine up reach written verb values (Place.RaiseBehind p on) leading due at = at.behind.leads.goes_on
leads_on c r b mine up reach written verb values (Place.FenceBehind p on) leading due at = at.near.behind.leads.goes_on
leads_on c r b mine up reach written verb values (Place.LateFence p) leading due at = at.level.leads.goes_on
leads_on c r b mine up reach written verb values (Place.LateMin p) leading due at = at.late.level.leads.goes_on
leads_on c r b mine up reach written verb values (Place.LateFuo p) leading due at = at.late.level.leads.goes_on
leads_on c r b mine up reach written verb values (Place.LateEnter p) leading due at = at.told.late.level.leads.goes_on
leads_on c r b mine up reach written verb values (Place.LatePut p) leading due at = at.entering.told.late.level.leads.goes_on
leads_on c r b mine up reach written verb values (Place.ReadHead q candidate) leading due at = at.level.leads.goes_on
leads_on c r b mine up reach written verb values (Place.Look p i candidate best) leading due at = at.looking.level.leads.goes_on
leads_on c r b mine up reach written verb values (Place.Write j last offer) leading due at = at.0.writing.looking.level.leads.goes_on
leads_on c r b mine up reach written verb values (Place.Enter p offer) leading due at = at.0.offering.goes_on
leads_on c r b mine up reach written verb values (Place.Put p offer) leading due at = at.0.entering.offering.goes_on
leads_on c r b mine up reach written verb values (Place.Raise p) leading due at = at.leads.goes_on
leads_on c r b mine up reach written verb values Place.Outrun leading due at = absurd (none_some verb due)
leads_on c r b mine up reach written verb values Place.Rest leading due at = absurd (none_some verb due)

-- so the minimum that was read stays read
pub read_on : (r : ℕ) (verb : Verb) (a : Answer) (mine : List Event) → is_ask verb ≡ false → has_min r mine ≡ true → has_min r (event_by r verb a ∷ mine) ≡ true
read_on r (Verb.Ask p) a mine none read = absurd (true≢false none)
read_on r (Verb.Min p) a mine none read = later_read r p a mine read
read_on r verb a mine none read = read
