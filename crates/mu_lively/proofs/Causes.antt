-- The cause of each ask, step by step.
use Rattle.std.proofs.Common.{zero, suc, ◌≡◌, ℕ, ◌+◌, ◌<◌, ◌≤◌, ◌==◌, ◌⊎◌, inl, inr, Bool, true, false, ◌&&◌, ◌||◌, List, [], ◌∷◌, None, Some, refl, sym, ◌∙◌, ap, subst, arith, true≢false}
use Rattle.std.specs.Prelude.{if◌then◌else◌, nat_le, not}
use Rattle.std.specs.declared.option.Option.{Option}
use Rattle.std.proofs.lemmas.Bool.{and_from, cases_eq, eqb-true, le-leb, ne_eqb, not_from_false, or_left, or_right}
use Rattle.mu_model.specs.declared.config.Config.{Config}
use Rattle.mu_model.specs.declared.event.Answer.{Answer}
use Rattle.mu_model.specs.declared.event.Event.{Event}
use Rattle.mu_model.specs.declared.event.Verb.{Verb}
use Rattle.mu_model.specs.Diligence.{may_ask_anew, was_unnamed}
use Rattle.mu_model.specs.Histories.{all_below, how_many, event_by}
use Rattle.mu_model.specs.Knowledge.{known}
use Rattle.mu_model.specs.Leaderships.{begins_leadership, has_begun, is_over, leadership}
use Rattle.mu_model.specs.Steps.{has_min, is_asking_verb, is_fencing, is_named}
use Rattle.mu_model.specs.Stretches.{is_replication}
use Rattle.mu_model.proofs.Basics.{same_number, same_some}
use Rattle.mu_model.proofs.Scans.{each_all}
use Rattle.mu_pace.specs.Keeping.{HasCause}
use Rattle.mu_lead.specs.declared.place.Place.{Place}
use Rattle.mu_lively.specs.Lasting.{Lasts}
use Rattle.mu_lead.specs.Lasting.{step_of}
use Rattle.mu_lead.specs.Listing.{next_place}
use Rattle.mu_lively.proofs.Onwards.{listing_goes}
use Rattle.mu_lead.specs.Beside.{is_beside, leads_at}
use Rattle.mu_lively.specs.Causes.{CausesAt, HasReadRounds, MayAsk}
use Rattle.mu_lively.specs.Gathering.{GoesFrom, ends_at, reads_first}
use Rattle.mu_lead.specs.Standing.{At, verb_at}
use Rattle.mu_lively.proofs.Elections.{min_beside}
use Rattle.mu_lively.proofs.Resigning.{left_unnamed}

-- why r may ask anew
may_over : (c : Config) (r : ℕ) (mine : List Event) → is_over r mine ≡ true → may_ask_anew c r mine ≡ true
may_over c r mine over = or_right (not (has_begun r mine)) _ (or_left (is_over r mine) _ over)

may_left : (c : Config) (r : ℕ) (mine : List Event) → was_unnamed c r mine ≡ true → may_ask_anew c r mine ≡ true
may_left c r mine left = or_right (not (has_begun r mine)) _ (or_right (is_over r mine) _ (or_left (was_unnamed c r mine) _ left))

may_unconfirmed : (c : Config) (r : ℕ) (mine : List Event) → has_min r mine ≡ false → ((q : ℕ) → q < c.replicas → 16 ≤ how_many (is_fencing q) (leadership r mine)) → may_ask_anew c r mine ≡ true
may_unconfirmed c r mine unread rounds =
    let all = each_all c.replicas (λ q. nat_le 16 (how_many (is_fencing q) (leadership r mine))) (λ q low. le-leb 16 (how_many (is_fencing q) (leadership r mine)) (rounds q low)) in
    or_right (not (has_begun r mine)) _ (or_right (is_over r mine) _ (or_right (was_unnamed c r mine) _ (and_from (not (has_min r mine)) _ (not_from_false (has_min r mine) unread) all)))

-- if it is led on no ask is next
led_causes : (c : Config) (r : ℕ) (now : List Event) (place : Place) → leads_at place ≡ true → CausesAt c r now place
led_causes c r now (Place.Ask p) leading = absurd (true≢false (sym leading))
led_causes c r now (Place.Confirm round p) leading = absurd (true≢false (sym leading))
led_causes c r now (Place.Evidence p) leading = absurd (true≢false (sym leading))
led_causes c r now place leading = tt

-- if it is over one has a cause
ended_causes : (c : Config) (r : ℕ) (now : List Event) (place : Place) → is_over r now ≡ true → ends_at place ≡ true → CausesAt c r now place
ended_causes c r now (Place.Ask p) over ends = record { first = λ first. may_over c r now over; later = λ other. absurd (other (eqb-true p 0 ends)) }
ended_causes c r now (Place.Evidence p) over ends = over
ended_causes c r now place over ends = absurd (true≢false (sym ends))

-- the fence of p was read once more
fenced_more : (r p q : ℕ) (a : Answer) (mine : List Event) → how_many (is_fencing q) (leadership r mine) ≤ how_many (is_fencing q) (leadership r (event_by r (Verb.Fence p) a ∷ mine))
fenced_more r p q a mine = go (p == q)
  where
    go : (t : Bool) → how_many (is_fencing q) (leadership r mine) ≤ (if t then how_many (is_fencing q) (leadership r mine) + 1 else how_many (is_fencing q) (leadership r mine))
    go true = omega arith
    go false = omega arith

fenced_here : (r p : ℕ) (a : Answer) (mine : List Event) → how_many (is_fencing p) (leadership r (event_by r (Verb.Fence p) a ∷ mine)) ≡ how_many (is_fencing p) (leadership r mine) + 1
fenced_here r p a mine = ap (λ t. if t then how_many (is_fencing p) (leadership r mine) + 1 else how_many (is_fencing p) (leadership r mine)) (same_number p)

more_of : (a b m : ℕ) → m ≤ a → a ≤ b → m ≤ b
more_of a b m low high = omega arith

one_of : (a b m : ℕ) → m ≤ a → b ≡ a + 1 → m + 1 ≤ b
one_of a b m low more = omega arith

read_below : (c : Config) (r round p : ℕ) (a : Answer) (mine : List Event) → p < c.replicas → HasReadRounds c r mine round p
    → (q : ℕ) → q < p + 1 → round + 1 ≤ how_many (is_fencing q) (leadership r (event_by r (Verb.Fence p) a ∷ mine))
read_below c r round p a mine low at q there = elim (cases_eq q p) [
  | inl same ↦ subst (λ k. round + 1 ≤ how_many (is_fencing k) (leadership r (event_by r (Verb.Fence p) a ∷ mine))) (sym same)
      (one_of (how_many (is_fencing p) (leadership r mine)) (how_many (is_fencing p) (leadership r (event_by r (Verb.Fence p) a ∷ mine))) round (at.each p low) (fenced_here r p a mine))
  | inr other ↦ more_of (how_many (is_fencing q) (leadership r mine)) (how_many (is_fencing q) (leadership r (event_by r (Verb.Fence p) a ∷ mine))) (round + 1) (at.below q (omega arith)) (fenced_more r p q a mine)
]

-- the next fence of the round, the first of the next one, or asks
read_next : (c : Config) (r round p : ℕ) (a : Answer) (mine : List Event) → p < c.replicas → HasReadRounds c r mine round p → HasReadRounds c r (event_by r (Verb.Fence p) a ∷ mine) round (p + 1)
read_next c r round p a mine low at = record {
  unread = at.unread;
  below = read_below c r round p a mine low at;
  each = λ q there. more_of (how_many (is_fencing q) (leadership r mine)) (how_many (is_fencing q) (leadership r (event_by r (Verb.Fence p) a ∷ mine))) round (at.each q there) (fenced_more r p q a mine);
}

read_round : (c : Config) (r round p : ℕ) (a : Answer) (mine : List Event) → p < c.replicas → c.replicas ≤ p + 1 → HasReadRounds c r mine round p → HasReadRounds c r (event_by r (Verb.Fence p) a ∷ mine) (round + 1) 0
read_round c r round p a mine low last at = record { unread = at.unread; below = λ q none. absurd (omega arith); each = λ q there. read_below c r round p a mine low at q (omega arith) }

read_all : (c : Config) (r round p : ℕ) (a : Answer) (mine : List Event) → p < c.replicas → c.replicas ≤ p + 1 → 15 ≤ round → HasReadRounds c r mine round p → may_ask_anew c r (event_by r (Verb.Fence p) a ∷ mine) ≡ true
read_all c r round p a mine low last high at =
    may_unconfirmed c r (event_by r (Verb.Fence p) a ∷ mine) at.unread
    (λ q there. more_of (round + 1) (how_many (is_fencing q) (leadership r (event_by r (Verb.Fence p) a ∷ mine))) 16 (omega arith) (read_below c r round p a mine low at q (omega arith)))

first_causes : (c : Config) (r : ℕ) (now : List Event) (place : Place) → reads_first place ≡ true → CausesAt c r now place
first_causes c r now (Place.Ask p) reads = absurd (true≢false (sym reads))
first_causes c r now (Place.Confirm round p) reads = absurd (true≢false (sym reads))
first_causes c r now (Place.Evidence p) reads = absurd (true≢false (sym reads))
first_causes c r now place reads = tt

-- what a step from a place to the next one gives
abbrev pub Caused : Config → ℕ → List Event → Answer → Place → Place → Verb → Type 0
Caused c r mine a place next verb = GoesFrom c.replicas r (event_by r verb a ∷ mine) place next → CausesAt c r (event_by r verb a ∷ mine) next

asked_unread : (c : Config) (r p : ℕ) (a : Answer) (mine : List Event) → MayAsk c r mine p → has_min r (event_by r (Verb.Ask p) a ∷ mine) ≡ false
asked_unread c r p a mine at = elim (cases_eq p 0) [
  | inl first ↦ subst (λ q. has_min r (event_by r (Verb.Ask q) a ∷ mine) ≡ false) (sym first) (rw (same_number r) refl)
  | inr other ↦ rw (same_number r, ne_eqb p 0 other) (at.later other)
]

causes_asked : (c : Config) (r p : ℕ) (a : Answer) (mine : List Event) (next : Place) → MayAsk c r mine p → Caused c r mine a (Place.Ask p) next (Verb.Ask p)
causes_asked c r p a mine next at goes =
    let now = event_by r (Verb.Ask p) a ∷ mine in
    elim goes [
      | inl is ↦ subst (CausesAt c r now) (sym is) (record { first = λ first. absurd (omega arith); later = λ other. asked_unread c r p a mine at })
      | inr x ↦ subst (CausesAt c r now) (sym x.1) (record { unread = asked_unread c r p a mine at; below = λ q none. absurd (omega arith); each = λ q there. omega arith })
    ]

causes_fenced : (c : Config) (r round p : ℕ) (a : Answer) (mine : List Event) (next : Place) → p < c.replicas → HasReadRounds c r mine round p → Caused c r mine a (Place.Confirm round p) next (Verb.Fence p)
causes_fenced c r round p a mine next low at goes =
    let now = event_by r (Verb.Fence p) a ∷ mine in
    elim goes [
      | inl is ↦ subst (CausesAt c r now) (sym is) (read_next c r round p a mine low at)
      | inr x ↦ elim x.1 [
        | inl y ↦ subst (CausesAt c r now) (sym y.1) (read_round c r round p a mine low x.0 at)
        | inr z ↦ elim z [
          | inl y ↦ subst (CausesAt c r now) (sym y.1) (record { first = λ first. read_all c r round p a mine low x.0 y.0 at; later = λ other. absurd (other refl) })
          | inr reads ↦ first_causes c r now next reads
        ]
      ]
    ]

-- a leadership that is over stays so
over_on : (r : ℕ) (verb : Verb) (a : Answer) (mine : List Event) → begins_leadership r (event_by r verb a) ≡ false → is_over r mine ≡ true → is_over r (event_by r verb a ∷ mine) ≡ true
over_on r verb a mine none over = rw (none, over) (or_right _ true refl)

causes_ended : (c : Config) (r p : ℕ) (a : Answer) (mine : List Event) (next : Place) → is_over r mine ≡ true → Caused c r mine a (Place.Evidence p) next (Verb.Fence p)
causes_ended c r p a mine next over goes =
    let now = event_by r (Verb.Fence p) a ∷ mine in
    subst (CausesAt c r now) (sym goes) (record { first = λ first. may_over c r now (over_on r (Verb.Fence p) a mine refl over); later = λ other. absurd (other refl) })

-- from each place
causes_from : (c : Config) (r b : ℕ) (mine : List Event) (up : List ℕ) (reach : List (Option ℕ)) (written values : List ℕ) (verb : Verb) (a : Answer) (place next : Place) → At c r b mine up reach written place
    → verb_at c b values up written place ≡ Some verb → CausesAt c r mine place → Caused c r mine a place next verb
causes_from c r b mine up reach written values verb a (Place.Ask p) next at due causes =
    subst (Caused c r mine a (Place.Ask p) next) (same_some (Verb.Ask p) verb due) (causes_asked c r p a mine next causes)
causes_from c r b mine up reach written values verb a (Place.Confirm round p) next at due causes =
    subst (Caused c r mine a (Place.Confirm round p) next) (same_some (Verb.Fence p) verb due) (causes_fenced c r round p a mine next at.1.region causes)
causes_from c r b mine up reach written values verb a (Place.Evidence p) next at due causes =
    subst (Caused c r mine a (Place.Evidence p) next) (same_some (Verb.Fence p) verb due) (causes_ended c r p a mine next causes)
causes_from c r b mine up reach written values verb a (Place.ReadMin p) next at due causes = λ goes. led_causes c r (event_by r verb a ∷ mine) next goes
causes_from c r b mine up reach written values verb a place next at due causes = λ goes. elim goes [
  | inl leading ↦ led_causes c r (event_by r verb a ∷ mine) next leading
  | inr ended ↦ ended_causes c r (event_by r verb a ∷ mine) next ended.0 ended.1
]

-- each ask of the listing has its cause
pub asks_have_cause : Lasts CausesAt
asks_have_cause c r b mine up reach written t Place.Outrun a is inside at possible turn causes = causes
asks_have_cause c r b mine up reach written t Place.Rest a is inside at possible turn causes = causes
asks_have_cause c r b mine up reach written t place a is inside at possible turn causes =
    let e = step_of c r b mine up written place a in
    causes_from c r b mine up reach written (known c r mine) e.verb a place (next_place c r b (e ∷ mine) t a place) at refl causes (listing_goes c r b mine up reach written t place a at possible)

-- what another machine does leaves what r may do
beside_over : (r : ℕ) (leading : Bool) (verb : Verb) (a : Answer) (mine : List Event) → is_beside leading verb ≡ true → is_over r (event_by r verb a ∷ mine) ≡ is_over r mine
beside_over r leading (Verb.Ask p) a mine beside = absurd (true≢false (sym beside))
beside_over r leading (Verb.Fence p) a mine beside = absurd (true≢false (sym beside))
beside_over r leading (Verb.Min p) a mine beside = absurd (true≢false (sym beside))
beside_over r leading (Verb.Enter p t) a mine beside = absurd (true≢false (sym beside))
beside_over r leading (Verb.PutMin p b) a mine beside = absurd (true≢false (sym beside))
beside_over r leading (Verb.PutSlot p i b v) a mine beside = absurd (true≢false (sym beside))
beside_over r leading verb a mine beside = refl

beside_begun : (r : ℕ) (leading : Bool) (verb : Verb) (a : Answer) (mine : List Event) → is_beside leading verb ≡ true → has_begun r (event_by r verb a ∷ mine) ≡ has_begun r mine
beside_begun r leading (Verb.Ask p) a mine beside = absurd (true≢false (sym beside))
beside_begun r leading verb a mine beside = refl

beside_fences : (r q : ℕ) (leading : Bool) (verb : Verb) (a : Answer) (mine : List Event) → is_beside leading verb ≡ true → how_many (is_fencing q) (leadership r (event_by r verb a ∷ mine)) ≡ how_many (is_fencing q) (leadership r mine)
beside_fences r q leading (Verb.Ask p) a mine beside = absurd (true≢false (sym beside))
beside_fences r q leading (Verb.Fence p) a mine beside = absurd (true≢false (sym beside))
beside_fences r q leading verb a mine beside = refl

still_left : (t u : Bool) → u ≡ true → (if t then true else u) ≡ true
still_left true u left = refl
still_left false u left = left

beside_left : (c : Config) (r : ℕ) (leading : Bool) (verb : Verb) (a : Answer) (mine : List Event) → is_beside leading verb ≡ true → was_unnamed c r mine ≡ true → was_unnamed c r (event_by r verb a ∷ mine) ≡ true
beside_left c r leading (Verb.Ask p) a mine beside left = absurd (true≢false (sym beside))
beside_left c r leading verb a mine beside left = still_left (is_replication mine (event_by r verb a) && not (is_named c r mine)) (was_unnamed c r mine) left

same_all : (n : ℕ) (f g : ℕ → Bool) → ((q : ℕ) → f q ≡ g q) → all_below n f ≡ all_below n g
same_all zero f g same = refl
same_all (suc n) f g same = rw (same n, same_all n f g same) refl

any_of : (a b l d x y z w : Bool) → x ≡ a → y ≡ b → (l ≡ true → z ≡ true) → w ≡ d → (a || (b || (l || d))) ≡ true → (x || (y || (z || w))) ≡ true
any_of true b l d x y z w ha hb hl hd may = or_left x _ ha
any_of false true l d x y z w ha hb hl hd may = or_right x _ (or_left y _ hb)
any_of false false true d x y z w ha hb hl hd may = or_right x _ (or_right y _ (or_left z w (hl refl)))
any_of false false false d x y z w ha hb hl hd may = or_right x _ (or_right y _ (or_right z w (hd ∙ may)))

may_beside : (c : Config) (r : ℕ) (leading : Bool) (verb : Verb) (a : Answer) (mine : List Event) → is_beside leading verb ≡ true → may_ask_anew c r mine ≡ true → may_ask_anew c r (event_by r verb a ∷ mine) ≡ true
may_beside c r leading verb a mine beside may =
    let now = event_by r verb a ∷ mine in
    any_of (not (has_begun r mine)) (is_over r mine) (was_unnamed c r mine) (not (has_min r mine) && all_below c.replicas (λ q. nat_le 16 (how_many (is_fencing q) (leadership r mine))))
    (not (has_begun r now)) (is_over r now) (was_unnamed c r now) (not (has_min r now) && all_below c.replicas (λ q. nat_le 16 (how_many (is_fencing q) (leadership r now))))
    (ap not (beside_begun r leading verb a mine beside)) (beside_over r leading verb a mine beside) (beside_left c r leading verb a mine beside)
    (rw (min_beside r leading verb a mine beside, same_all c.replicas (λ q. nat_le 16 (how_many (is_fencing q) (leadership r now))) (λ q. nat_le 16 (how_many (is_fencing q) (leadership r mine))) (λ q. ap (nat_le 16) (beside_fences r q leading verb a mine beside))) refl) may

pub causes_beside : (c : Config) (r : ℕ) (mine : List Event) (leading : Bool) (place : Place) (verb : Verb) (a : Answer) → is_beside leading verb ≡ true → CausesAt c r mine place → CausesAt c r (event_by r verb a ∷ mine) place
causes_beside c r mine leading (Place.Ask p) verb a beside at = record {
  first = λ first. may_beside c r leading verb a mine beside (at.first first);
  later = λ other. min_beside r leading verb a mine beside ∙ at.later other;
}
causes_beside c r mine leading (Place.Evidence p) verb a beside at = beside_over r leading verb a mine beside ∙ at
causes_beside c r mine leading (Place.Confirm round p) verb a beside at = record {
  unread = min_beside r leading verb a mine beside ∙ at.unread;
  below = λ q low. subst (λ k. round + 1 ≤ k) (sym (beside_fences r q leading verb a mine beside)) (at.below q low);
  each = λ q low. subst (λ k. round ≤ k) (sym (beside_fences r q leading verb a mine beside)) (at.each q low);
}
causes_beside c r mine leading place verb a beside at = at

pub causes_unnamed : (c : Config) (r : ℕ) (mine : List Event) (old new : Place) (leading : Bool) (verb : Verb) (a : Answer) → is_replication mine (event_by r verb a) ≡ true → is_named c r mine ≡ false → is_beside leading verb ≡ true
    → (new ≡ old) ⊎ (new ≡ Place.Ask 0) → CausesAt c r mine old → CausesAt c r (event_by r verb a ∷ mine) new
causes_unnamed c r mine old new leading verb a turn unnamed beside goes at =
    let now = event_by r verb a ∷ mine in
    elim goes [
      | inl same ↦ subst (CausesAt c r now) (sym same) (causes_beside c r mine leading old verb a beside at)
      | inr begins ↦ subst (CausesAt c r now) (sym begins) (record { first = λ first. may_left c r now (left_unnamed (is_replication mine (event_by r verb a)) (is_named c r mine) _ turn unnamed); later = λ other. absurd (other refl) })
    ]

-- a leader asks for the first region only at the place that begins
abbrev pub is_first_due : Option Verb → Bool
is_first_due None = false
is_first_due (Some verb) = is_asking_verb 0 verb

pub begins_with : (c : Config) (r b : ℕ) (mine : List Event) (values up written : List ℕ) (place : Place) → is_first_due (verb_at c b values up written place) ≡ true → CausesAt c r mine place → may_ask_anew c r mine ≡ true
begins_with c r b mine values up written (Place.Ask p) asks at = at.first (eqb-true p 0 asks)
begins_with c r b mine values up written place asks at = absurd (true≢false (sym asks))

-- another machine never asks
asks_nothing : (leading : Bool) (verb : Verb) (q : ℕ) → is_beside leading verb ≡ true → is_asking_verb q verb ≡ false
asks_nothing leading (Verb.Ask p) q beside = absurd (true≢false (sym beside))
asks_nothing leading verb q beside = refl

pub others_have_cause : (c : Config) (r : ℕ) (mine : List Event) (leading : Bool) (verb : Verb) (a : Answer) → is_beside leading verb ≡ true → HasCause c r mine (event_by r verb a)
others_have_cause c r mine leading verb a beside = record {
  named = λ p asks. absurd (true≢false (sym asks ∙ asks_nothing leading verb p beside));
  anew = λ asks. absurd (true≢false (sym asks ∙ asks_nothing leading verb 0 beside));
}

-- before any event
pub causes_start : (c : Config) (r : ℕ) → CausesAt c r [] (Place.Ask 0)
causes_start c r = record { first = λ first. refl; later = λ other. absurd (other refl) }
