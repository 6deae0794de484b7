-- What the other machines do in the background leaves the rooms of the leader.
use Rattle.std.proofs.Common.{◌≡◌, ℕ, Bool, true, false, List, ◌∷◌, refl, sym, ◌∙◌, ap, subst, true≢false, inl, inr}
use Rattle.mu_model.specs.declared.config.Config.{Config}
use Rattle.mu_model.specs.declared.event.Answer.{Answer}
use Rattle.mu_model.specs.declared.event.Event.{Event}
use Rattle.mu_model.specs.declared.event.Verb.{Verb}
use Rattle.mu_model.specs.Bounds.{members}
use Rattle.mu_model.specs.Diligence.{was_unnamed}
use Rattle.mu_model.specs.Leaderships.{is_member, is_over}
use Rattle.mu_model.specs.Steps.{has_min, is_named, leads}
use Rattle.mu_model.specs.Stretches.{is_replication}
use Rattle.mu_model.specs.Histories.{event_by}
use Rattle.mu_pace.specs.Beside.{is_beside}
use Rattle.mu_pace.specs.Members.{members_below, members_from}
use Rattle.mu_pace.specs.Placed.{IsPlacedAt}
use Rattle.mu_pace.specs.Weights.{Bringing, Lag, Stage}
use Rattle.mu_pace.proofs.Away.{away_is_in_time}
use Rattle.mu_pace.proofs.Placed.{places_lead}
use Rattle.std.specs.Prelude.{if◌then◌else◌, is_some, not, ◌&&◌}
use Rattle.std.specs.declared.option.Option.{Option}
use Rattle.mu_pace.specs.Away.{IsAway, LooksBeside}
use Rattle.mu_lead.specs.Beside.{is_beside as is_beside_leader, leads_at}
use Rattle.mu_lead.specs.Confirming.{Fresh}
use Rattle.mu_lead.specs.Standing.{At}
use Rattle.mu_lead.proofs.NoteKinds.{is_look}
use Rattle.mu_lead.specs.declared.place.Place.{Place}
use Rattle.mu_lead.specs.declared.place.Then.{Then}
use Rattle.mu_lively.specs.Rooms.{IsLed, IsOut, IsWaiting, RoomsAt, lag_of, sizes_of, stage_of}

-- the event changes nothing of the terms of the leadership
record Unmoved (c : Config) (r : ℕ) (mine : List Event) (e : Event) : Type 0 where
  turn : is_replication mine e ≡ false
  beside : is_beside e.verb ≡ true
  read : has_min r (e ∷ mine) ≡ has_min r mine
  led : leads r (e ∷ mine) ≡ leads r mine
  unnamed : was_unnamed c r (e ∷ mine) ≡ was_unnamed c r mine
  over : is_over r (e ∷ mine) ≡ is_over r mine
  member : (p : ℕ) → is_member r p (e ∷ mine) ≡ is_member r p mine
  all : members c r (e ∷ mine) ≡ members c r mine
  from : (p : ℕ) → members_from c r p (e ∷ mine) ≡ members_from c r p mine
  below : (p : ℕ) → members_below c r p (e ∷ mine) ≡ members_below c r p mine

-- outside of the leader's turns nobody is left unnamed
unnamed_on : (turn named was : Bool) → turn ≡ false → (if turn && not named then true else was) ≡ was
unnamed_on turn named was h = rw h refl

unmoved : (c : Config) (r : ℕ) (mine : List Event) (by : ℕ) (v : Verb) (a : Answer) → is_replication mine (event_by by v a) ≡ false → is_beside v ≡ true → Unmoved c r mine (event_by by v a)
unmoved c r mine by (Verb.Ask p) a turn h = absurd (true≢false (sym h))
unmoved c r mine by (Verb.Fence p) a turn h = absurd (true≢false (sym h))
unmoved c r mine by (Verb.Min p) a turn h = absurd (true≢false (sym h))
unmoved c r mine by (Verb.Enter p t) a turn h = absurd (true≢false (sym h))
unmoved c r mine by (Verb.PutMin p b) a turn h = absurd (true≢false (sym h))
unmoved c r mine by (Verb.Look p i) a turn h = absurd (true≢false (sym h))
unmoved c r mine by (Verb.PutSlot p i b v) a turn h = absurd (true≢false (sym h))
unmoved c r mine by v a turn h = record { turn = turn; beside = h; read = refl; led = refl; unnamed = unnamed_on (is_replication mine (event_by by v a)) (is_named c r mine) (was_unnamed c r mine) turn; over = refl; member = λ p. refl; all = refl; from = λ p. refl; below = λ p. refl }

lag_same : (c : Config) (r p : ℕ) (mine : List Event) (e : Event) (on : Then) → Unmoved c r mine e → lag_of c r mine p on ≡ lag_of c r (e ∷ mine) p on
lag_same c r p mine e Then.Late u = refl
lag_same c r p mine e Then.Position u = ap Lag.Position (sym (u.below p))
lag_same c r p mine e Then.Joined u = refl

stage_same : (c : Config) (r : ℕ) (mine : List Event) (e : Event) (written : List ℕ) (place : Place) → Unmoved c r mine e → stage_of c r mine written place ≡ stage_of c r (e ∷ mine) written place
stage_same c r mine e written (Place.ReadFuo p source) u = ap Stage.ReadFuo (sym (u.from p))
stage_same c r mine e written (Place.WidenBehind p on) u = ap (λ l. Stage.Bring l Bringing.Widen) (lag_same c r p mine e on u)
stage_same c r mine e written (Place.LookBehind p on) u = ap (λ l. Stage.Bring l Bringing.Look) (lag_same c r p mine e on u)
stage_same c r mine e written (Place.EnterBehind p on) u = ap (λ l. Stage.Bring l Bringing.Enter) (lag_same c r p mine e on u)
stage_same c r mine e written (Place.PutBehind p on) u = ap (λ l. Stage.Bring l Bringing.Put) (lag_same c r p mine e on u)
stage_same c r mine e written (Place.RaiseBehind p on) u = ap (λ l. Stage.Bring l Bringing.Raise) (lag_same c r p mine e on u)
stage_same c r mine e written (Place.FenceBehind p on) u = ap (λ l. Stage.Bring l Bringing.Fence) (lag_same c r p mine e on u)
stage_same c r mine e written (Place.Look p i candidate best) u = ap Stage.LookAt (sym (u.from p))
stage_same c r mine e written (Place.Enter p offer) u = ap Stage.EnterAt (sym (u.from p))
stage_same c r mine e written (Place.Put p offer) u = ap Stage.PutAt (sym (u.from p))
stage_same c r mine e written (Place.Raise p) u = ap Stage.RaiseAt (sym (u.from p))
stage_same c r mine e written place u = refl

led_on : (c : Config) (r : ℕ) (mine : List Event) (e : Event) (stage next : Stage) → Unmoved c r mine e → stage ≡ next → IsLed c r mine stage → IsLed c r (e ∷ mine) next
led_on c r mine e stage next u same at = record {
  read = u.read ∙ at.read;
  placed = subst (λ t. IsPlacedAt c r (sizes_of c r (e ∷ mine)) t (e ∷ mine)) same
      (subst (λ m. IsPlacedAt c r (record { replicas = c.replicas; width = c.width; members = m }) stage (e ∷ mine)) (sym u.all) (places_lead.beside c r (sizes_of c r mine) stage mine e u.turn u.beside at.placed));
}

out_on : (c : Config) (r : ℕ) (mine : List Event) (e : Event) → Unmoved c r mine e → IsOut c r mine → IsOut c r (e ∷ mine)
out_on c r mine e u at = record {
  left = elim at.left [ inl unled ↦ inl (u.led ∙ unled) | inr was ↦ inr (u.unnamed ∙ was) ];
  away = away_is_in_time.away_beside c r mine e at.away u.turn u.beside;
}

waiting_on : (c : Config) (r : ℕ) (mine : List Event) (e : Event) → Unmoved c r mine e → IsWaiting c r mine → IsWaiting c r (e ∷ mine)
waiting_on c r mine e u at = record { unread = u.read ∙ at.unread; fresh = away_is_in_time.fresh_beside c r mine e at.fresh u.turn u.beside }

rooms_on : (c : Config) (r : ℕ) (mine : List Event) (e : Event) (written : List ℕ) (place : Place) → Unmoved c r mine e → RoomsAt c r mine written place → RoomsAt c r (e ∷ mine) written place
rooms_on c r mine e written (Place.Ask p) u at = ((λ same. out_on c r mine e u (at.0 same)), λ other. waiting_on c r mine e u (at.1 other))
rooms_on c r mine e written (Place.Confirm round p) u at = waiting_on c r mine e u at
rooms_on c r mine e written (Place.ReadMin p) u at = record {
  waits = λ unread. away_is_in_time.fresh_beside c r mine e (at.waits (sym u.read ∙ unread)) u.turn u.beside;
  goes_on = λ read. led_on c r mine e (Stage.ReadMin p) (Stage.ReadMin p) u refl (at.goes_on (sym u.read ∙ read));
}
rooms_on c r mine e written (Place.EnterMin p) u at = record { left = λ q more. u.member q ∙ at.left q more; led = led_on c r mine e Stage.EnterMin Stage.EnterMin u refl at.led }
rooms_on c r mine e written (Place.PutMin p) u at = record { left = λ q more. u.member q ∙ at.left q more; led = led_on c r mine e Stage.PutMin Stage.PutMin u refl at.led }
rooms_on c r mine e written (Place.Evidence p) u at = record { over = u.over ∙ at.over; away = away_is_in_time.away_beside c r mine e at.away u.turn u.beside }
rooms_on c r mine e written Place.Outrun u at = away_is_in_time.away_beside c r mine e at u.turn u.beside
rooms_on c r mine e written place u at = led_on c r mine e (stage_of c r mine written place) (stage_of c r (e ∷ mine) written place) u (stage_same c r mine e written place u) at

-- a verb of another machine, looks aside, leaves what every leader counts
plain_beside : (leading : Bool) (verb : Verb) → is_look verb ≡ false → is_beside_leader leading verb ≡ true → is_beside verb ≡ true
plain_beside leading (Verb.Ask p) plain beside = absurd (true≢false (sym beside))
plain_beside leading (Verb.Fence p) plain beside = absurd (true≢false (sym beside))
plain_beside leading (Verb.Min p) plain beside = absurd (true≢false (sym beside))
plain_beside leading (Verb.Enter p t) plain beside = absurd (true≢false (sym beside))
plain_beside leading (Verb.PutMin p b) plain beside = absurd (true≢false (sym beside))
plain_beside leading (Verb.PutSlot p i b v) plain beside = absurd (true≢false (sym beside))
plain_beside leading (Verb.Look p i) plain beside = absurd (true≢false plain)
plain_beside leading verb plain beside = refl

-- a look in the background opens nothing but a count that is in time
looks_beside : (r p i : ℕ) (a : Answer) (mine : List Event) → is_replication mine (event_by r (Verb.Look p i) a) ≡ false → LooksBeside mine (event_by r (Verb.Look p i) a)
looks_beside r p i a mine turn = record { beside = turn; region = p; position = i; verb = refl }

away_looked : (c : Config) (r p i : ℕ) (a : Answer) (mine : List Event) → is_replication mine (event_by r (Verb.Look p i) a) ≡ false → IsAway c r mine → IsAway c r (event_by r (Verb.Look p i) a ∷ mine)
away_looked c r p i a mine turn at = away_is_in_time.away_look c r mine (event_by r (Verb.Look p i) a) at (looks_beside r p i a mine turn)

out_looked : (c : Config) (r p i : ℕ) (a : Answer) (mine : List Event) → is_replication mine (event_by r (Verb.Look p i) a) ≡ false → IsOut c r mine → IsOut c r (event_by r (Verb.Look p i) a ∷ mine)
out_looked c r p i a mine turn at = record {
  left = elim at.left [
    | inl unled ↦ inl unled
    | inr was ↦ inr (unnamed_on (is_replication mine (event_by r (Verb.Look p i) a)) (is_named c r mine) (was_unnamed c r mine) turn ∙ was)
  ];
  away = away_looked c r p i a mine turn at.away;
}

waiting_looked : (c : Config) (r p i : ℕ) (a : Answer) (mine : List Event) → is_replication mine (event_by r (Verb.Look p i) a) ≡ false → Fresh r mine → IsWaiting c r mine → IsWaiting c r (event_by r (Verb.Look p i) a ∷ mine)
waiting_looked c r p i a mine turn fresh at = record { unread = at.unread; fresh = away_is_in_time.fresh_look c r mine (event_by r (Verb.Look p i) a) at.fresh (looks_beside r p i a mine turn) (ap is_some fresh.unnumbered) }

-- so it leaves the rooms of a replica that doesn't lead
rooms_looked : (c : Config) (r b p i : ℕ) (a : Answer) (mine : List Event) (up : List ℕ) (reach : List (Option ℕ)) (written : List ℕ) (place : Place) → is_replication mine (event_by r (Verb.Look p i) a) ≡ false → not (leads_at place) ≡ true
    → At c r b mine up reach written place → RoomsAt c r mine written place → RoomsAt c r (event_by r (Verb.Look p i) a ∷ mine) written place
rooms_looked c r b p i a mine up reach written (Place.Ask q) turn off stands at = (
  (λ first. out_looked c r p i a mine turn (at.0 first)),
  λ other. elim stands.asked [
    | inl first ↦ absurd (other first)
    | inr asked ↦ waiting_looked c r p i a mine turn asked.1 (at.1 other)
  ],
)
rooms_looked c r b p i a mine up reach written (Place.Confirm round q) turn off stands at = waiting_looked c r p i a mine turn stands.1.fresh at
rooms_looked c r b p i a mine up reach written (Place.Evidence q) turn off stands at = record { over = at.over; away = away_looked c r p i a mine turn at.away }
rooms_looked c r b p i a mine up reach written place turn off stands at = absurd (true≢false (sym off))

-- a background event of another machine leaves the rooms of the leader, at each place
pub rooms_beside : (c : Config) (r b : ℕ) (mine : List Event) (up : List ℕ) (reach : List (Option ℕ)) (written : List ℕ) (place : Place) (verb : Verb) (answer : Answer) → is_replication mine (event_by r verb answer) ≡ false → is_beside_leader (leads_at place) verb ≡ true
    → At c r b mine up reach written place → RoomsAt c r mine written place → RoomsAt c r (event_by r verb answer ∷ mine) written place
rooms_beside c r b mine up reach written place (Verb.Look p i) answer turn beside stands at = rooms_looked c r b p i answer mine up reach written place turn beside stands at
rooms_beside c r b mine up reach written place verb answer turn beside stands at = rooms_on c r mine (event_by r verb answer) written place (unmoved c r mine r verb answer turn (plain_beside (leads_at place) verb refl beside)) at
