-- What was made as it was due follows the cycle's order.
use Rattle.std.proofs.Common.{◌≡◌, ◌∙◌, ◌==◌, ◌-◌, ◌<◌, ℕ, Bool, true, false, List, [], ◌∷◌, None, ap, arith, inl, inr, length, refl, subst, sym}
use Rattle.std.specs.Prelude.{if◌then◌else◌, nat_lt}
use Rattle.std.specs.declared.option.Option.{Option}
use Rattle.std.proofs.lemmas.Bool.{cases_lt, ltb-false, true≢false}
use Rattle.mu_model.specs.declared.config.Config.{Config}
use Rattle.mu_model.specs.declared.event.Event.{Event}
use Rattle.mu_model.specs.declared.event.Verb.{Verb}
use Rattle.mu_model.specs.Knowledge.{known}
use Rattle.mu_model.specs.Scores.{leader}
use Rattle.mu_model.specs.Stretches.{is_odd}
use Rattle.mu_lively.specs.Order.{FollowsCycle, InCycleOrder, is_host_verb}
use Rattle.mu_grant.specs.Pace.{host_place}
use Rattle.mu_grant.specs.Stands.{is_host_step}
use Rattle.mu_lively.proofs.HostOnward.{due_is_next, other_is_next}
use Rattle.mu_lead.specs.Beside.{leads_at}
use Rattle.mu_lead.specs.Journal.{due_after, number_due, place_after, tables_at}
use Rattle.mu_lead.specs.Standing.{verb_at}
use Rattle.mu_lead.specs.declared.place.Place.{Place}
use Rattle.mu_node.specs.Cycle.{IsBackgroundDue, handed, other_at, place_now, read_at}
use Rattle.mu_node.specs.Due.{listed_due, or_ahead, write_due}
use Rattle.mu_node.specs.Journal.{WasMade}
use Rattle.mu_node.proofs.CatchingUp.{catches_reading, made_led, reading_fails}
use Rattle.mu_node.proofs.Cycled.{FailsReplays, replay_fails}
use Rattle.mu_node.proofs.Failing.{Fails, ahead_fails, else_fails}
use Rattle.mu_agree.specs.Moments.{AtEachStep}

-- the verb neither reads asks nor is one of the host
abbrev IsPlain : Verb → Type 0
IsPlain verb = is_host_step verb ≡ false

-- such a verb is none of the host's, and reads no asks
plain_verb : (verb : Verb) → IsPlain verb → (is_host_verb verb ≡ false) × ((w : ℕ) → verb ≡ Verb.ReadAsk w → ⊥)
plain_verb (Verb.ReadAsk w) plain = absurd (true≢false plain)
plain_verb Verb.Close plain = absurd (true≢false plain)
plain_verb Verb.LookTarget plain = absurd (true≢false plain)
plain_verb Verb.Drain plain = absurd (true≢false plain)
plain_verb (Verb.Grant w) plain = absurd (true≢false plain)
plain_verb verb plain = (refl, λ w is. true≢false (sym (ap is_host_step is) ∙ plain))

-- the verbs of the leader are such, and those of the replayer
plain_at : (c : Config) (b : ℕ) (values up written : List ℕ) (place : Place) → Fails is_host_step (verb_at c b values up written place)
plain_at c b values up written Place.Rest = refl
plain_at c b values up written place = refl

plain_due : (c : Config) (r : ℕ) (mine : List Event) → Fails is_host_step (due_after c r mine)
plain_due c r mine = go (leader c r mine == r)
  where
    go : (t : Bool) → Fails is_host_step (if t then listed_due c r mine else None)
    go true = plain_at c (number_due r mine) (known c r mine) (tables_at c r mine).up (tables_at c r mine).written (place_after c r mine)
    go false = refl

plain_replays : FailsReplays is_host_step
plain_replays = record { beat = refl; fuo = λ p. refl; look = λ p i. refl; row = λ v k. refl; raise = λ p u. refl; raise_head = λ h. refl; head = λ q. refl }

-- a read at its place follows the cycle
read_follows : (c : Config) (r : ℕ) (mine : List Event) (e : Event) → e.by ≡ r → is_odd (length mine) ≡ false → place_now c mine < host_place c 0 → e.verb ≡ read_at c.replicas r (place_now c mine) → FollowsCycle c r mine e
read_follows c r mine e own even low is = go (place_now c mine == 0) refl (nat_lt (place_now c mine) c.replicas) refl is
  where
    place : ℕ
    place = place_now c mine

    go : (s : Bool) → (place == 0) ≡ s → (t : Bool) → nat_lt place c.replicas ≡ t → e.verb ≡ (if s then Verb.Beat else if t then Verb.ReadBeat (other_at r place) else Verb.ReadAsk (place - c.replicas)) → FollowsCycle c r mine e
    go true first t few is = other_is_next c r mine e own (inr (inl low)) (ap is_host_verb is) (λ w same. absurd ((plain_verb Verb.Beat refl).1 w (sym is ∙ same)))
    go false first true few is = other_is_next c r mine e own (inr (inl low)) (ap is_host_verb is) (λ w same. absurd ((plain_verb (Verb.ReadBeat (other_at r place)) refl).1 w (sym is ∙ same)))
    go false first false few is =
        let high = ltb-false place c.replicas few in
        other_is_next c r mine e own (inr (inl low)) (ap is_host_verb is)
        (λ w same. (let number : place - c.replicas ≡ w = asked (place - c.replicas) w (sym is ∙ same) in (omega (arith, number, high, low), record { background = even; place_is = omega (arith, number, high) })))
      where
        asked : (x y : ℕ) → Verb.ReadAsk x ≡ Verb.ReadAsk y → x ≡ y
        asked x y e = cc

-- each event
pub made_follows : (c : Config) (r : ℕ) (mine : List Event) (e : Event) → WasMade c r mine e → FollowsCycle c r mine e
made_follows c r mine e held = go (is_odd (length mine)) refl
  where
    led : is_odd (length mine) ≡ true → IsPlain e.verb
    led odd = elim (made_led held.zeal c r mine e.verb (held.made.replication odd)) [
      | inl due ↦ ap is_host_step due ∙ plain_due c r mine
      | inr third ↦ elim third [
        | inl caught ↦ reading_fails is_host_step e.verb (catches_reading c r mine e.verb caught.due) (λ p i. refl) (λ v k. refl)
        | inr out ↦ ap is_host_step out.first
      ]
    ]

    ahead : Fails is_host_step (write_due held.zeal c r mine)
    ahead = ahead_fails is_host_step refl (λ j k x. refl) held.zeal c r mine

    idle : (first : Option Verb) → e.verb ≡ or_ahead held.zeal c r mine first → first ≡ None → (is_host_verb e.verb ≡ false) × ((w : ℕ) → e.verb ≡ Verb.ReadAsk w → ⊥)
    idle first is none = plain_verb e.verb (ap is_host_step (is ∙ ap (or_ahead held.zeal c r mine) none) ∙ ahead)

    cycled : is_odd (length mine) ≡ false → (first : Option Verb) → IsBackgroundDue c r mine (leads_at (place_after c r mine)) first → e.verb ≡ or_ahead held.zeal c r mine first → FollowsCycle c r mine e
    cycled even first is made = elim (cases_lt (place_now c mine) (host_place c 0)) [
      | inl low ↦ read_follows c r mine e held.own even low (made ∙ ap (or_ahead held.zeal c r mine) (is.read low))
      | inr high ↦ (elim (cases_lt (place_now c mine) (host_place c 4)) [
        | inl near ↦ (let at : place_now c mine ≡ host_place c (place_now c mine - host_place c 0) = omega (arith, high) in
            due_is_next c r (place_now c mine - host_place c 0) mine e first held.own (omega (arith, near, high)) (record { background = even; place_is = at }) (is.host (place_now c mine - host_place c 0) (omega (arith, near, high)) at) (λ wanted some. made ∙ ap (or_ahead held.zeal c r mine) some) (idle first made))
        | inr far ↦ (let plain = plain_verb e.verb (ap is_host_step made ∙ else_fails is_host_step first (write_due held.zeal c r mine)
            (subst (Fails is_host_step) (sym (is.replay (place_now c mine - host_place c 4) (omega (arith, far)))) (replay_fails is_host_step plain_replays c r mine (handed c r mine) (place_now c mine - host_place c 4) (leads_at (place_after c r mine)))) ahead) in
            other_is_next c r mine e held.own (inr (inr far)) plain.0 (λ w same. absurd (plain.1 w same)))
      ])
    ]

    go : (t : Bool) → is_odd (length mine) ≡ t → FollowsCycle c r mine e
    go true odd = let plain = plain_verb e.verb (led odd) in other_is_next c r mine e held.own (inl odd) plain.0 (λ w is. absurd (plain.1 w is))
    go false even = let due = held.made.background even in cycled even due.0 due.1 due.2

-- so do all
pub in_order : (c : Config) (r : ℕ) (mine : List Event) → AtEachStep (WasMade c r) mine → InCycleOrder c r mine
in_order c r [] made = tt
in_order c r (e ∷ mine) made = (in_order c r mine made.0, made_follows c r mine e made.1)
