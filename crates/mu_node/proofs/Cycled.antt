-- Which tests what is due in a background turn fails, and so what is made in one.
use Rattle.std.proofs.Common.{◌≡◌, ◌∙◌, ℕ, ◌+◌, ◌-◌, ◌*◌, ◌/◌, ◌%◌, ◌≤◌, ◌==◌, inl, inr, Bool, true, false, None, Some, List, ap, arith, length, refl, subst, sym}
use Rattle.std.specs.Prelude.{if◌then◌else◌, min, nat_lt}
use Rattle.std.specs.declared.option.Option.{Option}
use Rattle.std.specs.List.{slice_get}
use Rattle.std.proofs.lemmas.Bool.{cases_lt, true≢false}
use Rattle.mu_model.specs.declared.config.Config.{Config}
use Rattle.mu_model.specs.declared.event.Event.{Event}
use Rattle.mu_model.specs.declared.event.Verb.{Verb}
use Rattle.mu_model.specs.Contents.{is_batch, rest_of, row_count}
use Rattle.mu_model.specs.Knowledge.{is_known_decided, known}
use Rattle.mu_model.specs.Regions.{region_head}
use Rattle.mu_model.specs.Room.{reserve}
use Rattle.mu_grant.specs.Pace.{host_place}
use Rattle.mu_grant.specs.Stands.{Gives, is_of_place}
use Rattle.mu_follow.specs.Due.{ahead_due, filled_known, first_word_of, fuo_due, head_due, look_due, next_due, next_word_of, other_head_due, other_of, own_fuo, raise_due, replay_due, row_under_way, rows_had, word_due}
use Rattle.mu_lead.specs.Beside.{writes_row}
use Rattle.mu_node.specs.Cycle.{IsBackgroundDue, handed, place_now}
use Rattle.mu_node.specs.declared.zeal.Zeal.{Zeal}
use Rattle.mu_node.specs.Due.{write_due, or_ahead, verb_or_beat}
use Rattle.mu_node.proofs.Failing.{Fails, ahead_fails, either, else_fails, read_fails}

-- a test that all verbs of the replayer fail, and a beat
pub record FailsReplays (test : Verb → Bool) : Type 0 where
  pub beat : test Verb.Beat ≡ false
  pub fuo : (p : ℕ) → test (Verb.Fuo p) ≡ false
  pub look : (p i : ℕ) → test (Verb.Look p i) ≡ false
  pub row : (v k : ℕ) → test (Verb.ReadRow v k) ≡ false
  pub raise : (p u : ℕ) → test (Verb.RaiseFuo p u) ≡ false
  pub raise_head : (h : ℕ) → test (Verb.RaiseHead h) ≡ false
  pub head : (q : ℕ) → test (Verb.Head q) ≡ false

pub replay_fails : (test : Verb → Bool) → FailsReplays test → (c : Config) (r : ℕ) (mine : List Event) (handed f : ℕ) (leading : Bool) → Fails test (replay_due c r mine handed f leading)
replay_fails test fails c r mine handed f leading =
    either test (nat_lt f 3) (if leading then None else look_due c r mine f) (if nat_lt f 15 then word_due c r mine handed (f - 3) else raise_due c r mine handed f)
    (either test leading None (look_due c r mine f) fails.beat look)
    (either test (nat_lt f 15) (word_due c r mine handed (f - 3)) (raise_due c r mine handed f) word raise)
  where
    look : Fails test (look_due c r mine f)
    look =
        either test (f == 0) (Some (Verb.Fuo r)) (if f == 1 then ahead_due c r mine else next_due c r mine) (fails.fuo r)
        (either test (f == 1) (ahead_due c r mine) (next_due c r mine)
        (either test (nat_lt (length (known c r mine) + 1) (row_count c + reserve c)) (Some (Verb.Look r (length (known c r mine) + 1))) None (fails.look r (length (known c r mine) + 1)) fails.beat)
        (either test (is_known_decided r mine r (length (known c r mine))) (Some (Verb.Look r (length (known c r mine)))) None (fails.look r (length (known c r mine))) fails.beat))

    first : (o : Option ℕ) → Fails test (first_word_of c r mine o)
    first None = fails.beat
    first (Some v) =
        either test (is_batch c v) (if nat_lt (rows_had c r mine v) (rest_of c (v % 4096) + 1) then Some (Verb.ReadRow (v + rows_had c r mine v) 0) else None) None
        (either test (nat_lt (rows_had c r mine v) (rest_of c (v % 4096) + 1)) (Some (Verb.ReadRow (v + rows_had c r mine v) 0)) None (fails.row (v + rows_had c r mine v) 0) fails.beat) fails.beat

    next : (k : ℕ) (o : Option ℕ) → Fails test (next_word_of k o)
    next k None = fails.beat
    next k (Some v) = fails.row v k

    word : Fails test (word_due c r mine handed (f - 3))
    word = either test (f - 3 == 0) (first_word_of c r mine (slice_get (known c r mine) handed)) (next_word_of (f - 3) (row_under_way mine)) (first (slice_get (known c r mine) handed)) (next (f - 3) (row_under_way mine))

    raise : Fails test (raise_due c r mine handed f)
    raise =
        either test (f == 15) (fuo_due c r mine) (if f == 16 then head_due r mine handed else if f == 17 then other_head_due c r mine else None)
        (either test (nat_lt (own_fuo r mine) (filled_known c r mine)) (Some (Verb.RaiseFuo r (filled_known c r mine))) None (fails.raise r (filled_known c r mine)) fails.beat)
        (either test (f == 16) (head_due r mine handed) (if f == 17 then other_head_due c r mine else None)
        (either test (nat_lt (region_head r mine) (min handed (own_fuo r mine))) (Some (Verb.RaiseHead (min handed (own_fuo r mine)))) None (fails.raise_head (min handed (own_fuo r mine))) fails.beat)
        (either test (f == 17) (other_head_due c r mine) None
        (either test (c.replicas == 1) None (Some (Verb.Head (other_of r (length mine / 2 / (2 * c.replicas + 22) % (c.replicas - 1))))) fails.beat
        (fails.head (other_of r (length mine / 2 / (2 * c.replicas + 22) % (c.replicas - 1))))) fails.beat))

-- a test that all verbs of the host fail too
pub record FailsBackground (test : Verb → Bool) : Type 0 where
  pub replays : FailsReplays test
  pub host : (d : ℕ) (verb : Verb) → is_of_place d verb ≡ true → test verb ≡ false

-- what is due in a background turn fails it, but for the reads before the places of the host
pub cycle_fails : (test : Verb → Bool) → FailsBackground test → (c : Config) (r : ℕ) (mine : List Event) (leading : Bool) (due : Option Verb) → host_place c 0 ≤ place_now c mine → IsBackgroundDue c r mine leading due → Fails test due
cycle_fails test fails c r mine leading due high is = elim (cases_lt (place_now c mine) (host_place c 4)) [
  | inl near ↦ (let at : place_now c mine ≡ host_place c (place_now c mine - host_place c 0) = omega (arith, high) in
      given (place_now c mine - host_place c 0) due (is.host (place_now c mine - host_place c 0) (omega (arith, near, high)) at))
  | inr far ↦ (let at = is.replay (place_now c mine - host_place c 4) (omega (arith, far)) in
      subst (Fails test) (sym at) (replay_fails test fails.replays c r mine (handed c r mine) (place_now c mine - host_place c 4) leading))
]
  where
    given : (d : ℕ) (due : Option Verb) → Gives c r mine d due → Fails test due
    given d None gives = fails.replays.beat
    given d (Some verb) gives = fails.host d verb (gives.given verb refl).0

-- and so does what is made
pub background_fails : (test : Verb → Bool) → FailsBackground test → ((j k x : ℕ) → test (Verb.WriteRow j k x) ≡ false) → (zeal : Zeal) (c : Config) (r : ℕ) (mine : List Event) (leading : Bool) (due : Option Verb) → host_place c 0 ≤ place_now c mine → IsBackgroundDue c r mine leading due → test (or_ahead zeal c r mine due) ≡ false
background_fails test fails write zeal c r mine leading due high is = else_fails test due (write_due zeal c r mine) (cycle_fails test fails c r mine leading due high is) (ahead_fails test fails.replays.beat write zeal c r mine)

-- no word of a row is written in the cycle
pub cycle_writes_none : (c : Config) (r : ℕ) (mine : List Event) (leading : Bool) (due : Option Verb) → IsBackgroundDue c r mine leading due → writes_row (verb_or_beat due) ≡ false
cycle_writes_none c r mine leading due is = elim (cases_lt (place_now c mine) (host_place c 0)) [
  | inl low ↦ ap (λ d. writes_row (verb_or_beat d)) (is.read low) ∙ read_fails writes_row refl (λ q. refl) (λ w. refl) c.replicas r (place_now c mine)
  | inr high ↦ cycle_fails writes_row fails c r mine leading due high is
]
  where
    host : (d : ℕ) (verb : Verb) → is_of_place d verb ≡ true → writes_row verb ≡ false
    host d (Verb.WriteRow j k x) is = absurd (true≢false (sym is))
    host d verb is = refl

    fails : FailsBackground writes_row
    fails = record { replays = record { beat = refl; fuo = λ p. refl; look = λ p i. refl; row = λ v k. refl; raise = λ p u. refl; raise_head = λ h. refl; head = λ q. refl }; host = host }
