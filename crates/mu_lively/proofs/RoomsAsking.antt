-- The counts of a leader until its first `Min`.
use Rattle.std.proofs.Common.{◌≡◌, ◌≢◌, ℕ, inl, true, false, ◌&&◌, List, ◌∷◌, refl, sym, ◌∙◌, ap, subst, true≢false}
use Rattle.std.specs.Prelude.{not}
use Rattle.std.proofs.lemmas.Bool.{ne_eqb}
use Rattle.mu_model.specs.declared.config.Config.{Config}
use Rattle.mu_model.specs.declared.event.Answer.{Answer}
use Rattle.mu_model.specs.declared.event.Event.{Event}
use Rattle.mu_model.specs.declared.event.Fence.{Fence}
use Rattle.mu_model.specs.declared.event.Verb.{Verb}
use Rattle.mu_model.specs.Leaderships.{is_over}
use Rattle.mu_model.specs.Steps.{has_min, leads}
use Rattle.mu_model.specs.Stretches.{is_replication}
use Rattle.mu_model.proofs.Basics.{same_number}
use Rattle.mu_model.specs.Histories.{event_by}
use Rattle.mu_pace.specs.Away.{TakesIdleStep}
use Rattle.mu_pace.proofs.Away.{away_is_in_time}
use Rattle.mu_lively.specs.Rooms.{IsOut, IsReading, IsWaiting}
use Rattle.mu_lead.proofs.Asking.{begins_now}
use Rattle.mu_lively.proofs.RoomsQuiet.{asked_no_milestone, silent_verbs_are_silent}

-- a leadership without a `Min` isn't led
pub unread_unled : (r : ℕ) (mine : List Event) → has_min r mine ≡ false → leads r mine ≡ false
unread_unled r mine unread = ap (λ t. t && not (is_over r mine)) unread

idle_ask : (c : Config) (r p : ℕ) (a : Answer) (mine : List Event) → is_replication mine (event_by r (Verb.Ask p) a) ≡ true → leads r mine ≡ false → TakesIdleStep c r mine (event_by r (Verb.Ask p) a)
idle_ask c r p a mine turn unled = record { turn = turn; not_led = unled; no_milestone = asked_no_milestone c r p a mine; none_behind = λ q. refl }

first_asked : (c : Config) (r : ℕ) (a : Answer) (mine : List Event) → IsWaiting c r (event_by r (Verb.Ask 0) a ∷ mine)
first_asked c r a mine = record {
  unread = rw (same_number r) refl;
  fresh = away_is_in_time.begins c r mine (event_by r (Verb.Ask 0) a) (begins_now r a) (asked_no_milestone c r 0 a mine) (λ q. refl);
}

-- the first ask begins a leadership
pub rooms_first_ask : (c : Config) (r p : ℕ) (a : Answer) (mine : List Event) → p ≡ 0 → IsWaiting c r (event_by r (Verb.Ask p) a ∷ mine)
rooms_first_ask c r p a mine first = subst (λ q. IsWaiting c r (event_by r (Verb.Ask q) a ∷ mine)) (sym first) (first_asked c r a mine)

-- and the others go on with it
pub rooms_ask : (c : Config) (r p : ℕ) (a : Answer) (mine : List Event) → p ≢ 0 → is_replication mine (event_by r (Verb.Ask p) a) ≡ true → IsWaiting c r mine → IsWaiting c r (event_by r (Verb.Ask p) a ∷ mine)
rooms_ask c r p a mine other turn at = record {
  unread = rw (same_number r, ne_eqb p 0 other) at.unread;
  fresh = away_is_in_time.fresh_step c r mine (event_by r (Verb.Ask p) a) at.fresh (idle_ask c r p a mine turn (unread_unled r mine at.unread));
}

-- so do the fences
pub rooms_fence : (c : Config) (r p : ℕ) (f : Fence) (mine : List Event) → is_replication mine (event_by r (Verb.Fence p) (Answer.Seen f)) ≡ true → IsWaiting c r mine → IsWaiting c r (event_by r (Verb.Fence p) (Answer.Seen f) ∷ mine)
rooms_fence c r p f mine turn at =
    let e = event_by r (Verb.Fence p) (Answer.Seen f) in
    let quiet = silent_verbs_are_silent c r mine r (Verb.Fence p) (Answer.Seen f) refl in
    record {
      unread = at.unread;
      fresh = away_is_in_time.fresh_step c r mine e at.fresh (record { turn = turn; not_led = unread_unled r mine at.unread; no_milestone = quiet.no_milestone; none_behind = quiet.none_behind });
    }

-- after rounds that confirmed nothing the regions are asked anew
pub out_again : (c : Config) (r p : ℕ) (mine : List Event) → IsWaiting c r mine → (p ≡ 0 → IsOut c r mine) × (p ≢ 0 → IsWaiting c r mine)
out_again c r p mine at = ((λ same. record { left = inl (unread_unled r mine at.unread); away = away_is_in_time.fresh_is_away c r mine at.fresh }), λ other. at)

-- a confirmed leadership reads its first minimum
pub begins_reading : (c : Config) (r q : ℕ) (mine : List Event) (written : List ℕ) → IsWaiting c r mine → IsReading c r mine written q
begins_reading c r q mine written at = record { waits = λ unread. at.fresh; goes_on = λ read. absurd (true≢false (sym read ∙ at.unread)) }
