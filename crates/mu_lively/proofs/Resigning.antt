-- The counts of a leader in what isn't the answer to a verb of its own.
use Rattle.std.proofs.Common.{◌≡◌, ℕ, ◌+◌, ◌-◌, ◌≤◌, ◌⊎◌, inl, inr, Bool, true, false, ◌&&◌, ◌==◌, List, [], ◌∷◌, None, Some, length, refl, sym, ◌∙◌, subst, arith, true≢false}
use Rattle.std.specs.Prelude.{if◌then◌else◌, is_some, nat_le, not}
use Rattle.std.specs.declared.option.Option.{Option}
use Rattle.std.proofs.lemmas.Bool.{eqb-true, le-leb}
use Rattle.mu_model.specs.declared.config.Config.{Config}
use Rattle.mu_model.specs.declared.event.Answer.{Answer}
use Rattle.mu_model.specs.declared.event.Event.{Event}
use Rattle.mu_model.specs.declared.event.Verb.{Verb}
use Rattle.mu_model.specs.Contents.{IsConfig}
use Rattle.mu_model.specs.Diligence.{was_unnamed}
use Rattle.mu_model.specs.Ends.{outrun, outrun_by}
use Rattle.mu_model.specs.Histories.{earlier_or}
use Rattle.mu_model.specs.Knowledge.{commits, known}
use Rattle.mu_model.specs.Leaderships.{has_begun}
use Rattle.mu_model.specs.Picks.{is_past, is_past_look, look_answer}
use Rattle.mu_model.specs.Steps.{is_named}
use Rattle.mu_model.specs.Stretches.{is_replication}
use Rattle.mu_model.proofs.Basics.{none_some}
use Rattle.mu_pace.specs.Away.{IsAway, IsFresh}
use Rattle.mu_pace.specs.Closing.{AreClosed, OpensNone}
use Rattle.mu_pace.specs.Watches.{confirming}
use Rattle.mu_pace.specs.Weights.{Stage}
use Rattle.mu_pace.proofs.Away.{away_is_in_time}
use Rattle.mu_pace.proofs.Beside.{not_more}
use Rattle.mu_pace.proofs.Closing.{counts_close}
use Rattle.mu_pace.proofs.Countdowns.{countdowns_run}
use Rattle.mu_pace.proofs.Growing.{known_grows}
use Rattle.mu_pace.proofs.Placed.{places_lead}
use Rattle.mu_pace.proofs.Rooms.{kinds_of_step}
use Rattle.mu_lead.specs.declared.place.Place.{Place}
use Rattle.mu_lively.specs.Confirmations.{ConfirmsAt}
use Rattle.mu_lead.specs.Offering.{AtOutrun, AtRest, has_seen_past}
use Rattle.mu_lively.specs.Paces.{CountsAt}
use Rattle.mu_lead.specs.Resigning.{beat_of}
use Rattle.mu_lively.specs.Rooms.{IsLed, IsOut, RoomsAt, sizes_of, stage_of}
use Rattle.mu_lively.proofs.Joins.{joins_anywhere}
use Rattle.mu_lively.proofs.Misses.{explained_anywhere}
use Rattle.mu_lively.proofs.Raises.{raised_anywhere}
use Rattle.mu_lively.proofs.RoomsQuiet.{silent_verbs_are_silent, config_is_sized}
use Rattle.mu_pace.proofs.Pasts.{and_false}

-- a beat opens no count
beat_opens_none : (c : Config) (r : ℕ) (answer : Answer) (mine : List Event) → OpensNone c r mine (beat_of r answer)
beat_opens_none c r answer mine =
    let quiet = silent_verbs_are_silent c r mine r Verb.Beat answer refl in
    record {
      milestone = quiet.no_milestone;
      missed = λ p. refl;
      confirming = and_false (has_begun r mine);
      commits = not_more (length (commits c r mine));
      welcoming = λ p. refl;
      behind = quiet.none_behind;
    }

-- if all counts are closed each place has its room
fresh_closed : (c : Config) (r : ℕ) (answer : Answer) (mine : List Event) → AreClosed c r (beat_of r answer ∷ mine) → IsFresh c r (beat_of r answer ∷ mine)
fresh_closed c r answer mine closed = counts_close.fresh c r (beat_of r answer ∷ mine) closed

away_closed : (c : Config) (r : ℕ) (answer : Answer) (mine : List Event) → AreClosed c r (beat_of r answer ∷ mine) → IsAway c r (beat_of r answer ∷ mine)
away_closed c r answer mine closed = away_is_in_time.fresh_is_away c r (beat_of r answer ∷ mine) (fresh_closed c r answer mine closed)

-- r is left unnamed by the beat
pub left_unnamed : (turn named was : Bool) → turn ≡ true → named ≡ false → (if turn && not named then true else was) ≡ true
left_unnamed turn named was on off = rw (on, off) refl

out_closed : (c : Config) (r : ℕ) (answer : Answer) (mine : List Event) → was_unnamed c r (beat_of r answer ∷ mine) ≡ true → AreClosed c r (beat_of r answer ∷ mine) → IsOut c r (beat_of r answer ∷ mine)
out_closed c r answer mine was closed = record { left = inr was; away = away_closed c r answer mine closed }

led_closed : (c : Config) (r : ℕ) (answer : Answer) (stage : Stage) (mine : List Event) → IsConfig c → AreClosed c r (beat_of r answer ∷ mine) → IsLed c r mine stage → IsLed c r (beat_of r answer ∷ mine) stage
led_closed c r answer stage mine is closed at =
    let now = beat_of r answer ∷ mine in
    record { read = at.read; placed = counts_close.placed c r (sizes_of c r now) stage now (config_is_sized c r now is) (record { replicas = refl; width = refl; members = refl }) at.placed.place closed }

rooms_closed : (c : Config) (r : ℕ) (answer : Answer) (mine : List Event) (written : List ℕ) (place : Place) → IsConfig c → was_unnamed c r (beat_of r answer ∷ mine) ≡ true → AreClosed c r (beat_of r answer ∷ mine) → RoomsAt c r mine written place → RoomsAt c r (beat_of r answer ∷ mine) written place
rooms_closed c r answer mine written (Place.Ask p) is was closed at = ((λ first. out_closed c r answer mine was closed), λ other. record { unread = (at.1 other).unread; fresh = fresh_closed c r answer mine closed })
rooms_closed c r answer mine written (Place.Confirm round p) is was closed at = record { unread = at.unread; fresh = fresh_closed c r answer mine closed }
rooms_closed c r answer mine written (Place.ReadMin p) is was closed at = record { waits = λ unread. fresh_closed c r answer mine closed; goes_on = λ read. led_closed c r answer (Stage.ReadMin p) mine is closed (at.goes_on read) }
rooms_closed c r answer mine written (Place.EnterMin p) is was closed at = record { left = at.left; led = led_closed c r answer Stage.EnterMin mine is closed at.led }
rooms_closed c r answer mine written (Place.PutMin p) is was closed at = record { left = at.left; led = led_closed c r answer Stage.PutMin mine is closed at.led }
rooms_closed c r answer mine written (Place.Evidence p) is was closed at = record { over = at.over; away = away_closed c r answer mine closed }
rooms_closed c r answer mine written Place.Outrun is was closed at = away_closed c r answer mine closed
rooms_closed c r answer mine written place is was closed at = led_closed c r answer (stage_of c r mine written place) mine is closed at

-- a first minimum is waited for no longer
confirms_closed : (c : Config) (r : ℕ) (answer : Answer) (mine : List Event) (place : Place) → AreClosed c r (beat_of r answer ∷ mine) → ConfirmsAt c r mine place → ConfirmsAt c r (beat_of r answer ∷ mine) place
confirms_closed c r answer mine (Place.Ask p) closed at = closed.confirming
confirms_closed c r answer mine (Place.Confirm round p) closed at = kinds_of_step.closed (confirming c r) (c.replicas - p + 1) (beat_of r answer ∷ mine) closed.confirming
confirms_closed c r answer mine (Place.ReadMin p) closed at = kinds_of_step.closed (confirming c r) 1 (beat_of r answer ∷ mine) closed.confirming
confirms_closed c r answer mine place closed at = record { read = at.read; none = closed.confirming }

-- so at the place where it was
counts_closed : (c : Config) (r : ℕ) (answer : Answer) (mine : List Event) (written : List ℕ) (place : Place) → IsConfig c → was_unnamed c r (beat_of r answer ∷ mine) ≡ true → AreClosed c r (beat_of r answer ∷ mine) → CountsAt c r mine written place → CountsAt c r (beat_of r answer ∷ mine) written place
counts_closed c r answer mine written place is was closed at = record {
  rooms = rooms_closed c r answer mine written place is was closed at.rooms;
  evidence = explained_anywhere c r (beat_of r answer ∷ mine) place closed.explaining;
  raises = raised_anywhere c r (beat_of r answer ∷ mine) place closed.raising;
  confirms = confirms_closed c r answer mine place closed at.confirms;
  joins = joins_anywhere c r (beat_of r answer ∷ mine) place closed.joining;
}

-- and at its first ask anew, whatever was before
counts_anew : (c : Config) (r : ℕ) (answer : Answer) (mine : List Event) (written : List ℕ) → was_unnamed c r (beat_of r answer ∷ mine) ≡ true → AreClosed c r (beat_of r answer ∷ mine) → CountsAt c r (beat_of r answer ∷ mine) written (Place.Ask 0)
counts_anew c r answer mine written was closed = record {
  rooms = ((λ first. out_closed c r answer mine was closed), λ other. absurd (other refl));
  evidence = closed.explaining;
  raises = closed.raising;
  confirms = closed.confirming;
  joins = joins_anywhere c r (beat_of r answer ∷ mine) (Place.Ask 0) closed.joining;
}

pub counts_unnamed : (c : Config) (r : ℕ) (mine : List Event) (written : List ℕ) (old new : Place) (answer : Answer) → IsConfig c → is_replication mine (beat_of r answer) ≡ true → is_named c r mine ≡ false → (new ≡ old) ⊎ (new ≡ Place.Ask 0)
    → CountsAt c r mine written old → CountsAt c r (beat_of r answer ∷ mine) written new
counts_unnamed c r mine written old new answer is turn off goes at =
    let closed = counts_close.unnamed c r mine (beat_of r answer) turn off (beat_opens_none c r answer mine) in
    let was = left_unnamed (is_replication mine (beat_of r answer)) (is_named c r mine) (was_unnamed c r mine) turn off in
    elim goes [
      | inl same ↦ subst (CountsAt c r (beat_of r answer ∷ mine) written) (sym same) (counts_closed c r answer mine written old is was closed at)
      | inr anew ↦ subst (CountsAt c r (beat_of r answer ∷ mine) written) (sym anew) (counts_anew c r answer mine written was closed)
    ]

-- at rest all is known and every region is a member, so that no count opens
pub counts_rest : (c : Config) (r : ℕ) (mine : List Event) (written : List ℕ) (answer : Answer) → IsConfig c → is_replication mine (beat_of r answer) ≡ true → AtRest c r mine → CountsAt c r mine written Place.Rest → CountsAt c r (beat_of r answer ∷ mine) written Place.Rest
counts_rest c r mine written answer is turn rest at =
    let e = beat_of r answer in
    let none = beat_opens_none c r answer mine in
    record {
      rooms = record {
        read = at.rooms.read;
        placed = places_lead.known c r (sizes_of c r mine) Stage.Rest Stage.Rest mine e (config_is_sized c r mine is) at.rooms.placed (record {
          turn = turn;
          known = rest.all;
          place = at.rooms.placed.place;
          no_milestone = none.milestone;
          none_behind = none.behind;
          same = refl;
          asks = λ p low stranger. absurd (true≢false (sym (rest.members p low) ∙ stranger));
          to_level = refl;
          levels = λ level. inl refl;
        });
      };
      evidence = λ q. countdowns_run.explains.quiet c r q mine e (none.missed q) (at.evidence q);
      raises = λ q. countdowns_run.raises.quiet c r q mine e none.commits (at.raises q);
      confirms = record { read = at.confirms.read; none = countdowns_run.confirms.quiet c r mine e refl at.confirms.none };
      joins = λ q. countdowns_run.joins.quiet c r q mine e (none.welcoming q) (at.joins q);
    }

-- a look that was past at what isn't known ends the journal
past_only : (t : Bool) (a : Answer) → is_past a ≡ false → is_past_look (if t then Some a else None) ≡ true → ⊥
past_only true a other h = true≢false (sym h ∙ other)
past_only false a other h = true≢false (sym h)

look_is : (t u w above : Bool) (found : ℕ × ℕ) → (w ≡ true → above ≡ true) → is_past_look (if t && (u && w) then Some Answer.Past else None) ≡ true → is_some (if t && above then Some found else None) ≡ true
look_is true true true above found high h = rw (high refl) refl
look_is true true false above found high h = absurd (true≢false (sym h))
look_is true false w above found high h = absurd (true≢false (sym h))
look_is false u w above found high h = absurd (true≢false (sym h))

look_outruns : (r p i n by : ℕ) (v : Verb) (a : Answer) → n ≤ i → is_past_look (look_answer r p i by v a) ≡ true → is_some (outrun_by r n by v a) ≡ true
look_outruns r p i n by (Verb.Look q j) Answer.Past low h = look_is (by == r) (q == p) (j == i) (nat_le n j) (q, j) (λ same. le-leb n j (let e = eqb-true j i same in omega (arith, low, e))) h
look_outruns r p i n by (Verb.Look q j) a low h = absurd (past_only ((by == r) && ((q == p) && (j == i))) a refl h)
look_outruns r p i n by v a low h = absurd (true≢false (sym h))

earlier_some : (one more : Option (ℕ × ℕ)) → is_some one ≡ true → earlier_or one more ≡ None → ⊥
earlier_some None more h none = true≢false (sym h)
earlier_some (Some x) None h none = none_some x (sym none)
earlier_some (Some x) (Some y) h none = none_some y (sym none)

earlier_none : (one more : Option (ℕ × ℕ)) → earlier_or one more ≡ None → more ≡ None
earlier_none None more none = none
earlier_none (Some x) None none = refl
earlier_none (Some x) (Some y) none = none

seen_outruns : (c : Config) (r p i : ℕ) (mine : List Event) → length (known c r mine) ≤ i → has_seen_past r p i mine ≡ true → outrun c r mine ≡ None → ⊥
seen_outruns c r p i [] low seen none = true≢false (sym seen)
seen_outruns c r p i (e ∷ mine) low seen none = go (is_past_look (look_answer r p i e.by e.verb e.answer)) refl seen (λ h o. seen_outruns c r p i mine below h o)
  where
    below : length (known c r mine) ≤ i
    below = let more = known_grows c r (e ∷ []) mine in omega (arith, more, low)

    go : (t : Bool) → is_past_look (look_answer r p i e.by e.verb e.answer) ≡ t → (if t then true else has_seen_past r p i mine) ≡ true → (has_seen_past r p i mine ≡ true → outrun c r mine ≡ None → ⊥) → ⊥
    go true look h before = earlier_some (outrun_by r (length (known c r mine)) e.by e.verb e.answer) (outrun c r mine) (look_outruns r p i (length (known c r mine)) e.by e.verb e.answer below look) none
    go false other h before = before h (earlier_none (outrun_by r (length (known c r mine)) e.by e.verb e.answer) (outrun c r mine) none)

pub goes_on_outrun : (c : Config) (r : ℕ) (mine : List Event) → AtOutrun c r mine → outrun c r mine ≡ None → ⊥
goes_on_outrun c r mine at none = seen_outruns c r at.region (length (known c r mine)) mine (omega arith) at.past none
