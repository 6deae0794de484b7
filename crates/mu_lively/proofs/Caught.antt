-- What a replica that reads on in a turn of its leader leaves of the counts of that leader.
use Rattle.std.proofs.Common.{◌≡◌, ℕ, ◌≤◌, ◌||◌, inr, Bool, true, false, None, Some, List, ◌∷◌, ap, arith, length, refl, sym}
use Rattle.std.specs.Prelude.{if◌then◌else◌, not, ◌&&◌}
use Rattle.std.specs.declared.option.Option.{Option}
use Rattle.std.proofs.lemmas.Bool.{true≢false}
use Rattle.mu_model.specs.declared.config.Config.{Config}
use Rattle.mu_model.specs.declared.event.Answer.{Answer}
use Rattle.mu_model.specs.declared.event.Event.{Event}
use Rattle.mu_model.specs.declared.event.Verb.{Verb}
use Rattle.mu_model.specs.Bounds.{members}
use Rattle.mu_model.specs.Diligence.{is_confirmed, is_milestone, was_unnamed}
use Rattle.mu_model.specs.Knowledge.{commits}
use Rattle.mu_model.specs.Leaderships.{begins_leadership, has_begun, is_member}
use Rattle.mu_model.specs.Steps.{commits_more, is_any_fencing, is_fencing, is_lagging, is_min, is_missed_at, is_named, is_over_after, leads}
use Rattle.mu_model.specs.Stretches.{is_odd, is_replication}
use Rattle.mu_model.proofs.Basics.{or_true}
use Rattle.mu_model.specs.Histories.{event_by}
use Rattle.mu_pace.specs.Away.{IsAway}
use Rattle.mu_pace.specs.Blocking.{is_blocking, is_progress_by}
use Rattle.mu_pace.specs.Counters.{HasRoom, Watch, allowed_after, steps_left}
use Rattle.mu_pace.specs.Watches.{advancing, bringing_up, confirming, explaining, falls_behind, is_answer_to_welcome, is_brought_up, is_confirming, is_full_raise, is_welcoming, joining, leaves, limit_now, progressing, raising}
use Rattle.mu_pace.proofs.Beside.{not_more, unallowed}
use Rattle.mu_pace.proofs.Placed.{asks_anew, shut, unnamed_leaves}
use Rattle.mu_pace.proofs.Rooms.{kinds_of_step}
use Rattle.mu_lead.specs.declared.place.Place.{Place}
use Rattle.mu_lead.specs.Beside.{leads_at}
use Rattle.mu_lively.specs.Paces.{CountsAt}
use Rattle.mu_lively.proofs.Causes.{causes_unnamed}
use Rattle.mu_lively.proofs.Elections.{elects_unnamed}
use Rattle.mu_lively.proofs.RoomsQuiet.{no_heads, quiet_milestone}
use Rattle.mu_lively.specs.Paces.{PacesAt}
use Rattle.mu_pace.proofs.Pasts.{and_false}
use Rattle.mu_pace.proofs.Closing.{unnamed_turns}
use Rattle.mu_lively.proofs.Resigning.{left_unnamed}
use Rattle.mu_node.proofs.CatchingUp.{is_reading, reading_beside}

-- a step that closes a count leaves what the moment allows
pub closes_anew : (w : Watch) (n : ℕ) (past : List Event) (e : Event) → w.closes past e ≡ true → ((allowed : ℕ) → w.allows (e ∷ past) ≡ Some allowed → n ≤ allowed) → HasRoom w n (e ∷ past)
closes_anew w n past e closes most = go (w.allows (e ∷ past)) refl
  where
    go : (o : Option ℕ) → w.allows (e ∷ past) ≡ o → HasRoom w n (e ∷ past)
    go None none = kinds_of_step.closes w n past e none closes
    go (Some allowed) some = kinds_of_step.opens_anew w allowed n past e some closes (most allowed some)

-- what a look or the read of a word opens at most: bringing up
record OpensFew (c : Config) (r : ℕ) (past : List Event) (e : Event) : Type 0 where
  milestone : is_milestone c r past e ≡ false
  missed : (p : ℕ) → is_missed_at p e ≡ false
  confirming : is_confirming c r past e ≡ false
  commits : commits_more c r past e ≡ false
  welcoming : (p : ℕ) → is_welcoming c r p past e ≡ false

opens_few : (c : Config) (r : ℕ) (past : List Event) (verb : Verb) (answer : Answer) → is_reading verb ≡ true → OpensFew c r past (event_by r verb answer)
opens_few c r past (Verb.Look p i) answer reads = record {
  milestone = quiet_milestone c r past (event_by r (Verb.Look p i) answer) refl (not_more (length (commits c r past))) (no_heads c r past);
  missed = λ p. refl;
  confirming = and_false (has_begun r past);
  commits = not_more (length (commits c r past));
  welcoming = λ p. refl;
}
opens_few c r past (Verb.ReadRow v k) answer reads = record {
  milestone = quiet_milestone c r past (event_by r (Verb.ReadRow v k) answer) refl (not_more (length (commits c r past))) (no_heads c r past);
  missed = λ p. refl;
  confirming = and_false (has_begun r past);
  commits = not_more (length (commits c r past));
  welcoming = λ p. refl;
}
opens_few c r past verb answer reads = absurd (true≢false (sym reads))

after_allows : (test : List Event → Event → Bool) (amount : List Event → ℕ) (past : List Event) (e : Event) (allowed : ℕ) → allowed_after test amount (e ∷ past) ≡ Some allowed → amount (e ∷ past) ≡ allowed
after_allows test amount past e allowed is = go (test past e) is
  where
    go : (t : Bool) → (if t then Some (amount (e ∷ past)) else None) ≡ Some allowed → amount (e ∷ past) ≡ allowed
    go true is = cc
    go false is = cc

away_caught : (c : Config) (r : ℕ) (past : List Event) (e : Event) → is_replication past e ≡ true → is_named c r past ≡ false → OpensFew c r past e → IsAway c r (e ∷ past)
away_caught c r past e t n few = record {
  progressing = shut (progressing c r) past e (unallowed (is_milestone c r) (limit_now c r) past e few.milestone) (unnamed_leaves c r (is_progress_by (is_lagging c r) c r) past e t n);
  advancing = shut (advancing c r) past e (unallowed (is_milestone c r) (limit_now c r) past e few.milestone) (unnamed_leaves c r (is_progress_by (is_blocking c r) c r) past e t n);
  asking = λ p low. asks_anew c r p past e 1 (omega arith) (unnamed_leaves c r (λ before f. not (leads r before) || is_fencing p f) past e t n);
  bringing = λ p. closes_anew (bringing_up c r p) 1 past e (or_true (is_brought_up c r p (e ∷ past)) (leaves c r (is_over_after r) past e) (unnamed_leaves c r (is_over_after r) past e t n))
      (λ allowed is. let whole = after_allows (falls_behind c r p) (limit_now c r) past e allowed is in omega (arith, whole));
}

-- so at the first ask the counts are as that place has them
counts_caught : (c : Config) (r : ℕ) (mine : List Event) (written : List ℕ) (e : Event) → is_replication mine e ≡ true → is_named c r mine ≡ false → OpensFew c r mine e → CountsAt c r (e ∷ mine) written (Place.Ask 0)
counts_caught c r mine written e t n few = record {
  rooms = ((λ first. record { left = inr (left_unnamed (is_replication mine e) (is_named c r mine) (if begins_leadership r e then false else was_unnamed c r mine) t n); away = away_caught c r mine e t n few }), λ other. absurd (other refl));
  evidence = λ p. shut (explaining c r p) mine e (unallowed (λ before f. is_missed_at p f) (λ now. 1) mine e (few.missed p)) (unnamed_turns c r (λ before f. is_fencing p f) mine e t n);
  raises = λ p. shut (raising c r p) mine e (unallowed (λ before f. commits_more c r before f && is_member r p (f ∷ before)) (members c r) mine e (ap (λ z. z && is_member r p (e ∷ mine)) few.commits))
      (unnamed_leaves c r (is_full_raise c r p) mine e t n);
  confirms = shut (confirming c r) mine e (unallowed (is_confirming c r) (λ now. c.replicas) mine e few.confirming)
      (unnamed_turns c r (λ before f. is_min f || (is_any_fencing f && not (is_confirmed c r (f ∷ before)))) mine e t n);
  joins = record { first = λ begins q. kinds_of_step.closed (joining c r q) 1 (e ∷ mine) (joins q); later = λ other. joins };
}
  where
    joins : (p : ℕ) → steps_left (joining c r p) (e ∷ mine) ≡ None
    joins p = shut (joining c r p) mine e (unallowed (is_welcoming c r p) (λ now. 4) mine e (few.welcoming p)) (unnamed_leaves c r (is_answer_to_welcome c r p) mine e t n)

-- and so are the causes of asks and the elections, if r didn't lead before
pub paces_caught : (c : Config) (r : ℕ) (mine : List Event) (written : List ℕ) (before : Place) (verb : Verb) (answer : Answer) → is_odd (length mine) ≡ true → is_named c r mine ≡ false → leads_at before ≡ false → is_reading verb ≡ true → PacesAt c r mine written before
    → PacesAt c r (event_by r verb answer ∷ mine) written (Place.Ask 0)
paces_caught c r mine written before verb answer odd other unled reads paces = record {
  counts = counts_caught c r mine written (event_by r verb answer) odd other (opens_few c r mine verb answer reads);
  causes = causes_unnamed c r mine before (Place.Ask 0) (leads_at before) verb answer odd other (reading_beside (leads_at before) verb unled reads) (inr refl) paces.causes;
  elects = elects_unnamed c r mine before (Place.Ask 0) (leads_at before) verb answer odd other (reading_beside (leads_at before) verb unled reads) (inr refl) paces.elects;
}
