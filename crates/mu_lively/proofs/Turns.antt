-- What each kind of turn leaves of a listed journal: what stands at the place of its leader, and what the leader keeps.
use Rattle.std.proofs.Common.{◌≡◌, ◌∙◌, ℕ, ◌<◌, inr, Bool, true, false, None, Some, List, ◌∷◌, ap, arith, length, refl, subst, sym, true≢false}
use Rattle.std.specs.Prelude.{if◌then◌else◌, is_some}
use Rattle.std.specs.declared.option.Option.{Option}
use Rattle.mu_model.specs.Again.{asks_again}
use Rattle.mu_model.specs.Contents.{IsConfig}
use Rattle.mu_model.specs.Ends.{outrun}
use Rattle.mu_model.specs.Histories.{event_by, or_zero}
use Rattle.mu_model.specs.Knowledge.{known}
use Rattle.mu_model.specs.Leaderships.{proposal_number}
use Rattle.mu_model.specs.Parts.{IsPossible}
use Rattle.mu_model.specs.Steps.{is_named}
use Rattle.mu_model.specs.Stretches.{is_replication}
use Rattle.mu_model.specs.declared.config.Config.{Config}
use Rattle.mu_model.specs.declared.event.Answer.{Answer}
use Rattle.mu_model.specs.declared.event.Event.{Event}
use Rattle.mu_model.specs.declared.event.Verb.{Verb}
use Rattle.mu_pace.specs.Collecting.{LeaderKeepsBy}
use Rattle.mu_lead.specs.Ahead.{ahead_at}
use Rattle.mu_lead.specs.Beside.{is_beside, leads_at, writes_row}
use Rattle.mu_lead.specs.Journal.{place_after, place_before, tables_at, tables_beside, tables_with}
use Rattle.mu_lead.specs.Lasting.{verb_or}
use Rattle.mu_lead.specs.Listing.{next_place}
use Rattle.mu_lead.specs.Standing.{At, verb_at}
use Rattle.mu_lead.specs.declared.place.Place.{Place}
use Rattle.mu_lead.proofs.Ahead.{may_write_ahead}
use Rattle.mu_lively.proofs.AskedAgain.{leaders_ask_again}
use Rattle.mu_lead.proofs.Asking.{begins_now}
use Rattle.mu_lively.proofs.Causes.{begins_with, causes_unnamed, is_first_due, others_have_cause}
use Rattle.mu_lively.proofs.Confirms.{none_anew}
use Rattle.mu_lively.proofs.Elections.{elects_unnamed}
use Rattle.mu_lead.proofs.Folding.{before_due, beside_tables, led_place as named_place, same_number_place, turn_tables, unnamed_place}
use Rattle.mu_lead.proofs.Others.{begins_none, writes_none}
use Rattle.mu_lively.proofs.Resigning.{counts_unnamed, goes_on_outrun}
use Rattle.mu_lead.proofs.Tables.{tables_kept}
use Rattle.mu_lively.specs.Paces.{PacesAt}
use Rattle.mu_node.specs.Due.{CatchesUp}
use Rattle.mu_node.proofs.CatchingUp.{catches_reading, reading_beside, reading_tables}
use Rattle.mu_lively.proofs.Caught.{paces_caught}
use Rattle.mu_lively.proofs.Keeping.{beside_begins, cause_by, kept_in_place, none_waits, place_begins}
use Rattle.mu_lively.proofs.Places.{IsInPlace, ahead_place, asked_place, beside_place, first_stood, led_place, rest_place}

-- the event leads there, and the leader keeps what it has to
pub record GoesOn (again : Bool) (c : Config) (r : ℕ) (mine : List Event) (e : Event) : Type 0 where
  pub here : IsInPlace c r (e ∷ mine) (tables_at c r (e ∷ mine)) (place_after c r (e ∷ mine))
  pub keeps : LeaderKeepsBy again c r mine e

-- in the background the place is the same
in_background : (again : Bool) (c : Config) (r : ℕ) (mine : List Event) (verb : Verb) (answer : Answer) → IsConfig c → is_replication mine (event_by r verb answer) ≡ false → is_beside (leads_at (place_after c r mine)) verb ≡ true
    → IsInPlace c r (event_by r verb answer ∷ mine) (tables_beside (tables_at c r mine) verb) (place_after c r mine) → GoesOn again c r mine (event_by r verb answer)
in_background again c r mine verb answer good even beside h =
    let e = event_by r verb answer in
    record {
      here = rw even h;
      keeps = kept_in_place again c r mine e (tables_beside (tables_at c r mine) verb) (place_after c r mine) good h (cause_by again c r mine e (others_have_cause c r mine (leads_at (place_after c r mine)) verb answer beside)) (λ begins. absurd (true≢false (sym begins ∙ beside_begins r r (leads_at (place_after c r mine)) verb beside)));
    }

pub beside_on : (again : Bool) (c : Config) (r : ℕ) (mine : List Event) (verb : Verb) (answer : Answer) → IsConfig c → is_replication mine (event_by r verb answer) ≡ false → writes_row verb ≡ false → is_beside (leads_at (place_after c r mine)) verb ≡ true → IsPossible c r (event_by r verb answer ∷ mine)
    → IsInPlace c r mine (tables_at c r mine) (place_after c r mine) → GoesOn again c r mine (event_by r verb answer)
beside_on again c r mine verb answer good even none beside possible h =
    in_background again c r mine verb answer good even beside (subst (λ t. IsInPlace c r (event_by r verb answer ∷ mine) t (place_after c r mine)) (beside_tables (tables_at c r mine) verb none) (beside_place c r mine (tables_at c r mine) (place_after c r mine) verb answer even none beside possible h))

pub ahead_on : (again : Bool) (c : Config) (r : ℕ) (mine : List Event) (verb : Verb) (answer : Answer) → IsConfig c → r < c.replicas → is_replication mine (event_by r verb answer) ≡ false → length mine < c.budget → ahead_at c r (known c r mine) (tables_at c r mine).written (place_after c r mine) ≡ Some verb
    → IsPossible c r (event_by r verb answer ∷ mine) → IsInPlace c r mine (tables_at c r mine) (place_after c r mine) → GoesOn again c r mine (event_by r verb answer)
ahead_on again c r mine verb answer good inside even short due possible h =
    let t = tables_at c r mine in
    let may = may_write_ahead c r h.number mine (known c r mine) t.up t.reach t.heads t.written (place_after c r mine) verb good inside h.stood.tables h.stood.at short due in
    in_background again c r mine verb answer good even (subst (λ v. is_beside (leads_at (place_after c r mine)) v ≡ true) (sym may.is) may.leads) (ahead_place c r mine t (place_after c r mine) verb answer good inside even short due possible h)

-- a step of the leader, in a turn in which r is named
pub led_on : (again : Bool) (c : Config) (r : ℕ) (mine : List Event) (verb : Verb) (answer : Answer) → IsConfig c → r < c.replicas → is_replication mine (event_by r verb answer) ≡ true → is_named c r mine ≡ true → IsPossible c r (event_by r verb answer ∷ mine)
    → (h : IsInPlace c r mine (tables_at c r mine) (place_after c r mine)) → verb_at c h.number (known c r mine) (tables_at c r mine).up (tables_at c r mine).written (place_after c r mine) ≡ Some verb → GoesOn again c r mine (event_by r verb answer)
led_on again c r mine verb answer good inside odd named possible h due =
    let e = event_by r verb answer in
    let b = h.number in
    let t = tables_at c r mine in
    let place = place_after c r mine in
    let new = tables_with c r mine (e ∷ mine) t verb answer in
    let is : verb_or (verb_at c b (known c r mine) t.up t.written place) ≡ verb = ap verb_or due in
    let there : IsInPlace c r (e ∷ mine) new (next_place c r b (e ∷ mine) new answer place) =
    subst (λ v. IsInPlace c r (event_by r v answer ∷ mine) (tables_with c r mine (event_by r v answer ∷ mine) t v answer) (next_place c r b (event_by r v answer ∷ mine) (tables_with c r mine (event_by r v answer ∷ mine) t v answer) answer place)) is
    (led_place c r mine t place answer good inside h (ap is_some due) (subst (λ v. IsPossible c r (event_by r v answer ∷ mine)) (sym is) possible) (subst (λ v. is_replication mine (event_by r v answer) ≡ true) (sym is) odd)) in
    let before = before_due c r b (known c r mine) t.up t.written place verb answer due in
    let goes : next_place c r b (e ∷ mine) new answer place ≡ place_after c r (e ∷ mine) =
    same_number_place c r b mine (e ∷ mine) t.up t.reach t.written new answer place h.stood.at
    ∙ (ap (λ x. next_place c r (or_zero (proposal_number r mine)) (e ∷ mine) x answer place) (sym (turn_tables c r mine e odd))
    ∙ (ap (next_place c r (or_zero (proposal_number r mine)) (e ∷ mine) (tables_at c r (e ∷ mine)) answer) (sym before)
    ∙ sym (named_place c r mine e odd named))) in
    let here : IsInPlace c r (e ∷ mine) (tables_at c r (e ∷ mine)) (place_after c r (e ∷ mine)) =
    subst (λ p. IsInPlace c r (e ∷ mine) (tables_at c r (e ∷ mine)) p) goes (subst (λ x. IsInPlace c r (e ∷ mine) x (next_place c r b (e ∷ mine) new answer place)) (sym (turn_tables c r mine e odd)) there) in
    record {
      here = here;
      keeps = kept_in_place again c r mine e (tables_at c r (e ∷ mine)) (place_after c r (e ∷ mine)) good here
          (cause_by again c r mine e (record { named = λ p asks. named; anew = λ asks. begins_with c r b mine (known c r mine) t.up t.written place (ap is_first_due due ∙ asks) h.paces.causes }))
          (λ begins. none_anew c r mine place (place_begins c r r b (known c r mine) t.up t.written place verb due begins) h.paces.counts.confirms);
    }

-- a beat of a leader with nothing due, in such a turn
rests_at_rest : (c : Config) (r b : ℕ) (mine : List Event) (values up : List ℕ) (reach : List (Option ℕ)) (written : List ℕ) (place : Place) → outrun c r mine ≡ None → At c r b mine up reach written place → verb_at c b values up written place ≡ None → place ≡ Place.Rest
rests_at_rest c r b mine values up reach written Place.Rest going at none = refl
rests_at_rest c r b mine values up reach written Place.Outrun going at none = absurd (goes_on_outrun c r mine at going)
rests_at_rest c r b mine values up reach written place going at none = absurd (true≢false (ap is_some none))

pub rests_on : (again : Bool) (c : Config) (r : ℕ) (mine : List Event) (answer : Answer) → IsConfig c → is_replication mine (event_by r Verb.Beat answer) ≡ true → is_named c r mine ≡ true → outrun c r mine ≡ None → IsPossible c r (event_by r Verb.Beat answer ∷ mine)
    → (h : IsInPlace c r mine (tables_at c r mine) (place_after c r mine)) → verb_at c h.number (known c r mine) (tables_at c r mine).up (tables_at c r mine).written (place_after c r mine) ≡ None → GoesOn again c r mine (event_by r Verb.Beat answer)
rests_on again c r mine answer good odd named going possible h none =
    let e = event_by r Verb.Beat answer in
    let t = tables_at c r mine in
    let rest = rests_at_rest c r h.number mine (known c r mine) t.up t.reach t.written (place_after c r mine) going h.stood.at none in
    let there = rest_place c r mine t answer good odd possible (subst (λ p. IsInPlace c r mine t p) rest h) in
    let goes : Place.Rest ≡ place_after c r (e ∷ mine) = ap (next_place c r (or_zero (proposal_number r mine)) (e ∷ mine) (tables_at c r (e ∷ mine)) answer) (sym rest) ∙ sym (named_place c r mine e odd named) in
    let here : IsInPlace c r (e ∷ mine) (tables_at c r (e ∷ mine)) (place_after c r (e ∷ mine)) = subst (λ p. IsInPlace c r (e ∷ mine) (tables_at c r (e ∷ mine)) p) goes (subst (λ x. IsInPlace c r (e ∷ mine) x Place.Rest) (sym (turn_tables c r mine e odd)) there) in
    record {
      here = here;
      keeps = kept_in_place again c r mine e (tables_at c r (e ∷ mine)) (place_after c r (e ∷ mine)) good here (cause_by again c r mine e (others_have_cause c r mine true Verb.Beat answer refl)) (λ begins. absurd (true≢false (sym begins)));
    }

-- if another is named the leader begins again, whatever is done in that turn
anew : (again : Bool) (c : Config) (r : ℕ) (mine : List Event) (verb : Verb) (answer : Answer) → IsConfig c → r < c.replicas → is_replication mine (event_by r verb answer) ≡ true → is_named c r mine ≡ false → is_beside false verb ≡ true
    → tables_with c r mine (event_by r verb answer ∷ mine) (tables_at c r mine) verb answer ≡ tables_at c r mine → IsPossible c r (event_by r verb answer ∷ mine) → IsInPlace c r mine (tables_at c r mine) (place_after c r mine)
    → PacesAt c r (event_by r verb answer ∷ mine) (tables_at c r mine).written (Place.Ask 0) → GoesOn again c r mine (event_by r verb answer)
anew again c r mine verb answer good inside odd other beside same possible h paces =
    let e = event_by r verb answer in
    let t = tables_at c r mine in
    let some : 0 < c.replicas = omega (arith, inside) in
    let there : IsInPlace c r (e ∷ mine) t (Place.Ask 0) = record {
      number = 0;
      stood = first_stood c r 0 (e ∷ mine) t some (tables_kept c r e mine t.up t.reach t.heads t.written possible (begins_none false r verb answer beside) (writes_none false verb refl beside) h.stood.tables);
      paces = paces;
    } in
    let here : IsInPlace c r (e ∷ mine) (tables_at c r (e ∷ mine)) (place_after c r (e ∷ mine)) = subst (λ p. IsInPlace c r (e ∷ mine) (tables_at c r (e ∷ mine)) p) (sym (unnamed_place c r mine e odd other)) (subst (λ x. IsInPlace c r (e ∷ mine) x (Place.Ask 0)) (sym (turn_tables c r mine e odd ∙ same)) there) in
    record {
      here = here;
      keeps = kept_in_place again c r mine e (tables_at c r (e ∷ mine)) (place_after c r (e ∷ mine)) good here (cause_by again c r mine e (others_have_cause c r mine false verb answer beside)) (λ begins. absurd (true≢false (sym begins ∙ beside_begins r r false verb beside)));
    }

pub unnamed_on : (again : Bool) (c : Config) (r : ℕ) (mine : List Event) (answer : Answer) → IsConfig c → r < c.replicas → is_replication mine (event_by r Verb.Beat answer) ≡ true → is_named c r mine ≡ false → IsPossible c r (event_by r Verb.Beat answer ∷ mine) → IsInPlace c r mine (tables_at c r mine) (place_after c r mine)
    → GoesOn again c r mine (event_by r Verb.Beat answer)
unnamed_on again c r mine answer good inside odd other possible h =
    let place = place_after c r mine in
    anew again c r mine Verb.Beat answer good inside odd other refl refl possible h (record {
      counts = counts_unnamed c r mine (tables_at c r mine).written place (Place.Ask 0) answer good odd other (inr refl) h.paces.counts;
      causes = causes_unnamed c r mine place (Place.Ask 0) (leads_at place) Verb.Beat answer odd other refl (inr refl) h.paces.causes;
      elects = elects_unnamed c r mine place (Place.Ask 0) (leads_at place) Verb.Beat answer odd other refl (inr refl) h.paces.elects;
    })

pub caught_on : (again : Bool) (c : Config) (r : ℕ) (mine : List Event) (verb : Verb) (answer : Answer) → IsConfig c → r < c.replicas → is_replication mine (event_by r verb answer) ≡ true → CatchesUp c r mine verb → IsPossible c r (event_by r verb answer ∷ mine) → IsInPlace c r mine (tables_at c r mine) (place_after c r mine)
    → GoesOn again c r mine (event_by r verb answer)
caught_on again c r mine verb answer good inside odd caught possible h =
    let reads = catches_reading c r mine verb caught.due in
    anew again c r mine verb answer good inside odd caught.unnamed (reading_beside false verb refl reads) (reading_tables c r mine verb answer reads) possible h
    (paces_caught c r mine (tables_at c r mine).written (place_after c r mine) verb answer odd caught.unnamed caught.unled reads h.paces)

-- a leader that asks again begins again from the first ask
pub asked_on : (c : Config) (r : ℕ) (mine : List Event) (answer : Answer) → IsConfig c → r < c.replicas → is_replication mine (event_by r (Verb.Ask 0) answer) ≡ true → is_named c r mine ≡ true → asks_again c r mine ≡ true → IsPossible c r (event_by r (Verb.Ask 0) answer ∷ mine)
    → IsInPlace c r mine (tables_at c r mine) (place_after c r mine) → GoesOn true c r mine (event_by r (Verb.Ask 0) answer)
asked_on c r mine answer good inside odd named asks possible h =
    let e = event_by r (Verb.Ask 0) answer in
    let t = tables_at c r mine in
    let new = tables_with c r mine (e ∷ mine) t (Verb.Ask 0) answer in
    let there = asked_place c r mine t (place_after c r mine) answer good inside odd asks possible h in
    let first : place_before r e (place_after c r mine) ≡ Place.Ask 0 = ap (λ x. if x then Place.Ask 0 else place_after c r mine) (begins_now r answer) in
    let goes : next_place c r 0 (e ∷ mine) new answer (Place.Ask 0) ≡ place_after c r (e ∷ mine) =
    ap (λ x. next_place c r 0 (e ∷ mine) x answer (Place.Ask 0)) (sym (turn_tables c r mine e odd))
    ∙ (ap (next_place c r (or_zero (proposal_number r mine)) (e ∷ mine) (tables_at c r (e ∷ mine)) answer) (sym first) ∙ sym (named_place c r mine e odd named)) in
    let here : IsInPlace c r (e ∷ mine) (tables_at c r (e ∷ mine)) (place_after c r (e ∷ mine)) = subst (λ p. IsInPlace c r (e ∷ mine) (tables_at c r (e ∷ mine)) p) goes (subst (λ x. IsInPlace c r (e ∷ mine) x (next_place c r 0 (e ∷ mine) new answer (Place.Ask 0))) (sym (turn_tables c r mine e odd)) there) in
    record {
      here = here;
      keeps = kept_in_place true c r mine e (tables_at c r (e ∷ mine)) (place_after c r (e ∷ mine)) good here (leaders_ask_again.caused c r mine answer named asks) (λ begins. none_waits c r h.number mine t.up t.reach t.written (place_after c r mine) asks h.stood.at h.paces.counts.confirms);
    }
