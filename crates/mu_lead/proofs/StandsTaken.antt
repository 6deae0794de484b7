-- What stands after the leader's step, by the law of its listing: with its leaderships, its tables and its place.
use Rattle.mu_lead.proofs.StandsLasting.{stands_along}
use Rattle.mu_lead.proofs.StandsOnward.{Stood}
use Rattle.mu_knowledge.specs.KnownLog.{HoldsValues}
use Rattle.mu_knowledge.specs.declared.known_log.KnownLog.{KnownLog}
use Rattle.mu_lead.proofs.Taking.{StepsNext}
use Rattle.mu_lead.specs.Journal.{tables_with}
use Rattle.mu_lead.specs.Lasting.{tables_of, verb_or}
use Rattle.mu_lead.specs.Leading.{HoldsTables}
use Rattle.mu_lead.specs.Listing.{Tables, next_place}
use Rattle.mu_lead.specs.Standing.{At, NumberAfter, StandsFor, TakesNext, verb_at}
use Rattle.mu_lead.specs.declared.lead.Lead.{Lead}
use Rattle.mu_lead.specs.declared.note.Note.{Note}
use Rattle.mu_lead.specs.declared.place.Place.{Place}
use Rattle.mu_leadership.specs.Leadership.{StandsForLeadership}
use Rattle.mu_model.specs.Contents.{IsConfig}
use Rattle.mu_model.specs.Knowledge.{known}
use Rattle.mu_model.specs.Parts.{IsPossible}
use Rattle.mu_model.specs.declared.config.Config.{Config}
use Rattle.mu_model.specs.declared.event.Answer.{Answer}
use Rattle.mu_model.specs.declared.event.Event.{Event}
use Rattle.mu_model.specs.declared.event.Verb.{Verb}
use Rattle.mu_model.specs.Histories.{event_by}
use Rattle.std.proofs.Common.{List, Some, ap, is_some, refl, subst, sym, ℕ, ◌<◌, ◌∙◌, ◌∷◌, ◌≡◌}

-- after the step of a verb that is due
pub stood_by : (old : Lead) (mine : List Event) (place : Place) (verb : Verb) (answer : Answer) (d : ℕ) → StandsFor mine old → old.place ≡ place → verb_at old.config old.number (known old.config old.id mine) old.up old.written.items place ≡ Some verb
    → NumberAfter old.config old.id old.number d (event_by old.id verb answer ∷ mine) place → IsPossible old.config old.id (event_by old.id verb answer ∷ mine)
    → Stood old.config old.id d (event_by old.id verb answer ∷ mine) (tables_with old.config old.id mine (event_by old.id verb answer ∷ mine) (tables_of old) verb answer) (next_place old.config old.id old.number (event_by old.id verb answer ∷ mine) (tables_with old.config old.id mine (event_by old.id verb answer ∷ mine) (tables_of old) verb answer) answer place)
stood_by old mine place verb answer d s at due number possible =
    let c = old.config in
    let r = old.id in
    let b = old.number in
    let is : verb_or (verb_at c b (known c r mine) old.up old.written.items place) ≡ verb = ap verb_or due in
    subst (λ w. Stood c r d (event_by r w answer ∷ mine) (tables_with c r mine (event_by r w answer ∷ mine) (tables_of old) w answer) (next_place c r b (event_by r w answer ∷ mine) (tables_with c r mine (event_by r w answer ∷ mine) (tables_of old) w answer) answer place)) is
    (stands_along c r b d mine (tables_of old) place answer (ap is_some due) (record { is = s.config; inside = s.inside; tables = s.tables }) (subst (At c r b mine old.up old.reach old.written.items) at s.at)
    (subst (λ w. IsPossible c r (event_by r w answer ∷ mine)) (sym is) possible) (subst (λ w. NumberAfter c r b d (event_by r w answer ∷ mine) place) (sym is) number))

-- a leader with these tables at this place
stands_with : (old new : Lead) (now : List Event) (t : Tables) (place : Place) → new.config ≡ old.config → new.id ≡ old.id → IsConfig old.config → old.id < old.config.replicas → StandsForLeadership old.id now new.leading → tables_of new ≡ t → new.place ≡ place → Stood old.config old.id new.number now t place → StandsFor now new
stands_with old new now t place config id is inside leading wrote goes stood =
    let there : Stood old.config old.id new.number now (tables_of new) new.place = subst (Stood old.config old.id new.number now (tables_of new)) (sym goes) (subst (λ x. Stood old.config old.id new.number now x place) (sym wrote) stood) in
    record {
      config = subst IsConfig (sym config) is;
      inside = subst (λ (k : Config). new.id < k.replicas) (sym config) (subst (λ r. r < old.config.replicas) (sym id) inside);
      leading = subst (λ r. StandsForLeadership r now new.leading) (sym id) leading;
      tables = subst (λ k. HoldsTables k new.id now new.up new.reach new.heads new.written.items) (sym config) (subst (λ r. HoldsTables old.config r now new.up new.reach new.heads new.written.items) (sym id) there.tables);
      at = subst (λ k. At k new.id new.number now new.up new.reach new.written.items new.place) (sym config) (subst (λ r. At old.config r new.number now new.up new.reach new.written.items new.place) (sym id) there.at);
    }

-- a leader that makes its step stands for the events with it
pub stands_next : (mine : List Event) (old new : Lead) (values : List ℕ) (log : KnownLog) (answer : Answer) (note : Note) → StandsFor mine old → new.config ≡ old.config → new.id ≡ old.id → StepsNext mine old values log answer new note → HoldsValues old.config values log
    → TakesNext mine old values answer new
stands_next mine old new values log answer note s config id steps holds verb due possible told =
    let c = old.config in
    let r = old.id in
    let now = event_by r verb answer ∷ mine in
    let t = tables_with c r mine now (tables_of old) verb answer in
    let step = steps verb due possible told in
    stands_with old new now t (next_place c r old.number now t answer old.place) config id s.config s.inside step.leading step.tables
    (step.place holds ∙ ap (λ x. next_place c r old.number now x answer old.place) step.tables) (stood_by old mine old.place verb answer new.number s refl due step.number possible)
