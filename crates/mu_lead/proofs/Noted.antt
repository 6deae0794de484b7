-- The note of each place is that of the listing.
use Rattle.mu_lead.proofs.Rows.{working_is}
use Rattle.mu_lead.proofs.Says.{IsToldAs, TellsAll, all_known, grew_next, holds_them, lacks_some, values_in_session}
use Rattle.mu_lead.specs.Lasting.{tables_of}
use Rattle.mu_lead.specs.Listing.{Tables}
use Rattle.mu_lead.specs.Noting.{NotesNext, NotedNext, next_note, or_idle}
use Rattle.mu_lead.specs.Saying.{is_working}
use Rattle.mu_lead.specs.Standing.{At, StandsFor}
use Rattle.mu_lead.specs.declared.lead.Lead.{Lead}
use Rattle.mu_lead.specs.declared.note.Note.{Note}
use Rattle.mu_lead.specs.declared.place.Place.{Place}
use Rattle.mu_model.specs.Contents.{IsInSession, holds_all}
use Rattle.mu_model.specs.Histories.{or_zero, event_by}
use Rattle.mu_model.specs.Knowledge.{known}
use Rattle.mu_model.specs.Leaderships.{proposal_number}
use Rattle.mu_model.specs.declared.config.Config.{Config}
use Rattle.mu_model.specs.declared.event.Answer.{Answer}
use Rattle.mu_model.specs.declared.event.Event.{Event}
use Rattle.std.proofs.Common.{Bool, List, ap, false, inl, inr, length, refl, subst, sym, true, ℕ, ◌&&◌, ◌<◌, ◌∙◌, ◌∷◌, ◌≡◌}
use Rattle.std.specs.Prelude.{if◌then◌else◌}
use Rattle.std.specs.declared.option.Option.{Option}

-- a note that isn't told apart from `Idle`, and one that is
not_idle : (all : Bool) (note : Note) → (is_working note ≡ true → all ≡ false) → or_idle all note ≡ note
not_idle all note lacks = go (is_working note) refl
  where
    go : (t : Bool) → is_working note ≡ t → (if is_working note && all then Note.Idle else note) ≡ note
    go true is = ap (λ x. if is_working note && x then Note.Idle else note) (lacks is) ∙ ap (λ x. if x && false then Note.Idle else note) is
    go false is = ap (λ x. if x && all then Note.Idle else note) is

pub note_noted : (mine : List Event) (old : Lead) (values : List ℕ) (answer : Answer) (note : Note) → StandsFor mine old → NotesNext mine old values answer note
    → (note ≡ Note.Working → length values < 65536 → IsInSession old.config values → holds_all old.config values ≡ false) → NotedNext mine old values answer note
note_noted mine old values answer note s noted lacks verb due possible told =
    let grew = grew_next mine old values answer note verb s noted due possible told in
    let is = noted verb due possible told in
    is ∙ sym (not_idle (holds_all old.config (known old.config old.id (event_by old.id verb answer ∷ mine))) (next_note old.config old.id old.number mine (event_by old.id verb answer ∷ mine) (tables_of old) answer old.place)
    (λ works. let working = working_is note (ap is_working is ∙ works) in let in_session = values_in_session mine old values answer verb note s possible working grew in
    all_known mine old values answer verb note false working grew (lacks working in_session.1 in_session.0)))

pub idle_noted : (mine : List Event) (old : Lead) (values : List ℕ) (answer : Answer) (note : Note) → StandsFor mine old → NotesNext mine old values answer note → note ≡ Note.Working
    → (length values < 65536 → IsInSession old.config values → holds_all old.config values ≡ true) → NotedNext mine old values answer Note.Idle
idle_noted mine old values answer note s noted working holds verb due possible told =
    let grew = grew_next mine old values answer note verb s noted due possible told in
    let is = noted verb due possible told in
    let in_session = values_in_session mine old values answer verb note s possible working grew in
    let all = all_known mine old values answer verb note true working grew (holds in_session.1 in_session.0) in
    sym (ap (λ t. or_idle t (next_note old.config old.id old.number mine (event_by old.id verb answer ∷ mine) (tables_of old) answer old.place)) all ∙ ap (or_idle true) (sym is ∙ working))

pub noted_told : (mine : List Event) (old : Lead) (values : List ℕ) (answer : Answer) (note result : Note) → StandsFor mine old → NotesNext mine old values answer note → IsToldAs note result → TellsAll old.config values note result → NotedNext mine old values answer result
noted_told mine old values answer note result s noted (inl same) tells = subst (NotedNext mine old values answer) (sym same) (note_noted mine old values answer note s noted (lacks_some old.config values note result tells same))
noted_told mine old values answer note result s noted (inr idle) tells = subst (NotedNext mine old values answer) (sym idle.0) (idle_noted mine old values answer note s noted idle.1 (holds_them old.config values note result tells idle.0 idle.1))

-- only a late follower's minimum is compared with the number, and there it is the leadership's
pub same_number_note : (c : Config) (r b : ℕ) (mine now : List Event) (up : List ℕ) (reach : List (Option ℕ)) (written : List ℕ) (t : Tables) (a : Answer) (place : Place) → At c r b mine up reach written place
    → next_note c r b mine now t a place ≡ next_note c r (or_zero (proposal_number r mine)) mine now t a place
same_number_note c r b mine now up reach written t a (Place.LateMin p) at = ap (λ o. next_note c r (or_zero o) mine now t a (Place.LateMin p)) (sym at.late.level.leads.numbered)
same_number_note c r b mine now up reach written t a place at = refl
