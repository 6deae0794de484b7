-- The leader's step by the answer to the verb that was due, as what lasts along the listing has it.
use Rattle.mu_knowledge.specs.KnownLog.{HoldsValues}
use Rattle.mu_knowledge.specs.declared.known_log.KnownLog.{KnownLog}
use Rattle.mu_lead.specs.Journal.{WritesNext}
use Rattle.mu_lead.specs.Lasting.{Follows}
use Rattle.mu_lead.specs.Noting.{NotesNext}
use Rattle.mu_lead.specs.Standing.{HasHeeded, StandsFor, known_told, verb_of}
use Rattle.mu_lead.specs.Stepping.{IsAnswered, Steps}
use Rattle.mu_lead.specs.declared.lead.Lead.{Lead}
use Rattle.mu_lead.specs.declared.note.Note.{Note}
use Rattle.mu_model.proofs.Basics.{same_some}
use Rattle.mu_model.specs.Knowledge.{known}
use Rattle.mu_model.specs.Parts.{IsPossible}
use Rattle.mu_model.specs.declared.event.Answer.{Answer}
use Rattle.mu_model.specs.declared.event.Event.{Event}
use Rattle.mu_model.specs.declared.event.Verb.{Verb}
use Rattle.mu_model.specs.Histories.{event_by}
use Rattle.std.proofs.Common.{List, Some, subst, sym, ℕ, ◌∙◌, ◌∷◌, ◌≡◌}

-- by the answer to the verb that was due after these events the leader makes its step
abbrev pub StepsNext : List Event → Lead → List ℕ → KnownLog → Answer → Lead → Note → Type 0
StepsNext mine old values log answer new note =
    (verb : Verb) → verb_of old (known old.config old.id mine) ≡ Some verb → IsPossible old.config old.id (event_by old.id verb answer ∷ mine)
    → values ≡ known_told old.config old.id mine old.id verb answer → Steps mine old values log verb answer new note

-- the verb that was due is the one that was answered
pub steps_next : (mine : List Event) (old new : Lead) (values : List ℕ) (log : KnownLog) (answered : Verb) (answer : Answer) (note : Note) → StandsFor mine old → HasHeeded mine old → verb_of old (known old.config old.id mine) ≡ Some answered
    → ((past : List Event) → IsAnswered past old values answered answer → Steps past old values log answered answer new note) → StepsNext mine old values log answer new note
steps_next mine old new values log answered answer note s heeded was steps verb due possible told =
    let same = same_some answered verb (sym was ∙ due) in
    let may = subst (λ v. IsPossible old.config old.id (event_by old.id v answer ∷ mine)) (sym same) possible in
    let known_now = subst (λ v. values ≡ known_told old.config old.id mine old.id v answer) (sym same) told in
    subst (λ v. Steps mine old values log v answer new note) same (steps mine (record { stands = s; heeded = heeded; due = was; possible = may; told = known_now }))

pub follows_next : (mine : List Event) (old new : Lead) (values : List ℕ) (log : KnownLog) (answer : Answer) (note : Note) → StepsNext mine old values log answer new note → HoldsValues old.config values log → Follows mine old values answer new
follows_next mine old new values log answer note steps holds verb due possible told = (steps verb due possible told).place holds

pub writes_next : (mine : List Event) (old new : Lead) (values : List ℕ) (log : KnownLog) (answer : Answer) (note : Note) → StepsNext mine old values log answer new note → WritesNext mine old values answer new
writes_next mine old new values log answer note steps verb due possible told = (steps verb due possible told).tables

pub notes_next : (mine : List Event) (old new : Lead) (values : List ℕ) (log : KnownLog) (answer : Answer) (note : Note) → StepsNext mine old values log answer new note → NotesNext mine old values answer note
notes_next mine old new values log answer note steps verb due possible told = (steps verb due possible told).note
