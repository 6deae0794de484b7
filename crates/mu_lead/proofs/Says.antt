-- Each note comes exactly if its row holds.
use Rattle.mu_agree.proofs.Possible.{parts_in_session_law}
use Rattle.mu_lead.proofs.Commits.{commit_none, commit_says, is_adopted, is_committed}
use Rattle.mu_lead.proofs.Losses.{is_lost, losses_say}
use Rattle.mu_lead.proofs.NoteKinds.{differs_by_test, is_higher, is_joined, is_learnt, is_no_room, put_quiet, round_quiet}
use Rattle.mu_lead.proofs.Quiet.{Spares, spared}
use Rattle.mu_lead.proofs.Rounds.{is_confirmed, is_not_confirmed, round_none, round_says}
use Rattle.mu_lead.proofs.Rows.{reads_say}
use Rattle.mu_lead.proofs.Telling.{spares_adopted, spares_committed, tells_say}
use Rattle.mu_lead.specs.Lasting.{step_of, tables_of, verb_or}
use Rattle.mu_lead.specs.Leading.{HoldsTables, end_of}
use Rattle.mu_lead.specs.Listing.{Tables}
use Rattle.mu_lead.specs.Losses.{SaysLost}
use Rattle.mu_lead.specs.Notes.{note_of_commit, value_committed}
use Rattle.mu_lead.specs.Noting.{NotesNext, next_note, note_of_round}
use Rattle.mu_lead.specs.Saying.{SaysCommit, SaysNext, SaysReads, SaysRound, is_of_no_place}
use Rattle.mu_lead.specs.Sets.{bits}
use Rattle.mu_lead.specs.Standing.{At, StandsFor, known_told, verb_at, verb_of}
use Rattle.mu_lead.specs.declared.lead.Lead.{Lead}
use Rattle.mu_lead.specs.declared.note.AbortCause.{AbortCause}
use Rattle.mu_lead.specs.declared.note.Note.{Note}
use Rattle.mu_lead.specs.declared.place.Place.{Place}
use Rattle.mu_agree.proofs.Within.{known_few}
use Rattle.mu_model.specs.Contents.{IsConfig, IsInSession, holds_all}
use Rattle.mu_model.specs.Diligence.{is_confirmed as is_confirmed_by}
use Rattle.mu_model.specs.Knowledge.{grown, known}
use Rattle.mu_model.specs.Leaderships.{noted_grant}
use Rattle.mu_model.specs.Parts.{IsPossible}
use Rattle.mu_model.specs.declared.config.Config.{Config}
use Rattle.mu_model.specs.declared.event.Answer.{Answer}
use Rattle.mu_model.specs.declared.event.Event.{Event}
use Rattle.mu_model.specs.declared.event.Fence.{Fence}
use Rattle.mu_model.specs.declared.event.Verb.{Verb}
use Rattle.mu_model.specs.Histories.{event_by}
use Rattle.std.proofs.Common.{Bool, List, Some, ap, false, inl, inr, is_some, length, refl, subst, sym, true, ℕ, ◌+◌, ◌<◌, ◌∙◌, ◌∷◌, ◌≡◌}
use Rattle.std.specs.Prelude.{if◌then◌else◌, nat_lt, ◌⊎◌}

-- the step of the leader's place is the verb that was due
due_step : (old : Lead) (mine : List Event) (verb : Verb) → verb_at old.config old.number (known old.config old.id mine) old.up old.written.items old.place ≡ Some verb → verb_or (verb_at old.config old.number (known old.config old.id mine) old.up old.written.items old.place) ≡ verb
due_step old mine verb due = ap verb_or due

spares_confirmed : Spares is_confirmed
spares_confirmed = record { working = refl; learnt = λ i v. refl; joined = λ p. refl; lost = λ p f. refl; higher = λ p m. refl; room = λ q h i. refl }

spares_not_confirmed : Spares is_not_confirmed
spares_not_confirmed = record { working = refl; learnt = λ i v. refl; joined = λ p. refl; lost = λ p f. refl; higher = λ p m. refl; room = λ q h i. refl }

spares_no_place : Spares is_of_no_place
spares_no_place = record { working = refl; learnt = λ i v. refl; joined = λ p. refl; lost = λ p f. refl; higher = λ p m. refl; room = λ q h i. refl }

-- the notes of rounds
rounds_say : (c : Config) (r b : ℕ) (mine : List Event) (old : Tables) (a : Answer) (place : Place) → At c r b mine old.up old.reach old.written place → SaysRound c r (step_of c r b mine old.up old.written place a ∷ mine) place (next_note c r b mine (step_of c r b mine old.up old.written place a ∷ mine) old a place)
rounds_say c r b mine old a (Place.Confirm round p) at = round_says c r round p (event_by r (Verb.Fence p) a ∷ mine) at.1.region
rounds_say c r b mine old a (Place.Put p offer) at =
    let now = event_by r (Verb.PutSlot p (end_of c r mine) b offer.value) a ∷ mine in
    let grew = nat_lt (end_of c r mine) (end_of c r now) in
    round_none c r now (Place.Put p offer) (if grew then note_of_commit (end_of c r mine) offer else Note.Working) (put_quiet is_confirmed (end_of c r mine) offer grew refl (λ i v. refl) (λ i v. refl)) (put_quiet is_not_confirmed (end_of c r mine) offer grew refl (λ i v. refl) (λ i v. refl)) refl
rounds_say c r b mine old a place at =
    let now = step_of c r b mine old.up old.written place a ∷ mine in
    round_none c r now place (next_note c r b mine now old a place) (spared is_confirmed c r b mine now old a place spares_confirmed refl) (spared is_not_confirmed c r b mine now old a place spares_not_confirmed refl) refl

-- the notes of entries that a put made known
commits_say : (c : Config) (r b : ℕ) (mine : List Event) (old : Tables) (a : Answer) (place : Place) → At c r b mine old.up old.reach old.written place → IsPossible c r (step_of c r b mine old.up old.written place a ∷ mine)
    → SaysCommit c r mine (verb_or (verb_at c b (known c r mine) old.up old.written place)) a (next_note c r b mine (step_of c r b mine old.up old.written place a ∷ mine) old a place)
commits_say c r b mine old a (Place.Put p offer) at possible =
    let now = event_by r (Verb.PutSlot p (end_of c r mine) b offer.value) a ∷ mine in
    commit_says c r p b mine a (known c r mine) offer (if nat_lt (end_of c r mine) (end_of c r now) then note_of_commit (end_of c r mine) offer else Note.Working) at.1 (either (nat_lt (end_of c r mine) (end_of c r now))) (tells_say c r b mine old a (Place.Put p offer) at possible) refl
  where
    either : (x : Bool) → ((if x then note_of_commit (end_of c r mine) offer else Note.Working) ≡ Note.Working) ⊎ ((if x then note_of_commit (end_of c r mine) offer else Note.Working) ≡ note_of_commit (end_of c r mine) offer)
    either true = inr refl
    either false = inl refl
commits_say c r b mine old a (Place.Confirm round p) at possible =
    let now = event_by r (Verb.Fence p) a ∷ mine in
    let named = bits (λ q. is_some (noted_grant r q now)) in
    commit_none c r mine (Verb.Fence p) a (known c r now) (if nat_lt (p + 1) c.replicas then Note.Working else note_of_round c r now) (round_quiet is_committed (nat_lt (p + 1) c.replicas) (is_confirmed_by c r now) named named refl (λ s. refl) (λ s. refl)) (round_quiet is_adopted (nat_lt (p + 1) c.replicas) (is_confirmed_by c r now) named named refl (λ s. refl) (λ s. refl))
    (tells_say c r b mine old a (Place.Confirm round p) at possible) refl
commits_say c r b mine old a place at possible =
    let now = step_of c r b mine old.up old.written place a ∷ mine in
    let verb = verb_or (verb_at c b (known c r mine) old.up old.written place) in
    commit_none c r mine verb a (known_told c r mine r verb a) (next_note c r b mine now old a place) (spared is_committed c r b mine now old a place spares_committed refl) (spared is_adopted c r b mine now old a place spares_adopted refl) (tells_say c r b mine old a place at possible) refl

-- no place notes a resignation, or that all is known
places_say : (c : Config) (r b : ℕ) (mine now : List Event) (old : Tables) (a : Answer) (place : Place) → is_of_no_place (next_note c r b mine now old a place) ≡ false
places_say c r b mine now old a (Place.Put p offer) = put_quiet is_of_no_place (end_of c r mine) offer (nat_lt (end_of c r mine) (end_of c r now)) refl (λ i v. refl) (λ i v. refl)
places_say c r b mine now old a (Place.Confirm round p) =
    let named = bits (λ q. is_some (noted_grant r q now)) in
    round_quiet is_of_no_place (nat_lt (p + 1) c.replicas) (is_confirmed_by c r now) named named refl (λ s. refl) (λ s. refl)
places_say c r b mine now old a place = spared is_of_no_place c r b mine now old a place spares_no_place refl

-- the rows of a note, before `Idle` takes the place of `Working`
pub record IsSaid (c : Config) (r : ℕ) (mine : List Event) (up : List ℕ) (place : Place) (verb : Verb) (answer : Answer) (note : Note) : Type 0 where
  pub rounds : SaysRound c r (event_by r verb answer ∷ mine) place note
  pub commits : SaysCommit c r mine verb answer note
  pub lost : SaysLost r mine place verb answer note
  pub reads : SaysReads c r mine up place verb answer note
  pub placed : is_of_no_place note ≡ false
  pub grew : known c r (event_by r verb answer ∷ mine) ≡ grown (known_told c r mine r verb answer) (value_committed note)

-- the note of each place has them
notes_say : (c : Config) (r b : ℕ) (mine : List Event) (old : Tables) (a : Answer) (place : Place) → IsConfig c → HoldsTables c r mine old.up old.reach old.heads old.written → At c r b mine old.up old.reach old.written place → IsPossible c r (step_of c r b mine old.up old.written place a ∷ mine)
    → IsSaid c r mine old.up place (verb_or (verb_at c b (known c r mine) old.up old.written place)) a (next_note c r b mine (step_of c r b mine old.up old.written place a ∷ mine) old a place)
notes_say c r b mine old a place is held at possible = record {
  rounds = rounds_say c r b mine old a place at;
  commits = commits_say c r b mine old a place at possible;
  lost = losses_say c r b mine old a place at possible;
  reads = reads_say c r b mine old a place is held at possible;
  placed = places_say c r b mine (step_of c r b mine old.up old.written place a ∷ mine) old a place;
  grew = tells_say c r b mine old a place at possible;
}

-- so has the leader's
pub said_next : (mine : List Event) (old : Lead) (values : List ℕ) (answer : Answer) (note : Note) (verb : Verb) → StandsFor mine old → NotesNext mine old values answer note
    → verb_of old (known old.config old.id mine) ≡ Some verb → IsPossible old.config old.id (event_by old.id verb answer ∷ mine) → values ≡ known_told old.config old.id mine old.id verb answer → IsSaid old.config old.id mine old.up old.place verb answer note
said_next mine old values answer note verb s noted due possible told =
    let is = due_step old mine verb due in
    subst (IsSaid old.config old.id mine old.up old.place verb answer) (sym (noted verb due possible told))
    (subst (λ w. IsSaid old.config old.id mine old.up old.place w answer (next_note old.config old.id old.number mine (event_by old.id w answer ∷ mine) (tables_of old) answer old.place)) is
    (notes_say old.config old.id old.number mine (tables_of old) answer old.place s.config s.tables s.at (subst (λ w. IsPossible old.config old.id (event_by old.id w answer ∷ mine)) (sym is) possible)))

-- and what is known grew as it tells
pub grew_next : (mine : List Event) (old : Lead) (values : List ℕ) (answer : Answer) (note : Note) (verb : Verb) → StandsFor mine old → NotesNext mine old values answer note
    → verb_of old (known old.config old.id mine) ≡ Some verb → IsPossible old.config old.id (event_by old.id verb answer ∷ mine) → values ≡ known_told old.config old.id mine old.id verb answer
    → known old.config old.id (event_by old.id verb answer ∷ mine) ≡ grown values (value_committed note)
grew_next mine old values answer note verb s noted due possible told = (said_next mine old values answer note verb s noted due possible told).grew ∙ ap (λ xs. grown xs (value_committed note)) (sym told)

-- whether the values hold all commands is what is asked of the known list
pub all_known : (mine : List Event) (old : Lead) (values : List ℕ) (answer : Answer) (verb : Verb) (note : Note) (all : Bool) → note ≡ Note.Working → known old.config old.id (event_by old.id verb answer ∷ mine) ≡ grown values (value_committed note)
    → holds_all old.config values ≡ all → holds_all old.config (known old.config old.id (event_by old.id verb answer ∷ mine)) ≡ all
all_known mine old values answer verb note all is tells all_is = ap (holds_all old.config) (tells ∙ ap (λ n. grown values (value_committed n)) is) ∙ all_is

-- the values are in session, if the note tells of no commit
pub values_in_session : (mine : List Event) (old : Lead) (values : List ℕ) (answer : Answer) (verb : Verb) (note : Note) → StandsFor mine old → IsPossible old.config old.id (event_by old.id verb answer ∷ mine) → note ≡ Note.Working
    → known old.config old.id (event_by old.id verb answer ∷ mine) ≡ grown values (value_committed note) → (IsInSession old.config values) × (length values < 65536)
values_in_session mine old values answer verb note s possible is tells =
    let same = tells ∙ ap (λ n. grown values (value_committed n)) is in
    (subst (IsInSession old.config) same (parts_in_session_law old.config old.id (event_by old.id verb answer ∷ mine) s.config possible), subst (λ xs. length xs < 65536) same (known_few old.config old.id (event_by old.id verb answer ∷ mine) s.config possible))

-- the note of `take_answer`, if it is told apart from `Idle`
pub says_next : (mine : List Event) (old : Lead) (values : List ℕ) (answer : Answer) (note : Note) → StandsFor mine old → NotesNext mine old values answer note
    → (note ≡ Note.Working → length values < 65536 → IsInSession old.config values → holds_all old.config values ≡ false) → SaysNext mine old values answer note
says_next mine old values answer note s noted lacks verb due possible told =
    let grew = grew_next mine old values answer note verb s noted due possible told in
    let said = said_next mine old values answer note verb s noted due possible told in
    let reads = said.reads in
    let placed = said.placed in
    record {
      rounds = said.rounds;
      commits = said.commits;
      lost = said.lost;
      higher = reads.higher;
      no_room = reads.no_room;
      learnt = reads.learnt;
      joined = reads.joined;
      idle = λ is. absurd (differs_by_test is_of_no_place note Note.Idle placed refl is);
      working = λ is. (let in_session = values_in_session mine old values answer verb note s possible is grew in all_known mine old values answer verb note false is grew (lacks is in_session.1 in_session.0));
      stays = λ to is. differs_by_test is_of_no_place note (Note.Resigned to) placed refl is;
      kept = λ p fence is. differs_by_test is_of_no_place note (Note.Astray p fence) placed refl is;
    }

-- `Idle` in place of `Working`, if all commands are known
pub says_idle : (mine : List Event) (old : Lead) (values : List ℕ) (answer : Answer) (note : Note) → StandsFor mine old → NotesNext mine old values answer note → note ≡ Note.Working
    → (length values < 65536 → IsInSession old.config values → holds_all old.config values ≡ true) → SaysNext mine old values answer Note.Idle
says_idle mine old values answer note s noted is all verb due possible told =
    let grew = grew_next mine old values answer note verb s noted due possible told in
    let said = said_next mine old values answer note verb s noted due possible told in
    let in_session = values_in_session mine old values answer verb note s possible is grew in
    let reads = said.reads in
    let rounds = said.rounds in
    let commits = said.commits in
    let lost = said.lost in
    record {
      rounds = record {
        confirmed = λ u. ((λ same. absurd (differs_by_test is_confirmed Note.Idle (Note.Confirmed u) refl refl same)), (λ row. absurd (differs_by_test is_confirmed note (Note.Confirmed u) (ap is_confirmed is) refl ((rounds.confirmed u).1 row))));
        not_confirmed = λ u. ((λ same. absurd (differs_by_test is_not_confirmed Note.Idle (Note.NotConfirmed u) refl refl same)), (λ row. absurd (differs_by_test is_not_confirmed note (Note.NotConfirmed u) (ap is_not_confirmed is) refl ((rounds.not_confirmed u).1 row))));
      };
      commits = record {
        committed = λ i v. ((λ same. absurd (differs_by_test is_committed Note.Idle (Note.Committed i v) refl refl same)), (λ row. absurd (differs_by_test is_committed note (Note.Committed i v) (ap is_committed is) refl ((commits.committed i v).1 row))));
        adopted = λ i v. ((λ same. absurd (differs_by_test is_adopted Note.Idle (Note.Adopted i v) refl refl same)), (λ row. absurd (differs_by_test is_adopted note (Note.Adopted i v) (ap is_adopted is) refl ((commits.adopted i v).1 row))));
      };
      lost = λ p f. ((λ same. absurd (differs_by_test is_lost Note.Idle (Note.Aborted (AbortCause.Lost p f)) refl refl same)), (λ row. absurd (differs_by_test is_lost note (Note.Aborted (AbortCause.Lost p f)) (ap is_lost is) refl ((lost p f).1 row))));
      higher = λ p m. ((λ same. absurd (differs_by_test is_higher Note.Idle (Note.Aborted (AbortCause.Higher p m)) refl refl same)), (λ row. absurd (differs_by_test is_higher note (Note.Aborted (AbortCause.Higher p m)) (ap is_higher is) refl ((reads.higher p m).1 row))));
      no_room = λ q h i. ((λ same. absurd (differs_by_test is_no_room Note.Idle (Note.NoRoom q h i) refl refl same)), (λ row. absurd (differs_by_test is_no_room note (Note.NoRoom q h i) (ap is_no_room is) refl ((reads.no_room q h i).1 row))));
      learnt = λ i v. ((λ same. absurd (differs_by_test is_learnt Note.Idle (Note.Learnt i v) refl refl same)), (λ row. absurd (differs_by_test is_learnt note (Note.Learnt i v) (ap is_learnt is) refl ((reads.learnt i v).1 row))));
      joined = λ p. ((λ same. absurd (differs_by_test is_joined Note.Idle (Note.Joined p) refl refl same)), (λ row. absurd (differs_by_test is_joined note (Note.Joined p) (ap is_joined is) refl ((reads.joined p).1 row))));
      idle = λ same. all_known mine old values answer verb note true is grew (all in_session.1 in_session.0);
      working = λ same. absurd (differs_by_test is_of_no_place Note.Working Note.Idle refl refl (sym same));
      stays = λ to same. not_resigned to same;
      kept = λ p fence same. not_astray p fence same;
    }
  where
    not_resigned : (to : ℕ) → Note.Idle ≡ Note.Resigned to → ⊥
    not_resigned to same = cc

    not_astray : (p : ℕ) (fence : Fence) → Note.Idle ≡ Note.Astray p fence → ⊥
    not_astray p fence same = cc

-- which it is, by whether the values hold all commands
idle_if : (x : Bool) → Note.Idle ≡ (if x then Note.Idle else Note.Working) → x ≡ true
idle_if true is = refl
idle_if false is = cc

working_if : (x : Bool) → Note.Working ≡ (if x then Note.Idle else Note.Working) → x ≡ false
working_if true is = cc
working_if false is = refl

-- the note, or `Idle` in place of `Working`
abbrev pub IsToldAs : Note → Note → Type 0
IsToldAs note result = (result ≡ note) ⊎ ((result ≡ Note.Idle) × (note ≡ Note.Working))

abbrev pub TellsAll : Config → List ℕ → Note → Note → Type 0
TellsAll c values note result = length values < 65536 → IsInSession c values → note ≡ Note.Working → result ≡ (if holds_all c values then Note.Idle else Note.Working)

pub lacks_some : (c : Config) (values : List ℕ) (note result : Note) → TellsAll c values note result → result ≡ note → note ≡ Note.Working → length values < 65536 → IsInSession c values → holds_all c values ≡ false
lacks_some c values note result tells same is few session = working_if (holds_all c values) (sym is ∙ sym same ∙ tells few session is)

pub holds_them : (c : Config) (values : List ℕ) (note result : Note) → TellsAll c values note result → result ≡ Note.Idle → note ≡ Note.Working → length values < 65536 → IsInSession c values → holds_all c values ≡ true
holds_them c values note result tells idle is few session = idle_if (holds_all c values) (sym idle ∙ tells few session is)

pub says_told : (mine : List Event) (old : Lead) (values : List ℕ) (answer : Answer) (note result : Note) → StandsFor mine old → NotesNext mine old values answer note → IsToldAs note result → TellsAll old.config values note result → SaysNext mine old values answer result
says_told mine old values answer note result s noted (inl same) tells = subst (SaysNext mine old values answer) (sym same) (says_next mine old values answer note s noted (lacks_some old.config values note result tells same))
says_told mine old values answer note result s noted (inr idle) tells = subst (SaysNext mine old values answer) (sym idle.0) (says_idle mine old values answer note s noted idle.1 (holds_them old.config values note result tells idle.0 idle.1))

-- it tells of the same value
pub same_value : (note result : Note) → IsToldAs note result → value_committed result ≡ value_committed note
same_value note result (inl same) = ap value_committed same
same_value note result (inr idle) = ap value_committed idle.0 ∙ sym (ap value_committed idle.1)
