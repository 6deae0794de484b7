-- What kind a note is of, and what a verb or a place rules out.
use Rattle.mu_lead.specs.Notes.{note_of_commit, note_of_head}
use Rattle.mu_lead.specs.Noting.{note_of_enter, note_of_evidence, note_of_past}
use Rattle.mu_lead.specs.Saying.{EndsJoining, IsLastStep, SaysReads, ShowsHigher, ShowsNoRoom, Teaches, is_working_or_lost, note_of_join, note_of_learning}
use Rattle.mu_lead.specs.declared.note.AbortCause.{AbortCause}
use Rattle.mu_lead.specs.declared.note.Note.{Note}
use Rattle.mu_lead.specs.declared.place.Offer.{Offer}
use Rattle.mu_lead.specs.declared.place.Place.{Place}
use Rattle.mu_lead.specs.declared.place.Then.{Then}
use Rattle.mu_model.specs.declared.config.Config.{Config}
use Rattle.mu_model.specs.declared.event.Answer.{Answer}
use Rattle.mu_model.specs.declared.event.Event.{Event}
use Rattle.mu_model.specs.declared.event.Fence.{Fence}
use Rattle.mu_model.specs.declared.event.Verb.{Verb}
use Rattle.std.proofs.Common.{Bool, List, ap, false, inl, inr, refl, sym, true, true≢false, ℕ, ◌-◌, ◌∙◌, ◌≡◌}
use Rattle.std.specs.Prelude.{if◌then◌else◌, ◌↔◌}
use Rattle.mu_model.specs.Steps.{is_min_verb}

-- what kind a note is of
abbrev pub is_higher : Note → Bool
is_higher (Note.Aborted (AbortCause.Higher p m)) = true
is_higher note = false

abbrev pub is_no_room : Note → Bool
is_no_room (Note.NoRoom q h i) = true
is_no_room note = false

abbrev pub is_learnt : Note → Bool
is_learnt (Note.Learnt i v) = true
is_learnt note = false

abbrev pub is_joined : Note → Bool
is_joined (Note.Joined p) = true
is_joined note = false

abbrev pub is_head : Verb → Bool
is_head (Verb.Head q) = true
is_head verb = false

abbrev pub is_look : Verb → Bool
is_look (Verb.Look p i) = true
is_look verb = false

-- the place may end a joining
abbrev pub may_join : Place → Bool
may_join (Place.RaiseBehind p Then.Joined) = true
may_join (Place.LatePut p) = true
may_join place = false

pub differs_by_test : {A : Type 0} (test : A → Bool) (x y : A) → test x ≡ false → test y ≡ true → x ≡ y → ⊥
differs_by_test test x y out holds is = true≢false (sym holds ∙ sym (ap test is) ∙ out)

pub none_higher : (r : ℕ) (mine : List Event) (verb : Verb) (answer : Answer) (note : Note) → is_higher note ≡ false → ((p m : ℕ) → ShowsHigher r mine verb answer p m → ⊥) → (p m : ℕ) → (note ≡ Note.Aborted (AbortCause.Higher p m)) ↔ ShowsHigher r mine verb answer p m
none_higher r mine verb answer note out none p m = (λ is. absurd (differs_by_test is_higher note (Note.Aborted (AbortCause.Higher p m)) out refl is), λ shows. absurd (none p m shows))

pub none_room : (c : Config) (r : ℕ) (mine : List Event) (verb : Verb) (answer : Answer) (note : Note) → is_no_room note ≡ false → ((q h i : ℕ) → ShowsNoRoom c r mine verb answer q h i → ⊥) → (q h i : ℕ) → (note ≡ Note.NoRoom q h i) ↔ ShowsNoRoom c r mine verb answer q h i
none_room c r mine verb answer note out none q h i = (λ is. absurd (differs_by_test is_no_room note (Note.NoRoom q h i) out refl is), λ shows. absurd (none q h i shows))

pub none_joined : (c : Config) (r : ℕ) (mine : List Event) (up : List ℕ) (place : Place) (answer : Answer) (note : Note) → is_joined note ≡ false → ((p : ℕ) → EndsJoining c r mine up place answer p → ⊥) → (p : ℕ) → (note ≡ Note.Joined p) ↔ EndsJoining c r mine up place answer p
none_joined c r mine up place answer note out none p = (λ is. absurd (differs_by_test is_joined note (Note.Joined p) out refl is), λ ends. absurd (none p ends))

pub none_learnt : (c : Config) (r : ℕ) (mine : List Event) (verb : Verb) (answer : Answer) (note : Note) → is_learnt note ≡ false → ((i v : ℕ) → Teaches c r mine verb answer i v → ⊥) → (i v : ℕ) → (note ≡ Note.Learnt i v) ↔ Teaches c r mine verb answer i v
none_learnt c r mine verb answer note out none i v = (λ is. absurd (differs_by_test is_learnt note (Note.Learnt i v) out refl is), λ teaches. absurd (none i v teaches))

-- what the verb rules out
pub not_min : (r : ℕ) (mine : List Event) (verb : Verb) (answer : Answer) → is_min_verb verb ≡ false → (p m : ℕ) → ShowsHigher r mine verb answer p m → ⊥
not_min r mine verb answer out p m shows = differs_by_test is_min_verb verb (Verb.Min p) out refl shows.asked

pub not_head : (c : Config) (r : ℕ) (mine : List Event) (verb : Verb) (answer : Answer) → is_head verb ≡ false → (q h i : ℕ) → ShowsNoRoom c r mine verb answer q h i → ⊥
not_head c r mine verb answer out q h i shows = differs_by_test is_head verb (Verb.Head q) out refl shows.asked

pub not_look : (c : Config) (r : ℕ) (mine : List Event) (verb : Verb) (answer : Answer) → is_look verb ≡ false → (i v : ℕ) → Teaches c r mine verb answer i v → ⊥
not_look c r mine verb answer out i v teaches = differs_by_test is_look verb (Verb.Look teaches.region i) out refl teaches.looked

pub not_join : (c : Config) (r : ℕ) (mine : List Event) (up : List ℕ) (place : Place) (answer : Answer) → may_join place ≡ false → (p : ℕ) → EndsJoining c r mine up place answer p → ⊥
not_join c r mine up place answer out p ends = not_last ends.last
  where
    not_last : IsLastStep c r mine up place answer p → ⊥
    not_last (inl raised) = differs_by_test may_join place (Place.RaiseBehind p Then.Joined) out refl raised
    not_last (inr put) = differs_by_test may_join place (Place.LatePut p) out refl put.0

-- a note of none of these kinds, if none of the rows holds
pub says_none : (c : Config) (r : ℕ) (mine : List Event) (up : List ℕ) (place : Place) (verb : Verb) (answer : Answer) (note : Note) → is_higher note ≡ false → is_no_room note ≡ false → is_joined note ≡ false → is_learnt note ≡ false
    → is_min_verb verb ≡ false → is_head verb ≡ false → is_look verb ≡ false → may_join place ≡ false → SaysReads c r mine up place verb answer note
says_none c r mine up place verb answer note h n j l min head look join = record {
  higher = none_higher r mine verb answer note h (not_min r mine verb answer min);
  no_room = none_room c r mine verb answer note n (not_head c r mine verb answer head);
  learnt = none_learnt c r mine verb answer note l (not_look c r mine verb answer look);
  joined = none_joined c r mine up place answer note j (not_join c r mine up place answer join);
}

-- the same for `Working`
pub says_working : (c : Config) (r : ℕ) (mine : List Event) (up : List ℕ) (place : Place) (verb : Verb) (answer : Answer) (note : Note) → note ≡ Note.Working → is_min_verb verb ≡ false → is_head verb ≡ false → is_look verb ≡ false → may_join place ≡ false → SaysReads c r mine up place verb answer note
says_working c r mine up place verb answer note is min head look join = says_none c r mine up place verb answer note (ap is_higher is) (ap is_no_room is) (ap is_joined is) (ap is_learnt is) min head look join

-- the note of a round, or none yet, is of no kind that these aren't of
pub round_quiet : (test : Note → Bool) (x y : Bool) (s t : ℕ) → test Note.Working ≡ false → ((s : ℕ) → test (Note.Confirmed s) ≡ false) → ((s : ℕ) → test (Note.NotConfirmed s) ≡ false) → test (if x then Note.Working else (if y then Note.Confirmed s else Note.NotConfirmed t)) ≡ false
round_quiet test true y s t working confirmed unconfirmed = working
round_quiet test false true s t working confirmed unconfirmed = confirmed s
round_quiet test false false s t working confirmed unconfirmed = unconfirmed t

-- nor is one of a put of the offer
pub put_quiet : (test : Note → Bool) (n : ℕ) (offer : Offer) (x : Bool) → test Note.Working ≡ false → ((i v : ℕ) → test (Note.Committed i v) ≡ false) → ((i v : ℕ) → test (Note.Adopted i v) ≡ false) → test (if x then note_of_commit n offer else Note.Working) ≡ false
put_quiet test n offer false working committed adopted = working
put_quiet test n offer true working committed adopted = go offer.adopted
  where
    go : (t : Bool) → test (if t then Note.Adopted n offer.value else Note.Committed n offer.value) ≡ false
    go true = adopted n offer.value
    go false = committed n offer.value

-- no place is noted so by these notes
abbrev pub AreApart : Note → Type 0
AreApart note = (is_higher note ≡ false) × (is_no_room note ≡ false) × (is_joined note ≡ false) × (is_learnt note ≡ false)

pub round_apart : (x y : Bool) (s t : ℕ) → AreApart (if x then Note.Working else (if y then Note.Confirmed s else Note.NotConfirmed t))
round_apart x y s t = (
  round_quiet is_higher x y s t refl (λ s. refl) (λ s. refl),
  round_quiet is_no_room x y s t refl (λ s. refl) (λ s. refl),
  round_quiet is_joined x y s t refl (λ s. refl) (λ s. refl),
  round_quiet is_learnt x y s t refl (λ s. refl) (λ s. refl),
)

pub put_apart : (n : ℕ) (offer : Offer) (x : Bool) → AreApart (if x then note_of_commit n offer else Note.Working)
put_apart n offer x = (
  put_quiet is_higher n offer x refl (λ i v. refl) (λ i v. refl),
  put_quiet is_no_room n offer x refl (λ i v. refl) (λ i v. refl),
  put_quiet is_joined n offer x refl (λ i v. refl) (λ i v. refl),
  put_quiet is_learnt n offer x refl (λ i v. refl) (λ i v. refl),
)

-- nor one of a look at the first unknown position
pub learning_quiet : (test : Note → Bool) (n : ℕ) (a : Answer) → test Note.Working ≡ false → ((i v : ℕ) → test (Note.Learnt i v) ≡ false) → test (note_of_learning n a) ≡ false
learning_quiet test n (Answer.Entry b v) working learnt = learnt (n - 1) v
learning_quiet test n a working learnt = working

-- nor one of a look at a new position
pub look_quiet : (test : Note → Bool) (i : ℕ) (s t : Bool) (v : ℕ) → test Note.Working ≡ false → ((i v : ℕ) → test (Note.Learnt i v) ≡ false) → test (if s then Note.Working else (if t then Note.Learnt i v else Note.Working)) ≡ false
look_quiet test i true t v working learnt = working
look_quiet test i false true v working learnt = learnt i v
look_quiet test i false false v working learnt = working

-- nor one of a minimum
pub min_quiet : (test : Note → Bool) (p x : ℕ) (t : Bool) → test Note.Working ≡ false → ((p m : ℕ) → test (Note.Aborted (AbortCause.Higher p m)) ≡ false) → test (if t then Note.Aborted (AbortCause.Higher p x) else Note.Working) ≡ false
min_quiet test p x true working higher = higher p x
min_quiet test p x false working higher = working

-- nor one of a head
pub head_quiet : (test : Note → Bool) (q h i : ℕ) (s t : Bool) → test Note.Working ≡ false → ((q h i : ℕ) → test (Note.NoRoom q h i) ≡ false) → test (note_of_head q h i s t) ≡ false
head_quiet test q h i true t working room = working
head_quiet test q h i false true working room = working
head_quiet test q h i false false working room = room q h i

-- nor one of a put that makes a member
pub join_quiet : (test : Note → Bool) (p : ℕ) (x y : Bool) → test Note.Working ≡ false → ((p : ℕ) → test (Note.Joined p) ≡ false) → test (if x then Note.Working else note_of_join p y) ≡ false
join_quiet test p true y working joined = working
join_quiet test p false true working joined = working
join_quiet test p false false working joined = joined p

-- nor one of a fence or an `Enter`
pub loss_quiet : (test : Note → Bool) (note : Note) → is_working_or_lost note ≡ true → test Note.Working ≡ false → ((p : ℕ) (f : Fence) → test (Note.Aborted (AbortCause.Lost p f)) ≡ false) → test note ≡ false
loss_quiet test Note.Working is working lost = working
loss_quiet test (Note.Aborted (AbortCause.Lost p f)) is working lost = lost p f
loss_quiet test (Note.Aborted (AbortCause.Higher p m)) is working lost = absurd (true≢false (sym is))
loss_quiet test note is working lost = absurd (true≢false (sym is))

-- these are the notes of an `Enter`, and of a fence after a put that missed or a look that was past
pub enter_loses : (p : ℕ) (a : Answer) → is_working_or_lost (note_of_enter p a) ≡ true
enter_loses p (Answer.Lost f) = refl
enter_loses p a = refl

pub evidence_loses : (p : ℕ) (a : Answer) → is_working_or_lost (note_of_evidence p a) ≡ true
evidence_loses p (Answer.Seen f) = refl
evidence_loses p a = refl

pub past_loses : (p : ℕ) (a : Answer) (over : Bool) → is_working_or_lost (note_of_past p a over) ≡ true
past_loses p (Answer.Seen f) true = refl
past_loses p (Answer.Seen f) false = refl
past_loses p a over = refl

pub lost_apart : (note : Note) → is_working_or_lost note ≡ true → AreApart note
lost_apart note is = (
  loss_quiet is_higher note is refl (λ p f. refl),
  loss_quiet is_no_room note is refl (λ p f. refl),
  loss_quiet is_joined note is refl (λ p f. refl),
  loss_quiet is_learnt note is refl (λ p f. refl),
)
