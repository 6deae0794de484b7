-- Which notes the places give besides those of rounds and of puts of the offer.
use Rattle.mu_lead.proofs.NoteKinds.{enter_loses, evidence_loses, head_quiet, join_quiet, learning_quiet, look_quiet, loss_quiet, min_quiet, past_loses}
use Rattle.mu_lead.specs.Leading.{end_of}
use Rattle.mu_lead.specs.Listing.{Tables, is_missed, may_mark, number_told}
use Rattle.mu_lead.specs.Noting.{next_note, note_of_enter, note_of_evidence, note_of_past}
use Rattle.mu_lead.specs.Saying.{value_seen}
use Rattle.mu_lead.specs.declared.note.AbortCause.{AbortCause}
use Rattle.mu_lead.specs.declared.note.Note.{Note}
use Rattle.mu_lead.specs.declared.place.Place.{Place}
use Rattle.mu_lead.specs.declared.place.Then.{Then}
use Rattle.mu_model.specs.Leaderships.{is_over}
use Rattle.mu_model.specs.Picks.{is_past}
use Rattle.mu_model.specs.Room.{reserve}
use Rattle.mu_model.specs.declared.config.Config.{Config}
use Rattle.mu_model.specs.declared.event.Answer.{Answer}
use Rattle.mu_model.specs.declared.event.Event.{Event}
use Rattle.mu_model.specs.declared.event.Fence.{Fence}
use Rattle.std.proofs.Common.{Bool, List, false, get_or, sym, true, true≢false, ℕ, ◌+◌, ◌≡◌}
use Rattle.std.specs.Prelude.{min, nat_lt}

-- the place gives no note of a round, nor one of an entry that a put made known
abbrev pub is_other : Place → Bool
is_other (Place.Confirm round p) = false
is_other (Place.Put p offer) = false
is_other place = true

-- the test fails for each note of the other places
pub record Spares (test : Note → Bool) : Type 0 where
  pub working : test Note.Working ≡ false
  pub learnt : (i v : ℕ) → test (Note.Learnt i v) ≡ false
  pub joined : (p : ℕ) → test (Note.Joined p) ≡ false
  pub lost : (p : ℕ) (f : Fence) → test (Note.Aborted (AbortCause.Lost p f)) ≡ false
  pub higher : (p m : ℕ) → test (Note.Aborted (AbortCause.Higher p m)) ≡ false
  pub room : (q h i : ℕ) → test (Note.NoRoom q h i) ≡ false

-- so it fails for the note of such a place
pub spared : (test : Note → Bool) (c : Config) (r b : ℕ) (mine now : List Event) (t : Tables) (a : Answer) (place : Place) → Spares test → is_other place ≡ true → test (next_note c r b mine now t a place) ≡ false
spared test c r b mine now t a (Place.Confirm round p) spares other = absurd (true≢false (sym other))
spared test c r b mine now t a (Place.EnterMin p) spares other = loss_quiet test (note_of_enter p a) (enter_loses p a) spares.working spares.lost
spared test c r b mine now t a (Place.Learn p) spares other = learning_quiet test (end_of c r now) a spares.working spares.learnt
spared test c r b mine now t a (Place.EnterBehind p on) spares other = loss_quiet test (note_of_enter p a) (enter_loses p a) spares.working spares.lost
spared test c r b mine now t a (Place.RaiseBehind p Then.Joined) spares other = spares.joined p
spared test c r b mine now t a (Place.FenceBehind p on) spares other = loss_quiet test (note_of_past p a (is_over r now)) (past_loses p a (is_over r now)) spares.working spares.lost
spared test c r b mine now t a (Place.LateMin p) spares other = min_quiet test p (number_told a) (nat_lt b (number_told a)) spares.working spares.higher
spared test c r b mine now t a (Place.LateEnter p) spares other = loss_quiet test (note_of_enter p a) (enter_loses p a) spares.working spares.lost
spared test c r b mine now t a (Place.LatePut p) spares other = join_quiet test p (is_missed a) (nat_lt (get_or t.up p 0) (end_of c r now)) spares.working spares.joined
spared test c r b mine now t a (Place.ReadHead q candidate) spares other =
    head_quiet test q (min (number_told a) 65535) (end_of c r now) (nat_lt (end_of c r now + reserve c) (number_told a + c.ring)) (may_mark c r now q (number_told a)) spares.working spares.room
spared test c r b mine now t a (Place.Look p i candidate best) spares other = look_quiet test i (is_past a) (nat_lt i (end_of c r now)) (value_seen a) spares.working spares.learnt
spared test c r b mine now t a (Place.Enter p offer) spares other = loss_quiet test (note_of_enter p a) (enter_loses p a) spares.working spares.lost
spared test c r b mine now t a (Place.Put p offer) spares other = absurd (true≢false (sym other))
spared test c r b mine now t a (Place.Evidence p) spares other = loss_quiet test (note_of_evidence p a) (evidence_loses p a) spares.working spares.lost
spared test c r b mine now t a place spares other = spares.working
