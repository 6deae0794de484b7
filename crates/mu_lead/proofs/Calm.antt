-- What a leader keeps of heads, of marks and of its number, by events that don't change them.
use Rattle.std.proofs.Common.{List, None, Some, ap, arith, false, length, subst, sym, true, true≢false, ℕ, ◌&&◌, ◌+◌, ◌||◌, ◌∷◌, ◌≡◌}
use Rattle.std.specs.Prelude.{nat_lt}
use Rattle.std.specs.declared.option.Option.{Option}
use Rattle.mu_model.specs.declared.config.Config.{Config}
use Rattle.mu_model.specs.declared.event.Answer.{Answer}
use Rattle.mu_model.specs.declared.event.Event.{Event}
use Rattle.mu_model.specs.declared.event.Verb.{Verb}
use Rattle.mu_model.specs.Contents.{holds_all, marked}
use Rattle.mu_model.specs.Entering.{number_allowed}
use Rattle.mu_model.specs.Knowledge.{known}
use Rattle.mu_model.specs.Leaderships.{begins_leadership}
use Rattle.mu_model.specs.Parts.{IsPossible}
use Rattle.mu_model.specs.Room.{head_read, is_mark_candidate, lacks_room, last_head, reserve}
use Rattle.mu_model.specs.Scores.{is_failed}
use Rattle.mu_model.proofs.Basics.{or_true}
use Rattle.mu_model.specs.Histories.{event_by}
use Rattle.mu_lead.specs.Leading.{end_of}
use Rattle.mu_lead.specs.Offering.{MayBeMarked, Roomy, leaves_room}
use Rattle.mu_lead.specs.Stepping.{is_calm}
use Rattle.mu_lead.proofs.Rooms.{higher}
use Rattle.mu_lead.proofs.Tables.{head_kept}

-- who may be marked still may
marks_more : (c : Config) (r : ℕ) (e : Event) (mine : List Event) (candidate : Option ℕ) → begins_leadership r e ≡ false → known c r (e ∷ mine) ≡ known c r mine → MayBeMarked c r mine candidate → MayBeMarked c r (e ∷ mine) candidate
marks_more c r e mine None goes_on same m = tt
marks_more c r e mine (Some k) goes_on same m = record {
  region = m.region;
  other = m.other;
  version = m.version;
  unmarked = subst (λ values. marked c k values ≡ false) (sym same) m.unmarked;
  stuck = subst (λ values. is_mark_candidate c r k (length values + reserve c) (e ∷ mine) ≡ true) (sym same)
      (rw goes_on (or_true (lacks_room c (end_of c r mine + reserve c) (head_read r k e.by e.verb e.answer) && is_failed r k (e ∷ mine)) (is_mark_candidate c r k (end_of c r mine + reserve c) mine) m.stuck));
}

-- heads that leave room still do, since they never fall
pub room_more : (c : Config) (r i free k : ℕ) (e : Event) (mine : List Event) → IsPossible c r (e ∷ mine) → known c r (e ∷ mine) ≡ known c r mine → leaves_room c r mine i free k ≡ true → leaves_room c r (e ∷ mine) i free k ≡ true
room_more c r i free k e mine possible same is =
    subst (λ values. (marked c k values || nat_lt (i + free) (last_head r k (e ∷ mine) + c.ring)) ≡ true) (sym same)
    (higher (marked c k (known c r mine)) i free (last_head r k mine) (last_head r k (e ∷ mine)) c.ring (head_kept c r k e mine possible) is)

pub roomy_more : (c : Config) (r n : ℕ) (e : Event) (mine : List Event) (candidate : Option ℕ) → IsPossible c r (e ∷ mine) → begins_leadership r e ≡ false → known c r (e ∷ mine) ≡ known c r mine → Roomy c r mine n candidate → Roomy c r (e ∷ mine) n candidate
roomy_more c r n e mine candidate possible goes_on same l =
    let long = ap length same in
    record {
      within = (let low = l.within in omega (arith, low, long));
      lacks = subst (λ values. holds_all c values ≡ false) (sym same) l.lacks;
      room = λ k low. subst (λ i. leaves_room c r (e ∷ mine) i 0 k ≡ true) (sym long) (room_more c r (end_of c r mine) 0 k e mine possible same (l.room k low));
      free = λ none k low. subst (λ i. leaves_room c r (e ∷ mine) i (reserve c) k ≡ true) (sym long) (room_more c r (end_of c r mine) (reserve c) k e mine possible same (l.free none k low));
      marks = marks_more c r e mine candidate goes_on same l.marks;
    }

-- a number that is allowed still is
pub number_calm : (r : ℕ) (verb : Verb) (answer : Answer) (mine : List Event) (b : ℕ) (o : Option ℕ) → is_calm verb ≡ true → number_allowed r mine b o → number_allowed r (event_by r verb answer ∷ mine) b o
number_calm r (Verb.Ask q) answer mine b o calm h = absurd (true≢false (sym calm))
number_calm r (Verb.Fence q) answer mine b o calm h = absurd (true≢false (sym calm))
number_calm r (Verb.Min q) answer mine b o calm h = absurd (true≢false (sym calm))
number_calm r (Verb.Enter q t) answer mine b o calm h = absurd (true≢false (sym calm))
number_calm r (Verb.PutMin q n) answer mine b o calm h = absurd (true≢false (sym calm))
number_calm r (Verb.PutSlot q i n v) answer mine b o calm h = absurd (true≢false (sym calm))
number_calm r verb answer mine b None calm h = h
number_calm r verb answer mine b (Some x) calm h = h
