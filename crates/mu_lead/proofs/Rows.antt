-- When each note comes, place by place.
use Rattle.mu_agree.proofs.Landings.{greatest_since}
use Rattle.mu_agree.proofs.Possible.{part_looks_find_law}
use Rattle.mu_agree.proofs.Readings.{number_is, part_numbers_leave_room_law}
use Rattle.mu_lead.proofs.Bringing.{look_event, look_known}
use Rattle.mu_lead.proofs.NoteKinds.{AreApart, differs_by_test, enter_loses, evidence_loses, is_head, is_higher, is_joined, is_learnt, is_look, is_no_room, lost_apart, may_join, none_higher, none_joined, none_learnt, none_room, not_head, not_join, not_look, not_min, past_loses, put_apart, round_apart, says_none, says_working}
use Rattle.mu_lead.proofs.Replies.{puts_min_or, tells_head, tells_min}
use Rattle.mu_model.specs.Diligence.{is_confirmed}
use Rattle.mu_lead.proofs.Sights.{empty_is}
use Rattle.mu_lead.specs.Lasting.{step_of, verb_or}
use Rattle.mu_lead.specs.Leading.{HoldsTables, came_late, end_of}
use Rattle.mu_lead.specs.Listing.{Tables, is_missed, may_mark, number_told}
use Rattle.mu_lead.specs.Notes.{note_of_commit, note_of_head, note_of_min}
use Rattle.mu_lead.specs.Noting.{next_note, note_of_enter, note_of_evidence, note_of_past, note_of_round}
use Rattle.mu_lead.specs.Saying.{IsLastStep, MayMark, SaysReads, Teaches, is_working, note_of_join, note_of_learning, note_of_look, value_seen}
use Rattle.mu_lead.specs.Sets.{bits}
use Rattle.mu_lead.specs.Standing.{At, verb_at}
use Rattle.mu_lead.specs.declared.note.AbortCause.{AbortCause}
use Rattle.mu_lead.specs.declared.note.Note.{Note}
use Rattle.mu_lead.specs.declared.place.Place.{Place}
use Rattle.mu_lead.specs.declared.place.Then.{Then}
use Rattle.mu_model.proofs.Basics.{none_some, same_number, same_some, true_or}
use Rattle.mu_model.proofs.Lists.{get_push_here}
use Rattle.mu_model.specs.Contents.{IsConfig, marked, row_count}
use Rattle.mu_model.specs.Histories.{has, event_by}
use Rattle.mu_model.specs.Knowledge.{entry_seen, fuo_read, greatest_fuo_read, grown, is_known_decided, known, learnt_by}
use Rattle.mu_model.specs.Leaderships.{begins_leadership, is_above, is_over, leadership, noted_grant, proposal_number}
use Rattle.mu_model.specs.Parts.{IsPossible}
use Rattle.mu_model.specs.Picks.{is_past}
use Rattle.mu_model.specs.Placing.{is_caught_up_at, is_known_put}
use Rattle.mu_model.specs.Room.{reserve}
use Rattle.mu_model.specs.Scores.{is_failed}
use Rattle.mu_model.specs.Steps.{knows_more, is_min_verb}
use Rattle.mu_model.specs.declared.config.Config.{Config}
use Rattle.mu_model.specs.declared.event.Answer.{Answer}
use Rattle.mu_model.specs.declared.event.Event.{Event}
use Rattle.mu_model.specs.declared.event.Target.{Target}
use Rattle.mu_model.specs.declared.event.Verb.{Verb}
use Rattle.std.proofs.Common.{Bool, List, None, Some, [], ap, arith, cond, eqb-true, false, get_or, inl, inr, is_some, length, length-append, min, refl, subst, sym, true, true≢false, ℕ, ◌%◌, ◌&&◌, ◌++◌, ◌+◌, ◌-◌, ◌<◌, ◌==◌, ◌∙◌, ◌∷◌, ◌≡◌, ◌≤◌}
use Rattle.std.proofs.lemmas.Bool.{le-ltb, lt-ltb, ltb-false, ltb-true}
use Rattle.std.proofs.lemmas.Option.{slice_get_past}
use Rattle.std.specs.List.{slice_get}
use Rattle.std.specs.Prelude.{if◌then◌else◌, nat_lt, not, ◌⊎◌}
use Rattle.std.specs.declared.option.Option.{Option}
use Rattle.mu_lead.specs.Stepping.{is_done}

-- a minimum that is read is small
pub min_small : (c : Config) (r p x : ℕ) (mine : List Event) → IsConfig c → IsPossible c r (event_by r (Verb.Min p) (Answer.Number x) ∷ mine) → x < 4294967296
min_small c r p x mine config possible = let counts = (part_numbers_leave_room_law c r _ config possible).0 in let low = rw (same_number r) at counts in omega (arith, low)

same_asked : (p q : ℕ) → Verb.Min p ≡ Verb.Min q → p ≡ q
same_asked p q is = cc

same_read : (p q : ℕ) → Verb.Head p ≡ Verb.Head q → p ≡ q
same_read p q is = cc

same_higher : (p q x y : ℕ) → Note.Aborted (AbortCause.Higher p x) ≡ Note.Aborted (AbortCause.Higher q y) → (p ≡ q) × (x ≡ y)
same_higher p q x y is = (cc, cc)

same_room : (p q x y i j : ℕ) → Note.NoRoom p x i ≡ Note.NoRoom q y j → (p ≡ q) × (x ≡ y) × (i ≡ j)
same_room p q x y i j is = (cc, cc, cc)

same_joined : (p q : ℕ) → Note.Joined p ≡ Note.Joined q → p ≡ q
same_joined p q is = cc

-- a minimum read before the number is picked is above no number
says_first_min : (c : Config) (r q : ℕ) (mine : List Event) (up : List ℕ) (place : Place) (answer : Answer) (note : Note) → proposal_number r mine ≡ None → may_join place ≡ false → note ≡ Note.Working → SaysReads c r mine up place (Verb.Min q) answer note
says_first_min c r q mine up place answer note none join is = record {
  higher = none_higher r mine (Verb.Min q) answer note (ap is_higher is) (λ p m shows. true≢false (sym shows.above ∙ ap (λ o. is_above o m) none));
  no_room = none_room c r mine (Verb.Min q) answer note (ap is_no_room is) (not_head c r mine (Verb.Min q) answer refl);
  learnt = none_learnt c r mine (Verb.Min q) answer note (ap is_learnt is) (not_look c r mine (Verb.Min q) answer refl);
  joined = none_joined c r mine up place answer note (ap is_joined is) (not_join c r mine up place answer join);
}

-- a late follower's minimum
says_late_min : (c : Config) (r b q x : ℕ) (mine : List Event) (up : List ℕ) (place : Place) (answer : Answer) (note : Note) → answer ≡ Answer.Number x → proposal_number r mine ≡ Some b → may_join place ≡ false → (t : Bool) → nat_lt b x ≡ t → note ≡ (if t then Note.Aborted (AbortCause.Higher q x) else Note.Working) → SaysReads c r mine up place (Verb.Min q) answer note
says_late_min c r b q x mine up place answer note told number join true above is = record {
  higher = λ p m. (
    (λ shows. let same = same_higher q p x m (sym is ∙ shows) in record { asked = ap Verb.Min same.0; told = told ∙ ap Answer.Number same.1; above = ap (λ o. is_above o m) number ∙ ap (nat_lt b) (sym same.1) ∙ above }),
    (λ shows. is ∙ ap (λ k. Note.Aborted (AbortCause.Higher k x)) (same_asked q p shows.asked) ∙ ap (λ k. Note.Aborted (AbortCause.Higher p k)) (number_is x m (sym told ∙ shows.told))),
  );
  no_room = none_room c r mine (Verb.Min q) answer note (ap is_no_room is) (not_head c r mine (Verb.Min q) answer refl);
  learnt = none_learnt c r mine (Verb.Min q) answer note (ap is_learnt is) (not_look c r mine (Verb.Min q) answer refl);
  joined = none_joined c r mine up place answer note (ap is_joined is) (not_join c r mine up place answer join);
}
says_late_min c r b q x mine up place answer note told number join false above is = record {
  higher = none_higher r mine (Verb.Min q) answer note (ap is_higher is) (λ p m shows. true≢false (sym shows.above ∙ ap (λ o. is_above o m) number ∙ ap (nat_lt b) (sym (number_is x m (sym told ∙ shows.told))) ∙ above));
  no_room = none_room c r mine (Verb.Min q) answer note (ap is_no_room is) (not_head c r mine (Verb.Min q) answer refl);
  learnt = none_learnt c r mine (Verb.Min q) answer note (ap is_learnt is) (not_look c r mine (Verb.Min q) answer refl);
  joined = none_joined c r mine up place answer note (ap is_joined is) (not_join c r mine up place answer join);
}

-- whether a replica may be marked, as it is computed
marks_not : (c : Config) (r q x : ℕ) (mine : List Event) (failed : Bool) → failed ≡ is_failed r q mine → (not (q == r) && (failed && nat_lt (end_of c r mine + 0) (x + c.ring))) ≡ false → MayMark c r mine q x → ⊥
marks_not c r q x mine failed same out may = true≢false (sym (all (q == r) failed (nat_lt (end_of c r mine + 0) (x + c.ring)) (ne (q == r) refl) (same ∙ may.failed) (lt-ltb (end_of c r mine + 0) (x + c.ring) (let low = may.above in omega (arith, low)))) ∙ out)
  where
    all : (a b d : Bool) → a ≡ false → b ≡ true → d ≡ true → (not a && (b && d)) ≡ true
    all a b d x y z = rw (x, y, z) refl

    ne : (t : Bool) → (q == r) ≡ t → (q == r) ≡ false
    ne false is = is
    ne true is = absurd (may.other (eqb-true q r is))

marks_so : (c : Config) (r q x : ℕ) (mine : List Event) (failed : Bool) → failed ≡ is_failed r q mine → (not (q == r) && (failed && nat_lt (end_of c r mine + 0) (x + c.ring))) ≡ true → MayMark c r mine q x
marks_so c r q x mine failed same holds = let a = all (q == r) failed (nat_lt (end_of c r mine + 0) (x + c.ring)) holds in record {
  other = λ is. true≢false (sym (same_number r) ∙ ap (λ k. k == r) (sym is) ∙ a.0);
  failed = sym same ∙ a.1;
  above = let low = ltb-true (end_of c r mine + 0) (x + c.ring) a.2 in omega (arith, low);
}
  where
    all : (a b d : Bool) → (not a && (b && d)) ≡ true → (a ≡ false) × (b ≡ true) × (d ≡ true)
    all false true true is = (refl, refl, refl)
    all true b d is = absurd (true≢false (sym is))
    all false false d is = absurd (true≢false (sym is))
    all false true false is = absurd (true≢false (sym is))

-- a head
says_head : (c : Config) (r q x : ℕ) (mine : List Event) (up : List ℕ) (place : Place) (answer : Answer) (note : Note) (failed : Bool) → answer ≡ Answer.Number x → failed ≡ is_failed r q mine → marked c q (known c r mine) ≡ false → end_of c r mine + reserve c < 65536 → may_join place ≡ false
    → (room marks : Bool) → nat_lt (end_of c r mine + reserve c) (x + c.ring) ≡ room → (not (q == r) && (failed && nat_lt (end_of c r mine + 0) (x + c.ring))) ≡ marks → note ≡ note_of_head q (min x 65535) (end_of c r mine) room marks → SaysReads c r mine up place (Verb.Head q) answer note
says_head c r q x mine up place answer note failed told same unmarked small join true marks room mark is = record {
  higher = none_higher r mine (Verb.Head q) answer note (ap is_higher is) (not_min r mine (Verb.Head q) answer refl);
  no_room = none_room c r mine (Verb.Head q) answer note (ap is_no_room is) (λ p h i shows. let low = shows.low in let high = ltb-true (end_of c r mine + reserve c) (x + c.ring) room in let here = number_is x h (sym told ∙ shows.told) in omega (arith, low, high, here));
  learnt = none_learnt c r mine (Verb.Head q) answer note (ap is_learnt is) (not_look c r mine (Verb.Head q) answer refl);
  joined = none_joined c r mine up place answer note (ap is_joined is) (not_join c r mine up place answer join);
}
says_head c r q x mine up place answer note failed told same unmarked small join false true room mark is = record {
  higher = none_higher r mine (Verb.Head q) answer note (ap is_higher is) (not_min r mine (Verb.Head q) answer refl);
  no_room = none_room c r mine (Verb.Head q) answer note (ap is_no_room is) (λ p h i shows. shows.unfit (subst (λ k. MayMark c r mine k h) (same_read q p shows.asked) (subst (MayMark c r mine q) (number_is x h (sym told ∙ shows.told)) (marks_so c r q x mine failed same mark))));
  learnt = none_learnt c r mine (Verb.Head q) answer note (ap is_learnt is) (not_look c r mine (Verb.Head q) answer refl);
  joined = none_joined c r mine up place answer note (ap is_joined is) (not_join c r mine up place answer join);
}
says_head c r q x mine up place answer note failed told same unmarked small join false false room mark is =
    let low = ltb-false (end_of c r mine + reserve c) (x + c.ring) room in
    let fits : min x 65535 ≡ x = omega (arith, low, small) in
    let now : note ≡ Note.NoRoom q x (end_of c r mine) = is ∙ ap (λ h. Note.NoRoom q h (end_of c r mine)) fits in
    record {
      higher = none_higher r mine (Verb.Head q) answer note (ap is_higher is) (not_min r mine (Verb.Head q) answer refl);
      no_room = λ p h i. (
        (λ shows. let s = same_room q p x h (end_of c r mine) i (sym now ∙ shows) in record {
          asked = ap Verb.Head s.0;
          told = told ∙ ap Answer.Number s.1;
          position = sym s.2;
          unmarked = subst (λ k. marked c k (known c r mine) ≡ false) s.0 unmarked;
          low = subst (λ k. k + c.ring ≤ end_of c r mine + reserve c) s.1 low;
          unfit = subst (λ k. MayMark c r mine k h → ⊥) s.0 (subst (λ k. MayMark c r mine q k → ⊥) s.1 (marks_not c r q x mine failed same mark));
        }),
        (λ shows. now ∙ ap (λ k. Note.NoRoom k x (end_of c r mine)) (same_read q p shows.asked) ∙ ap (λ k. Note.NoRoom p k (end_of c r mine)) (number_is x h (sym told ∙ shows.told)) ∙ ap (Note.NoRoom p h) (sym shows.position)),
      );
      learnt = none_learnt c r mine (Verb.Head q) answer note (ap is_learnt is) (not_look c r mine (Verb.Head q) answer refl);
      joined = none_joined c r mine up place answer note (ap is_joined is) (not_join c r mine up place answer join);
    }

same_raise : (p q : ℕ) (s t : Then) → Place.RaiseBehind p s ≡ Place.RaiseBehind q t → p ≡ q
same_raise p q s t is = cc

same_put : (p q : ℕ) → Place.LatePut p ≡ Place.LatePut q → p ≡ q
same_put p q is = cc

abbrev is_put : Place → Bool
is_put (Place.LatePut p) = true
is_put place = false

-- the last step for a late follower
says_raised : (c : Config) (r q u : ℕ) (mine : List Event) (up : List ℕ) (answer : Answer) (note : Note) → came_late r q mine ≡ true → note ≡ Note.Joined q → SaysReads c r mine up (Place.RaiseBehind q Then.Joined) (Verb.RaiseFuo q u) answer note
says_raised c r q u mine up answer note late is = record {
  higher = none_higher r mine (Verb.RaiseFuo q u) answer note (ap is_higher is) (not_min r mine (Verb.RaiseFuo q u) answer refl);
  no_room = none_room c r mine (Verb.RaiseFuo q u) answer note (ap is_no_room is) (not_head c r mine (Verb.RaiseFuo q u) answer refl);
  learnt = none_learnt c r mine (Verb.RaiseFuo q u) answer note (ap is_learnt is) (not_look c r mine (Verb.RaiseFuo q u) answer refl);
  joined = λ p. ((λ same. let here = same_joined q p (sym is ∙ same) in record { late = subst (λ k. came_late r k mine ≡ true) here late; last = inl (ap (λ k. Place.RaiseBehind k Then.Joined) here) }), (λ ends. is ∙ ap Note.Joined (go p ends.last)));
}
  where
    go : (p : ℕ) → IsLastStep c r mine up (Place.RaiseBehind q Then.Joined) answer p → q ≡ p
    go p (inl raised) = same_raise q p Then.Joined Then.Joined raised
    go p (inr put) = absurd (differs_by_test is_put (Place.RaiseBehind q Then.Joined) (Place.LatePut p) refl refl put.0)

-- the put that makes a late follower a member
says_put : (c : Config) (r q b : ℕ) (mine : List Event) (up : List ℕ) (answer : Answer) (note : Note) → came_late r q mine ≡ true → ((answer ≡ Answer.Done) ⊎ (answer ≡ Answer.Missed)) → (t : Bool) → nat_lt (get_or up q 0) (end_of c r mine) ≡ t → (answer ≡ Answer.Done → note ≡ note_of_join q t) × (answer ≡ Answer.Missed → note ≡ Note.Working) → SaysReads c r mine up (Place.LatePut q) (Verb.PutMin q b) answer note
says_put c r q b mine up answer note late (inr missed) t lacks notes =
    let is = notes.1 missed in
    record {
      higher = none_higher r mine (Verb.PutMin q b) answer note (ap is_higher is) (not_min r mine (Verb.PutMin q b) answer refl);
      no_room = none_room c r mine (Verb.PutMin q b) answer note (ap is_no_room is) (not_head c r mine (Verb.PutMin q b) answer refl);
      learnt = none_learnt c r mine (Verb.PutMin q b) answer note (ap is_learnt is) (not_look c r mine (Verb.PutMin q b) answer refl);
      joined = none_joined c r mine up (Place.LatePut q) answer note (ap is_joined is) (λ p ends. go p ends.last);
    }
  where
    go : (p : ℕ) → IsLastStep c r mine up (Place.LatePut q) answer p → ⊥
    go p (inl raised) = differs_by_test is_put (Place.RaiseBehind p Then.Joined) (Place.LatePut q) refl refl (sym raised)
    go p (inr put) = differs_by_test is_done answer Answer.Done (ap is_done missed) refl put.1
says_put c r q b mine up answer note late (inl done) true lacks notes =
    let is = notes.0 done in
    record {
      higher = none_higher r mine (Verb.PutMin q b) answer note (ap is_higher is) (not_min r mine (Verb.PutMin q b) answer refl);
      no_room = none_room c r mine (Verb.PutMin q b) answer note (ap is_no_room is) (not_head c r mine (Verb.PutMin q b) answer refl);
      learnt = none_learnt c r mine (Verb.PutMin q b) answer note (ap is_learnt is) (not_look c r mine (Verb.PutMin q b) answer refl);
      joined = none_joined c r mine up (Place.LatePut q) answer note (ap is_joined is) (λ p ends. go p ends.last);
    }
  where
    go : (p : ℕ) → IsLastStep c r mine up (Place.LatePut q) answer p → ⊥
    go p (inl raised) = differs_by_test is_put (Place.RaiseBehind p Then.Joined) (Place.LatePut q) refl refl (sym raised)
    go p (inr put) = let all = put.2 in let few = ltb-true (get_or up q 0) (end_of c r mine) lacks in let here = ap (λ k. get_or up k 0) (same_put q p put.0) in omega (arith, all, few, here)
says_put c r q b mine up answer note late (inl done) false lacks notes =
    let is = notes.0 done in
    record {
      higher = none_higher r mine (Verb.PutMin q b) answer note (ap is_higher is) (not_min r mine (Verb.PutMin q b) answer refl);
      no_room = none_room c r mine (Verb.PutMin q b) answer note (ap is_no_room is) (not_head c r mine (Verb.PutMin q b) answer refl);
      learnt = none_learnt c r mine (Verb.PutMin q b) answer note (ap is_learnt is) (not_look c r mine (Verb.PutMin q b) answer refl);
      joined = λ p. ((λ same. let here = same_joined q p (sym is ∙ same) in record { late = subst (λ k. came_late r k mine ≡ true) here late; last = inr (ap Place.LatePut here, done, subst (λ k. end_of c r mine ≤ get_or up k 0) here (ltb-false (get_or up q 0) (end_of c r mine) lacks)) }), (λ ends. is ∙ ap Note.Joined (go p ends.last)));
    }
  where
    go : (p : ℕ) → IsLastStep c r mine up (Place.LatePut q) answer p → q ≡ p
    go p (inl raised) = absurd (differs_by_test is_put (Place.RaiseBehind p Then.Joined) (Place.LatePut q) refl refl (sym raised))
    go p (inr put) = same_put q p put.0

-- positions with the reserve fit 16 bits
pub spare : (c : Config) (r : ℕ) (mine : List Event) → IsConfig c → end_of c r mine < row_count c + reserve c → end_of c r mine + reserve c < 65536
spare c r mine config within = let rows = config.few in let few = config.replicas.1 in let spare = at_most (c.version == 2) c.replicas in omega (arith, rows, few, spare, within)
  where
    at_most : (t : Bool) (n : ℕ) → (cond t n 0) ≤ n
    at_most true n = omega arith
    at_most false n = omega arith

-- a list is not the same with one more
pub grows_not : (xs : List ℕ) (v : ℕ) → xs ≡ xs ++ v ∷ [] → ⊥
grows_not xs v is = let long = ap length is in let more = length-append xs (v ∷ []) in omega (arith, long, more)

-- if nothing more is known, no look taught anything
not_grown : (c : Config) (r : ℕ) (mine : List Event) (verb : Verb) (answer : Answer) → known c r (event_by r verb answer ∷ mine) ≡ known c r mine → (i v : ℕ) → Teaches c r mine verb answer i v → ⊥
not_grown c r mine verb answer same i v teaches = grows_not (known c r mine) v (sym same ∙ teaches.grew)

pub same_last : (xs : List ℕ) (v w : ℕ) → xs ++ v ∷ [] ≡ xs ++ w ∷ [] → v ≡ w
same_last xs v w is = same_some v w (sym (get_push_here xs (length xs) v refl) ∙ ap (λ l. slice_get l (length xs)) is ∙ get_push_here xs (length xs) w refl)

same_learnt : (i j v w : ℕ) → Note.Learnt i v ≡ Note.Learnt j w → (i ≡ j) × (v ≡ w)
same_learnt i j v w is = (cc, cc)

-- a look that taught nothing
look_idle : (c : Config) (r p i : ℕ) (mine : List Event) (up : List ℕ) (place : Place) (answer : Answer) (note : Note) → may_join place ≡ false → note ≡ Note.Working → known c r (event_by r (Verb.Look p i) answer ∷ mine) ≡ known c r mine → SaysReads c r mine up place (Verb.Look p i) answer note
look_idle c r p i mine up place answer note join is same = record {
  higher = none_higher r mine (Verb.Look p i) answer note (ap is_higher is) (not_min r mine (Verb.Look p i) answer refl);
  no_room = none_room c r mine (Verb.Look p i) answer note (ap is_no_room is) (not_head c r mine (Verb.Look p i) answer refl);
  learnt = none_learnt c r mine (Verb.Look p i) answer note (ap is_learnt is) (not_grown c r mine (Verb.Look p i) answer same);
  joined = none_joined c r mine up place answer note (ap is_joined is) (not_join c r mine up place answer join);
}

-- a look that taught a value
look_taught : (c : Config) (r p i v : ℕ) (mine : List Event) (up : List ℕ) (place : Place) (answer : Answer) (note : Note) → may_join place ≡ false → i ≡ end_of c r mine → note ≡ Note.Learnt i v → known c r (event_by r (Verb.Look p i) answer ∷ mine) ≡ known c r mine ++ v ∷ [] → SaysReads c r mine up place (Verb.Look p i) answer note
look_taught c r p i v mine up place answer note join here is grew = record {
  higher = none_higher r mine (Verb.Look p i) answer note (ap is_higher is) (not_min r mine (Verb.Look p i) answer refl);
  no_room = none_room c r mine (Verb.Look p i) answer note (ap is_no_room is) (not_head c r mine (Verb.Look p i) answer refl);
  learnt = λ j w. (
    (λ same. let s = same_learnt i j v w (sym is ∙ same) in record { region = p; looked = ap (Verb.Look p) s.0; position = sym s.0 ∙ here; grew = subst (λ x. known c r (event_by r (Verb.Look p i) answer ∷ mine) ≡ known c r mine ++ x ∷ []) s.1 grew }),
    (λ teaches. is ∙ ap (λ k. Note.Learnt k v) (here ∙ sym teaches.position) ∙ ap (Note.Learnt j) (same_last (known c r mine) v w (sym grew ∙ teaches.grew))),
  );
  joined = none_joined c r mine up place answer note (ap is_joined is) (not_join c r mine up place answer join);
}

ands : (a b d : Bool) → (a && (b && (d && false))) ≡ false
ands true true true = refl
ands true true false = refl
ands true false d = refl
ands false b d = refl

-- nothing known is put if nothing is known
puts_nothing : (values : List ℕ) (r p j by : ℕ) (verb : Verb) (answer : Answer) → slice_get values j ≡ None → is_known_put values r p j by verb answer ≡ false
puts_nothing values r p j by (Verb.PutSlot q i b v) Answer.Done none = rw none (ands (by == r) (q == p) (i == j))
puts_nothing values r p j by verb answer none = refl

none_put : (values : List ℕ) (r p j : ℕ) (xs : List Event) → slice_get values j ≡ None → has (λ e. is_known_put values r p j e.by e.verb e.answer) xs ≡ false
none_put values r p j [] none = refl
none_put values r p j (e ∷ xs) none = rw (puts_nothing values r p j e.by e.verb e.answer none) (none_put values r p j xs none)

-- a region that is caught up beyond what is known told so by its FUO
pub caught_read : (c : Config) (r p : ℕ) (mine : List Event) → is_caught_up_at c r p mine (end_of c r mine) ≡ true → nat_lt (end_of c r mine) (greatest_fuo_read r p mine) ≡ true
caught_read c r p mine caught = go (nat_lt (end_of c r mine) (greatest_fuo_read r p (leadership r mine))) refl
  where
    more : nat_lt (end_of c r mine) (greatest_fuo_read r p (leadership r mine)) ≡ true → nat_lt (end_of c r mine) (greatest_fuo_read r p mine) ≡ true
    more high = lt-ltb (end_of c r mine) (greatest_fuo_read r p mine) (let low = ltb-true (end_of c r mine) (greatest_fuo_read r p (leadership r mine)) high in let all = greatest_since (λ e. fuo_read r p e.by e.verb e.answer) (begins_leadership r) mine in omega (arith, low, all))

    go : (t : Bool) → nat_lt (end_of c r mine) (greatest_fuo_read r p (leadership r mine)) ≡ t → nat_lt (end_of c r mine) (greatest_fuo_read r p mine) ≡ true
    go true high = more high
    go false low = absurd (true≢false (sym caught ∙ both low (none_put (known c r mine) r p (end_of c r mine) (leadership r mine) (slice_get_past (known c r mine) (end_of c r mine) (omega arith)))))
      where
        both : nat_lt (end_of c r mine) (greatest_fuo_read r p (leadership r mine)) ≡ false → has (λ e. is_known_put (known c r mine) r p (end_of c r mine) e.by e.verb e.answer) (leadership r mine) ≡ false → is_caught_up_at c r p mine (end_of c r mine) ≡ false
        both x y = rw (x, y) refl

caught_decided : (c : Config) (r p : ℕ) (mine : List Event) → is_caught_up_at c r p mine (end_of c r mine) ≡ true → is_known_decided r mine p (end_of c r mine) ≡ true
caught_decided c r p mine caught = true_or (nat_lt (end_of c r mine) (greatest_fuo_read r p mine)) ((p == r) && has (entry_seen r r (end_of c r mine + 1)) mine) (caught_read c r p mine caught)

-- an entry that is decided is learnt
entry_taught : (c : Config) (r p b v : ℕ) (mine : List Event) → is_known_decided r mine p (end_of c r mine) ≡ true → known c r (event_by r (Verb.Look p (end_of c r mine)) (Answer.Entry b v) ∷ mine) ≡ known c r mine ++ v ∷ []
entry_taught c r p b v mine decided = rw (same_number r, same_number (end_of c r mine), decided) refl

-- so a look of the catching up that isn't past teaches something
pub learning_taught : (c : Config) (r p : ℕ) (answer : Answer) (mine : List Event) → IsPossible c r (look_event r p (end_of c r mine) answer ∷ mine) → is_caught_up_at c r p mine (end_of c r mine) ≡ true → is_past answer ≡ false → knows_more c r mine (look_event r p (end_of c r mine) answer) ≡ true
learning_taught c r p (Answer.Entry b v) mine possible caught not_past =
    subst (λ xs. nat_lt (end_of c r mine) (length xs) ≡ true) (sym (entry_taught c r p b v mine (caught_decided c r p mine caught))) (lt-ltb (end_of c r mine) (length (known c r mine ++ v ∷ [])) (let more = length-append (known c r mine) (v ∷ []) in omega (arith, more)))
learning_taught c r p Answer.Past mine possible caught not_past = absurd (true≢false not_past)
learning_taught c r p answer mine possible caught not_past =
    absurd (part_looks_find_law c r p (end_of c r mine) mine (look_event r p (end_of c r mine) answer) possible refl (ltb-true (end_of c r mine) (greatest_fuo_read r p mine) (caught_read c r p mine caught)) (empty_is c r p (end_of c r mine) answer mine possible not_past refl))

one_more : (c : Config) (r : ℕ) (mine values : List ℕ) (v : ℕ) → values ≡ mine ++ v ∷ [] → length values - 1 ≡ length mine
one_more c r mine values v is = let long = ap length is in let more = length-append mine (v ∷ []) in omega (arith, long, more)

-- a look of the catching up
learning : (c : Config) (r p : ℕ) (mine : List Event) (up values : List ℕ) (answer : Answer) (note : Note) → is_caught_up_at c r p mine (end_of c r mine) ≡ true → values ≡ known c r (event_by r (Verb.Look p (end_of c r mine)) answer ∷ mine) → note ≡ note_of_learning (length values) answer → SaysReads c r mine up (Place.Learn p) (Verb.Look p (end_of c r mine)) answer note
learning c r p mine up values (Answer.Entry b v) note caught told is = let grew = entry_taught c r p b v mine (caught_decided c r p mine caught) in
    look_taught c r p (end_of c r mine) v mine up (Place.Learn p) (Answer.Entry b v) note refl refl (is ∙ ap (λ n. Note.Learnt n v) (one_more c r (known c r mine) values v (told ∙ grew))) grew
learning c r p mine up values answer note caught told is = look_idle c r p (end_of c r mine) mine up (Place.Learn p) answer note refl is refl

-- what a look teaches is the entry that it showed
learnt_value : (c : Config) (r p i n w : ℕ) (past now : List Event) (answer : Answer) → learnt_by c r past n r (Verb.Look p i) answer now ≡ Some w → (is_past answer ≡ false) × (value_seen answer ≡ w)
learnt_value c r p i n w past now (Answer.Entry b v) is = (refl, go ((r == r) && ((i == n) && is_known_decided r past p i)) is)
  where
    go : (t : Bool) → cond t (Some v) None ≡ Some w → v ≡ w
    go true is = same_some v w is
    go false is = cc
learnt_value c r p i n w past now answer is = absurd (none_some w is)

-- a look at a new position
looking : (c : Config) (r p i : ℕ) (mine : List Event) (up : List ℕ) (place : Place) (values : List ℕ) (answer : Answer) (note : Note) → may_join place ≡ false → i ≡ end_of c r mine → values ≡ known c r (event_by r (Verb.Look p i) answer ∷ mine) → note ≡ note_of_look i (length values) answer → SaysReads c r mine up place (Verb.Look p i) answer note
looking c r p i mine up place values answer note join here told is = go (learnt_by c r mine (end_of c r mine) r (Verb.Look p i) answer (event_by r (Verb.Look p i) answer ∷ mine)) refl
  where
    go : (o : Option ℕ) → learnt_by c r mine (end_of c r mine) r (Verb.Look p i) answer (event_by r (Verb.Look p i) answer ∷ mine) ≡ o → SaysReads c r mine up place (Verb.Look p i) answer note
    go None nothing = look_idle c r p i mine up place answer note join (working (is_past answer) (nat_lt i (length values)) (let long = ap length (told ∙ ap (grown (known c r mine)) nothing) in le-ltb i (length values) (omega (arith, long, here))) is) (ap (grown (known c r mine)) nothing)
      where
        working : (s t : Bool) → t ≡ false → note ≡ (if s then Note.Working else (if t then Note.Learnt i (value_seen answer) else Note.Working)) → note ≡ Note.Working
        working true t low is = is
        working false true low is = absurd (true≢false low)
        working false false low is = is
    go (Some w) taught = let v = learnt_value c r p i (end_of c r mine) w mine (event_by r (Verb.Look p i) answer ∷ mine) answer taught in let grew = ap (grown (known c r mine)) taught in
        look_taught c r p i w mine up place answer note join here (shown (is_past answer) (nat_lt i (length values)) v.0 (let long = ap length (told ∙ grew) in let more = length-append (known c r mine) (w ∷ []) in lt-ltb i (length values) (omega (arith, long, here, more))) is ∙ ap (Note.Learnt i) v.1) grew
      where
        shown : (s t : Bool) → s ≡ false → t ≡ true → note ≡ (if s then Note.Working else (if t then Note.Learnt i (value_seen answer) else Note.Working)) → note ≡ Note.Learnt i (value_seen answer)
        shown true t out high is = absurd (true≢false out)
        shown false true out high is = is
        shown false false out high is = absurd (true≢false (sym high))

-- notes that are of none of these kinds
apart_says : (c : Config) (r : ℕ) (mine : List Event) (up : List ℕ) (place : Place) (verb : Verb) (answer : Answer) (note : Note) → AreApart note → is_min_verb verb ≡ false → is_head verb ≡ false → is_look verb ≡ false → may_join place ≡ false → SaysReads c r mine up place verb answer note
apart_says c r mine up place verb answer note a min head look join = says_none c r mine up place verb answer note a.0 a.1 a.2 a.3 min head look join

-- the notes of what was read, and of steps for late followers, come exactly if their rows hold
pub reads_say : (c : Config) (r b : ℕ) (mine : List Event) (old : Tables) (a : Answer) (place : Place) → IsConfig c → HoldsTables c r mine old.up old.reach old.heads old.written → At c r b mine old.up old.reach old.written place → IsPossible c r (step_of c r b mine old.up old.written place a ∷ mine)
    → SaysReads c r mine old.up place (verb_or (verb_at c b (known c r mine) old.up old.written place)) a (next_note c r b mine (step_of c r b mine old.up old.written place a ∷ mine) old a place)
reads_say c r b mine old a (Place.Confirm round p) is h at possible =
    let now = event_by r (Verb.Fence p) a ∷ mine in
    apart_says c r mine old.up (Place.Confirm round p) (Verb.Fence p) a (if nat_lt (p + 1) c.replicas then Note.Working else note_of_round c r now) (round_apart (nat_lt (p + 1) c.replicas) (is_confirmed c r now) (bits (λ q. is_some (noted_grant r q now))) (bits (λ q. is_some (noted_grant r q now)))) refl refl refl refl
reads_say c r b mine old a (Place.ReadMin p) is h at possible = says_first_min c r p mine old.up (Place.ReadMin p) a Note.Working at.telling.fresh.unnumbered refl refl
reads_say c r b mine old a (Place.EnterMin p) is h at possible = apart_says c r mine old.up (Place.EnterMin p) (Verb.Enter p Target.Min) a (note_of_enter p a) (lost_apart (note_of_enter p a) (enter_loses p a)) refl refl refl refl
reads_say c r b mine old a (Place.Learn p) is h at possible = learning c r p mine old.up (known c r (look_event r p (end_of c r mine) a ∷ mine)) a (note_of_learning (end_of c r (look_event r p (end_of c r mine) a ∷ mine)) a) ((h.brought p).caught_up (end_of c r mine) at.lacks) refl refl
reads_say c r b mine old a (Place.LookBehind p on) is h at possible = look_idle c r p (get_or old.up p 0) mine old.up (Place.LookBehind p on) a Note.Working refl refl (look_known c r p (get_or old.up p 0) a mine (λ same. let low = at.lacks in omega (arith, low, same)))
reads_say c r b mine old a (Place.EnterBehind p on) is h at possible = apart_says c r mine old.up (Place.EnterBehind p on) (Verb.Enter p (Target.Place (get_or old.up p 0 % c.ring))) a (note_of_enter p a) (lost_apart (note_of_enter p a) (enter_loses p a)) refl refl refl refl
reads_say c r b mine old a (Place.RaiseBehind p Then.Joined) is h at possible = says_raised c r p (get_or old.up p 0) mine old.up a (Note.Joined p) (at.behind.late refl) refl
reads_say c r b mine old a (Place.FenceBehind p on) is h at possible =
    let over = is_over r (event_by r (Verb.Fence p) a ∷ mine) in
    apart_says c r mine old.up (Place.FenceBehind p on) (Verb.Fence p) a (note_of_past p a over) (lost_apart (note_of_past p a over) (past_loses p a over)) refl refl refl refl
reads_say c r b mine old a (Place.LateMin p) is h at possible =
    let x = tells_min c r p a mine possible in
    says_late_min c r b p x.0 mine old.up (Place.LateMin p) a (note_of_min p b (number_told a)) x.1 at.late.level.leads.numbered refl (nat_lt b x.0) refl (ap (λ y. note_of_min p b (number_told y)) x.1)
reads_say c r b mine old a (Place.LateEnter p) is h at possible = apart_says c r mine old.up (Place.LateEnter p) (Verb.Enter p Target.Min) a (note_of_enter p a) (lost_apart (note_of_enter p a) (enter_loses p a)) refl refl refl refl
reads_say c r b mine old a (Place.LatePut p) is h at possible =
    let lacks = nat_lt (get_or old.up p 0) (end_of c r mine) in
    let joins : Answer → Note = λ y. if is_missed y then Note.Working else note_of_join p lacks in
    says_put c r p b mine old.up a (joins a) at.entering.late (puts_min_or c r p b a mine possible) lacks refl (ap joins, ap joins)
reads_say c r b mine old a (Place.ReadHead q candidate) is h at possible =
    let x = tells_head c r q a mine possible in
    let end = end_of c r mine in
    let told : Answer → Note = λ y. note_of_head q (min (number_told y) 65535) end (nat_lt (end + reserve c) (number_told y + c.ring)) (may_mark c r mine q (number_told y)) in
    says_head c r q x.0 mine old.up (Place.ReadHead q candidate) a (told a) (is_failed r q mine) x.1 refl at.unmarked (spare c r mine is at.roomy.within) refl
    (nat_lt (end + reserve c) (x.0 + c.ring)) (not (q == r) && (is_failed r q mine && nat_lt (end + 0) (x.0 + c.ring))) refl refl
    (ap told x.1 ∙ ap (λ n. note_of_head q (min x.0 65535) end (nat_lt (end + reserve c) (x.0 + c.ring)) (not (q == r) && (is_failed r q mine && nat_lt n (x.0 + c.ring)))) (let none : end ≡ end + 0 = omega arith in none))
reads_say c r b mine old a (Place.Look p i candidate best) is h at possible = looking c r p i mine old.up (Place.Look p i candidate best) (known c r (look_event r p i a ∷ mine)) a (note_of_look i (end_of c r (look_event r p i a ∷ mine)) a) refl at.position refl refl
reads_say c r b mine old a (Place.Enter p offer) is h at possible = apart_says c r mine old.up (Place.Enter p offer) (Verb.Enter p (Target.Place (end_of c r mine % c.ring))) a (note_of_enter p a) (lost_apart (note_of_enter p a) (enter_loses p a)) refl refl refl refl
reads_say c r b mine old a (Place.Put p offer) is h at possible =
    let grew = nat_lt (end_of c r mine) (end_of c r (event_by r (Verb.PutSlot p (end_of c r mine) b offer.value) a ∷ mine)) in
    apart_says c r mine old.up (Place.Put p offer) (Verb.PutSlot p (end_of c r mine) b offer.value) a (if grew then note_of_commit (end_of c r mine) offer else Note.Working) (put_apart (end_of c r mine) offer grew) refl refl refl refl
reads_say c r b mine old a (Place.Evidence p) is h at possible = apart_says c r mine old.up (Place.Evidence p) (Verb.Fence p) a (note_of_evidence p a) (lost_apart (note_of_evidence p a) (evidence_loses p a)) refl refl refl refl
reads_say c r b mine old a place is h at possible = says_working c r mine old.up place (verb_or (verb_at c b (known c r mine) old.up old.written place)) a Note.Working refl refl refl refl refl

-- the note that says nothing is `Working`
pub working_is : (note : Note) → is_working note ≡ true → note ≡ Note.Working
working_is Note.Working is = refl
working_is note is = absurd (true≢false (sym is))
