-- When a lost region is noted, place by place.
use Rattle.mu_agree.proofs.Evidence.{part_fences_show_misses_law}
use Rattle.mu_agree.proofs.Possible.{at_event, same_fence}
use Rattle.mu_lead.proofs.NoteKinds.{differs_by_test, head_quiet, join_quiet, learning_quiet, look_quiet, min_quiet, put_quiet, round_quiet}
use Rattle.mu_lead.proofs.Replies.{enters_or, sees_fence}
use Rattle.mu_model.specs.Diligence.{is_confirmed}
use Rattle.mu_lead.specs.Confirming.{HasGrant, Missed}
use Rattle.mu_lead.specs.Lasting.{step_of, verb_or}
use Rattle.mu_lead.specs.Leading.{end_of}
use Rattle.mu_lead.specs.Listing.{Tables, is_missed, may_mark, number_told, is_lost as is_loss}
use Rattle.mu_lead.specs.Losses.{LosesEntering, LosesReading, SaysLost, is_unlike}
use Rattle.mu_lead.specs.Notes.{note_of_commit, note_of_head, note_of_min}
use Rattle.mu_lead.specs.Noting.{next_note, note_of_enter, note_of_evidence, note_of_past, note_of_round}
use Rattle.mu_lead.specs.Saying.{note_of_fence, note_of_join, note_of_learning, note_of_look, value_seen}
use Rattle.mu_lead.specs.Sets.{bits}
use Rattle.mu_lead.specs.Standing.{At, verb_at}
use Rattle.mu_lead.specs.declared.note.AbortCause.{AbortCause}
use Rattle.mu_lead.specs.declared.note.Note.{Note}
use Rattle.mu_lead.specs.declared.place.Place.{Place}
use Rattle.mu_lead.specs.declared.place.Then.{Then}
use Rattle.mu_model.proofs.Basics.{same_number}
use Rattle.mu_model.proofs.Owned.{noted-part}
use Rattle.mu_model.specs.Answers.{entered_or_lost}
use Rattle.mu_model.specs.Knowledge.{known}
use Rattle.mu_model.specs.Leaderships.{is_changed, is_member, is_over, noted_grant}
use Rattle.mu_model.specs.Parts.{IsPossible}
use Rattle.mu_model.specs.Picks.{is_past}
use Rattle.mu_model.specs.Regions.{fence}
use Rattle.mu_model.specs.Room.{reserve}
use Rattle.mu_model.specs.declared.config.Config.{Config}
use Rattle.mu_model.specs.declared.event.Answer.{Answer}
use Rattle.mu_model.specs.declared.event.Event.{Event}
use Rattle.mu_model.specs.declared.event.Fence.{Fence}
use Rattle.mu_model.specs.declared.event.Target.{Target}
use Rattle.mu_model.specs.declared.event.Verb.{Verb}
use Rattle.std.proofs.Common.{Bool, List, None, Some, ap, arith, false, get_or, inl, inr, is_some, refl, subst, sym, true, true≢false, ℕ, ◌%◌, ◌&&◌, ◌+◌, ◌==◌, ◌||◌, ◌∙◌, ◌∷◌, ◌≡◌}
use Rattle.std.proofs.lemmas.Bool.{ne_eqb}
use Rattle.std.specs.Prelude.{if◌then◌else◌, min, nat_lt, not, ◌↔◌, ◌⊎◌}
use Rattle.std.specs.declared.option.Option.{Option}
use Rattle.mu_model.specs.Steps.{is_any_fencing_verb}
use Rattle.mu_model.specs.Histories.{event_by}

abbrev pub is_lost : Note → Bool
is_lost (Note.Aborted (AbortCause.Lost p f)) = true
is_lost note = false

abbrev is_enter : Verb → Bool
is_enter (Verb.Enter p t) = true
is_enter verb = false

abbrev is_evidence : Place → Bool
is_evidence (Place.Evidence p) = true
is_evidence place = false

same_lost : (p q : ℕ) (f g : Fence) → Note.Aborted (AbortCause.Lost p f) ≡ Note.Aborted (AbortCause.Lost q g) → (p ≡ q) × (f ≡ g)
same_lost p q f g is = (cc, cc)

same_read : (p q : ℕ) → Verb.Fence p ≡ Verb.Fence q → p ≡ q
same_read p q is = cc

same_entered : (p q : ℕ) (t u : Target) → Verb.Enter p t ≡ Verb.Enter q u → p ≡ q
same_entered p q t u is = cc

same_loss : (f g : Fence) → Answer.Lost f ≡ Answer.Lost g → f ≡ g
same_loss f g is = cc

-- no other verb loses a region
loses_none : (r : ℕ) (mine : List Event) (place : Place) (verb : Verb) (answer : Answer) (note : Note) → is_lost note ≡ false → is_enter verb ≡ false → is_any_fencing_verb verb ≡ false → SaysLost r mine place verb answer note
loses_none r mine place verb answer note out enter read p f = ((λ is. absurd (differs_by_test is_lost note (Note.Aborted (AbortCause.Lost p f)) out refl is)), (λ loses. absurd (go loses)))
  where
    go : LosesEntering r mine verb answer p f ⊎ LosesReading r mine place verb answer p f → ⊥
    go (inl e) = differs_by_test is_enter verb (Verb.Enter p e.target) enter refl e.entered
    go (inr l) = differs_by_test is_any_fencing_verb verb (Verb.Fence p) read refl l.read

-- the fence of a region that is no member loses nothing
fence_quiet : (r q : ℕ) (mine : List Event) (place : Place) (answer : Answer) (note : Note) → is_lost note ≡ false → is_evidence place ≡ false → is_member r q mine ≡ false → SaysLost r mine place (Verb.Fence q) answer note
fence_quiet r q mine place answer note out evidence stranger p f = ((λ is. absurd (differs_by_test is_lost note (Note.Aborted (AbortCause.Lost p f)) out refl is)), (λ loses. absurd (go loses)))
  where
    why : (Verb.Fence q ≡ Verb.Fence p) → ((place ≡ Place.Evidence p) ⊎ (is_member r p mine ≡ true)) → ⊥
    why read (inl at) = differs_by_test is_evidence place (Place.Evidence p) evidence refl at
    why read (inr member) = true≢false (sym member ∙ ap (λ k. is_member r k mine) (sym (same_read q p read)) ∙ stranger)

    go : LosesEntering r mine (Verb.Fence q) answer p f ⊎ LosesReading r mine place (Verb.Fence q) answer p f → ⊥
    go (inl e) = differs_by_test is_enter (Verb.Fence q) (Verb.Enter p e.target) refl refl e.entered
    go (inr l) = why l.read l.why

-- an `Enter` is lost by a fence that is closing or has another grant than the noted one
lost_unlike : (c : Config) (r p : ℕ) (t : Target) (g : Fence) (mine : List Event) → IsPossible c r (event_by r (Verb.Enter p t) (Answer.Lost g) ∷ mine) → is_unlike r p mine g ≡ true
lost_unlike c r p t g mine possible =
    let s = at_event c r mine (event_by r (Verb.Enter p t) (Answer.Lost g)) possible in
    subst (λ o. is_changed (Some o) g ≡ true) (sym (noted-part r p s.older) ∙ ap (noted_grant r p) s.part_is) (go (noted_grant r p s.older) (fence p s.older) s.follows.answer)
  where
    by_test : (f : Fence) (x : ℕ) (a b : Bool) → f.closing ≡ a → (f.grant == x) ≡ b → Answer.Lost g ≡ (if not a && b then Answer.Entered else Answer.Lost f) → (g.closing || not (g.grant == x)) ≡ true
    by_test f x true b closing grant is = rw (ap (λ h. h.closing) (same_loss g f is) ∙ closing) refl
    by_test f x false true closing grant is = cc
    by_test f x false false closing grant is = rw (ap (λ h. h.closing) (same_loss g f is) ∙ closing, ap (λ h. h.grant == x) (same_loss g f is) ∙ grant) refl

    go : (o : Option ℕ) (f : Fence) → Answer.Lost g ≡ entered_or_lost o f → is_changed (Some o) g ≡ true
    go None f is = refl
    go (Some x) f is = by_test f x f.closing (f.grant == x) refl refl is

-- an `Enter`
enter_says : (c : Config) (r q : ℕ) (t : Target) (mine : List Event) (place : Place) (answer : Answer) (note : Note) → IsPossible c r (event_by r (Verb.Enter q t) answer ∷ mine) → (answer ≡ Answer.Entered → note ≡ Note.Working) × ((f : Fence) → answer ≡ Answer.Lost f → note ≡ Note.Aborted (AbortCause.Lost q f)) → SaysLost r mine place (Verb.Enter q t) answer note
enter_says c r q t mine place answer note possible notes p f = elim (enters_or c r q t answer mine possible) [
  | inl entered ↦ ((λ is. absurd (differs_by_test is_lost note (Note.Aborted (AbortCause.Lost p f)) (ap is_lost (notes.0 entered)) refl is)), (λ loses. absurd (none entered loses)))
  | inr lost ↦ (
    (λ is. let s = same_lost q p lost.0 f (sym (notes.1 lost.0 lost.1) ∙ is) in inl (record {
      target = t;
      entered = ap (λ k. Verb.Enter k t) s.0;
      lost = lost.1 ∙ ap Answer.Lost s.1;
      unlike = subst (λ k. is_unlike r k mine f ≡ true) s.0 (subst (λ h. is_unlike r q mine h ≡ true) s.1 (lost_unlike c r q t lost.0 mine (subst (λ a. IsPossible c r (event_by r (Verb.Enter q t) a ∷ mine)) lost.1 possible)));
    })),
    (λ loses. notes.1 lost.0 lost.1 ∙ so lost.0 lost.1 loses),
  )
]
  where
    none : answer ≡ Answer.Entered → LosesEntering r mine (Verb.Enter q t) answer p f ⊎ LosesReading r mine place (Verb.Enter q t) answer p f → ⊥
    none entered (inl e) = differs_by_test is_loss answer (Answer.Lost f) (ap is_loss entered) refl e.lost
    none entered (inr l) = differs_by_test is_any_fencing_verb (Verb.Enter q t) (Verb.Fence p) refl refl l.read

    so : (g : Fence) → answer ≡ Answer.Lost g → LosesEntering r mine (Verb.Enter q t) answer p f ⊎ LosesReading r mine place (Verb.Enter q t) answer p f → Note.Aborted (AbortCause.Lost q g) ≡ Note.Aborted (AbortCause.Lost p f)
    so g lost (inl e) = ap (λ k. Note.Aborted (AbortCause.Lost k g)) (same_entered q p t e.target e.entered) ∙ ap (λ h. Note.Aborted (AbortCause.Lost p h)) (same_loss g f (sym lost ∙ e.lost))
    so g lost (inr l) = absurd (differs_by_test is_any_fencing_verb (Verb.Enter q t) (Verb.Fence p) refl refl l.read)

-- a fence that is read if it is noted as lost
read_so : (r q p : ℕ) (g f : Fence) (mine : List Event) (place : Place) (answer : Answer) → answer ≡ Answer.Seen g → LosesEntering r mine (Verb.Fence q) answer p f ⊎ LosesReading r mine place (Verb.Fence q) answer p f → Note.Aborted (AbortCause.Lost q g) ≡ Note.Aborted (AbortCause.Lost p f)
read_so r q p g f mine place answer seen (inl e) = absurd (differs_by_test is_enter (Verb.Fence q) (Verb.Enter p e.target) refl refl e.entered)
read_so r q p g f mine place answer seen (inr l) = ap (λ k. Note.Aborted (AbortCause.Lost k g)) (same_read q p l.read) ∙ ap (λ h. Note.Aborted (AbortCause.Lost p h)) (same_fence g f (sym seen ∙ l.seen))

-- after a put that missed the fence is closing or has another grant than the noted one
missed_unlike : (c : Config) (r p : ℕ) (f : Fence) (mine : List Event) → IsPossible c r (event_by r (Verb.Fence p) (Answer.Seen f) ∷ mine) → Missed r mine p → is_unlike r p mine f ≡ true
missed_unlike c r p f mine possible m = go (noted_grant r p mine) refl
  where
    by_closing : (t u : Bool) → u ≡ false → (t || not u) ≡ true
    by_closing true u is = refl
    by_closing false u is = ap not is

    go : (o : Option ℕ) → noted_grant r p mine ≡ o → is_changed (Some o) f ≡ true
    go None is = refl
    go (Some g) is = elim (part_fences_show_misses_law c r p g m.before m.since m.put (event_by r (Verb.Fence p) (Answer.Seen f)) f (subst (λ past. IsPossible c r (event_by r (Verb.Fence p) (Answer.Seen f) ∷ past)) m.is possible) m.missed (m.under ∙ is) refl refl) [
      | inl closing ↦ rw closing refl
      | inr later ↦ by_closing f.closing (f.grant == g) (ne_eqb f.grant g (λ same. absurd (omega (arith, same, later))))
    ]

-- the fence after a put that missed
evidence_says : (r q : ℕ) (g : Fence) (mine : List Event) (answer : Answer) (note : Note) → answer ≡ Answer.Seen g → is_unlike r q mine g ≡ true → note ≡ Note.Aborted (AbortCause.Lost q g) → SaysLost r mine (Place.Evidence q) (Verb.Fence q) answer note
evidence_says r q g mine answer note seen unlike notes p f = (
  (λ is. let s = same_lost q p g f (sym notes ∙ is) in inr (record { read = ap Verb.Fence s.0; seen = seen ∙ ap Answer.Seen s.1; unlike = subst (λ k. is_unlike r k mine f ≡ true) s.0 (subst (λ x. is_unlike r q mine x ≡ true) s.1 unlike); why = inl (ap Place.Evidence s.0) })),
  (λ loses. notes ∙ read_so r q p g f mine (Place.Evidence q) answer seen loses),
)

-- the fence of a member after a look that was past
behind_says : (r q : ℕ) (g : Fence) (mine : List Event) (on : Then) (answer : Answer) (note : Note) → answer ≡ Answer.Seen g → is_member r q mine ≡ true → HasGrant r q mine → is_over r mine ≡ false → note ≡ note_of_fence q g (is_over r (event_by r (Verb.Fence q) (Answer.Seen g) ∷ mine)) → SaysLost r mine (Place.FenceBehind q on) (Verb.Fence q) answer note
behind_says r q g mine on answer note seen member h goes_on notes p f = go (is_unlike r q mine g) refl
  where
    over : is_over r (event_by r (Verb.Fence q) (Answer.Seen g) ∷ mine) ≡ is_unlike r q mine g
    over = rw (same_number r, h.joined, h.noted, goes_on) (or_none (g.closing || not (g.grant == h.grant)))
      where
        or_none : (t : Bool) → (t || false) ≡ t
        or_none true = refl
        or_none false = refl

    why : is_unlike r q mine g ≡ false → LosesEntering r mine (Verb.Fence q) answer p f ⊎ LosesReading r mine (Place.FenceBehind q on) (Verb.Fence q) answer p f → ⊥
    why like (inl e) = differs_by_test is_enter (Verb.Fence q) (Verb.Enter p e.target) refl refl e.entered
    why like (inr l) = true≢false (sym l.unlike ∙ ap (λ k. is_unlike r k mine f) (sym (same_read q p l.read)) ∙ ap (is_unlike r q mine) (sym (same_fence g f (sym seen ∙ l.seen))) ∙ like)

    go : (t : Bool) → is_unlike r q mine g ≡ t → (note ≡ Note.Aborted (AbortCause.Lost p f)) ↔ (LosesEntering r mine (Verb.Fence q) answer p f ⊎ LosesReading r mine (Place.FenceBehind q on) (Verb.Fence q) answer p f)
    go true unlike =
        let now : note ≡ Note.Aborted (AbortCause.Lost q g) = notes ∙ ap (note_of_fence q g) (over ∙ unlike) in (
          (λ is. let s = same_lost q p g f (sym now ∙ is) in inr (record {
            read = ap Verb.Fence s.0;
            seen = seen ∙ ap Answer.Seen s.1;
            unlike = subst (λ k. is_unlike r k mine f ≡ true) s.0 (subst (λ x. is_unlike r q mine x ≡ true) s.1 unlike);
            why = inr (subst (λ k. is_member r k mine ≡ true) s.0 member);
          })),
          (λ loses. now ∙ read_so r q p g f mine (Place.FenceBehind q on) answer seen loses),
        )
    go false like = ((λ is. absurd (differs_by_test is_lost note (Note.Aborted (AbortCause.Lost p f)) (ap is_lost (notes ∙ ap (note_of_fence q g) (over ∙ like))) refl is)), (λ loses. absurd (why like loses)))

-- an `Enter` at any place
entering_loses : (c : Config) (r p : ℕ) (t : Target) (mine : List Event) (place : Place) (a : Answer) → IsPossible c r (event_by r (Verb.Enter p t) a ∷ mine) → SaysLost r mine place (Verb.Enter p t) a (note_of_enter p a)
entering_loses c r p t mine place a possible = enter_says c r p t mine place a (note_of_enter p a) possible (ap (note_of_enter p), λ f. ap (note_of_enter p))

-- the note of a lost region comes exactly if it is lost
pub losses_say : (c : Config) (r b : ℕ) (mine : List Event) (old : Tables) (a : Answer) (place : Place) → At c r b mine old.up old.reach old.written place → IsPossible c r (step_of c r b mine old.up old.written place a ∷ mine)
    → SaysLost r mine place (verb_or (verb_at c b (known c r mine) old.up old.written place)) a (next_note c r b mine (step_of c r b mine old.up old.written place a ∷ mine) old a place)
losses_say c r b mine old a (Place.Confirm round p) at possible =
    let now = event_by r (Verb.Fence p) a ∷ mine in
    fence_quiet r p mine (Place.Confirm round p) a (if nat_lt (p + 1) c.replicas then Note.Working else note_of_round c r now) (round_quiet is_lost (nat_lt (p + 1) c.replicas) (is_confirmed c r now) (bits (λ q. is_some (noted_grant r q now))) (bits (λ q. is_some (noted_grant r q now))) refl (λ s. refl) (λ s. refl)) refl (at.1.fresh.alone p)
losses_say c r b mine old a (Place.EnterMin p) at possible = entering_loses c r p Target.Min mine (Place.EnterMin p) a possible
losses_say c r b mine old a (Place.Learn p) at possible =
    let now = event_by r (Verb.Look p (end_of c r mine)) a ∷ mine in
    loses_none r mine (Place.Learn p) (Verb.Look p (end_of c r mine)) a (note_of_learning (end_of c r now) a) (learning_quiet is_lost (end_of c r now) a refl (λ i v. refl)) refl refl
losses_say c r b mine old a (Place.EnterBehind p on) at possible = entering_loses c r p (Target.Place (get_or old.up p 0 % c.ring)) mine (Place.EnterBehind p on) a possible
losses_say c r b mine old a (Place.RaiseBehind p Then.Joined) at possible = loses_none r mine (Place.RaiseBehind p Then.Joined) (Verb.RaiseFuo p (get_or old.up p 0)) a (Note.Joined p) refl refl refl
losses_say c r b mine old a (Place.FenceBehind p on) at possible =
    let x = sees_fence c r p a mine possible in
    let behind = at.near.behind in
    behind_says r p x.0 mine on a (note_of_past p a (is_over r (event_by r (Verb.Fence p) a ∷ mine))) x.1 behind.member (behind.leads.held p behind.region behind.member) behind.leads.goes_on (ap (λ y. note_of_past p y (is_over r (event_by r (Verb.Fence p) y ∷ mine))) x.1)
losses_say c r b mine old a (Place.LateFence p) at possible = fence_quiet r p mine (Place.LateFence p) a Note.Working refl refl at.stranger
losses_say c r b mine old a (Place.LateMin p) at possible = loses_none r mine (Place.LateMin p) (Verb.Min p) a (note_of_min p b (number_told a)) (min_quiet is_lost p (number_told a) (nat_lt b (number_told a)) refl (λ p m. refl)) refl refl
losses_say c r b mine old a (Place.LateEnter p) at possible = entering_loses c r p Target.Min mine (Place.LateEnter p) a possible
losses_say c r b mine old a (Place.LatePut p) at possible =
    let lacks = nat_lt (get_or old.up p 0) (end_of c r mine) in
    loses_none r mine (Place.LatePut p) (Verb.PutMin p b) a (if is_missed a then Note.Working else note_of_join p lacks) (join_quiet is_lost p (is_missed a) lacks refl (λ p. refl)) refl refl
losses_say c r b mine old a (Place.ReadHead q candidate) at possible =
    let end = end_of c r mine in
    let room = nat_lt (end + reserve c) (number_told a + c.ring) in
    let marks = may_mark c r mine q (number_told a) in
    loses_none r mine (Place.ReadHead q candidate) (Verb.Head q) a (note_of_head q (min (number_told a) 65535) end room marks) (head_quiet is_lost q (min (number_told a) 65535) end room marks refl (λ q h i. refl)) refl refl
losses_say c r b mine old a (Place.Look p i candidate best) at possible =
    let end = end_of c r (event_by r (Verb.Look p i) a ∷ mine) in
    loses_none r mine (Place.Look p i candidate best) (Verb.Look p i) a (note_of_look i end a) (look_quiet is_lost i (is_past a) (nat_lt i end) (value_seen a) refl (λ i v. refl)) refl refl
losses_say c r b mine old a (Place.Enter p offer) at possible = entering_loses c r p (Target.Place (end_of c r mine % c.ring)) mine (Place.Enter p offer) a possible
losses_say c r b mine old a (Place.Put p offer) at possible =
    let grew = nat_lt (end_of c r mine) (end_of c r (event_by r (Verb.PutSlot p (end_of c r mine) b offer.value) a ∷ mine)) in
    loses_none r mine (Place.Put p offer) (Verb.PutSlot p (end_of c r mine) b offer.value) a (if grew then note_of_commit (end_of c r mine) offer else Note.Working) (put_quiet is_lost (end_of c r mine) offer grew refl (λ i v. refl) (λ i v. refl)) refl refl
losses_say c r b mine old a (Place.Evidence p) at possible =
    let x = sees_fence c r p a mine possible in
    evidence_says r p x.0 mine a (note_of_evidence p a) x.1 (missed_unlike c r p x.0 mine (subst (λ a. IsPossible c r (event_by r (Verb.Fence p) a ∷ mine)) x.1 possible) at.missed) (ap (note_of_evidence p) x.1)
losses_say c r b mine old a place at possible = loses_none r mine place (verb_or (verb_at c b (known c r mine) old.up old.written place)) a Note.Working refl refl refl
