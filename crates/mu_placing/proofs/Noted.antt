-- How one event changes the notes of what was put.
use Rattle.std.proofs.Common.{Bool, List, None, Some, [], ap, arith, cond, eqb-true, false, inl, inr, length, refl, replicate, set, subst, true, ℕ, ◌&&◌, ◌*◌, ◌+◌, ◌<◌, ◌==◌, ◌∷◌, ◌≡◌, ◌≢◌, ◌⊎◌}
use Rattle.std.specs.declared.option.Option.{Option}
use Rattle.std.specs.List.{slice_get}
use Rattle.std.proofs.lemmas.Bool.{ne_eqb}
use Rattle.std.proofs.lemmas.Option.{slice_get_within}
use Rattle.mu_model.specs.declared.event.Answer.{Answer}
use Rattle.mu_model.specs.declared.event.Event.{Event}
use Rattle.mu_model.specs.declared.event.Verb.{Verb}
use Rattle.mu_model.specs.Leaderships.{begins_leadership, leaderships}
use Rattle.mu_placing.specs.LandedPuts.{IsWithin, Notes, NotesEach, entry_put, landed_put, noted_in}
use Rattle.mu_placing.specs.declared.landed_puts.Landing.{Landing}
use Rattle.mu_model.proofs.Lists.{all_copies, set_get}
use Rattle.mu_model.proofs.Basics.{same_number, same_some}

none_of : {A : Type 0} (t : Bool) (x : A) → cond (t && false) (Some x) None ≡ None
none_of true x = refl
none_of false x = refl

-- what was noted in a leadership is of none in the next one
none_next : (n : ℕ) (noted : Option Landing) → IsWithin n noted → (noted_in (n + 1) noted ≡ None) × IsWithin (n + 1) noted
none_next n None within = (refl, tt)
none_next n (Some landing) within = (rw (ne_eqb landing.leadership (n + 1) (λ e. omega (arith, e, within))) refl, omega (arith, within))

-- what is noted of a position if the event puts nothing
pub note_kept : (r p i : ℕ) (e : Event) (mine : List Event) (noted : Option Landing) → entry_put r p i e.by e.verb e.answer ≡ None → Notes r p i mine noted → Notes r p i (e ∷ mine) noted
note_kept r p i e mine noted none held = go (begins_leadership r e) refl
  where
    go : (t : Bool) → begins_leadership r e ≡ t → Notes r p i (e ∷ mine) noted
    go true is = let next = none_next (leaderships r mine) noted held.within in record { entry = rw is next.0; within = rw is next.1 }
    go false is = record { entry = rw (is, none) held.entry; within = rw is held.within }

-- the event puts nothing at any position that has a note
pub notes_kept : (r : ℕ) (e : Event) (mine : List Event) (notes : List (Option Landing)) → ((p i : ℕ) → p < 7 → i * 7 + p < length notes → entry_put r p i e.by e.verb e.answer ≡ None) → NotesEach r mine notes → NotesEach r (e ∷ mine) notes
notes_kept r e mine notes none held p i noted small at = note_kept r p i e mine noted (none p i small (slice_get_within notes (i * 7 + p) noted at)) (held p i noted small at)

-- the event puts nothing anywhere
pub nothing_noted : (r : ℕ) (e : Event) (mine : List Event) (notes : List (Option Landing)) → landed_put r e.by e.verb e.answer ≡ None → NotesEach r mine notes → NotesEach r (e ∷ mine) notes
nothing_noted r e mine notes nothing held = notes_kept r e mine notes (λ p i small low. go p i e.by e.verb e.answer nothing) held
  where
    go : (p i by : ℕ) (verb : Verb) (answer : Answer) → landed_put r by verb answer ≡ None → entry_put r p i by verb answer ≡ None
    go p i by (Verb.PutSlot q j n v) Answer.Done nothing = by_test (by == r) nothing
      where
        put : ℕ × ℕ × ℕ × ℕ
        put = (q, j, n, v)

        entry : ℕ × ℕ
        entry = (n, v)

        by_test : (t : Bool) → cond t (Some put) None ≡ None → cond (t && ((q == p) && (j == i))) (Some entry) None ≡ None
        by_test true nothing = cc
        by_test false nothing = refl
    go p i by verb answer nothing = refl

-- what the event is that puts an entry
pub record IsPutOf (r : ℕ) (e : Event) (q j n v : ℕ) : Type 0 where
  pub own : e.by ≡ r
  pub verb : e.verb ≡ Verb.PutSlot q j n v
  pub answer : e.answer ≡ Answer.Done

-- if a put landed, the event is this put
pub is_put_of : (r : ℕ) (e : Event) (q j n v : ℕ) → landed_put r e.by e.verb e.answer ≡ Some (q, j, n, v) → IsPutOf r e q j n v
is_put_of r e q j n v is = let found = go e.by e.verb e.answer is in record { own = found.0; verb = found.1; answer = found.2 }
  where
    go : (by : ℕ) (verb : Verb) (answer : Answer) → landed_put r by verb answer ≡ Some (q, j, n, v) → (by ≡ r) × (verb ≡ Verb.PutSlot q j n v) × (answer ≡ Answer.Done)
    go by (Verb.PutSlot p i b w) Answer.Done is = by_test (by == r) refl is
      where
        found : ℕ × ℕ × ℕ × ℕ
        found = (p, i, b, w)

        wanted : ℕ × ℕ × ℕ × ℕ
        wanted = (q, j, n, v)

        by_test : (t : Bool) → (by == r) ≡ t → cond t (Some found) None ≡ Some wanted → (by ≡ r) × (Verb.PutSlot p i b w ≡ Verb.PutSlot q j n v) × (Answer.Done ≡ Answer.Done)
        by_test true own is =
            let same : found ≡ wanted = same_some found wanted is in
            let region : p ≡ q = ap (λ z. z.0) same in
            let position : i ≡ j = ap (λ z. z.1) same in
            let number : b ≡ n = ap (λ z. z.2) same in
            let value : w ≡ v = ap (λ z. z.3) same in
            (eqb-true by r own, rw (region, position, number, value) refl, refl)
        by_test false own is = cc
    go by verb answer is = cc

-- the event is a put that has no note
pub put_kept : (r : ℕ) (e : Event) (mine : List Event) (notes : List (Option Landing)) (q j n v : ℕ) → landed_put r e.by e.verb e.answer ≡ Some (q, j, n, v) → (q < 7 → j * 7 + q < length notes → ⊥) → NotesEach r mine notes → NotesEach r (e ∷ mine) notes
put_kept r e mine notes q j n v is out held = notes_kept r e mine notes none held
  where
    put : IsPutOf r e q j n v
    put = is_put_of r e q j n v is

    none : (p i : ℕ) → p < 7 → i * 7 + p < length notes → entry_put r p i e.by e.verb e.answer ≡ None
    none p i small there = rw (put.verb, put.answer) (go (e.by == r) refl (q == p) refl (j == i) refl)
      where
        entry : ℕ × ℕ
        entry = (n, v)

        go : (t : Bool) → (e.by == r) ≡ t → (u : Bool) → (q == p) ≡ u → (x : Bool) → (j == i) ≡ x → cond (t && (u && x)) (Some entry) None ≡ None
        go true own true region true position =
            let same : q ≡ p = eqb-true q p region in
            let place : j ≡ i = eqb-true j i position in
            absurd (out (omega arith) (omega arith))
        go true own true region false position = refl
        go true own false region x position = refl
        go false own u region x position = refl

-- the event is a put that is noted
pub put_noted : (r : ℕ) (e : Event) (mine : List Event) (notes : List (Option Landing)) (q j n v at : ℕ) (landing : Landing) → landed_put r e.by e.verb e.answer ≡ Some (q, j, n, v) → q < 7 → at ≡ j * 7 + q → at < length notes
    → landing.leadership ≡ leaderships r (e ∷ mine) → landing.number ≡ n → landing.value ≡ v → NotesEach r mine notes → NotesEach r (e ∷ mine) (set notes at (Some landing))
put_noted r e mine notes q j n v at landing is region place low now number value held p i noted small there = by_place (set_get notes at (Some landing) (i * 7 + p) noted there)
  where
    put : IsPutOf r e q j n v
    put = is_put_of r e q j n v is

    by_place : ((i * 7 + p ≡ at) × (Some landing ≡ noted)) ⊎ ((i * 7 + p ≢ at) × (slice_get notes (i * 7 + p) ≡ Some noted)) → Notes r p i (e ∷ mine) noted
    by_place (inl here) =
        let same : i * 7 + p ≡ at = here.0 in
        let position : j ≡ i = omega arith in
        let home : q ≡ p = omega arith in
        subst (λ o. Notes r p i (e ∷ mine) o) here.1 (noted_here position home)
      where
        noted_here : j ≡ i → q ≡ p → Notes r p i (e ∷ mine) (Some landing)
        noted_here position home = record {
          entry = rw (now, same_number (leaderships r (e ∷ mine)), number, value, put.verb, put.answer, put.own, position, home, same_number r, same_number p, same_number i) refl;
          within = omega (arith, now);
        }
    by_place (inr other) =
        note_kept r p i e mine noted (rw (put.verb, put.answer) (none (q == p) refl (j == i) refl)) (held p i noted small other.1)
      where
        entry : ℕ × ℕ
        entry = (n, v)

        none : (u : Bool) → (q == p) ≡ u → (x : Bool) → (j == i) ≡ x → cond ((e.by == r) && (u && x)) (Some entry) None ≡ None
        none true home true position =
            let there : q ≡ p = eqb-true q p home in
            let here : j ≡ i = eqb-true j i position in
            absurd (other.0 (omega arith))
        none true home false position = none_of (e.by == r) entry
        none false home x position = none_of (e.by == r) entry

-- before any event nothing is noted
pub none_noted : (r n : ℕ) → NotesEach r [] (replicate n None)
none_noted r n p i noted small at = all_copies (λ k note. (Notes r p i [] note)) n None (λ k. record { entry = refl; within = tt }) (i * 7 + p) noted at
