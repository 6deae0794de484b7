-- A fabric of words makes one more step that is allowed.
use Rattle.std.proofs.Common.{◌≡◌, ℕ, ◌+◌, ◌<◌, ◌∙◌, inl, inr, false, cond, ◌==◌, List, [], ◌∷◌, ◌++◌, length, refl, sym, ap, arith, Some, drop, get_or, set, slice_index, subst, take, eqb-true}
use Rattle.std.specs.List.{slice_get}
use Rattle.std.proofs.Math.Seq.{take-append_seam}
use Rattle.std.proofs.lemmas.Option.{slice_get_read}
use Rattle.std.proofs.lemmas.Bool.{false_from_ne_true}
use Rattle.std.proofs.lemmas.List.{length-append, length-set, reverse-append}
use Rattle.mu_model.specs.declared.config.Config.{Config}
use Rattle.mu_model.specs.declared.event.Answer.{Answer}
use Rattle.mu_model.specs.declared.event.Event.{Event}
use Rattle.mu_model.specs.declared.event.Verb.{Verb}
use Rattle.mu_model.specs.Allowed.{Allowed}
use Rattle.mu_model.specs.Answers.{answer_of}
use Rattle.mu_model.specs.Histories.{history, part}
use Rattle.mu_model.specs.Legal.{IsLegalHistory}
use Rattle.mu_model.proofs.Basics.{same_number}
use Rattle.mu_model.proofs.Budgets.{legal_keeps, room_for}
use Rattle.mu_model.proofs.Lists.{set_get}
use Rattle.mu_words.specs.declared.found.Found.{Found}
use Rattle.mu_words.specs.declared.layout.Layout.{Layout}
use Rattle.mu_words.specs.Finding.{found_word, loaded_by, name_of, sights}
use Rattle.mu_words.specs.Founds.{FoundIs}
use Rattle.mu_words.specs.Places.{IsName, place_of}
use Rattle.mu_words.specs.Stands.{Stands, set_word, step_expects, step_name}
use Rattle.mu_words.specs.Standing.{standing_word}
use Rattle.mu_words.specs.Steps.{event_of}
use Rattle.mu_words.specs.Verbs.{VerbFits, WordFits, answer_from, name_at, word_after}
use Rattle.mu_words.proofs.Places.{places_inside_law}
use Rattle.mu_words.proofs.Prepared.{allowed_are_prepared_law}
use Rattle.mu_words.proofs.Stand.{stands_written, words_stand_law}
use Rattle.word_fabric.specs.Kept.{HoldsFounds, IsMade, IsWordsKept, place_at}

-- there is room for the step
pub has_room : (c : Config) (events : List Event) (room : ℕ) (l : Layout) (ws : List ℕ) (fs : List Found) (r : ℕ) (v : Verb) → IsWordsKept c events room l ws fs → Allowed c r (part r (history events)) v → 0 < room
has_room c events room l ws fs r v kept may =
    let left = room_for c.replicas c.budget events r (legal_keeps c (history events) kept.legal) may.replica may.budget in
    let all = kept.room_left in
    omega (arith, left, all)

-- what the replica keeps is in the list
pub found_there : (fs : List Found) (n k r : ℕ) (f : Found) → length fs ≡ n → r < n → k ≡ r → f ≡ get_or fs k f → slice_get fs r ≡ Some f
found_there fs n k r f all low at is = subst (λ q. slice_get fs q ≡ Some f) at (slice_get_read fs n k f (sym all) (omega (arith, at, low)) is)

-- a list of words that is written over as a whole
pub refilled : (old new : List ℕ) (n : ℕ) → n ≡ length old → length new ≡ length old → take n (new ++ drop (length new) old) ≡ new
refilled old new n count same = ap (λ k. take k (new ++ drop (length new) old)) (count ∙ sym same) ∙ take-append_seam new (drop (length new) old)

-- the name of the word by what is kept is that by the own events
name_kept : (c : Config) (l : Layout) (r : ℕ) (f : Found) (mine : List Event) (seen : List (Event × ℕ)) (v : Verb) → l.ring ≡ c.ring → FoundIs c r f mine seen → name_at l.ring r f.close_target v ≡ name_of c r mine v
name_kept c l r f mine seen v ring is = ap (λ n. name_at n r f.close_target v) ring ∙ ap (λ t. name_at c.ring r t v) is.close_target

-- what the step asks, and what it makes of the list
pub record Ready (c : Config) (events : List Event) (r : ℕ) (v : Verb) (l : Layout) (ws : List ℕ) (f : Found) : Type 0 where
  pub ring : 0 < l.ring
  pub found_ring : 0 < f.ring
  pub fields : VerbFits l.ring v
  pub named : IsName l (name_at l.ring r f.close_target v)
  pub room : WordFits v (slice_index ws (place_at l r f v))
  pub answer : (a : Answer) (new : List ℕ) (g : Found) → IsMade l r v ws f a new g → a ≡ answer_of c r (history events) v
  pub words : (a : Answer) (new : List ℕ) (g : Found) → IsMade l r v ws f a new g
      → (Stands c l (events ++ event_of c r (history events) v ∷ []) (slice_index new)) × (length new ≡ length ws)
  pub founds : (a : Answer) (new : List ℕ) (g : Found) → IsMade l r v ws f a new g
      → FoundIs c r g ((record { by = r; verb = v; answer = a }) ∷ part r (history events)) ((record { by = r; verb = v; answer = a }, found_word c r (history events) v) ∷ sights c r (history events))

pub ready : (c : Config) (events : List Event) (room : ℕ) (l : Layout) (ws : List ℕ) (fs : List Found) (f : Found) (r : ℕ) (v : Verb) → IsWordsKept c events room l ws fs → Allowed c r (part r (history events)) v
    → slice_get fs r ≡ Some f → Ready c events r v l ws f
ready c events room l ws fs f r v kept may there =
    let past = history events in
    let mine = part r past in
    let seen = sights c r past in
    let is = kept.holds r f there in
    let prepared = allowed_are_prepared_law c r past v may in
    let law = words_stand_law c l events r v (slice_index ws) kept.given kept.laid_out kept.legal may kept.stands in
    let ring = kept.laid_out.ring in
    let name : name_at l.ring r f.close_target v ≡ step_name c events r v = name_kept c l r f mine seen v ring is in
    let place : place_at l r f v ≡ place_of l (step_name c events r v) = ap (place_of l) name in
    let x = step_expects c events r v in
    let inside : place_at l r f v < length ws = (let low = places_inside_law l (step_name c events r v) law.named in let all = kept.all_words in omega (arith, low, all, place)) in
    let stood : slice_index ws (place_at l r f v) ≡ standing_word c past (step_name c events r v) = ap (slice_index ws) place ∙ kept.stands (step_name c events r v) law.named in
    let left : (i n : ℕ) → i ≡ place_at l r f v → n ≡ c.ring → set_word (slice_index ws) (place_of l (step_name c events r v)) (word_after c.ring v x (slice_index ws (place_of l (step_name c events r v))))
    ≡ set_word (slice_index ws) i (word_after n v x (slice_index ws i))
    = λ i n at same. ap (λ j. set_word (slice_index ws) j (word_after c.ring v x (slice_index ws j))) (sym (at ∙ place)) ∙ ap (λ m. set_word (slice_index ws) i (word_after m v x (slice_index ws i))) (sym same) in
    record {
      ring = (let given = kept.given.ring.0 in omega (arith, ring, given));
      found_ring = (let given = kept.given.ring.0 in let same = is.ring in omega (arith, same, given));
      fields = subst (λ n. VerbFits n v) (sym ring) law.is.verb_fits;
      named = subst (IsName l) (sym name) law.named;
      room = subst (λ i. WordFits v (slice_index ws i)) (sym place) law.is.word_fits;
      answer = λ a new g made. made.answered c mine seen is prepared ∙ ap (λ n. answer_from n v x (slice_index ws (place_at l r f v))) ring ∙ ap (λ i. answer_from c.ring v x (slice_index ws i)) place ∙ law.is.answer;
      words = λ a new g made. (
        subst (λ zs. Stands c l (events ++ event_of c r past v ∷ []) (slice_index zs)) (sym (made.written c mine seen is prepared))
            (stands_written c l (events ++ event_of c r past v ∷ []) ws (place_at l r f v) (word_after l.ring v x (slice_index ws (place_at l r f v))) inside
            (subst (λ ww. Stands c l (events ++ event_of c r past v ∷ []) ww) (left (place_at l r f v) l.ring refl ring) law.is.stands)),
        ap length (made.written c mine seen is prepared) ∙ length-set ws (place_at l r f v) (word_after l.ring v x (slice_index ws (place_at l r f v))),
      );
      founds = λ a new g made.
          subst (λ w. FoundIs c r g ((record { by = r; verb = v; answer = a }) ∷ mine) ((record { by = r; verb = v; answer = a }, loaded_by v w) ∷ seen)) stood (made.noted c mine seen is prepared);
    }

-- what the event makes of the own events, and of another's
own_next : (c : Config) (past : List Event) (g : Found) (e : Event) → FoundIs c e.by g (e ∷ part e.by past) ((e, found_word c e.by past e.verb) ∷ sights c e.by past) → FoundIs c e.by g (part e.by (e ∷ past)) (sights c e.by (e ∷ past))
own_next c past g e made =
    subst (λ t. FoundIs c e.by g (cond t (e ∷ part e.by past) (part e.by past)) (cond t ((e, found_word c e.by past e.verb) ∷ sights c e.by past) (sights c e.by past))) (sym (same_number e.by)) made

other_next : (c : Config) (past : List Event) (r : ℕ) (f : Found) (e : Event) → (e.by == r) ≡ false → FoundIs c r f (part r past) (sights c r past) → FoundIs c r f (part r (e ∷ past)) (sights c r (e ∷ past))
other_next c past r f e apart was =
    subst (λ t. FoundIs c r f (cond t (e ∷ part r past) (part r past)) (cond t ((e, found_word c r past e.verb) ∷ sights c r past) (sights c r past))) (sym apart) was

-- what the others keep stays, and what r keeps takes the step
holds_next : (c : Config) (past : List Event) (fs : List Found) (g : Found) (e : Event) → HoldsFounds c past fs
    → FoundIs c e.by g (e ∷ part e.by past) ((e, found_word c e.by past e.verb) ∷ sights c e.by past) → HoldsFounds c (e ∷ past) (set fs e.by g)
holds_next c past fs g e held made r f there = elim (set_get fs e.by g r f there) [
  | inl here ↦ subst (λ q. FoundIs c q f (part q (e ∷ past)) (sights c q (e ∷ past))) (sym here.0) (subst (λ z. FoundIs c e.by z (part e.by (e ∷ past)) (sights c e.by (e ∷ past))) here.1 (own_next c past g e made))
  | inr other ↦
      let apart : (e.by == r) ≡ false = false_from_ne_true (e.by == r) (λ k. other.0 (sym (eqb-true e.by r k))) in
      other_next c past r f e apart (held r f other.1)
]

-- the fabric after the step
pub kept_next : (c : Config) (events : List Event) (room left : ℕ) (l : Layout) (ws new : List ℕ) (fs : List Found) (f g : Found) (r : ℕ) (v : Verb) (a : Answer) → IsWordsKept c events room l ws fs
    → Allowed c r (part r (history events)) v → slice_get fs r ≡ Some f → IsMade l r v ws f a new g → left + 1 ≡ room
    → IsWordsKept c (events ++ (record { by = r; verb = v; answer = a }) ∷ []) left l new (set fs r g)
kept_next c events room left l ws new fs f g r v a kept may there made less =
    let past = history events in
    let e : Event = record { by = r; verb = v; answer = a } in
    let it = ready c events room l ws fs f r v kept may there in
    let answer = it.answer a new g made in
    let longer : e ∷ past ≡ history (events ++ e ∷ []) = sym (reverse-append events (e ∷ [])) in
    record {
      given = kept.given;
      laid_out = kept.laid_out;
      legal = subst (λ es. IsLegalHistory c es) longer (kept.legal, record { allowed = may; answer = answer });
      room_left = (let long = length-append events (e ∷ []) in let was = kept.room_left in omega (arith, long, was, less));
      all_words = (it.words a new g made).1 ∙ kept.all_words;
      stands = subst (λ b. Stands c l (events ++ (record { by = r; verb = v; answer = b }) ∷ []) (slice_index new)) (sym answer) (it.words a new g made).0;
      all_founds = length-set fs r g ∙ kept.all_founds;
      holds = subst (λ es. HoldsFounds c es (set fs r g)) longer (holds_next c past fs g e kept.holds (it.founds a new g made));
    }
