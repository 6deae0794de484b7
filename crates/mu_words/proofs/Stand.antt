-- One step on the words of a table.
use Rattle.std.proofs.Common.{slice_index, length, set, get_or, ◌≡◌, ℕ, ◌<◌, Bool, true, false, cond, ◌==◌, List, [], ◌∷◌, ◌++◌, refl, sym, ◌∙◌, ap, subst, eqb-true}
use Rattle.std.proofs.lemmas.List.{reverse-append, get_or-set_same, get_or-set_other}
use Rattle.std.proofs.lemmas.Bool.{eqb-false}
use Rattle.mu_model.specs.declared.config.Config.{Config}
use Rattle.mu_model.specs.declared.event.Event.{Event}
use Rattle.mu_model.specs.Histories.{history, part}
use Rattle.mu_words.specs.declared.layout.Layout.{Layout}
use Rattle.mu_words.specs.declared.layout.Name.{Name}
use Rattle.mu_words.specs.Places.{IsName, place_of}
use Rattle.mu_words.specs.Standing.{standing_word}
use Rattle.mu_words.specs.Finding.{name_of}
use Rattle.mu_words.specs.Steps.{event_of}
use Rattle.mu_words.specs.Stands.{FirstWords, IsStepOn, Stands, WordsAreUnique, WordsStand, set_word, step_expects}
use Rattle.mu_words.specs.Verbs.{WordFits, answer_from, word_after}
use Rattle.mu_words.proofs.Law.{place_named, word_steps_law}
use Rattle.mu_words.proofs.Limits.{config_is_limited}
use Rattle.mu_words.proofs.Places.{places_differ_law, every_place}
use Rattle.mu_words.proofs.Fitting.{verb_fits, word_fits}

pub longer : (events : List Event) (e : Event) → history (events ++ e ∷ []) ≡ e ∷ history events
longer events e = reverse-append events (e ∷ [])

set_cases : (c : Config) (l : Layout) (words : ℕ → ℕ) (n m : Name) (now was after : ℕ) → IsName l n → IsName l m
    → (n ≡ m → now ≡ after) → ((n ≡ m → ⊥) → now ≡ was) → words (place_of l n) ≡ was → set_word words (place_of l m) after (place_of l n) ≡ now
set_cases c l words n m now was after h g f k s = go (place_of l n == place_of l m) refl
  where
    go : (t : Bool) → (place_of l n == place_of l m) ≡ t → cond t after (words (place_of l n)) ≡ now
    go true e = sym (f (places_differ_law l n m h g (eqb-true (place_of l n) (place_of l m) e)))
    go false e = s ∙ sym (k (λ i. eqb-false (place_of l n) (place_of l m) e (ap (place_of l) i)))

pub words_stand_law : WordsStand
words_stand_law c l events r v words is f legal may st =
    let past = history events in
    let n = name_of c r (part r past) v in
    let x = step_expects c events r v in
    let li = config_is_limited c is in
    let named = place_named c l past r v li f legal may in
    let law = word_steps_law c r past v is legal may in
    let e = event_of c r past v in
    let found = st n named in
    let step : IsStepOn c l events r v words (place_of l n) x = record {
      verb_fits = verb_fits c past r v li legal may;
      word_fits = subst (WordFits v) (sym found) (word_fits c past r v li legal may);
      answer = ap (answer_from c.ring v x) found ∙ law.answer;
      stands = λ m h. subst (λ z. set_word words (place_of l n) (word_after c.ring v x (words (place_of l n))) (place_of l m) ≡ standing_word c z m) (sym (longer events e))
          (set_cases c l words m n (standing_word c (e ∷ past) m) (standing_word c past m) (word_after c.ring v x (words (place_of l n))) h named
          (λ i. ap (standing_word c (e ∷ past)) i ∙ law.here ∙ ap (word_after c.ring v x) (sym found)) (law.others m) (st m h));
    } in
    record { named = named; is = step }

-- one list of words stands for a list of events
pub words_are_unique_law : WordsAreUnique
words_are_unique_law c l events words other s t i h =
    let n = every_place l i h in
    ap words (sym n.at) ∙ s n.name n.is_name ∙ sym (t n.name n.is_name) ∙ ap other n.at

-- the same for a list of words if one of them is written
written : (ws : List ℕ) (i w j : ℕ) → i < length ws → slice_index (set ws i w) j ≡ set_word (slice_index ws) i w j
written ws i w j h = go (j == i) refl
  where
    go : (t : Bool) → (j == i) ≡ t → get_or (set ws i w) j 0 ≡ cond t w (slice_index ws j)
    go true e = ap (λ z. get_or (set ws i w) z 0) (eqb-true j i e) ∙ get_or-set_same ws i w 0 h
    go false e = get_or-set_other ws i j w 0 (eqb-false j i e)

pub stands_written : (c : Config) (l : Layout) (events : List Event) (ws : List ℕ) (i w : ℕ) → i < length ws → Stands c l events (set_word (slice_index ws) i w) → Stands c l events (slice_index (set ws i w))
stands_written c l events ws i w h s n m = written ws i w (place_of l n) h ∙ s n m

-- the words before any event
pub first_words_law : FirstWords
first_words_law c (Name.Fence p) = refl
first_words_law c n = refl
