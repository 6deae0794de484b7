-- The counts of a leader while rows are written.
use Rattle.std.proofs.Common.{◌≡◌, ℕ, zero, suc, ◌+◌, ◌*◌, ◌<◌, ◌≤◌, inl, inr, true, false, List, ◌∷◌, get_or, refl, sym, ◌∙◌, ap, arith, subst, true≢false}
use Rattle.std.specs.Prelude.{nat_lt}
use Rattle.std.proofs.lemmas.Bool.{cases_lt, lt-ltb}
use Rattle.mu_model.specs.declared.config.Config.{Config}
use Rattle.mu_model.specs.declared.event.Answer.{Answer}
use Rattle.mu_model.specs.declared.event.Event.{Event}
use Rattle.mu_model.specs.declared.event.Verb.{Verb}
use Rattle.mu_model.specs.Bounds.{members}
use Rattle.mu_model.specs.Contents.{IsConfig}
use Rattle.mu_model.specs.Stretches.{is_replication}
use Rattle.mu_model.specs.Histories.{event_by}
use Rattle.mu_pace.specs.Asking.{far}
use Rattle.mu_pace.specs.Weights.{IsPlace, Sizes, Stage, at_slot, at_writing, last_word, next_word}
use Rattle.mu_lively.specs.Rooms.{IsLed, sizes_of, words_left}
use Rattle.mu_lively.proofs.RoomsQuiet.{silent_verbs_are_silent, steps_on}

-- the words of rows that are the same
pub words_same : (written written' : List ℕ) (j rows : ℕ) → ((i : ℕ) → j ≤ i → i < j + rows → get_or written' i 12 ≡ get_or written i 12) → words_left written' j rows ≡ words_left written j rows
words_same written written' j zero same = refl
words_same written written' j (suc rows) same =
    let here = same j (omega arith) (omega arith) in
    let rest = words_same written written' (j + 1) rows (λ i from to. same i (omega arith) (omega arith)) in
    rw (here, rest) refl

-- one word more is written
pub one_word : (written written' : List ℕ) (j rows : ℕ) → 1 ≤ rows → get_or written j 12 < 12 → get_or written' j 12 ≡ get_or written j 12 + 1 → ((i : ℕ) → j < i → i < j + rows → get_or written' i 12 ≡ get_or written i 12)
    → words_left written j rows ≡ words_left written' j rows + 1
one_word written written' j zero some low more same = absurd (omega arith)
one_word written written' j (suc rows) some low more same =
    let rest = words_same written written' (j + 1) rows (λ i from to. same i (omega arith) (omega arith)) in
    omega (arith, low, more, rest)

-- a row that isn't full has some words left
pub some_words : (written : List ℕ) (j rows : ℕ) → 1 ≤ rows → get_or written j 12 < 12 → 1 ≤ words_left written j rows
some_words written j zero some low = some
some_words written j (suc rows) some low = omega (arith, low)

is_full : (x : ℕ) → nat_lt x 12 ≡ false → 12 ≤ x
is_full x h = elim (cases_lt x 12) [ inl low ↦ absurd (true≢false (sym (lt-ltb x 12 low) ∙ h)) | inr high ↦ high ]

-- full rows have none
pub skip_full : (written : List ℕ) (d first j rows all : ℕ) → j ≡ first + d → all ≡ d + rows → ((k : ℕ) → first ≤ k → k < j → nat_lt (get_or written k 12) 12 ≡ false) → words_left written first all ≡ words_left written j rows
skip_full written zero first j rows all is long full =
    let same : first ≡ j = omega (arith, is) in
    let count : all ≡ rows = omega (arith, long) in
    subst (λ x. words_left written first all ≡ words_left written x rows) same (ap (words_left written first) count)
skip_full written (suc d) first j rows zero is long full = absurd (omega (arith, long))
skip_full written (suc d) first j rows (suc all) is long full =
    let rest = skip_full written d (first + 1) j rows all (omega (arith, is)) (omega (arith, long)) (λ k from to. full k (omega arith) to) in
    let here = is_full (get_or written first 12) (full first (omega arith) (omega (arith, is))) in
    omega (arith, here, rest)

-- rows have no more words than twelve each
pub words_few : (written : List ℕ) (j rows : ℕ) → words_left written j rows ≤ 12 * rows
words_few written j zero = omega arith
words_few written j (suc rows) = let less = words_few written (j + 1) rows in omega (arith, less)

-- a batch has no more words than its rows
few_words : (s : Sizes) (words : ℕ) → IsPlace s (Stage.Write words) → words ≤ 12 * s.width
few_words s words (at_writing w low high) = high

-- a word was written: the next one is, or the offer is put
pub rooms_next_word : (c : Config) (r j k x words left : ℕ) (mine : List Event) → IsConfig c → is_replication mine (event_by r (Verb.WriteRow j k x) Answer.Done) ≡ true → words ≡ left + 1 → 1 ≤ left → IsLed c r mine (Stage.Write words)
    → IsLed c r (event_by r (Verb.WriteRow j k x) Answer.Done ∷ mine) (Stage.Write left)
rooms_next_word c r j k x words left mine is turn one some at =
    let few = few_words (sizes_of c r mine) words at.placed.place in
    let low : left ≤ 12 * c.width = omega (arith, few, one) in
    record {
      read = at.read;
      placed = steps_on c r (Stage.Write (left + 1)) (Stage.Write left) mine (event_by r (Verb.WriteRow j k x) Answer.Done) is turn (silent_verbs_are_silent c r mine r (Verb.WriteRow j k x) Answer.Done refl) (subst (λ w. IsLed c r mine (Stage.Write w)) one at).placed (next_word left) (at_writing left some low)
          (λ q less stranger. inl (far (Stage.Write (left + 1)) (Stage.Write left) (next_word left) refl refl)) (λ level. inl refl);
    }

pub rooms_last_word : (c : Config) (r j k x words m : ℕ) (mine : List Event) → IsConfig c → is_replication mine (event_by r (Verb.WriteRow j k x) Answer.Done) ≡ true → 1 ≤ words → 1 ≤ m → m ≤ members c r mine → IsLed c r mine (Stage.Write words)
    → IsLed c r (event_by r (Verb.WriteRow j k x) Answer.Done ∷ mine) (Stage.EnterAt m)
rooms_last_word c r j k x words m mine is turn some one few at = record {
  read = at.read;
  placed = steps_on c r (Stage.Write words) (Stage.EnterAt m) mine (event_by r (Verb.WriteRow j k x) Answer.Done) is turn (silent_verbs_are_silent c r mine r (Verb.WriteRow j k x) Answer.Done refl) at.placed (last_word words m some few) (at_slot m one few)
      (λ q less stranger. inl (far (Stage.Write words) (Stage.EnterAt m) (last_word words m some few) refl refl)) (λ level. inl refl);
}
