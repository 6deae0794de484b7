-- The parts of a list and of its history.
use Rattle.std.proofs.Common.{◌≡◌, ℕ, Bool, true, false, List, [], ◌∷◌, ◌++◌, refl, sym, ap, ◌∙◌, ◌==◌, append-nil}
use Rattle.std.proofs.lemmas.List.{reverse-append}
use Rattle.std.specs.Prelude.{reverse}
use Rattle.std.specs.List.{filter}
use Rattle.mu_model.specs.declared.event.Event.{Event}
use Rattle.mu_model.specs.declared.config.Config.{Config}
use Rattle.mu_model.specs.Histories.{history, part}
use Rattle.mu_model.specs.Legal.{IsLegalHistory}
use Rattle.mu_model.specs.Parts.{IsPossible}
use Rattle.mu_model.proofs.Basics.{same_number}

pub filter-append : {A : Type 0} (test : A → Bool) (xs ys : List A) → filter test (xs ++ ys) ≡ filter test xs ++ filter test ys
filter-append test [] ys = refl
filter-append test (x ∷ xs) ys = by_test (test x) refl (filter-append test xs ys)
  where
    by_test : (t : Bool) → test x ≡ t → filter test (xs ++ ys) ≡ filter test xs ++ filter test ys → filter test (x ∷ (xs ++ ys)) ≡ filter test (x ∷ xs) ++ filter test ys
    by_test true is rest = rw is (ap (λ l. x ∷ l) rest)
    by_test false is rest = rw is rest

pub filter-reverse : {A : Type 0} (test : A → Bool) (xs : List A) → filter test (reverse xs) ≡ reverse (filter test xs)
filter-reverse test [] = refl
filter-reverse test (x ∷ xs) = step ∙ by_test (test x) refl (filter-reverse test xs)
  where
    step : filter test (reverse (x ∷ xs)) ≡ filter test (reverse xs) ++ filter test (x ∷ [])
    step = ap (filter test) (reverse-append (x ∷ []) xs) ∙ filter-append test (reverse xs) (x ∷ [])

    by_test : (t : Bool) → test x ≡ t → filter test (reverse xs) ≡ reverse (filter test xs) → filter test (reverse xs) ++ filter test (x ∷ []) ≡ reverse (filter test (x ∷ xs))
    by_test true is rest =
        let here : filter test (x ∷ []) ≡ x ∷ [] = rw is refl in
        let more : x ∷ filter test xs ≡ filter test (x ∷ xs) = rw is refl in
        ap (λ l. l ++ filter test (x ∷ [])) rest ∙ ap (λ l. reverse (filter test xs) ++ l) here ∙ sym (reverse-append (x ∷ []) (filter test xs)) ∙ ap reverse more
    by_test false is rest =
        let here : filter test (x ∷ []) ≡ [] = rw is refl in
        let same : filter test xs ≡ filter test (x ∷ xs) = rw is refl in
        ap (λ l. l ++ filter test (x ∷ [])) rest ∙ ap (λ l. reverse (filter test xs) ++ l) here ∙ append-nil (reverse (filter test xs)) ∙ ap reverse same

-- the history of a part is the part of the history
pub history-part : (r : ℕ) (events : List Event) → history (part r events) ≡ part r (history events)
history-part r events = sym (filter-reverse (λ e. e.by == r) events)

-- the part of the replica that made the newest event
pub part_of_maker : (e : Event) (past : List Event) → part e.by (e ∷ past) ≡ e ∷ part e.by past
part_of_maker e past = rw (same_number e.by) refl

-- a part of a legal history is possible
pub part_is_possible : (c : Config) (r : ℕ) (past : List Event) → IsLegalHistory c past → IsPossible c r (part r past)
part_is_possible c r past legal = record { past = past; legal = legal; is = refl }

-- and so is that of who made the newest event
pub possible_for_maker : (c : Config) (e : Event) (past : List Event) → IsLegalHistory c (e ∷ past) → IsPossible c e.by (e ∷ part e.by past)
possible_for_maker c e past legal = record { past = e ∷ past; legal = legal; is = part_of_maker e past }
