-- What a place shows of a log, after one entry was added or set.
use Rattle.std.proofs.Common.{◌≡◌, ℕ, zero, suc, ◌%◌, ◌<◌, Bool, true, false, cond, ◌==◌, List, [], ◌∷◌, ◌++◌, refl, sym, ◌∙◌, ap, arith, eqb-true, length, set, length-set}
use Rattle.std.specs.List.{slice_get}
use Rattle.std.proofs.lemmas.Bool.{false_from_ne_true}
use Rattle.mu_model.proofs.Lists.{get_push_other, get_set_other}
use Rattle.mu_agree.proofs.Slots.{put_in'}
use Rattle.mu_words.specs.Standing.{entry_fields, place_fields_below, place_fields}

-- a log with one more entry is longer by one
pub length_added : (log : List (ℕ × ℕ)) (z : ℕ × ℕ) → length (log ++ z ∷ []) ≡ suc (length log)
length_added [] z = refl
length_added (x ∷ log) z = ap suc (length_added log z)

-- two logs that agree at the place s below k show the same there
pub shown_alike : (ring s : ℕ) (log other : List (ℕ × ℕ)) (k : ℕ) → ((j : ℕ) → j < k → j % ring ≡ s → slice_get log j ≡ slice_get other j) → place_fields_below ring s log k ≡ place_fields_below ring s other k
shown_alike ring s log other zero f = refl
shown_alike ring s log other (suc k) f = go (k % ring == s) refl (shown_alike ring s log other k (λ j l. f j (omega arith)))
  where
    go : (t : Bool) → (k % ring == s) ≡ t → place_fields_below ring s log k ≡ place_fields_below ring s other k → cond t (entry_fields ring k (slice_get log k)) (place_fields_below ring s log k) ≡ cond t (entry_fields ring k (slice_get other k)) (place_fields_below ring s other k)
    go true h ih = ap (entry_fields ring k) (f k (omega arith) (eqb-true (k % ring) s h))
    go false h ih = ih

-- a put at another place changes nothing at s
pub shown_elsewhere : (ring s : ℕ) (log : List (ℕ × ℕ)) (i : ℕ) (z : ℕ × ℕ) → (i % ring ≡ s → ⊥) → place_fields ring s (put_in' log i z) ≡ place_fields ring s log
shown_elsewhere ring s log i z d = go (i == length log) refl
  where
    go : (t : Bool) → (i == length log) ≡ t → place_fields ring s (cond t (log ++ z ∷ []) (set log i z)) ≡ place_fields ring s log
    go true h =
        let e : length log % ring ≡ s → ⊥ = λ k. d (ap (λ x. x % ring) (eqb-true i (length log) h) ∙ k) in
        ap (place_fields_below ring s (log ++ z ∷ [])) (length_added log z)
        ∙ ap (λ t. cond t (entry_fields ring (length log) (slice_get (log ++ z ∷ []) (length log))) (place_fields_below ring s (log ++ z ∷ []) (length log))) (false_from_ne_true (length log % ring == s) (λ k. e (eqb-true (length log % ring) s k)))
        ∙ shown_alike ring s (log ++ z ∷ []) log (length log) (λ j l m. get_push_other log j z (λ e. omega (arith, e, l)))
    go false h =
        ap (place_fields_below ring s (set log i z)) (length-set log i z)
        ∙ shown_alike ring s (set log i z) log (length log) (λ j l m. get_set_other log j i z (λ e. d (ap (λ x. x % ring) (sym e) ∙ m)))
