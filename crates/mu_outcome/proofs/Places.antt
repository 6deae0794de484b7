-- What stands at an index of a list, and in the histories of its first items.
use Rattle.std.proofs.Common.{List, [], ◌∷◌, ◌++◌, Some, ℕ, zero, suc, ◌+◌, ◌<◌, ◌≤◌, ◌≡◌, refl, sym, ap, ◌∙◌, arith, length, take, drop, append_assoc, get_or, subst}
use Rattle.std.specs.List.{slice_get}
use Rattle.std.proofs.lemmas.List.{reverse-append}
use Rattle.mu_model.specs.declared.config.Config.{Config}
use Rattle.mu_model.specs.declared.event.Event.{Event}
use Rattle.mu_model.specs.Histories.{history}
use Rattle.mu_model.specs.Legal.{IsLegal, IsLegalHistory}
use Rattle.mu_agree.proofs.Legal.{legal_older}
use Rattle.std.proofs.lemmas.Option.{slice_get-get_or, slice_get_within, get_or_from_slice_get}
use Rattle.mu_model.proofs.Scans.{history_more}

-- a list around the item at i
pub split_at : {X : Type 0} (xs : List X) (i : ℕ) (x : X) → slice_get xs i ≡ Some x → xs ≡ take i xs ++ (x ∷ drop (suc i) xs)
split_at [] i x is = cc
split_at (y ∷ xs) zero x is = let same : y ≡ x = cc in ap (λ z. z ∷ xs) same
split_at (y ∷ xs) (suc i) x is = ap (λ l. y ∷ l) (split_at xs i x is)

pub slice_get-take : {X : Type 0} (xs : List X) (n i : ℕ) → i < n → slice_get (take n xs) i ≡ slice_get xs i
slice_get-take [] zero i l = refl
slice_get-take [] (suc n) i l = refl
slice_get-take (x ∷ xs) zero i l = absurd (omega arith)
slice_get-take (x ∷ xs) (suc n) zero l = refl
slice_get-take (x ∷ xs) (suc n) (suc i) l = slice_get-take xs n i (omega arith)

pub take-take : {X : Type 0} (xs : List X) (n i : ℕ) → i ≤ n → take i (take n xs) ≡ take i xs
take-take [] zero zero l = refl
take-take [] zero (suc i) l = refl
take-take [] (suc n) zero l = refl
take-take [] (suc n) (suc i) l = refl
take-take (x ∷ xs) zero zero l = refl
take-take (x ∷ xs) zero (suc i) l = absurd (omega arith)
take-take (x ∷ xs) (suc n) zero l = refl
take-take (x ∷ xs) (suc n) (suc i) l = ap (λ t. x ∷ t) (take-take xs n i (omega arith))

-- a history around the event at i
pub history_at : (events : List Event) (i : ℕ) (e : Event) → slice_get events i ≡ Some e → history events ≡ history (drop (suc i) events) ++ (e ∷ history (take i events))
history_at events i e is =
    ap history (split_at events i e is)
    ∙ reverse-append (take i events) (e ∷ drop (suc i) events)
    ∙ ap (λ l. l ++ history (take i events)) (reverse-append (e ∷ []) (drop (suc i) events))
    ∙ append_assoc (history (drop (suc i) events)) (e ∷ []) (history (take i events))

-- the history of one event more
pub history_next : (events : List Event) (i : ℕ) (e : Event) → slice_get events i ≡ Some e → history (take (i + 1) events) ≡ e ∷ history (take i events)
history_next events i e is = history_more events i e (slice_get_within events i e is) (sym (get_or_from_slice_get events i e e is))

-- what is read at an index stands there
pub read_there : (events : List Event) (i : ℕ) (d : Event) → i < length events → slice_get events i ≡ Some (get_or events i d)
read_there events i d l = slice_get-get_or events i d l

-- the history of one event more, which is read at the index
pub history_at_next : (events : List Event) (i : ℕ) (d : Event) → i < length events → history (take (i + 1) events) ≡ get_or events i d ∷ history (take i events)
history_at_next events i d l = history_next events i (get_or events i d) (read_there events i d l)

-- the event at an index of a legal list may come after those before it
pub legal_there : (c : Config) (events : List Event) (i : ℕ) (d : Event) → IsLegal c events → i < length events → IsLegalHistory c (get_or events i d ∷ history (take i events))
legal_there c events i d legal low =
    legal_older c (history (drop (suc i) events)) (get_or events i d ∷ history (take i events))
    (subst (λ l. IsLegalHistory c l) (history_at events i (get_or events i d) (read_there events i d low)) legal)
