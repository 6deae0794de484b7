-- What a slice of events that ends at the last one read is, after one more.
use Rattle.std.proofs.Common.{◌≡◌, ℕ, suc, ◌+◌, ◌-◌, ◌<◌, ◌≤◌, List, [], ◌∷◌, ◌++◌, ◌∙◌, ap, arith, length, take, drop, get_or, sym}
use Rattle.std.proofs.lemmas.List.{drop-append-le, length-drop, length-take, length-take-le, reverse-append, take_more}
use Rattle.std.proofs.Math.Seq.{take-length}
use Rattle.std.proofs.Math.ListN.{drop_of_length-le}
use mathlib.Core.List.{reverse}
use Rattle.mu_model.specs.declared.event.Event.{Event}
use Rattle.mu_model.specs.Histories.{history}

-- the newest event of the slice is the one more
pub one_more : (xs : List Event) (from i : ℕ) (e : Event) → i < length xs → from ≤ i → e ≡ get_or xs i e → history (drop from (take (i + 1) xs)) ≡ e ∷ history (drop from (take i xs))
one_more xs from i e h l is =
    let few : from ≤ length (take i xs) = (let n = length-take-le i xs (omega arith) in omega (arith, n)) in
    ap (λ ys. history (drop from ys)) (take_more xs i e h)
    ∙ ap history (drop-append-le from (take i xs) (get_or xs i e ∷ []) few)
    ∙ reverse-append (drop from (take i xs)) (get_or xs i e ∷ [])
    ∙ ap (λ x. x ∷ history (drop from (take i xs))) (sym is)

-- nothing of what was read is left
pub none_left : (xs : List Event) (i : ℕ) → history (drop (i + 1) (take (i + 1) xs)) ≡ []
none_left xs i = ap history (drop_of_length-le (take (i + 1) xs) (let n = length-take (i + 1) xs in omega (arith, n)))

-- what is left of all that were read is what stands from there on
pub all_left : (xs : List Event) (from : ℕ) → history (take (length xs - from) (drop from xs)) ≡ history (drop from (take (length xs) xs))
all_left xs from =
    ap history
    (ap (λ n. take n (drop from xs)) (sym (length-drop from xs)) ∙ take-length (drop from xs) ∙ ap (drop from) (sym (take-length xs)))

pub ruleset slice_steps = (one_more, none_left, all_left)
