-- How the words of a request are read one by one.
use Rattle.std.proofs.Common.{◌≡◌, ℕ, suc, ◌+◌, ◌-◌, ◌<◌, List, [], ◌∷◌, ◌++◌, Ok, Err, refl, sym, ap, ◌∙◌, append_assoc, arith}
use Rattle.mu_resp.specs.Readings.{◌>>=◌, Reading, bulk_at, bulks_at, onto}

pub onto_onto : (a b : List (List ℕ)) (r : Reading (List (List ℕ))) → onto a (onto b r) ≡ onto (a ++ b) r
onto_onto a b (Ok x) = ap (λ words. Ok (words, x.1)) (sym (append_assoc a b x.0))
onto_onto a b (Err e) = refl

-- one more word is read
pub bulks-next : (count k : ℕ) (front : List (List ℕ)) (rest word more : List ℕ) → k < count → bulk_at rest ≡ Ok (word, more)
    → onto front (bulks_at (count - k) rest) ≡ onto (front ++ word ∷ []) (bulks_at (count - (k + 1)) more)
bulks-next count k front rest word more below found =
    let n : count - k ≡ suc (count - (k + 1)) = omega (arith, below) in
    ap (λ m. onto front (bulks_at m rest)) n
    ∙ ap (λ r. onto front (r >>= λ w. onto (w.0 ∷ []) (bulks_at (count - (k + 1)) w.1))) found
    ∙ onto_onto front (word ∷ []) (bulks_at (count - (k + 1)) more)
