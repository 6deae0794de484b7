-- What the reads of the beats of others in a row come to, with one more step.
use Rattle.std.proofs.Common.{◌≡◌, ◌≢◌, ◌∷◌, ℕ, List, None, refl}
use Rattle.std.proofs.lemmas.Bool.{ne_eqb}
use Rattle.mu_rest.specs.declared.sign.Sign.{Sign}
use Rattle.mu_rest.specs.declared.silences.Reads.{Reads}
use Rattle.mu_rest.specs.Silences.{HoldsReads, beats_found}

-- a step that finds no count of beats of q leaves what the reads of these have come to
pub reads_kept : (q : ℕ) (signs : List Sign) (s : Sign) (reads : Reads) → beats_found q s ≡ None → HoldsReads q signs reads → HoldsReads q (s ∷ signs) reads
reads_kept q signs s reads none held beats = rw none (held beats)

-- a read of the beats of p finds none of those of another
pub found_of_other : (p q x : ℕ) → p ≢ q → beats_found q (Sign.Beats p x) ≡ None
found_of_other p q x other = rw (ne_eqb p q other) refl
