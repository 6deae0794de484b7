-- Facts about what lines begin with, part by part.
use Rattle.std.proofs.Common.{◌≡◌, ℕ, List, [], ◌∷◌, ap, subst, ◌∙◌}
use Rattle.std.specs.Bool.{⊤}
use Rattle.mu_text.specs.Lines.{Left}
use Rattle.mu_input.specs.Readings.{Front, Begins, Breaks, Fits, followed, whole, whole_from}

-- what the lines begin with, if they do, is so
abbrev pub Gives : {A : Type 0} → (A → Type 0) → Front A → Type 0
Gives P (Begins a left) = P a
Gives P (Breaks line cause) = ⊤

pub gives_followed : {A B : Type 0} (P : B → Type 0) (Q : A → Type 0) (front : Front A) (next : A → Left → Front B) → Gives Q front → ((a : A) (left : Left) → Q a → Gives P (next a left)) → Gives P (followed front next)
gives_followed P Q (Begins a left) next given on = on a left given
gives_followed P Q (Breaks line cause) next given on = tt

pub gives_always : {A : Type 0} (front : Front A) → Gives (λ _. ⊤) front
gives_always (Begins a left) = tt
gives_always (Breaks line cause) = tt

-- and so is what all lines are
pub fits_whole : {A : Type 0} (P : A → Type 0) (front : Front A) (a : A) → Gives P front → whole front ≡ Fits a → P a
fits_whole P (Begins b left) a given is = at_end left.number left.lines is
  where
    at_end : (number : ℕ) (lines : List (List ℕ)) → whole_from b number lines ≡ Fits a → P a
    at_end number [] is = let same : b ≡ a = cc in subst P same given
    at_end number (line ∷ lines) is = cc
fits_whole P (Breaks line cause) a given is = cc

-- something at the front, and then something else
pub followed_by : {A B : Type 0} (front : Front A) (next : A → Left → Front B) (a : A) (left : Left) (told : Front B) → front ≡ Begins a left → next a left ≡ told → followed front next ≡ told
followed_by front next a left told first rest = ap (λ front. followed front next) first ∙ rest
