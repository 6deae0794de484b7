-- The bytes that are held, taken byte by byte: a line with its end stays among them up to its end.
use Rattle.std.proofs.Common.{◌≡◌, ◌≢◌, ◌∙◌, ℕ, List, [], ◌∷◌, ◌++◌, Some, Ok, ap, subst, sym}
use Rattle.std.specs.declared.option.Option.{Option}
use Rattle.std.specs.declared.result.Result.{Result}
use Rattle.mu_io.specs.declared.whole.ReadEnd.{ReadEnd}
use Rattle.mu_text.specs.declared.TheConstants.{LINE_FEED}
use Rattle.mu_serve.specs.Incoming.{HasWholeLine}

-- what taking a byte says if some are held
abbrev TakesHeld : List ℕ → List ℕ → Result (Option ℕ) ReadEnd → Type 0 → Type 0
TakesHeld before after answer same =
    (byte : ℕ) → (more : List ℕ) → before ≡ byte ∷ more → (answer ≡ Ok (Some byte)) × (after ≡ more) × same

first_of : (front back held : List ℕ) → held ≡ front ++ LINE_FEED ∷ back → (byte : ℕ) × (more : List ℕ) × (held ≡ byte ∷ more)
first_of [] back held is = (LINE_FEED, back, is)
first_of (byte ∷ front) back held is = (byte, front ++ LINE_FEED ∷ back, is)

same_head : (x y : ℕ) (xs ys : List ℕ) → x ∷ xs ≡ y ∷ ys → x ≡ y
same_head x y xs ys is = cc

same_tail : (x y : ℕ) (xs ys : List ℕ) → x ∷ xs ≡ y ∷ ys → xs ≡ ys
same_tail x y xs ys is = cc

-- the answer that has a byte
abbrev answered : ℕ → Result (Option ℕ) ReadEnd
answered byte = Ok (Some byte)

same_byte : (x y : ℕ) → answered x ≡ answered y → x ≡ y
same_byte x y is = cc

rest_of : (front back : List ℕ) (byte : ℕ) (more : List ℕ) → byte ∷ more ≡ front ++ LINE_FEED ∷ back → byte ≢ LINE_FEED → HasWholeLine more
rest_of [] back byte more is inner = absurd (inner (same_head byte LINE_FEED more back is))
rest_of (b ∷ front) back byte more is inner = record { front = front; back = back; is = same_tail byte b more (front ++ LINE_FEED ∷ back) is }

-- while a line with its end is held, taking a byte touches nothing else
pub whole_untouched : (before after : List ℕ) (answer : Result (Option ℕ) ReadEnd) (same : Type 0) → TakesHeld before after answer same → HasWholeLine before → same
whole_untouched before after answer same takes whole =
    let first = first_of whole.front whole.back before whole.is in
    (takes first.0 first.1 first.2).2

-- and behind a byte in the line it is held still
pub whole_behind : (before after : List ℕ) (byte : ℕ) (same : Type 0) → TakesHeld before after (Ok (Some byte)) same → byte ≢ LINE_FEED → HasWholeLine before → HasWholeLine after
whole_behind before after byte same takes inner whole =
    let first = first_of whole.front whole.back before whole.is in
    let taken = takes first.0 first.1 first.2 in
    let is = same_byte byte first.0 taken.0 in
    subst HasWholeLine (sym taken.1)
    (rest_of whole.front whole.back first.0 first.1 (sym first.2 ∙ whole.is) (λ feed. inner (is ∙ feed)))

-- the first byte that was held was taken
pub first_held : (before after : List ℕ) (byte : ℕ) (same : Type 0) → before ≡ byte ∷ after → same → TakesHeld before after (Ok (Some byte)) same
first_held before after byte same is kept b more there =
    let lists = sym is ∙ there in
    (ap answered (same_head byte b after more lists), same_tail byte b after more lists, kept)
