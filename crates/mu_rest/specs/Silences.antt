-- silence: how many reads of another's beats in a row, up to the last step, found no new one. Signs
-- stand newest first.
use Rattle.std.specs.Prelude.{List, None, Some, [], if◌then◌else◌, min, suc, ℕ, ◌==◌, ◌∷◌, ◌≡◌}
use Rattle.std.specs.List.{slice_get}
use Rattle.std.specs.declared.option.Option.{Option}
use Rattle.mu_rest.specs.declared.sign.Sign.{Sign}
use Rattle.mu_rest.specs.declared.silences.Reads.{Reads}
use Rattle.mu_rest.specs.declared.silences.Silences.{Silences}

-- the count that a read of the beats of q found
abbrev pub beats_found : ℕ → Sign → Option ℕ
beats_found q (Sign.Beats p x) = if p == q then Some x else None
beats_found q _ = None

-- one more in a row, if this count was found; none, if another one was
abbrev pub in_a_row : ℕ → Option ℕ → ℕ → ℕ
in_a_row beats None before = before
in_a_row beats (Some x) before = if x == beats then suc before else 0

-- how many of the last reads of the beats of q, in a row, found this count
abbrev pub reads_of : ℕ → ℕ → List Sign → ℕ
reads_of q beats [] = 0
reads_of q beats (s ∷ past) = in_a_row beats (beats_found q s) (reads_of q beats past)

-- the silence that a step shows: the reads in a row before it that found what it found, up to 15
abbrev pub silence_after : Sign → List Sign → ℕ
silence_after (Sign.Beats q x) past = min 15 (reads_of q x past)
silence_after _ past = 0

-- the silence that the last step shows
abbrev pub silence : List Sign → ℕ
silence [] = 0
silence (s ∷ past) = silence_after s past

-- the reads stand for those of the beats of q: how many of the last, in a row, found a count
abbrev pub HoldsReads : ℕ → List Sign → Reads → Type 0
HoldsReads q signs reads =
    (beats : ℕ) → min 15 (reads_of q beats signs)
    ≡ (if reads.beats == beats then reads.times else 0)

-- the same of every replica
abbrev pub HoldReads : List Sign → List Reads → Type 0
HoldReads signs all =
    (q : ℕ) (reads : Reads) → slice_get all q ≡ Some reads → HoldsReads q signs reads

-- the state stands for these signs
pub record StandsForSilences (signs : List Sign) (state : Silences) : Type 0 where
  pub reads : HoldReads signs state.reads
  pub shown : state.shown ≡ silence signs
