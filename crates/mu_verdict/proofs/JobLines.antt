-- The lines of the job, and those after them, while they are taken.
use Rattle.std.proofs.Common.{◌≡◌, ℕ, ◌+◌, Bool, true, false, List, [], ◌∷◌, ◌++◌, length, sym, ap, ◌∙◌, arith, append_assoc}
use Rattle.std.specs.Prelude.{codes, if◌then◌else◌}
use Rattle.std.specs.Str.{bytes_eq}
use Rattle.mu_verdict.specs.Traces.{job_lines, later_lines}
use Rattle.mu_text.specs.Lines.{Left, ended}
use Rattle.mu_text.specs.declared.TheConstants.{LINE_FEED}

-- these bytes were taken of the job's lines, and the others are left
pub record Splits (old : Left) (bytes : List ℕ) (now : Left) : Type 0 where
  pub bytes_are : ended (job_lines old.lines) ≡ bytes ++ ended (job_lines now.lines)
  pub later : later_lines old.lines ≡ later_lines now.lines
  pub number : old.number + length (job_lines old.lines) ≡ now.number + length (job_lines now.lines)

-- a line more
line_joined : (bytes line rest : List ℕ) → bytes ++ (line ++ LINE_FEED ∷ rest) ≡ ((bytes ++ line) ++ LINE_FEED ∷ []) ++ rest
line_joined bytes line rest = sym (append_assoc (bytes ++ line) (LINE_FEED ∷ []) rest ∙ append_assoc bytes line (LINE_FEED ∷ rest))

pub splits_on : (old now next : Left) (bytes line : List ℕ) → bytes_eq line (codes "end") ≡ false → now.lines ≡ line ∷ next.lines → next.number ≡ now.number + 1 → Splits old bytes now
    → Splits old ((bytes ++ line) ++ LINE_FEED ∷ []) next
splits_on old now next bytes line other is count held = go (bytes_eq line (codes "end")) other
    (held.bytes_are ∙ ap (λ l. bytes ++ ended (job_lines l)) is) (held.later ∙ ap later_lines is) (held.number ∙ ap (λ l. now.number + length (job_lines l)) is)
  where
    go : (t : Bool) → t ≡ false → ended (job_lines old.lines) ≡ bytes ++ ended (if t then line ∷ [] else line ∷ job_lines next.lines)
        → later_lines old.lines ≡ (if t then next.lines else later_lines next.lines)
        → old.number + length (job_lines old.lines) ≡ now.number + length (if t then line ∷ [] else line ∷ job_lines next.lines)
        → Splits old ((bytes ++ line) ++ LINE_FEED ∷ []) next
    go true clash b l n = cc
    go false other' b l n = record {
      bytes_are = b ∙ line_joined bytes line (ended (job_lines next.lines));
      later = l;
      number = omega (arith, n, count);
    }
