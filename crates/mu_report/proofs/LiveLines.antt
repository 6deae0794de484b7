-- The lines of readers, taken from the front, and how many they are.
use Rattle.std.proofs.Common.{◌≡◌, ℕ, suc, ◌+◌, ◌*◌, ◌<◌, ◌≤◌, ◌^◌, List, [], ◌∷◌, ◌++◌, sym, ap, ◌∙◌, length, drop, get_or, arith, length-append, All}
use Rattle.std.specs.Fmt.{decimal}
use Rattle.std.specs.Prelude.{codes}
use Rattle.std.proofs.lemmas.List.{drop_more, length-drop, length-map}
use Rattle.mu_outcome.specs.declared.outcome.Outcome.{Outcome}
use Rattle.mu_outcome.specs.Outcomes.{status_of}
use Rattle.mu_report.specs.declared.line.TheConstants.{LINE_BYTES}
use Rattle.mu_report.specs.Lives.{lived_lines, reader_lines, readers_lines, sight_line, HasShortSights}
use Rattle.mu_report.specs.Report.{body_lines}
use Rattle.snap_reads.specs.declared.sight.Sight.{Sight}
use Rattle.snap_reads.specs.declared.watching.TheConstants.{GETS}

-- the lines of the next reader, and those of the others
pub readers_lines-drop : (lists : List (List Sight)) (i : ℕ) (next sights : List Sight) → i < length lists → next ≡ get_or lists i next → sights ≡ next
    → readers_lines i (drop i lists) ≡ reader_lines i sights ++ readers_lines (i + 1) (drop (i + 1) lists)
readers_lines-drop lists i next sights within is same =
    ap (readers_lines i) (drop_more lists i next within) ∙ ap (λ ss. reader_lines i ss ++ readers_lines (i + 1) (drop (i + 1) lists)) (sym (same ∙ is))

length-reader_lines : (reader : ℕ) (sights : List Sight) → length (reader_lines reader sights) ≤ 1 + length sights
length-reader_lines reader sights = omega (arith, length-map (drop GETS sights) sight_line, length-drop GETS sights)

length-readers_lines : (reader : ℕ) (lists : List (List Sight)) → All (λ sights. length sights < 2 ^ 32) lists → length (readers_lines reader lists) ≤ length lists * 2 ^ 32
length-readers_lines reader [] short = omega arith
length-readers_lines reader (sights ∷ lists) short =
    let first : length sights < 2 ^ 32 = short 0 [] (omega arith) in
    let rest : length (readers_lines (reader + 1) lists) ≤ length lists * 2 ^ 32 = length-readers_lines (reader + 1) lists (λ k d within. short (suc k) d (omega arith)) in
    omega (arith, first, rest, length-reader_lines reader sights, length-append (reader_lines reader sights) (readers_lines (reader + 1) lists))

-- all bytes can be counted
pub lived_fits : (o : Outcome) (lists : List (List Sight)) → length (body_lines o) < 2 ^ 56 + 2 ^ 10 → HasShortSights lists → LINE_BYTES * length (lived_lines o lists) < 2 ^ 64
lived_fits o lists few seen =
    let status : List (List ℕ) = (codes "status " ++ decimal (status_of o)) ∷ [] in
    let readers : length lists ≤ 4 = seen.0 in
    let sights : length (readers_lines 0 lists) ≤ length lists * 2 ^ 32 = length-readers_lines 0 lists seen.1 in
    omega (arith, few, readers, sights, length-append (readers_lines 0 lists) status, length-append (body_lines o) (readers_lines 0 lists ++ status))
