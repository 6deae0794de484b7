-- Rows that were made of commands spell them.
use Rattle.std.proofs.Common.{◌≡◌, ◌∙◌, ℕ, zero, suc, ◌/◌, ◌^◌, List, [], ◌∷◌, Some, ap, arith, length, refl, subst, sym}
use Rattle.std.specs.Prelude.{slice_index}
use Rattle.std.specs.List.{slice_get}
use Rattle.std.proofs.lemmas.Option.{slice_get_within}
use Rattle.kv_store.specs.Commands.{Request}
use Rattle.mu_follow.specs.Groups.{AreSpelled}
use Rattle.mu_input.specs.Batches.{followers, rows_of}
use Rattle.mu_input.specs.Heads.{HaveHeads}
use Rattle.mu_model.specs.declared.config.Config.{Config}
use Rattle.mu_model.specs.declared.config.Row.{Row}
use Rattle.mu_model.specs.Contents.{IsConfig, rest_of, word_of}
use Rattle.mu_model.proofs.Basics.{same_some}
use Rattle.mu_rows.specs.Rows.{IsCommand, spelled}

-- the row of a command
record HasRow (width : ℕ) (commands : List Request) (j : ℕ) (command : Request) : Type 0 where
  rest : ℕ
  row : Row
  at : slice_get (rows_of width commands) j ≡ Some row
  words : row.words ≡ spelled command rest
  head : slice_index row.words 0 / 2 ^ 56 ≡ rest

row_at : (width : ℕ) (commands : List Request) (j : ℕ) (command : Request) → HaveHeads width commands (rows_of width commands) → slice_get commands j ≡ Some command → HasRow width commands j command
row_at width [] j command have at = cc
row_at width (first ∷ commands) zero command have at =
    let same : first ≡ command = same_some first command at in
    record { rest = _; row = _; at = refl; words = ap (λ x. spelled x (followers width first commands)) same; head = have.0.rest }
row_at width (first ∷ commands) (suc j) command have at = let found = row_at width commands j command have.1 at in record { rest = found.rest; row = found.row; at = found.at; words = found.words; head = found.head }

many : (width : ℕ) (commands : List Request) → length (rows_of width commands) ≡ length commands
many width [] = refl
many width (command ∷ commands) = ap suc (many width commands)

pub are_spelled : (c : Config) (commands : List Request) → IsConfig c → HaveHeads c.width commands c.rows → c.rows ≡ rows_of c.width commands → ((j : ℕ) (command : Request) → slice_get commands j ≡ Some command → IsCommand command) → AreSpelled c commands
are_spelled c commands good have rows are = record {
  count = sym (ap length rows ∙ many c.width commands);
  each = λ j command at.
      let found = row_at c.width commands j command (subst (HaveHeads c.width commands) rows have) at in
      let here : slice_get c.rows j ≡ Some found.row = ap (λ l. slice_get l j) rows ∙ found.at in
      let low = slice_get_within c.rows j found.row here in
      let head : rest_of c j ≡ found.rest = ap (λ o. word_of o 0 / 2 ^ 56) here ∙ found.head in
      let few = good.rests j low in
      let wide = good.widths in
      record {
        is = are j command at;
        rest = found.rest;
        low = omega (arith, head, few, wide);
        words = rw here (ap (λ ws. slice_index ws 0 ∷ slice_index ws 1 ∷ slice_index ws 2 ∷ slice_index ws 3 ∷ slice_index ws 4 ∷ slice_index ws 5 ∷ slice_index ws 6 ∷ slice_index ws 7 ∷ slice_index ws 8 ∷ slice_index ws 9 ∷ slice_index ws 10 ∷ slice_index ws 11 ∷ []) found.words);
      };
}
