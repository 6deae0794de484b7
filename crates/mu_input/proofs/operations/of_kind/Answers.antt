use Rattle.std.proofs.Common.{rules, ◌≡◌, ◌<◌, ◌∙◌, sym, refl, arith, ℕ, Bor, List, [], ◌∷◌, length, map, Some}
use Rattle.kv_store.specs.declared.command.Arguments.{Arguments}
use Rattle.kv_store.specs.declared.command.OpShape.{OpShape}
use Rattle.mu_input.specs.Operations.{arguments_as}
use Rattle.mu_input.proofs.operations.of_kind.Goals as goal

-- no words are the arguments of an operation that has none
no-words :
    (shape : OpShape) (texts : List (Bor (List ℕ))) → shape ≡ OpShape.Nothing
    → length texts < 1 → arguments_as shape (map (λ (text : Bor (List ℕ)). text.now) texts) ≡ Some Arguments.Nothing
no-words OpShape.Nothing [] is few = refl
no-words OpShape.Text [] is few = cc
no-words OpShape.Texts [] is few = cc
no-words shape (a ∷ texts) is few = absurd (omega (arith, few))

pub returns-in_ok-good_key-in-Nothing-empty-clause-reading : goal.returns-in_ok-good_key-in-Nothing-empty-clause-reading
returns-in_ok-good_key-in-Nothing-empty-clause-reading c =
    let none = no-words _ c.args.texts.now (sym c.shape.ensures ∙ c.in-Nothing-empty.is-0) c.in-Nothing-empty.len_below in
    rw none (search rules)
