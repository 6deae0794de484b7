-- Lines of the commands are told by their first words.
use Rattle.std.proofs.Common.{◌≡◌, ℕ, ◌<◌, ◌==◌, Bor, cond, List, [], ◌∷◌, length, codes, map, take, None, Some, refl, sym, ap, ◌∙◌, arith}
use Rattle.std.specs.Str.{bytes_eq}
use Rattle.std.specs.declared.option.Option.{Option}
use Rattle.kv_store.specs.Kinds.{kind_of_name, shape_of_kind}
use Rattle.kv_store.specs.declared.command.OpKind.{OpKind}
use Rattle.kv_store.specs.declared.command.OpShape.{OpShape}
use Rattle.mu_input.specs.Bodies.{body_line, operation_line}
use Rattle.mu_input.specs.Operations.{arguments_as, judged, names_operation, of_kind, operation_of}
use Rattle.mu_input.specs.Readings.{Wrong}
use Rattle.mu_input.specs.declared.cause.TheConstants.{CLIENT, OPERATION}
use Rattle.mu_text.specs.declared.TheConstants.{MANY_WORDS}

-- an operation has at least two words
pub operation-few : (words : List (Bor (List ℕ))) → length words < 2 → operation_of (map (λ (word : Bor (List ℕ)). word.now) words) ≡ Wrong OPERATION
operation-few [] few = refl
operation-few (a ∷ []) few = refl
operation-few (a ∷ b ∷ words) few = absurd (omega (arith, few))

-- and at most four
beyond : (shape : OpShape) (a b c : List ℕ) (words : List (List ℕ)) → arguments_as shape (a ∷ b ∷ c ∷ words) ≡ None
beyond OpShape.Nothing a b c words = refl
beyond OpShape.Text a b c words = refl
beyond OpShape.Texts a b c words = refl

operation-many : (kind : Option OpKind) (key a b c : List ℕ) (words others : List (List ℕ)) → of_kind kind key (a ∷ b ∷ c ∷ words) ≡ of_kind kind key (a ∷ b ∷ c ∷ others)
operation-many None key a b c words others = refl
operation-many (Some kind) key a b c words others =
    ap (judged kind key) (beyond (shape_of_kind kind) a b c words ∙ sym (beyond (shape_of_kind kind) a b c others))

-- a line says what its first words say
pub body_line-take : (clients commands : ℕ) (words : List (List ℕ)) → body_line clients commands (take MANY_WORDS words) ≡ body_line clients commands words
body_line-take clients commands [] = refl
body_line-take clients commands (a ∷ []) = refl
body_line-take clients commands (a ∷ b ∷ []) = refl
body_line-take clients commands (a ∷ b ∷ c ∷ []) = refl
body_line-take clients commands (a ∷ b ∷ c ∷ d ∷ []) = refl
body_line-take clients commands (a ∷ b ∷ c ∷ d ∷ e ∷ words) =
    ap (λ said. cond (bytes_eq a (codes "client")) (Wrong CLIENT) (cond (names_operation (a ∷ [])) (cond (clients == 0) (Wrong CLIENT) (operation_line commands said)) (Wrong OPERATION)))
    (operation-many (kind_of_name a) b c d e (take 9 words) words)

-- a line asks for what its first words ask for
pub operation-take : (words : List (List ℕ)) → operation_of (take MANY_WORDS words) ≡ operation_of words
operation-take [] = refl
operation-take (a ∷ []) = refl
operation-take (a ∷ b ∷ []) = refl
operation-take (a ∷ b ∷ c ∷ []) = refl
operation-take (a ∷ b ∷ c ∷ d ∷ []) = refl
operation-take (a ∷ b ∷ c ∷ d ∷ e ∷ words) = operation-many (kind_of_name a) b c d e (take 9 words) words
