-- operation line: what a line asks of the store.
use Rattle.std.specs.Prelude.{ℕ, Bool, true, false, ◌&&◌, nat_le, length, List, [], ◌∷◌, if◌then◌else◌, None, Some}
use Rattle.std.specs.Option.{is_some}
use Rattle.std.specs.declared.option.Option.{Option}
use Rattle.kv_store.specs.Kinds.{kind_of_name, op_with, shape_of_kind}
use Rattle.kv_store.specs.declared.TheConstants.{CAS_TEXT_BYTES}
use Rattle.kv_store.specs.declared.command.Arguments.{Arguments}
use Rattle.kv_store.specs.declared.command.Op.{Op}
use Rattle.kv_store.specs.declared.command.OpKind.{OpKind}
use Rattle.kv_store.specs.declared.command.OpShape.{OpShape}
use Rattle.mu_input.specs.Fields.{is_key, is_text}
use Rattle.mu_input.specs.Readings.{Line, Says, Wrong}
use Rattle.mu_input.specs.declared.cause.TheConstants.{OPERATION, KEY, VALUE}

-- a text that may stand beside another
abbrev pub is_short_text : List ℕ → Bool
is_short_text bytes = is_text bytes && nat_le (length bytes) CAS_TEXT_BYTES

-- the words as arguments of this shape, if they are as many as it has
abbrev pub arguments_as : OpShape → List (List ℕ) → Option Arguments
arguments_as OpShape.Nothing [] = Some Arguments.Nothing
arguments_as OpShape.Text (text ∷ []) = Some (Arguments.Text text)
arguments_as OpShape.Texts (first ∷ second ∷ []) = Some (Arguments.Texts first second)
arguments_as _ _ = None

-- each argument is a text that may stand there
abbrev pub are_texts : Arguments → Bool
are_texts Arguments.Nothing = true
are_texts (Arguments.Text text) = is_text text
are_texts (Arguments.Texts first second) = is_short_text first && is_short_text second

-- what a line says whose parts make this operation, if they make one
abbrev pub made : Option Op → Line Op
made None = Wrong OPERATION
made (Some op) = Says op

-- what a line says of a kind, a key and arguments: the key is judged first, and then the texts
abbrev pub judged : OpKind → List ℕ → Option Arguments → Line Op
judged kind key None = Wrong OPERATION
judged kind key (Some arguments) =
    if is_key key
    then (if are_texts arguments then made (op_with key kind arguments) else Wrong VALUE)
    else Wrong KEY

-- what a line says, by what its first word names, from the key and the words after it
abbrev pub of_kind : Option OpKind → List ℕ → List (List ℕ) → Line Op
of_kind None key words = Wrong OPERATION
of_kind (Some kind) key words = judged kind key (arguments_as (shape_of_kind kind) words)

-- what a line says of the store: its operation, or the cause why it asks for none
abbrev pub operation_of : List (List ℕ) → Line Op
operation_of (name ∷ key ∷ words) = of_kind (kind_of_name name) key words
operation_of _ = Wrong OPERATION

-- the first word names an operation
abbrev pub names_operation : List (List ℕ) → Bool
names_operation [] = false
names_operation (name ∷ words) = is_some (kind_of_name name)
