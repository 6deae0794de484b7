-- kind, parts of an operation: which operations there are, with number, name and arguments of each;
-- and an operation as its kind, its key and its arguments.
--
-- Rows, lines and what is expected in a line go by these parts, so that a new operation is a line
-- of each table here.
use Rattle.std.specs.Prelude.{ℕ, ◌==◌, List, [], ◌∷◌, codes, find, None, Some}
use Rattle.std.specs.Str.{bytes_eq}
use Rattle.std.specs.declared.option.Option.{Option}
use Rattle.kv_store.specs.declared.command.Arguments.{Arguments}
use Rattle.kv_store.specs.declared.command.Op.{Op}
use Rattle.kv_store.specs.declared.command.Op.TheVariants.{Put, Get, Del, Swap, Cas}
use Rattle.kv_store.specs.declared.command.OpKind.{OpKind}
use Rattle.kv_store.specs.declared.command.OpParts.{OpParts}
use Rattle.kv_store.specs.declared.command.OpShape.{OpShape}
use Rattle.kv_store.specs.declared.command.TheConstants.{OP_KINDS}

-- the number of a kind in a row
abbrev pub code_of_kind : OpKind → ℕ
code_of_kind OpKind.Put = 1
code_of_kind OpKind.Get = 2
code_of_kind OpKind.Del = 3
code_of_kind OpKind.Swap = 4
code_of_kind OpKind.Cas = 5

-- the name of a kind in a line
abbrev pub name_of_kind : OpKind → List ℕ
name_of_kind OpKind.Put = codes "put"
name_of_kind OpKind.Get = codes "get"
name_of_kind OpKind.Del = codes "del"
name_of_kind OpKind.Swap = codes "swap"
name_of_kind OpKind.Cas = codes "cas"

-- what an operation of a kind has besides its key
abbrev pub shape_of_kind : OpKind → OpShape
shape_of_kind OpKind.Put = OpShape.Text
shape_of_kind OpKind.Get = OpShape.Nothing
shape_of_kind OpKind.Del = OpShape.Nothing
shape_of_kind OpKind.Swap = OpShape.Text
shape_of_kind OpKind.Cas = OpShape.Texts

-- the parts of an operation
abbrev pub parts_of : Op → OpParts
parts_of (Put key text) = record { kind = OpKind.Put; key = key; arguments = Arguments.Text text }
parts_of (Get key) = record { kind = OpKind.Get; key = key; arguments = Arguments.Nothing }
parts_of (Del key) = record { kind = OpKind.Del; key = key; arguments = Arguments.Nothing }
parts_of (Swap key text) =
    record { kind = OpKind.Swap; key = key; arguments = Arguments.Text text }
parts_of (Cas key old new) =
    record { kind = OpKind.Cas; key = key; arguments = Arguments.Texts old new }

-- the operation with these parts, if the kind has such arguments
abbrev pub op_with : List ℕ → OpKind → Arguments → Option Op
op_with key OpKind.Put (Arguments.Text text) = Some (Put key text)
op_with key OpKind.Get Arguments.Nothing = Some (Get key)
op_with key OpKind.Del Arguments.Nothing = Some (Del key)
op_with key OpKind.Swap (Arguments.Text text) = Some (Swap key text)
op_with key OpKind.Cas (Arguments.Texts old new) = Some (Cas key old new)
op_with key _ _ = None

-- the shape of arguments
abbrev pub shape_of : Arguments → OpShape
shape_of Arguments.Nothing = OpShape.Nothing
shape_of (Arguments.Text text) = OpShape.Text
shape_of (Arguments.Texts first second) = OpShape.Texts

-- the texts of arguments
abbrev pub texts_of : Arguments → List (List ℕ)
texts_of Arguments.Nothing = []
texts_of (Arguments.Text text) = text ∷ []
texts_of (Arguments.Texts first second) = first ∷ second ∷ []

-- the kind with this number, if there is one
abbrev pub kind_of_code : ℕ → Option OpKind
kind_of_code code = find (λ kind. code_of_kind kind == code) OP_KINDS

-- the kind with this name, if there is one
abbrev pub kind_of_name : List ℕ → Option OpKind
kind_of_name name = find (λ kind. bytes_eq name (name_of_kind kind)) OP_KINDS
