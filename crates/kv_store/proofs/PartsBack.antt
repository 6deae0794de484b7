-- An operation and its parts tell one another, and so do a kind, its number and its name.
use Rattle.std.proofs.Common.{◌≡◌, ◌∙◌, ◌<◌, ℕ, List, Some, ap, arith, refl, sym}
use Rattle.std.proofs.lemmas.Option.{same_Some}
use Rattle.kv_store.specs.Kinds.{code_of_kind, kind_of_code, kind_of_name, name_of_kind, op_with, parts_of, shape_of, shape_of_kind}
use Rattle.kv_store.specs.declared.command.Arguments.{Arguments}
use Rattle.kv_store.specs.declared.command.Op.{Op}
use Rattle.kv_store.specs.declared.command.Op.TheVariants.{Put}
use Rattle.kv_store.specs.declared.command.OpKind.{OpKind}

-- an operation is made again of its parts
pub op_with-parts : (op : Op) → op_with (parts_of op).key (parts_of op).kind (parts_of op).arguments ≡ Some op
op_with-parts (Put key text) = refl
op_with-parts op = refl

-- an operation has the parts of which it is made
pub parts-made : (key : List ℕ) (arguments : Arguments) (kind : OpKind) (op : Op) → op_with key kind arguments ≡ Some op → parts_of op ≡ record { kind = kind; key = key; arguments = arguments }
parts-made key Arguments.Nothing OpKind.Get op made = cc
parts-made key (Arguments.Text text) OpKind.Put op made = cc
parts-made key (Arguments.Texts first second) OpKind.Cas op made = cc
parts-made key arguments kind op made = cc

-- the arguments of an operation are of its kind's shape
pub shape-parts : (op : Op) → shape_of (parts_of op).arguments ≡ shape_of_kind (parts_of op).kind
shape-parts (Put key text) = refl
shape-parts op = refl

-- a kind is found again by its number
kind-coded : (kind : OpKind) → kind_of_code (code_of_kind kind) ≡ Some kind
kind-coded OpKind.Put = refl
kind-coded kind = refl

-- two kinds with one number are the same
pub same-kind : (a b : OpKind) → code_of_kind a ≡ code_of_kind b → a ≡ b
same-kind a b same = same_Some _ _ (sym (kind-coded a) ∙ ap kind_of_code same ∙ kind-coded b)

-- the number of a kind has eight bits
pub code-small : (kind : OpKind) → code_of_kind kind < 256
code-small OpKind.Put = omega arith
code-small kind = omega arith

-- a kind is found again by its name
pub kind-named : (kind : OpKind) → kind_of_name (name_of_kind kind) ≡ Some kind
kind-named OpKind.Put = refl
kind-named kind = refl

-- operations with the same parts are the same
pub same-parts : (o p : Op) → (parts_of o).key ≡ (parts_of p).key → (parts_of o).kind ≡ (parts_of p).kind → (parts_of o).arguments ≡ (parts_of p).arguments → o ≡ p
same-parts o p key kind arguments =
    same_Some _ _ (sym (op_with-parts o) ∙ ap (λ k. op_with k (parts_of o).kind (parts_of o).arguments) key ∙ ap (λ k. op_with (parts_of p).key k (parts_of o).arguments) kind
    ∙ ap (op_with (parts_of p).key (parts_of p).kind) arguments ∙ op_with-parts p)
