-- A book that stands for the front of a list of commands goes on to the next one.
use Rattle.std.proofs.Common.{◌≡◌, ℕ, ◌+◌, ◌<◌, cond, List, [], ◌∷◌, ◌++◌, sym, ap, subst, ◌∙◌, length, take, drop, get_or, arith, append_assoc}
use Rattle.std.proofs.lemmas.List.{take-append-drop, take_more}
use Rattle.std.proofs.lemmas.List.Sums.{sum_by-append}
use Rattle.kv_store.specs.Commands.{Request}
use Rattle.match_book.specs.Ledgers.{HaveDifferentIds, id_of}
use Rattle.match_book.specs.Places.{is_same}
use Rattle.match_book.specs.Stands.{Held, StandsFor}

pub different_front : (xs ys : List Request) → HaveDifferentIds (xs ++ ys) → HaveDifferentIds xs
different_front xs ys once id =
    let f : Request → ℕ = λ c. cond (is_same id (id_of c)) 1 0 in
    let whole = once id in
    omega (arith, sum_by-append f xs ys, whole)

pub stands_next : (before commands : List Request) (i : ℕ) (command : Request) (old new : Held) → i < length commands → command ≡ get_or commands i command
    → ((all : List Request) → HaveDifferentIds (all ++ command ∷ []) → StandsFor all old → StandsFor (all ++ command ∷ []) new)
    → HaveDifferentIds (before ++ commands) → StandsFor (before ++ take i commands) old → StandsFor (before ++ take (i + 1) commands) new
stands_next before commands i command old new within is step once stands =
    let front = before ++ take i commands in
    let next : before ++ take (i + 1) commands ≡ front ++ command ∷ [] =
    ap (λ l. before ++ l) (take_more commands i command within ∙ ap (λ c. take i commands ++ c ∷ []) (sym is)) ∙ sym (append_assoc before (take i commands) (command ∷ [])) in
    let whole : (before ++ take (i + 1) commands) ++ drop (i + 1) commands ≡ before ++ commands =
    append_assoc before (take (i + 1) commands) (drop (i + 1) commands) ∙ ap (λ l. before ++ l) (take-append-drop (i + 1) commands) in
    let different = different_front (before ++ take (i + 1) commands) (drop (i + 1) commands) (subst HaveDifferentIds (sym whole) once) in
    subst (λ l. StandsFor l new) (sym next) (step front (subst HaveDifferentIds next different) stands)

-- it stands for them, however they are told
pub stands_same : (xs ys : List Request) (book : Held) → xs ≡ ys → StandsFor xs book → StandsFor ys book
stands_same xs ys book same stands = subst (λ l. StandsFor l book) same stands
