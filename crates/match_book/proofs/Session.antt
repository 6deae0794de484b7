-- Commands in session have different ids.
use Rattle.std.proofs.Common.{◌≡◌, ℕ, ◌+◌, ◌<◌, ◌≤◌, ◌==◌, Bool, true, false, ◌&&◌, cond, List, [], ◌∷◌, refl, sym, ap, ◌∙◌, arith}
use Rattle.std.specs.List.{count_by}
use Rattle.std.proofs.lemmas.Bool.Decides.{Decides-eqb, nat_tests}
use Rattle.std.proofs.lemmas.List.Sums.{sum_by-cons}
use Rattle.kv_store.specs.Commands.{Request}
use Rattle.kv_store.specs.Sessions.{CountsFrom, IsInSession, numbers_of}
use Rattle.match_book.specs.declared.order.Id.{Id}
use Rattle.match_book.specs.Ledgers.{HaveDifferentIds, id_of}
use Rattle.match_book.specs.Places.{is_same}
use Rattle.match_book.proofs.Parting.{by_cases}
use Rattle.match_book.proofs.Remaining.{same_number}
use Rattle.match_book.proofs.Sound.{times_placed}

-- how often a number stands there
abbrev times_counted : ℕ → List ℕ → ℕ
times_counted n numbers = count_by (λ (m : ℕ). n == m) numbers

abbrev number_if : Bool → ℕ
number_if b = cond b 1 0

counted_more : (n number : ℕ) (numbers : List ℕ) → times_counted n (number ∷ numbers) ≡ cond (n == number) 1 0 + times_counted n numbers
counted_more n number numbers = sum_by-cons (λ (m : ℕ). cond (n == m) 1 0) number numbers

-- below the first none stands
none_below : (n first : ℕ) (numbers : List ℕ) → CountsFrom first numbers → n < first → times_counted n numbers ≡ 0
none_below n first [] counts below = refl
none_below n first (number ∷ numbers) counts below =
    let is : number ≡ first = counts.0 in
    let rest = none_below n (first + 1) numbers counts.1 (omega arith) in
    let other : (n == number) ≡ false = grind (arith, nat_tests) in
    let one : number_if (n == number) ≡ 0 = ap number_if other in
    counted_more n number numbers ∙ omega arith

-- each stands once at most
once_counted : (n first : ℕ) (numbers : List ℕ) → CountsFrom first numbers → times_counted n numbers ≤ 1
once_counted n first [] counts = omega arith
once_counted n first (number ∷ numbers) counts =
    let is : number ≡ first = counts.0 in
    let more = counted_more n number numbers in
    let rest = once_counted n (first + 1) numbers counts.1 in
    by_cases (n == number)
    (λ e. let same : n ≡ number = (Decides-eqb n number).0 e in
    let none = none_below n (first + 1) numbers counts.1 (omega arith) in
    let one : number_if (n == number) ≡ 1 = ap number_if e in
    omega arith)
    (λ e. let one : number_if (n == number) ≡ 0 = ap number_if e in omega arith)

mine_first : (a b : Bool) (n : ℕ) (rest : List ℕ) (number : ℕ) → (n == number) ≡ b → number_if (a && b) + times_counted n rest ≡ times_counted n (cond a (number ∷ rest) rest)
mine_first true b n rest number e = ap (λ c. number_if c + times_counted n rest) (sym e) ∙ sym (counted_more n number rest)
mine_first false b n rest number e = omega arith

-- an id stands as often as its number among those of its client
placed_counted : (id : Id) (commands : List Request) → times_placed id commands ≡ times_counted id.number (numbers_of id.client commands)
placed_counted id [] = refl
placed_counted id (command ∷ commands) =
    let rest = numbers_of id.client commands in
    let f : Request → ℕ = λ c. cond (is_same id (id_of c)) 1 0 in
    sum_by-cons f command commands
    ∙ ap (λ n. f command + n) (placed_counted id commands)
    ∙ mine_first (id.client == command.client) (id.number == command.number) id.number rest command.number refl
    ∙ ap (λ b. times_counted id.number (cond b (command.number ∷ rest) rest)) (same_number id.client command.client)

pub session_differs : (commands : List Request) → IsInSession commands → HaveDifferentIds commands
session_differs commands session id = let is = placed_counted id commands in let once = once_counted id.number 1 (numbers_of id.client commands) (session id.client) in omega arith
