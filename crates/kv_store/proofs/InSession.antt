-- Laws of lists of commands in session.
use Rattle.std.proofs.Common.{◌≡◌, ℕ, ◌+◌, ◌==◌, Bool, true, false, cond, List, [], ◌∷◌, ◌++◌, length, take, drop, refl, sym, ap, subst, ◌∙◌, arith}
use Rattle.std.proofs.lemmas.List.{take-append-drop, append-nil}
use Rattle.std.proofs.lemmas.Bool.Decides.{Decides-eqb}
use Rattle.kv_store.specs.Commands.{Request}
use Rattle.kv_store.specs.Sessions.{numbers_of, CountsFrom, IsInSession}

if_both : {A : Type 0} (b : Bool) (x : A) (front back : List A) → cond b (x ∷ (front ++ back)) (front ++ back) ≡ cond b (x ∷ front) front ++ back
if_both true x front back = refl
if_both false x front back = refl

-- the numbers of a client in two lists, one after the other
pub numbers_of-append : (client : ℕ) (commands others : List Request) → numbers_of client (commands ++ others) ≡ numbers_of client commands ++ numbers_of client others
numbers_of-append client [] others = refl
numbers_of-append client (command ∷ commands) others =
    ap (λ rest. cond (command.client == client) (command.number ∷ rest) rest) (numbers_of-append client commands others)
    ∙ if_both (command.client == client) command.number (numbers_of client commands) (numbers_of client others)

CountsFrom-front : (first : ℕ) (front back : List ℕ) → CountsFrom first (front ++ back) → CountsFrom first front
CountsFrom-front first [] back counts = tt
CountsFrom-front first (number ∷ front) back counts = (counts.0, CountsFrom-front (first + 1) front back counts.1)

-- what comes first of a list in session is in session
pub IsInSession-front : (commands others : List Request) → IsInSession (commands ++ others) → IsInSession commands
IsInSession-front commands others session client = CountsFrom-front 1 _ (numbers_of client others) (subst (CountsFrom 1) (numbers_of-append client commands others) (session client))

-- a prefix of a list in session is in session
pub IsInSession-take : (k : ℕ) (commands : List Request) → IsInSession commands → IsInSession (take k commands)
IsInSession-take k commands session = IsInSession-front (take k commands) (drop k commands) (subst IsInSession (sym (take-append-drop k commands)) session)

CountsFrom-push : (first : ℕ) (numbers : List ℕ) (number : ℕ) → CountsFrom first numbers → number ≡ first + length numbers → CountsFrom first (numbers ++ number ∷ [])
CountsFrom-push first [] number counts is = (omega arith, tt)
CountsFrom-push first (n ∷ numbers) number counts is = (counts.0, CountsFrom-push (first + 1) numbers number counts.1 (omega arith))

CountsFrom-last : (first : ℕ) (numbers : List ℕ) (number : ℕ) → CountsFrom first (numbers ++ number ∷ []) → number ≡ first + length numbers
CountsFrom-last first [] number counts = omega (arith, counts.0)
CountsFrom-last first (n ∷ numbers) number counts = omega (arith, CountsFrom-last (first + 1) numbers number counts.1)

pushed : (mine : Bool) (numbers : List ℕ) (number : ℕ) → CountsFrom 1 numbers → (mine ≡ true → number ≡ length numbers + 1) → CountsFrom 1 (numbers ++ cond mine (number ∷ []) [])
pushed true numbers number counts next = let is : number ≡ length numbers + 1 = next refl in CountsFrom-push 1 numbers number counts (omega arith)
pushed false numbers number counts next = subst (CountsFrom 1) (sym (append-nil numbers)) counts

-- a command with the next number of its client keeps a list in session
pub IsInSession-push : (commands : List Request) (command : Request) → IsInSession commands → command.number ≡ length (numbers_of command.client commands) + 1 → IsInSession (commands ++ command ∷ [])
IsInSession-push commands command session next client =
    subst (CountsFrom 1) (sym (numbers_of-append client commands (command ∷ []))) (pushed (command.client == client) (numbers_of client commands) command.number (session client)
    (λ mine. next ∙ ap (λ n. length (numbers_of n commands) + 1) ((Decides-eqb command.client client).0 mine)))

-- and one with another number doesn't
pub IsInSession-next : (commands : List Request) (command : Request) → IsInSession (commands ++ command ∷ []) → command.number ≡ length (numbers_of command.client commands) + 1
IsInSession-next commands command session =
    let mine = (Decides-eqb command.client command.client).1 refl in
    let numbers = numbers_of-append command.client commands (command ∷ []) ∙ ap (λ b. numbers_of command.client commands ++ cond b (command.number ∷ []) []) mine in
    omega (arith, CountsFrom-last 1 (numbers_of command.client commands) command.number (subst (CountsFrom 1) numbers (session command.client)))
