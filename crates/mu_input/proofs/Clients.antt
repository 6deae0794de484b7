-- What holds of the commands so far, after each line of a client or of an operation.
use Rattle.std.proofs.Common.{◌≡◌, ℕ, ◌+◌, ◌-◌, ◌<◌, ◌≤◌, ◌==◌, true, false, cond, List, [], ◌∷◌, ◌++◌, length, refl, sym, ap, ◌∙◌, arith, length-append}
use Rattle.std.proofs.lemmas.List.Elements.{All-head, All-tail, All-push}
use Rattle.std.proofs.lemmas.Bool.Decides.{Decides-eqb}
use Rattle.std.specs.List.{All}
use Rattle.kv_store.specs.Commands.{Request, HasShortTexts, IsAllowed}
use Rattle.kv_store.specs.Sessions.{numbers_of, IsInSession}
use Rattle.kv_store.specs.declared.command.Op.{Op}
use Rattle.kv_store.proofs.InSession.{numbers_of-append, IsInSession-push}
use Rattle.mu_input.specs.Bodies.{next_command}

-- all commands are of the first clients
abbrev pub AreOf : ℕ → List Request → Type 0
AreOf clients commands = All (λ (command : Request). command.client < clients) commands

-- this many clients, the last of which has `count` of the commands
pub record IsBody (clients count : ℕ) (commands : List Request) : Type 0 where
  pub few_clients : clients ≤ 16
  pub few : length commands ≤ 1500
  pub known : AreOf clients commands
  pub counted : count ≡ length (numbers_of (clients - 1) commands)
  pub session : IsInSession commands

another : (command : Request) (clients : ℕ) (numbers : List ℕ) → command.client < clients → cond (command.client == clients) (command.number ∷ numbers) numbers ≡ numbers
another command clients numbers below = elim (command.client == clients) as (λ b. (command.client == clients) ≡ b → cond b (command.number ∷ numbers) numbers ≡ numbers) [
  | true ↦ λ same. let is = (Decides-eqb command.client clients).0 same in absurd (omega arith)
  | false ↦ λ same. refl
] refl

-- the next client has no command
none_yet : (clients : ℕ) (commands : List Request) → AreOf clients commands → numbers_of clients commands ≡ []
none_yet clients [] known = refl
none_yet clients (command ∷ commands) known =
    another command clients (numbers_of clients commands) (All-head (λ (c : Request). c.client < clients) command commands known)
    ∙ none_yet clients commands (All-tail (λ (c : Request). c.client < clients) command commands known)

-- a client has at most as many commands as there are
pub length-numbers_of-le : (client : ℕ) (commands : List Request) → length (numbers_of client commands) ≤ length commands
length-numbers_of-le client [] = omega arith
length-numbers_of-le client (command ∷ commands) = elim (command.client == client) as (λ b. length (cond b (command.number ∷ numbers_of client commands) (numbers_of client commands)) ≤ length (command ∷ commands)) [
  | true ↦ omega (arith, length-numbers_of-le client commands)
  | false ↦ omega (arith, length-numbers_of-le client commands)
]

-- after a line of the next client
pub IsBody-client : (clients count : ℕ) (commands : List Request) → IsBody clients count commands → clients < 16 → IsBody (clients + 1) 0 commands
IsBody-client clients count commands body room =
    let last : clients + 1 - 1 ≡ clients = omega arith in
    record {
      few_clients = omega arith;
      few = body.few;
      known = λ k d below. let before = body.known k d below in omega (arith, before);
      counted = sym (ap (λ client. length (numbers_of client commands)) last ∙ ap length (none_yet clients commands body.known));
      session = body.session;
    }

-- the command that an operation adds has the next number
pub next_command-is : (clients count : ℕ) (commands : List Request) (op : Op) → IsBody clients count commands → next_command (clients - 1) commands op ≡ record { client = clients - 1; number = count + 1; op = op }
next_command-is clients count commands op body = ap (λ n. let next : Request = record { client = clients - 1; number = n + 1; op = op } in next) (sym body.counted)

-- such a command is allowed
pub next_command-allowed : (clients count : ℕ) (commands : List Request) (op : Op) → IsBody clients count commands → length commands < 1500 → HasShortTexts op → IsAllowed (clients - 1) (count + 1) op
next_command-allowed clients count commands op body room short =
    let few = length-numbers_of-le (clients - 1) commands in
    record { client_known = omega (arith, body.few_clients); numbered = omega arith; number_fits = omega (arith, few, body.counted); short_texts = short }

mine : (client number : ℕ) → cond (client == client) (number ∷ []) [] ≡ number ∷ []
mine client number = ap (λ b. cond b (number ∷ []) []) ((Decides-eqb client client).1 refl)

-- after a line of an operation
pub IsBody-operation : (clients count : ℕ) (commands : List Request) (op : Op) → IsBody clients count commands → 0 < clients → length commands < 1500
    → IsBody clients (count + 1) (commands ++ record { client = clients - 1; number = count + 1; op = op } ∷ [])
IsBody-operation clients count commands op body some room =
    let next : Request = record { client = clients - 1; number = count + 1; op = op } in
    let numbers : numbers_of (clients - 1) (commands ++ next ∷ []) ≡ numbers_of (clients - 1) commands ++ (count + 1) ∷ [] =
    numbers_of-append (clients - 1) commands (next ∷ []) ∙ ap (λ ns. numbers_of (clients - 1) commands ++ ns) (mine (clients - 1) (count + 1)) in
    record {
      few_clients = body.few_clients;
      few = omega (arith, length-append commands (next ∷ []), room);
      known = All-push (λ (c : Request). c.client < clients) commands next body.known (omega arith);
      counted = omega (arith, ap length numbers, length-append (numbers_of (clients - 1) commands) ((count + 1) ∷ []), body.counted);
      session = IsInSession-push commands next body.session (ap (λ n. n + 1) body.counted);
    }
