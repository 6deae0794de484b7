-- The lines of the clients and their commands are read back as the commands.
use Rattle.std.proofs.Common.{◌≡◌, ◌≢◌, ℕ, zero, suc, ◌+◌, ◌-◌, ◌<◌, ◌≤◌, ◌==◌, nat_le, true, false, cond, List, [], ◌∷◌, ◌++◌, length, codes, refl, sym, ap, subst, ◌∙◌, arith, append_assoc, append-nil, length-append}
use Rattle.std.specs.Fmt.{decimal}
use Rattle.std.specs.List.{All}
use Rattle.std.proofs.lemmas.Bool.Decides.{Decides-eqb, nat_tests}
use Rattle.std.proofs.lemmas.List.Elements.{All-append, All-cons, All-head, All-nil, All-push, All-tail}
use Rattle.kv_store.specs.Commands.{Request}
use Rattle.kv_store.specs.declared.command.Op.{Op}
use Rattle.mu_text.specs.Lines.{Left, words}
use Rattle.mu_text.proofs.SpelledWords.{IsOneLine}
use Rattle.mu_input.specs.Bodies.{body_after, body_at, body_from, body_line, next_command}
use Rattle.mu_input.specs.JobLines.{client_count, client_lines, command_lines, commands_lines, op_words}
use Rattle.mu_input.specs.Readings.{Line, Says, Wrong}
use Rattle.mu_input.specs.declared.TheConstants.{MOST_CLIENTS, MOST_COMMANDS}
use Rattle.mu_input.specs.declared.bodies.Body.{Body}
use Rattle.mu_input.specs.declared.bodies.BodyLine.{BodyLine}
use Rattle.mu_input.specs.declared.bodies.BodyLine.TheVariants as body
use Rattle.mu_input.proofs.Clients.{AreOf}
use Rattle.mu_input.proofs.Fronts.{Gives}
use Rattle.mu_input.proofs.OperationsBack.{HasPlace, IsJudged, client-spells, client_line-back, line-places, op-spells, operation_line-back}
use Rattle.std.proofs.lemmas.Bool.{ne_eqb}

-- a client and its commands
abbrev block : List Request → ℕ → List (List ℕ)
block commands client = (codes "client " ++ decimal client) ∷ commands_lines client commands

-- the lines of one client more
client_lines-more : (commands : List Request) (first clients : ℕ) → client_lines commands first (suc clients) ≡ client_lines commands first clients ++ block commands (first + clients)
client_lines-more commands first zero = let same : first ≡ first + 0 = omega arith in append-nil (block commands first) ∙ ap (block commands) same
client_lines-more commands first (suc clients) =
    let same : first + 1 + clients ≡ first + suc clients = omega arith in
    ap (λ rest. block commands first ++ rest) (client_lines-more commands (first + 1) clients)
    ∙ sym (append_assoc (block commands first) (client_lines commands (first + 1) clients) (block commands (first + 1 + clients)))
    ∙ ap (λ client. (block commands first ++ client_lines commands (first + 1) clients) ++ block commands client) same

commands_lines-push : (client : ℕ) (commands : List Request) (command : Request) → commands_lines client (commands ++ command ∷ []) ≡ commands_lines client commands ++ command_lines client command
commands_lines-push client [] command = append-nil (command_lines client command)
commands_lines-push client (first ∷ commands) command =
    ap (λ rest. command_lines client first ++ rest) (commands_lines-push client commands command) ∙ sym (append_assoc (command_lines client first) (commands_lines client commands) (command_lines client command))

others_lines : (client : ℕ) (command : Request) → command.client ≢ client → command_lines client command ≡ []
others_lines client command different = ap (λ b. cond b (op_words command.op ∷ []) []) (ne_eqb command.client client different)

own_lines : (client : ℕ) (command : Request) → command.client ≡ client → command_lines client command ≡ op_words command.op ∷ []
own_lines client command same = ap (λ b. cond b (op_words command.op ∷ []) []) ((Decides-eqb command.client client).1 same)

-- a client that has no command yet
none_yet : (client : ℕ) (commands : List Request) → AreOf client commands → commands_lines client commands ≡ []
none_yet client [] known = refl
none_yet client (command ∷ commands) known =
    let below : command.client < client = All-head (λ (c : Request). c.client < client) command commands known in
    ap (λ front. front ++ commands_lines client commands) (others_lines client command (λ same. omega (arith, same, below)))
    ∙ none_yet client commands (All-tail (λ (c : Request). c.client < client) command commands known)

-- a command of a later client changes no line of the earlier ones
earlier : (commands : List Request) (command : Request) (first clients : ℕ) → first + clients ≤ command.client → client_lines (commands ++ command ∷ []) first clients ≡ client_lines commands first clients
earlier commands command first zero later = refl
earlier commands command first (suc clients) later =
    ap (λ mine. ((codes "client " ++ decimal first) ∷ mine) ++ client_lines (commands ++ command ∷ []) (first + 1) clients)
    (commands_lines-push first commands command ∙ ap (λ back. commands_lines first commands ++ back) (others_lines first command (λ same. omega (arith, same, later))) ∙ append-nil (commands_lines first commands))
    ∙ ap (λ rest. block commands first ++ rest) (earlier commands command (first + 1) clients (omega (arith, later)))

-- a command of the last client is its last line
client_lines-push : (commands : List Request) (command : Request) (clients : ℕ) → 0 < clients → command.client ≡ clients - 1
    → client_lines (commands ++ command ∷ []) 0 clients ≡ client_lines commands 0 clients ++ op_words command.op ∷ []
client_lines-push commands command zero some is = absurd (omega arith)
client_lines-push commands command (suc clients) some is =
    let last : command.client ≡ 0 + clients = omega (arith, is) in
    client_lines-more (commands ++ command ∷ []) 0 clients
    ∙ ap (λ front. front ++ block (commands ++ command ∷ []) (0 + clients)) (earlier commands command 0 clients (omega (arith, last)))
    ∙ ap (λ mine. client_lines commands 0 clients ++ ((codes "client " ++ decimal (0 + clients)) ∷ mine)) (commands_lines-push (0 + clients) commands command ∙ ap (λ back. commands_lines (0 + clients) commands ++ back) (own_lines (0 + clients) command last))
    ∙ sym (append_assoc (client_lines commands 0 clients) (block commands (0 + clients)) (op_words command.op ∷ []))
    ∙ ap (λ front. front ++ op_words command.op ∷ []) (sym (client_lines-more commands 0 clients))

client_count-push : (count : ℕ) (commands : List Request) (command : Request)
    → client_count count (commands ++ command ∷ []) ≡ cond (nat_le (client_count count commands) command.client) (command.client + 1) (client_count count commands)
client_count-push count [] command = refl
client_count-push count (first ∷ commands) command = client_count-push (cond (nat_le count first.client) (first.client + 1) count) commands command

-- the last client is the greatest
count-last : (count clients : ℕ) (command : Request) → count ≤ clients → 0 < clients → command.client ≡ clients - 1 → cond (nat_le count command.client) (command.client + 1) count ≡ clients
count-last count clients command few some is = grind (arith, nat_tests)

-- after the lines of this many clients, these commands were read
abbrev Reads : ℕ → List Request → Type 0
Reads clients commands = (number : ℕ) (rest : List (List ℕ)) → body_from 0 [] number (client_lines commands 0 clients ++ rest) ≡ body_from clients commands (number + length (client_lines commands 0 clients)) rest

-- after lines that were read, one more line
go_on : (clients : ℕ) (commands : List Request) (front : List (List ℕ)) (line : List ℕ) (said : BodyLine) (number : ℕ) (rest : List (List ℕ))
    → body_from 0 [] number (front ++ line ∷ rest) ≡ body_from clients commands (number + length front) (line ∷ rest) → body_line clients (length commands) (words line) ≡ Says said
    → body_from 0 [] number ((front ++ line ∷ []) ++ rest)
    ≡ body_after clients commands (number + length front) (record { number = number + length front + 1; lines = rest }) (λ clients commands. body_from clients commands (number + length front + 1) rest) (Says said)
go_on clients commands front line said number rest before says =
    ap (body_from 0 [] number) (append_assoc front (line ∷ []) rest) ∙ before
    ∙ ap (body_after clients commands (number + length front) (record { number = number + length front + 1; lines = rest }) (λ clients commands. body_from clients commands (number + length front + 1) rest)) says

longer : (number : ℕ) (front : List (List ℕ)) (line : List ℕ) → number + length front + 1 ≡ number + length (front ++ line ∷ [])
longer number front line = omega (arith, length-append front (line ∷ []))

-- one more client without a command
next_client : (clients : ℕ) (commands : List Request) → Reads clients commands → AreOf clients commands → clients < MOST_CLIENTS → Reads (suc clients) commands
next_client clients commands reads known few number rest =
    let line = codes "client " ++ decimal clients in
    let front = client_lines commands 0 clients in
    let more : client_lines commands 0 (suc clients) ≡ front ++ line ∷ [] =
    client_lines-more commands 0 clients ∙ ap (λ client. front ++ block commands client) (omega arith) ∙ ap (λ mine. front ++ line ∷ mine) (none_yet clients commands known) in
    let next : clients + 1 ≡ suc clients = omega arith in
    ap (λ lines. body_from 0 [] number (lines ++ rest)) more
    ∙ go_on clients commands front line body.Client number rest (reads number (line ∷ rest)) (client_line-back clients (length commands) few)
    ∙ ap (λ clients. body_from clients commands (number + length front + 1) rest) next
    ∙ ap (λ number. body_from (suc clients) commands number rest) (longer number front line ∙ ap (λ lines. number + length lines) (sym more))

-- and as many as there may be
more_clients : (further clients : ℕ) (commands : List Request) → Reads clients commands → AreOf clients commands → clients + further ≤ MOST_CLIENTS → Reads (clients + further) commands
more_clients zero clients commands reads known few = let same : clients ≡ clients + 0 = omega arith in subst (λ clients. Reads clients commands) same reads
more_clients (suc further) clients commands reads known few =
    let same : suc (clients + further) ≡ clients + suc further = omega arith in
    let further_known : AreOf (clients + further) commands = λ k d below. let before = known k d below in omega (arith, before) in
    subst (λ clients. Reads clients commands) same (next_client (clients + further) commands (more_clients further clients commands reads known (omega (arith, few))) further_known (omega (arith, few)))

-- one more command of the last client
next_operation : (clients : ℕ) (commands : List Request) (op : Op) → Reads clients commands → 0 < clients → length commands < MOST_COMMANDS → IsJudged op → Reads clients (commands ++ next_command (clients - 1) commands op ∷ [])
next_operation clients commands op reads some room is number rest =
    let next = next_command (clients - 1) commands op in
    let front = client_lines commands 0 clients in
    let more : client_lines (commands ++ next ∷ []) 0 clients ≡ front ++ op_words op ∷ [] = client_lines-push commands next clients some refl in
    ap (λ lines. body_from 0 [] number (lines ++ rest)) more
    ∙ go_on clients commands front (op_words op) (body.Operation op) number rest (reads number (op_words op ∷ rest)) (operation_line-back clients (length commands) op is some room)
    ∙ ap (λ number. body_from clients (commands ++ next ∷ []) number rest) (longer number front (op_words op) ∙ ap (λ lines. number + length lines) (sym more))

-- commands that their lines give back: each is of a client below the count and has a line
pub record IsWritten (commands : List Request) : Type 0 where
  pub few_clients : client_count 0 commands ≤ MOST_CLIENTS
  pub known : AreOf (client_count 0 commands) commands
  pub judged : All (λ (command : Request). IsJudged command.op) commands
  pub reads : (number : ℕ) (rest : List (List ℕ)) → body_from 0 [] number (client_lines commands 0 (client_count 0 commands) ++ rest)
      ≡ body_from (client_count 0 commands) commands (number + length (client_lines commands 0 (client_count 0 commands))) rest

start : IsWritten []
start = record {
  few_clients = omega arith;
  known = All-nil (λ (c : Request). c.client < 0);
  judged = All-nil (λ (c : Request). IsJudged c.op);
  reads = λ number rest. let same : number ≡ number + 0 = omega arith in ap (λ number. body_from 0 [] number rest) same;
}

one_more : (clients : ℕ) (commands : List Request) (op : Op) → IsWritten commands → client_count 0 commands ≤ clients → clients ≤ MOST_CLIENTS → 0 < clients → length commands < MOST_COMMANDS → IsJudged op
    → (client_count 0 (commands ++ next_command (clients - 1) commands op ∷ []) ≡ clients) × IsWritten (commands ++ next_command (clients - 1) commands op ∷ [])
one_more clients commands op before below few some room is =
    let next = next_command (clients - 1) commands op in
    let count : client_count 0 (commands ++ next ∷ []) ≡ clients = client_count-push 0 commands next ∙ count-last (client_count 0 commands) clients next below some refl in
    let wide : client_count 0 commands + (clients - client_count 0 commands) ≡ clients = omega (arith, below) in
    let here : Reads clients commands = subst (λ clients. Reads clients commands) wide (more_clients (clients - client_count 0 commands) (client_count 0 commands) commands before.reads before.known (omega (arith, wide, few))) in
    let known : AreOf clients (commands ++ next ∷ []) = All-push (λ (c : Request). c.client < clients) commands next (λ k d less. let mine = before.known k d less in omega (arith, mine, below)) (omega (arith, some)) in (
      count,
      record {
        few_clients = omega (arith, count, few);
        known = subst (λ clients. AreOf clients (commands ++ next ∷ [])) (sym count) known;
        judged = All-push (λ (c : Request). IsJudged c.op) commands next before.judged is;
        reads = subst (λ clients. Reads clients (commands ++ next ∷ [])) (sym count) (next_operation clients commands op here some room is);
      },
    )

-- commands that were read are such
written-from : (clients : ℕ) (commands : List Request) (number : ℕ) (text : List (List ℕ)) → IsWritten commands → client_count 0 commands ≤ clients → clients ≤ MOST_CLIENTS
    → Gives (λ (b : Body). IsWritten b.commands) (body_from clients commands number text)
written-from clients commands number [] before below few = tt
written-from clients commands number (line ∷ text) before below few = by_line (λ clients commands. written-from clients commands (number + 1) text) (body_line clients (length commands) (words line)) (λ said. line-places clients (length commands) (words line) said)
  where
    by_line : ((clients : ℕ) (commands : List Request) → IsWritten commands → client_count 0 commands ≤ clients → clients ≤ MOST_CLIENTS → Gives (λ (b : Body). IsWritten b.commands) (body_from clients commands (number + 1) text))
        → (said : Line BodyLine) → ((is : BodyLine) → said ≡ Says is → HasPlace clients (length commands) is)
        → Gives (λ (b : Body). IsWritten b.commands) (body_after clients commands number (record { number = number + 1; lines = text }) (λ clients commands. body_from clients commands (number + 1) text) said)
    by_line again (Says body.Client) places = let room : clients < MOST_CLIENTS = places body.Client refl in again (clients + 1) commands before (omega (arith, below)) (omega (arith, room))
    by_line again (Says (body.Operation op)) places =
        let place = places (body.Operation op) refl in
        let next = one_more clients commands op before below few place.0 place.1 place.2 in
        again clients (commands ++ next_command (clients - 1) commands op ∷ []) next.1 (omega (arith, next.0)) few
    by_line again (Says body.Script) places = before
    by_line again (Says body.End) places = before
    by_line again (Wrong cause) places = tt

pub body_at-gives : (left : Left) → Gives (λ (b : Body). IsWritten b.commands) (body_at left)
body_at-gives left = written-from 0 [] left.number left.lines start (omega arith) (omega arith)

-- each of their lines is one line
command_lines-one : (client : ℕ) (command : Request) → IsJudged command.op → All IsOneLine (command_lines client command)
command_lines-one client command is = elim (command.client == client) as (λ b. All IsOneLine (cond b (op_words command.op ∷ []) [])) [
  | true ↦ All-cons IsOneLine (op_words command.op) [] (op-spells command.op is).one_line (All-nil IsOneLine)
  | false ↦ All-nil IsOneLine
]

commands_lines-one : (client : ℕ) (commands : List Request) → All (λ (command : Request). IsJudged command.op) commands → All IsOneLine (commands_lines client commands)
commands_lines-one client [] judged = All-nil IsOneLine
commands_lines-one client (command ∷ commands) judged =
    All-append IsOneLine (command_lines client command) (commands_lines client commands) (command_lines-one client command (All-head (λ (c : Request). IsJudged c.op) command commands judged))
    (commands_lines-one client commands (All-tail (λ (c : Request). IsJudged c.op) command commands judged))

pub client_lines-one : (commands : List Request) (first clients : ℕ) → All (λ (command : Request). IsJudged command.op) commands → first + clients ≤ MOST_CLIENTS → All IsOneLine (client_lines commands first clients)
client_lines-one commands first zero judged few = All-nil IsOneLine
client_lines-one commands first (suc clients) judged few =
    All-append IsOneLine (block commands first) (client_lines commands (first + 1) clients)
    (All-cons IsOneLine (codes "client " ++ decimal first) (commands_lines first commands) (client-spells first (omega (arith, few))).one_line (commands_lines-one first commands judged))
    (client_lines-one commands (first + 1) clients judged (omega (arith, few)))
