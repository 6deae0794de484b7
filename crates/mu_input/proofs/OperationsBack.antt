-- Lines of clients and of operations are read back.
use Rattle.std.proofs.Common.{◌≡◌, ℕ, ◌<◌, ◌==◌, nat_le, nat_lt, ◌&&◌, Bool, true, false, cond, List, [], ◌∷◌, ◌++◌, length, codes, None, Some, refl, sym, ap, subst, ◌∙◌, append-nil, arith}
use Rattle.std.specs.Bool.{⊤}
use Rattle.std.specs.Fmt.{decimal}
use Rattle.std.specs.List.{AllByRecursion, list_all}
use Rattle.std.specs.declared.option.Option.{Option}
use Rattle.std.proofs.lemmas.Bool.{and_parts}
use Rattle.std.proofs.lemmas.Bool.Decides.{Decides-eqb, nat_tests}
use Rattle.kv_store.specs.Kinds.{kind_of_name, name_of_kind, op_with, parts_of, shape_of, shape_of_kind, texts_of}
use Rattle.kv_store.specs.declared.TheConstants.{KEY_BYTES, TEXT_BYTES}
use Rattle.kv_store.specs.declared.command.Arguments.{Arguments}
use Rattle.kv_store.specs.declared.command.Op.{Op}
use Rattle.kv_store.specs.declared.command.Op.TheVariants.{Put}
use Rattle.kv_store.specs.declared.command.OpKind.{OpKind}
use Rattle.kv_store.specs.declared.command.OpParts.{OpParts}
use Rattle.kv_store.proofs.PartsBack.{kind-named, op_with-parts, parts-made, shape-parts}
use Rattle.mu_text.specs.Lines.{is_alone, is_first, words}
use Rattle.mu_text.specs.Numbers.{is_numbered, number_of}
use Rattle.mu_text.specs.declared.TheConstants.{SPACE}
use Rattle.mu_text.proofs.Decimals.{number_of-decimal}
use Rattle.mu_text.proofs.SpelledWords.{IsOneWord, Spells, Spells-then, Spells-word, written}
use Rattle.mu_input.specs.Bodies.{body_line, client_line, operation_line}
use Rattle.mu_input.specs.Fields.{is_key, is_text, is_visible, is_word}
use Rattle.mu_events.specs.Lines.{after_spaces}
use Rattle.mu_input.specs.JobLines.{op_words}
use Rattle.mu_input.specs.Operations.{are_texts, arguments_as, is_short_text, judged, made, names_operation, of_kind, operation_of}
use Rattle.mu_input.specs.Readings.{Line, Says, Wrong}
use Rattle.mu_input.specs.declared.TheConstants.{MOST_CLIENTS, MOST_COMMANDS}
use Rattle.mu_input.specs.declared.bodies.BodyLine.{BodyLine}
use Rattle.mu_input.specs.declared.bodies.BodyLine.TheVariants as body
use Rattle.mu_input.specs.declared.cause.TheConstants.{CLIENT, OPERATION, KEY, VALUE, TOO_MANY}
use Rattle.mu_input.proofs.SettingsBack.{numbered-spells}

-- the key and the texts of an operation are such as a line may have
abbrev pub IsJudged : Op → Type 0
IsJudged op = (is_key (parts_of op).key ≡ true) × (are_texts (parts_of op).arguments ≡ true)

visible_above : (byte : ℕ) → is_visible byte ≡ true → SPACE < byte
visible_above byte visible = grind (arith, nat_tests)

visible_word : (bytes : List ℕ) → list_all is_visible bytes ≡ true → list_all (λ byte. nat_lt SPACE byte) bytes ≡ true
visible_word [] all = refl
visible_word (byte ∷ bytes) all =
    let tests = and_parts (is_visible byte) (list_all is_visible bytes) all in
    let above : SPACE < byte = visible_above byte tests.0 in
    let here : nat_lt SPACE byte ≡ true = grind (arith, nat_tests) in
    ap (λ b. b && list_all (λ byte. nat_lt SPACE byte) bytes) here ∙ visible_word bytes tests.1

-- a key or a text is one word
one_field : (most : ℕ) (bytes : List ℕ) → is_word most bytes ≡ true → IsOneWord bytes
one_field most bytes is = written bytes (visible_word bytes (and_parts (nat_le 1 (length bytes) && nat_le (length bytes) most) (list_all is_visible bytes) is).1)

one_short : (bytes : List ℕ) → is_short_text bytes ≡ true → IsOneWord bytes
one_short bytes is = one_field TEXT_BYTES bytes (and_parts (is_text bytes) (nat_le (length bytes) 32) is).0

-- the words of an operation
abbrev op_pieces : Op → List (List ℕ)
op_pieces op = name_of_kind (parts_of op).kind ∷ (parts_of op).key ∷ texts_of (parts_of op).arguments

name_is_word : (kind : OpKind) → IsOneWord (name_of_kind kind)
name_is_word OpKind.Put = written (codes "put") refl
name_is_word kind = written (name_of_kind kind) refl

texts_are_words : (arguments : Arguments) → are_texts arguments ≡ true → AllByRecursion IsOneWord (texts_of arguments)
texts_are_words Arguments.Nothing are = tt
texts_are_words (Arguments.Text text) are = (one_field TEXT_BYTES text are, tt)
texts_are_words (Arguments.Texts first second) are = let both = and_parts (is_short_text first) (is_short_text second) are in (one_short first both.0, (one_short second both.1, tt))

spaced : (word : List ℕ) (more : List (List ℕ)) → IsOneWord word → AllByRecursion IsOneWord more → Spells (word ++ after_spaces more) (word ∷ more)
spaced word [] one all = subst (λ text. Spells text (word ∷ [])) (sym (append-nil word)) (Spells-word word one)
spaced word (next ∷ more) one all = Spells-then word (next ++ after_spaces more) (next ∷ more) one (spaced next more all.0 all.1)

pub op-spells : (op : Op) → IsJudged op → Spells (op_words op) (op_pieces op)
op-spells op is =
    spaced (name_of_kind (parts_of op).kind) ((parts_of op).key ∷ texts_of (parts_of op).arguments) (name_is_word (parts_of op).kind)
    (one_field KEY_BYTES (parts_of op).key is.0, texts_are_words (parts_of op).arguments is.1)

-- texts are read back as the arguments that have them
texts-back : (arguments : Arguments) → arguments_as (shape_of arguments) (texts_of arguments) ≡ Some arguments
texts-back Arguments.Nothing = refl
texts-back (Arguments.Text text) = refl
texts-back (Arguments.Texts first second) = refl

judged-is : (kind : OpKind) (key : List ℕ) (arguments : Arguments) → is_key key ≡ true → are_texts arguments ≡ true → judged kind key (Some arguments) ≡ made (op_with key kind arguments)
judged-is kind key arguments good all =
    ap (λ b. cond b (cond (are_texts arguments) (made (op_with key kind arguments)) (Wrong VALUE)) (Wrong KEY)) good ∙ ap (λ b. cond b (made (op_with key kind arguments)) (Wrong VALUE)) all

operation-back : (op : Op) → IsJudged op → operation_of (op_pieces op) ≡ Says op
operation-back op is =
    let parts = parts_of op in
    ap (λ kind. of_kind kind parts.key (texts_of parts.arguments)) (kind-named parts.kind)
    ∙ ap (λ shape. judged parts.kind parts.key (arguments_as shape (texts_of parts.arguments))) (sym (shape-parts op))
    ∙ ap (judged parts.kind parts.key) (texts-back parts.arguments)
    ∙ judged-is parts.kind parts.key parts.arguments is.0 is.1
    ∙ ap made (op_with-parts op)

-- what a line of an operation says after this many clients and commands
abbrev asked : ℕ → ℕ → Line Op → Line BodyLine
asked clients commands said = cond (clients == 0) (Wrong CLIENT) (operation_line commands said)

asked-is : (clients commands : ℕ) (op : Op) → 0 < clients → commands < MOST_COMMANDS → asked clients commands (Says op) ≡ Says (body.Operation op)
asked-is clients commands op some room =
    let known : (clients == 0) ≡ false = grind (arith, nat_tests) in
    let few : nat_lt commands MOST_COMMANDS ≡ true = grind (arith, nat_tests) in
    ap (λ b. cond b (Wrong CLIENT) (cond (nat_lt commands MOST_COMMANDS) (Says (body.Operation op)) (Wrong TOO_MANY))) known ∙ ap (λ b. cond b (Says (body.Operation op)) (Wrong TOO_MANY)) few

pieces-back : (clients commands : ℕ) (op : Op) → body_line clients commands (op_pieces op) ≡ asked clients commands (operation_of (op_pieces op))
pieces-back clients commands (Put key text) = refl
pieces-back clients commands op = refl

-- a line of an operation is read back, if it has a client and room
pub operation_line-back : (clients commands : ℕ) (op : Op) → IsJudged op → 0 < clients → commands < MOST_COMMANDS → body_line clients commands (words (op_words op)) ≡ Says (body.Operation op)
operation_line-back clients commands op is some room =
    ap (body_line clients commands) (op-spells op is).alone ∙ pieces-back clients commands op ∙ ap (asked clients commands) (operation-back op is) ∙ asked-is clients commands op some room

-- a line of the next client
pub client-spells : (client : ℕ) → client < MOST_CLIENTS → Spells (codes "client " ++ decimal client) (codes "client" ∷ decimal client ∷ [])
client-spells client few = numbered-spells (codes "client") client (written (codes "client") refl) (omega (arith, few))

pub client_line-back : (clients commands : ℕ) → clients < MOST_CLIENTS → body_line clients commands (words (codes "client " ++ decimal clients)) ≡ Says body.Client
client_line-back clients commands few =
    let test : nat_lt clients MOST_CLIENTS ≡ true = grind (arith, nat_tests) in
    ap (body_line clients commands) (client-spells clients few).alone
    ∙ ap (λ said. cond (is_numbered clients said) (cond (nat_lt clients MOST_CLIENTS) (Says body.Client) (Wrong TOO_MANY)) (Wrong CLIENT)) (number_of-decimal clients (omega (arith, few)))
    ∙ ap (λ b. cond b (cond (nat_lt clients MOST_CLIENTS) (Says body.Client) (Wrong TOO_MANY)) (Wrong CLIENT)) ((Decides-eqb clients clients).1 refl)
    ∙ ap (λ b. cond b (Says body.Client) (Wrong TOO_MANY)) test

-- the lines after the commands
pub script-back : (clients commands : ℕ) → body_line clients commands (words (codes "script")) ≡ Says body.Script
script-back clients commands = ap (body_line clients commands) (Spells-word (codes "script") (written (codes "script") refl)).alone

pub end-back : (clients commands : ℕ) → body_line clients commands (words (codes "end")) ≡ Says body.End
end-back clients commands = ap (body_line clients commands) (Spells-word (codes "end") (written (codes "end") refl)).alone

-- facts about what a line says after this many clients and commands
abbrev pub HasPlace : ℕ → ℕ → BodyLine → Type 0
HasPlace clients commands body.Client = clients < MOST_CLIENTS
HasPlace clients commands (body.Operation op) = (0 < clients) × (commands < MOST_COMMANDS) × IsJudged op
HasPlace clients commands body.Script = ⊤
HasPlace clients commands body.End = ⊤

abbrev Places : ℕ → ℕ → Line BodyLine → Type 0
Places clients commands (Says said) = HasPlace clients commands said
Places clients commands (Wrong cause) = ⊤

abbrev AllJudged : Line Op → Type 0
AllJudged (Says op) = IsJudged op
AllJudged (Wrong cause) = ⊤

made-judged : (kind : OpKind) (key : List ℕ) (arguments : Arguments) (op : Option Op) → op_with key kind arguments ≡ op → is_key key ≡ true → are_texts arguments ≡ true → AllJudged (made op)
made-judged kind key arguments (Some op) is good all = subst (λ (parts : OpParts). (is_key parts.key ≡ true) × (are_texts parts.arguments ≡ true)) (sym (parts-made key arguments kind op is)) (good, all)
made-judged kind key arguments None is good all = tt

all-judged : (kind : OpKind) (key : List ℕ) (arguments : Option Arguments) → AllJudged (judged kind key arguments)
all-judged kind key None = tt
all-judged kind key (Some arguments) = by_test (is_key key) (are_texts arguments) refl refl
  where
    by_test : (b c : Bool) → is_key key ≡ b → are_texts arguments ≡ c → AllJudged (cond b (cond c (made (op_with key kind arguments)) (Wrong VALUE)) (Wrong KEY))
    by_test true true good all = made-judged kind key arguments (op_with key kind arguments) refl good all
    by_test true false good all = tt
    by_test false c good all = tt

operation-judged : (ws : List (List ℕ)) → AllJudged (operation_of ws)
operation-judged [] = tt
operation-judged (name ∷ []) = tt
operation-judged (name ∷ key ∷ more) = by_kind (kind_of_name name)
  where
    by_kind : (kind : Option OpKind) → AllJudged (of_kind kind key more)
    by_kind None = tt
    by_kind (Some kind) = all-judged kind key (arguments_as (shape_of_kind kind) more)

client-places : (clients commands : ℕ) (ws : List (List ℕ)) → Places clients commands (client_line clients ws)
client-places clients commands [] = tt
client-places clients commands (name ∷ []) = tt
client-places clients commands (name ∷ number ∷ []) = by_tests (is_numbered clients (number_of number)) (nat_lt clients MOST_CLIENTS) refl
  where
    by_tests : (a b : Bool) → nat_lt clients MOST_CLIENTS ≡ b → Places clients commands (cond a (cond b (Says body.Client) (Wrong TOO_MANY)) (Wrong CLIENT))
    by_tests true true few = grind (arith, nat_tests)
    by_tests true false few = tt
    by_tests false b few = tt
client-places clients commands (name ∷ number ∷ more ∷ rest) = tt

operation-places : (clients commands : ℕ) (said : Line Op) → AllJudged said → Places clients commands (asked clients commands said)
operation-places clients commands (Says op) is = by_tests (clients == 0) (nat_lt commands MOST_COMMANDS) refl refl
  where
    by_tests : (a b : Bool) → (clients == 0) ≡ a → nat_lt commands MOST_COMMANDS ≡ b → Places clients commands (cond a (Wrong CLIENT) (cond b (Says (body.Operation op)) (Wrong TOO_MANY)))
    by_tests true b none few = tt
    by_tests false true none few = let some : 0 < clients = grind (arith, nat_tests) in let room : commands < MOST_COMMANDS = grind (arith, nat_tests) in (some, room, is)
    by_tests false false none few = tt
operation-places clients commands (Wrong cause) is = by_test (clients == 0)
  where
    by_test : (a : Bool) → Places clients commands (cond a (Wrong CLIENT) (Wrong cause))
    by_test true = tt
    by_test false = tt

-- what a line says has its place
pub line-places : (clients commands : ℕ) (ws : List (List ℕ)) (said : BodyLine) → body_line clients commands ws ≡ Says said → HasPlace clients commands said
line-places clients commands ws said is = told (body_line clients commands ws) (by_tests (is_first (codes "client") ws) (names_operation ws) (is_alone (codes "script") ws) (is_alone (codes "end") ws)) is
  where
    by_tests : (a b c d : Bool) → Places clients commands (cond a (client_line clients ws) (cond b (asked clients commands (operation_of ws)) (cond c (Says body.Script) (cond d (Says body.End) (Wrong OPERATION)))))
    by_tests true b c d = client-places clients commands ws
    by_tests false true c d = operation-places clients commands (operation_of ws) (operation-judged ws)
    by_tests false false true d = tt
    by_tests false false false true = tt
    by_tests false false false false = tt

    told : (line : Line BodyLine) → Places clients commands line → line ≡ Says said → HasPlace clients commands said
    told (Says other) places e = let same : other ≡ said = cc in subst (HasPlace clients commands) same places
    told (Wrong cause) places e = cc
