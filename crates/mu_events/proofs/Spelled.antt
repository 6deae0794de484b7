-- The words of an event's line are read back as the event.
use Rattle.std.proofs.Common.{◌≡◌, ℕ, ◌<◌, ◌^◌, Bool, true, false, cond, List, [], ◌∷◌, ◌++◌, length, None, Some, refl, sym, ap, subst, ◌∙◌, append-nil, append_assoc, length-append, arith, ◌==◌}
use Rattle.std.specs.Fmt.{decimal}
use Rattle.std.specs.Bool.{⊤}
use Rattle.std.specs.List.{All, AllByRecursion}
use Rattle.std.specs.Option.{option_and_then, option_map, unwrap_or}
use Rattle.std.specs.Prelude.{codes}
use Rattle.std.specs.Str.{bytes_eq}
use Rattle.std.specs.declared.option.Option.{Option}
use Rattle.std.proofs.lemmas.List.Elements.{All-cons, All-head, All-nil, All-tail}
use Rattle.std.proofs.lemmas.Slice.Eq.{bytes_eq-Decides}
use Rattle.mu_model.specs.declared.event.Answer.{Answer}
use Rattle.mu_model.specs.declared.event.Event.{Event}
use Rattle.mu_model.specs.declared.event.Fence.{Fence}
use Rattle.mu_model.specs.declared.event.Target.{Target}
use Rattle.mu_model.specs.declared.event.Target.TheVariants as target
use Rattle.mu_model.specs.declared.event.Verb.{Verb}
use Rattle.mu_model.specs.declared.event.Verb.TheVariants as verb
use Rattle.mu_events.specs.Table.{Parts, limit_of, number_in, parts_of, put_in, row_of}
use Rattle.mu_events.specs.declared.table.Field.{Field}
use Rattle.mu_model.specs.Packing.{fields, fields_of, own_word, target_in, verb_in}
use Rattle.mu_model.proofs.Unpacking.{verb_back}
use Rattle.mu_events.specs.Events.{answer_of, event_between, event_of, fence_of, named_of, of_four, of_three, of_two, owner_of, read_fields, sides, state_of, target_of, verb_of, with_target, with_word}
use Rattle.mu_model.specs.Ranges.{FitsAnswer, FitsEvent, FitsFence, FitsOwn, FitsOwner, FitsTarget, FitsVerb}
use Rattle.mu_events.specs.Lines.{EntersForWord, IsSpelled, after_spaces, answer_words, event_line, fence_words, owner_words, pieces_in, state_words, target_pieces, target_words, verb_words}
use Rattle.mu_text.specs.Lines.{words}
use Rattle.mu_text.specs.Numbers.{below, of_8, of_16, of_32, of_64, wide_number_of}
use Rattle.mu_text.specs.declared.TheConstants.{SPACE}
use Rattle.mu_text.proofs.Decimals.{decimal-is_not, of_8-decimal, of_16-decimal, of_32-decimal, of_64-decimal, wide_below-decimal}
use Rattle.mu_text.proofs.SpelledWords.{IsOneWord, Spells, Spells-join, Spells-more, Spells-then, Spells-word, one_number, written}
use Rattle.mu_events.proofs.Sides.{Words, put_before}

-- none of these words is a `=`
abbrev NoEquals : Words → Type 0
NoEquals words = All (λ word. bytes_eq word (codes "=") ≡ false) words

-- one word that is no `=`
abbrev IsPiece : List ℕ → Type 0
IsPiece word = IsOneWord word × (bytes_eq word (codes "=") ≡ false)

a_number : (n : ℕ) → n < 2 ^ 64 → IsPiece (decimal n)
a_number n fits = (one_number n fits, decimal-is_not n (codes "=") fits refl)

-- words with a space before each but the first spell these words
spaced : (word : List ℕ) (more : Words) → IsPiece word → AllByRecursion IsPiece more → Spells (word ++ after_spaces more) (word ∷ more)
spaced word [] one all = subst (λ text. Spells text (word ∷ [])) (sym (append-nil word)) (Spells-word word one.0)
spaced word (next ∷ more) one all = Spells-then word (next ++ after_spaces more) (next ∷ more) one.0 (spaced next more all.0 all.1)

no_equals : (words : Words) → AllByRecursion IsPiece words → NoEquals words
no_equals [] all = All-nil (λ word. bytes_eq word (codes "=") ≡ false)
no_equals (word ∷ words) all = All-cons (λ word. bytes_eq word (codes "=") ≡ false) word words all.0.1 (no_equals words all.1)

-- the words of a target
target-pieces : (named : Target) → FitsTarget named → AllByRecursion IsPiece (target_pieces named)
target-pieces target.None fits = ((written (codes "none") refl, refl), tt)
target-pieces target.Min fits = ((written (codes "min") refl, refl), tt)
target-pieces (target.Place place) fits = ((written (codes "place") refl, refl), (a_number place (omega (arith, fits)), tt))

target-spells : (named : Target) → FitsTarget named → Spells (target_words named) (target_pieces named)
target-spells target.None fits = Spells-word (codes "none") (written (codes "none") refl)
target-spells target.Min fits = Spells-word (codes "min") (written (codes "min") refl)
target-spells (target.Place place) fits = let one = one_number place (omega (arith, fits)) in Spells-then (codes "place") (decimal place) (decimal place ∷ []) (written (codes "place") refl) (Spells-word (decimal place) one)

-- what a writer names is read back, and what a fence names too
named-back : (named : Target) → FitsTarget named → named_of (target_pieces named) ≡ Some named
named-back target.None fits = refl
named-back target.Min fits = refl
named-back (target.Place place) fits = ap (option_map target.Place) (of_16-decimal place fits)

-- the words of a step
abbrev verb_pieces : Verb → Words
verb_pieces verb = (row_of verb).name ∷ pieces_in (row_of verb).order (parts_of verb)

a_name : (verb : Verb) → IsPiece (row_of verb).name
a_name (verb.Ask p) = (written (codes "ask") refl, refl)
a_name verb = (written (row_of verb).name refl, refl)

own-fits : (made : Verb) → FitsOwn made → unwrap_or (own_word made) 0 < 2 ^ 64
own-fits (verb.PutMin p number) fits = omega (arith, fits)
own-fits (verb.PutSlot p i number value) fits = omega (arith, fits)
own-fits (verb.WriteRow row word value) fits = fits
own-fits made fits = omega arith

target-fits : (kind place : ℕ) → place < 2 ^ 16 → FitsTarget (target_in kind place)
target-fits kind place fits = by_tests (kind == 0) (kind == 1)
  where
    by_tests : (a b : Bool) → FitsTarget (cond a target.None (cond b target.Min (target.Place place)))
    by_tests true b = tt
    by_tests false true = tt
    by_tests false false = fits

fields-pieces : (order : List Field) (made : Verb) → FitsVerb made → AllByRecursion IsPiece (pieces_in order (parts_of made))
fields-pieces [] made fits = tt
fields-pieces (Field.Target ∷ order) made fits = let f = fields_of made in target-pieces (target_in f.second f.first) (target-fits f.second f.first fits.first)
fields-pieces (field ∷ order) made fits =
    (a_number (number_in field (parts_of made)) (omega (arith, fits.small, fits.first, fits.second, own-fits made fits.own)), fields-pieces order made fits)

verb-pieces : (made : Verb) → FitsVerb made → AllByRecursion IsPiece (verb_pieces made)
verb-pieces made fits = (a_name made, fields-pieces (row_of made).order made fits)

verb-spells : (made : Verb) → FitsVerb made → Spells (verb_words made) (verb_pieces made)
verb-spells made fits = let all = verb-pieces made fits in spaced (row_of made).name (pieces_in (row_of made).order (parts_of made)) all.0 all.1

two-back : {A B C : Type 0} (make : A → B → C) (first : Option A) (second : Option B) (a : A) (b : B) → first ≡ Some a → second ≡ Some b → of_two make first second ≡ Some (make a b)
two-back make first second a b e f = ap (λ first. of_two make first second) e ∙ ap (of_two make (Some a)) f

three-back : {A B C D : Type 0} (make : A → B → C → D) (first : Option A) (second : Option B) (third : Option C) (a : A) (b : B) (c : C)
    → first ≡ Some a → second ≡ Some b → third ≡ Some c → of_three make first second third ≡ Some (make a b c)
three-back make first second third a b c e f g = ap (λ first. of_three make first second third) e ∙ ap (λ second. of_three make (Some a) second third) f ∙ ap (of_three make (Some a) (Some b)) g

four-back : {A B C D E : Type 0} (make : A → B → C → D → E) (first : Option A) (second : Option B) (third : Option C) (fourth : Option D) (a : A) (b : B) (c : C) (d : D)
    → first ≡ Some a → second ≡ Some b → third ≡ Some c → fourth ≡ Some d → of_four make first second third fourth ≡ Some (make a b c d)
four-back make first second third fourth a b c d e f g h =
    ap (λ first. of_four make first second third fourth) e ∙ ap (λ second. of_four make (Some a) second third fourth) f
    ∙ ap (λ third. of_four make (Some a) (Some b) third fourth) g ∙ ap (of_four make (Some a) (Some b) (Some c)) h

-- parts with these fields of others
abbrev copied : List Field → Parts → Parts → Parts
copied [] parts start = start
copied (Field.Target ∷ order) parts start = with_target start (target_in parts.0.second parts.0.first)
copied (field ∷ order) parts start = copied order parts (put_in field start (number_in field parts))

-- what isn't read back from every parts: a target that names nothing, and a word of 32 bits
abbrev AreRead : List Field → Parts → Type 0
AreRead [] parts = ⊤
AreRead (Field.Target ∷ order) parts = let named = target_in parts.0.second parts.0.first in target_of (target_pieces named) ≡ Some named
AreRead (Field.Wide ∷ order) parts = (parts.1 < 2 ^ 32) × AreRead order parts
AreRead (field ∷ order) parts = AreRead order parts

field-back : (field : Field) (order : List Field) (parts start : Parts) → number_in field parts < limit_of field → number_in field parts < 2 ^ 64
    → option_and_then (read_fields order (pieces_in order parts)) (with_word field (decimal (number_in field parts)) start) ≡ read_fields order (pieces_in order parts) (put_in field start (number_in field parts))
field-back field order parts start fits wide =
    ap (λ n. option_and_then (read_fields order (pieces_in order parts)) (option_map (put_in field start) n)) (wide_below-decimal (limit_of field) (number_in field parts) fits wide)

fields-back : (order : List Field) (made : Verb) (start : Parts) → FitsVerb made → AreRead order (parts_of made) → read_fields order (pieces_in order (parts_of made)) start ≡ Some (copied order (parts_of made) start)
fields-back [] made start fits are = refl
fields-back (Field.Target ∷ order) made start fits are = ap (option_map (with_target start)) are
fields-back (Field.Wide ∷ order) made start fits are =
    field-back Field.Wide order (parts_of made) start are.0 (own-fits made fits.own) ∙ fields-back order made (put_in Field.Wide start (number_in Field.Wide (parts_of made))) fits are.1
fields-back (field ∷ order) made start fits are =
    let own = own-fits made fits.own in
    field-back field order (parts_of made) start (omega (arith, fits.small, fits.first, fits.second, own)) (omega (arith, fits.small, fits.first, fits.second, own))
    ∙ fields-back order made (put_in field start (number_in field (parts_of made))) fits are

are-read : (verb : Verb) → FitsVerb verb → EntersForWord verb → AreRead (row_of verb).order (parts_of verb)
are-read (verb.Enter p target.None) fits enters = absurd enters
are-read (verb.Enter p target.Min) fits enters = refl
are-read (verb.Enter p (target.Place place)) fits enters = ap (option_map target.Place) (of_16-decimal place fits.first)
are-read (verb.PutMin p number) fits enters = (fits.own, tt)
are-read (verb.PutSlot p i number value) fits enters = (fits.own, tt)
are-read verb fits enters = tt

-- a verb's fields are all that there are of it
all-copied : (verb : Verb) → copied (row_of verb).order (parts_of verb) (fields (fields_of verb).number 0 0 0, 0) ≡ parts_of verb
all-copied (verb.Enter p target.None) = refl
all-copied (verb.Enter p target.Min) = refl
all-copied (verb.Enter p (target.Place place)) = refl
all-copied verb = refl

-- a verb is read by its own row
by_row : (verb : Verb) (words : Words) → verb_of ((row_of verb).name ∷ words) ≡ option_map (λ parts. verb_in parts.0 parts.1) (read_fields (row_of verb).order words (fields (fields_of verb).number 0 0 0, 0))
by_row (verb.Ask p) words = refl
by_row verb words = refl

-- a step is read back
verb-back : (made : Verb) → FitsVerb made → EntersForWord made → verb_of (verb_pieces made) ≡ Some made
verb-back made fits enters =
    let read = fields-back (row_of made).order made (fields (fields_of made).number 0 0 0, 0) fits (are-read made fits enters) in
    by_row made (pieces_in (row_of made).order (parts_of made))
    ∙ ap (option_map (λ (parts : Parts). verb_in parts.0 parts.1)) (read ∙ ap Some (all-copied made))
    ∙ ap Some (verb_back made 0 fits)

-- the words of a fence
abbrev fence_pieces : Fence → Words
fence_pieces fence = owner_words fence.owner ∷ decimal fence.grant ∷ state_words fence.closing ∷ target_pieces fence.target

owner-word : (owner : Option ℕ) → FitsOwner owner → IsOneWord (owner_words owner)
owner-word None fits = written (codes "none") refl
owner-word (Some owner) fits = one_number owner (omega (arith, fits))

state-word : (closing : Bool) → IsOneWord (state_words closing)
state-word false = written (codes "open") refl
state-word true = written (codes "closing") refl

fence-spells : (fence : Fence) → FitsFence fence → Spells (fence_words fence) (fence_pieces fence)
fence-spells fence fits =
    let owner = owner_words fence.owner in
    let grant = decimal fence.grant in
    let state = state_words fence.closing in
    let first = Spells-join owner grant (owner ∷ []) (grant ∷ []) (Spells-word owner (owner-word fence.owner fits.owner)) (Spells-word grant (one_number fence.grant (omega (arith, fits.grant)))) in
    let second = Spells-join ((owner ++ SPACE ∷ []) ++ grant) state (owner ∷ grant ∷ []) (state ∷ []) first (Spells-word state (state-word fence.closing)) in
    Spells-join ((((owner ++ SPACE ∷ []) ++ grant) ++ SPACE ∷ []) ++ state) (target_words fence.target) (owner ∷ grant ∷ state ∷ []) (target_pieces fence.target) second (target-spells fence.target fits.target)

lost-spells : (text : List ℕ) (pieces : Words) → Spells text pieces → Spells (codes "lost " ++ text) (codes "lost" ∷ pieces)
lost-spells text pieces rest = Spells-then (codes "lost") text pieces (written (codes "lost") refl) rest

seen-spells : (text : List ℕ) (pieces : Words) → Spells text pieces → Spells (codes "fence " ++ text) (codes "fence" ∷ pieces)
seen-spells text pieces rest = Spells-then (codes "fence") text pieces (written (codes "fence") refl) rest

owner-back : (owner : Option ℕ) → FitsOwner owner → owner_of (owner_words owner) ≡ Some owner
owner-back None fits = refl
owner-back (Some owner) fits =
    ap (λ b. cond b (Some None) (option_map Some (of_8 (decimal owner)))) (decimal-is_not owner (codes "none") (omega (arith, fits)) refl)
    ∙ ap (option_map Some) (of_8-decimal owner fits)

state-back : (closing : Bool) → state_of (state_words closing) ≡ Some closing
state-back false = refl
state-back true = refl

-- a fence is read back
fence-back : (fence : Fence) → FitsFence fence → fence_of (fence_pieces fence) ≡ Some fence
fence-back fence fits =
    four-back (λ owner grant closing named. let made : Fence = record { owner = owner; grant = grant; closing = closing; target = named } in made)
    (owner_of (owner_words fence.owner)) (of_32 (decimal fence.grant)) (state_of (state_words fence.closing)) (named_of (target_pieces fence.target))
    fence.owner fence.grant fence.closing fence.target
    (owner-back fence.owner fits.owner) (of_32-decimal fence.grant fits.grant) (state-back fence.closing) (named-back fence.target fits.target)

-- the words of an answer
abbrev answer_pieces : Answer → Words
answer_pieces Answer.Done = codes "done" ∷ []
answer_pieces Answer.Missed = codes "missed" ∷ []
answer_pieces Answer.Entered = codes "entered" ∷ []
answer_pieces (Answer.Lost fence) = codes "lost" ∷ fence_pieces fence
answer_pieces (Answer.Seen fence) = codes "fence" ∷ fence_pieces fence
answer_pieces (Answer.Number number) = decimal number ∷ []
answer_pieces Answer.Empty = codes "empty" ∷ []
answer_pieces (Answer.Entry number value) = codes "entry" ∷ decimal number ∷ decimal value ∷ []
answer_pieces Answer.Past = codes "past" ∷ []

answer-spells : (answer : Answer) → FitsAnswer answer → Spells (answer_words answer) (answer_pieces answer)
answer-spells Answer.Done fits = Spells-word (codes "done") (written (codes "done") refl)
answer-spells Answer.Missed fits = Spells-word (codes "missed") (written (codes "missed") refl)
answer-spells Answer.Entered fits = Spells-word (codes "entered") (written (codes "entered") refl)
answer-spells (Answer.Lost fence) fits = lost-spells (fence_words fence) (fence_pieces fence) (fence-spells fence fits)
answer-spells (Answer.Seen fence) fits = seen-spells (fence_words fence) (fence_pieces fence) (fence-spells fence fits)
answer-spells (Answer.Number number) fits = Spells-word (decimal number) (one_number number fits)
answer-spells Answer.Empty fits = Spells-word (codes "empty") (written (codes "empty") refl)
answer-spells (Answer.Entry number value) fits =
    let first = Spells-then (codes "entry") (decimal number) (decimal number ∷ []) (written (codes "entry") refl) (Spells-word (decimal number) (one_number number (omega (arith, fits.0)))) in
    Spells-join (codes "entry " ++ decimal number) (decimal value) (codes "entry" ∷ decimal number ∷ []) (decimal value ∷ []) first (Spells-word (decimal value) (one_number value (omega (arith, fits.1))))
answer-spells Answer.Past fits = Spells-word (codes "past") (written (codes "past") refl)

-- a number is none of the answers that are names
number-back : (n : ℕ) → n < 2 ^ 64 → answer_of (decimal n ∷ []) ≡ Some (Answer.Number n)
number-back n fits =
    by_tests (bytes_eq (decimal n) (codes "done")) (bytes_eq (decimal n) (codes "missed")) (bytes_eq (decimal n) (codes "entered")) (bytes_eq (decimal n) (codes "empty")) (bytes_eq (decimal n) (codes "past"))
    (decimal-is_not n (codes "done") fits refl) (decimal-is_not n (codes "missed") fits refl) (decimal-is_not n (codes "entered") fits refl) (decimal-is_not n (codes "empty") fits refl) (decimal-is_not n (codes "past") fits refl)
    ∙ ap (option_map Answer.Number) (of_64-decimal n fits)
  where
    by_tests : (a b c d e : Bool) → a ≡ false → b ≡ false → c ≡ false → d ≡ false → e ≡ false
        → cond a (Some Answer.Done) (cond b (Some Answer.Missed) (cond c (Some Answer.Entered) (cond d (Some Answer.Empty) (cond e (Some Answer.Past) (option_map Answer.Number (of_64 (decimal n)))))))
        ≡ option_map Answer.Number (of_64 (decimal n))
    by_tests false false false false false p q r s t = refl
    by_tests true b c d e p q r s t = cc
    by_tests false true c d e p q r s t = cc
    by_tests false false true d e p q r s t = cc
    by_tests false false false true e p q r s t = cc
    by_tests false false false false true p q r s t = cc

-- an answer is read back
answer-back : (answer : Answer) → FitsAnswer answer → answer_of (answer_pieces answer) ≡ Some answer
answer-back Answer.Done fits = refl
answer-back Answer.Missed fits = refl
answer-back Answer.Entered fits = refl
answer-back (Answer.Lost fence) fits = ap (option_map Answer.Lost) (fence-back fence fits)
answer-back (Answer.Seen fence) fits = ap (option_map Answer.Seen) (fence-back fence fits)
answer-back (Answer.Number number) fits = number-back number fits
answer-back Answer.Empty fits = refl
answer-back (Answer.Entry number value) fits = two-back Answer.Entry (of_32 (decimal number)) (of_16 (decimal value)) number value (of_32-decimal number fits.0) (of_16-decimal value fits.1)
answer-back Answer.Past fits = refl

-- the first `=` stands behind words that are none
sides-front : (front back : Words) → NoEquals front → sides (front ++ codes "=" ∷ back) ≡ Some (front, back)
sides-front [] back none = refl
sides-front (word ∷ front) back none =
    ap (λ b. cond b (Some ([], front ++ codes "=" ∷ back)) (option_map (put_before word) (sides (front ++ codes "=" ∷ back)))) (All-head (λ word. bytes_eq word (codes "=") ≡ false) word front none)
    ∙ ap (option_map (put_before word)) (sides-front front back (All-tail (λ word. bytes_eq word (codes "=") ≡ false) word front none))

-- the words of an event
abbrev event_pieces : Event → Words
event_pieces event = (decimal event.by ∷ verb_pieces event.verb) ++ codes "=" ∷ answer_pieces event.answer

-- two texts with a `=` between them have the words of both, and the `=`
equals-between : (first second : List ℕ) (front back : Words) → Spells first front → Spells second back → Spells ((first ++ codes " = ") ++ second) (front ++ codes "=" ∷ back)
equals-between first second front back a b =
    subst (λ text. Spells text (front ++ codes "=" ∷ back)) (sym (append_assoc first (codes " = ") second))
    (Spells-more first (codes "=" ++ SPACE ∷ second) front (codes "=" ∷ back) a (Spells-then (codes "=") second back (written (codes "=") refl) b))

pub event_line-spells : (event : Event) → FitsEvent event → Spells (event_line event) (event_pieces event)
event_line-spells event fits =
    let by = decimal event.by in
    let made = Spells-join by (verb_words event.verb) (by ∷ []) (verb_pieces event.verb) (Spells-word by (one_number event.by (omega (arith, fits.by)))) (verb-spells event.verb fits.verb) in
    equals-between ((by ++ SPACE ∷ []) ++ verb_words event.verb) (answer_words event.answer) (by ∷ verb_pieces event.verb) (answer_pieces event.answer) made (answer-spells event.answer fits.answer)

-- the words of an event's line are read back as the event
pub event-back : (replicas : ℕ) (event : Event) → IsSpelled replicas event → event_of replicas (words (event_line event)) ≡ Some event
event-back replicas event is =
    let front : NoEquals (decimal event.by ∷ verb_pieces event.verb) =
    All-cons (λ word. bytes_eq word (codes "=") ≡ false) (decimal event.by) (verb_pieces event.verb) (decimal-is_not event.by (codes "=") (omega (arith, is.fits.by)) refl) (no_equals (verb_pieces event.verb) (verb-pieces event.verb is.fits.verb)) in
    ap (event_of replicas) (event_line-spells event is.fits).alone
    ∙ ap (event_between replicas) (sides-front (decimal event.by ∷ verb_pieces event.verb) (answer_pieces event.answer) front)
    ∙ three-back (λ by made answer. let event : Event = record { by = by; verb = made; answer = answer } in event)
    (below replicas (wide_number_of (decimal event.by))) (verb_of (verb_pieces event.verb)) (answer_of (answer_pieces event.answer)) event.by event.verb event.answer
    (wide_below-decimal replicas event.by is.known (omega (arith, is.fits.by))) (verb-back event.verb is.fits.verb is.enters) (answer-back event.answer is.fits.answer)

-- no event is the one word at the end of a trace
pub event_line-is_not : (event : Event) → FitsEvent event → bytes_eq (event_line event) (codes "end") ≡ false
event_line-is_not event fits = by_test (bytes_eq (event_line event) (codes "end")) refl
  where
    by_test : (b : Bool) → bytes_eq (event_line event) (codes "end") ≡ b → b ≡ false
    by_test true e =
        let same : event_line event ≡ codes "end" = (bytes_eq-Decides (event_line event) (codes "end")).0 e in
        let one : event_pieces event ≡ codes "end" ∷ [] = sym (event_line-spells event fits).alone ∙ ap words same ∙ (Spells-word (codes "end") (written (codes "end") refl)).alone in
        absurd (omega (arith, ap length one, length-append (verb_pieces event.verb) (codes "=" ∷ answer_pieces event.answer)))
    by_test false e = refl
