-- Rows of the table, and what is found in it.
use Rattle.std.proofs.Common.{◌≡◌, ◌<◌, ◌+◌, ◌++◌, codes, length-append, ◌*◌, ◌&&◌, nat_le, ℕ, Bool, true, false, cond, List, [], ◌∷◌, Bor, None, Some, length, map, refl, sym, ap, subst, ◌∙◌, arith}
use Rattle.std.specs.List.{find, list_all}
use Rattle.std.specs.Option.{IfSome, option_and_then, option_map}
use Rattle.std.specs.Str.{bytes_eq}
use Rattle.std.specs.declared.option.Option.{Option}
use Rattle.std.proofs.lemmas.Bool.{and_parts}
use Rattle.std.proofs.lemmas.Bool.Decides.{nat_tests}
use Rattle.mu_events.proofs.Sides.{Words, step-other}
use Rattle.mu_events.specs.Events.{answer_of, read_fields, sides, target_of, verb_as, with_target, with_word}
use Rattle.mu_events.specs.Steps.{both, step_after}
use Rattle.mu_events.specs.Table.{IsShort, Parts, Row, most_words, passed, row_named, rows}
use Rattle.mu_model.specs.Packing.{fields, verb_in}
use Rattle.mu_events.specs.declared.table.Field.{Field}

abbrev Passed : Type 0
Passed = ℕ × Bor (List ℕ) × Bor (List Field) × Bor (List ℕ)

passed_first : (b : Bool) (row : Passed) (found : Option Passed) (next : Option Row) → option_map passed found ≡ next → option_map passed (cond b (Some row) found) ≡ cond b (Some (passed row)) next
passed_first true row found next same = refl
passed_first false row found next same = same

-- what is found among rows as they are passed is found among the rows
pub found_passed : (test : Row → Bool) (given : List Passed) → option_map passed (find (λ row. test (passed row)) given) ≡ find test (map passed given)
found_passed test [] = refl
found_passed test (row ∷ given) = passed_first (test (passed row)) row (find (λ row. test (passed row)) given) (find test (map passed given)) (found_passed test given)

-- a row has room
abbrev has_room : Row → Bool
has_room row = nat_le (length row.name + 21 * most_words row.order) 91 && nat_le (length row.name + length row.behind) 110

short : (row : Row) → has_room row ≡ true → IsShort row
short row room =
    let both = and_parts (nat_le (length row.name + 21 * most_words row.order) 91) (nat_le (length row.name + length row.behind) 110) room in
    record { words = (let few = both.0 in grind (arith, nat_tests)); said = (let few = both.1 in grind (arith, nat_tests)) }

short_first : (b : Bool) (row : Row) (found : Option Row) → has_room row ≡ true → IfSome found IsShort → IfSome (cond b (Some row) found) IsShort
short_first true row found room next = short row room
short_first false row found room next = next

all_found : (test : Row → Bool) (among : List Row) → list_all has_room among ≡ true → IfSome (find test among) IsShort
all_found test [] all = tt
all_found test (row ∷ among) all = let both = and_parts (has_room row) (list_all has_room among) all in short_first (test row) row (find test among) both.0 (all_found test among both.1)

-- a row that is found is short
pub short_passed : (test : Row → Bool) (row : Option Passed) → option_map passed row ≡ find test rows → IfSome row (λ row. IsShort (passed row))
short_passed test None is = tt
short_passed test (Some row) is = subst (λ row. IfSome row IsShort) (sym is) (all_found test rows refl)

-- words that are more than fields have spell none
many_for_target : (words : Words) → 2 < length words → target_of words ≡ None
many_for_target [] more = absurd (omega (arith, more))
many_for_target (a ∷ []) more = absurd (omega (arith, more))
many_for_target (a ∷ b ∷ []) more = absurd (omega (arith, more))
many_for_target (a ∷ b ∷ c ∷ words) more = refl

none_next : (next : Parts → Option Parts) (parts : Option Parts) → ((parts : Parts) → next parts ≡ None) → option_and_then next parts ≡ None
none_next next None none = refl
none_next next (Some parts) none = none parts

too_many : (order : List Field) (words : Words) (parts : Parts) → most_words order < length words → read_fields order words parts ≡ None
too_many [] [] parts more = absurd (omega (arith, more))
too_many [] (word ∷ words) parts more = refl
too_many (Field.Target ∷ order) words parts more = ap (option_map (with_target parts)) (many_for_target words more)
too_many (field ∷ order) [] parts more = absurd (omega (arith, more))
too_many (field ∷ order) (word ∷ words) parts more = none_next (read_fields order words) (with_word field word parts) (λ parts. too_many order words parts (omega (arith, more)))

many_for_row : (row : Option Row) (words : Words) → IfSome row IsShort → 4 < length words → verb_as row words ≡ None
many_for_row None words short more = refl
many_for_row (Some row) words short more =
    let few = short.words in
    ap (option_map (λ (parts : Parts). verb_in parts.0 parts.1)) (too_many row.order words (fields row.number 0 0 0, 0) (omega (arith, few, more)))

after_many : (name : List ℕ) (first : Words) (sides : Option (Words × Words)) → 4 < length first → step_after (name ∷ first) sides ≡ None
after_many name first None more = refl
after_many name first (Some (others, answer)) more =
    let long = length-append first others in
    ap (λ verb. both verb (answer_of answer)) (many_for_row (row_named name) (first ++ others) (all_found (λ row. bytes_eq name row.name) rows refl) (omega (arith, long, more)))

-- no verb has five words behind its name
pub step_many : (name : List ℕ) (first text : Words) (word : List ℕ) (words : Words) → text ≡ word ∷ words → bytes_eq word (codes "=") ≡ false → 3 < length first → None ≡ step_after (name ∷ first) (sides text)
step_many name first text word words is other more =
    let long = length-append first (word ∷ []) in
    sym (step-other (name ∷ first) text word words is other ∙ after_many name (first ++ word ∷ []) (sides words) (omega (arith, long, more)))
