-- The words before and after the first `=`, one more at a time.
use Rattle.std.proofs.Common.{◌≡◌, ℕ, ◌<◌, ◌+◌, Bor, Bool, length, map, take, slice_set, true, false, cond, List, [], ◌∷◌, ◌++◌, None, Some, refl, sym, ap, ◌∙◌, append_assoc}
use Rattle.std.proofs.lemmas.Grind.{take-set_at}
use Rattle.std.proofs.lemmas.List.{map-append}
use Rattle.std.specs.Option.{option_map}
use Rattle.std.specs.Str.{bytes_eq}
use Rattle.std.specs.Prelude.{codes}
use Rattle.std.specs.declared.option.Option.{Option}
use Rattle.mu_model.specs.declared.event.Verb.{Verb}
use Rattle.mu_events.specs.Events.{answer_of, sides, verb_of}
use Rattle.mu_events.specs.Steps.{both, step_after}

abbrev pub Words : Type 0
Words = List (List ℕ)

-- both sides of a `=`, after one more word before it
abbrev pub put_before : List ℕ → (Words × Words) → (Words × Words)
put_before word parts = (word ∷ parts.0, parts.1)

sides-step : (word : List ℕ) (words : Words) (is : Bool) → bytes_eq word (codes "=") ≡ is → sides (word ∷ words) ≡ cond is (Some ([], words)) (option_map (put_before word) (sides words))
sides-step word words is e = ap (λ b. cond b (Some ([], words)) (option_map (put_before word) (sides words))) e

-- a word before the `=` is one more of the first words
moved : (first : Words) (word : List ℕ) (sides : Option (Words × Words)) → step_after first (option_map (put_before word) sides) ≡ step_after (first ++ word ∷ []) sides
moved first word None = refl
moved first word (Some (others, answer)) = ap (λ words. both (verb_of words) (answer_of answer)) (sym (append_assoc first (word ∷ []) others))

-- another word belongs to the verb
pub step-other : (first text : Words) (word : List ℕ) (words : Words) → text ≡ word ∷ words → bytes_eq word (codes "=") ≡ false
    → step_after first (sides text) ≡ step_after (first ++ word ∷ []) (sides words)
step-other first text word words e other = ap (λ text. step_after first (sides text)) e ∙ ap (step_after first) (sides-step word words false other) ∙ moved first word (sides words)

both-none : (verb : Option Verb) → both verb None ≡ None
both-none None = refl
both-none (Some verb) = refl

last : (first : Words) (word : List ℕ) (is : Bool) → bytes_eq word (codes "=") ≡ is → step_after first (sides (word ∷ [])) ≡ None
last first word true is = ap (step_after first) (sides-step word [] true is) ∙ both-none (verb_of (first ++ []))
last first word false is = ap (step_after first) (sides-step word [] false is)

-- a line doesn't end before its answer
pub step-ends : (first text : Words) (word : List ℕ) → text ≡ word ∷ [] → step_after first (sides text) ≡ None
step-ends first text word e = ap (λ text. step_after first (sides text)) e ∙ last first word (bytes_eq word (codes "=")) refl

-- what borrowed words say
abbrev pub said : List (Bor (List ℕ)) → Words
said words = map (λ (word : Bor (List ℕ)). word.now) words

-- one more of the words so far
pub said-more : (items : List (Bor (List ℕ))) (i : ℕ) (word : Bor (List ℕ)) → i < length items → said (take (i + 1) (slice_set items i word)) ≡ said (take i items) ++ word.now ∷ []
said-more items i word below = ap said (take-set_at items i (i + 1) word refl below) ∙ map-append (λ (word : Bor (List ℕ)). word.now) (take i items) (word ∷ [])
