-- The event of a line, from the replica and the step that follows it.
use Rattle.std.proofs.Common.{◌≡◌, ℕ, Bool, true, false, cond, List, [], ◌∷◌, None, Some, refl, sym, ap, ◌∙◌}
use Rattle.std.specs.Option.{option_map}
use Rattle.std.specs.Str.{bytes_eq}
use Rattle.std.specs.Prelude.{codes}
use Rattle.std.specs.declared.option.Option.{Option}
use Rattle.std.proofs.lemmas.Slice.Eq.{bytes_eq-Decides}
use Rattle.mu_model.specs.declared.event.Answer.{Answer}
use Rattle.mu_model.specs.declared.event.Event.{Event}
use Rattle.mu_model.specs.declared.event.Verb.{Verb}
use Rattle.mu_events.specs.Events.{answer_of, event_between, event_of, of_three, of_two, sides, verb_of}
use Rattle.mu_events.specs.Steps.{both, step_after}
use Rattle.mu_events.proofs.Sides.{Words, put_before, step-other}
use Rattle.mu_text.specs.Numbers.{below, wide_number_of}

-- no verb begins with a `=`
step-equals_first : (sides : Option (Words × Words)) → step_after (codes "=" ∷ []) sides ≡ None
step-equals_first None = refl
step-equals_first (Some (others, answer)) = refl

equals : (word : List ℕ) → bytes_eq word (codes "=") ≡ true → word ≡ codes "="
equals word is = (bytes_eq-Decides word (codes "=")).0 is

named : (name : List ℕ) (words : Words) (is : Bool) → bytes_eq name (codes "=") ≡ is → step_after [] (sides (name ∷ words)) ≡ step_after (name ∷ []) (sides words)
named name words true is =
    ap (step_after []) (ap (λ b. cond b (Some ([], words)) (option_map (put_before name) (sides words))) is)
    ∙ sym (ap (λ name. step_after (name ∷ []) (sides words)) (equals name is) ∙ step-equals_first (sides words))
named name words false is = step-other [] (name ∷ words) name words refl is

-- a step begins with the name of its verb
pub step-named : (text : Words) (name : List ℕ) (words : Words) → text ≡ name ∷ words → step_after [] (sides text) ≡ step_after (name ∷ []) (sides words)
step-named text name words e = ap (λ text. step_after [] (sides text)) e ∙ named name words (bytes_eq name (codes "=")) refl

-- a replica and its step, if both are there
abbrev pub made : Option ℕ → Option (Verb × Answer) → Option Event
made by step = of_two (λ by step. record { by = by; verb = step.0; answer = step.1 }) by step

made-three : (by : Option ℕ) (verb : Option Verb) (answer : Option Answer)
    → of_three (λ by verb answer. record { by = by; verb = verb; answer = answer }) by verb answer ≡ made by (both verb answer)
made-three None verb answer = refl
made-three (Some by) None answer = refl
made-three (Some by) (Some verb) None = refl
made-three (Some by) (Some verb) (Some answer) = refl

made-none : (by : Option ℕ) → made by None ≡ None
made-none None = refl
made-none (Some by) = refl

between : (replicas : ℕ) (by : List ℕ) (sides : Option (Words × Words)) → event_between replicas (option_map (put_before by) sides) ≡ made (below replicas (wide_number_of by)) (step_after [] sides)
between replicas by None = sym (made-none (below replicas (wide_number_of by)))
between replicas by (Some (verb, answer)) = made-three (below replicas (wide_number_of by)) (verb_of verb) (answer_of answer)

event-either : (replicas : ℕ) (by : List ℕ) (words : Words) (is : Bool) → bytes_eq by (codes "=") ≡ is → event_of replicas (by ∷ words) ≡ made (below replicas (wide_number_of by)) (step_after [] (sides words))
event-either replicas by words true is =
    ap (event_between replicas) (ap (λ b. cond b (Some ([], words)) (option_map (put_before by) (sides words))) is)
    ∙ sym (ap (λ by. made (below replicas (wide_number_of by)) (step_after [] (sides words))) (equals by is))
event-either replicas by words false is =
    ap (event_between replicas) (ap (λ b. cond b (Some ([], words)) (option_map (put_before by) (sides words))) is)
    ∙ between replicas by (sides words)

-- an event is a replica and its step
event-made : (replicas : ℕ) (text : Words) (by : List ℕ) (words : Words) → text ≡ by ∷ words → event_of replicas text ≡ made (below replicas (wide_number_of by)) (step_after [] (sides words))
event-made replicas text by words e = ap (event_of replicas) e ∙ event-either replicas by words (bytes_eq by (codes "=")) refl

pub event-is : (replicas : ℕ) (text : Words) (by : List ℕ) (words : Words) (r : ℕ) (step : Verb × Answer) → text ≡ by ∷ words → Some r ≡ below replicas (wide_number_of by) → Some step ≡ step_after [] (sides words)
    → Some (record { by = r; verb = step.0; answer = step.1 }) ≡ event_of replicas text
event-is replicas text by words r step e is_by is_step =
    ap (λ by. made by (Some step)) is_by ∙ ap (made (below replicas (wide_number_of by))) is_step ∙ sym (event-made replicas text by words e)

pub event-none : (replicas : ℕ) (text : Words) (by : List ℕ) (words : Words) → text ≡ by ∷ words → None ≡ step_after [] (sides words) → None ≡ event_of replicas text
event-none replicas text by words e none = let by_of = below replicas (wide_number_of by) in sym (event-made replicas text by words e ∙ ap (made by_of) (sym none) ∙ made-none by_of)
