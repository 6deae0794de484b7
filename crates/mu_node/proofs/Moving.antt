-- What holds of a node that took the event of a step holds of the part that the port has after it.
use Rattle.std.proofs.Common.{◌≡◌, ℕ, List, ◌∷◌, ◌∙◌, ap, sym, subst}
use Rattle.mu_model.specs.declared.config.Config.{Config}
use Rattle.mu_model.specs.declared.event.Answer.{Answer}
use Rattle.mu_model.specs.declared.event.Event.{Event}
use Rattle.mu_model.specs.declared.event.Verb.{Verb}
use Rattle.mu_model.specs.Parts.{IsPossible}
use Rattle.mu_model.specs.Histories.{event_by}

-- what holds of the configuration, the number and the part of the port holds of those of the node
pub to_own : {k own : Config} {n id : ℕ} {part mine : List Event} (F : Config → ℕ → List Event → Type 0) → own ≡ k → id ≡ n → part ≡ mine → F k n part → F own id mine
to_own {own = own} {n = n} {id = id} {part = part} F same_k same_n same_p it = subst (λ l. F own id l) same_p (subst (λ i. F own i part) (sym same_n) (subst (λ x. F x n part) (sym same_k) it))

-- and back
pub to_port : {k own : Config} {n id : ℕ} {part mine : List Event} (F : Config → ℕ → List Event → Type 0) → own ≡ k → id ≡ n → part ≡ mine → F own id mine → F k n part
to_port {own = own} {n = n} {id = id} {part = part} F same_k same_n same_p it = subst (λ x. F x n part) same_k (subst (λ i. F own i part) same_n (subst (λ l. F own id l) (sym same_p) it))

-- what is possible after the step for the port is so for the node
pub possible_own : (k0 k1 own : Config) (n0 n1 id : ℕ) (part mine now : List Event) (verb made : Verb) (answer : Answer) → k1 ≡ k0 → n1 ≡ n0 → own ≡ k0 → id ≡ n0 → part ≡ mine → verb ≡ made → now ≡ event_by n0 verb answer ∷ part
    → IsPossible k1 n1 now → IsPossible own id (event_by id made answer ∷ mine)
possible_own k0 k1 own n0 n1 id part mine now verb made answer same_k same_n same_own same_id same_part same_verb is possible =
    let whole : now ≡ event_by id made answer ∷ mine =
    is ∙ (ap (λ v. event_by n0 v answer ∷ part) same_verb ∙ (ap (λ i. event_by i made answer ∷ part) (sym same_id) ∙ ap (λ l. event_by id made answer ∷ l) same_part)) in
    to_own IsPossible (same_own ∙ sym same_k) (same_id ∙ sym same_n) whole possible

-- what a node promises of its own configuration and id holds of those of the port
pub moved : (F : Config → ℕ → List Event → Type 0) (k0 k1 own : Config) (n0 n1 id : ℕ) (part mine now : List Event) (verb made : Verb) (answer : Answer)
    → k1 ≡ k0 → n1 ≡ n0 → own ≡ k0 → id ≡ n0 → part ≡ mine → verb ≡ made → now ≡ event_by n0 verb answer ∷ part → IsPossible k1 n1 now
    → (IsPossible own id (event_by id made answer ∷ mine) → F own id (event_by id made answer ∷ mine)) → F k1 n1 now
moved F k0 k1 own n0 n1 id part mine now verb made answer same_k same_n same_own same_id same_part same_verb is possible step =
    let whole : now ≡ event_by id made answer ∷ mine =
    is ∙ (ap (λ v. event_by n0 v answer ∷ part) same_verb ∙ (ap (λ i. event_by i made answer ∷ part) (sym same_id) ∙ ap (λ l. event_by id made answer ∷ l) same_part)) in
    to_port F (same_own ∙ sym same_k) (same_id ∙ sym same_n) whole
    (step (possible_own k0 k1 own n0 n1 id part mine now verb made answer same_k same_n same_own same_id same_part same_verb is possible))
