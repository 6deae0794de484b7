-- How the known list grows.
use Rattle.std.proofs.Common.{◌≡◌, ℕ, Bool, true, false, cond, ◌&&◌, ◌==◌, List, [], ◌∷◌, ◌++◌, refl, sym, ◌∙◌, ap, Some, None, length, eqb-true, subst}
use Rattle.std.specs.declared.option.Option.{Option}
use Rattle.std.proofs.lemmas.List.{append-nil, append_assoc}
use Rattle.std.proofs.lemmas.Bool.{and_parts}
use Rattle.mu_model.specs.declared.config.Config.{Config}
use Rattle.mu_model.specs.declared.event.Event.{Event}
use Rattle.mu_model.specs.declared.event.Verb.{Verb}
use Rattle.mu_model.specs.declared.event.Answer.{Answer}
use Rattle.mu_model.specs.Knowledge.{grown, is_accepted_by_all, is_known_decided, known, learnt_by}
use Rattle.mu_model.proofs.Basics.{same_some}
use Rattle.mu_model.specs.Histories.{IsPrefixOf}

grown_begins : (xs ys : List ℕ) (o : Option ℕ) → IsPrefixOf xs ys → IsPrefixOf xs (grown ys o)
grown_begins xs ys None b = b
grown_begins xs ys (Some v) b = (b.0 ++ v ∷ [], ap (λ z. z ++ v ∷ []) b.1 ∙ append_assoc xs b.0 (v ∷ []))

-- what is known stays known
pub known_stays : (c : Config) (r : ℕ) (newer older : List Event) → IsPrefixOf (known c r older) (known c r (newer ++ older))
known_stays c r [] older = ([], sym (append-nil (known c r older)))
known_stays c r (e ∷ newer) older =
    grown_begins (known c r older) (known c r (newer ++ older)) (learnt_by c r (newer ++ older) (length (known c r (newer ++ older))) e.by e.verb e.answer (e ∷ (newer ++ older))) (known_stays c r newer older)

-- why a step teaches v at the next position
pub data Teaches (c : Config) (r : ℕ) (past now : List Event) (i v by : ℕ) : Verb → Answer → Type 0 where
  by_put : {p b : ℕ} → (by == r) ≡ true → is_accepted_by_all c r now i b v ≡ true → Teaches c r past now i v by (Verb.PutSlot p i b v) Answer.Done
  by_look : {p b : ℕ} → (by == r) ≡ true → is_known_decided r past p i ≡ true → Teaches c r past now i v by (Verb.Look p i) (Answer.Entry b v)

pub teaches : (c : Config) (r i v by : ℕ) (verb : Verb) (a : Answer) (past now : List Event) → learnt_by c r past i by verb a now ≡ Some v → Teaches c r past now i v by verb a
teaches c r i v by (Verb.PutSlot p j b w) Answer.Done past now = go ((by == r) && ((j == i) && is_accepted_by_all c r now j b w)) refl
  where
    go : (t : Bool) → ((by == r) && ((j == i) && is_accepted_by_all c r now j b w)) ≡ t → cond t (Some w) None ≡ Some v → Teaches c r past now i v by (Verb.PutSlot p j b w) Answer.Done
    go false h e = cc
    go true h e =
        let first = and_parts (by == r) ((j == i) && is_accepted_by_all c r now j b w) h in
        let second = and_parts (j == i) (is_accepted_by_all c r now j b w) first.1 in
        subst (λ z. Teaches c r past now i z by (Verb.PutSlot p j b w) Answer.Done) (same_some w v e)
        (subst (λ z. Teaches c r past now z w by (Verb.PutSlot p j b w) Answer.Done) (eqb-true j i second.0) (by_put first.0 second.1))
teaches c r i v by (Verb.Look p j) (Answer.Entry b w) past now = go ((by == r) && ((j == i) && is_known_decided r past p j)) refl
  where
    go : (t : Bool) → ((by == r) && ((j == i) && is_known_decided r past p j)) ≡ t → cond t (Some w) None ≡ Some v → Teaches c r past now i v by (Verb.Look p j) (Answer.Entry b w)
    go false h e = cc
    go true h e =
        let first = and_parts (by == r) ((j == i) && is_known_decided r past p j) h in
        let second = and_parts (j == i) (is_known_decided r past p j) first.1 in
        subst (λ z. Teaches c r past now i z by (Verb.Look p j) (Answer.Entry b w)) (same_some w v e)
        (subst (λ z. Teaches c r past now z w by (Verb.Look p j) (Answer.Entry b w)) (eqb-true j i second.0) (by_look first.0 second.1))
teaches c r i v by verb a past now = λ e. cc
