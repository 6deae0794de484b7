-- What is given at each place of the round.
use Rattle.std.proofs.Common.{List, None, Some, true, ℕ, ◌<◌, ◌≡◌, length, refl, sym, ◌∙◌}
use Rattle.std.specs.declared.option.Option.{Option}
use Rattle.mu_model.specs.declared.config.Config.{Config}
use Rattle.mu_model.specs.declared.event.Event.{Event}
use Rattle.mu_model.specs.declared.event.Verb.{Verb}
use Rattle.mu_model.specs.Allowed.{Needs}
use Rattle.mu_grant.specs.Stands.{Gives, is_of_place}
use Rattle.mu_model.proofs.Basics.{same_some}

-- what is needed of a verb that is given while a step is left
pub gives : (c : Config) (r : ℕ) (mine : List Event) (place : ℕ) (due : Option Verb) → length mine < c.budget → r < c.replicas
    → ((v : Verb) → due ≡ Some v → (is_of_place place v ≡ true) × Needs c r mine v) → (due ≡ None → (v : Verb) → is_of_place place v ≡ true → Needs c r mine v → ⊥) → Gives c r mine place due
gives c r mine place due left inside given none = record {
  given = λ verb is. ((given verb is).0, record { budget = left; replica = inside; may = (given verb is).1 });
  none = λ is verb placed allowed. none is verb placed allowed.may;
}

-- the verb of place 1
pub of_look : (verb : Verb) → is_of_place 1 verb ≡ true → Verb.LookTarget ≡ verb
of_look Verb.LookTarget placed = refl
of_look verb placed = cc

-- the verb of place 2
pub of_drain : (verb : Verb) → is_of_place 2 verb ≡ true → Verb.Drain ≡ verb
of_drain Verb.Drain placed = refl
of_drain verb placed = cc

-- the verbs of place 3
pub of_grant : (verb : Verb) → is_of_place 3 verb ≡ true → (w : ℕ) × (verb ≡ Verb.Grant w)
of_grant (Verb.Grant w) placed = (w, refl)
of_grant verb placed = cc

-- something isn't nothing
pub not_none : {A : Type 0} (x : A) (o : Option A) → o ≡ None → o ≡ Some x → ⊥
not_none x o none some = cc

-- a grant that is given is to the next owner
pub grant_given : (next : Option ℕ) (due : Option Verb) (verb : Verb) → ((q : ℕ) → next ≡ Some q → due ≡ Some (Verb.Grant q)) → (next ≡ None → due ≡ None) → due ≡ Some verb → (w : ℕ) × (next ≡ Some w) × (Verb.Grant w ≡ verb)
grant_given None due verb some none is = absurd (not_none verb due (none refl) is)
grant_given (Some w) due verb some none is = (w, refl, same_some (Verb.Grant w) verb (sym (some w refl) ∙ is))
