-- The events of a legal list, each of numbers that fit their types, are such as lines spell.
use Rattle.std.proofs.Common.{◌≡◌, ℕ, ◌-◌, ◌<◌, List, [], ◌∷◌, length, get_or, ap, subst, ◌∙◌, arith}
use Rattle.std.specs.List.{All}
use Rattle.std.specs.Prelude.{reverse}
use Rattle.std.proofs.lemmas.List.{get_or-reverse, length-reverse}
use Rattle.std.proofs.lemmas.List.Elements.{All-cons, All-nil}
use Rattle.mu_model.specs.Allowed.{Needs}
use Rattle.mu_model.specs.Histories.{history, part}
use Rattle.mu_model.specs.Legal.{IsLegal, IsLegalHistory}
use Rattle.mu_model.specs.declared.config.Config.{Config}
use Rattle.mu_model.specs.declared.event.Event.{Event}
use Rattle.mu_model.specs.declared.event.Target.TheVariants as target
use Rattle.mu_model.specs.declared.event.Verb.{Verb}
use Rattle.mu_model.specs.declared.event.Verb.TheVariants as verb
use Rattle.mu_model.specs.Ranges.{FitsEvent}
use Rattle.mu_events.specs.Lines.{EntersForWord, IsSpelled}

-- a verb that is allowed enters for a word
enters : (c : Config) (r : ℕ) (past : List Event) (made : Verb) → Needs c r past made → EntersForWord made
enters c r past (verb.Enter p target.None) needs = needs.1.0
enters c r past (verb.Enter p target.Min) needs = tt
enters c r past (verb.Enter p (target.Place s)) needs = tt
enters c r past _ needs = tt

-- made by a replica that there is, and for a word if it enters
abbrev IsMade : Config → Event → Type 0
IsMade c event = (event.by < c.replicas) × EntersForWord event.verb

made-history : (c : Config) (past : List Event) → IsLegalHistory c past → All (IsMade c) past
made-history c [] legal = All-nil (IsMade c)
made-history c (event ∷ past) legal =
    All-cons (IsMade c) event past (legal.1.allowed.replica, enters c event.by (part event.by past) event.verb legal.1.allowed.may) (made-history c past legal.0)

All-from_reverse : {A : Type 0} (P : A → Type 0) (xs : List A) → All P (reverse xs) → All P xs
All-from_reverse P xs all k d below =
    let place = length xs - 1 - k in
    let back : length xs - 1 - (length xs - 1 - k) ≡ k = omega (arith, below) in
    let there : place < length (reverse xs) = omega (arith, length-reverse xs, below) in
    subst P (get_or-reverse xs (length xs - 1 - k) d (omega (arith, below)) ∙ ap (λ j. get_or xs j d) back) (all (length xs - 1 - k) d there)

pub spelled-legal : (c : Config) (events : List Event) → IsLegal c events → All FitsEvent events → All (IsSpelled c.replicas) events
spelled-legal c events legal fits k d below =
    let made = All-from_reverse (IsMade c) events (made-history c (history events) legal) k d below in
    record { known = made.0; fits = fits k d below; enters = made.1 }
