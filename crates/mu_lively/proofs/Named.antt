-- A leader leads in the background only if the scores named its replica in the turn before.
use Rattle.std.proofs.Common.{Bool, List, [], ap, arith, false, inl, inr, length, refl, suc, sym, true, true≢false, ℕ, ◌%◌, ◌&&◌, ◌∙◌, ◌∷◌, ◌≡◌}
use Rattle.std.proofs.lemmas.Bool.{cases_eq, eq-eqb}
use Rattle.mu_model.specs.declared.config.Config.{Config}
use Rattle.mu_model.specs.declared.event.Event.{Event}
use Rattle.mu_model.specs.Steps.{is_named}
use Rattle.mu_model.specs.Stretches.{is_odd}
use Rattle.mu_agree.specs.Moments.{is_named_turn}
use Rattle.mu_lead.specs.Beside.{leads_at}
use Rattle.mu_lead.specs.Journal.{place_after}
use Rattle.mu_lead.proofs.Folding.{unnamed_place}

-- the last event is a turn of the leader before which the scores named r
abbrev pub was_named : Config → ℕ → List Event → Bool
was_named c r [] = false
was_named c r (e ∷ mine) = is_named_turn c r mine e

-- an odd number comes after an even one
odd_next : (n : ℕ) → is_odd n ≡ false → is_odd (suc n) ≡ true
odd_next n even = elim (cases_eq (n % 2) 1) [ inl one ↦ absurd (true≢false (sym (eq-eqb (n % 2) 1 one) ∙ even)) | inr other ↦ eq-eqb (suc n % 2) 1 (omega (arith, other)) ]

-- after a turn in which another is named the leader is at its first ask, where it doesn't lead
pub led_named : (c : Config) (r : ℕ) (mine : List Event) → is_odd (length mine) ≡ false → leads_at (place_after c r mine) ≡ true → was_named c r mine ≡ true
led_named c r [] even leads = absurd (true≢false (sym leads))
led_named c r (e ∷ past) even leads = go (is_odd (length past)) refl (is_named c r past) refl
  where
    go : (t : Bool) → is_odd (length past) ≡ t → (u : Bool) → is_named c r past ≡ u → was_named c r (e ∷ past) ≡ true
    go true odd true named = ap (λ t. t && is_named c r past) odd ∙ named
    go true odd false other = absurd (true≢false (sym leads ∙ ap leads_at (unnamed_place c r past e odd other)))
    go false none u named = absurd (true≢false (sym (odd_next (length past) none) ∙ even))
