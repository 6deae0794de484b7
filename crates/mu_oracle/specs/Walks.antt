-- walk: a walk over events, or over numbers, that tells what a definition of `Histories` does.
use Rattle.std.specs.Prelude.{List, ℕ, ◌<◌, ◌≡◌}
use Rattle.std.specs.Fn.{Shared}
use denote.Ref.{Bor}
use Rattle.mu_model.specs.declared.event.Event.{Event}
use Rattle.mu_model.specs.Histories.{history}

-- the closure gives of each event what the function does
abbrev pub Computes : {F R : Type 0} → Shared F (Bor Event × Unit {0}) R → F → (Event → R) → Type 0
Computes {F} {R} g f of = (e : Bor Event) (r : R) → g.post f (e, tt) r → r ≡ of e.now

-- the result tells of the events what the definition does, by what the closure computes
abbrev pub Tells : {F R A : Type 0} → Shared F (Bor Event × Unit {0}) R → F
    → ((Event → R) → List Event → A) → List Event → A → Type 0
Tells {F} {R} {A} g f what events result =
    (of : Event → R) → Computes g f of → result ≡ what of (history events)

-- the closure gives of each number below n what the function does
abbrev pub ComputesBelow : {F R : Type 0} → ℕ → Shared F (ℕ × Unit {0}) R → F → (ℕ → R) → Type 0
ComputesBelow {F} {R} n g f of = (j : ℕ) (r : R) → j < n → g.post f (j, tt) r → r ≡ of j

-- the result tells of these numbers what the definition does
abbrev pub TellsBelow : {F R A : Type 0} → Shared F (ℕ × Unit {0}) R → F
    → (ℕ → (ℕ → R) → A) → ℕ → A → Type 0
TellsBelow {F} {R} {A} g f what n result =
    (of : ℕ → R) → ComputesBelow n g f of → result ≡ what n of
