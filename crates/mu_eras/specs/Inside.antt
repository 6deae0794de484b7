-- what an engine without an end keeps is a fact of one proof: so it may be a ghost field.
use mathlib.Core.Logic.{∥∥₁_prop}
use Rattle.std.specs.Coded.{Coded-set, coded_ℕ, le_prop, ×_prop}
use Rattle.mu_engine.specs.Shapes.{HasLimits}
use Rattle.mu_engine.specs.declared.shape.Shape.{Shape}
use Rattle.mu_eras.specs.Lasting.{IsLasting}
use Rattle.mu_eras.specs.Standing.{IsInside}
use Rattle.mu_eras.specs.declared.present.Present.{Present}
use Rattle.mu_eras.specs.declared.succession.Succession.{Succession}

HasLimits-prop : (shape : Shape) → IsProp (HasLimits shape)
HasLimits-prop shape x y i = record {
  replicas = ×_prop le_prop le_prop x.replicas y.replicas i;
  ring = ×_prop le_prop le_prop x.ring y.ring i;
  budget = ×_prop le_prop le_prop x.budget y.budget i;
  room = le_prop x.room y.room i;
}

IsInside-prop : (e : Present) → IsProp (IsInside e)
IsInside-prop e x y i = record {
  count = Coded-set coded_ℕ _ _ x.count y.count i;
  places = Coded-set coded_ℕ _ _ x.places y.places i;
  space = le_prop x.space y.space i;
  stores = ∥∥₁_prop x.stores y.stores i;
}

pub IsLasting-prop : (e : Succession) → IsProp (IsLasting e)
IsLasting-prop e x y i = record {
  inside = IsInside-prop e.present x.inside y.inside i;
  limits = HasLimits-prop e.shape x.limits y.limits i;
  replicas = Coded-set coded_ℕ _ _ x.replicas y.replicas i;
  room = Coded-set coded_ℕ _ _ x.room y.room i;
  space = le_prop x.space y.space i;
  space_for_last = le_prop x.space_for_last y.space_for_last i;
  numbers = le_prop x.numbers y.numbers i;
}
