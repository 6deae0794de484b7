-- has events, are events of: the order of a run's events is given, or the parts of its threads; what
-- is given of them.
use Rattle.std.specs.Prelude.{None, Some, is_some, true, ◌||◌, ◌≡◌}
use Rattle.mu_outcome.specs.declared.outcome.AllEvents.{AllEvents}
use Rattle.mu_outcome.specs.declared.outcome.Outcome.{Outcome}

-- the order is given, or the parts are
abbrev pub HasEvents : Outcome → Type 0
HasEvents o = (is_some o.order || is_some o.gathered) ≡ true

-- these are the order, if it is given, else the parts
abbrev pub AreEventsOf : Outcome → AllEvents → Type 0
AreEventsOf o (AllEvents.InOrder order) = o.order ≡ Some order.now
AreEventsOf o (AllEvents.InParts parts) = (o.order ≡ None) × (o.gathered ≡ Some parts.now)
