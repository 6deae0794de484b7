-- due (by a plan): the verb that a plan names, if one is due.
use Rattle.std.specs.Prelude.{None, Some, if◌then◌else◌}
use Rattle.std.specs.declared.option.Option.{Option}
use Rattle.mu_model.specs.declared.event.Verb.{Verb}
use Rattle.mu_node.specs.declared.planning.Plan.{Plan}

-- the verb that the plan names, if one is due
abbrev pub due_of : Plan → Option Verb
due_of plan = if plan.is_due then Some plan.verb else None
