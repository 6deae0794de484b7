use Rattle.std.proofs.Common.{◌-◌, ◌≡◌}
use Rattle.mu_lead.specs.Sets.{is_bit}
use Rattle.mu_lead.proofs.offering.has_bit.Given as goal

abbrev pub invariant-loop-i : goal.invariant-loop-i
invariant-loop-i l = is_bit (l.q - l._i) l.rest ≡ is_bit l.q l.set
