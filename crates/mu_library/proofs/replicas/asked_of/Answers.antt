use Rattle.std.proofs.Common.{ap, refl, subst, sym, ◌∙◌}
use Rattle.lone_replica.specs.declared.replica.Next.{Next}
use Rattle.lone_replica.specs.Standing.{TellsHalted}
use Rattle.mu_library.specs.Replicas.{asked_by}
use Rattle.mu_library.proofs.Appending.{halted_due}
use Rattle.mu_library.proofs.replicas.asked_of.Goals as goal

pub returns-in-Halted : goal.returns-in-Halted
returns-in-Halted g c =
    let old = c.args.replica.now in
    let new = c.next.new.self in
    let end = c.in-Halted.field-0 in
    let none = halted_due new.due c.next.result end c.next.ensures.is c.in-Halted.is in
    record {
      stands = c.next.ensures.stands;
      told = c.nothing.ensures ∙ ap asked_by (sym none);
      status_is = refl;
      again = c.next.ensures.again;
      halted = λ free script same. (end, subst (λ (n : Next). TellsHalted g.at.0 script old.id g.at.1.0 n) c.in-Halted.is (c.next.ensures.halted script same));
    }
