use Rattle.std.proofs.Common.{◌≡◌, arith, length, rules, sym, ap}
use Rattle.std.proofs.lemmas.Grind.{common_steps}
use Rattle.mu_io.proofs.Moved.{copied-rest}
use Rattle.mu_io.proofs.memory.MemSourceSource.read.Goals as goal

pub returns-clause-reads : goal.returns-clause-reads
returns-clause-reads c =
    let size : length c.copy_from_slice.new.self ≡ c.min-count.result = search rules in
    let copy = rw c.deref-2.ensures.value at c.copy_from_slice.ensures.after in
    record {
      at_most = search rules;
      bytes = copied-rest _ _ _ _ _ _ (sym (ap (λ s. s.left) c.self.view_is)) copy size;
      end = grind (arith, common_steps);
      same_faults = search rules;
      failed = search rules;
      kept = search rules;
      never_falls = search rules;
    }
