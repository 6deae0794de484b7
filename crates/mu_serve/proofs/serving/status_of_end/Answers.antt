use Rattle.std.proofs.Common.{rules}
use Rattle.mu_serve.proofs.serving.status_of_end.Goals as goal

pub returns : goal.returns
returns g c = record {
  taken = c.in-Err.field-0.taken;
  writes = rw c.code-in-Err.ensures
      (record {
        short = c.in-Err.ensures.short;
        bytes = c.in-Err.ensures.part;
        faults = c.in-Err.ensures.fault;
      });
}

pub returns-in-Ok : goal.returns-in-Ok
returns-in-Ok g c = record { taken = c.in-Ok.field-0; writes = search rules }
