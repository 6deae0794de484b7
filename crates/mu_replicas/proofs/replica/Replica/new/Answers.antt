use Rattle.std.proofs.Common.{refl}
use Rattle.mu_replicas.proofs.replica.Replica.new.Goals as goal

pub returns : goal.returns
returns c = record {
  replica = refl;
  steps = refl;
  leadership = c.new.ensures;
  grants = c.new-2.ensures;
  heads = c.new-3.ensures;
  known_log = c.in_ok-new.ensures c.args.replica;
  held_rows = c.in_ok-new-2.ensures c.args.replica;
  landed_puts = c.in_ok-new-3.ensures c.args.replica;
  filled_logs = c.in_ok-new-4.ensures.stands c.args.replica;
  looks = c.in_ok-new-5.ensures.stands;
}
