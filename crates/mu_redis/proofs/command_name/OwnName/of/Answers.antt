use Rattle.std.proofs.Common.{sym, ap, arith}
use Rattle.std.specs.Prelude.{codes}
use Rattle.std.proofs.lemmas.Slice.Eq.{text_from_reads}
use Rattle.mu_redis.specs.Names.{own_named}
use Rattle.mu_redis.proofs.command_name.OwnName.of.Goals as goal

pub returns-in-status : goal.returns-in-status
returns-in-status c = sym (ap own_named (text_from_reads c.args.name.now (codes "status") (omega arith) (omega arith, (omega arith, (omega arith, (omega arith, (omega arith, (omega arith, tt))))))))
