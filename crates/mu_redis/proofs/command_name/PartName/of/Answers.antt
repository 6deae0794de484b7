use Rattle.std.proofs.Common.{sym, ap, arith}
use Rattle.std.specs.Prelude.{codes}
use Rattle.std.proofs.lemmas.Slice.Eq.{text_from_reads}
use Rattle.mu_redis.specs.Names.{part_named}
use Rattle.mu_redis.proofs.command_name.PartName.of.Goals as goal

pub returns-in-setname : goal.returns-in-setname
returns-in-setname c = sym (ap part_named (text_from_reads c.args.name.now (codes "setname") (omega arith) (omega arith, (omega arith, (omega arith, (omega arith, (omega arith, (omega arith, (omega arith, tt)))))))))

pub returns-in-setinfo : goal.returns-in-setinfo
returns-in-setinfo c = sym (ap part_named (text_from_reads c.args.name.now (codes "setinfo") (omega arith) (omega arith, (omega arith, (omega arith, (omega arith, (omega arith, (omega arith, (omega arith, tt)))))))))

pub returns-in-getname : goal.returns-in-getname
returns-in-getname c = sym (ap part_named (text_from_reads c.args.name.now (codes "getname") (omega arith) (omega arith, (omega arith, (omega arith, (omega arith, (omega arith, (omega arith, (omega arith, tt)))))))))
