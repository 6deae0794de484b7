use Rattle.std.proofs.Common.{sym, ap, arith}
use Rattle.std.specs.Prelude.{codes}
use Rattle.std.proofs.lemmas.Slice.Eq.{text_from_reads}
use Rattle.mu_redis.specs.Names.{command_named}
use Rattle.mu_redis.proofs.command_name.CommandName.of.Goals as goal

pub returns-in-hello : goal.returns-in-hello
returns-in-hello c = sym (ap command_named (text_from_reads c.args.name.now (codes "hello") (omega arith) (omega arith, (omega arith, (omega arith, (omega arith, (omega arith, tt)))))))

pub returns-in-exists : goal.returns-in-exists
returns-in-exists c = sym (ap command_named (text_from_reads c.args.name.now (codes "exists") (omega arith) (omega arith, (omega arith, (omega arith, (omega arith, (omega arith, (omega arith, tt))))))))

pub returns-in-strlen : goal.returns-in-strlen
returns-in-strlen c = sym (ap command_named (text_from_reads c.args.name.now (codes "strlen") (omega arith) (omega arith, (omega arith, (omega arith, (omega arith, (omega arith, (omega arith, tt))))))))

pub returns-in-select : goal.returns-in-select
returns-in-select c = sym (ap command_named (text_from_reads c.args.name.now (codes "select") (omega arith) (omega arith, (omega arith, (omega arith, (omega arith, (omega arith, (omega arith, tt))))))))

pub returns-in-getset : goal.returns-in-getset
returns-in-getset c = sym (ap command_named (text_from_reads c.args.name.now (codes "getset") (omega arith) (omega arith, (omega arith, (omega arith, (omega arith, (omega arith, (omega arith, tt))))))))

pub returns-in-client : goal.returns-in-client
returns-in-client c = sym (ap command_named (text_from_reads c.args.name.now (codes "client") (omega arith) (omega arith, (omega arith, (omega arith, (omega arith, (omega arith, (omega arith, tt))))))))

pub returns-in-config : goal.returns-in-config
returns-in-config c = sym (ap command_named (text_from_reads c.args.name.now (codes "config") (omega arith) (omega arith, (omega arith, (omega arith, (omega arith, (omega arith, (omega arith, tt))))))))

pub returns-in-command : goal.returns-in-command
returns-in-command c = sym (ap command_named (text_from_reads c.args.name.now (codes "command") (omega arith) (omega arith, (omega arith, (omega arith, (omega arith, (omega arith, (omega arith, (omega arith, tt)))))))))

pub returns-in-msetnx : goal.returns-in-msetnx
returns-in-msetnx c = sym (ap command_named (text_from_reads c.args.name.now (codes "msetnx") (omega arith) (omega arith, (omega arith, (omega arith, (omega arith, (omega arith, (omega arith, tt))))))))

pub returns-in-setnx : goal.returns-in-setnx
returns-in-setnx c = sym (ap command_named (text_from_reads c.args.name.now (codes "setnx") (omega arith) (omega arith, (omega arith, (omega arith, (omega arith, (omega arith, tt)))))))

pub returns-in-setex : goal.returns-in-setex
returns-in-setex c = sym (ap command_named (text_from_reads c.args.name.now (codes "setex") (omega arith) (omega arith, (omega arith, (omega arith, (omega arith, (omega arith, tt)))))))

pub returns-in-psetex : goal.returns-in-psetex
returns-in-psetex c = sym (ap command_named (text_from_reads c.args.name.now (codes "psetex") (omega arith) (omega arith, (omega arith, (omega arith, (omega arith, (omega arith, (omega arith, tt))))))))

pub returns-in-dbsize : goal.returns-in-dbsize
returns-in-dbsize c = sym (ap command_named (text_from_reads c.args.name.now (codes "dbsize") (omega arith) (omega arith, (omega arith, (omega arith, (omega arith, (omega arith, (omega arith, tt))))))))
