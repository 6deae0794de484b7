use Rattle.std.proofs.Common.{Some, refl}
use Rattle.lone_replica.specs.declared.replica.Replica.{Replica}
use Rattle.lone_replica.proofs.Judging.{settled}
use Rattle.lone_replica.proofs.replica.Replica.settle.Goals as goal

pub returns-clause-stands : goal.returns-clause-stands
returns-clause-stands g c found =
    let old = c.args.self.now in
    let new : Replica = record {
      alloc = old.alloc;
      id = old.id;
      config = old.config;
      accesses = c.take-answer.new.self;
      node = c.settle.new.self;
      due = old.due;
      last = Some (record { by = old.id; verb = c.verb-verb.result; answer = c.take-answer.result });
    } in
    settled g.at.0 old.id g.at.1 old new c.args.due c.args.word c.verb-verb.result c.take-answer.result c.requires.0 c.requires.1.0 found c.verb-verb.ensures c.take-answer.ensures.answer c.take-answer.ensures.stands c.take-answer.ensures.shape c.settle.ensures.stands refl refl c.requires.1.1 refl
