use Rattle.std.proofs.Common.{arith}
use Rattle.mu_serve.proofs.LinesSoFar.{first_byte}
use Rattle.mu_serve.proofs.incoming.Incoming.first_of_more.Goals as goal

pub returns-clause-byte : goal.returns-clause-byte
returns-clause-byte g c = record {
  taken = c.refill.new.self;
  reads = record {
    consumed = c.in-Ok.ensures.bytes;
    room = omega (arith, c.in-Ok.ensures.count, c.in-Ok.ensures.few);
    some = omega (arith, c.if-self-eq0.false, c.in-Ok.ensures.few);
  };
  byte = first_byte _ (g.S.Source.left c.refill.new.source) _ _ _ _ _ c.requires.used_up c.in-Ok.ensures.count
      c.in-Ok.ensures.end c.take_first.ensures;
}
