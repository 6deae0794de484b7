use Rattle.std.proofs.Common.{ap, map, refl, arith}
use Rattle.mu_knowledge.specs.Commits.{pair_of}
use Rattle.mu_follow.proofs.follow.Follow.new.Goals as goal

pub returns-clause-stands : goal.returns-clause-stands
returns-clause-stands c = record {
  config = c.in_ok-try_clone.ensures;
  inside = c.requires.inside;
  replica = refl;
  steps = refl;
  knowing = c.in_ok-knowing.ensures.known c.args.id;
  rows = c.in_ok-knowing.ensures.rows c.args.id;
  words = c.in_ok-words.ensures.words c.args.id;
  own_log = c.in_ok-words.ensures.filled c.args.id c.args.id;
  heads = c.new.ensures c.args.id;
  completion = c.in_ok-new.ensures;
  commits = record { are = ap (map pair_of) c.in_ok-with_capacity.ensures.items; room = omega (arith, c.in_ok-with_capacity.ensures.capacity, c.positions_in.ensures.count) };
  outrun = refl;
  progress = record { fuo = c.new-3.ensures.fuo c.args.id; row = c.new-3.ensures.row; handed = omega (arith, c.new-3.ensures.handed) };
}
