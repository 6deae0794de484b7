use Rattle.std.proofs.Common.{ap, arith, map, refl}
use Rattle.mu_knowledge.specs.Commits.{pair_of}
use Rattle.mu_course.proofs.course.Course.new.Goals as goal

pub returns-clause-stands : goal.returns-clause-stands
returns-clause-stands c = record {
  replica = c.in_ok-state.ensures;
  scores = c.new-scores.ensures;
  resigned = refl;
  heads = c.new-heads.ensures c.args.replica;
  completion = c.in_ok-completion.ensures;
  commits = record { are = ap (map pair_of) c.in_ok-with_capacity.ensures.items; room = omega (arith, c.in_ok-with_capacity.ensures.capacity, c.positions_in.ensures.count) };
  outrun = refl;
}
