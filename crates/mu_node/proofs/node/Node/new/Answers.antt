use Rattle.std.proofs.Common.{[], ◌∙◌, arith, refl}
use Rattle.mu_node.proofs.Answering.{first_answers}
use Rattle.mu_lead.specs.Journal.{IsWhere}
use Rattle.mu_node.proofs.Where.{of_node}
use Rattle.mu_node.proofs.node.Node.new.Goals as goal

pub returns-clause-stands : goal.returns-clause-stands
returns-clause-stands c = record {
  beside = record {
    id = refl;
    replicas = refl;
    budget = refl;
    grants = c.new.ensures;
    watch = c.new-2.ensures c.args.job.now.config refl;
    follow = c.in_ok-new-2.ensures.stands;
    no_log = c.in_ok-with_capacity.ensures.items;
    log_room = omega (arith, c.in_ok-with_capacity.ensures.capacity, c.positions_in.ensures.count);
    no_commits = c.in_ok-with_capacity-2.ensures.items;
    commit_room = omega (arith, c.in_ok-with_capacity-2.ensures.capacity, c.positions_in-2.ensures.count);
  };
  lead = record { config = c.in_ok-new.ensures.config; id = c.in_ok-new.ensures.id; stands = c.in_ok-new.ensures.stands };
  handed = c.in_ok-new-2.ensures.handed;
  answers = λ commands are. first_answers c.args.job.now.config commands c.in_ok-with_room.field-0 c.in_ok-with_room.ensures.table c.in_ok-with_room.ensures.replies (c.in_ok-with_room.ensures.left ∙ c.len.ensures);
  reads = tt;
}

pub returns-clause-placed : goal.returns-clause-placed
returns-clause-placed c = of_node (λ k i. IsWhere k i [] c.in_ok-new.field-0) c.args.job.now.config c.args.id c.in_ok-new.field-0 c.in_ok-new.ensures.config c.in_ok-new.ensures.id c.in_ok-new.ensures.placed
