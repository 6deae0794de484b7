use Rattle.mu_node.proofs.Growing.{in_turn}
use Rattle.mu_engine.proofs.seat.Seat.grow.Goals as goal

pub add_last-requires : goal.add_last-requires
add_last-requires g c =
    let growth = g.growth in
    let asked = c.requires.1 in (
      asked.0,
      (
        asked.1.0,
        (
          asked.1.1.0,
          (
            asked.1.1.1.0,
            (
              asked.1.1.1.1.0,
              (in_turn growth.config growth.replica growth.mine c.args.self.now.node asked.1.1.1.1.1.0, asked.1.1.1.1.1.1),
            ),
          ),
        ),
      ),
    )

pub returns-clause-lives : goal.returns-clause-lives
returns-clause-lives g c = c.add_last.ensures.between c.requires.1.1.1.1.1.1.0
