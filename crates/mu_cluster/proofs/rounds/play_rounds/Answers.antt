use Rattle.std.proofs.Common.{◌∙◌, suc, subst}
use Rattle.mu_cluster.specs.Rounds.{PlayedBy}
use Rattle.mu_cluster.proofs.Rounding.{played_of}
use Rattle.mu_cluster.proofs.rounds.play_rounds.Goals as goal

pub round-requires-clause-played : goal.round-requires-clause-played
round-requires-clause-played g c =
    let kind = c.requires.played.0 in
    let played = c.requires.played.1 in
    let was = c.loop-port.invariant.played kind played.0 played.1.0 played.1.1.0 played.1.1.1 in
    (kind, (played.0, (was.0, (played.1.1.0, played_of c.args.port.now.config c.loop-port.port.config played.0 c.loop-port.port.events c.loop-port.seats was.0 0 c.loop-port.invariant.config was.1))))

pub loop-port-smaller : goal.loop-port-smaller
loop-port-smaller g c = let going = c.are_going.ensures.some c.loop-port-test.true in c.round.ensures.left going.0 going.1.0 going.1.1.0 going.1.1.1

pub loop-port-preserved : goal.loop-port-preserved
loop-port-preserved g c = record {
  config = c.round.ensures.config ∙ c.loop-port.invariant.config;
  played = λ kind script rounds same start.
      let was = c.loop-port.invariant.played kind script rounds same start in
      let now = c.round.ensures.played kind script was.0 same (played_of c.args.port.now.config c.loop-port.port.config script c.loop-port.port.events c.loop-port.seats was.0 0 c.loop-port.invariant.config was.1) in
      (suc was.0, subst (λ k. PlayedBy kind k script c.round.new.port.events c.round.new.seats (suc was.0) 0) c.loop-port.invariant.config now);
}
