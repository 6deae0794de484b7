use Rattle.std.proofs.Common.{subst, sym}
use Rattle.mu_cluster.specs.Rounds.{PlayedBy}
use Rattle.mu_cluster.proofs.rounds.finished.Goals as goal

pub returns-clause-played : goal.returns-clause-played
returns-clause-played g c kind script rounds same was =
    let k = g.M.Memory.config c.args.memory in
    let port = c.port-port.result in
    let held = subst (λ e. PlayedBy kind k script e c.args.seats.now rounds 0) (sym c.port-port.ensures.events) was in
    let more = c.play_rounds.ensures.played kind script rounds same (subst (λ f. PlayedBy kind f script port.events c.args.seats.now rounds 0) (sym c.port-port.ensures.config) held) in
    let left = c.play_rounds.new in
    let played = subst (λ f. PlayedBy kind f script left.port.events left.seats more.0 0) c.port-port.ensures.config more.1 in
    (more.0, subst (λ e. PlayedBy kind k script e left.seats more.0 0) (sym c.back.ensures.events) played)
