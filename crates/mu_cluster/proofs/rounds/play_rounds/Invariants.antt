use Rattle.std.proofs.Common.{◌≡◌, ℕ}
use Rattle.mu_model.specs.declared.script.Script.{Script}
use Rattle.mu_node.specs.declared.zeal.Zeal.{Zeal}
use Rattle.mu_cluster.specs.Rounds.{PlayedBy, all_left}
use Rattle.mu_cluster.proofs.rounds.play_rounds.Given as goal

abbrev pub invariant-loop-port : goal.invariant-loop-port
invariant-loop-port g l = record {
  config : l.port.config ≡ l.fn.port.config;
  played : (kind : Zeal) (script : Script) (rounds : ℕ) → l.pauses ≡ script.pauses → PlayedBy kind l.fn.port.config script l.fn.port.events l.fn.seats rounds 0 → (more : ℕ) × PlayedBy kind l.fn.port.config script l.port.events l.seats more 0;
}

abbrev pub decreases-loop-port : goal.decreases-loop-port
decreases-loop-port g l = all_left l.seats
