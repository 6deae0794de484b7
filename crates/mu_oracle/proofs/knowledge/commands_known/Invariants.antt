use Rattle.std.proofs.Common.{◌≡◌, ◌≤◌, ◌*◌, length, take}
use Rattle.mu_model.specs.Contents.{command_count}
use Rattle.mu_model.specs.Histories.{history}
use Rattle.mu_model.specs.Knowledge.{known}
use Rattle.mu_oracle.proofs.knowledge.commands_known.Given as goal

abbrev pub invariant-loop-i : goal.invariant-loop-i
invariant-loop-i l = record { so_far : l.count ≡ length (known l.config l.r (history (take l.i l.part))); few : l.count ≤ l.i; less : l.taken ≤ 256 * l.i; at : l.taken ≡ command_count l.config l.client (known l.config l.r (history (take l.i l.part))) }
