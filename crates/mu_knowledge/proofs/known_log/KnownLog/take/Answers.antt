use Rattle.std.proofs.Common.{rules}
use Rattle.mu_knowledge.proofs.Untouched.{known_kept}
use Rattle.mu_knowledge.proofs.known_log.KnownLog.take.Goals as goal

pub returns-then-not-is_telling : goal.returns-then-not-is_telling
returns-then-not-is_telling c mine good possible accepted held = known_kept c.args.config.now c.args.r c.args.event.now mine c.args.self.now (search rules) held
