use Rattle.mu_library.proofs.OfCalls.{asks_replica}
use Rattle.mu_library.proofs.shown.own_reply.Goals as goal

pub returns-in-Some : goal.returns-in-Some
returns-in-Some c = asks_replica _ _ _ _ _ _ _ c.in-Some.ensures.held c.deref.ensures c.of.ensures c.reply_in-replied.ensures
