use Rattle.lone_words.specs.Memory.{own_with}
use Rattle.lone_replica.proofs.replica.Replica.settle_then_next.Given as goal

abbrev pub ghost-settle : goal.ghost-settle
ghost-settle g a = g.at

abbrev pub ghost-next_after : goal.ghost-next_after
ghost-next_after g a = (g.at.0, own_with g.at.0 a.self.now.id g.at.1 a._verb.now a._word)
