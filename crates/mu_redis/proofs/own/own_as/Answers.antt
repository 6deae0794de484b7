use Rattle.mu_redis.proofs.own.own_as.Goals as goal

pub returns-in-Some-Cas-clause-done : goal.returns-in-Some-Cas-clause-done
returns-in-Some-Cas-clause-done c = c.cas.ensures.done c.args.replicas
