use Rattle.lone_replica.proofs.replica.Replica.last.Goals as goal

pub returns-clause-newest : goal.returns-clause-newest
returns-clause-newest c k own stands = stands.parts.last
