use Rattle.mu_replicas.proofs.replica.Replica.why_not.Goals as goal

pub returns : goal.returns
returns c r mine possible held =
    rw c.reason.ensures (c.why_no_verb.ensures r mine possible held (c.why_no_step-found.ensures r mine held))
