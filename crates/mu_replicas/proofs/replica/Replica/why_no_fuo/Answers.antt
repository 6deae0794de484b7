use Rattle.mu_replicas.proofs.replica.Replica.why_no_fuo.Goals as goal

pub returns : goal.returns
returns c r mine held start = c.why_no_region.ensures r mine held start
