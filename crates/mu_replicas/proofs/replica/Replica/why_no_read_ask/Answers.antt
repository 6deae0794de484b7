use Rattle.mu_replicas.proofs.replica.Replica.why_no_read_ask.Goals as goal

pub returns : goal.returns
returns c r mine held start = c.why_no_region.ensures r mine held start
