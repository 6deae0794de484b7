use Rattle.mu_top.proofs.promising.promised.Goals as goal

pub returns-clause-promises : goal.returns-clause-promises
returns-clause-promises c = record {
  asked = c.in_ok-job.job;
  fits = c.in_ok-job.ensures.reading;
  promised = c.promises_of.ensures;
}
