use Rattle.mu_judge.proofs.judging.check.Goals as goal

pub returns : goal.returns
returns c = c.verdict_of.ensures c.args.config.now c.args.events.now c.in_ok-explain.ensures
