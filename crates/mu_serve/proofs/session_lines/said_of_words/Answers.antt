use Rattle.mu_serve.proofs.session_lines.said_of_words.Goals as goal

pub returns-else-is_first-5-clause-reach : goal.returns-else-is_first-5-clause-reach
returns-else-is_first-5-clause-reach c = c.command_of.ensures.reach c.args.replicas
