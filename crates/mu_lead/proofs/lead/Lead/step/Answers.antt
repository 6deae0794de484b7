use Rattle.mu_lead.proofs.lead.Lead.step.Goals as goal

pub returns-in-Write : goal.returns-in-Write
returns-in-Write c = c.take_word.ensures c.args.known.now c.args.log.now c.args.verb c.args.answer c.in-Write.is
