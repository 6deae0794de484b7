use Rattle.mu_report.proofs.said.print_said.Goals as goal

pub returns-in-ReadFault-clause-lines : goal.returns-in-ReadFault-clause-lines
returns-in-ReadFault-clause-lines g c = rw c.in-ReadFault.is c.print_words-in-ReadFault.ensures

pub returns-in-Usage-clause-lines : goal.returns-in-Usage-clause-lines
returns-in-Usage-clause-lines g c = rw c.in-Usage.is c.print_words.ensures
