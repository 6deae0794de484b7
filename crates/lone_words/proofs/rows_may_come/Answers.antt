use Rattle.lone_words.proofs.Coming.{decided_law, rows_law}
use Rattle.lone_words.proofs.rows_may_come.Goals as goal

pub returns-clause-come : goal.returns-clause-come
returns-clause-come c = rows_law

pub returns-clause-decided : goal.returns-clause-decided
returns-clause-decided c = decided_law
