use Rattle.mu_rows.proofs.Reading.{same-row}
use Rattle.mu_rows.proofs.read.rows_differ.Goals as goal

pub returns : goal.returns
returns c = same-row
