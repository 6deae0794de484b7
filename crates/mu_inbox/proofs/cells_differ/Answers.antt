use Rattle.mu_inbox.proofs.Cells.{cells_law}
use Rattle.mu_inbox.proofs.cells_differ.Goals as goal

pub returns : goal.returns
returns c = cells_law
