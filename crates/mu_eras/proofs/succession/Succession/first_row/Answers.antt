use Rattle.std.proofs.Common.{arith}
use Rattle.mu_eras.proofs.succession.Succession.first_row.Goals as goal

pub returns : goal.returns
returns c past held =
    let first = held.last.first in
    let count = held.last.count in
    let all = held.count in
    omega (arith, first, count, all, c.saturating_sub.ensures, c.len.ensures)
