use Rattle.std.proofs.Common.{◌≡◌, ◌+◌, ap, arith}
use Rattle.mu_report.specs.declared.said.Said.{Said}
use Rattle.mu_verdict.proofs.TakenEvents.{few_counted}
use Rattle.mu_verdict.proofs.line_judge.LineJudge.answer_so_far.Goals as goal

pub returns-clause-says : goal.returns-clause-says
returns-clause-says c = λ k start past held.
    let j = c.args.self.now in
    let few = few_counted k start past j held in
    let first = held.first in
    let small = held.few in
    let line : c.saturating_add.result ≡ j.first + j.events = omega (arith, c.saturating_add.ensures, few, first, small) in
    ap (λ line. Said.Explained j.events line j.broken) line
