use Rattle.std.proofs.Common.{◌≡◌, subst, sym, true≢false}
use Rattle.mu_outcome.specs.declared.verdict.Verdict.{Verdict}
use Rattle.mu_outcome.specs.Verdicts.{Judges}
use Rattle.mu_law.proofs.legality.is_legal.Goals as goal

pub returns-in-Illegal : goal.returns-in-Illegal
returns-in-Illegal c = (
  λ no. absurd (true≢false (sym no)),
  λ legal.
      let broken = subst (Judges c.args.config.now c.args.events.now) c.in-Illegal.is c.in_ok-check.ensures in
      let same : Verdict.Legal ≡ Verdict.Illegal c.in-Illegal.index c.in-Illegal.cause = c.at_most_one_verdict.ensures c.args.config.now c.args.events.now Verdict.Legal (Verdict.Illegal c.in-Illegal.index c.in-Illegal.cause) legal broken in
      absurd cc,
)
