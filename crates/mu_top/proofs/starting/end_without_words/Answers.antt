use Rattle.std.proofs.Common.{◌≡◌, ℕ, List, Option, subst, sym}
use Rattle.mu_report.specs.Said.{text}
use Rattle.mu_report.specs.Statuses.{status_for}
use Rattle.mu_report.specs.declared.said.Said.{Said}
use Rattle.mu_shell.specs.Written.{Wrote}
use Rattle.mu_top.specs.Answers.{WritesUsage}
use Rattle.mu_top.proofs.starting.end_without_words.Goals as goal

as_usage : (written now : Option (List ℕ)) (before after : ℕ) (said : Said) (status code taken : ℕ) → said ≡ Said.Usage → code ≡ status
    → Wrote written now before after (text said) (status_for said) status taken → WritesUsage written now before after code
as_usage written now before after said status code taken is ends wrote = record {
  taken = taken;
  writes = subst (λ s. Wrote written now before after (text s) (status_for s) code taken) is (subst (λ n. Wrote written now before after (text said) (status_for said) n taken) (sym ends) wrote);
}

pub returns-then-eq-clause-no_text : goal.returns-then-eq-clause-no_text
returns-then-eq-clause-no_text g c = λ _. as_usage _ _ _ _ _ _ _ _ c.answer.ensures.said c.into_exit_code.ensures c.answer.ensures.wrote
