use Rattle.std.proofs.Common.{sym, ◌∙◌}
use Rattle.std.proofs.lemmas.Bool.{false≢true}
use Rattle.mu_model.proofs.Scans.{least_number, next_is}
use Rattle.mu_leadership.proofs.leadership.is_least_number.Goals as goal

pub returns-then-is_own_above : goal.returns-then-is_own_above
returns-then-is_own_above c =
    let o = c.is_own_above.ensures.0 c.if-is_own_above.true in (
      λ h. (o.0, o.1, o.2, o.3, least_number c.args.b c.args.r c.args.read c.args.put o.0 (c.is_next.ensures.0 h)),
      λ m. c.is_next.ensures.1 (next_is c.args.b c.args.r c.args.read c.args.put m.0 m.4),
    )

pub returns-else-is_own_above : goal.returns-else-is_own_above
returns-else-is_own_above c = (λ h. absurd (false≢true (sym c.if-is_own_above.false ∙ h)), λ m. absurd (false≢true (sym c.if-is_own_above.false ∙ c.is_own_above.ensures.1 (m.0, m.1, m.2, m.3))))
