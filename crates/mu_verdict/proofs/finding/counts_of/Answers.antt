use Rattle.std.proofs.Common.{◌∙◌, ap, arith, length, refl}
use Rattle.mu_verdict.proofs.AttestedItems.{counts_all, counts_fit}
use Rattle.mu_verdict.proofs.finding.counts_of.Goals as goal

pub returns : goal.returns
returns c = λ job past held all.
    let fit = counts_fit past in
    let got = ap length held.got in
    let events = held.events in
    counts_all past c.args.items _ _ _ all (c.events-events.ensures ∙ held.events) (omega (arith, fit, got, all, c.gots.ensures, c.min-gots.ensures)) refl refl (omega (arith, c.saturating_sub.ensures, c.saturating_sub-2.ensures))
