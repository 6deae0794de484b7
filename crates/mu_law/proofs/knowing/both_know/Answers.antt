use Rattle.std.proofs.Common.{◌∙◌}
use Rattle.mu_law.proofs.Lists.{both_known, same_known}
use Rattle.mu_law.proofs.knowing.both_know.Goals as goal

pub returns-clause-both : goal.returns-clause-both
returns-clause-both c v w =
    let first = c.as_slice.ensures.value ∙ c.in_ok-first.ensures in
    let second = c.as_slice-2.ensures.value ∙ c.in_ok-second.ensures in
    let both = both_known c.args.config.now c.args.events.now c.args.r c.args.s c.args.i v w c.as_slice.result.now c.as_slice-2.result.now first second in
    let found = c.both_at.ensures v w in
    ((λ k. both.0 (found.0 k)), (λ k. found.1 (both.1 k)))

pub returns-clause-same : goal.returns-clause-same
returns-clause-same c v w e =
    let first = c.as_slice.ensures.value ∙ c.in_ok-first.ensures in
    let second = c.as_slice-2.ensures.value ∙ c.in_ok-second.ensures in
    let both = both_known c.args.config.now c.args.events.now c.args.r c.args.s c.args.i v w c.as_slice.result.now c.as_slice-2.result.now first second in
    same_known c.args.config.now c.args.events.now c.args.r c.args.s c.args.i v w c.requires.legal (both.0 ((c.both_at.ensures v w).0 e))
