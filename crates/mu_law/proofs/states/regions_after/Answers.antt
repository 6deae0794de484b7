use Rattle.std.proofs.Common.{take, sym, subst}
use Rattle.mu_model.specs.Histories.{history}
use Rattle.mu_regions.specs.Stands.{Stands}
use Rattle.mu_regions.proofs.Range.{in_range}
use Rattle.mu_outcome.proofs.Places.{history_at_next, legal_there}
use Rattle.mu_law.proofs.Stepping.{legal_is_short}
use Rattle.mu_law.proofs.states.regions_after.Goals as goal

pub loop-index-preserved : goal.loop-index-preserved
loop-index-preserved c =
    let events = c.args.events.now in
    let i = c.loop-index.index in
    let past = history (take i events) in
    let low = c.loop-index-test.true in
    let legal = legal_there c.args.config.now events i _ c.requires.legal low in
    let short = legal_is_short c.args.config.now _ c.requires.config legal.0 in
    let more = sym (history_at_next events i _ low) in
    subst (λ l. Stands c.args.config.now l c.take.new.self) more
    (c.take.ensures c.args.config.now past short (in_range c.args.config.now _ _ _ legal.1.allowed).near c.loop-index.invariant)
