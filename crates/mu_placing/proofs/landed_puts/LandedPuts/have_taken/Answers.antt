use Rattle.std.proofs.Common.{rules, arith}
use Rattle.mu_placing.proofs.landed_puts.LandedPuts.have_taken.Goals as goal

pub loop-p-preserved : goal.loop-p-preserved
loop-p-preserved c c' r event mine config possible unknown leading held =
    search (rules, c.has_taken.ensures c' r event mine (omega (arith, c.loop-p-test.true, c.requires)) config possible unknown leading held, c.loop-p.invariant c' r event mine config possible unknown leading held)

pub returns : goal.returns
returns c c' r event mine config possible unknown leading held = search (rules, c.loop-p.invariant c' r event mine config possible unknown leading held)
