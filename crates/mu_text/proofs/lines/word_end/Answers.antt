use Rattle.std.proofs.Common.{arith, eq-eqb, None, Some}
use Rattle.mu_text.specs.declared.TheConstants.{SPACE}
use Rattle.mu_text.proofs.Places.{byte_place}
use Rattle.mu_text.proofs.lines.word_end.Goals as goal

pub returns-then-line-i-eq-SPACE : goal.returns-then-line-i-eq-SPACE
returns-then-line-i-eq-SPACE c =
    byte_place SPACE c.args.line.now (Some c.loop-i.i)
    (record { low = omega arith; high = c.loop-i-test.true; before = λ k low below. c.loop-i.invariant k below }, eq-eqb _ _ c.if-line-i-eq-SPACE.true)

pub returns : goal.returns
returns c = byte_place SPACE c.args.line.now None (λ k low high. c.loop-i.invariant k (let past = c.loop-i-test.false in omega (arith, high, past)))
