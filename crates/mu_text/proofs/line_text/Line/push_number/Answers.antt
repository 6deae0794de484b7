use Rattle.std.proofs.Common.{◌≤◌, length, ap, ◌∙◌, arith, length-append}
use Rattle.std.specs.Fmt.{decimal}
use Rattle.std.proofs.lemmas.Fmt.{length-decimal-le}
use Rattle.mu_text.proofs.line_text.Line.push_number.Goals as goal

pub push_decimal-requires : goal.push_decimal-requires
push_decimal-requires c =
    let size : length (decimal c.args.number) ≤ 20 = length-decimal-le 20 c.args.number (omega arith) (omega arith) (omega arith) in
    omega arith

pub returns-clause-of_8_bits : goal.returns-clause-of_8_bits
returns-clause-of_8_bits c = λ small.
    let size : length (decimal c.args.number) ≤ 3 = length-decimal-le 3 c.args.number (omega arith) (omega arith) (omega arith) in
    omega (arith, ap length c.push_decimal.ensures ∙ length-append c.args.self.now (decimal c.args.number))

pub returns-clause-of_16_bits : goal.returns-clause-of_16_bits
returns-clause-of_16_bits c = λ small.
    let size : length (decimal c.args.number) ≤ 5 = length-decimal-le 5 c.args.number (omega arith) (omega arith) (omega arith) in
    omega (arith, ap length c.push_decimal.ensures ∙ length-append c.args.self.now (decimal c.args.number))

pub returns-clause-of_32_bits : goal.returns-clause-of_32_bits
returns-clause-of_32_bits c = λ small.
    let size : length (decimal c.args.number) ≤ 10 = length-decimal-le 10 c.args.number (omega arith) (omega arith) (omega arith) in
    omega (arith, ap length c.push_decimal.ensures ∙ length-append c.args.self.now (decimal c.args.number))

pub returns-clause-of_64_bits : goal.returns-clause-of_64_bits
returns-clause-of_64_bits c =
    let size : length (decimal c.args.number) ≤ 20 = length-decimal-le 20 c.args.number (omega arith) (omega arith) (omega arith) in
    omega (arith, ap length c.push_decimal.ensures ∙ length-append c.args.self.now (decimal c.args.number))
