use Rattle.std.proofs.Common.{◌++◌, ◌∙◌, ap, arith, length, sym}
use Rattle.std.proofs.lemmas.Fmt.{decimal_digit}
use Rattle.mu_text.proofs.line_text.Line.push_decimal.Goals as goal

pub push_byte-requires : goal.push_byte-requires
push_byte-requires c =
    let one = ap length (decimal_digit c.args.number c.if-number-lt10.true) in
    let room = c.requires in
    omega (arith, one, room)

pub returns-then-number-lt10 : goal.returns-then-number-lt10
returns-then-number-lt10 c = c.push_byte.ensures.bytes ∙ ap (λ l. c.args.self.now ++ l) (sym (decimal_digit c.args.number c.if-number-lt10.true))
