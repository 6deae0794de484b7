use Rattle.std.proofs.Common.{◌/◌, ◌%◌, ◌<◌, ◌^◌, ◌++◌, ◌∙◌, ap, append_assoc, arith, length, length-append, sym}
use Rattle.std.specs.Fmt.{decimal}
use Rattle.std.proofs.lemmas.Fmt.{decimal_digit}
use Rattle.mu_text.proofs.LastDigits.{decimal_pair, decimal_pairs, length-decimal_pairs, pair_of}
use Rattle.mu_text.proofs.line_text.Line.+push_digits.Goals as goal

pub push_byte-requires : goal.push_byte-requires
push_byte-requires t c =
    let one = ap length (decimal_digit c.args.number c.if-number-lt10.true) in
    let room = c.requires in
    omega (arith, one, room)

pub push_pair-requires-clause-room : goal.push_pair-requires-clause-room
push_pair-requires-clause-room t c =
    let two = ap length (decimal_pair c.args.number c.if-number-lt10.false c.if-number-lt100.true) in
    let room = c.requires in
    omega (arith, two, room)

pub push_digits-requires : goal.push_digits-requires
push_digits-requires t c =
    let small : c.args.number < 2 ^ 64 = omega arith in
    let long = length-decimal_pairs c.args.number c.if-number-lt100.false small in
    (omega arith, omega (arith, long, c.requires))

pub push_pair-requires-else-number-lt100-clause-room : goal.push_pair-requires-else-number-lt100-clause-room
push_pair-requires-else-number-lt100-clause-room t c =
    let small : c.args.number < 2 ^ 64 = omega arith in
    let long = length-decimal_pairs c.args.number c.if-number-lt100.false small in
    let front = ap length c.push_digits.ensures in
    let both = length-append c.args.self.now (decimal (c.args.number / 100)) in
    omega (arith, long, front, both, c.requires)

pub returns-then-number-lt10 : goal.returns-then-number-lt10
returns-then-number-lt10 t c = c.push_byte.ensures.bytes ∙ ap (λ l. c.args.self.now ++ l) (sym (decimal_digit c.args.number c.if-number-lt10.true))

pub returns-then-number-lt100 : goal.returns-then-number-lt100
returns-then-number-lt100 t c =
    c.push_pair.ensures.bytes ∙ ap (λ l. c.args.self.now ++ l) (sym (decimal_pair c.args.number c.if-number-lt10.false c.if-number-lt100.true))

pub returns-else-number-lt100 : goal.returns-else-number-lt100
returns-else-number-lt100 t c =
    let n = c.args.number in
    let small : n < 2 ^ 64 = omega arith in
    c.push_pair-else-number-lt100.ensures.bytes ∙ ap (λ l. l ++ pair_of (n % 100)) c.push_digits.ensures
    ∙ append_assoc c.args.self.now (decimal (n / 100)) (pair_of (n % 100))
    ∙ ap (λ l. c.args.self.now ++ l) (sym (decimal_pairs n c.if-number-lt100.false small))
