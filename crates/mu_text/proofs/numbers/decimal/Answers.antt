use Rattle.std.proofs.Common.{◌<◌, ◌&&◌, ◌∙◌, get_or, ap, length, arith}
use Rattle.std.proofs.lemmas.Grind.{pow_more}
use Rattle.std.proofs.lemmas.List.Folds.{list_all_more}
use Rattle.mu_text.specs.Numbers.{is_digit}
use Rattle.mu_text.proofs.Digits.{value_of-take, below_power, small, told}
use Rattle.mu_text.proofs.numbers.decimal.Goals as goal

pub overflow_mul-value : goal.overflow_mul-value
overflow_mul-value c =
    let below : c.loop-byte.value < 1000000000000000000 = small c.loop-byte.byte-index c.loop-byte.value c.loop-byte.invariant.small (omega arith) in
    omega arith

pub overflow_add-value : goal.overflow_add-value
overflow_add-value c =
    let below : c.loop-byte.value < 1000000000000000000 = small c.loop-byte.byte-index c.loop-byte.value c.loop-byte.invariant.small (omega arith) in
    omega (arith, c.in_ok-digit.ensures.small)

pub loop-byte-preserved : goal.loop-byte-preserved
loop-byte-preserved c =
    let i = c.loop-byte.byte-index in
    let word = c.args.word.now in
    let here : i < length word = omega arith in
    let digit = told (get_or word i 0) c.in_ok-digit.field-0 c.in_ok-digit.ensures.exact in
    record {
      value = omega (arith, value_of-take word i here, digit.1, c.loop-byte.invariant.value);
      small = omega (arith, pow_more 10 i, c.in_ok-digit.ensures.small, c.loop-byte.invariant.small);
      digits = list_all_more is_digit word i 0 here ∙ ap (λ b. b && is_digit (get_or word i 0)) c.loop-byte.invariant.digits ∙ digit.0;
    }

pub returns-clause-small : goal.returns-clause-small
returns-clause-small c = below_power c.loop-byte.byte-index c.args.most c.loop-byte.value c.loop-byte.invariant.small (omega arith)
