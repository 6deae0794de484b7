use Rattle.std.proofs.Common.{arith, subst, sym}
use Rattle.mu_model.specs.Scores.{is_failed}
use Rattle.mu_detect.specs.Stands.{StandsFor}
use Rattle.mu_node.proofs.Bits.{bit_at}
use Rattle.mu_node.proofs.watch.failed_in.Goals as goal

pub returns : goal.returns
returns c k r mine same stands q low =
    let few = stands.few in
    let all = subst (λ n. StandsFor n r mine c.args.scores.now) (sym same) stands in
    bit_at (λ p. is_failed r p mine) c.args.n q c.failed_bit-zero.result c.failed_bit-one.result c.failed_bit-two.result c.failed_bit-three.result c.failed_bit-four.result c.failed_bit-five.result c.failed_bit-six.result
    (omega (arith, few, same)) (omega (arith, low, same)) c.failed_bit-zero.ensures.few c.failed_bit-one.ensures.few c.failed_bit-two.ensures.few c.failed_bit-three.ensures.few c.failed_bit-four.ensures.few c.failed_bit-five.ensures.few c.failed_bit-six.ensures.few
    (λ l. c.failed_bit-zero.ensures.is r mine l all) (λ l. c.failed_bit-one.ensures.is r mine l all) (λ l. c.failed_bit-two.ensures.is r mine l all) (λ l. c.failed_bit-three.ensures.is r mine l all) (λ l. c.failed_bit-four.ensures.is r mine l all) (λ l. c.failed_bit-five.ensures.is r mine l all) (λ l. c.failed_bit-six.ensures.is r mine l all)
