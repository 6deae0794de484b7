use Rattle.std.proofs.Common.{ap, arith, eq-eqb, length, not, subst, true, ◌+◌, ◌/◌, ◌==◌, ◌≡◌, ◌∙◌}
use Rattle.mu_model.specs.Histories.{all_below}
use Rattle.mu_model.specs.Knowledge.{known}
use Rattle.mu_model.specs.Room.{reserve}
use Rattle.mu_replicas.specs.Stands.{may_mark}
use Rattle.mu_replicas.proofs.replica.Replica.is_offer_of_mark.Goals as goal

pub returns-then-v-from : goal.returns-then-v-from
returns-then-v-from c r mine held =
    let k = c.args.config.now in
    let v = c.args.v in
    let own : (v / 4096 == r) ≡ true = eq-eqb (v / 4096) r (c.if-v-from.true ∙ c.from-2.ensures ∙ held.replica) in
    let count = ap length (c.known.ensures k r mine held.known_log) in
    let limit : length c.known.result.now + c.from.result ≡ length (known k r mine) + reserve k = omega (arith, count, c.from.ensures, c.reserve_of.ensures) in
    let nobody =
    subst (λ n. c.marks_nobody-nobody.result ≡ all_below k.replicas (λ q. not (may_mark k q v n r mine))) limit
    (c.marks_nobody-nobody.ensures r mine held) in
    rw own (ap not nobody)
