use Rattle.std.proofs.Common.{arith, refl, subst, sym}
use Rattle.mu_model.specs.Contents.{IsConfig}
use Rattle.mu_knowledge.specs.declared.known_log.KnownLog.{KnownLog}
use Rattle.mu_knowledge.specs.KnownLog.{StandsForKnownLog}
use Rattle.mu_knowledge.specs.Offers.{StandsForClientRows}
use Rattle.mu_knowledge.proofs.Adding.{known_more}
use Rattle.mu_knowledge.proofs.known_log.KnownLog.add_last.Goals as goal

pub returns : goal.returns
returns c k0 row r mine g h same possible room held =
    let self = c.args.self.now in
    let rows = subst (λ z. StandsForClientRows z c.add_last.new.self) same (c.add_last.ensures k0 row h same room.by_client held.values.by_client) in
    let positions = held.positions in
    let space = room.seen in
    let seen = c.push_within.ensures.items (omega (arith, positions, space)) in
    let new : KnownLog = record { values = self.values; marks = self.marks; counts = self.counts; rows = self.rows; by_client = c.add_last.new.self; fuos = self.fuos; seen = c.push_within.new.items } in
    subst (λ z. StandsForKnownLog z r mine new) (sym same)
    (known_more k0 row r mine self new g (subst (λ z. IsConfig z) same h) possible held refl room.values refl refl refl rows refl seen)
