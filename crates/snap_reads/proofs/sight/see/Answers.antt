use Rattle.std.proofs.Common.{List, arith, refl, subst, sym}
use Rattle.snap_reads.specs.declared.sight.Sight.{Sight}
use Rattle.snap_reads.specs.Sights.{AreRight, NeverFall}
use Rattle.snap_reads.proofs.Sighting.{are_right_joined, are_right_longer, right_now, rise_joined}
use Rattle.snap_reads.proofs.sight.see.Goals as goal

pub returns-clause-sight : goal.returns-clause-sight
returns-clause-sight c = (record { key = c.args.key.now; seen = c.get-seen.result }, c.push_reserved.ensures.items, refl, c.get-seen.ensures.upto)

pub returns-clause-right : goal.returns-clause-right
returns-clause-right c =
    let before = are_right_longer _ _ _ c.get-seen.ensures.seen c.requires.right in
    subst (λ (l : List Sight). AreRight c.get-seen.new.self.seen l) (sym c.push_reserved.ensures.items)
    (are_right_joined _ _ _ before (right_now _ _ c.get-seen.ensures.upto c.get-seen.ensures.value))

pub returns-clause-rise : goal.returns-clause-rise
returns-clause-rise c =
    let before = are_right_longer _ _ _ c.get-seen.ensures.seen c.requires.right in
    subst (λ (l : List Sight). NeverFall 0 l) (sym c.push_reserved.ensures.items)
    (rise_joined 0 _ _ _ before (omega arith) c.requires.rise c.get-seen.ensures.upto)
