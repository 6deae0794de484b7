use Rattle.std.proofs.Common.{◌≡◌, ◌∙◌, ◌+◌, ◌++◌, ◌∷◌, suc, [], Some, ap, arith, length, subst, sym}
use Rattle.std.specs.List.{slice_get}
use Rattle.std.specs.Vec.Iter.{into_iter_items}
use Rattle.std.proofs.lemmas.List.{length_push}
use Rattle.mu_model.specs.Histories.{history}
use Rattle.mu_model.proofs.Parts.{part_is_possible}
use Rattle.mu_node.specs.Due.{is_eager}
use Rattle.mu_cluster.specs.Lists.{HoldsLists}
use Rattle.mu_cluster.specs.Rounds.{part_of}
use Rattle.mu_cluster.proofs.Filling.{held_next, result_of}
use Rattle.mu_cluster.proofs.lists.filled.Goals as goal

pub into_result-requires : goal.into_result-requires
into_result-requires c =
    let n = length c.loop-seat.yielded in
    let seat = c.in-Some.seat in
    let all = c.args.seats.items in
    let k = c.args._job.now.config in
    let events = c.args._order.now.events in
    let head : into_iter_items c.loop-seat.seat-iterator ≡ seat ∷ into_iter_items c.next.new.self = c.in-Some.ensures.steps.0 in
    let zero : n + 0 ≡ n = omega arith in
    let found : slice_get all n ≡ Some seat = ap (slice_get all) (sym zero) ∙ (sym (c.loop-seat.invariant.rest 0) ∙ ap (λ l. slice_get l 0) head) in
    let sits = c.requires.played.1.waits n seat found (omega arith) in
    record { stands = (k, n, part_of n events, c.requires.good, part_is_possible k n (history events) c.requires.legal, sits.follows.stands) }

pub loop-seat-preserved : goal.loop-seat-preserved
loop-seat-preserved c =
    let n = length c.loop-seat.yielded in
    let seat = c.in-Some.seat in
    let all = c.args.seats.items in
    let k = c.args._job.now.config in
    let script = c.args._job.now.script in
    let events = c.args._order.now.events in
    let inv = c.loop-seat.invariant in
    let head : into_iter_items c.loop-seat.seat-iterator ≡ seat ∷ into_iter_items c.next.new.self = c.in-Some.ensures.steps.0 in
    let long : length (c.loop-seat.yielded ++ seat ∷ []) ≡ n + 1 = length_push c.loop-seat.yielded seat in
    let shorter = ap length head in
    let zero : n + 0 ≡ n = omega arith in
    let found : slice_get all n ≡ Some seat = ap (slice_get all) (sym zero) ∙ (sym (inv.rest 0) ∙ ap (λ l. slice_get l 0) head) in
    let sits = c.requires.played.1.waits n seat found (omega arith) in
    let possible = part_is_possible k n (history events) c.requires.legal in
    let is = result_of c.args._kind k n (part_of n events) seat.node c.into_result.result c.requires.good possible sits.follows sits.zeal (c.into_result.ensures.left k n (part_of n events) c.requires.good possible sits.follows.stands) in
    let told = c.into_result.ensures.end k script n (part_of n events) (sym sits.stops) c.requires.good possible sits.follows.stands in
    record {
      rest = λ r. let on : n + suc r ≡ length (c.loop-seat.yielded ++ seat ∷ []) + r = omega (arith, long) in sym (ap (λ l. slice_get l (suc r)) head) ∙ (inv.rest (suc r) ∙ ap (slice_get all) on);
      count = let count = inv.count in omega (arith, long, shorter, count);
      holds = subst (λ m. HoldsLists (is_eager c.args._kind) k script events m c.add.new.self) (sym long)
          (held_next k script events n c.requires.played.0 c.loop-seat.lists c.add.new.self c.into_result.result seat inv.holds c.add.ensures sits (c.requires.ended n seat found) is told);
    }
