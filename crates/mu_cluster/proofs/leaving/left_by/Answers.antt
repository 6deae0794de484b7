use Rattle.std.proofs.Common.{true, ◌≡◌, ◌∙◌, ◌+◌, ◌++◌, ◌∷◌, suc, [], Some, ap, arith, length, subst, sym}
use Rattle.std.specs.List.{slice_get}
use Rattle.std.specs.Vec.Iter.{into_iter_items}
use Rattle.std.proofs.lemmas.List.{length_push}
use Rattle.std.proofs.lemmas.Option.{slice_get_within}
use Rattle.mu_model.specs.Histories.{history}
use Rattle.mu_model.proofs.Parts.{part_is_possible}
use Rattle.mu_node.specs.declared.zeal.Zeal.{Zeal}
use Rattle.mu_cluster.specs.Branches.{NodeGoesOn, HasEnd}
use Rattle.mu_cluster.specs.Lists.{HoldsLists}
use Rattle.mu_cluster.specs.Rounds.{part_of}
use Rattle.mu_cluster.proofs.Branching.{mine_part}
use Rattle.mu_cluster.proofs.Filling.{held_left, result_of}
use Rattle.mu_cluster.proofs.leaving.left_by.Goals as goal

pub into_result-requires : goal.into_result-requires
into_result-requires c =
    let n = length c.loop-node.yielded in
    let node = c.in-Some.node in
    let all = c.args.nodes.items in
    let k = c.args._job.now.config in
    let script = c.args._job.now.script in
    let parts = c.args._gathered.now.parts in
    let list = c.requires.list in
    let events = list.0 in
    let head : into_iter_items c.loop-node.node-iterator ≡ node ∷ into_iter_items c.next.new.self = c.in-Some.ensures.steps.0 in
    let zero : n + 0 ≡ n = omega arith in
    let found : slice_get all n ≡ Some node = ap (slice_get all) (sym zero) ∙ (sym (c.loop-node.invariant.rest 0) ∙ ap (λ l. slice_get l 0) head) in
    let within = slice_get_within all n node found in
    let many = c.requires.left.count in
    let left = c.requires.left.each n node found in
    let mine = mine_part k events parts n left.0 (omega (arith, within, many)) list.1.1 left.1 in
    let goes = subst (λ l. NodeGoesOn k script n l node) mine left.2 in
    record { stands = (k, n, part_of n events, c.requires.good, part_is_possible k n (history events) list.1.0, goes.follows.stands) }

pub add-requires : goal.add-requires
add-requires c =
    let l = c.requires.list in
    let inv = c.loop-node.invariant in
    let shorter = ap length c.in-Some.ensures.steps.0 in
    let count = inv.count in
    let all = c.requires.left.count in
    (c.args._job.now.config.replicas, (length c.loop-node.yielded, (omega (arith, shorter, count, all), (inv.holds l.0 l.1.0 l.1.1).room)))

pub loop-node-preserved : goal.loop-node-preserved
loop-node-preserved c =
    let n = length c.loop-node.yielded in
    let node = c.in-Some.node in
    let all = c.args.nodes.items in
    let k = c.args._job.now.config in
    let script = c.args._job.now.script in
    let parts = c.args._gathered.now.parts in
    let inv = c.loop-node.invariant in
    let head : into_iter_items c.loop-node.node-iterator ≡ node ∷ into_iter_items c.next.new.self = c.in-Some.ensures.steps.0 in
    let long : length (c.loop-node.yielded ++ node ∷ []) ≡ n + 1 = length_push c.loop-node.yielded node in
    let shorter = ap length head in
    let zero : n + 0 ≡ n = omega arith in
    let found : slice_get all n ≡ Some node = ap (slice_get all) (sym zero) ∙ (sym (inv.rest 0) ∙ ap (λ l. slice_get l 0) head) in
    let within = slice_get_within all n node found in
    let many = c.requires.left.count in
    let left = c.requires.left.each n node found in
    record {
      rest = λ r. let on : n + suc r ≡ length (c.loop-node.yielded ++ node ∷ []) + r = omega (arith, long) in sym (ap (λ l. slice_get l (suc r)) head) ∙ (inv.rest (suc r) ∙ ap (slice_get all) on);
      count = let count = inv.count in omega (arith, long, shorter, count);
      holds = λ events legal has.
          let mine = mine_part k events parts n left.0 (omega (arith, within, many)) has left.1 in
          let goes = subst (λ l. NodeGoesOn k script n l node) mine left.2 in
          let ends = subst (λ l. HasEnd k script n l) mine left.3 in
          let possible = part_is_possible k n (history events) legal in
          let is = result_of Zeal.Eager k n (part_of n events) node c.into_result.result c.requires.good possible goes.follows goes.zeal (c.into_result.ensures.left k n (part_of n events) c.requires.good possible goes.follows.stands) in
          let told = c.into_result.ensures.end k script n (part_of n events) (sym goes.stops) c.requires.good possible goes.follows.stands in
          subst (λ m. HoldsLists true k script events m c.add.new.self) (sym long)
          (held_left true k script events n c.loop-node.lists c.add.new.self c.into_result.result (inv.holds events legal has) c.add.ensures goes.before ends is told);
    }
