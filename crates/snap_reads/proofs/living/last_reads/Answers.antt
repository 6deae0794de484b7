use Rattle.std.proofs.Common.{◌≡◌, ◌∙◌, ap, sym, List, ◌++◌, [], ◌∷◌, arith, length, append_assoc, length-append, subst}
use Rattle.std.specs.Prelude.{All}
use Rattle.std.specs.Vec.Iter.{into_iter_items}
use Rattle.kv_store.specs.Commands.{Request}
use Rattle.snap_reads.specs.Lives.{AreSights}
use Rattle.snap_reads.specs.Seats.{Note, Writing}
use Rattle.std.proofs.lemmas.List.Elements.{All-push}
use Rattle.snap_reads.proofs.living.last_reads.Goals as goal

pub loop-watcher-preserved : goal.loop-watcher-preserved
loop-watcher-preserved c =
    let at = c.loop-watcher in
    let inv = at.invariant in
    let x = c.in-Some.watcher in
    let published = c.args.writer.published in
    let keys = c.args.keys.now in
    let steps : into_iter_items at.watcher-iterator ≡ x ∷ into_iter_items c.next.new.self = c.in-Some.ensures.steps.0 in
    let gone = c.in-Some.ensures.steps.1 in
    let short = ap length steps in
    let whole : c.args.watchers.items ≡ at.yielded ++ x ∷ into_iter_items c.next.new.self = inv.2 ∙ ap (λ l. at.yielded ++ l) steps in
    let told : c.tell.result.list ≡ published = ap (λ (n : Note). n.list) c.tell.ensures.told ∙ ap (λ (w : Writing). w.published) inv.7 in
    let sights : AreSights published keys c.told_reads.result = subst (λ (l : List Request). AreSights l keys c.told_reads.result) told c.told_reads.ensures in (
      tt,
      tt,
      whole ∙ sym (append_assoc at.yielded (x ∷ []) (into_iter_items c.next.new.self)),
      omega (arith, inv.3, gone, short),
      subst (All (AreSights published keys)) (sym c.push_reserved.ensures.items) (All-push (AreSights published keys) at.lists.items c.told_reads.result inv.4 sights),
      ap length c.push_reserved.ensures.items ∙ omega (arith, length-append at.lists.items (c.told_reads.result ∷ []), length-append at.yielded (x ∷ []), inv.5),
      omega (arith, c.push_reserved.ensures.capacity, inv.6),
      c.tell.ensures.same ∙ inv.7,
    )
