use Rattle.std.proofs.Common.{◌≡◌, ◌∙◌, ap, sym, ◌++◌, [], ◌∷◌, ◌+◌, arith, length, map, append_assoc, length-append, subst}
use Rattle.std.specs.Prelude.{All}
use Rattle.std.specs.Vec.Iter.{into_iter_items}
use Rattle.std.proofs.lemmas.List.{map_push}
use Rattle.snap_reads.specs.declared.watching.Watcher.{Watcher}
use Rattle.snap_reads.specs.Lives.{AreNumbered, IsReady}
use Rattle.snap_reads.proofs.Watched.{numbered_push}
use Rattle.std.proofs.lemmas.List.Elements.{All-push}
use Rattle.snap_reads.proofs.watching.watchers.Goals as goal

pub loop-reader-preserved : goal.loop-reader-preserved
loop-reader-preserved c =
    let at = c.loop-reader in
    let inv = at.invariant in
    let x = c.in-Some.reader in
    let steps : into_iter_items at.reader-iterator ≡ x ∷ into_iter_items c.next.new.self = c.in-Some.ensures.steps.0 in
    let gone = c.in-Some.ensures.steps.1 in
    let short = ap length steps in
    let whole : c.args.readers.items ≡ at.yielded ++ x ∷ into_iter_items c.next.new.self = inv.2 ∙ ap (λ l. at.yielded ++ l) steps in
    let w : Watcher = record { number = at.number + 1; reader = x; sights = c.in_ok-sights.sights } in
    let exact = c.in_ok-sights.ensures.exact in
    let ready : IsReady c.args.keys w = record { none = c.in_ok-sights.ensures.items; room = omega (arith, exact) } in (
      tt,
      tt,
      whole ∙ sym (append_assoc at.yielded (x ∷ []) (into_iter_items c.next.new.self)),
      omega (arith, inv.3, gone, short),
      subst (All (IsReady c.args.keys)) (sym c.push_reserved.ensures.items) (All-push (IsReady c.args.keys) at.watchers.items w inv.4 ready),
      ap (map (λ (y : Watcher). y.reader)) c.push_reserved.ensures.items ∙ (map_push (λ (y : Watcher). y.reader) at.watchers.items w ∙ ap (λ l. l ++ x ∷ []) inv.5),
      ap length c.push_reserved.ensures.items ∙ omega (arith, length-append at.watchers.items (w ∷ []), length-append at.yielded (x ∷ []), inv.6),
      omega (arith, c.push_reserved.ensures.capacity, inv.7),
      omega (arith, length-append at.yielded (x ∷ []), inv.8),
      subst (AreNumbered 1) (sym c.push_reserved.ensures.items) (numbered_push 1 at.watchers.items w inv.9 (omega (arith, inv.6, inv.8))),
    )
