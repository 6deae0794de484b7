use Rattle.std.proofs.Common.{◌≡◌, ◌∙◌, ap, sym, List, Some, ◌++◌, [], ◌∷◌, arith, length, append_assoc, append-nil}
use Rattle.std.specs.List.{slice_get}
use Rattle.std.specs.Vec.Iter.{into_iter_items}
use Rattle.shared_steps.specs.Seats.{Root}
use Rattle.shared_fabric.specs.Gathering.{PortValue}
use Rattle.shared_fabric.proofs.Gathers.{get_middle, nothing_left, taken_more}
use Rattle.shared_fabric.proofs.shared.take_in.Goals as goal

pub loop-port-preserved : goal.loop-port-preserved
loop-port-preserved c =
    let at = c.loop-port in
    let inv = at.invariant in
    let x = c.in-Some.port in
    let steps : into_iter_items at.port-iterator ≡ x ∷ into_iter_items c.next.new.self = c.in-Some.ensures.steps.0 in
    let gone = c.in-Some.ensures.steps.1 in
    let short = ap length steps in
    let whole : c.args.ports.items ≡ at.yielded ++ x ∷ into_iter_items c.next.new.self = inv.2 ∙ ap (λ l. at.yielded ++ l) steps in
    let its : slice_get c.args.ports.items (length at.yielded) ≡ Some x = ap (λ (l : List PortValue). slice_get l (length at.yielded)) whole ∙ get_middle at.yielded (into_iter_items c.next.new.self) x in
    let id : x.id ≡ length at.yielded = (c.requires.ports.each (length at.yielded) x its).same_id in
    let seen_is = c.port.view_is in
    let root = c.join.ensures in (
      tt,
      tt,
      whole ∙ sym (append_assoc at.yielded (x ∷ []) (into_iter_items c.next.new.self)),
      ap (λ (r : Root). r.table) root.1 ∙ inv.3,
      ap (λ (r : Root). r.config) root.1 ∙ inv.4,
      taken_more at.yielded x at.root.entries c.join.new.self.entries c.port.inside.seat.id c.port.inside.seat.part root.0 (ap (λ (p : PortValue). p.id) seen_is ∙ id) (ap (λ (p : PortValue). p.part) seen_is) (ap (λ (r : Root). r.entries) root.1) inv.5,
      omega (arith, inv.6, gone, short),
    )

pub returns-clause-taken : goal.returns-clause-taken
returns-clause-taken c =
    let at = c.loop-port in
    let inv = at.invariant in
    let none = c.in-None.ensures.steps in
    let empty : into_iter_items at.port-iterator ≡ [] = nothing_left _ (sym inv.6 ∙ none.0) in
    let all : c.args.ports.items ≡ at.yielded = inv.2 ∙ (ap (λ l. at.yielded ++ l) empty ∙ append-nil at.yielded) in
    λ r p h. inv.5 r p (sym (ap (λ (l : List PortValue). slice_get l r) all) ∙ h)
