use Rattle.std.proofs.Common.{◌≡◌, ◌∙◌, List, [], ◌∷◌, ap, arith, false, refl, sym}
use Rattle.std.specs.Prelude.{is_some, not, slice_get}
use Rattle.std.proofs.lemmas.Bool.{true≢false}
use Rattle.mu_model.specs.declared.event.Event.{Event}
use Rattle.mu_model.specs.Histories.{history}
use Rattle.shared_fabric.specs.Gathering.{PortValue}
use Rattle.worked_rows.proofs.shared_ports.KeptPort.new.Goals as goal

-- a list without a first item is empty
no_first : (l : List Event) → is_some (slice_get l 0) ≡ false → l ≡ []
no_first [] h = refl
no_first (x ∷ l) h = absurd (true≢false h)

pub invariant_of-result-then-is_none : goal.invariant_of-result-then-is_none
invariant_of-result-then-is_none c =
    let part = c.port.inside.seat.part in
    let first = c.newest.ensures ∙ sym (ap (λ (p : PortValue). slice_get p.part 0) c.port.view_is) in
    let none = ap is_some (sym first) ∙ (c.is_none.ensures ∙ ap not c.if-is_none.true) in
    let room = c.in_ok-with_capacity.ensures.exact in
    (ap history c.in_ok-with_capacity.ensures.items ∙ sym (no_first part none), omega (arith, room))
