use Rattle.std.proofs.Common.{◌≡◌, ◌∙◌, ◌+◌, ℕ, List, Some, ap, arith, length, subst, sym}
use Rattle.std.specs.List.{slice_get}
use Rattle.std.proofs.lemmas.List.{length_push}
use Rattle.mu_model.proofs.Lists.{each_pushed}
use Rattle.mu_eras.specs.Applied.{IsFirst}
use Rattle.mu_eras.specs.declared.applied.Applied.{Applied}
use Rattle.mu_eras.proofs.applied.first_stores.Goals as goal

pub loop-preserved : goal.loop-preserved
loop-preserved c =
    let stores = c.loop.stores.items in
    let own = c.in_ok-with_room.field-0 in
    let first : IsFirst c.args.room own = record { table = c.in_ok-with_room.ensures.table; entries = c.in_ok-with_room.ensures.entries; commands = c.in_ok-with_room.ensures.commands; room_is = c.in_ok-with_room.ensures.room } in
    record {
      room = omega (arith, c.loop.invariant.room, c.push_reserved.ensures.capacity);
      count = ap length c.push_reserved.ensures.items ∙ (length_push stores own ∙ ap (λ m. m + 1) c.loop.invariant.count);
      each = subst (λ (l : List Applied). (r : ℕ) (a : Applied) → slice_get l r ≡ Some a → IsFirst c.args.room a) (sym c.push_reserved.ensures.items)
          (each_pushed (λ r a. IsFirst c.args.room a) stores own c.loop.invariant.each first);
    }
