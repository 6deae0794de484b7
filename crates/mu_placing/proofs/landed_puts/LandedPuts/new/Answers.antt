use Rattle.std.proofs.Common.{rules, ◌≡◌, ◌*◌, None, replicate, arith, refl}
use Rattle.mu_placing.proofs.Noted.{none_noted}
use Rattle.mu_placing.proofs.landed_puts.LandedPuts.new.Goals as goal

pub overflow_mul-positions_in : goal.overflow_mul-positions_in
overflow_mul-positions_in c = omega (arith, c.positions_in.ensures.few)

pub returns : goal.returns
returns c r =
    let nothing : c.in_ok-vec.field-0.items ≡ replicate (c.positions_in.result * 7) None = search (rules, c.in_ok-vec.ensures.items_if_clones_equal) in
    record {
      leadership = refl;
      room = search (rules, c.in_ok-vec.ensures.len, c.positions_in.ensures.count);
      notes = rw nothing (none_noted r (c.positions_in.result * 7));
    }
