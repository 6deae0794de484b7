use Rattle.std.proofs.Common.{rules, ◌≡◌, false, refl, replicate}
use Rattle.mu_knowledge.specs.KnownLog.{is_set}
use Rattle.mu_knowledge.proofs.Filled.{none_filled}
use Rattle.mu_model.proofs.Lists.{copies_fail}
use Rattle.mu_knowledge.proofs.filled_log.FilledLog.new.Goals as goal

pub returns : goal.returns
returns c r p =
    let clear : c.in_ok-vec.field-0.items ≡ replicate c.positions_in.result false = search (rules, c.in_ok-vec.ensures.items_if_clones_equal) in
    record {
      room = search (rules, c.in_ok-vec.ensures.len, c.positions_in.ensures.count);
      filled = λ j. rw clear (none_filled c.positions_in.result j);
      next = rw clear (copies_fail is_set c.positions_in.result 0 false refl refl);
    }
