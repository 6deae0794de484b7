use Rattle.std.proofs.Common.{refl, sym, ◌∙◌}
use Rattle.lone_words.proofs.accesses.Accesses.new.Goals as goal

pub returns-clause-stands : goal.returns-clause-stands
returns-clause-stands c = record {
  id = refl;
  shape = c.new.ensures.shape;
  layout = c.with_rows.ensures.laid_out;
  rows = c.with_rows.ensures.rows ∙ sym c.new.ensures.rows;
  found = c.in_ok-with_room.ensures.stands c.args.id;
}
