use Rattle.std.proofs.Common.{rules, []}
use Rattle.mu_model.proofs.Lists.{each_pushed}
use Rattle.mu_words.specs.Founds.{FoundIs}
use Rattle.word_fabric.proofs.making.first_founds.Goals as goal

pub loop-preserved : goal.loop-preserved
loop-preserved c = record {
  count = search (rules, c.push_reserved.ensures.items, c.loop.invariant.count);
  room = search rules;
  each = rw c.push_reserved.ensures.items
      (each_pushed (λ r f. FoundIs c.args.config.now r f [] []) c.loop.founds.items c.in_ok-with_room.field-0 c.loop.invariant.each (c.in_ok-with_room.ensures.stands _));
}
