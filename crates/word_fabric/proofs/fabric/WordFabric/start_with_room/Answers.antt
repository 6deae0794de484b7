use Rattle.std.proofs.Common.{◌∙◌, ◌*◌, ap, arith, subst, sym}
use Rattle.word_fabric.specs.Kept.{IsWordsKept}
use Rattle.word_fabric.proofs.FirstWords.{kept_first}
use Rattle.word_fabric.proofs.fabric.WordFabric.start_with_room.Goals as goal

pub invariant_of-result : goal.invariant_of-result
invariant_of-result c =
    subst (λ k. IsWordsKept k c.in_ok-with_room.field-0.events c.in_ok-with_room.field-0.room c.with_rows-layout.result c.in_ok-first_words.field-0.items c.in_ok-first_founds.field-0.items) (sym c.in_ok-try_clone.ensures)
    (kept_first c.args.config.now c.in_ok-with_room.field-0.events c.in_ok-with_room.field-0.room c.with_rows-layout.result c.in_ok-first_words.field-0.items c.in_ok-first_founds.field-0.items c.requires.config c.with_rows-layout.ensures.laid_out
    c.in_ok-with_room.ensures.empty (let room = c.in_ok-with_room.ensures.room ∙ ap (λ n. n * c.args.config.now.budget) c.from.ensures in omega (arith, room)) c.in_ok-first_words.ensures c.in_ok-first_founds.ensures.count c.in_ok-first_founds.ensures.each)
