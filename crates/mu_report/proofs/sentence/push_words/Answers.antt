use Rattle.std.proofs.Common.{arith}
use Rattle.mu_report.proofs.Sentences.{sentence_ends, sentence_next}
use Rattle.mu_report.proofs.sentence.push_words.Goals as goal

pub loop-byte-preserved : goal.loop-byte-preserved
loop-byte-preserved c = record {
  bytes = sentence_next _ _ c.args.words.now _ c.loop-byte.byte-index _ _ _ c.loop-byte-test.true c.push_next-left.ensures.bytes c.loop-byte.invariant.bytes;
  room = (let room = c.push_next-left.ensures.room in let before = c.loop-byte.invariant.room in omega (arith, room, before));
}

pub returns-clause-bytes : goal.returns-clause-bytes
returns-clause-bytes c = sentence_ends _ c.args.words.now _ c.loop-byte.byte-index _ (grind arith) c.loop-byte.invariant.bytes
