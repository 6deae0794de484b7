use Rattle.std.proofs.Common.{arith}
use Rattle.word_fabric.proofs.FirstWords.{first_more}
use Rattle.word_fabric.proofs.making.first_words.Goals as goal

pub loop-p-preserved : goal.loop-p-preserved
loop-p-preserved c =
    first_more c.args.layout.now c.loop-p.p c.fence_of.result c.loop-p.words.items (let low = c.loop-p-test.true in let same = c.requires.replicas in omega (arith, low, same)) c.fence_of.ensures c.loop-p.invariant
