use Rattle.std.proofs.Common.{arith, rules, ◌∙◌}
use Rattle.mu_rows.proofs.Reading.{word-put}
use Rattle.mu_rows.proofs.Held.{bytes-read, zeros}
use Rattle.mu_rows.proofs.read.bytes_of.Goals as goal

pub loop-index-init : goal.loop-index-init
loop-index-init c = record {
  long = search rules;
  done = λ k low. absurd (omega (arith, low));
  rest = λ k high. zeros 64 k;
}

pub loop-index-preserved : goal.loop-index-preserved
loop-index-preserved c = record {
  long = c.put_word.array_long;
  done = word-put c.args.words.now c.loop-index.bytes c.put_word.new.bytes c.loop-index.index c.loop-index.invariant.done c.put_word.ensures.own c.put_word.ensures.before;
  rest = λ k high. c.put_word.ensures.after k (omega (arith, high)) ∙ c.loop-index.invariant.rest k (omega (arith, high));
}

pub returns-clause-bytes : goal.returns-clause-bytes
returns-clause-bytes c i =
    bytes-read c.args.words.now c.loop-index.bytes c.loop-index.index (omega (arith, c.loop-index-test.false))
    c.loop-index.invariant.done c.loop-index.invariant.rest i
