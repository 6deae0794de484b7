use Rattle.std.proofs.Common.{ap, refl, sym, ◌++◌}
use Rattle.mu_report.proofs.Sentences.{alone}
use Rattle.mu_report.proofs.sentence.push_sentence.Goals as goal

pub returns-in-Plain-clause-bytes : goal.returns-in-Plain-clause-bytes
returns-in-Plain-clause-bytes c = rw c.in-Plain.is (rw c.push.ensures.bytes (ap (λ l. c.args.line.now ++ l) (sym (alone c.in-Plain.words.now))))

pub returns-in-One-clause-bytes : goal.returns-in-One-clause-bytes
returns-in-One-clause-bytes c = rw c.in-One.is (rw c.push_words.ensures.bytes refl)

pub returns-in-Two-clause-bytes : goal.returns-in-Two-clause-bytes
returns-in-Two-clause-bytes c = rw c.in-Two.is (rw c.push_words-in-Two.ensures.bytes refl)

pub returns-in-Three-clause-bytes : goal.returns-in-Three-clause-bytes
returns-in-Three-clause-bytes c = rw c.in-Three.is (rw c.push_words-in-Three.ensures.bytes refl)

pub returns-in-Four-clause-bytes : goal.returns-in-Four-clause-bytes
returns-in-Four-clause-bytes c = rw c.in-Four.is (rw c.push_words-in-Four.ensures.bytes refl)

pub returns-in-Five-clause-bytes : goal.returns-in-Five-clause-bytes
returns-in-Five-clause-bytes c = rw c.in-Five.is (rw c.push_words-in-Five.ensures.bytes refl)

pub returns-in-Six-clause-bytes : goal.returns-in-Six-clause-bytes
returns-in-Six-clause-bytes c = rw c.in-Six.is (rw c.push_words-in-Six.ensures.bytes refl)
