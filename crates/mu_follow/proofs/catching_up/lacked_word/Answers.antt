use Rattle.std.proofs.Common.{◌≡◌, Some, ap, arith, false, refl, true}
use Rattle.std.specs.Prelude.{nat_lt}
use Rattle.std.proofs.lemmas.Bool.{le-ltb, lt-ltb}
use Rattle.mu_model.specs.declared.event.Verb.{Verb}
use Rattle.mu_follow.specs.CatchingUp.{words_had}
use Rattle.mu_follow.proofs.catching_up.lacked_word.Goals as goal

pub returns-then-had-lt-WORDS : goal.returns-then-had-lt-WORDS
returns-then-had-lt-WORDS c x r mine low small held =
    let v = c.args.v in
    let had : c.words_had-had.result ≡ words_had r mine v = c.words_had-had.ensures x r mine low small held in
    let less : nat_lt (words_had r mine v) 12 ≡ true = lt-ltb (words_had r mine v) 12 (omega (arith, c.if-had-lt-WORDS.true, had)) in
    rw less (ap (λ k. Some (Verb.ReadRow v k)) had)

pub returns-else-had-lt-WORDS : goal.returns-else-had-lt-WORDS
returns-else-had-lt-WORDS c x r mine low small held =
    let v = c.args.v in
    let had : c.words_had-had.result ≡ words_had r mine v = c.words_had-had.ensures x r mine low small held in
    let more : nat_lt (words_had r mine v) 12 ≡ false = le-ltb (words_had r mine v) 12 (omega (arith, c.if-had-lt-WORDS.false, had)) in
    rw more refl
