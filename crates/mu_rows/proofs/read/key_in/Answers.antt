use Rattle.std.proofs.Common.{◌∙◌, ap, arith, drop, map, subst, sym, take}
use Rattle.std.specs.List.{range_with_len}
use Rattle.std.proofs.lemmas.Bool.{false≢true}
use Rattle.mu_rows.specs.Rows.{word_of}
use Rattle.mu_rows.specs.Saying.{AreClear}
use Rattle.mu_rows.proofs.Reading.{below, bytes-back, front_is_word, key-text, maker_gives_word}
use Rattle.mu_rows.proofs.Held.{front, front_long, held, held_in_whole, maker_holds, part-fits, part_long, spelled-clear}
use Rattle.mu_rows.proofs.read.key_in.Goals as goal

pub returns-then-not-are_clear-clause-found : goal.returns-then-not-are_clear-clause-found
returns-then-not-are_clear-clause-found c key is long same =
    let part = take 3 (drop 1 c.args.words.now) in
    let count = part_long c.args.words.now 1 3 (omega (arith, c.told-words)) in
    let whole = same ∙ ap (λ n. map (word_of key) (range_with_len 0 n)) (sym count) in
    absurd (false≢true (sym c.if-not-are_clear.true ∙ c.are_clear.ensures.1 (subst (AreClear part) (sym long) (spelled-clear part key (below 24 key is) whole))))

pub returns-clause-some : goal.returns-clause-some
returns-clause-some c =
    let part = c.in_ok-get.field-0.now in
    let got = c.in_ok-get.ensures.lookup.0 in
    held_in_whole c.new.result 24 c.args.words.now 1 3 _ (omega (arith, c.told-words))
    (maker_holds c.new.result 24 (take 3 (drop 1 c.args.words.now)) c.bytes_of.result part _ c.new.ensures.allowed c.new.ensures.same
    (front c.bytes_of.result part _ got.2) (front_long c.bytes_of.result part _ got.2 got.1)
    (held (take 3 (drop 1 c.args.words.now)) c.bytes_of.result _ c.bytes_of.ensures.bytes (part-fits c.args.words.now 1 3 c.fits-words) (c.are_clear.ensures.0 c.if-not-are_clear.false)))

pub returns-clause-found : goal.returns-clause-found
returns-clause-found c key is long same =
    let words = take 3 (drop 1 c.args.words.now) in
    let bytes = bytes-back key words c.bytes_of.result 3 (key-text key is) (omega (arith, is.fits)) (ap (take 3) same) c.bytes_of.ensures.long (λ i small there. c.bytes_of.ensures.bytes i) in
    maker_gives_word c.new.result 24 c.in_ok-get.field-0.now key c.new.ensures.allowed c.new.ensures.same
    (front_is_word c.bytes_of.result _ key _ c.in_ok-get.ensures.lookup.0.2 long bytes)
    is
