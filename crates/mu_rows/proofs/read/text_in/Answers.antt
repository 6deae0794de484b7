use Rattle.std.proofs.Common.{◌∙◌, arith, length, subst, sym, take_all}
use Rattle.std.proofs.lemmas.Bool.{false≢true}
use Rattle.mu_rows.specs.Saying.{AreClear}
use Rattle.mu_rows.proofs.Reading.{below, bytes-back, front_is_word, maker_gives_word}
use Rattle.mu_rows.proofs.Held.{front, front_long, held, maker_holds, spelled-clear}
use Rattle.mu_rows.proofs.read.text_in.Goals as goal

pub returns-then-not-are_clear-clause-found : goal.returns-then-not-are_clear-clause-found
returns-then-not-are_clear-clause-found c text is long fits same =
    absurd (false≢true (sym c.if-not-are_clear.true ∙ c.are_clear.ensures.1 (subst (AreClear c.args.words.now) (sym long) (spelled-clear c.args.words.now text (below 64 text is) same))))

pub returns-clause-some : goal.returns-clause-some
returns-clause-some c =
    let part = c.in_ok-get.field-0.now in
    let got = c.in_ok-get.ensures.lookup.0 in
    maker_holds c.new.result 64 c.args.words.now c.bytes_of.result part c.args.len c.new.ensures.allowed c.new.ensures.same
    (front c.bytes_of.result part c.args.len got.2) (front_long c.bytes_of.result part c.args.len got.2 got.1)
    (held c.args.words.now c.bytes_of.result c.args.len c.bytes_of.ensures.bytes (λ j. (c.type_inv.words j).fits) (c.are_clear.ensures.0 c.if-not-are_clear.false))

pub returns-clause-found : goal.returns-clause-found
returns-clause-found c text is long fits same =
    let words = c.args.words.now in
    let bytes = bytes-back text words c.bytes_of.result (length words) is fits (take_all (length words) words (omega arith) ∙ same) c.bytes_of.ensures.long (λ i small there. c.bytes_of.ensures.bytes i) in
    maker_gives_word c.new.result 64 c.in_ok-get.field-0.now text c.new.ensures.allowed c.new.ensures.same
    (front_is_word c.bytes_of.result _ text _ c.in_ok-get.ensures.lookup.0.2 long bytes)
    is
