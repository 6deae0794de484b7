use Rattle.std.proofs.Common.{arith, get_or, ap, refl}
use Rattle.std.proofs.lemmas.Option.{same_Some}
use Rattle.mu_rows.proofs.Reading.{head_has_fields, maker_gives_command, maker_says}
use Rattle.mu_rows.proofs.read.command_in.Goals as goal

pub returns-clause-some : goal.returns-clause-some
returns-clause-some c =
    maker_says c.new.result c.args.words.now _ _ c.in_ok-op_in.field-0 c.new.ensures.allowed c.new.ensures.same (omega (arith, c.told-words)) c.in_ok-op_in.ensures.some refl refl

pub returns-clause-found : goal.returns-clause-found
returns-clause-found c r k is few same =
    let head = head_has_fields (get_or c.args.words.now 0 0) r k is few (ap (λ l. get_or l 0 0) same) in
    maker_gives_command c.new.result _ _ c.in_ok-op_in.field-0 r c.new.ensures.allowed c.new.ensures.same
    head.client head.number
    (same_Some _ _ (c.in_ok-op_in.ensures.found r k is few same))
    is.allowed
