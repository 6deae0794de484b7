use Rattle.std.proofs.Common.{◌++◌, Ok, subst}
use Rattle.std.proofs.lemmas.Result.{err_from_is_err_and}
use Rattle.mu_input.specs.Traces.{ReadsOn}
use Rattle.mu_input.proofs.Taking.{all_more, one_more}
use Rattle.mu_input.proofs.traces.EventLines.count_all.Goals as goal

pub returns-in_err-next : goal.returns-in_err-next
returns-in_err-next c = λ bytes job past held.
    let told = c.loop.invariant bytes job past held in
    let p = err_from_is_err_and c.from_residual.result c.from_residual.ensures.1 in
    rw (p.1, p.2) (c.in_err-next.ensures.reading bytes job _ told.read)

pub loop-preserved : goal.loop-preserved
loop-preserved c = λ bytes job past held.
    let told = c.loop.invariant bytes job past held in
    one_more bytes job past told.more c.in-Some.field-0 c.next.new.self
    (subst (λ found. ReadsOn bytes job (past ++ told.more) (Ok found) c.next.new.self) c.in-Some.is (c.in_ok-next.ensures.reading bytes job _ told.read))

pub returns : goal.returns
returns c = λ bytes job past held.
    let told = c.loop.invariant bytes job past held in
    all_more bytes job past told.more c.count.result c.next.new.self
    (subst (λ found. ReadsOn bytes job (past ++ told.more) (Ok found) c.next.new.self) c.in_default.is (c.in_ok-next.ensures.reading bytes job _ told.read)) c.count.ensures
