use Rattle.std.proofs.Common.{◌∙◌, sym, ap}
use Rattle.kv_store.specs.Tables.{compared}
use Rattle.kv_store.specs.Texts.{table_of}
use Rattle.kv_store.proofs.Views.{get-lent, table_of-written, table_of-kept, compared-found, after-found, after-absent}
use Rattle.kv_store.proofs.store.compare_and_set.Goals as goal

pub returns-in-None-clause-reply : goal.returns-in-None-clause-reply
returns-in-None-clause-reply c = sym (ap (λ before. compared before c.args.old) (get-lent c.args.texts.now c.args.key.now c.get_mut.result _ c.get_mut.ensures.value c.in-None.is))

pub returns-in-None-clause-table : goal.returns-in-None-clause-table
returns-in-None-clause-table c =
    let absent = get-lent c.args.texts.now c.args.key.now c.get_mut.result _ c.get_mut.ensures.value c.in-None.is in
    ap table_of c.get_mut.follows.holds-at-none ∙ sym (after-absent (table_of c.args.texts.now) c.args.key.now c.args.old c.args.new absent)

pub returns-then-eq-clause-reply : goal.returns-then-eq-clause-reply
returns-then-eq-clause-reply c =
    let found = get-lent c.args.texts.now c.args.key.now c.get_mut.result _ c.get_mut.ensures.value c.in-Some.is in
    sym (compared-found _ c.in-Some.text.now c.args.old _ found (sym c.eq.ensures ∙ c.if-eq.true))

pub returns-then-eq-clause-table : goal.returns-then-eq-clause-table
returns-then-eq-clause-table c =
    let found = get-lent c.args.texts.now c.args.key.now c.get_mut.result _ c.get_mut.ensures.value c.in-Some.is in
    table_of-written c.args.texts.now (c.get_mut.follows.lender c.args.new) c.args.key.now c.args.new c.in-Some.text.now found (c.get_mut.follows.holds c.args.new)
    ∙ sym (after-found (table_of c.args.texts.now) c.args.key.now c.in-Some.text.now c.args.old c.args.new _ found (sym c.eq.ensures ∙ c.if-eq.true))

pub returns-else-eq-clause-reply : goal.returns-else-eq-clause-reply
returns-else-eq-clause-reply c =
    let found = get-lent c.args.texts.now c.args.key.now c.get_mut.result _ c.get_mut.ensures.value c.in-Some.is in
    sym (compared-found _ c.in-Some.text.now c.args.old _ found (sym c.eq.ensures ∙ c.if-eq.false))

pub returns-else-eq-clause-table : goal.returns-else-eq-clause-table
returns-else-eq-clause-table c =
    let found = get-lent c.args.texts.now c.args.key.now c.get_mut.result _ c.get_mut.ensures.value c.in-Some.is in
    table_of-kept c.args.texts.now (c.get_mut.follows.lender c.in-Some.text.now) c.args.key.now c.in-Some.text.now found (c.get_mut.follows.holds c.in-Some.text.now)
    ∙ sym (after-found (table_of c.args.texts.now) c.args.key.now c.in-Some.text.now c.args.old c.args.new _ found (sym c.eq.ensures ∙ c.if-eq.false))
