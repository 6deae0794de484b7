use Rattle.std.proofs.Common.{◌≡◌, ◌+◌, ◌∷◌, [], ◌++◌, ◌∙◌, Err, None, Ok, Some, arith, subst}
use Rattle.std.proofs.lemmas.List.{length-reverse}
use Rattle.std.proofs.lemmas.Result.{err_from_is_err_and}
use Rattle.std.specs.Prelude.{IfSome}
use Rattle.mu_verdict.proofs.AttestedItems.{attested_all, attested_more, by_rows, item_refused, more_by_rows, wrong_found, wrong_refused}
use Rattle.mu_verdict.specs.Attestors.{StaysOrTakes}
use Rattle.mu_verdict.specs.Traces.{GivesItem, HasFew}
use Rattle.mu_clients.specs.Attested.{items_back}
use Rattle.mu_model.specs.Contents.{row_count}
use Rattle.mu_verdict.proofs.finding.attested_items.Goals as goal

pub loop-attestor-preserved : goal.loop-attestor-preserved
loop-attestor-preserved c =
    let inv = c.loop-attestor.invariant in
    let job = c.args.job.now in
    let number = subst (λ found. IfSome found (λ _. c.next_item.new.lines.number ≡ c.loop-attestor.lines.number + 1)) c.in-Some.is c.in_ok-item.ensures.number in
    let few = subst (λ found. IfSome found (λ _. HasFew c.next_item.new.lines)) c.in-Some.is c.in_ok-item.ensures.few in (
      c.number-line.ensures,
      omega (arith, number, inv.0, inv.1, c.number-line.ensures),
      few,
      λ bytes opens.
          let held = inv.3 bytes opens in
          let gives = by_rows job.config.replicas _ (row_count job.config) held.past c.loop-attestor.lines (Ok (Some c.in-Some.item)) c.next_item.new.lines c.count_of_rows-rows.ensures
          (subst (λ found. GivesItem job.config.replicas c.count_of_rows-rows.result held.past c.loop-attestor.lines (Ok found) c.next_item.new.lines) c.in-Some.is (c.in_ok-item.ensures.gives held.past)) in
          attested_more bytes job c.number-first.result c.loop-attestor.lines c.next_item.new.lines c.loop-attestor.attestor c.take.new.self c.in-Some.item held gives number
          (subst (λ found. StaysOrTakes job (items_back held.past) c.in-Some.item c.take.new.self found) c.in_default-2.is (c.in_ok-flaw.ensures (items_back held.past) held.stands)),
    )

pub returns-in_err-item-clause-end : goal.returns-in_err-item-clause-end
returns-in_err-item-clause-end c = λ bytes opens.
    let held = c.loop-attestor.invariant.3 bytes opens in
    let job = c.args.job.now in
    let p = err_from_is_err_and c.from_residual-in_err-item.result c.from_residual-in_err-item.ensures.1 in
    rw (p.1, p.2) (item_refused bytes job c.number-first.result c.loop-attestor.lines c.next_item.new.lines c.loop-attestor.attestor c.in_err-item.field-0.0 held
    (by_rows job.config.replicas _ (row_count job.config) held.past c.loop-attestor.lines (Err c.in_err-item.field-0.0) c.next_item.new.lines c.count_of_rows-rows.ensures (c.in_err-item.ensures.gives held.past)))

pub returns-in-Some-2-clause-found : goal.returns-in-Some-2-clause-found
returns-in-Some-2-clause-found c = λ bytes opens.
    let inv = c.loop-attestor.invariant in
    let held = inv.3 bytes opens in
    let job = c.args.job.now in
    let gives = by_rows job.config.replicas _ (row_count job.config) held.past c.loop-attestor.lines (Ok (Some c.in-Some.item)) c.next_item.new.lines c.count_of_rows-rows.ensures
    (subst (λ found. GivesItem job.config.replicas c.count_of_rows-rows.result held.past c.loop-attestor.lines (Ok found) c.next_item.new.lines) c.in-Some.is (c.in_ok-item.ensures.gives held.past)) in
    let more = more_by_rows job.config.replicas _ (row_count job.config) (held.past ++ c.in-Some.item ∷ []) c.next_item.new.lines _ c.wrong_with.result c.count_of_rows-rows.ensures (c.wrong_with.ensures (held.past ++ c.in-Some.item ∷ [])) in
    wrong_found bytes job c.number-first.result c.loop-attestor.lines c.next_item.new.lines c.loop-attestor.attestor _ c.wrong_with.result held gives more
    (subst (λ found. StaysOrTakes job (items_back held.past) c.in-Some.item c.take.new.self found) c.in-Some-2.is (c.in_ok-flaw.ensures (items_back held.past) held.stands))
    inv.0 (omega (arith, inv.1)) (c.events-events.ensures ∙ held.stands.events)

pub returns-in-Some-2-clause-end : goal.returns-in-Some-2-clause-end
returns-in-Some-2-clause-end c = λ bytes opens.
    let held = c.loop-attestor.invariant.3 bytes opens in
    let job = c.args.job.now in
    let gives = by_rows job.config.replicas _ (row_count job.config) held.past c.loop-attestor.lines (Ok (Some c.in-Some.item)) c.next_item.new.lines c.count_of_rows-rows.ensures
    (subst (λ found. GivesItem job.config.replicas c.count_of_rows-rows.result held.past c.loop-attestor.lines (Ok found) c.next_item.new.lines) c.in-Some.is (c.in_ok-item.ensures.gives held.past)) in
    let more = more_by_rows job.config.replicas _ (row_count job.config) (held.past ++ c.in-Some.item ∷ []) c.next_item.new.lines _ c.wrong_with.result c.count_of_rows-rows.ensures (c.wrong_with.ensures (held.past ++ c.in-Some.item ∷ [])) in
    wrong_refused bytes job c.number-first.result c.loop-attestor.lines c.next_item.new.lines c.loop-attestor.attestor _ c.wrong_with.result held gives more

pub returns-clause-found : goal.returns-clause-found
returns-clause-found c = λ bytes opens.
    let inv = c.loop-attestor.invariant in
    let held = inv.3 bytes opens in
    let job = c.args.job.now in
    let number = held.number in
    let long = length-reverse held.past in
    let gives = by_rows job.config.replicas _ (row_count job.config) held.past c.loop-attestor.lines (Ok None) c.next_item.new.lines c.count_of_rows-rows.ensures
    (subst (λ found. GivesItem job.config.replicas c.count_of_rows-rows.result held.past c.loop-attestor.lines (Ok found) c.next_item.new.lines) c.in_default.is (c.in_ok-item.ensures.gives held.past)) in
    attested_all bytes job c.number-first.result c.loop-attestor.lines c.loop-attestor.attestor c.counts_of.result held gives
    (c.counts_of.ensures job (items_back held.past) held.stands (omega (arith, number, long, inv.0, inv.1)))
