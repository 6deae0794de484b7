use Rattle.std.proofs.Common.{◌+◌, ◌∷◌, ◌++◌, ◌∙◌, List, [], ℕ, ap, append-nil, append_assoc, arith, drop, map, sym}
use Rattle.std.proofs.lemmas.List.{drop_all, drop_more}
use Rattle.kv_store.specs.declared.store.Reply.{Reply}
use Rattle.kv_store.specs.Tables.{replies}
use Rattle.mu_outcome.specs.Entries.{commands_in}
use Rattle.mu_telling.proofs.replies.replies_over_each.Goals as goal

pub loop-log-preserved : goal.loop-log-preserved
loop-log-preserved c =
    let job = c.args.job.now in
    let logs = c.args.logs.now in
    let i = c.loop-log.log-index in
    let log = c.log-item.result in
    let had = c.loop-log.all.items in
    let of : List ℕ → List Reply = λ l. replies (commands_in job l) in
    let rest = map of (drop (i + 1) logs) in
    ap (λ l. l ++ rest) c.in_ok-push.ensures.items
    ∙ (append_assoc had (c.in_ok-replies.replies ∷ []) rest
    ∙ (ap (λ r. had ++ (r ∷ rest)) (c.in_ok-replies.ensures ∙ ap of c.as_slice.ensures)
    ∙ (ap (λ l. had ++ map of l) (sym (drop_more logs i log c.loop-log-test.true ∙ ap (λ x. x ∷ drop (i + 1) logs) (sym c.log-item.is))) ∙ c.loop-log.invariant)))

pub returns : goal.returns
returns c =
    let job = c.args.job.now in
    let logs = c.args.logs.now in
    let had = c.loop-log.all.items in
    let of : List ℕ → List Reply = λ l. replies (commands_in job l) in
    c.from_vec.ensures
    ∙ (sym (append-nil had) ∙ (ap (λ l. had ++ map of l) (sym (drop_all c.loop-log.log-index logs (omega (arith, c.loop-log-test.false)))) ∙ c.loop-log.invariant))
