use Rattle.std.proofs.Common.{Bor, ◌≡◌, ◌∙◌, ◌+◌, ◌<◌, ◌≤◌, List, ◌∷◌, Some, ap, arith, drop, get_or, length, suc, sym, ℕ}
use Rattle.std.specs.List.{slice_get}
use Rattle.std.proofs.Math.Seq.{drop-cons}
use Rattle.std.proofs.lemmas.Bool.Decides.{nat_tests}
use Rattle.std.proofs.lemmas.Option.{slice_get-get_or}
use Rattle.kv_store.specs.declared.store.Reply.{Reply}
use Rattle.mu_outcome.specs.Entries.{longest}
use Rattle.mu_outcome.proofs.LongestLogs.{longer, longer_assoc}
use Rattle.mu_cluster.proofs.lists.Lists.longest_replies.Goals as goal
use Rattle.mu_cluster.proofs.lists.Lists.longest_replies.Goals.{then-len-best, else-len-best}

taken : (xs ys : List ℕ) → length xs < length ys → longer xs ys ≡ ys
taken xs ys low = grind (arith, nat_tests)

kept : (xs ys : List ℕ) → length ys ≤ length xs → longer xs ys ≡ xs
kept xs ys high = grind (arith, nat_tests)

step : (best log now : List ℕ) (rest all : List (List ℕ)) → longer best (longest (log ∷ rest)) ≡ longest all → longer best log ≡ now → longer now (longest rest) ≡ longest all
step best log now rest all so_far is = ap (λ l. longer l (longest rest)) (sym is) ∙ sym (longer_assoc best log (longest rest)) ∙ so_far

pub loop-r-preserved : goal.loop-r-preserved
loop-r-preserved c =
    let r = c.loop-r.r in
    let logs = c.args.self.now.logs.items in
    let log = c.log-item.result in
    let best = c.loop-r.best.now in
    let same : c.deref-log-items.result.now ≡ logs = c.deref-log-items.ensures.value in
    let long = ap length same in
    let low : r < length logs = omega (arith, c.loop-r-test.true, long) in
    let here : get_or logs r log ≡ log = sym (c.log-item.is ∙ ap (λ l. get_or l r log) same) in
    let one : suc r ≡ r + 1 = omega arith in
    let split : drop r logs ≡ log ∷ drop (r + 1) logs = drop-cons logs r log low ∙ ap (λ l. l ∷ drop (suc r) logs) here ∙ ap (λ n. log ∷ drop n logs) one in
    let at : slice_get logs r ≡ Some log = slice_get-get_or logs r log low ∙ ap (λ l. Some l) here in
    let so_far = ap (λ l. longer best (longest l)) (sym split) ∙ c.loop-r.invariant.best in
    elim c.if-len-best.branch [
      | then-len-best w ↦
          let now : c.if-len-best.best.now ≡ log = ap (λ (b : Bor (List ℕ)). b.now) w.best-is ∙ w.as_slice-best.ensures in
          record {
            best = step best log c.if-len-best.best.now (drop (r + 1) logs) logs so_far (taken best log (omega (arith, w.if-len-best.true, c.len.ensures)) ∙ sym now);
            told = λ f none are. ap (λ (b : Bor (List Reply)). b.now) w.replies-is ∙ (w.replies_of-replies.ensures (f log) (are r log at) ∙ ap f (sym now));
          }
      | else-len-best w ↦
          let now : c.if-len-best.best.now ≡ best = ap (λ (b : Bor (List ℕ)). b.now) w.best-is in
          record {
            best = step best log c.if-len-best.best.now (drop (r + 1) logs) logs so_far (kept best log (omega (arith, w.if-len-best.false, c.len.ensures)) ∙ sym now);
            told = λ f none are. ap (λ (b : Bor (List Reply)). b.now) w.replies-is ∙ (c.loop-r.invariant.told f none are ∙ ap f (sym now));
          }
    ]
