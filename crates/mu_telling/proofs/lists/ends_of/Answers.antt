use Rattle.std.proofs.Common.{◌≡◌, ◌<◌, ◌+◌, ◌∙◌, ap, arith, length, subst, sym}
use Rattle.std.proofs.lemmas.List.{length_push}
use Rattle.mu_model.specs.Histories.{part}
use Rattle.mu_model.proofs.Lists.{each_pushed}
use Rattle.mu_course.specs.SoFar.{IsSoFar}
use Rattle.mu_telling.specs.Accounts.{AreEnds}
use Rattle.mu_telling.proofs.lists.ends_of.Goals as goal

pub loop-r-preserved : goal.loop-r-preserved
loop-r-preserved c = λ past held.
    let config = c.args.config.now in
    let script = c.args.script.now in
    let r = c.loop-r.r in
    let low : r < config.replicas = omega (arith, c.loop-r-test.true) in
    let before = c.loop-r.invariant past held in
    let items = c.loop-r.ends.items in
    let last = subst (λ p. IsSoFar config script p (part p past) c.end.result) (sym before.count) (c.end.ensures past low held) in
    record {
      count = ap length c.in_ok-push.ensures.items ∙ (length_push items c.end.result ∙ ap (λ n. n + 1) before.count);
      each = rw c.in_ok-push.ensures.items (each_pushed (λ p e. IsSoFar config script p (part p past) e) items c.end.result before.each last);
    }

pub returns : goal.returns
returns c = λ past held.
    let config = c.args.config.now in
    let script = c.args.script.now in
    let done : c.loop-r.r ≡ config.replicas = omega (arith, c.loop-r-test.false, c.loop-r.auto.r-end) in
    subst (λ l. AreEnds config script past config.replicas l) (sym c.from_vec.ensures)
    (subst (λ n. AreEnds config script past n c.loop-r.ends.items) done (c.loop-r.invariant past held))
