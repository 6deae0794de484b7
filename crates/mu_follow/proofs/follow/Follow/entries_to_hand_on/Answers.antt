use Rattle.std.proofs.Common.{◌≡◌, ◌∙◌, ap, arith, drop, length, take}
use Rattle.mu_model.specs.Knowledge.{applied, has_entry, known}
use Rattle.mu_knowledge.proofs.Fetched.{front_fits}
use Rattle.mu_follow.proofs.Kept.{applied_is}
use Rattle.mu_follow.proofs.follow.Follow.entries_to_hand_on.Goals as goal

pub returns : goal.returns
returns c k r mine held =
    let log = applied k r mine in
    let values = c.known.ensures k r mine (length mine) held in
    let long = ap length values in
    let fits = front_fits (λ v. has_entry k r v mine) (known k r mine) in
    let count = c.applied_count.ensures.tells k r mine held.rows in
    let handed = held.progress.handed in
    let first : c.first_values-applied.result.now ≡ log =
    c.first_values-applied.ensures (omega (arith, count, fits, long)) ∙ (ap (λ n. take n c.known.result.now) count ∙ (ap (λ l. take (length log) l) values ∙ applied_is k r mine)) in
    let all = ap length first in
    c.values_after.ensures (omega (arith, handed, all)) ∙ ap (λ l. drop c.args.self.now.progress.handed l) first
