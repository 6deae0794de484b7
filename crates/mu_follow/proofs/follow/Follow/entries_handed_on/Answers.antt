use Rattle.std.proofs.Common.{◌∙◌, ap, arith, length, sym, take}
use Rattle.mu_model.specs.Knowledge.{applied, has_entry, known}
use Rattle.mu_knowledge.proofs.Fetched.{front_fits}
use Rattle.mu_follow.proofs.Kept.{applied_is}
use Rattle.mu_follow.proofs.Spelled.{within_first}
use Rattle.mu_follow.proofs.follow.Follow.entries_handed_on.Goals as goal

pub returns : goal.returns
returns c k r mine held =
    let count = c.args.self.now.progress.handed in
    let values = c.known.ensures k r mine (length mine) held in
    let long = ap length values in
    let fits = front_fits (λ v. has_entry k r v mine) (known k r mine) in
    let handed = held.progress.handed in
    c.first_values.ensures (omega (arith, handed, fits, long))
    ∙ (ap (λ l. take count l) values ∙ (sym (within_first count 0 (length (applied k r mine)) (known k r mine) (omega (arith, handed))) ∙ ap (λ l. take count l) (applied_is k r mine)))
