use Rattle.std.proofs.Common.{rules, ◌≡◌, ◌∙◌, ◌≤◌, Some, ap, arith, length, sym}
use Rattle.std.specs.List.{slice_get}
use Rattle.std.proofs.lemmas.Option.{slice_get-get_or}
use Rattle.mu_model.specs.Knowledge.{has_entry, known}
use Rattle.mu_knowledge.proofs.Fetched.{front_fits}
use Rattle.mu_follow.specs.Groups.{group_size}
use Rattle.mu_follow.proofs.Handing.{applied_at, none_applied}
use Rattle.mu_follow.proofs.follow.Follow.ready.Goals as goal

pub returns-then-applied_count-self-clause-entry : goal.returns-then-applied_count-self-clause-entry
returns-then-applied_count-self-clause-entry c k r mine held =
    let count = c.applied_count.ensures.kept ∙ held.rows.applied in
    none_applied k r c.args.self.now.progress.handed mine (omega (arith, count, c.if-applied_count-self.true))

pub returns-in-Some-clause-entry : goal.returns-in-Some-clause-entry
returns-in-Some-clause-entry c k r mine held =
    let at = c.args.self.now.progress.handed in
    let count = c.applied_count.ensures.kept ∙ held.rows.applied in
    let values = c.known.ensures k r mine held.knowing in
    let found = c.in-Some.ensures.lookup in
    let there : slice_get c.known.result.now at ≡ Some c.in-Some.value.now = slice_get-get_or c.known.result.now at c.in-Some.value.now found.3.0 ∙ ap Some (sym found.1) in (
      applied_at k r at mine (omega (arith, count, c.if-applied_count-self.false)) ∙ (ap (λ l. slice_get l at) (sym values) ∙ there),
      c.group_size.ensures ∙ ap (λ x. group_size x c.in-Some.value.now) held.config,
    )

pub returns-in-None-clause-entry : goal.returns-in-None-clause-entry
returns-in-None-clause-entry c k r mine held =
    let at = c.args.self.now.progress.handed in
    let count = c.applied_count.ensures.kept ∙ held.rows.applied in
    let long = ap length (c.known.ensures k r mine held.knowing) in
    let past : length c.known.result.now ≤ at = search (rules, c.in-None.ensures) in
    let fits = front_fits (λ v. has_entry k r v mine) (known k r mine) in
    absurd (omega (arith, past, long, fits, count, c.if-applied_count-self.false))
