use Rattle.std.proofs.Common.{◌≡◌, ◌≤◌, List, length, Some, sym, ap, subst, ◌∙◌, arith, rules}
use Rattle.std.specs.List.{slice_get}
use Rattle.std.proofs.lemmas.Option.{slice_get-get_or}
use Rattle.mu_placing.specs.declared.filled_logs.Coverage.{Coverage}
use Rattle.mu_placing.proofs.Beyond.{caught_beyond}
use Rattle.mu_placing.proofs.filled_logs.FilledLogs.is_caught_up_below.Goals as goal

pub returns-in-Some : goal.returns-in-Some
returns-in-Some c c' r mine config possible held =
    let found = c.in-Some.ensures.lookup in
    let there : slice_get c.deref.result.now c.from.result ≡ Some c.in-Some.region.now = slice_get-get_or c.deref.result.now c.from.result c.in-Some.region.now found.3.0 ∙ ap Some (sym found.1) in
    let at = subst (λ k. slice_get c.deref.result.now k ≡ Some c.in-Some.region.now) c.from.ensures there in
    let region = subst (λ (regions : List Coverage). slice_get regions c.args.p ≡ Some c.in-Some.region.now) c.deref.ensures.value at in
    c.is_caught_up_below.ensures c' r c.args.p mine (held.each c.args.p c.in-Some.region.now region)

pub returns-in-None : goal.returns-in-None
returns-in-None c c' r mine config possible held =
    let past : length c.deref.result.now ≤ c.from.result = search (rules, c.in-None.ensures) in
    caught_beyond c' r c.args.p c.args.i mine possible (omega (arith, past, c.deref.ensures.len, c.from.ensures, held.count, config.replicas.1))
