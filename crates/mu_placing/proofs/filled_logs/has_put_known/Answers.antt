use Rattle.std.proofs.Common.{◌∙◌, ◌≡◌, ◌≤◌, inl, inr, false, sym, ap, subst, arith, length}
use Rattle.std.specs.List.{slice_get}
use Rattle.std.proofs.lemmas.Bool.{cases_lt}
use Rattle.mu_model.specs.Knowledge.{is_value, known}
use Rattle.mu_placing.specs.FilledLogs.{has_known}
use Rattle.mu_placing.proofs.Caught.{is_last_known, last_tells_known, none_known_beyond}
use Rattle.mu_agree.proofs.Within.{known_few}
use Rattle.mu_placing.proofs.filled_logs.has_put_known.Goals as goal

pub returns-in-Err : goal.returns-in-Err
returns-in-Err c c' r mine config possible values held =
    let few = known_few c' r mine config possible in
    let beyond : length (known c' r mine) ≤ c.args.at = elim (cases_lt c.args.at 65536) [ inl low ↦ absurd (c.in-Err.ensures low) | inr high ↦ omega (arith, few, high) ] in
    sym (none_known_beyond c' r c.args.p c.args.at mine possible beyond)

pub returns-in-None : goal.returns-in-None
returns-in-None c c' r mine config possible values held =
    let told = c.last.ensures c' r mine config possible held in
    subst (λ j. false ≡ has_known c' r c.args.p mine j) c.in-Ok.ensures.1
    (sym (ap (λ o. is_last_known (slice_get (known c' r mine) c.in-Ok.i) o) (sym told ∙ c.in-None.is)) ∙ last_tells_known c' r c.args.p c.in-Ok.i mine possible)

pub returns-in-Some : goal.returns-in-Some
returns-in-Some c c' r mine config possible values held =
    let told = c.last.ensures c' r mine config possible held in
    subst (λ j. c.is_known.result ≡ has_known c' r c.args.p mine j) c.in-Ok.ensures.1
    (c.is_known.ensures ∙ ap (λ l. is_value (slice_get l c.in-Ok.i) c.in-Some.v) values ∙ sym (ap (λ o. is_last_known (slice_get (known c' r mine) c.in-Ok.i) o) (sym told ∙ c.in-Some.is)) ∙ last_tells_known c' r c.args.p c.in-Ok.i mine possible)
