use Rattle.std.proofs.Common.{rules, ◌∙◌, ◌*◌, ◌+◌, ◌≡◌, ◌≤◌, List, length, sym, ap, subst, Some, arith, inl, inr}
use Rattle.std.specs.List.{slice_get}
use Rattle.std.specs.declared.option.Option.{Option}
use Rattle.std.proofs.lemmas.Option.{slice_get-get_or}
use Rattle.mu_placing.specs.LandedPuts.{noted_in}
use Rattle.mu_placing.specs.declared.landed_puts.Landing.{Landing}
use Rattle.mu_placing.proofs.Alike.{none_beyond}
use Rattle.mu_placing.proofs.landed_puts.LandedPuts.last.Goals as goal

pub returns-then-p-ge7 : goal.returns-then-p-ge7
returns-then-p-ge7 c c' r mine config possible held = sym (none_beyond c' r c.args.p c.args.i mine possible (inl (omega (arith, c.if-p-ge7.true, config.replicas.1))))

pub returns-in-None : goal.returns-in-None
returns-in-None c c' r mine config possible held =
    let past : length c.deref.result.now ≤ c.slot_of.result = search (rules, c.in-None.ensures) in
    sym (none_beyond c' r c.args.p c.args.i mine possible (inr (omega (arith, past, c.deref.ensures.len, c.if-p-ge7.false, c.slot_of.ensures, held.room))))

pub returns-in-Some : goal.returns-in-Some
returns-in-Some c c' r mine config possible held =
    let found = c.in-Some.ensures.lookup in
    let there : slice_get c.deref.result.now c.slot_of.result ≡ Some c.in-Some.noted.now = slice_get-get_or c.deref.result.now c.slot_of.result c.in-Some.noted.now found.3.0 ∙ ap Some (sym found.1) in
    let at = subst (λ k. slice_get c.deref.result.now k ≡ Some c.in-Some.noted.now) c.slot_of.ensures there in
    let noted = subst (λ (notes : List (Option Landing)). slice_get notes (c.args.i * 7 + c.args.p) ≡ Some c.in-Some.noted.now) c.deref.ensures.value at in
    c.noted_now.ensures ∙ ap (λ n. noted_in n c.in-Some.noted.now) held.leadership ∙ (held.notes c.args.p c.args.i c.in-Some.noted.now c.if-p-ge7.false noted).entry
