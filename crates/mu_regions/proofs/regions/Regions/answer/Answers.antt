use Rattle.std.proofs.Common.{◌≡◌, ℕ, List, Some, sym, ap, subst, ◌∙◌}
use Rattle.std.specs.List.{slice_get}
use Rattle.std.proofs.lemmas.Option.{slice_get-get_or}
use Rattle.mu_regions.specs.Range.{read_at}
use Rattle.mu_regions.specs.declared.region.Region.{Region}
use Rattle.mu_regions.proofs.regions.Regions.answer.Goals as goal

pub returns-in-Some : goal.returns-in-Some
returns-in-Some c k past range stands =
    let found = c.in-Some.ensures.lookup in
    let there : slice_get c.deref.result.now c.from.result ≡ Some c.in-Some.region.now = slice_get-get_or c.deref.result.now c.from.result c.in-Some.region.now found.3.0 ∙ ap Some (sym found.1) in
    let which : c.from.result ≡ read_at c.args.by c.args.verb.now = c.from.ensures ∙ c.region_read.ensures in
    let at = subst (λ (p : ℕ). slice_get c.deref.result.now p ≡ Some c.in-Some.region.now) which there in
    let held = subst (λ (regions : List Region). slice_get regions (read_at c.args.by c.args.verb.now) ≡ Some c.in-Some.region.now) c.deref.ensures.value at in
    c.answer.ensures k past stands.ring stands.few range (stands.each _ _ held)
