use Rattle.std.proofs.Common.{◌≤◌, subst, sym}
use Rattle.mu_model.specs.Contents.{row_count}
use Rattle.mu_port.specs.Growing.{IsGrown}
use Rattle.mu_port.specs.Keeping.{Kept}
use Rattle.word_fabric.proofs.Growing.{kept_grown}
use Rattle.word_fabric.proofs.fabric.WordFabric.add_last.Goals as goal

pub invariant_of-self : goal.invariant_of-self
invariant_of-self c =
    let f = c.self.inside in
    let grown = c.args.grown in
    let one = subst (λ (k : Kept). IsGrown k.config grown) (sym c.self.view_is) c.requires.grown in
    let fits = subst (λ (k : Kept). row_count grown ≤ k.row_limit) (sym c.self.view_is) c.requires.room in
    kept_grown f.config grown f.kept.events f.kept.room f.layout f.words.items f.founds.items one c.requires.good fits c.self.invariant

pub returns-clause-legal : goal.returns-clause-legal
returns-clause-legal c = (invariant_of-self c).legal
