use Rattle.std.proofs.Common.{ap, subst, sym, ◌∙◌}
use Rattle.mu_words.specs.declared.layout.Name.{Name}
use Rattle.mu_words.specs.Places.{IsName}
use Rattle.mu_words.specs.Verbs.{name_at}
use Rattle.lone_words.specs.Spots.{layout_of, spot_of}
use Rattle.lone_words.proofs.Reaching.{is_named, is_prepared, move_is, name_is, verb_in_range}
use Rattle.lone_words.proofs.accesses.Accesses.access_for.Goals as goal

pub move_of-step-requires-clause-fields : goal.move_of-step-requires-clause-fields
move_of-step-requires-clause-fields g c = verb_in_range g.at.0 g.at.1 c.args.self.now c.args.verb.now c.requires

pub spot_of-spot-requires : goal.spot_of-spot-requires
spot_of-spot-requires g c =
    let a = c.args.self.now in
    let v = c.args.verb.now in
    let name = c.name_of-name.ensures ∙ (ap (λ t. name_at a.layout.ring a.id t v) c.close_target-target.ensures ∙ name_is g.at.0 g.at.1 a v c.requires) in
    subst (λ (n : Name). IsName (layout_of a.shape) n) (sym name) (is_named g.at.0 g.at.1 a v c.requires)

pub returns : goal.returns
returns g c =
    let a = c.args.self.now in
    let v = c.args.verb.now in
    let name = c.name_of-name.ensures ∙ (ap (λ t. name_at a.layout.ring a.id t v) c.close_target-target.ensures ∙ name_is g.at.0 g.at.1 a v c.requires) in
    let x = c.expected_word-expected.ensures g.at.0 g.at.1.0 g.at.1.1 c.requires.stands.found (is_prepared g.at.0 g.at.1 a v c.requires) in
    record {
      spot = c.spot_of-spot.ensures ∙ ap (λ (n : Name). spot_of a.shape n) name;
      step = move_is g.at.0 g.at.1 a v c.close_grant-grant.result c.expected_word-expected.result c.move_of-step.result c.requires c.close_grant-grant.ensures x c.move_of-step.ensures;
    }
