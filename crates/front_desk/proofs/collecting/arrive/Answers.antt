use Rattle.std.proofs.Common.{◌∷◌, [], ap, ◌∙◌}
use Rattle.front_desk.specs.Arrivals.{commands_by}
use Rattle.front_desk.specs.Line.{entry, after_first}
use Rattle.front_desk.proofs.Keeping.{forks, merges, learns, united_is, arrival}
use Rattle.front_desk.proofs.collecting.arrive.Goals as goal

pub another-first-requires-clause-rule : goal.another-first-requires-clause-rule
another-first-requires-clause-rule g c =
    forks _ _ (entry 0 []) (entry 1 [] ∷ entry 2 [] ∷ entry 3 [] ∷ []) (ap (λ hand. hand.entries) c.requires.hand)

pub another-second-requires-clause-rule : goal.another-second-requires-clause-rule
another-second-requires-clause-rule g c =
    let first = c.another-first.ensures.rule.0 ∙ ap after_first c.requires.hand in
    forks _ _ (entry 1 []) (entry 2 [] ∷ entry 3 [] ∷ []) (ap (λ hand. hand.entries) first)

pub another-third-requires-clause-rule : goal.another-third-requires-clause-rule
another-third-requires-clause-rule g c =
    let first = c.another-first.ensures.rule.0 ∙ ap after_first c.requires.hand in
    let second = c.another-second.ensures.rule.0 ∙ ap after_first first in
    forks _ _ (entry 2 []) (entry 3 [] ∷ []) (ap (λ hand. hand.entries) second)

pub another-fourth-requires-clause-rule : goal.another-fourth-requires-clause-rule
another-fourth-requires-clause-rule g c =
    let first = c.another-first.ensures.rule.0 ∙ ap after_first c.requires.hand in
    let second = c.another-second.ensures.rule.0 ∙ ap after_first first in
    let third = c.another-third.ensures.rule.0 ∙ ap after_first second in
    forks _ _ (entry 3 []) [] (ap (λ hand. hand.entries) third)

pub absorb-requires-clause-rule : goal.absorb-requires-clause-rule
absorb-requires-clause-rule g c = merges _ _ _ 3 (commands_by 3 c.args.commands.now) _ c.pass_through-pass.ensures.back.1.1

pub absorb-requires-2-clause-rule : goal.absorb-requires-2-clause-rule
absorb-requires-2-clause-rule g c = merges _ _ _ 2 (commands_by 2 c.args.commands.now) _ c.pass_through-pass.ensures.back.0.1

pub absorb-requires-3-clause-rule : goal.absorb-requires-3-clause-rule
absorb-requires-3-clause-rule g c = merges _ _ _ 1 (commands_by 1 c.args.commands.now) _ c.pass_through-pass.ensures.front.1.1

pub absorb-requires-4-clause-rule : goal.absorb-requires-4-clause-rule
absorb-requires-4-clause-rule g c = merges _ _ _ 0 (commands_by 0 c.args.commands.now) _ c.pass_through-pass.ensures.front.0.1

pub learn_as-requires-clause-rule : goal.learn_as-requires-clause-rule
learn_as-requires-clause-rule g c =
    let full = united_is _ _ _ _ 0 (commands_by 0 c.args.commands.now)
    (united_is _ _ _ _ 1 (commands_by 1 c.args.commands.now)
    (united_is _ _ _ _ 2 (commands_by 2 c.args.commands.now)
    (united_is _ _ _ _ 3 (commands_by 3 c.args.commands.now) c.pass_through-pass.ensures.hand c.pass_through-pass.ensures.back.1.1 c.absorb.ensures.rule)
    c.pass_through-pass.ensures.back.0.1 c.absorb-2.ensures.rule)
    c.pass_through-pass.ensures.front.1.1 c.absorb-3.ensures.rule)
    c.pass_through-pass.ensures.front.0.1 c.absorb-4.ensures.rule in
    learns _ _ (ap (λ hand. hand.takes) full)

pub returns-clause-arrival : goal.returns-clause-arrival
returns-clause-arrival g c =
    let full = united_is _ _ _ _ 0 (commands_by 0 c.args.commands.now)
    (united_is _ _ _ _ 1 (commands_by 1 c.args.commands.now)
    (united_is _ _ _ _ 2 (commands_by 2 c.args.commands.now)
    (united_is _ _ _ _ 3 (commands_by 3 c.args.commands.now) c.pass_through-pass.ensures.hand c.pass_through-pass.ensures.back.1.1 c.absorb.ensures.rule)
    c.pass_through-pass.ensures.back.0.1 c.absorb-2.ensures.rule)
    c.pass_through-pass.ensures.front.1.1 c.absorb-3.ensures.rule)
    c.pass_through-pass.ensures.front.0.1 c.absorb-4.ensures.rule in
    arrival c.args.commands.now c.pass_through-pass.result.0.1.items c.learn_as.ensures.rule.0 _ full c.learn_as.ensures.rule.1 c.requires.senders c.pass_through-pass.ensures.count
