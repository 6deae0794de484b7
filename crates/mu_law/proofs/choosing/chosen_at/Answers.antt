use Rattle.std.proofs.Common.{◌∙◌, sym}
use Rattle.mu_law.proofs.Found.{choice_is}
use Rattle.mu_law.proofs.Lists.{chosen_once, fuos_hold, fuos_last, minimums_rise, numbers_are_own, owners_put, slots_rise}
use Rattle.mu_law.proofs.choosing.chosen_at.Goals as goal

pub returns-clause-is : goal.returns-clause-is
returns-clause-is c v =
    let is = choice_is c.args.config.now c.args.events.now c.args.i v c.requires.legal in
    let e = c.choice_found.ensures in
    ((λ k. is.0 (sym e ∙ k)), (λ k. e ∙ is.1 k))

pub returns-clause-once : goal.returns-clause-once
returns-clause-once c = chosen_once c.args.config.now c.args.events.now c.requires.legal

pub returns-clause-fuos : goal.returns-clause-fuos
returns-clause-fuos c = fuos_hold c.args.config.now c.args.events.now c.requires.legal

pub returns-clause-owners : goal.returns-clause-owners
returns-clause-owners c = owners_put c.args.config.now c.args.events.now c.requires.legal

pub returns-clause-minimums : goal.returns-clause-minimums
returns-clause-minimums c = minimums_rise c.args.config.now c.args.events.now c.requires.legal

pub returns-clause-slots : goal.returns-clause-slots
returns-clause-slots c = slots_rise c.args.config.now c.args.events.now c.requires.legal

pub returns-clause-numbers : goal.returns-clause-numbers
returns-clause-numbers c = numbers_are_own c.args.config.now c.args.events.now c.requires.legal

pub returns-clause-lasting : goal.returns-clause-lasting
returns-clause-lasting c = fuos_last c.args.config.now c.args.events.now
