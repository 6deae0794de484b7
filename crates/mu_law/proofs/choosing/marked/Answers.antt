use Rattle.std.proofs.Common.{◌∙◌, sym}
use Rattle.mu_law.proofs.Found.{mark_is, marked_once}
use Rattle.mu_law.proofs.choosing.marked.Goals as goal

pub returns-clause-is : goal.returns-clause-is
returns-clause-is c i =
    let is = mark_is c.args.config.now c.args.events.now c.args.q i c.requires.config c.requires.legal in
    let e = c.mark_found.ensures in
    ((λ k. is.0 (sym e ∙ k)), (λ k. e ∙ is.1 k))

pub returns-clause-once : goal.returns-clause-once
returns-clause-once c i j a b = marked_once c.args.config.now c.args.events.now c.args.q i j c.requires.config c.requires.legal a b
