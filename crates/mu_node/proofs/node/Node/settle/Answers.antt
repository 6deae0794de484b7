use Rattle.std.proofs.Common.{refl, subst, sym, true≢false, ◌∙◌, ◌∷◌}
use Rattle.mu_model.specs.Histories.{event_by}
use Rattle.mu_model.specs.Parts.{IsPossible}
use Rattle.mu_lead.specs.Journal.{IsWhere}
use Rattle.mu_node.specs.Node.{StandsForNode}
use Rattle.mu_node.proofs.node.Node.settle.Goals as goal

pub took_again-requires : goal.took_again-requires
took_again-requires g c =
    let it = c.requires.asks c.if-again.true in
    (refl, (c.requires.config, (it.stands, (it.begins, (it.heeded, (it.odd, (it.named, (it.asks, it.eager))))))))

pub took-requires : goal.took-requires
took-requires g c =
    let it = c.requires.plans c.if-again.false in
    (refl, (c.requires.config, (it.fits, (it.turn, (it.planned, (it.made, it.some))))))

pub returns-then-again-clause-stands : goal.returns-then-again-clause-stands
returns-then-again-clause-stands g c =
    let node = c.args.self.now in
    let k = node.follow.config in
    let answer = c.args.answer in
    let it = c.requires.asks c.if-again.true in
    subst (λ v. IsPossible k node.id (event_by node.id v answer ∷ g.mine) → StandsForNode k node.id (event_by node.id v answer ∷ g.mine) c.took_again.new.self) (sym it.verb) c.took_again.ensures.stands

pub returns-then-again-clause-placed : goal.returns-then-again-clause-placed
returns-then-again-clause-placed g c ready =
    let node = c.args.self.now in
    let k = node.follow.config in
    let answer = c.args.answer in
    let it = c.requires.asks c.if-again.true in
    subst (λ v. IsPossible k node.id (event_by node.id v answer ∷ g.mine) → IsWhere k node.id (event_by node.id v answer ∷ g.mine) c.took_again.new.self.lead) (sym it.verb)
    (c.took_again.ensures.placed (ready.left c.if-again.true))

pub returns-else-again-clause-stands : goal.returns-else-again-clause-stands
returns-else-again-clause-stands g c =
    let node = c.args.self.now in
    let k = node.follow.config in
    let answer = c.args.answer in
    let it = c.requires.plans c.if-again.false in
    subst (λ v. IsPossible k node.id (event_by node.id v answer ∷ g.mine) → StandsForNode k node.id (event_by node.id v answer ∷ g.mine) c.took.new.self) (sym it.made) (c.took.ensures.stands it.reads)

pub returns-else-again-clause-placed : goal.returns-else-again-clause-placed
returns-else-again-clause-placed g c ready =
    let node = c.args.self.now in
    let k = node.follow.config in
    let answer = c.args.answer in
    let off = c.if-again.false in
    let it = c.requires.plans off in
    subst (λ v. IsPossible k node.id (event_by node.id v answer ∷ g.mine) → IsWhere k node.id (event_by node.id v answer ∷ g.mine) c.took.new.self.lead) (sym it.made)
    (c.took.ensures.placed (ready.planned off) (ready.idles off))

pub returns-then-again-clause-asked : goal.returns-then-again-clause-asked
returns-then-again-clause-asked g c on = record { going = c.took_again.ensures.going; heeds = refl }

pub returns-then-again-clause-took : goal.returns-then-again-clause-took
returns-then-again-clause-took g c off = absurd (true≢false (sym c.if-again.true ∙ off))

pub returns-else-again-clause-asked : goal.returns-else-again-clause-asked
returns-else-again-clause-asked g c on = absurd (true≢false (sym on ∙ c.if-again.false))

pub returns-else-again-clause-took : goal.returns-else-again-clause-took
returns-else-again-clause-took g c off = record { tells = c.took.ensures.note; says = c.took.ensures.says }
