use Rattle.std.proofs.Common.{refl, subst}
use Rattle.mu_model.specs.Histories.{history}
use Rattle.mu_model.specs.Legal.{IsLegalHistory}
use Rattle.worked_leads.proofs.driven.Driven.turn.Goals as goal

pub turn_after-requires : goal.turn_after-requires
turn_after-requires g c =
    let legal = subst (λ k. IsLegalHistory k (history (g.M.Memory.events c.args.memory.now))) c.requires.config c.events-legal.ensures.legal in
    λ κs lives. (lives, (refl, (c.requires.config, (legal, c.requires.drives))))
