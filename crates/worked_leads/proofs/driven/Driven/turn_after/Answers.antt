use Rattle.std.proofs.Common.{◌∙◌, subst, sym}
use Rattle.mu_model.specs.Legal.{IsLegalHistory}
use Rattle.worked_leads.specs.Driven.{Drives}
use Rattle.worked_leads.proofs.driven.Driven.turn_after.Goals as goal

pub due-requires : goal.due-requires
due-requires g c = (c.heed-heeded.ensures.drives, subst (λ k. IsLegalHistory k g.past) (sym c.heed-heeded.ensures.config) c.requires.1.1.1.0)

pub make-requires : goal.make-requires
make-requires g c = λ κs lives. (lives, (c.requires.1.0, (c.requires.1.1.0 ∙ sym c.heed-heeded.ensures.config, (c.heed-heeded.ensures.drives, (c.heed-heeded.ensures.heeded, (c.in-Some.ensures.due, c.in-Some.ensures.allowed))))))

pub returns-in-None-clause-drives : goal.returns-in-None-clause-drives
returns-in-None-clause-drives g c = subst (λ l. Drives l c.heed-heeded.new.self) (sym c.requires.1.0) c.heed-heeded.ensures.drives
