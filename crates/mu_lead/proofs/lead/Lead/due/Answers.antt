use Rattle.std.proofs.Common.{length, subst, sym, ◌<◌}
use Rattle.mu_agree.proofs.Within.{known_few}
use Rattle.mu_lead.proofs.Due.{due_fits}
use Rattle.mu_lead.proofs.lead.Lead.due.Goals as goal

pub returns-then-self-clause-exact : goal.returns-then-self-clause-exact
returns-then-self-clause-exact g c =
    let few = known_few c.args.self.now.config c.args.self.now.id g.mine c.requires.0.config c.requires.1.0 in
    rw c.if-self.true (c.verb.ensures g.mine c.requires.0 (subst (λ values. length values < 65536) (sym c.requires.1.1.0) few))

pub returns-then-self-clause-allowed : goal.returns-then-self-clause-allowed
returns-then-self-clause-allowed g c =
    let few = known_few c.args.self.now.config c.args.self.now.id g.mine c.requires.0.config c.requires.1.0 in
    due_fits g.mine c.args.self.now c.args.known.now c.verb.result c.requires.0 c.requires.1.0 c.requires.1.1.1 c.requires.1.1.0
    (c.verb.ensures g.mine c.requires.0 (subst (λ values. length values < 65536) (sym c.requires.1.1.0) few))
