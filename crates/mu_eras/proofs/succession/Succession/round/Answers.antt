use Rattle.mu_eras.proofs.Lasting.{lasts_later}
use Rattle.mu_eras.proofs.succession.Succession.round.Goals as goal

pub returns-in-Some-clause-lasts : goal.returns-in-Some-clause-lasts
returns-in-Some-clause-lasts c past held =
    lasts_later past c.args.self.now c.pass.new.self c.renew.new.self c.pass.ensures.goes c.pass.ensures.job (c.renew.ensures.lasts past (c.pass.ensures.here past held))

pub returns-in-Some-clause-turns : goal.returns-in-Some-clause-turns
returns-in-Some-clause-turns c = record { played = c.pass.new.self.present.engine; turns = c.pass.ensures.turns; now = c.renew.ensures.now }
