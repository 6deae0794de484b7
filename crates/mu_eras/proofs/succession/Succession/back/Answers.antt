use Rattle.mu_engine.specs.Live.{changed_at, free, held}
use Rattle.mu_eras.proofs.Holds.{length_changed}
use Rattle.mu_eras.proofs.Lasting.{eras_held, lasting_held}
use Rattle.mu_eras.proofs.succession.Succession.back.Goals as goal

pub returns-clause-inside : goal.returns-clause-inside
returns-clause-inside c =
    lasting_held c.args.self.now c.hold.new.self (changed_at (held free) c.args.self.now.present.engine.holds c.args.replica) c.hold.ensures
    (length_changed (held free) c.args.self.now.present.engine.holds c.args.replica) c.requires.inside

pub returns-clause-here : goal.returns-clause-here
returns-clause-here c past was =
    eras_held past c.args.self.now c.hold.new.self (changed_at (held free) c.args.self.now.present.engine.holds c.args.replica) c.hold.ensures
    (length_changed (held free) c.args.self.now.present.engine.holds c.args.replica) was
