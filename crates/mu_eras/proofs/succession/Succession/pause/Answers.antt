use Rattle.mu_engine.specs.Live.{changed_at, paused}
use Rattle.mu_eras.proofs.Holds.{length_changed}
use Rattle.mu_eras.proofs.Lasting.{eras_held, lasting_held}
use Rattle.mu_eras.proofs.succession.Succession.pause.Goals as goal

pub returns-clause-inside : goal.returns-clause-inside
returns-clause-inside c =
    lasting_held c.args.self.now c.pause.new.self (changed_at (paused c.args.rounds) c.args.self.now.present.engine.holds c.args.replica) c.pause.ensures
    (length_changed (paused c.args.rounds) c.args.self.now.present.engine.holds c.args.replica) c.requires.inside

pub returns-clause-here : goal.returns-clause-here
returns-clause-here c past held =
    eras_held past c.args.self.now c.pause.new.self (changed_at (paused c.args.rounds) c.args.self.now.present.engine.holds c.args.replica) c.pause.ensures
    (length_changed (paused c.args.rounds) c.args.self.now.present.engine.holds c.args.replica) held
