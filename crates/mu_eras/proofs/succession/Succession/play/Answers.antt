use Rattle.std.proofs.Common.{◌∙◌, ap, arith, length, refl}
use Rattle.std.proofs.lemmas.List.{length-map}
use Rattle.mu_engine.specs.Live.{after_round}
use Rattle.mu_eras.proofs.Lasting.{eras_on, lasting_on}
use Rattle.mu_eras.proofs.succession.Succession.play.Goals as goal

pub returns-clause-inside : goal.returns-clause-inside
returns-clause-inside c =
    let e = c.args.self.now in
    let many = ap (λ j. length j.commands) c.round.ensures.job in
    lasting_on e _ c.requires.inside c.round.ensures.inside refl refl (ap length c.round.ensures.held ∙ length-map e.present.engine.holds after_round) (omega (arith, many, c.round.ensures.room)) c.round.ensures.space refl

pub returns-clause-here : goal.returns-clause-here
returns-clause-here c past held = eras_on past c.args.self.now _ held (c.round.ensures.holds past held.present) refl refl refl
