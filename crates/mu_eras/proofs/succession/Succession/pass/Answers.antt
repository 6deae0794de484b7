use Rattle.std.proofs.Common.{[], ap, append-nil, arith, inr, map, refl, sym, ◌∙◌}
use Rattle.std.proofs.lemmas.List.{length-map}
use Rattle.mu_engine.specs.Live.{Live, after_round}
use Rattle.mu_eras.proofs.Lasting.{eras_held, goes_held, lasting_held}
use Rattle.mu_eras.proofs.succession.Succession.pass.Goals as goal

pub returns-then-rests-clause-goes : goal.returns-then-rests-clause-goes
returns-then-rests-clause-goes c = goes_held c.args.self.now.present.engine c.let_pass.new.engine (map after_round c.args.self.now.present.engine.holds) c.let_pass.ensures

pub returns-then-rests-clause-inside : goal.returns-then-rests-clause-inside
returns-then-rests-clause-inside c =
    lasting_held c.args.self.now c.let_pass.new.engine (map after_round c.args.self.now.present.engine.holds) c.let_pass.ensures
    (length-map c.args.self.now.present.engine.holds after_round) c.requires.inside

pub returns-then-rests-clause-here : goal.returns-then-rests-clause-here
returns-then-rests-clause-here c past held =
    eras_held past c.args.self.now c.let_pass.new.engine (map after_round c.args.self.now.present.engine.holds) c.let_pass.ensures
    (length-map c.args.self.now.present.engine.holds after_round) held

pub returns-then-rests-clause-turns : goal.returns-then-rests-clause-turns
returns-then-rests-clause-turns c =
    let free = c.rests.ensures c.if-rests.true in
    let many = c.requires.inside.replicas in
    record { steps = []; events = ap (λ (l : Live). l.events) c.let_pass.ensures ∙ sym (append-nil c.args.self.now.present.engine.events); turns = inr (refl, omega (arith, free, many)) }
