use Rattle.mu_lead.proofs.StandsTaken.{stands_next}
use Rattle.mu_lead.proofs.Taking.{follows_next, notes_next, steps_next, writes_next}
use Rattle.mu_lead.proofs.Folding.{where_led}
use Rattle.mu_lead.proofs.Going.{goes_idle}
use Rattle.mu_lead.proofs.Noted.{noted_told}
use Rattle.mu_lead.proofs.Says.{TellsAll, grew_next, same_value, says_told}
use Rattle.mu_lead.specs.Going.{begins_at}
use Rattle.mu_knowledge.specs.KnownLog.{HoldsValues}
use Rattle.mu_model.specs.Contents.{IsConfig}
use Rattle.mu_model.specs.Knowledge.{grown}
use Rattle.std.proofs.Common.{ap, subst, sym, ◌||◌, ◌∙◌}
use Rattle.mu_lead.proofs.lead.Lead.take.Goals as goal

pub returns-clause-stands : goal.returns-clause-stands
returns-clause-stands g c = λ counts.
    let l = c.args.self.now in
    let took = c.step-note in
    stands_next g.mine l took.new.self c.args.known.now c.args.log.now c.args.answer took.result c.requires.0 took.ensures.config took.ensures.id (steps_next g.mine l took.new.self c.args.known.now c.args.log.now c.args.verb c.args.answer took.result c.requires.0 c.requires.1.0 c.requires.1.1 took.ensures.steps) counts

pub returns-clause-says : goal.returns-clause-says
returns-clause-says g c = λ counts.
    let l = c.args.self.now in
    let took = c.step-note in
    let notes = notes_next g.mine l took.new.self c.args.known.now c.args.log.now c.args.answer took.result (steps_next g.mine l took.new.self c.args.known.now c.args.log.now c.args.verb c.args.answer took.result c.requires.0 c.requires.1.0 c.requires.1.1 took.ensures.steps) in
    says_told g.mine l c.args.known.now c.args.answer took.result c.with_idle.result c.requires.0 notes c.with_idle.ensures.kind
    (subst (λ k. TellsAll k c.args.known.now took.result c.with_idle.result) took.ensures.config (λ few session. c.with_idle.ensures.all c.args.known.now (subst (λ k. HoldsValues k c.args.known.now c.args.log.now) (sym took.ensures.config) counts) (subst IsConfig (sym took.ensures.config) c.requires.0.config) session))

pub returns-clause-noted : goal.returns-clause-noted
returns-clause-noted g c = λ counts.
    let l = c.args.self.now in
    let took = c.step-note in
    let notes = notes_next g.mine l took.new.self c.args.known.now c.args.log.now c.args.answer took.result (steps_next g.mine l took.new.self c.args.known.now c.args.log.now c.args.verb c.args.answer took.result c.requires.0 c.requires.1.0 c.requires.1.1 took.ensures.steps) in
    noted_told g.mine l c.args.known.now c.args.answer took.result c.with_idle.result c.requires.0 notes c.with_idle.ensures.kind
    (subst (λ k. TellsAll k c.args.known.now took.result c.with_idle.result) took.ensures.config (λ few session. c.with_idle.ensures.all c.args.known.now (subst (λ k. HoldsValues k c.args.known.now c.args.log.now) (sym took.ensures.config) counts) (subst IsConfig (sym took.ensures.config) c.requires.0.config) session))

pub returns-clause-tells : goal.returns-clause-tells
returns-clause-tells g c = λ verb due possible told.
    let l = c.args.self.now in
    let took = c.step-note in
    let notes = notes_next g.mine l took.new.self c.args.known.now c.args.log.now c.args.answer took.result (steps_next g.mine l took.new.self c.args.known.now c.args.log.now c.args.verb c.args.answer took.result c.requires.0 c.requires.1.0 c.requires.1.1 took.ensures.steps) in
    grew_next g.mine l c.args.known.now c.args.answer took.result verb c.requires.0 notes due possible told ∙ ap (grown c.args.known.now) (sym (same_value took.result c.with_idle.result c.with_idle.ensures.kind))

pub returns-clause-going : goal.returns-clause-going
returns-clause-going g c = let l = c.args.self.now in c.step-note.ensures.going ∙ sym (goes_idle (begins_at l.place || l.under_way) c.step-note.result c.with_idle.result c.with_idle.ensures.kind)

pub returns-clause-placed : goal.returns-clause-placed
returns-clause-placed g c = λ counts.
    let l = c.args.self.now in
    let took = c.step-note in
    let steps = steps_next g.mine l took.new.self c.args.known.now c.args.log.now c.args.verb c.args.answer took.result c.requires.0 c.requires.1.0 c.requires.1.1 took.ensures.steps in
    where_led g.mine l took.new.self c.args.known.now c.args.answer took.result c.requires.0 (notes_next g.mine l took.new.self c.args.known.now c.args.log.now c.args.answer took.result steps)
    (writes_next g.mine l took.new.self c.args.known.now c.args.log.now c.args.answer took.result steps) (follows_next g.mine l took.new.self c.args.known.now c.args.log.now c.args.answer took.result steps counts) took.ensures.going
