use Rattle.std.proofs.Common.{◌∙◌, ◌∷◌, refl, subst, sym}
use Rattle.std.proofs.lemmas.Bool.{true≢false}
use Rattle.mu_model.specs.Parts.{IsPossible}
use Rattle.mu_model.specs.Histories.{event_by}
use Rattle.mu_lead.specs.Journal.{IsWhere}
use Rattle.mu_node.specs.Plans.{due_of}
use Rattle.mu_node.specs.Due.{FitsLead, IsIdle}
use Rattle.mu_node.specs.Node.{HasPlanned, StandsForNode}
use Rattle.mu_node.specs.Reads.{IsReadNext}
use Rattle.mu_node.proofs.Leads.{fits_led, fits_other, says_led, some_made, tells_led}
use Rattle.mu_node.proofs.node.Node.took.Goals as goal

pub took_led-requires : goal.took_led-requires
took_led-requires g c =
    let node = c.args.self.now in
    let k = node.follow.config in
    let id = c.args.id in
    let due = due_of c.args.plan in
    let verb = c.args.plan.verb in
    let fits = subst (λ i. FitsLead k i g.mine node.lead c.args.plan.leads due) (sym c.requires.0) c.requires.1.1.0 in
    let planned = subst (λ i. HasPlanned k i g.mine node) (sym c.requires.0) c.requires.1.1.1.1.0 in
    let some = some_made due verb (c.requires.1.1.1.1.1.1 c.if-plan.true) c.requires.1.1.1.1.1.0 in
    let led = fits_led k id g.mine node.lead c.args.plan.leads due verb fits c.if-plan.true some in
    record { config = c.requires.1.0; heeded = led.0; due = led.1; turn = c.requires.1.1.1.0 c.if-plan.true; planned = planned }

pub returns-then-plan-clause-stands : goal.returns-then-plan-clause-stands
returns-then-plan-clause-stands g c =
    let k = c.args.self.now.follow.config in
    let id = c.args.id in
    subst (λ v. IsReadNext k id g.mine v → IsPossible k id (event_by id v c.args.answer ∷ g.mine) → StandsForNode k id (event_by id v c.args.answer ∷ g.mine) c.took_led.new.self) c.requires.1.1.1.1.1.0 c.took_led.ensures.stands

pub returns-then-plan-clause-placed : goal.returns-then-plan-clause-placed
returns-then-plan-clause-placed g c planned idle =
    let k = c.args.self.now.follow.config in
    let id = c.args.id in
    subst (λ v. IsPossible k id (event_by id v c.args.answer ∷ g.mine) → IsWhere k id (event_by id v c.args.answer ∷ g.mine) c.took_led.new.self.lead) c.requires.1.1.1.1.1.0 (c.took_led.ensures.placed planned)

pub returns-then-plan-clause-note : goal.returns-then-plan-clause-note
returns-then-plan-clause-note g c =
    let plan = c.args.plan in
    let some = some_made (due_of plan) plan.verb (c.requires.1.1.1.1.1.1 c.if-plan.true) c.requires.1.1.1.1.1.0 in
    tells_led c.args.self.now.follow.config c.args.id g.mine plan.leads (due_of plan) plan.verb plan.heeded c.args.answer c.took_led.result c.took_led.ensures.note c.if-plan.true some

pub returns-then-plan-clause-says : goal.returns-then-plan-clause-says
returns-then-plan-clause-says g c =
    let node = c.args.self.now in
    let plan = c.args.plan in
    let some = some_made (due_of plan) plan.verb (c.requires.1.1.1.1.1.1 c.if-plan.true) c.requires.1.1.1.1.1.0 in
    says_led node.follow.config c.args.id g.mine plan.leads (due_of plan) plan.verb plan.heeded node.lead c.took_led.new.self.lead c.args.answer c.took_led.result c.took_led.ensures.says c.if-plan.true some

pub returns-else-plan-clause-stands : goal.returns-else-plan-clause-stands
returns-else-plan-clause-stands g c =
    let node = c.args.self.now in
    let k = node.follow.config in
    let id = c.args.id in
    let due = due_of c.args.plan in
    let fits = subst (λ i. FitsLead k i g.mine node.lead c.args.plan.leads due) (sym c.requires.0) c.requires.1.1.0 in
    let beside = fits_other k id g.mine node.lead c.args.plan.leads due c.args.plan.verb fits c.if-plan.false c.requires.1.1.1.1.1.0 in
    let held = subst (λ i. HasPlanned k i g.mine node) (sym c.requires.0) c.requires.1.1.1.1.0 in
    subst (λ v. IsReadNext k id g.mine v → IsPossible k id (event_by id v c.args.answer ∷ g.mine) → StandsForNode k id (event_by id v c.args.answer ∷ g.mine) c.note_other.new.self) c.requires.1.1.1.1.1.0
    (λ next may. c.note_other.ensures.stands g.mine beside.0 beside.1 next may held)

pub returns-else-plan-clause-placed : goal.returns-else-plan-clause-placed
returns-else-plan-clause-placed g c planned idle possible =
    let node = c.args.self.now in
    let k = node.follow.config in
    let id = c.args.id in
    let due = due_of c.args.plan in
    let fits = subst (λ i. FitsLead k i g.mine node.lead c.args.plan.leads due) (sym c.requires.0) c.requires.1.1.0 in
    let beside = fits_other k id g.mine node.lead c.args.plan.leads due c.args.plan.verb fits c.if-plan.false c.requires.1.1.1.1.1.0 in
    subst (λ v. IsIdle k id g.mine node.lead v → IsWhere k id (event_by id v c.args.answer ∷ g.mine) c.note_other.new.self.lead) c.requires.1.1.1.1.1.0
    (λ idles. c.note_other.ensures.placed g.mine beside.1 idles planned) (idle c.if-plan.false)

pub returns-else-plan-clause-note : goal.returns-else-plan-clause-note
returns-else-plan-clause-note g c = record {
  idle = λ none. refl;
  beside = λ off. refl;
  taken = λ verb on some working possible. absurd (true≢false (sym on ∙ c.if-plan.false));
}

pub returns-else-plan-clause-says : goal.returns-else-plan-clause-says
returns-else-plan-clause-says g c =
    let same = c.note_other.ensures.going in
    record {
      idle = λ none. same;
      beside = λ off. same;
      says = λ verb on some working possible. absurd (true≢false (sym on ∙ c.if-plan.false));
      noted = λ verb on some working possible. absurd (true≢false (sym on ∙ c.if-plan.false));
      going = λ verb on some working. absurd (true≢false (sym on ∙ c.if-plan.false));
    }
