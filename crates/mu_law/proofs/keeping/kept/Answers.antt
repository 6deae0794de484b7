use Rattle.std.proofs.Common.{inl, rules, refl, ◌≢◌}
use Rattle.std.specs.Prelude.{IsTrue, ◌↔◌}
use Rattle.mu_model.specs.declared.event.Answer.{Answer}
use Rattle.mu_model.specs.declared.event.Verb.{Verb}
use Rattle.mu_model.specs.Answers.{answer_of}
use Rattle.mu_model.specs.Histories.{history}
use Rattle.mu_agree.proofs.Room.{head_within_fuo_law}
use Rattle.mu_law.proofs.Grants.{kept_or_marked, none_past}
use Rattle.mu_law.proofs.Lists.{keeps_places, kept_places}
use Rattle.mu_law.proofs.keeping.kept.Goals as goal

pub returns-clause-head : goal.returns-clause-head
returns-clause-head c low =
    let is : IsTrue c.ne.result ↔ (answer_of c.args.config.now c.args.r (history c.args.events.now) (Verb.Look c.args.r c.args.i) ≢ Answer.Past) = search rules in
    kept_or_marked c.args.config.now c.args.events.now c.args.r c.args.i c.ne.result is c.requires.legal c.if-config-r.false low

pub returns-in_err-regions-clause-fuo : goal.returns-in_err-regions-clause-fuo
returns-in_err-regions-clause-fuo c = head_within_fuo_law c.args.config.now c.args.events.now c.args.r c.requires.legal

pub returns-clause-fuo : goal.returns-clause-fuo
returns-clause-fuo c = head_within_fuo_law c.args.config.now c.args.events.now c.args.r c.requires.legal

pub returns-in_err-regions-clause-now : goal.returns-in_err-regions-clause-now
returns-in_err-regions-clause-now c = keeps_places c.args.config.now c.args.events.now c.requires.legal

pub returns-clause-now : goal.returns-clause-now
returns-clause-now c = keeps_places c.args.config.now c.args.events.now c.requires.legal

pub returns-in_err-regions-clause-made : goal.returns-in_err-regions-clause-made
returns-in_err-regions-clause-made c = kept_places c.args.config.now c.args.events.now c.requires.legal

pub returns-clause-made : goal.returns-clause-made
returns-clause-made c = kept_places c.args.config.now c.args.events.now c.requires.legal

pub returns-then-config-r-clause-is : goal.returns-then-config-r-clause-is
returns-then-config-r-clause-is c = (λ _. none_past c.args.config.now c.args.r c.args.i (history c.args.events.now) c.requires.legal c.if-config-r.true, λ _. refl)

pub returns-then-config-r-clause-head : goal.returns-then-config-r-clause-head
returns-then-config-r-clause-head c low = inl refl

pub returns-then-config-r-clause-fuo : goal.returns-then-config-r-clause-fuo
returns-then-config-r-clause-fuo c = head_within_fuo_law c.args.config.now c.args.events.now c.args.r c.requires.legal

pub returns-then-config-r-clause-now : goal.returns-then-config-r-clause-now
returns-then-config-r-clause-now c = keeps_places c.args.config.now c.args.events.now c.requires.legal

pub returns-then-config-r-clause-made : goal.returns-then-config-r-clause-made
returns-then-config-r-clause-made c = kept_places c.args.config.now c.args.events.now c.requires.legal
