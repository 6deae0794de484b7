use Rattle.std.proofs.Common.{◌≡◌, ◌∙◌, ◌++◌, List, ap, drop, length, map, refl, subst, sym}
use Rattle.std.proofs.lemmas.List.{take_at}
use Rattle.mu_model.specs.declared.event.Event.{Event}
use Rattle.mu_model.specs.Contents.{IsConfig}
use Rattle.mu_engine.specs.Inside.{live_of}
use Rattle.mu_engine.specs.Live.{Live, after_round}
use Rattle.mu_engine.specs.Moments.{GoesOn}
use Rattle.mu_engine.specs.Rounds.{IsRound}
use Rattle.mu_engine.specs.Seats.{AreSeated, hold_of}
use Rattle.mu_engine.proofs.Going.{goes_steps}
use Rattle.mu_engine.proofs.Taking.{kept}
use Rattle.mu_engine.proofs.engine.Engine.round.Goals as goal

pub play_round-requires-clause-config : goal.play_round-requires-clause-config
play_round-requires-clause-config c = subst IsConfig (sym c.self.invariant.same) c.self.invariant.moment.config

pub play_round-requires-clause-seated : goal.play_round-requires-clause-seated
play_round-requires-clause-seated c =
    let e = c.self.inside in
    subst (λ l. AreSeated e.port.config e.port.events l) (sym c.as_mut_slice.ensures.value) (subst (λ k. AreSeated k e.port.events e.seats.items) (sym c.self.invariant.same) c.self.invariant.seated)

pub invariant_of-self : goal.invariant_of-self
invariant_of-self c =
    let e = c.self.inside in
    let new = c.play_round.new.seats in
    let back = take_at new (drop (length new) e.seats.items) e.seats.len (c.play_round.auto.seats ∙ c.as_mut_slice.ensures.len) in
    kept e _ c.self.invariant refl refl refl c.play_round.ensures.config c.play_round.ensures.limit c.play_round.ensures.legal
    (subst (λ l. AreSeated e.port.config c.play_round.new.port.events l) (sym back) c.play_round.ensures.seated)

pub returns-clause-holds : goal.returns-clause-holds
returns-clause-holds c =
    let e = c.self.inside in
    let new = c.play_round.new.seats in
    let back = take_at new (drop (length new) e.seats.items) e.seats.len (c.play_round.auto.seats ∙ c.as_mut_slice.ensures.len) in
    ap (map hold_of) back ∙ c.play_round.ensures.holds ∙ ap (λ l. map after_round (map hold_of l)) c.as_mut_slice.ensures.value ∙ ap (λ (v : Live). map after_round v.holds) c.self.view_is

pub returns-clause-steps : goal.returns-clause-steps
returns-clause-steps c =
    let e = c.self.inside in
    let steps = c.play_round.ensures.steps in
    let new = c.play_round.new.port.events in
    let round = subst (λ l. IsRound e.port.config (map hold_of l) e.port.events steps.0) c.as_mut_slice.ensures.value steps.2 in
    let own = subst (λ k. IsRound k (map hold_of e.seats.items) e.port.events steps.0) c.self.invariant.same round in
    subst (λ (v : Live). (steps : List Event) × (new ≡ v.events ++ steps) × IsRound v.job.config v.holds v.events steps) c.self.view_is (steps.0, steps.1, own)

pub returns-clause-goes : goal.returns-clause-goes
returns-clause-goes c =
    let e = c.self.inside in
    let steps = c.play_round.ensures.steps in
    let new = c.play_round.new.port.events in
    subst (λ (v : Live). GoesOn v.job v.events (live_of e).job new) c.self.view_is
    (subst (λ l. GoesOn (live_of e).job e.port.events (live_of e).job l) (sym steps.1) (goes_steps (live_of e).job e.port.events steps.0))
