use Rattle.std.proofs.Common.{◌≡◌, ◌∙◌, ◌<◌, List, Some, ap, arith, length, map, refl, subst, sym}
use Rattle.std.specs.List.{slice_get}
use Rattle.std.proofs.lemmas.List.{length-map}
use Rattle.std.proofs.lemmas.Option.{slice_get-get_or}
use Rattle.mu_model.specs.Legal.{IsLegal}
use Rattle.mu_engine.specs.declared.hold.Hold.{Hold}
use Rattle.mu_engine.specs.declared.seat.Seat.{Seat}
use Rattle.mu_engine.specs.Inside.{live_of}
use Rattle.mu_engine.specs.Live.{Live, changed_at, held}
use Rattle.mu_engine.specs.Seats.{AreSeated, hold_of}
use Rattle.mu_engine.proofs.Holds.{changed_map}
use Rattle.mu_engine.proofs.Seating.{seated_set}
use Rattle.mu_engine.proofs.Taking.{kept}
use Rattle.mu_engine.proofs.engine.Engine.hold.Goals as goal

pub invariant_of-self : goal.invariant_of-self
invariant_of-self c =
    let e = c.self.inside in
    let i = c.from.result in
    let old = c.index_mut.result.now in
    let new : Seat = record { node = old.node; hold = c.args.hold } in
    let asked = subst (λ (v : Live). c.args.replica < length v.holds) (sym c.self.view_is) c.requires in
    let long = length-map e.seats.items hold_of in
    let low : i < length e.seats.items = omega (arith, asked, long, c.from.ensures) in
    let at : slice_get e.seats.items i ≡ Some old = slice_get-get_or e.seats.items i old low ∙ ap (λ s. Some s) (sym c.index_mut.ensures.value) in
    let seated = subst (λ k. AreSeated k e.port.events e.seats.items) (sym c.self.invariant.same) c.self.invariant.seated in
    let sat = seated.each i old at in
    kept e _ c.self.invariant refl refl refl refl refl (subst (λ k. IsLegal k e.port.events) (sym c.self.invariant.same) c.self.invariant.moment.legal)
    (seated_set e.port.config e.port.events e.seats.items i new (record { lives = sat.lives; stops = sat.stops; zeal = sat.zeal }) seated)

pub returns : goal.returns
returns c =
    let e = c.self.inside in
    let i = c.from.result in
    let old = c.index_mut.result.now in
    let new : Seat = record { node = old.node; hold = c.args.hold } in
    let asked = subst (λ (v : Live). c.args.replica < length v.holds) (sym c.self.view_is) c.requires in
    let long = length-map e.seats.items hold_of in
    let low : i < length e.seats.items = omega (arith, asked, long, c.from.ensures) in
    let at : slice_get e.seats.items i ≡ Some old = slice_get-get_or e.seats.items i old low ∙ ap (λ s. Some s) (sym c.index_mut.ensures.value) in
    let by_holds : List Hold → Live = λ hs. record { job = (live_of e).job; room = e.room; events = e.port.events; holds = hs } in
    let after : Live → Live = λ v. record { job = v.job; room = v.room; events = v.events; holds = changed_at (held c.args.hold) v.holds c.args.replica } in
    ap by_holds (changed_map (held c.args.hold) e.seats.items i old new at refl ∙ ap (changed_at (held c.args.hold) (map hold_of e.seats.items)) c.from.ensures) ∙ ap after c.self.view_is
