use Rattle.std.proofs.Common.{◌+◌, ◌≤◌, ap, arith, inl, length}
use Rattle.std.proofs.Math.Logic.{∥∥₁_map}
use Rattle.mu_eras.proofs.Handing.{stores_go, tells_go}
use Rattle.mu_eras.proofs.Kept.{taken_goes}
use Rattle.mu_eras.proofs.following.play.Goals as goal

pub follow-requires-clause-holds : goal.follow-requires-clause-holds
follow-requires-clause-holds c = ∥∥₁_map c.requires.holds (λ h.
    let live = c.args.engine.now in
    let later = c.round.new.self in
    let many = ap (λ j. length j.commands) c.round.ensures.job in
    let few : length later.job.commands + later.room ≤ length live.job.commands + live.room = omega (arith, many, c.round.ensures.room) in
    (h.0, stores_go h.0 live later c.args.stores.now c.events.ensures.moment c.events-2.ensures.moment c.round.ensures.goes few h.1))

pub returns-clause-holds : goal.returns-clause-holds
returns-clause-holds c base held =
    let live = c.args.engine.now in
    let later = c.round.new.self in
    let many = ap (λ j. length j.commands) c.round.ensures.job in
    let few : length later.job.commands + later.room ≤ length live.job.commands + live.room = omega (arith, many, c.round.ensures.room) in
    c.follow.ensures.holds base (stores_go base live later c.args.stores.now c.events.ensures.moment c.events-2.ensures.moment c.round.ensures.goes few held)

pub returns-clause-tells : goal.returns-clause-tells
returns-clause-tells c base held told =
    let live = c.args.engine.now in
    let later = c.round.new.self in
    let many = ap (λ j. length j.commands) c.round.ensures.job in
    let few : length later.job.commands + later.room ≤ length live.job.commands + live.room = omega (arith, many, c.round.ensures.room) in
    c.follow.ensures.tells base (stores_go base live later c.args.stores.now c.events.ensures.moment c.events-2.ensures.moment c.round.ensures.goes few held)
    (tells_go base live later c.args.replies.now c.events.ensures.moment c.events-2.ensures.moment c.round.ensures.goes told)

pub returns-clause-fresh : goal.returns-clause-fresh
returns-clause-fresh c base held was =
    c.follow.ensures.fresh
    (taken_goes base c.args.engine.now c.round.new.self c.args.stores.now c.args.replies.now c.events.ensures.moment c.events-2.ensures.moment c.round.ensures.goes c.requires.there held was)

pub returns-clause-turns : goal.returns-clause-turns
returns-clause-turns c = let steps = c.round.ensures.steps in record { steps = steps.0; events = steps.1; turns = inl steps.2 }
