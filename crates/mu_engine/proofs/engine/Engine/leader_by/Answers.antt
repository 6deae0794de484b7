use Rattle.std.proofs.Common.{◌≡◌, ◌∙◌, ◌<◌, Some, ap, arith, length, subst, sym}
use Rattle.std.specs.List.{slice_get}
use Rattle.std.proofs.lemmas.List.{length-map}
use Rattle.std.proofs.lemmas.Option.{slice_get-get_or}
use Rattle.mu_model.specs.Scores.{leader}
use Rattle.mu_engine.specs.Live.{Live}
use Rattle.mu_engine.specs.Seats.{hold_of, part_of}
use Rattle.mu_engine.proofs.engine.Engine.leader_by.Goals as goal

pub returns : goal.returns
returns c =
    let e = c.self.inside in
    let i = c.from.result in
    let seat = c.index.result.now in
    let asked = subst (λ (v : Live). c.args.replica < length v.holds) (sym c.self.view_is) c.requires in
    let long = length-map e.seats.items hold_of in
    let low : i < length e.seats.items = omega (arith, asked, long, c.from.ensures) in
    let at : slice_get e.seats.items i ≡ Some seat = slice_get-get_or e.seats.items i seat low ∙ ap (λ s. Some s) (sym c.index.ensures) in
    let sat = c.self.invariant.seated.each i seat at in
    c.leader.ensures e.config i (part_of i e.port.events) sat.lives.beside
    ∙ ap (λ r. leader e.config r (part_of r e.port.events)) c.from.ensures
    ∙ ap (λ (v : Live). leader v.job.config c.args.replica (part_of c.args.replica v.events)) c.self.view_is
