use Rattle.std.proofs.Common.{◌≡◌, ◌∙◌, ◌<◌, Some, ap, arith, length, subst, sym, take}
use Rattle.std.specs.List.{slice_get}
use Rattle.std.proofs.lemmas.List.{length-map}
use Rattle.std.proofs.lemmas.Option.{slice_get-get_or}
use Rattle.mu_model.specs.Knowledge.{applied}
use Rattle.mu_engine.specs.Live.{Live}
use Rattle.mu_engine.specs.Seats.{hold_of, part_of}
use Rattle.mu_engine.specs.Telling.{handed_log}
use Rattle.mu_engine.proofs.engine.Engine.handed_by.Goals as goal

pub returns : goal.returns
returns c =
    let e = c.self.inside in
    let i = c.from.result in
    let seat = c.index.result.now in
    let asked = subst (λ (v : Live). c.args.replica < length v.holds) (sym c.self.view_is) c.requires in
    let long = length-map e.seats.items hold_of in
    let low : i < length e.seats.items = omega (arith, asked, long, c.from.ensures) in
    let at : slice_get e.seats.items i ≡ Some seat = slice_get-get_or e.seats.items i seat low ∙ ap (λ s. Some s) (sym c.index.ensures) in
    let sat = c.self.invariant.seated.each i seat at in
    let mine = part_of i e.port.events in
    c.entries_handed_on.ensures e.config i mine sat.lives.beside ∙ ap (λ n. take n (applied e.config i mine)) sat.lives.handed
    ∙ ap (handed_log e.config e.port.events) c.from.ensures
    ∙ ap (λ (v : Live). handed_log v.job.config v.events c.args.replica) c.self.view_is
