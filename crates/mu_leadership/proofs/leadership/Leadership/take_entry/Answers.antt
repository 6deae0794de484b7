use Rattle.std.proofs.Common.{Some, refl, ◌≡◌}
use Rattle.mu_model.specs.Entering.{enter_open}
use Rattle.mu_model.specs.Leaderships.{ends_leadership}
use Rattle.mu_agree.proofs.Possible.{parts_shorten_law}
use Rattle.mu_leadership.specs.Bearing.{region_entered}
use Rattle.mu_leadership.proofs.Entries.{ended_stands}
use Rattle.mu_leadership.proofs.leadership.Leadership.take_entry.Goals as goal

pub returns : goal.returns
returns c c' r mine enters possible held =
    let e = c.args.event.now in
    let p = c.args.p in
    let own : e.by ≡ r = (parts_shorten_law c' r mine e possible).by_own in
    let names : region_entered e.verb ≡ Some p = rw enters refl in
    let ends : c.is_lost.result ≡ ends_leadership r mine e.by e.verb e.answer = rw (own, enters) (c.is_lost.ensures r p c.args.target mine) in
    let named : enter_open r p e.by e.verb e.answer ≡ Some c.target_named.result = rw (own, enters) (c.target_named.ensures r p) in
    ended_stands r e mine c.args.self.now c.is_lost.result c.enter_at.new.notes (rw enters refl) ends (c.enter_at.ensures r e mine names named held.notes) held
