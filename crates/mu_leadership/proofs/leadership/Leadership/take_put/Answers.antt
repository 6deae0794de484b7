use Rattle.std.proofs.Common.{Some, refl, ◌≡◌}
use Rattle.mu_model.specs.declared.event.Target.{Target}
use Rattle.mu_model.specs.Entering.{enter_open}
use Rattle.mu_model.specs.Leaderships.{ends_leadership}
use Rattle.mu_model.proofs.Basics.{same_number}
use Rattle.mu_agree.proofs.Possible.{parts_shorten_law}
use Rattle.mu_leadership.specs.Bearing.{region_entered}
use Rattle.mu_leadership.proofs.Entries.{ended_stands}
use Rattle.mu_leadership.proofs.leadership.Leadership.take_put.Goals as goal

pub returns : goal.returns
returns c c' r i b v mine puts possible held =
    let e = c.args.event.now in
    let p = c.args.p in
    let own : e.by ≡ r = (parts_shorten_law c' r mine e possible).by_own in
    let names : region_entered e.verb ≡ Some p = rw puts refl in
    let ends : c.is_missed.result ≡ ends_leadership r mine e.by e.verb e.answer = rw (own, puts) (c.is_missed.ensures r p i b v mine) in
    let named : enter_open r p e.by e.verb e.answer ≡ Some Target.None = rw (own, puts, same_number r, same_number p) refl in
    ended_stands r e mine c.args.self.now c.is_missed.result c.enter_at.new.notes (rw puts refl) ends (c.enter_at.ensures r e mine names named held.notes) held
