use Rattle.std.proofs.Common.{rules}
use Rattle.mu_regions.proofs.Counts.{noted_fence}
use Rattle.mu_regions.proofs.effects.note_grant.Goals as goal

pub returns-then-q-p : goal.returns-then-q-p
returns-then-q-p c past noted =
    noted_fence c.args.p c.args.event.now past c.args.noted.now c.in-Fence-Seen.fence c.from-r.result c.grant_in.result (search rules) (search rules) (search rules) (search rules) (search rules) noted
