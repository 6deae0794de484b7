use Rattle.std.proofs.Common.{◌+◌, ◌≡◌, arith, refl}
use Rattle.mu_follow.proofs.Growing.{completion_more}
use Rattle.mu_follow.proofs.completion.Completion.add_last.Goals as goal

pub returns-then-len-capacity : goal.returns-then-len-capacity
returns-then-len-capacity c k row values good more are short room held =
    let old = c.args.self.now in
    let counted = held.counted in
    let full : c.saturating_add-self.result ≡ old.counted + 1 = omega (arith, c.saturating_add-self.ensures, counted, short) in
    completion_more k row values old _ good more are refl c.push_reserved.ensures.items refl full held
