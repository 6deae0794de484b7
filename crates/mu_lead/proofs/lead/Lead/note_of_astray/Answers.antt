use Rattle.std.proofs.Common.{arith, sym, ◌<◌}
use Rattle.mu_lead.proofs.Astray.{never_none, never_unseen}
use Rattle.mu_lead.proofs.lead.Lead.note_of_astray.Goals as goal

pub returns-in-None-seen_fence : goal.returns-in-None-seen_fence
returns-in-None-seen_fence c mine stands heeded asks =
    let l = c.args.self.now in
    let first = c.in-Some.ensures mine stands heeded in
    let inside = first.1 in
    let few = stands.config.replicas.1 in
    let low : c.in-Some.p < 7 = omega (arith, inside, few) in
    absurd (never_unseen l.id c.in-Some.p mine first.2 (sym (c.in-None-seen_fence.ensures l.id mine low stands.leading)))

pub returns-in-None : goal.returns-in-None
returns-in-None c mine stands heeded asks =
    let l = c.args.self.now in
    absurd (never_none l.config l.id mine asks (c.in-None.ensures mine stands heeded))
