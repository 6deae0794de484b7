use Rattle.mu_lead.proofs.Firsts.{found_place}
use Rattle.std.proofs.Common.{None, Some, get_or, refl, ◌∙◌}
use Rattle.std.specs.Prelude.{nat_lt, ◌&&◌}
use Rattle.mu_model.specs.Leaderships.{is_member}
use Rattle.mu_lead.specs.Leading.{end_of}
use Rattle.mu_lead.specs.Listing.{after_members, bring_up}
use Rattle.mu_lead.proofs.lead.Lead.bring_up_from.Goals as goal

pub returns-in-Some : goal.returns-in-Some
returns-in-Some c = λ counts mine s same.
    let l = c.args.self.now in
    let first = c.in-Some.ensures mine s same in
    c.bring_up.ensures mine s first.1
    ∙ found_place (λ k. is_member l.id k mine && nat_lt (get_or l.up k 0) (end_of l.config l.id mine)) c.args.p c.args.p l.config.replicas (Some c.in-Some.q) (λ q. bring_up l.config l.up l.reach q c.args.then) (after_members l.config l.id mine l.heads c.args.then) refl first

pub returns-in-None : goal.returns-in-None
returns-in-None c = λ counts mine s same.
    let l = c.args.self.now in
    c.after_all.ensures counts mine s same
    ∙ found_place (λ k. is_member l.id k mine && nat_lt (get_or l.up k 0) (end_of l.config l.id mine)) c.args.p c.args.p l.config.replicas None (λ q. bring_up l.config l.up l.reach q c.args.then) (after_members l.config l.id mine l.heads c.args.then) refl (c.in-None.ensures mine s same)
