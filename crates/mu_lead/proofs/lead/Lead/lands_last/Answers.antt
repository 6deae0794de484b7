use Rattle.mu_knowledge.proofs.Firsts.{found_is}
use Rattle.mu_knowledge.specs.Offers.{IsFirst}
use Rattle.mu_lead.proofs.Firsts.{not_found}
use Rattle.mu_model.specs.Leaderships.{is_member}
use Rattle.std.proofs.Common.{ap, arith, is_some, subst, ◌+◌, ◌∙◌, ◌≡◌}
use Rattle.std.specs.Prelude.{not}
use Rattle.mu_lead.proofs.lead.Lead.lands_last.Goals as goal

pub returns-in-Done : goal.returns-in-Done
returns-in-Done c = λ now region few held.
    let l = c.args.self.now in
    let more = c.saturating_add.ensures in
    let next : c.saturating_add.result ≡ c.args.p + 1 = omega (arith, more, region, few) in
    let found = found_is (λ k. is_member l.id k now) (c.args.p + 1) l.config.replicas c.next_member.result (subst (λ n. IsFirst (λ k. is_member l.id k now) n l.config.replicas c.next_member.result) next (c.next_member.ensures l.id now few held)) in
    rw c.in-Done.is (not_found (is_some c.next_member.result) c.is_none.result c.is_none.ensures ∙ ap (λ o. not (is_some o)) found)
