use Rattle.mu_lead.specs.Listing.{unless_missed}
use Rattle.mu_lead.specs.Standing.{At}
use Rattle.std.proofs.Common.{ap, subst, ◌∙◌}
use Rattle.mu_lead.proofs.lead.Lead.next_place.Goals as goal

pub returns-in-Put : goal.returns-in-Put
returns-in-Put c = λ holds past now t taken.
    let l = c.args.self.now in
    let here = subst (At l.config l.id l.number past t.up t.reach t.written) c.in-Put.is taken.at in
    rw c.in-Put.is (c.unless_missed-in-Put.ensures ∙ ap (unless_missed c.args.answer c.in-Put.p) (c.after_put.ensures now taken.stands here.0.entering.region))
