use Rattle.std.proofs.Common.{◌∙◌}
use Rattle.mu_model.specs.Again.{is_astray}
use Rattle.mu_lead.proofs.Astray.{first_counts}
use Rattle.mu_lead.proofs.lead.Lead.has_astray.Goals as goal

pub returns : goal.returns
returns c mine stands failed =
    let l = c.args.self.now in
    c.is_some.ensures ∙ first_counts l.config.replicas (λ p. is_astray l.id mine p) c.first_astray.result (c.first_astray.ensures mine stands failed)
