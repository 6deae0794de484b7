use Rattle.std.proofs.Common.{◌∙◌, sym, ap}
use Rattle.mu_model.specs.Histories.{history}
use Rattle.mu_model.specs.Knowledge.{known}
use Rattle.mu_law.proofs.Stepping.{nothing_made}
use Rattle.mu_law.proofs.knowing.values_known.Goals as goal

pub returns-then-config-r : goal.returns-then-config-r
returns-then-config-r c =
    let none = nothing_made c.args.config.now c.args.r (history c.args.events.now) c.requires.legal c.if-config-r.true in
    c.new.ensures.items ∙ sym (ap (known c.args.config.now c.args.r) none)
