use Rattle.std.proofs.Common.{subst, sym}
use Rattle.mu_lead.specs.Leading.{HoldsTables}
use Rattle.mu_lead.specs.Standing.{At}
use Rattle.mu_lead.proofs.lead.Lead.make_room.Goals as goal

pub returns-clause-keeps : goal.returns-clause-keeps
returns-clause-keeps c mine held =
    let l = c.args.self.now in
    let same = sym c.reserve.ensures.items in
    record {
      config = held.config;
      inside = held.inside;
      leading = held.leading;
      tables = subst (λ w. HoldsTables l.config l.id mine l.up l.reach l.heads w) same held.tables;
      at = subst (λ w. At l.config l.id l.number mine l.up l.reach w l.place) same held.at;
    }
