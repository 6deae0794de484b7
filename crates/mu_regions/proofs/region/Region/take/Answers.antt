use Rattle.std.proofs.Common.{◌∙◌, ◌≡◌, rules, sym, true}
use Rattle.mu_regions.proofs.Elsewhere.{read_kept}
use Rattle.mu_regions.proofs.region.Region.take.Goals as goal

pub returns : goal.returns
returns c k p past short near held = c.take_change.ensures k p past short near held

pub returns-then-is_read : goal.returns-then-is_read
returns-then-is_read c k p past short near held =
    let e = c.args.event.now in
    let on : c.is_read.result ≡ true = search rules in
    read_kept k p e.by e.verb e.answer past c.args.self.now (sym c.is_read.ensures ∙ on) held
