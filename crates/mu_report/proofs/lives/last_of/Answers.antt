use Rattle.std.proofs.Common.{drop, ap, ◌∙◌}
use Rattle.std.proofs.lemmas.List.{drop_min, take_rest}
use Rattle.mu_report.proofs.lives.last_of.Goals as goal

pub returns : goal.returns
returns c = take_rest c.args.sights.now c.min.result ∙ ap (λ n. drop n c.args.sights.now) c.min.ensures ∙ drop_min 200 c.args.sights.now
