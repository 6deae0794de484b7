use Rattle.std.proofs.Common.{ap, rules, ◌∙◌}
use Rattle.std.specs.Prelude.{is_some}
use Rattle.mu_leadership.proofs.Grants.{min_read_now, seen_granted}
use Rattle.mu_leadership.proofs.region_notes.has_read_after.Goals as goal

pub returns-else-held : goal.returns-else-held
returns-else-held c mine other seen held =
    min_read_now c.args.r c.args.p mine c.args.event.now c.in-Min-Number.q c.in-Min-Number.field-0-1 c.is_some.result (search rules) (search rules) (search rules) (search rules) (c.is_some.ensures ∙ ap is_some seen ∙ seen_granted c.args.r c.args.p mine) (search rules)
