use Rattle.std.proofs.Common.{sym, ap, ◌∙◌}
use Rattle.std.specs.Prelude.{nat_lt}
use Rattle.mu_placing.proofs.region_looks.RegionLooks.has_seen_past.Goals as goal

pub returns : goal.returns
returns c k r p mine begun low held = ap (λ t. nat_lt t c.look.result.past_at) begun ∙ sym (c.look.ensures k r p mine low held).past
