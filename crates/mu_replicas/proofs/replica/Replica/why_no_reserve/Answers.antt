use Rattle.std.proofs.Common.{[], ◌++◌, sym, ◌∙◌, subst}
use Rattle.std.specs.Prelude.{if◌then◌else◌}
use Rattle.mu_model.specs.Room.{reserve}
use Rattle.mu_model.specs.Points.{rooms}
use Rattle.mu_model.specs.Reasons.{Finds}
use Rattle.mu_replicas.proofs.Points.{no_more}
use Rattle.mu_replicas.proofs.replica.Replica.why_no_reserve.Goals as goal

pub returns-then-is_fresh : goal.returns-then-is_fresh
returns-then-is_fresh c r mine reasons near held start =
    let k = c.args.config.now in
    let fresh = sym (c.is_fresh.ensures r mine near held) ∙ c.if-is_fresh.true in
    subst (λ t. Finds k r mine (reasons ++ (if t then rooms k r mine c.args.i (reserve k) else [])) c.why_no_room.result.reason) (sym fresh)
    (subst (λ n. Finds k r mine (reasons ++ rooms k r mine c.args.i n) c.why_no_room.result.reason) c.reserve_of.ensures (c.why_no_room.ensures r mine reasons held start))

pub returns-else-is_fresh : goal.returns-else-is_fresh
returns-else-is_fresh c r mine reasons near held start =
    let k = c.args.config.now in
    let stale = sym (c.is_fresh.ensures r mine near held) ∙ c.if-is_fresh.false in
    subst (λ t. Finds k r mine (reasons ++ (if t then rooms k r mine c.args.i (reserve k) else [])) c.args.found.reason) (sym stale) (no_more k r mine reasons _ start)
