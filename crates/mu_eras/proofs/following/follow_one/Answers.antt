use Rattle.std.proofs.Common.{◌∙◌, ◌<◌, ap, arith, drop, length, subst, take}
use Rattle.std.proofs.Math.Logic.{∥∥₁_elim}
use Rattle.std.specs.Coded.{le_prop}
use Rattle.mu_follow.specs.Groups.{groups_of}
use Rattle.mu_model.specs.Contents.{rows_in}
use Rattle.mu_eras.specs.Applied.{Applies, AreKept}
use Rattle.mu_eras.specs.Holding.{handed_by}
use Rattle.mu_eras.proofs.Handing.{few_in_all, follow_tells, followed, group_same, room_for_rest}
use Rattle.mu_eras.proofs.Kept.{kept_on, kept_whole}
use Rattle.mu_eras.proofs.following.follow_one.Goals as goal

pub take-requires-clause-begun : goal.take-requires-clause-begun
take-requires-clause-begun c = ∥∥₁_elim c.requires.holds le_prop (λ h.
    let within = h.1.within in
    let long = ap length c.handed_by-entries.ensures in
    omega (arith, within, long))

pub take-requires-clause-room : goal.take-requires-clause-room
take-requires-clause-room c = ∥∥₁_elim c.requires.holds le_prop (λ h.
    let live = c.args.engine.now in
    let n = c.args.applied.now.entries in
    let same = group_same c.config.result.now live.job.config c.commands.result.now live.job.commands c.handed_by-entries.result.now (handed_by live c.args.r) n c.config.ensures.config c.commands.ensures c.handed_by-entries.ensures in
    let room = room_for_rest h.0 live c.args.r c.args.applied.now c.events.ensures.moment h.1 in
    let long = ap length same in
    omega (arith, room, long))

pub take-requires-clause-few : goal.take-requires-clause-few
take-requires-clause-few c = ∥∥₁_elim c.requires.holds le_prop (λ h.
    let live = c.args.engine.now in
    let n = c.args.applied.now.entries in
    let same = group_same c.config.result.now live.job.config c.commands.result.now live.job.commands c.handed_by-entries.result.now (handed_by live c.args.r) n c.config.ensures.config c.commands.ensures c.handed_by-entries.ensures in
    let most = c.is_within_limits.ensures.few in
    let few = few_in_all h.0 live c.args.r c.args.applied.now c.events.ensures.moment h.1 (omega (arith, most)) in
    let long = ap length same in
    omega (arith, few, long))

pub returns-clause-holds : goal.returns-clause-holds
returns-clause-holds c base held =
    let live = c.args.engine.now in
    let n = c.args.applied.now.entries in
    let same = group_same c.config.result.now live.job.config c.commands.result.now live.job.commands c.handed_by-entries.result.now (handed_by live c.args.r) n c.config.ensures.config c.commands.ensures c.handed_by-entries.ensures in
    followed base live c.args.r c.args.applied.now c.take.new.self c.args.replies.now c.take.new.replies held
    (subst (λ l. Applies l (groups_of c.args.engine.now.job.config c.args.engine.now.job.commands (drop c.args.applied.now.entries (handed_by c.args.engine.now c.args.r))) c.args.applied.now c.take.new.self c.args.replies.now c.take.new.replies) c.commands.ensures (subst (λ g. Applies c.commands.result.now g c.args.applied.now c.take.new.self c.args.replies.now c.take.new.replies) same c.take.ensures.applies))
    (c.take.ensures.entries ∙ ap length c.handed_by-entries.ensures)

pub returns-clause-tells : goal.returns-clause-tells
returns-clause-tells c base held told =
    let live = c.args.engine.now in
    let n = c.args.applied.now.entries in
    let same = group_same c.config.result.now live.job.config c.commands.result.now live.job.commands c.handed_by-entries.result.now (handed_by live c.args.r) n c.config.ensures.config c.commands.ensures c.handed_by-entries.ensures in
    let low : c.args.r < live.job.config.replicas = omega (arith, c.requires.there, c.config.ensures.replicas) in
    follow_tells base live c.args.r c.args.applied.now c.take.new.self c.args.replies.now c.take.new.replies c.events.ensures.moment low held
    (subst (λ l. Applies l (groups_of c.args.engine.now.job.config c.args.engine.now.job.commands (drop c.args.applied.now.entries (handed_by c.args.engine.now c.args.r))) c.args.applied.now c.take.new.self c.args.replies.now c.take.new.replies) c.commands.ensures (subst (λ g. Applies c.commands.result.now g c.args.applied.now c.take.new.self c.args.replies.now c.take.new.replies) same c.take.ensures.applies))
    told

pub returns-clause-fresh : goal.returns-clause-fresh
returns-clause-fresh c before =
    let live = c.args.engine.now in
    let n = c.args.applied.now.entries in
    let log = handed_by live c.args.r in
    let same = ap (λ k. rows_in k (drop n c.handed_by-entries.result.now)) c.config.ensures.config ∙ ap (λ l. rows_in live.job.config (drop n l)) c.handed_by-entries.ensures in
    kept_whole live.job.config n log c.take.new.replies (kept_on (rows_in live.job.config (take n log)) c.args.replies.now c.take.new.replies c.take.ensures.applies.keeps before)
    (subst (λ rows. AreKept rows c.take.new.replies) same c.take.ensures.fresh)
