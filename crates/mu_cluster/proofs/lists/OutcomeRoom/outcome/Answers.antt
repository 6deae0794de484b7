use Rattle.std.proofs.Common.{None, Some, refl, subst}
use Rattle.mu_model.specs.Legal.{IsLegal}
use Rattle.mu_outcome.specs.declared.outcome.Outcome.{Outcome}
use Rattle.mu_outcome.proofs.Journals.{order_parts}
use Rattle.mu_node.specs.Due.{is_eager}
use Rattle.mu_cluster.specs.Paces.{AreDiligentBy}
use Rattle.mu_cluster.specs.Rounds.{PlayedBy}
use Rattle.mu_cluster.proofs.Filling.{diligent_of, kinds_of, printed_fit, printed_is, run_of}
use Rattle.mu_cluster.proofs.Committing.{all_by_then}
use Rattle.mu_cluster.proofs.Finished.{each_by_then}
use Rattle.mu_cluster.proofs.Naming.{named_of}
use Rattle.mu_cluster.proofs.Onward.{leads_of}
use Rattle.mu_cluster.proofs.Outrunning.{none_outrun_of}
use Rattle.mu_cluster.proofs.lists.OutcomeRoom.outcome.Goals as goal

pub printed-printed-requires-clause-room : goal.printed-printed-requires-clause-room
printed-printed-requires-clause-room c =
    let job = c.args.job in
    let order = c.args.order in
    let lists = c.filled-lists.result in
    let held = c.filled-lists.ensures in
    printed_fit (is_eager c.args._kind) job job.script order.events lists _ c.requires.good c.requires.legal c.requires.spelled held c.requires.room.printed

pub returns-clause-run : goal.returns-clause-run
returns-clause-run c =
    let job = c.args.job in
    let k = job.config in
    let order = c.args.order in
    let lists = c.filled-lists.result in
    let legal : IsLegal k order.events = c.requires.legal in
    let held = c.filled-lists.ensures in
    let played = c.requires.played.1 in
    let o : Outcome = record { job = job; logs = c.from_vec.result; commits = c.from_vec-2.result; replies = c.printed-printed.result; own_replies = c.from_vec-3.result; ends = c.from_vec-4.result; order = Some order; gathered = None } in
    run_of (is_eager c.args._kind) o order lists c.args.seats.items c.requires.played.0 refl legal c.from_vec.ensures c.from_vec-2.ensures c.from_vec-3.ensures c.from_vec-4.ensures held played c.requires.ended c.requires.spelled
    (printed_is (is_eager c.args._kind) job job.script order.events lists c.printed-printed.result c.requires.spelled held c.printed-printed.ensures)

pub returns-clause-diligent : goal.returns-clause-diligent
returns-clause-diligent c =
    let job = c.args.job in
    let k = job.config in
    let order = c.args.order in
    let lists = c.filled-lists.result in
    let held = c.filled-lists.ensures in
    let o : Outcome = record { job = job; logs = c.from_vec.result; commits = c.from_vec-2.result; replies = c.printed-printed.result; own_replies = c.from_vec-3.result; ends = c.from_vec-4.result; order = Some order; gathered = None } in
    diligent_of (is_eager c.args._kind) o order.events lists (order_parts o order refl c.requires.played.1.own) held

pub returns-clause-nodes : goal.returns-clause-nodes
returns-clause-nodes c =
    let job = c.args.job in
    let order = c.args.order in
    let o : Outcome = record { job = job; logs = c.from_vec.result; commits = c.from_vec-2.result; replies = c.printed-printed.result; own_replies = c.from_vec-3.result; ends = c.from_vec-4.result; order = Some order; gathered = None } in
    kinds_of o order c.args.seats.items c.requires.played.0 (order_parts o order refl c.requires.played.1.own) c.requires.played.1

pub returns-clause-names : goal.returns-clause-names
returns-clause-names c =
    let job = c.args.job in
    let k = job.config in
    let order = c.args.order in
    let lists = c.filled-lists.result in
    let legal : IsLegal k order.events = c.requires.legal in
    let held = c.filled-lists.ensures in
    let played = c.requires.played.1 in
    let o : Outcome = record { job = job; logs = c.from_vec.result; commits = c.from_vec-2.result; replies = c.printed-printed.result; own_replies = c.from_vec-3.result; ends = c.from_vec-4.result; order = Some order; gathered = None } in
    let run = run_of (is_eager c.args._kind) o order lists c.args.seats.items c.requires.played.0 refl legal c.from_vec.ensures c.from_vec-2.ensures c.from_vec-3.ensures c.from_vec-4.ensures held played c.requires.ended c.requires.spelled
    (printed_is (is_eager c.args._kind) job job.script order.events lists c.printed-printed.result c.requires.spelled held c.printed-printed.ensures) in
    named_of o order c.args.seats.items c.requires.played.0 run refl played

pub returns-clause-none_outrun : goal.returns-clause-none_outrun
returns-clause-none_outrun c =
    let job = c.args.job in
    let k = job.config in
    let order = c.args.order in
    let lists = c.filled-lists.result in
    let legal : IsLegal k order.events = c.requires.legal in
    let held = c.filled-lists.ensures in
    let played = c.requires.played.1 in
    let o : Outcome = record { job = job; logs = c.from_vec.result; commits = c.from_vec-2.result; replies = c.printed-printed.result; own_replies = c.from_vec-3.result; ends = c.from_vec-4.result; order = Some order; gathered = None } in
    let run = run_of (is_eager c.args._kind) o order lists c.args.seats.items c.requires.played.0 refl legal c.from_vec.ensures c.from_vec-2.ensures c.from_vec-3.ensures c.from_vec-4.ensures held played c.requires.ended c.requires.spelled
    (printed_is (is_eager c.args._kind) job job.script order.events lists c.printed-printed.result c.requires.spelled held c.printed-printed.ensures) in
    none_outrun_of o order c.args.seats.items c.requires.played.0 c.requires.good run refl played

pub returns-clause-applies : goal.returns-clause-applies
returns-clause-applies c plain =
    let job = c.args.job in
    let k = job.config in
    let order = c.args.order in
    let lists = c.filled-lists.result in
    let legal : IsLegal k order.events = c.requires.legal in
    let held = c.filled-lists.ensures in
    let played = c.requires.played.1 in
    let o : Outcome = record { job = job; logs = c.from_vec.result; commits = c.from_vec-2.result; replies = c.printed-printed.result; own_replies = c.from_vec-3.result; ends = c.from_vec-4.result; order = Some order; gathered = None } in
    let run = run_of (is_eager c.args._kind) o order lists c.args.seats.items c.requires.played.0 refl legal c.from_vec.ensures c.from_vec-2.ensures c.from_vec-3.ensures c.from_vec-4.ensures held played c.requires.ended c.requires.spelled
    (printed_is (is_eager c.args._kind) job job.script order.events lists c.printed-printed.result c.requires.spelled held c.printed-printed.ensures) in
    let even = subst (λ z. PlayedBy z k job.script order.events c.args.seats.items c.requires.played.0 0) plain played in
    let diligent = subst (λ z. AreDiligentBy (is_eager z) o) plain (diligent_of (is_eager c.args._kind) o order.events lists (order_parts o order refl played.own) held) in
    all_by_then o order c.args.seats.items c.requires.played.0 c.requires.good run refl even diligent

pub returns-clause-finishes : goal.returns-clause-finishes
returns-clause-finishes c plain =
    let job = c.args.job in
    let k = job.config in
    let order = c.args.order in
    let lists = c.filled-lists.result in
    let legal : IsLegal k order.events = c.requires.legal in
    let held = c.filled-lists.ensures in
    let played = c.requires.played.1 in
    let o : Outcome = record { job = job; logs = c.from_vec.result; commits = c.from_vec-2.result; replies = c.printed-printed.result; own_replies = c.from_vec-3.result; ends = c.from_vec-4.result; order = Some order; gathered = None } in
    let run = run_of (is_eager c.args._kind) o order lists c.args.seats.items c.requires.played.0 refl legal c.from_vec.ensures c.from_vec-2.ensures c.from_vec-3.ensures c.from_vec-4.ensures held played c.requires.ended c.requires.spelled
    (printed_is (is_eager c.args._kind) job job.script order.events lists c.printed-printed.result c.requires.spelled held c.printed-printed.ensures) in
    let even = subst (λ z. PlayedBy z k job.script order.events c.args.seats.items c.requires.played.0 0) plain played in
    let diligent = subst (λ z. AreDiligentBy (is_eager z) o) plain (diligent_of (is_eager c.args._kind) o order.events lists (order_parts o order refl played.own) held) in
    each_by_then o order c.args.seats.items c.requires.played.0 c.requires.good run refl even diligent

pub returns-clause-leads : goal.returns-clause-leads
returns-clause-leads c plain =
    let job = c.args.job in
    let k = job.config in
    let order = c.args.order in
    let lists = c.filled-lists.result in
    let legal : IsLegal k order.events = c.requires.legal in
    let held = c.filled-lists.ensures in
    let played = c.requires.played.1 in
    let o : Outcome = record { job = job; logs = c.from_vec.result; commits = c.from_vec-2.result; replies = c.printed-printed.result; own_replies = c.from_vec-3.result; ends = c.from_vec-4.result; order = Some order; gathered = None } in
    let run = run_of (is_eager c.args._kind) o order lists c.args.seats.items c.requires.played.0 refl legal c.from_vec.ensures c.from_vec-2.ensures c.from_vec-3.ensures c.from_vec-4.ensures held played c.requires.ended c.requires.spelled
    (printed_is (is_eager c.args._kind) job job.script order.events lists c.printed-printed.result c.requires.spelled held c.printed-printed.ensures) in
    let even = subst (λ z. PlayedBy z k job.script order.events c.args.seats.items c.requires.played.0 0) plain played in
    let diligent = subst (λ z. AreDiligentBy (is_eager z) o) plain (diligent_of (is_eager c.args._kind) o order.events lists (order_parts o order refl played.own) held) in
    leads_of o order c.args.seats.items c.requires.played.0 c.requires.good run refl even diligent
