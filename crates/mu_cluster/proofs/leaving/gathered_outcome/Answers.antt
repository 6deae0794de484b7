use Rattle.std.proofs.Common.{true, None, Some, refl}
use Rattle.mu_model.specs.Parts.{HasParts}
use Rattle.mu_outcome.specs.declared.outcome.Outcome.{Outcome}
use Rattle.mu_outcome.specs.Runs.{IsRunOver}
use Rattle.mu_cluster.proofs.Branching.{one_list}
use Rattle.mu_cluster.proofs.FairRuns.{applies_if_fair, eager_left}
use Rattle.mu_cluster.proofs.Filling.{diligent_of, printed_fit, printed_is, run_over}
use Rattle.mu_cluster.proofs.leaving.gathered_outcome.Goals as goal

pub left_by-lists-requires-clause-list : goal.left_by-lists-requires-clause-list
left_by-lists-requires-clause-list c = one_list c.args.job.config c.args.gathered c.requires.config c.are_of_one_list.ensures

pub printed-printed-requires-clause-room : goal.printed-printed-requires-clause-room
printed-printed-requires-clause-room c =
    let job = c.args.job in
    let lists = c.left_by-lists.result in
    let one = one_list job.config c.args.gathered c.requires.config c.are_of_one_list.ensures in
    let held = c.left_by-lists.ensures one.0 one.1.0 one.1.1 in
    printed_fit true job job.script one.0 lists _ c.requires.good one.1.0 c.requires.spelled held c.requires.room.printed

pub returns-clause-run : goal.returns-clause-run
returns-clause-run c =
    let job = c.args.job in
    let k = job.config in
    let lists = c.left_by-lists.result in
    let g = c.args.gathered in
    let one = one_list k g c.requires.config c.are_of_one_list.ensures in
    let held = c.left_by-lists.ensures one.0 one.1.0 one.1.1 in
    let o : Outcome = record { job = job; logs = c.from_vec.result; commits = c.from_vec-2.result; replies = c.printed-printed.result; own_replies = c.from_vec-3.result; ends = c.from_vec-4.result; order = None; gathered = Some g } in
    let has : HasParts k one.0 g.parts = one.1.1 in
    let over : IsRunOver one.0 o = run_over true o one.0 lists one.1.0 has c.from_vec.ensures c.from_vec-2.ensures c.from_vec-3.ensures c.from_vec-4.ensures held c.requires.spelled
    (printed_is true job job.script one.0 lists c.printed-printed.result c.requires.spelled held c.printed-printed.ensures) in
    record {
      no_order = refl;
      gathered = g;
      given = refl;
      config = c.requires.config;
      events = one.0;
      over = over;
    }

pub returns-clause-diligent : goal.returns-clause-diligent
returns-clause-diligent c =
    let job = c.args.job in
    let k = job.config in
    let lists = c.left_by-lists.result in
    let g = c.args.gathered in
    let one = one_list k g c.requires.config c.are_of_one_list.ensures in
    let held = c.left_by-lists.ensures one.0 one.1.0 one.1.1 in
    let o : Outcome = record { job = job; logs = c.from_vec.result; commits = c.from_vec-2.result; replies = c.printed-printed.result; own_replies = c.from_vec-3.result; ends = c.from_vec-4.result; order = None; gathered = Some g } in
    let has : HasParts k one.0 g.parts = one.1.1 in
    diligent_of true o one.0 lists has held

pub returns-clause-eager : goal.returns-clause-eager
returns-clause-eager c =
    let job = c.args.job in
    let k = job.config in
    let lists = c.left_by-lists.result in
    let g = c.args.gathered in
    let one = one_list k g c.requires.config c.are_of_one_list.ensures in
    let o : Outcome = record { job = job; logs = c.from_vec.result; commits = c.from_vec-2.result; replies = c.printed-printed.result; own_replies = c.from_vec-3.result; ends = c.from_vec-4.result; order = None; gathered = Some g } in
    let has : HasParts k one.0 g.parts = one.1.1 in
    eager_left o one.0 c.args.nodes.items has c.requires.left

pub returns-clause-applies : goal.returns-clause-applies
returns-clause-applies c =
    let job = c.args.job in
    let k = job.config in
    let lists = c.left_by-lists.result in
    let g = c.args.gathered in
    let one = one_list k g c.requires.config c.are_of_one_list.ensures in
    let held = c.left_by-lists.ensures one.0 one.1.0 one.1.1 in
    let o : Outcome = record { job = job; logs = c.from_vec.result; commits = c.from_vec-2.result; replies = c.printed-printed.result; own_replies = c.from_vec-3.result; ends = c.from_vec-4.result; order = None; gathered = Some g } in
    let has : HasParts k one.0 g.parts = one.1.1 in
    let over : IsRunOver one.0 o = run_over true o one.0 lists one.1.0 has c.from_vec.ensures c.from_vec-2.ensures c.from_vec-3.ensures c.from_vec-4.ensures held c.requires.spelled
    (printed_is true job job.script one.0 lists c.printed-printed.result c.requires.spelled held c.printed-printed.ensures) in
    applies_if_fair o one.0 c.args.nodes.items c.requires.good over c.requires.left (diligent_of true o one.0 lists has held)
