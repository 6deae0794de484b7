use Rattle.std.proofs.Common.{◌≡◌, ◌∙◌, ℕ, List, Some, [], drop, length, subst, sym, true}
use Rattle.std.specs.List.{slice_get}
use Rattle.std.proofs.lemmas.List.{take_at}
use Rattle.mu_input.specs.Heads.{HaveHeads}
use Rattle.mu_input.specs.declared.job.Job.{Job}
use Rattle.mu_model.specs.Contents.{IsConfig}
use Rattle.mu_model.specs.Legal.{IsLegal}
use Rattle.mu_outcome.proofs.Completing.{completes_over}
use Rattle.mu_cluster.proofs.Agreeing.{agrees_of, over_order, within_of}
use Rattle.mu_cluster.proofs.AllTold.{finishes_by_then}
use Rattle.mu_cluster.proofs.Committing.{commits_by_then}
use Rattle.mu_cluster.proofs.Outrunning.{spends_of}
use Rattle.mu_cluster.specs.declared.rounds.Seat.{Seat}
use Rattle.mu_cluster.specs.Rounds.{PlayedBy}
use Rattle.mu_cluster.proofs.playing.replayed.Goals as goal

pub outcome-requires-clause-legal : goal.outcome-requires-clause-legal
outcome-requires-clause-legal g c =
    let same = c.finished-memory.ensures.config ∙ c.requires.same_config in
    subst (λ es. IsLegal c.args.job.config es) (sym c.into_events.ensures.events) (subst (λ k. IsLegal k (g.M.Memory.events c.finished-memory.result)) same c.into_events.ensures.legal)

pub outcome-requires-clause-played : goal.outcome-requires-clause-played
outcome-requires-clause-played g c =
    let job = c.args.job in
    let kind = c.args.kind in
    let given = c.args.memory in
    let left = c.finished-memory.result in
    let back = take_at c.finished-memory.new.seats (drop (length c.finished-memory.new.seats) c.in_ok-seats.seats.items) c.in_ok-seats.seats.len (c.finished-memory.auto.seats ∙ c.deref_mut.ensures.len) in
    let a = subst (λ l. PlayedBy kind job.config job.script [] l 0 0) (sym c.deref_mut.ensures.value) c.in_ok-seats.ensures.played in
    let b = subst (λ e. PlayedBy kind job.config job.script e c.deref_mut.result.now 0 0) (sym c.requires.empty) a in
    let d = subst (λ k. PlayedBy kind k job.script (g.M.Memory.events given) c.deref_mut.result.now 0 0) (sym c.requires.same_config) b in
    let more = c.finished-memory.ensures.played kind job.script 0 c.as_slice.ensures d in
    let e = subst (λ k. PlayedBy kind k job.script (g.M.Memory.events left) c.finished-memory.new.seats more.0 0) c.requires.same_config more.1 in
    let f = subst (λ es. PlayedBy kind job.config job.script es c.finished-memory.new.seats more.0 0) (sym c.into_events.ensures.events) e in
    (more.0, subst (λ l. PlayedBy kind job.config job.script c.into_events.result.events l more.0 0) (sym back) f)

pub outcome-requires-clause-ended : goal.outcome-requires-clause-ended
outcome-requires-clause-ended g c =
    let back = take_at c.finished-memory.new.seats (drop (length c.finished-memory.new.seats) c.in_ok-seats.seats.items) c.in_ok-seats.seats.len (c.finished-memory.auto.seats ∙ c.deref_mut.ensures.len) in
    subst (λ (l : List Seat). (r : ℕ) (seat : Seat) → slice_get l r ≡ Some seat → seat.ended ≡ true) (sym back) c.finished-memory.ensures.ended

pub returns-clause-agrees : goal.returns-clause-agrees
returns-clause-agrees g c = agrees_of c.outcome.result (subst (λ (j : Job). IsConfig j.config) (sym c.outcome.ensures.job) c.requires.config) (subst (λ (j : Job). HaveHeads j.config.width j.commands j.config.rows) (sym c.outcome.ensures.job) c.requires.heads) c.outcome.ensures.run

pub returns-clause-reach : goal.returns-clause-reach
returns-clause-reach g c = within_of c.outcome.result (subst (λ (j : Job). IsConfig j.config) (sym c.outcome.ensures.job) c.requires.config) (subst (λ (j : Job). HaveHeads j.config.width j.commands j.config.rows) (sym c.outcome.ensures.job) c.requires.heads) c.outcome.ensures.run

pub returns-clause-spends : goal.returns-clause-spends
returns-clause-spends g c =
    let o = c.outcome.result in
    let good = subst (λ (j : Job). IsConfig j.config) (sym c.outcome.ensures.job) c.requires.config in
    let have = subst (λ (j : Job). HaveHeads j.config.width j.commands j.config.rows) (sym c.outcome.ensures.job) c.requires.heads in
    let run = c.outcome.ensures.run in
    spends_of o run (completes_over o run.order.events good have (over_order o run) (agrees_of o good have run)) c.outcome.ensures.none_outrun

pub returns-clause-lives : goal.returns-clause-lives
returns-clause-lives g c plain =
    let o = c.outcome.result in
    let good = subst (λ (j : Job). IsConfig j.config) (sym c.outcome.ensures.job) c.requires.config in
    let have = subst (λ (j : Job). HaveHeads j.config.width j.commands j.config.rows) (sym c.outcome.ensures.job) c.requires.heads in
    let run = c.outcome.ensures.run in
    record { committed = commits_by_then o good have run (c.outcome.ensures.applies plain); finished = finishes_by_then o good have run (c.outcome.ensures.finishes plain) }
