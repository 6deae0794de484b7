use Rattle.std.proofs.Common.{ℕ, ◌<◌, ◌≡◌, ◌∙◌, length, rules, subst, sym}
use Rattle.std.specs.Prelude.{IfErr, IfOk}
use Rattle.mu_report.specs.Printing.{ended, over}
use Rattle.mu_report.specs.Trace.{lines_of_parts}
use Rattle.mu_report.proofs.Writing.{err_of, part_at, told}
use Rattle.mu_report.proofs.trace.write_trace.Goals as goal

pub returns-clause-count : goal.returns-clause-count
returns-clause-count g c =
    let lines = lines_of_parts c.args.config.now c.args.commands.now c.args.script.now c.args.journal.now.events in
    let all =
    told g.K.Sink.written g.K.Sink.faults (over c.new-printer.result) _ _ lines c.new-printer.ensures.none_held c.new-printer.ensures.nothing c.new-printer.ensures.whole c.requires
    c.print_parts.ensures.1 c.finish.ensures.written c.finish.ensures.none_held in
    subst (λ r. IfOk r (λ (count : ℕ). count ≡ length (ended lines))) (sym c.finish.ensures.taken) all.count

pub returns-clause-short : goal.returns-clause-short
returns-clause-short g c =
    let lines = lines_of_parts c.args.config.now c.args.commands.now c.args.script.now c.args.journal.now.events in
    let all =
    told g.K.Sink.written g.K.Sink.faults (over c.new-printer.result) _ _ lines c.new-printer.ensures.none_held c.new-printer.ensures.nothing c.new-printer.ensures.whole c.requires
    c.print_parts.ensures.1 c.finish.ensures.written c.finish.ensures.none_held in
    subst (λ r. IfErr r (λ fault. fault.taken < length (ended lines))) (sym c.finish.ensures.taken) all.short

pub returns-clause-part : goal.returns-clause-part
returns-clause-part g c =
    let all =
    told g.K.Sink.written g.K.Sink.faults (over c.new-printer.result) _ _ (lines_of_parts c.args.config.now c.args.commands.now c.args.script.now c.args.journal.now.events)
    c.new-printer.ensures.none_held c.new-printer.ensures.nothing c.new-printer.ensures.whole c.requires
    c.print_parts.ensures.1 c.finish.ensures.written c.finish.ensures.none_held in
    err_of _ c.finish.result (λ fault is.
    let part = part_at g.K.Sink.written g.K.Sink.faults _ _ _ _ _ fault c.new-printer.ensures.same_sink all (sym c.finish.ensures.taken ∙ is) in
    search (rules, part))
