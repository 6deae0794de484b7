use Rattle.std.proofs.Common.{◌∙◌, ◌*◌, ◌<◌, ◌^◌, arith, length, map, rules, sym}
use Rattle.std.proofs.lemmas.List.{length-map}
use Rattle.mu_report.specs.Printing.{over}
use Rattle.mu_report.specs.Responses.{response_line}
use Rattle.mu_report.specs.declared.line.TheConstants.{LINE_BYTES}
use Rattle.mu_report.proofs.Writing.{err_of, part_at, told}
use Rattle.mu_report.proofs.responses.print_responses.Goals as goal

pub returns-clause-part : goal.returns-clause-part
returns-clause-part g c =
    let lines = map response_line c.args.responses.now in
    let few : LINE_BYTES * length lines < 2 ^ 64 =
    omega (arith, c.requires, length-map c.args.responses.now response_line) in
    let all =
    told g.K.Sink.written g.K.Sink.faults (over c.new-printer.result) _ _ lines
    c.new-printer.ensures.none_held c.new-printer.ensures.nothing c.new-printer.ensures.whole few
    c.print_each.ensures.1 c.finish.ensures.written c.finish.ensures.none_held in
    err_of _ c.finish.result (λ fault is.
    let part = part_at g.K.Sink.written g.K.Sink.faults _ _ _ _ _ fault c.new-printer.ensures.same_sink all (sym c.finish.ensures.taken ∙ is) in
    search (rules, part))
