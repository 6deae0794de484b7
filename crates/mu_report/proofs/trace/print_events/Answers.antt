use Rattle.std.proofs.Common.{List, [], ap, arith, map, sym, ℕ, ◌++◌, ◌∙◌, ◌≡◌}
use Rattle.std.proofs.lemmas.List.{drop_all}
use Rattle.std.proofs.lemmas.Option.{get_or_from_slice_get}
use Rattle.mu_report.specs.Trace.{event_line}
use Rattle.mu_report.proofs.Lists.{map-drop-or}
use Rattle.mu_report.proofs.Prints.{leaves, printed}
use Rattle.mu_report.proofs.trace.print_events.Goals as goal

-- what a line shows that was cleared and then got a text
shown_text : (empty whole shown text : List ℕ) → shown ≡ whole → whole ≡ empty ++ text → empty ≡ [] → shown ≡ text
shown_text empty whole shown text shows pushed cleared = shows ∙ pushed ∙ ap (λ l. l ++ text) cleared

pub loop-k-preserved : goal.loop-k-preserved
loop-k-preserved g c =
    let events = c.args.journal.now.events in
    let k = c.loop-k.k in
    let event = c.at.result in
    let line = shown_text _ _ _ _ c.as_slice.ensures c.push_event.ensures.bytes c.clear.ensures in
    leaves g.P.Printer.Prints g.met.P.Printer.append c.loop-k.invariant
    (map-drop-or event_line events k event c.as_slice.result.now (omega arith) (line ∙ ap event_line (sym (get_or_from_slice_get events k event event c.at.ensures)))) c.print_bytes.ensures

pub returns : goal.returns
returns g c =
    let events = c.args.journal.now.events in
    printed g.P.Printer.Prints g.met.P.Printer.nothing c.loop-k.invariant (ap (map event_line) (drop_all c.loop-k.k events (omega arith)))
