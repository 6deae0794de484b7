use Rattle.std.proofs.Common.{◌≡◌, ◌+◌, ◌≤◌, ◌∙◌, ◌++◌, ◌∷◌, [], length, take, ap, arith}
use Rattle.std.proofs.lemmas.List.{length-append}
use Rattle.mu_text.specs.Lines.{words}
use Rattle.mu_text.specs.declared.TheConstants.{MANY_WORDS}
use Rattle.mu_input.specs.declared.TheConstants.{MOST_SCRIPT_LINES}
use Rattle.mu_input.specs.declared.scripts.ScriptLine.TheVariants as line
use Rattle.mu_input.proofs.ScriptBack.{in_order-few}
use Rattle.mu_input.proofs.StopsAndPauses.{line_by_line, room, told}
use Rattle.mu_input.proofs.scripts.script.Goals as goal
use Rattle.mu_input.proofs.scripts.script.Goals.{in-Stop+in_ok-push-in-Stop, in-Pause+in_ok-push-in-Pause}

pub returns-in-End-clause-lines : goal.returns-in-End-clause-lines
returns-in-End-clause-lines c =
    let l = c.loop-line in
    let few : length c.as_slice-in-End.result.now + length c.as_slice-in-End-2.result.now ≤ MOST_SCRIPT_LINES =
    omega (arith, l.invariant.few, ap length c.as_slice-in-End.ensures.value, ap length c.as_slice-in-End-2.ensures.value) in
    in_order-few c.in_ok-ordered-in-End.ordered c.args.replicas c.as_slice-in-End.result.now c.as_slice-in-End-2.result.now c.in_ok-ordered-in-End.ensures few

pub loop-line-preserved : goal.loop-line-preserved
loop-line-preserved c =
    let l = c.loop-line in
    let old = l.invariant in
    elim c.match-said.branch [
      | in-Stop+in_ok-push-in-Stop w ↦
          let said = told c.args.replicas l.stops.items _ l.pauses.items _ c.in-Some.line.now _ _ _ (line.Stop w.in-Stop.stop) c.as_slice.ensures.value c.as_slice-in-Some.ensures.value c.as_slice-in-Some-2.ensures c.of-words.ensures w.in-Stop.is c.in-Ok.ensures in
          let stops : c.match-said.stops.items ≡ l.stops.items ++ w.in-Stop.stop ∷ [] = rw w.stops-is w.in_ok-push-in-Stop.ensures.items in
          let pauses : c.match-said.pauses.items ≡ l.pauses.items = rw w.pauses-is in
          let left = room c.args.replicas l.stops.items l.pauses.items (take MANY_WORDS (words c.in-Some.line.now)) (line.Stop w.in-Stop.stop) (λ e. cc) said in
          let more = length-append l.stops.items (w.in-Stop.stop ∷ []) in
          let step = line_by_line c.args.replicas l.stops.items l.pauses.items l.number l.lines.lines c.in-Some.line.now c.next.new.self.lines _ c.in-Some.ensures.0 said in
          record {
            reading = rw (stops, pauses) (old.reading ∙ step);
            few = omega (arith, more, left, ap length stops, ap length pauses);
            count = omega (arith, more, ap length stops, ap length pauses);
            next = omega (arith, c.in-Some.ensures.1);
          }
      | in-Pause+in_ok-push-in-Pause w ↦
          let said = told c.args.replicas l.stops.items _ l.pauses.items _ c.in-Some.line.now _ _ _ (line.Pause w.in-Pause.pause) c.as_slice.ensures.value c.as_slice-in-Some.ensures.value c.as_slice-in-Some-2.ensures c.of-words.ensures w.in-Pause.is c.in-Ok.ensures in
          let stops : c.match-said.stops.items ≡ l.stops.items = rw w.stops-is in
          let pauses : c.match-said.pauses.items ≡ l.pauses.items ++ w.in-Pause.pause ∷ [] = rw w.pauses-is w.in_ok-push-in-Pause.ensures.items in
          let left = room c.args.replicas l.stops.items l.pauses.items (take MANY_WORDS (words c.in-Some.line.now)) (line.Pause w.in-Pause.pause) (λ e. cc) said in
          let more = length-append l.pauses.items (w.in-Pause.pause ∷ []) in
          let step = line_by_line c.args.replicas l.stops.items l.pauses.items l.number l.lines.lines c.in-Some.line.now c.next.new.self.lines _ c.in-Some.ensures.0 said in
          record {
            reading = rw (stops, pauses) (old.reading ∙ step);
            few = omega (arith, more, left, ap length stops, ap length pauses);
            count = omega (arith, more, ap length stops, ap length pauses);
            next = omega (arith, c.in-Some.ensures.1);
          }
    ]
