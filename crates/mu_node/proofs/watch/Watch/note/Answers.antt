use Rattle.std.proofs.Common.{◌∙◌, ◌≡◌, false, rules, sym}
use Rattle.mu_node.proofs.Watching.{watch_kept}
use Rattle.mu_node.proofs.watch.Watch.note.Goals as goal

pub returns : goal.returns
returns c k r mine same held = c.note_read.ensures k r mine same held

pub returns-then-not-reads_beat : goal.returns-then-not-reads_beat
returns-then-not-reads_beat c k r mine same held =
    let e = c.args.event.now in
    let off : c.reads_beat.result ≡ false = search rules in
    watch_kept k r e.by e.verb e.answer mine c.args.self.now (sym c.reads_beat.ensures ∙ off) held
