use Rattle.std.proofs.Common.{◌∙◌, ◌||◌, ap, min}
use Rattle.mu_rest.specs.Progress.{cycles_after, gets_done, idle_cycles, quiet_cycles}
use Rattle.mu_rest.specs.Signs.{is_change}
use Rattle.mu_rest.proofs.progress.Progress.take.Goals as goal

pub returns : goal.returns
returns c signs stands =
    let sign = c.args.sign in
    let done = c.take_done-done.ensures.done signs stands.heads in
    let changed = c.changes-changed.ensures ∙ ap (λ d. d || is_change sign) done in
    let ends = c.ends_cycle-ends.ensures in
    record {
      heads = c.take_done-done.ensures.heads signs stands.heads;
      idle = c.next_cycles-self.ensures (idle_cycles signs) stands.idle
          ∙ ap (λ d. min 256 (cycles_after d c.ends_cycle-ends.result (idle_cycles signs))) done
          ∙ ap (λ e. min 256 (cycles_after (gets_done sign signs) e (idle_cycles signs))) ends;
      quiet = c.next_cycles-self-2.ensures (quiet_cycles signs) stands.quiet
          ∙ ap (λ d. min 256 (cycles_after d c.ends_cycle-ends.result (quiet_cycles signs))) changed
          ∙ ap (λ e. min 256 (cycles_after (gets_done sign signs || is_change sign) e (quiet_cycles signs))) ends;
      ended = ends;
    }
