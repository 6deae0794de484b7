use Rattle.std.proofs.Common.{sym, subst, List, ℕ, []}
use Rattle.mu_words.specs.declared.layout.Layout.{Layout}
use Rattle.shared_steps.specs.Opening.{AreWrittenBelow}
use Rattle.shared_steps.specs.Rule.{Shows}
use Rattle.shared_steps.proofs.Opening.{begins, layout_same, opened}
use Rattle.shared_steps.proofs.words.Words.start.Goals as goal

pub of_words-requires : goal.of_words-requires
of_words-requires c =
    let config = c.args.config.now in
    begins config c.as_slice.result.now c.requires
    (subst (λ (ws : List ℕ). Shows config [] ws) (sym c.as_slice.ensures.value)
    (opened config c.in_ok-first.first.items (subst (λ (l : Layout). AreWrittenBelow l config.replicas c.in_ok-first.first.items) (layout_same config c.new-layout.result c.new-layout.ensures.laid_out c.new-layout.ensures.rows) c.in_ok-first.ensures)))
