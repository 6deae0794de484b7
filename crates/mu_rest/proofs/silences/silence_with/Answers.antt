use Rattle.std.proofs.Common.{◌∷◌, subst, sym}
use Rattle.mu_rest.specs.Silences.{HoldsReads}
use Rattle.mu_rest.proofs.silences.silence_with.Goals as goal

pub returns-in-Beats-clause-reads : goal.returns-in-Beats-clause-reads
returns-in-Beats-clause-reads c signs held q reads there =
    subst (λ s. HoldsReads q (s ∷ signs) reads) (sym c.in-Beats.is) (c.take_read.ensures.reads signs held q reads there)
