use Rattle.std.proofs.Common.{◌∷◌, ◌∙◌, inl, inr, subst, sym, rules}
use Rattle.mu_rest.proofs.Changing.{item_read, set_get}
use Rattle.mu_rest.specs.declared.sign.Sign.{Sign as SomeSign}
use Rattle.mu_rest.specs.Silences.{HoldsReads}
use Rattle.mu_rest.proofs.Reading.{found_of_other, reads_kept}
use Rattle.mu_rest.proofs.silences.take_read.Goals as goal

pub returns-clause-reads : goal.returns-clause-reads
returns-clause-reads c signs held q reads there =
    let p = c.args.replica in
    let sign = SomeSign.Beats p c.args.beats in
    elim (set_get c.args.reads.now c.from-at.result c.after.result q reads there) [
      | inl here ↦
          let was = item_read (λ k d. HoldsReads k signs d) c.args.reads.now c.from-at.result p _ c.from-at.ensures (search rules) held in
          let now = c.after.ensures p signs was in
          subst (λ k. HoldsReads k (sign ∷ signs) reads) (sym (here.0 ∙ c.from-at.ensures)) (subst (λ d. HoldsReads p (sign ∷ signs) d) here.1 now)
      | inr other ↦ reads_kept q signs sign reads (found_of_other p q c.args.beats (λ same. other.0 (sym same ∙ sym c.from-at.ensures))) (held q reads other.1)
    ]
