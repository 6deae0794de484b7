use Rattle.std.proofs.Common.{ℕ, List, [], ◌∷◌, ◌++◌, ◌≡◌, length}
use Rattle.mu_model.specs.Contents.{marked}
use Rattle.mu_knowledge.specs.KnownLog.{MarksReplicas}
use Rattle.mu_model.proofs.Lists.{HoldsUpto}
use Rattle.mu_knowledge.proofs.known_log.note_mark.Given as goal

abbrev pub invariant-loop-q : goal.invariant-loop-q
invariant-loop-q l = record {
  count : length l.marks ≡ 7;
  upto : (values : List ℕ) → MarksReplicas l.config values l.fn.marks
      → HoldsUpto (λ q mark. mark ≡ marked l.config q values) (λ q mark. mark ≡ marked l.config q (values ++ l.v ∷ [])) l.q l.marks;
}
