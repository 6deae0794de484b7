-- A step at one region is none at another.
use Rattle.std.proofs.Common.{Some, false, refl, sym, ℕ, ◌==◌, ◌∙◌, ◌≡◌, ◌≢◌}
use Rattle.std.proofs.lemmas.Bool.{ne_eqb}
use Rattle.mu_model.specs.declared.event.Verb.{Verb}
use Rattle.mu_model.proofs.Basics.{none_some, same_some}
use Rattle.mu_placing.specs.Looks.{is_at}
use Rattle.mu_placing.specs.Naming.{region_of_step}

-- another region is another number
pub apart : (q f p : ℕ) → Some f ≡ Some p → q ≢ p → (f == q) ≡ false
apart q f p names differs = ne_eqb f q (λ same. differs (sym same ∙ same_some f p names))

-- a step at the region p changes nothing of what was looked at and put at q
pub looks_apart : (q p : ℕ) (verb : Verb) → region_of_step verb ≡ Some p → q ≢ p → is_at q verb ≡ false
looks_apart q p (Verb.Fence f) names differs = refl
looks_apart q p (Verb.Min f) names differs = refl
looks_apart q p (Verb.Enter f t) names differs = apart q f p names differs
looks_apart q p (Verb.PutMin f b) names differs = apart q f p names differs
looks_apart q p (Verb.Look f i) names differs = apart q f p names differs
looks_apart q p (Verb.PutSlot f i b v) names differs = apart q f p names differs
looks_apart q p (Verb.Fuo f) names differs = apart q f p names differs
looks_apart q p (Verb.RaiseFuo f u) names differs = apart q f p names differs
looks_apart q p verb names differs = absurd (none_some p names)
