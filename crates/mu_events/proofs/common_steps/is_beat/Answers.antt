use Rattle.std.proofs.Common.{◌≡◌, ◌∙◌, Bool, true, false, ap, codes, refl, sym}
use Rattle.std.proofs.lemmas.Slice.Eq.{bytes_eq-Decides}
use Rattle.std.specs.Str.{bytes_eq}
use Rattle.mu_events.proofs.common_steps.is_beat.Goals as goal

pub returns-in-Some : goal.returns-in-Some
returns-in-Some c = c.is_rest_of_beat.ensures ∙ ap (λ t. bytes_eq t (codes "beat = done")) (sym c.in-Some.ensures)

pub returns-in-None : goal.returns-in-None
returns-in-None c = by_test (bytes_eq c.args.text.now (codes "beat = done")) refl
  where
    by_test : (b : Bool) → bytes_eq c.args.text.now (codes "beat = done") ≡ b → false ≡ b
    by_test true is = absurd (c.in-None.ensures (codes "one") ((bytes_eq-Decides c.args.text.now (codes "beat = done")).0 is))
    by_test false is = refl
