use Rattle.std.proofs.Common.{◌≡◌, ◌∷◌, ◌&&◌, not, length, ap, ◌∙◌, arith}
use Rattle.std.specs.List.{slice_get}
use Rattle.mu_model.specs.Knowledge.{known}
use Rattle.mu_model.specs.Leaderships.{is_over}
use Rattle.mu_course.proofs.Teaching.{learnt_next}
use Rattle.mu_course.proofs.told.take_event.Goals as goal

pub returns-clause-tells : goal.returns-clause-tells
returns-clause-tells c = λ mine possible stands.
    let config = c.args.config.now in
    let e = c.args.event.now in
    let after = c.take.ensures mine possible stands in
    let was_over : c.is_over-before.result ≡ is_over e.by mine = c.is_over-before.ensures e.by mine stands.leadership in
    let is_over_now : c.is_over-after.result ≡ is_over e.by (e ∷ mine) = c.is_over-after.ensures e.by (e ∷ mine) after.leadership in
    let was : c.known-known.result.now ≡ known config e.by mine = c.known-known.ensures config e.by mine stands.known_log in
    let now : c.known.result.now ≡ known config e.by (e ∷ mine) = c.known.ensures config e.by (e ∷ mine) after.known_log in
    record {
      ends = c.is_end-ends.ensures
          ∙ (ap (λ b. not b && c.is_over-after.result) was_over ∙ ap (λ b. not (is_over e.by mine) && b) is_over_now);
      known = ap length was;
      taught = c.value_at-taught.ensures
          ∙ (ap (λ l. slice_get l (length c.known-known.result.now)) now
          ∙ (ap (λ l. slice_get (known config e.by (e ∷ mine)) (length l)) was ∙ learnt_next (known config e.by mine) _));
      steps = omega (arith, after.steps);
    }
