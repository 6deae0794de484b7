use Rattle.std.proofs.Common.{◌∷◌, ◌&&◌, ◌∙◌, ap, not}
use Rattle.mu_model.specs.Ends.{is_finished}
use Rattle.mu_course.specs.Resigning.{is_leading}
use Rattle.mu_course.proofs.course.Course.take.Goals as goal

pub returns-clause-stands : goal.returns-clause-stands
returns-clause-stands c = λ mine possible stands.
    c.note-told.ensures.stands mine possible stands (c.yields-yields.ensures c.args.config.now c.args.event.now.by mine stands)

pub returns-clause-tells : goal.returns-clause-tells
returns-clause-tells c = λ mine possible stands.
    let config = c.args.config.now in
    let e = c.args.event.now in
    let r = e.by in
    let yields = c.yields-yields.ensures config r mine stands in
    let later = c.note-told.ensures.stands mine possible stands yields in
    record {
      told = c.note-told.ensures.tells mine possible stands;
      named = c.leader-named.ensures config r mine stands.scores;
      resigns = c.is_resigning.ensures
          ∙ (ap (λ l. l && c.yields-yields.result) (c.is_leading-leading.ensures config r mine stands) ∙ ap (λ y. is_leading config r mine && y) yields);
      finishes = c.is_end.ensures
          ∙ (ap (λ b. not b && c.is_finished-after.result) (c.is_finished-before.ensures r mine stands)
          ∙ ap (λ a. not (is_finished config r mine) && a) (c.is_finished-after.ensures r (e ∷ mine) later));
    }
