use Rattle.std.proofs.Common.{◌<◌, ◌∷◌, ◌∙◌, ap, subst}
use Rattle.mu_model.proofs.Parts.{part_of_maker}
use Rattle.mu_model.specs.Scores.{is_failed, leader}
use Rattle.mu_picture.specs.Hearing.{heard_by}
use Rattle.mu_regions.proofs.Range.{in_range}
use Rattle.mu_regions.specs.Range.{read_at}
use Rattle.mu_picture.proofs.trail.Trail.note.Goals as goal

pub returns-clause-tells : goal.returns-clause-tells
returns-clause-tells c = λ past legal held.
    let config = c.args.config.now in
    let e = c.args.event.now in
    let range = in_range config _ _ _ legal.1.allowed in
    let after = c.in_ok-turn.ensures.stands past legal held in
    let mine = part_of_maker e past in
    record {
      told = c.in_ok-turn.ensures.tells past legal held;
      hears = λ q is.
          let heard = c.heard_of-q.ensures ∙ ap heard_by is in
          let near = subst (λ v. read_at e.by v < config.replicas) is range.read in
          record {
            was = c.fails-was.ensures past config q heard range.replica near held;
            now = c.fails.ensures (e ∷ past) config q heard range.replica near after ∙ ap (λ l. is_failed e.by q l) mine;
            named = c.named_leader.ensures (e ∷ past) config range.replica after ∙ ap (λ l. leader config e.by l) mine;
          };
    }
