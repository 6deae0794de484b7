use Rattle.std.proofs.Common.{◌+◌, ◌∙◌, ap, length, refl, subst, sym}
use Rattle.mu_course.specs.Halts.{halt_after}
use Rattle.mu_course.specs.Resigning.{is_leading}
use Rattle.mu_model.specs.Histories.{part}
use Rattle.mu_picture.specs.Deeds.{deed_of}
use Rattle.mu_picture.specs.Marks.{made_of, resumed_by}
use Rattle.mu_picture.specs.Standings.{deed_after, resumed_with, standing_of, standing_with}
use Rattle.mu_picture.specs.StandingsHeld.{HoldStandings}
use Rattle.mu_regions.proofs.Range.{in_range}
use Rattle.mu_picture.proofs.trail.Trail.take.Goals as goal

pub returns-clause-stands : goal.returns-clause-stands
returns-clause-stands c = λ past legal held.
    let config = c.args.config.now in
    let script = c.args.script.now in
    let e = c.args.event.now in
    let mine = part e.by past in
    let low = (in_range config _ _ _ legal.1.allowed).replica in
    let noted = c.in_ok-turn.ensures.tells past legal held.walk in
    let deed = c.deed_of-deed.ensures config mine noted.told.told noted.told.resigns noted.told.named noted.hears
    ∙ ap (λ g. deed_of config mine g e) (c.grant_count-granted.ensures past config low held.walk) in
    let halt = c.halt_after-halt.ensures
    ∙ (ap (λ k. halt_after config script e.by k c.in_ok-turn.turn.finishes) noted.told.told.steps
    ∙ ap (λ f. halt_after config script e.by (length mine + 1) f) noted.told.finishes) in
    record {
      walk = c.in_ok-turn.ensures.stands past legal held.walk;
      standings = c.take.ensures config script past e refl low
          (c.standing_with.ensures
          ∙ (ap (λ d. standing_with d c.halt_after-halt.result) deed ∙ ap (λ h. standing_with (deed_after config past e) h) halt))
          (subst (λ s. HoldStandings config script past s) (sym c.in_ok-turn.ensures.standings) held.standings);
    }

pub returns-clause-mark : goal.returns-clause-mark
returns-clause-mark c = λ past legal held here.
    let config = c.args.config.now in
    let script = c.args.script.now in
    let e = c.args.event.now in
    let mine = part e.by past in
    let low = (in_range config _ _ _ legal.1.allowed).replica in
    let noted = c.in_ok-turn.ensures.tells past legal held.walk in
    let resumed = c.resumption_at-resumed.ensures
    ∙ (ap (λ s. resumed_with s c.leads.result c.named_leader.result) (c.of.ensures config script past low held.standings)
    ∙ (ap (λ l. resumed_with (standing_of config script e.by past) l c.named_leader.result) (c.leads.ensures past config low held.walk)
    ∙ ap (λ n. resumed_with (standing_of config script e.by past) (is_leading config e.by mine) n) (c.named_leader.ensures past config low held.walk))) in
    let deed = c.deed_of-deed.ensures config mine noted.told.told noted.told.resigns noted.told.named noted.hears
    ∙ ap (λ g. deed_of config mine g e) (c.grant_count-granted.ensures past config low held.walk) in
    let halt = c.halt_after-halt.ensures
    ∙ (ap (λ k. halt_after config script e.by k c.in_ok-turn.turn.finishes) noted.told.told.steps
    ∙ ap (λ f. halt_after config script e.by (length mine + 1) f) noted.told.finishes) in
    c.mark_of.ensures
    ∙ (ap (λ k. made_of k e c.resumption_at-resumed.result c.deed_of-deed.result c.halt_after-halt.result) here
    ∙ (ap (λ r. made_of (length past) e r c.deed_of-deed.result c.halt_after-halt.result) resumed
    ∙ (ap (λ d. made_of (length past) e (resumed_by config script past e) d c.halt_after-halt.result) deed
    ∙ ap (λ h. made_of (length past) e (resumed_by config script past e) (deed_after config past e) h) halt)))
