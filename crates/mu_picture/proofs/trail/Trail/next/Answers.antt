use Rattle.std.proofs.Common.{◌∷◌, length, refl, sym, subst, take}
use Rattle.std.proofs.lemmas.List.{length-reverse, length-take-le}
use Rattle.std.proofs.Common.{◌≡◌, ◌∙◌, arith}
use Rattle.mu_model.specs.Histories.{history}
use Rattle.mu_model.specs.Legal.{IsLegalHistory}
use Rattle.mu_outcome.proofs.Places.{history_at_next, read_there}
use Rattle.mu_picture.specs.Trails.{StandsForTrail}
use Rattle.mu_picture.proofs.trail.Trail.next.Goals as goal

pub returns-in-Some : goal.returns-in-Some
returns-in-Some c = λ held.
    let events = c.args.events.now in
    let i = c.args.index in
    record {
      stands = held;
      breaks = (
        record {
          there = read_there events i _ c.requires.within;
          before = held.walk.legal;
          fault = c.in-Some.ensures (history (take i events)) held.walk;
        },
        refl,
      );
    }

pub returns-in-None : goal.returns-in-None
returns-in-None c = λ held.
    let config = c.args.config.now in
    let script = c.args.script.now in
    let events = c.args.events.now in
    let i = c.args.index in
    let past = history (take i events) in
    let legal : IsLegalHistory config (_ ∷ past) = (held.walk.legal, c.in-None.ensures past held.walk) in
    let place : i ≡ length past = sym (length-reverse (take i events) ∙ length-take-le i events (omega (arith, c.requires.within))) in
    record {
      event = _;
      there = read_there events i _ c.requires.within;
      mark = c.take.ensures.mark past legal held place;
      stands = subst (λ l. StandsForTrail config script l c.take.new.self) (sym (history_at_next events i _ c.requires.within)) (c.take.ensures.stands past legal held);
    }
