use Rattle.std.proofs.Common.{Some, ◌≡◌, ◌∷◌, ◌∙◌, ap, length-set, sym, subst, arith}
use Rattle.std.specs.List.{slice_get}
use Rattle.std.proofs.lemmas.Option.{slice_get-get_or}
use Rattle.mu_model.proofs.Parts.{part_is_possible, part_of_maker}
use Rattle.mu_model.specs.Histories.{part}
use Rattle.mu_model.specs.Parts.{IsPossible}
use Rattle.mu_model.proofs.Budgets.{short_history}
use Rattle.mu_course.specs.Courses.{StandsForCourse}
use Rattle.mu_course.proofs.Walking.{each_part_next}
use Rattle.mu_course.proofs.walk.Walk.take.Goals as goal
use Rattle.mu_regions.proofs.Range.{in_range}

pub returns-in-Some-clause-stands : goal.returns-in-Some-clause-stands
returns-in-Some-clause-stands c = λ past legal held.
    let config = c.args.config.now in
    let e = c.args.event.now in
    let items = c.args.self.now.courses.items in
    let short = short_history config past legal.0 c.requires.replicas.1 c.requires.budget.1 in
    let possible = subst (λ l. IsPossible config e.by l) (part_of_maker e past) (part_is_possible config e.by (e ∷ past) legal) in
    record {
      legal = legal;
      count = length-set items c.from.result c.take-in-Some.new.self ∙ held.count;
      each = each_part_next (λ r mine course. StandsForCourse config r mine course) past e c.from.result items c.in-Some.course.now c.take-in-Some.new.self c.from.ensures
          (slice_get-get_or items c.from.result c.in-Some.course.now c.in-Some.ensures.item.3.0 ∙ ap Some (sym c.in-Some.ensures.value))
          (c.take-in-Some.ensures.stands (part e.by past) possible) held.each;
      regions = c.take.ensures config past (omega (arith, short)) (in_range config _ _ _ legal.1.allowed).near held.regions;
    }

pub returns-in-Some-clause-tells : goal.returns-in-Some-clause-tells
returns-in-Some-clause-tells c = λ past legal held.
    let config = c.args.config.now in
    let e = c.args.event.now in
    let items = c.args.self.now.courses.items in
    let course = c.in-Some.course.now in
    let there : slice_get items c.from.result ≡ Some course =
    slice_get-get_or items c.from.result course c.in-Some.ensures.item.3.0 ∙ ap Some (sym c.in-Some.ensures.value) in
    let possible = subst (λ l. IsPossible config e.by l) (part_of_maker e past) (part_is_possible config e.by (e ∷ past) legal) in
    c.take-in-Some.ensures.tells (part e.by past) possible
    (held.each e.by course (subst (λ q. slice_get items q ≡ Some course) c.from.ensures there))
