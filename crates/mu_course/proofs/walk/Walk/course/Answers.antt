use Rattle.std.proofs.Common.{ap, arith, length, sym}
use Rattle.std.proofs.lemmas.Bool.{ltb-false}
use Rattle.mu_course.proofs.Walking.{found_there}
use Rattle.mu_course.proofs.walk.Walk.course.Goals as goal

pub returns-in-None : goal.returns-in-None
returns-in-None c = λ past s held.
    let over = ltb-false _ _ (sym c.in-None.ensures.lookup.0) in
    omega (arith, over, c.from.ensures, held.count, ap length c.deref.ensures.value)

pub returns-in-Some : goal.returns-in-Some
returns-in-Some c = λ past s held.
    let found = c.in-Some.ensures.lookup in
    let r = c.args.r in
    let course = c.in-Some.course.now in
    held.each r course (found_there c.args.self.now.courses.items c.deref.result.now c.from.result r course c.deref.ensures.value c.from.ensures found.1 found.3.0)
