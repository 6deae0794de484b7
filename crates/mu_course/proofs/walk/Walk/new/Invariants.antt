-- The courses before this one are there.
use Rattle.std.proofs.Common.{◌≡◌, ℕ, [], Some, length, vec_capacity}
use Rattle.std.specs.List.{slice_get}
use Rattle.mu_course.specs.Courses.{StandsForCourse}
use Rattle.mu_course.specs.declared.course.Course.{Course}
use Rattle.mu_course.proofs.walk.Walk.new.Given as goal

abbrev pub invariant-loop-replica : goal.invariant-loop-replica
invariant-loop-replica l = record {
  count : length l.courses.items ≡ l.replica;
  room : vec_capacity l.courses ≡ l.config.replicas;
  each : (r : ℕ) (course : Course) → slice_get l.courses.items r ≡ Some course → StandsForCourse l.config r [] course;
}
