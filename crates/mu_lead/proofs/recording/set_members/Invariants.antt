use Rattle.std.proofs.Common.{List, false, get_or, length, true, ℕ, ◌<◌, ◌≡◌}
use Rattle.mu_model.specs.declared.event.Event.{Event}
use Rattle.mu_model.specs.Leaderships.{is_member}
use Rattle.mu_leadership.specs.Leadership.{StandsForLeadership}
use Rattle.mu_lead.proofs.recording.set_members.Given as goal

abbrev pub invariant-loop-p : goal.invariant-loop-p
invariant-loop-p l = record {
  long : length l.table ≡ length l.initial.table;
  members : (r : ℕ) (mine : List Event) (q : ℕ) → q < l.p → length l.initial.table ≡ 7 → StandsForLeadership r mine l.leading → is_member r q mine ≡ true → get_or l.table q 0 ≡ l.number;
  others : (r : ℕ) (mine : List Event) (q : ℕ) → StandsForLeadership r mine l.leading → is_member r q mine ≡ false → get_or l.table q 0 ≡ get_or l.initial.table q 0;
}
