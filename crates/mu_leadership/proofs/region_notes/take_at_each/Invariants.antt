use Rattle.std.proofs.Common.{List, ◌∷◌, ◌≡◌, length}
use Rattle.std.specs.Prelude.{false}
use Rattle.mu_model.specs.declared.event.Event.{Event}
use Rattle.mu_leadership.specs.Bearing.{reads_fence}
use Rattle.mu_leadership.specs.Leadership.{StandsForRegionNotes, StandForRegionNotes}
use Rattle.mu_model.proofs.Lists.{HoldsUpto}
use Rattle.mu_leadership.proofs.region_notes.take_at_each.Given as goal

abbrev pub invariant-loop-p : goal.invariant-loop-p
invariant-loop-p l = record {
  count : length l.notes ≡ 7;
  upto : (mine : List Event) → reads_fence l.event.verb ≡ false → StandForRegionNotes l.r mine l.fn.notes
      → HoldsUpto (λ p d. StandsForRegionNotes l.r p mine d) (λ p d. StandsForRegionNotes l.r p (l.event ∷ mine) d) l.p l.notes;
}
