-- A step at one region leaves what was done at every other.
use Rattle.std.proofs.Common.{List, None, Some, false, refl, ℕ, ◌==◌, ◌∷◌, ◌≡◌, ◌≢◌, ◌∙◌, sym}
use Rattle.std.specs.declared.option.Option.{Option}
use Rattle.std.proofs.Math.Bool.{and-false}
use Rattle.std.proofs.lemmas.Bool.{ne_eqb}
use Rattle.mu_model.specs.declared.event.Answer.{Answer}
use Rattle.mu_model.specs.declared.event.Event.{Event}
use Rattle.mu_model.specs.declared.event.Verb.{Verb}
use Rattle.mu_model.specs.Entering.{min_read_since}
use Rattle.mu_model.specs.Leaderships.{begins_leadership}
use Rattle.mu_leadership.specs.Bearing.{reads_fence, region_named}
use Rattle.mu_leadership.specs.Leadership.{StandsForRegionNotes, last_grant}
use Rattle.mu_leadership.specs.declared.region_notes.RegionNotes.{RegionNotes}
use Rattle.mu_model.proofs.Basics.{none_some, same_some}
use Rattle.mu_model.specs.Histories.{event_by}

-- another region is another number
apart : (f p q : ℕ) → Some f ≡ Some q → q ≢ p → (f == p) ≡ false
apart f p q names differs = ne_eqb f p (λ same. differs (sym (same_some f q names) ∙ same))

-- the minimum of another region says nothing of what was read at p
min_elsewhere : (r p f by x : ℕ) (mine : List Event) (grant : Option ℕ) → (f == p) ≡ false → min_read_since r p (event_by by (Verb.Min f) (Answer.Number x) ∷ mine) grant ≡ min_read_since r p mine grant
min_elsewhere r p f by x mine None other = refl
min_elsewhere r p f by x mine (Some g) other = rw (other, and-false (by == r)) refl

-- an event at the region q leaves what was done at p
notes_kept : (r p q by : ℕ) (verb : Verb) (answer : Answer) (mine : List Event) (notes : RegionNotes) → region_named verb ≡ Some q → q ≢ p → StandsForRegionNotes r p mine notes → StandsForRegionNotes r p (event_by by verb answer ∷ mine) notes
notes_kept r p q by (Verb.Fence f) (Answer.Seen fence) mine notes names differs held =
    let other : (f == p) ≡ false = apart f p q names differs in
    record { noted = rw (other, and-false (by == r)) held.noted; joined = held.joined; entered = held.entered; opened = held.opened; minimum = held.minimum; has_read = rw (other, and-false (by == r)) held.has_read; seen = rw (other, and-false (by == r)) held.seen; foreign = rw (other, and-false (by == r)) held.foreign }
notes_kept r p q by (Verb.Fence f) answer mine notes names differs held =
    let other : (f == p) ≡ false = apart f p q names differs in
    record { noted = held.noted; joined = held.joined; entered = held.entered; opened = held.opened; minimum = held.minimum; has_read = held.has_read; seen = held.seen; foreign = held.foreign }
notes_kept r p q by (Verb.Min f) (Answer.Number x) mine notes names differs held =
    let other : (f == p) ≡ false = apart f p q names differs in
    record { noted = held.noted; joined = held.joined; entered = held.entered; opened = held.opened; minimum = rw (other, and-false (by == r)) held.minimum; has_read = held.has_read ∙ sym (min_elsewhere r p f by x mine (last_grant r p mine) other); seen = held.seen; foreign = held.foreign }
notes_kept r p q by (Verb.Min f) answer mine notes names differs held =
    let other : (f == p) ≡ false = apart f p q names differs in
    record { noted = held.noted; joined = held.joined; entered = held.entered; opened = held.opened; minimum = held.minimum; has_read = held.has_read; seen = held.seen; foreign = held.foreign }
notes_kept r p q by (Verb.Enter f t) Answer.Entered mine notes names differs held =
    let other : (f == p) ≡ false = apart f p q names differs in
    record { noted = held.noted; joined = held.joined; entered = rw (other, and-false (by == r)) held.entered; opened = rw (other, and-false (by == r)) held.opened; minimum = held.minimum; has_read = held.has_read; seen = held.seen; foreign = held.foreign }
notes_kept r p q by (Verb.Enter f t) answer mine notes names differs held =
    let other : (f == p) ≡ false = apart f p q names differs in
    record { noted = held.noted; joined = held.joined; entered = rw (other, and-false (by == r)) held.entered; opened = rw (other, and-false (by == r)) held.opened; minimum = held.minimum; has_read = held.has_read; seen = held.seen; foreign = held.foreign }
notes_kept r p q by (Verb.PutMin f b) Answer.Done mine notes names differs held =
    let other : (f == p) ≡ false = apart f p q names differs in
    record { noted = held.noted; joined = rw (other, and-false (by == r)) held.joined; entered = rw (other, and-false (by == r)) held.entered; opened = rw (other, and-false (by == r)) held.opened; minimum = held.minimum; has_read = held.has_read; seen = held.seen; foreign = held.foreign }
notes_kept r p q by (Verb.PutMin f b) answer mine notes names differs held =
    let other : (f == p) ≡ false = apart f p q names differs in
    record { noted = held.noted; joined = held.joined; entered = rw (other, and-false (by == r)) held.entered; opened = rw (other, and-false (by == r)) held.opened; minimum = held.minimum; has_read = held.has_read; seen = held.seen; foreign = held.foreign }
notes_kept r p q by (Verb.PutSlot f i b v) answer mine notes names differs held =
    let other : (f == p) ≡ false = apart f p q names differs in
    record { noted = held.noted; joined = held.joined; entered = rw (other, and-false (by == r)) held.entered; opened = rw (other, and-false (by == r)) held.opened; minimum = held.minimum; has_read = held.has_read; seen = held.seen; foreign = held.foreign }
notes_kept r p q by verb answer mine notes names differs held = absurd (none_some q names)

-- an event at no region that begins no leadership leaves what was done at each
left_by : (r p by : ℕ) (verb : Verb) (answer : Answer) (mine : List Event) (notes : RegionNotes) → reads_fence verb ≡ false → region_named verb ≡ None → begins_leadership r (event_by by verb answer) ≡ false → StandsForRegionNotes r p mine notes → StandsForRegionNotes r p (event_by by verb answer ∷ mine) notes
left_by r p by (Verb.Ask q) answer mine notes other none goes held = record { noted = rw goes held.noted; joined = rw goes held.joined; entered = rw goes held.entered; opened = held.opened; minimum = held.minimum; seen = held.seen; has_read = held.has_read; foreign = rw goes held.foreign }
left_by r p by (Verb.Fence q) answer mine notes other none goes held = cc
left_by r p by (Verb.Min q) answer mine notes other none goes held = cc
left_by r p by (Verb.Enter q t) answer mine notes other none goes held = cc
left_by r p by (Verb.PutMin q b) answer mine notes other none goes held = cc
left_by r p by (Verb.PutSlot q i b v) answer mine notes other none goes held = cc
left_by r p by verb answer mine notes other none goes held = record { noted = held.noted; joined = held.joined; entered = held.entered; opened = held.opened; minimum = held.minimum; seen = held.seen; has_read = held.has_read; foreign = held.foreign }

pub notes_left : (r p : ℕ) (e : Event) (mine : List Event) (notes : RegionNotes) → reads_fence e.verb ≡ false → region_named e.verb ≡ None → begins_leadership r e ≡ false → StandsForRegionNotes r p mine notes → StandsForRegionNotes r p (e ∷ mine) notes
notes_left r p e mine notes other none goes held = left_by r p e.by e.verb e.answer mine notes other none goes held

-- a step at the region p leaves what was done at every other
pub kept_elsewhere : (r p : ℕ) (e : Event) (mine : List Event) → region_named e.verb ≡ Some p → (q : ℕ) (notes : RegionNotes) → q ≢ p → StandsForRegionNotes r q mine notes → StandsForRegionNotes r q (e ∷ mine) notes
kept_elsewhere r p e mine names q notes other held = notes_kept r q p e.by e.verb e.answer mine notes names (λ same. other (sym same)) held
