-- What a read of a fence changes of what was done at its region.
use Rattle.std.proofs.Common.{Bool, List, None, Some, ap, false, refl, subst, sym, ℕ, ◌∙◌, ◌∷◌, ◌≡◌}
use Rattle.std.specs.Prelude.{is_some}
use Rattle.std.specs.declared.option.Option.{Option}
use Rattle.mu_model.specs.declared.config.Config.{Config}
use Rattle.mu_model.specs.declared.event.Answer.{Answer}
use Rattle.mu_model.specs.declared.event.Event.{Event}
use Rattle.mu_model.specs.declared.event.Fence.{Fence}
use Rattle.mu_model.specs.declared.event.Verb.{Verb}
use Rattle.mu_model.specs.Again.{foreign_row, row_with}
use Rattle.mu_model.specs.Answers.{answer_of}
use Rattle.mu_model.specs.Entering.{min_read_under}
use Rattle.mu_model.specs.Histories.{newer_or, newest, event_by}
use Rattle.mu_model.specs.Leaderships.{fence_seen, grant_for, proposal_number}
use Rattle.mu_model.specs.Parts.{IsPossible}
use Rattle.mu_model.specs.Regions.{fence}
use Rattle.mu_model.proofs.Basics.{same_number}
use Rattle.mu_agree.proofs.Possible.{at_event}
use Rattle.mu_leadership.specs.Bearing.{reads_fence}
use Rattle.mu_leadership.specs.Leadership.{StandsForRegionNotes}
use Rattle.mu_leadership.specs.declared.region_notes.RegionNotes.{RegionNotes}

-- the notes with a fence
abbrev pub noted_with : RegionNotes → Fence → Option ℕ → Bool → ℕ → RegionNotes
noted_with notes f noted read row = record { noted = noted; joined = notes.joined; entered = notes.entered; opened = notes.opened; minimum = notes.minimum; has_read = read; seen = Some f; foreign = row }

-- they stand for the events with the read of the fence
seen_here : (r p : ℕ) (f : Fence) (mine : List Event) (notes : RegionNotes) (noted : Option ℕ) (read : Bool) (row : ℕ) → noted ≡ grant_for r (Some f) → read ≡ min_read_under r p f.grant mine
    → row ≡ row_with r (is_some (proposal_number r mine)) (Some f) (foreign_row r p mine) → StandsForRegionNotes r p mine notes → StandsForRegionNotes r p (event_by r (Verb.Fence p) (Answer.Seen f) ∷ mine) (noted_with notes f noted read row)
seen_here r p f mine notes noted read row grant since counted held = record {
  noted = rw (same_number r, same_number p) grant;
  joined = held.joined;
  entered = held.entered;
  opened = held.opened;
  minimum = held.minimum;
  has_read = rw (same_number r, same_number p) since;
  seen = rw (same_number r, same_number p) refl;
  foreign = rw (same_number r, same_number p) counted;
}

seen_by : (r p by : ℕ) (verb : Verb) (answer : Answer) (f : Fence) (mine : List Event) (state : RegionNotes) → by ≡ r → verb ≡ Verb.Fence p → answer ≡ Answer.Seen f
    → StandsForRegionNotes r p (event_by r (Verb.Fence p) (Answer.Seen f) ∷ mine) state → StandsForRegionNotes r p (event_by by verb answer ∷ mine) state
seen_by r p by verb answer f mine state own is seen held =
    subst (λ b. StandsForRegionNotes r p (event_by b verb answer ∷ mine) state) (sym own)
    (subst (λ v. StandsForRegionNotes r p (event_by r v answer ∷ mine) state) (sym is)
    (subst (λ a. StandsForRegionNotes r p (event_by r (Verb.Fence p) a ∷ mine) state) (sym seen) held))

pub seen_notes : (r p : ℕ) (e : Event) (f : Fence) (mine : List Event) (notes : RegionNotes) (noted : Option ℕ) (read : Bool) (row : ℕ) → e.by ≡ r → e.verb ≡ Verb.Fence p → e.answer ≡ Answer.Seen f → noted ≡ grant_for r (Some f)
    → read ≡ min_read_under r p f.grant mine → row ≡ row_with r (is_some (proposal_number r mine)) (Some f) (foreign_row r p mine) → StandsForRegionNotes r p mine notes → StandsForRegionNotes r p (e ∷ mine) (noted_with notes f noted read row)
seen_notes r p e f mine notes noted read row own is seen grant since counted held =
    seen_by r p e.by e.verb e.answer f mine (noted_with notes f noted read row) own is seen (seen_here r p f mine notes noted read row grant since counted held)

-- a read of a fence shows it
pub fence_shown : (c : Config) (r p : ℕ) (mine : List Event) (e : Event) → IsPossible c r (e ∷ mine) → e.verb ≡ Verb.Fence p → (f : Fence) × (e.answer ≡ Answer.Seen f)
fence_shown c r p mine e possible is =
    let s = at_event c r mine e possible in
    (fence p s.older, s.follows.answer ∙ ap (λ v. answer_of c e.by s.older v) is)

-- any other step shows none
unshown_by : (r p by : ℕ) (verb : Verb) (answer : Answer) → reads_fence verb ≡ false → fence_seen r p by verb answer ≡ None
unshown_by r p by (Verb.Fence q) answer other = cc
unshown_by r p by verb answer other = refl

pub still_seen : (r p : ℕ) (mine : List Event) (e : Event) → reads_fence e.verb ≡ false → newest (λ x. fence_seen r p x.by x.verb x.answer) (e ∷ mine) ≡ newest (λ x. fence_seen r p x.by x.verb x.answer) mine
still_seen r p mine e other = ap (λ o. newer_or o (newest (λ x. fence_seen r p x.by x.verb x.answer) mine)) (unshown_by r p e.by e.verb e.answer other)
