-- What stands lasts along the listing while late followers join.
use Rattle.mu_agree.proofs.Possible.{parts_shorten_law}
use Rattle.mu_lead.proofs.Keeping.{fuo_event, raised_now}
use Rattle.mu_lead.proofs.Lates.{enter_min_event, fence_event, late_behind, late_entered, late_left, late_level, late_noted, late_read, late_told, level_fenced, min_event}
use Rattle.mu_lead.proofs.Numbering.{landed_min}
use Rattle.mu_lead.proofs.StandsOnward.{Ready, Stand, StandsAt, Stood, asks_anew, bring_stands, keeps, late_stands, ready}
use Rattle.mu_lead.proofs.StandsTables.{fuo_heads, fuo_others, fuo_tables, left_tables, up_others}
use Rattle.mu_lead.proofs.Writes.{four}
use Rattle.mu_lead.specs.Confirming.{IsEnteredNow}
use Rattle.mu_lead.specs.Journal.{fuo_in}
use Rattle.mu_lead.specs.Leading.{AtLateEnter, AtLateFuo, AtLateMin, AtLatePut, Late, end_of}
use Rattle.mu_lead.specs.Listing.{Tables, bring_up, late_from}
use Rattle.mu_lead.specs.declared.place.Place.{Place}
use Rattle.mu_lead.specs.declared.place.Then.{Then}
use Rattle.mu_model.proofs.Basics.{same_number}
use Rattle.mu_model.specs.Leaderships.{has_begun, noted_grant}
use Rattle.mu_model.specs.Parts.{IsPossible}
use Rattle.mu_model.specs.declared.config.Config.{Config}
use Rattle.mu_model.specs.declared.event.Answer.{Answer}
use Rattle.mu_model.specs.declared.event.Event.{Event}
use Rattle.mu_model.specs.declared.event.Fence.{Fence}
use Rattle.mu_model.specs.declared.event.Verb.{Verb}
use Rattle.mu_model.specs.Histories.{event_by}
use Rattle.std.proofs.Common.{Bool, List, None, [], arith, false, get_or, is_some, refl, true, ℕ, ◌+◌, ◌<◌, ◌∷◌, ◌≡◌, ◌≤◌}
use Rattle.std.proofs.lemmas.Bool.{ltb-false, ltb-true}
use Rattle.std.proofs.lemmas.List.{get_or-set_same}
use Rattle.std.specs.Prelude.{if◌then◌else◌, nat_lt, set}

-- the fence of a late follower
pub late_fenced_stands : (c : Config) (r b p : ℕ) (f : Fence) (mine : List Event) (t : Tables) → Stand c r mine t → Late c r b mine t.up t.reach p → IsPossible c r (fence_event r p f ∷ mine)
    → Stood c r b (fence_event r p f ∷ mine) t (if is_some (noted_grant r p (fence_event r p f ∷ mine)) then Place.LateMin p else late_from c r (fence_event r p f ∷ mine) t.heads (p + 1))
late_fenced_stands c r b p f mine t s at possible =
    let tables = keeps c r (fence_event r p f) mine t s possible refl refl in
    record { tables = tables; at = go (is_some (noted_grant r p (fence_event r p f ∷ mine))) refl (ready c r mine (fence_event r p f ∷ mine) t t s possible tables) }
  where
    go : (x : Bool) → is_some (noted_grant r p (fence_event r p f ∷ mine)) ≡ x → Ready c r (fence_event r p f ∷ mine) t → StandsAt c r b (fence_event r p f ∷ mine) t (if x then Place.LateMin p else late_from c r (fence_event r p f ∷ mine) t.heads (p + 1))
    go true noted x = late_noted c r b p f mine t.up t.reach at noted
    go false other x = late_stands c r b (p + 1) (fence_event r p f ∷ mine) t x (level_fenced c r b p f mine t.up t.reach at.stranger at.level)

-- its minimum
pub late_told_stands : (c : Config) (r b p m : ℕ) (mine : List Event) (t : Tables) → Stand c r mine t → AtLateMin c r b mine t.up t.reach p → IsPossible c r (min_event r p m ∷ mine)
    → Stood c r b (min_event r p m ∷ mine) t (if nat_lt b m then Place.Ask 0 else Place.LateFuo p)
late_told_stands c r b p m mine t s at possible = record { tables = keeps c r (min_event r p m) mine t s possible refl refl; at = go (nat_lt b m) refl }
  where
    go : (x : Bool) → nat_lt b m ≡ x → StandsAt c r b (min_event r p m ∷ mine) t (if x then Place.Ask 0 else Place.LateFuo p)
    go true above = asks_anew c r b (min_event r p m ∷ mine) t s.inside
    go false low = late_told c r b p m mine t.up t.reach (ltb-false b m low) at

-- its FUO is above what is known
pub late_left_stands : (c : Config) (r b p u : ℕ) (mine : List Event) (old : Tables) → Stand c r mine old → AtLateFuo c r b mine old.up old.reach p → IsPossible c r (fuo_event r p u ∷ mine)
    → Stood c r b (fuo_event r p u ∷ mine) (four old.up (fuo_in old.reach p u) old.heads old.written) (late_from c r (fuo_event r p u ∷ mine) old.heads (p + 1))
late_left_stands c r b p u mine old s at possible =
    let region = at.late.region in
    let few = s.is.replicas.1 in
    let tables = left_tables c r p u mine old possible (omega (arith, region, few)) s.tables in
    let t = four old.up (fuo_in old.reach p u) old.heads old.written in
    record { tables = tables; at = late_stands c r b (p + 1) (fuo_event r p u ∷ mine) t (ready c r mine (fuo_event r p u ∷ mine) old t s possible tables) (late_left c r b p u mine old.up old.reach (fuo_in old.reach p u) (fuo_others old.reach p u) at) }

-- it isn't
pub late_read_stands : (c : Config) (r b p u : ℕ) (mine : List Event) (old : Tables) → Stand c r mine old → AtLateFuo c r b mine old.up old.reach p → u ≤ end_of c r mine → IsPossible c r (fuo_event r p u ∷ mine)
    → Stood c r b (fuo_event r p u ∷ mine) (four (set old.up p u) (fuo_in old.reach p u) old.heads old.written) (Place.LateEnter p)
late_read_stands c r b p u mine old s at short possible =
    let region = at.late.region in
    let few = s.is.replicas.1 in
    let ups = s.tables.ups in
    let reaches = s.tables.reaches in
    let here : get_or (set old.up p u) p 0 ≡ u = get_or-set_same old.up p u 0 (omega (arith, region, few, ups)) in
    record {
      tables = fuo_tables c r p u mine old possible (omega (arith, region, few)) s.tables;
      at = late_read c r b p u mine old.up (set old.up p u) old.reach (fuo_in old.reach p u) (up_others old.up p u) (fuo_others old.reach p u) here short
          (raised_now p u (set old.up p u) (get_or old.reach p None) (fuo_in old.reach p u) (omega (arith, here)) (fuo_heads old.reach p u (omega (arith, region, few, reaches)))) at;
    }

-- it was entered for its minimum
pub entered_late_stands : (c : Config) (r b p : ℕ) (mine : List Event) (t : Tables) → Stand c r mine t → AtLateEnter c r b mine t.up t.reach p → IsPossible c r (enter_min_event r p ∷ mine) → Stood c r b (enter_min_event r p ∷ mine) t (Place.LatePut p)
entered_late_stands c r b p mine t s at possible = record { tables = keeps c r (enter_min_event r p) mine t s possible refl refl; at = late_entered c r b p mine t.up t.reach at }

-- the put of the number missed
pub missed_min_stands : (c : Config) (r b p : ℕ) (mine : List Event) (t : Tables) → Stand c r mine t → p < c.replicas → has_begun r mine ≡ true → IsEnteredNow r p mine → IsPossible c r (event_by r (Verb.PutMin p b) Answer.Missed ∷ mine)
    → Stood c r b (event_by r (Verb.PutMin p b) Answer.Missed ∷ mine) t (Place.Evidence p)
missed_min_stands c r b p mine t s region begun under possible = record {
  tables = keeps c r (event_by r (Verb.PutMin p b) Answer.Missed) mine t s possible refl refl;
  at = record { region = region; begun = begun; missed = record { since = []; put = event_by r (Verb.PutMin p b) Answer.Missed; before = mine; is = refl; missed = same_number p; under = under } };
}

-- it became a member
pub joined_late_stands : (c : Config) (r b p : ℕ) (mine : List Event) (t : Tables) → Stand c r mine t → AtLatePut c r b mine t.up t.reach p → IsPossible c r (landed_min r p b ∷ mine)
    → Stood c r b (landed_min r p b ∷ mine) t (if nat_lt (get_or t.up p 0) (end_of c r (landed_min r p b ∷ mine)) then bring_up c t.up t.reach p Then.Joined else late_from c r (landed_min r p b ∷ mine) t.heads (p + 1))
joined_late_stands c r b p mine t s at possible =
    let tables = keeps c r (landed_min r p b) mine t s possible refl refl in
    record { tables = tables; at = go (nat_lt (get_or t.up p 0) (end_of c r (landed_min r p b ∷ mine))) refl (ready c r mine (landed_min r p b ∷ mine) t t s possible tables) }
  where
    go : (x : Bool) → nat_lt (get_or t.up p 0) (end_of c r (landed_min r p b ∷ mine)) ≡ x → Ready c r (landed_min r p b ∷ mine) t → StandsAt c r b (landed_min r p b ∷ mine) t (if x then bring_up c t.up t.reach p Then.Joined else late_from c r (landed_min r p b ∷ mine) t.heads (p + 1))
    go true lacks x = bring_stands c r b p (landed_min r p b ∷ mine) t Then.Joined (late_behind c r b p mine t.up t.reach (parts_shorten_law c r mine (landed_min r p b) possible).before at (ltb-true (get_or t.up p 0) (end_of c r (landed_min r p b ∷ mine)) lacks))
    go false has x = late_stands c r b (p + 1) (landed_min r p b ∷ mine) t x (late_level c r b p mine t.up t.reach at (ltb-false (get_or t.up p 0) (end_of c r (landed_min r p b ∷ mine)) has))
