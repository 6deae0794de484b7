-- The counts of a leader when an entry is brought to a region that lacks it.
use Rattle.std.proofs.Common.{◌≡◌, ℕ, ◌<◌, inl, inr, true, false, Some, List, ◌∷◌, ap, refl, sym, true≢false}
use Rattle.std.specs.Prelude.{not, ◌&&◌}
use Rattle.std.specs.List.{slice_get}
use Rattle.std.proofs.lemmas.Bool.{and_from, cases_lt, le-leb}
use Rattle.mu_model.specs.declared.config.Config.{Config}
use Rattle.mu_model.specs.declared.event.Answer.{Answer}
use Rattle.mu_model.specs.declared.event.Event.{Event}
use Rattle.mu_model.specs.Bounds.{first_fuo, is_at_most, is_copying, is_learning, members, was_copied}
use Rattle.mu_model.specs.Contents.{IsConfig}
use Rattle.mu_model.specs.Diligence.{is_milestone}
use Rattle.mu_model.specs.Knowledge.{is_value, known}
use Rattle.mu_model.specs.Leaderships.{is_member}
use Rattle.mu_model.specs.Stretches.{is_replication}
use Rattle.mu_model.proofs.Basics.{or_true, same_number}
use Rattle.mu_pace.specs.Asking.{AsksCopying, far_copy, near_copied, near_last}
use Rattle.mu_pace.specs.Members.{members_below}
use Rattle.mu_pace.specs.Placed.{IsPlacedAt}
use Rattle.mu_pace.specs.Weights.{Bringing, Copies, IsPlace, Lag, Sizes, Stage, copied, copied_last}
use Rattle.mu_pace.proofs.Placed.{places_lead}
use Rattle.mu_lead.specs.declared.place.Place.{Place}
use Rattle.mu_lead.specs.declared.place.Then.{Then}
use Rattle.mu_lead.specs.Leading.{end_of}
use Rattle.mu_lively.specs.Onward.{MayBringUp}
use Rattle.mu_lively.specs.Rooms.{IsLed, IsPlaced, lag_of, sizes_of}
use Rattle.mu_lead.proofs.Bringing.{put_event}
use Rattle.mu_lively.proofs.Raises.{copy_commits_none}
use Rattle.mu_lively.proofs.RoomsBringing.{bring_place}
use Rattle.mu_lively.proofs.RoomsQuiet.{no_heads, quiet_milestone, config_is_sized}

-- a put of what is known is a copy, if none was made at the position and the first FUO that was
-- read isn't above it
pub copies_put : (c : Config) (r p u b v : ℕ) (mine : List Event) → slice_get (known c r mine) u ≡ Some v → was_copied c r p u mine ≡ false → is_at_most u (first_fuo r p mine) ≡ true → is_copying c r mine (put_event r p u b v) ≡ true
copies_put c r p u b v mine value uncopied first =
    and_from (is_value (slice_get (known c r mine) u) v) (not (was_copied c r p u mine) && is_at_most u (first_fuo r p mine)) (rw value (same_number v))
    (and_from (not (was_copied c r p u mine)) (is_at_most u (first_fuo r p mine)) (ap not uncopied) first)

asks_copying : (s : Sizes) (next : Bringing) → ((l : Lag) → Copies s (Stage.Bring l Bringing.Put) (Stage.Bring l next)) → ((q k : ℕ) → q < k → AsksCopying s k (Stage.Bring (Lag.Joined q) Bringing.Put) (Stage.Bring (Lag.Joined q) next))
    → (l : Lag) (k : ℕ) → AsksCopying s k (Stage.Bring l Bringing.Put) (Stage.Bring l next)
asks_copying s next edge near Lag.Behind k = far_copy (Stage.Bring Lag.Behind Bringing.Put) (Stage.Bring Lag.Behind next) (edge Lag.Behind) refl refl
asks_copying s next edge near (Lag.Position below) k = far_copy (Stage.Bring (Lag.Position below) Bringing.Put) (Stage.Bring (Lag.Position below) next) (edge (Lag.Position below)) refl refl
asks_copying s next edge near (Lag.Joined q) k = elim (cases_lt q k) [
  | inl low ↦ near q k low
  | inr high ↦ far_copy (Stage.Bring (Lag.Joined q) Bringing.Put) (Stage.Bring (Lag.Joined q) next) (edge (Lag.Joined q)) (le-leb k q high) (le-leb k q high)
]

copies_on : (c : Config) (r : ℕ) (next : Bringing) (l : Lag) (mine : List Event) (e : Event) → IsConfig c → is_replication mine e ≡ true → is_milestone c r mine e ≡ false → is_copying c r mine e ≡ true → members c r (e ∷ mine) ≡ members c r mine
    → ((l : Lag) → Copies (sizes_of c r mine) (Stage.Bring l Bringing.Put) (Stage.Bring l next)) → ((q k : ℕ) → q < k → AsksCopying (sizes_of c r mine) k (Stage.Bring (Lag.Joined q) Bringing.Put) (Stage.Bring (Lag.Joined q) next))
    → IsPlace (sizes_of c r mine) (Stage.Bring l next) → IsPlacedAt c r (sizes_of c r mine) (Stage.Bring l Bringing.Put) mine → IsPlacedAt c r (sizes_of c r mine) (Stage.Bring l next) (e ∷ mine)
copies_on c r next l mine e is turn quiet copying same edge near place at = places_lead.copy c r (sizes_of c r mine) (Stage.Bring l Bringing.Put) (Stage.Bring l next) mine e (config_is_sized c r mine is) at (record {
  turn = turn;
  edge = edge l;
  place = place;
  no_milestone = quiet;
  copies = or_true (is_learning c r mine e) (is_copying c r mine e) copying;
  same = same;
  asks = λ k low stranger. inl (asks_copying (sizes_of c r mine) next edge near l k);
  levels = λ level. absurd (true≢false (sym level));
})

-- the entry is brought to p: the next one is, or p has all that is known
pub rooms_copied : (c : Config) (r p u b v : ℕ) (mine : List Event) (written : List ℕ) (on : Then) → IsConfig c → is_replication mine (put_event r p u b v) ≡ true → p < c.replicas → is_member r p mine ≡ true → u < end_of c r mine → is_copying c r mine (put_event r p u b v) ≡ true
    → IsPlaced c r mine written (Place.PutBehind p on) → MayBringUp c r (put_event r p u b v ∷ mine) p on × IsLed c r (put_event r p u b v ∷ mine) (Stage.Bring (lag_of c r (put_event r p u b v ∷ mine) p on) Bringing.Raise)
rooms_copied c r p u b v mine written on is turn region member low copying at = ((λ next first. go next (λ l. copied l next first) (λ q k below. near_copied q next below first) on (bring_place c r p mine on next region member) at), go Bringing.Raise copied_last (λ q k below. near_last q below) on (bring_place c r p mine on Bringing.Raise region member) at)
  where
    quiet : is_milestone c r mine (put_event r p u b v) ≡ false
    quiet = quiet_milestone c r mine (put_event r p u b v) refl (copy_commits_none c r p u b v Answer.Done mine low) (no_heads c r mine)

    on_with : (next : Bringing) → ((l : Lag) → Copies (sizes_of c r mine) (Stage.Bring l Bringing.Put) (Stage.Bring l next)) → ((q k : ℕ) → q < k → AsksCopying (sizes_of c r mine) k (Stage.Bring (Lag.Joined q) Bringing.Put) (Stage.Bring (Lag.Joined q) next))
        → (l : Lag) → IsPlace (sizes_of c r mine) (Stage.Bring l next) → IsLed c r mine (Stage.Bring l Bringing.Put) → IsLed c r (put_event r p u b v ∷ mine) (Stage.Bring l next)
    on_with next edge near l place led = record { read = led.read; placed = copies_on c r next l mine (put_event r p u b v) is turn quiet copying refl edge near place led.placed }

    go : (next : Bringing) → ((l : Lag) → Copies (sizes_of c r mine) (Stage.Bring l Bringing.Put) (Stage.Bring l next)) → ((q k : ℕ) → q < k → AsksCopying (sizes_of c r mine) k (Stage.Bring (Lag.Joined q) Bringing.Put) (Stage.Bring (Lag.Joined q) next))
        → (t : Then) → IsPlace (sizes_of c r mine) (Stage.Bring (lag_of c r mine p t) next) → IsPlaced c r mine written (Place.PutBehind p t) → IsLed c r (put_event r p u b v ∷ mine) (Stage.Bring (lag_of c r (put_event r p u b v ∷ mine) p t) next)
    go next edge near Then.Late place led = on_with next edge near Lag.Behind place led
    go next edge near Then.Position place led = on_with next edge near (Lag.Position (members_below c r p mine)) place led
    go next edge near Then.Joined place led = on_with next edge near (Lag.Joined p) place led
