-- stands for, tells, takes (looks): the state of looks, first puts and FUOs that were read stands
-- for the events of r, tells what has come of them, and takes one more.
--
-- Times are told with it: the events of r count from 1, and 0 is never.
use Rattle.std.specs.Prelude.{Bool, List, None, Some, [], false, if◌then◌else◌, is_some, length, nat_lt, not, true, ℕ, ◌%◌, ◌&&◌, ◌+◌, ◌<◌, ◌==◌, ◌||◌, ◌∷◌, ◌≡◌, ◌≤◌}
use Rattle.std.specs.declared.option.Option.{Option}
use Rattle.std.specs.List.{slice_get}
use Rattle.mu_model.specs.declared.config.Config.{Config}
use Rattle.mu_model.specs.declared.event.Event.{Event}
use Rattle.mu_model.specs.declared.event.Target.{Target}
use Rattle.mu_model.specs.declared.event.Verb.{Verb}
use Rattle.mu_model.specs.Answers.{is_enter_of}
use Rattle.mu_model.specs.Contents.{row_count}
use Rattle.mu_model.specs.Entering.{last_opened}
use Rattle.mu_model.specs.Histories.{has, newer_or}
use Rattle.mu_model.specs.Leaderships.{begins_leadership, is_member, lands_min, leadership}
use Rattle.mu_model.specs.Picks.{entry_of, first_value, is_joining, is_past_look, joined_since_first_put, last_look, look_answer}
use Rattle.mu_model.specs.Placing.{fuo_read_or_raised, is_within_ring, looked_before_entering, reaches_head, has_looked_since}
use Rattle.mu_model.specs.Room.{reserve}
use Rattle.mu_leadership.specs.Leadership.{StandsForLeadership}
use Rattle.mu_leadership.specs.declared.leadership.Leadership.{Leadership}
use Rattle.mu_placing.specs.declared.region_looks.Look.{Look}
use Rattle.mu_placing.specs.declared.region_looks.RegionLooks.{RegionLooks}
use Rattle.mu_placing.specs.declared.looks.First.{First}
use Rattle.mu_placing.specs.declared.looks.Looks.{Looks}

-- the time of the last event that passes, or 0
abbrev pub last_time : (Event → Bool) → List Event → ℕ
last_time test [] = 0
last_time test (e ∷ past) = if test e then length past + 1 else last_time test past

-- the time when the leadership began
abbrev pub begun_time : ℕ → List Event → ℕ
begun_time r mine = last_time (begins_leadership r) mine

-- the time when a region last became a member, or when the leadership began
abbrev pub joining_time : ℕ → List Event → ℕ
joining_time r [] = 0
joining_time r (e ∷ past) =
    if is_joining r past e.by e.verb e.answer
    then length past + 1
    else if begins_leadership r e
    then length past + 1
    else joining_time r past

-- the time when p became a member, if it is one
abbrev pub member_time : ℕ → ℕ → List Event → Option ℕ
member_time r p [] = None
member_time r p (e ∷ past) =
    if begins_leadership r e
    then None
    else if lands_min r p e.by e.verb e.answer
    then newer_or (member_time r p past) (Some (length past + 1))
    else member_time r p past

-- the time of the last `Enter` of r at p
abbrev pub enter_time : ℕ → ℕ → List Event → ℕ
enter_time r p mine = last_time (is_enter_of r p) mine

-- in its leadership r read or raised a FUO of p within a ring of position i
abbrev pub has_fuo_near : ℕ → ℕ → ℕ → ℕ → List Event → Bool
has_fuo_near r p ring i mine =
    has (λ e. is_within_ring i ring (fuo_read_or_raised r p e.by e.verb e.answer))
    (leadership r mine)

-- in its leadership r saw `Past` at position i of p
abbrev pub has_seen_past : ℕ → ℕ → ℕ → List Event → Bool
has_seen_past r p i mine =
    has (λ e. is_past_look (look_answer r p i e.by e.verb e.answer)) (leadership r mine)

-- p is no member, or r did not see it past position i
abbrev pub is_clear : ℕ → ℕ → ℕ → List Event → Bool
is_clear r p i mine = not (is_member r p mine && has_seen_past r p i mine)

-- p is no member, or r looked at position i there since a region joined last
abbrev pub is_looked_at : ℕ → ℕ → ℕ → List Event → Bool
is_looked_at r p i mine = not (is_member r p mine) || is_some (last_look r p i mine)

-- the entry that the last look at position i of p showed, if p is a member
abbrev pub entry_shown : ℕ → ℕ → ℕ → List Event → Option (ℕ × ℕ)
entry_shown r p i mine = if is_member r p mine then entry_of (last_look r p i mine) else None

-- the step is a put of r at p in the place s
abbrev pub is_put_in_place : ℕ → ℕ → ℕ → ℕ → ℕ → Verb → Bool
is_put_in_place r p ring s by (Verb.PutSlot q j b v) = (by == r) && ((q == p) && (j % ring == s))
is_put_in_place r p ring s by _ = false

-- the time of the last put of r at p in the place s
abbrev pub put_time : ℕ → ℕ → ℕ → ℕ → List Event → ℕ
put_time r p ring s mine = last_time (λ e. is_put_in_place r p ring s e.by e.verb) mine

-- the look at the time `good` came after the joining, if there was one, and after the put
abbrev pub is_good_since : Option ℕ → ℕ → ℕ → Bool
is_good_since None put good = false
is_good_since (Some member) put good = nat_lt member good && nat_lt put good

-- what r saw at position i of p
pub record HoldsLook (c : Config) (r p i : ℕ) (mine : List Event) (look : Look) : Type 0 where
  pub made_in_time : look.made_at ≤ length mine
  pub seen :
      last_look r p i mine
      ≡ (if nat_lt (joining_time r mine) look.made_at then Some look.seen else None)
  pub past_in_time : look.past_at ≤ length mine
  pub past : has_seen_past r p i mine ≡ nat_lt (begun_time r mine) look.past_at
  pub good_in_time : look.good_at ≤ length mine
  pub good :
      has_looked_since c r p i mine
      ≡ is_good_since (member_time r p mine) (put_time r p c.ring (i % c.ring) mine) look.good_at
  pub entered :
      (s : ℕ) → last_opened r p mine ≡ Some (Target.Place s)
      → looked_before_entering c r p i mine
      ≡ (has_looked_since c r p i mine && nat_lt look.good_at (enter_time r p mine))

-- the same of every position
abbrev pub HoldsEachLook : Config → ℕ → ℕ → List Event → List Look → Type 0
HoldsEachLook c r p mine looks =
    (i : ℕ) (look : Look) → slice_get looks i ≡ Some look → HoldsLook c r p i mine look

-- the times of the last puts in the places of p
abbrev pub HoldsPuts : ℕ → ℕ → ℕ → List Event → List ℕ → Type 0
HoldsPuts ring r p mine puts =
    (s at : ℕ) → slice_get puts s ≡ Some at → at ≡ put_time r p ring s mine

-- the FUO of p that reaches farthest of those that r read or raised in its leadership
abbrev pub HoldsReach : ℕ → ℕ → List Event → Option ℕ → Type 0
HoldsReach r p mine reach =
    (i ring : ℕ) → has_fuo_near r p ring i mine ≡ is_within_ring i ring reach

-- the FUO of p that reaches farthest of all that r read or raised
abbrev pub HoldsOwnReach : ℕ → List Event → Option ℕ → Type 0
HoldsOwnReach r mine reach =
    (h : ℕ)
    → has (λ e. reaches_head h (fuo_read_or_raised r r e.by e.verb e.answer)) mine
    ≡ reaches_head h reach

-- a verb that may change what r has looked at and put at p
abbrev pub is_at : ℕ → Verb → Bool
is_at p (Verb.Ask q) = true
is_at p (Verb.Enter q t) = q == p
is_at p (Verb.PutMin q b) = q == p
is_at p (Verb.Look q i) = q == p
is_at p (Verb.PutSlot q i b v) = q == p
is_at p (Verb.Fuo q) = q == p
is_at p (Verb.RaiseFuo q u) = q == p
is_at p _ = false

-- what r has looked at and put at p
pub record StandsForRegionLooks (c : Config) (r p : ℕ) (mine : List Event)
    (state : RegionLooks) : Type 0 where
  pub region : state.region ≡ p
  pub member_since : state.member_since ≡ member_time r p mine
  pub entered_at : state.entered_at ≡ enter_time r p mine
  pub reach : HoldsReach r p mine state.reach
  pub places : length state.puts.items ≡ c.ring
  pub puts : HoldsPuts c.ring r p mine state.puts.items
  pub positions : length state.looks.items ≡ row_count c + reserve c + 1
  pub looks : HoldsEachLook c r p mine state.looks.items

-- the same of every region
abbrev pub HoldsEachRegion : Config → ℕ → List Event → List RegionLooks → Type 0
HoldsEachRegion c r mine regions =
    (p : ℕ) (looks : RegionLooks) → slice_get regions p ≡ Some looks
    → StandsForRegionLooks c r p mine looks

-- the first put of r at position i in its leadership
pub record HoldsFirst (r i : ℕ) (mine : List Event) (first : First) : Type 0 where
  pub in_time : first.put_at ≤ length mine
  pub value :
      first_value r i mine
      ≡ (if nat_lt (begun_time r mine) first.put_at then Some first.value else None)
  pub joined :
      joined_since_first_put r i mine
      ≡ (nat_lt (begun_time r mine) first.put_at && nat_lt first.put_at (joining_time r mine))

-- the same of every position
abbrev pub HoldsFirsts : ℕ → List Event → List First → Type 0
HoldsFirsts r mine firsts =
    (i : ℕ) (first : First) → slice_get firsts i ≡ Some first → HoldsFirst r i mine first

-- the state stands for the events of r
pub record StandsForLooks (c : Config) (r : ℕ) (mine : List Event) (state : Looks) : Type 0 where
  pub replica : state.replica ≡ r
  pub time : state.time ≡ length mine + 1
  pub begun_at : state.begun_at ≡ begun_time r mine
  pub joined_at : state.joined_at ≡ joining_time r mine
  pub own_reach : HoldsOwnReach r mine state.own_reach
  pub positions : length state.firsts.items ≡ row_count c + reserve c + 1
  pub firsts : HoldsFirsts r mine state.firsts.items
  pub seven : length state.regions.items ≡ 7
  pub regions : HoldsEachRegion c r mine state.regions.items

-- what a state tells: of position i
abbrev pub TellsAt : {A : Type 0} → Looks → (ℕ → ℕ → List Event → A) → ℕ → A → Type 0
TellsAt state of i answer =
    (c : Config) → (r : ℕ) → (mine : List Event) → i ≤ row_count c + reserve c
    → StandsForLooks c r mine state → answer ≡ of r i mine

-- what it tells of position i of the region p
abbrev pub TellsOf : {A : Type 0} → Looks → (ℕ → ℕ → ℕ → List Event → A) → ℕ → ℕ → A → Type 0
TellsOf state of p i answer =
    (c : Config) → (r : ℕ) → (mine : List Event) → p < 7 → i ≤ row_count c + reserve c
    → StandsForLooks c r mine state → answer ≡ of r p i mine

-- what it tells of it beside a state of the leadership
abbrev pub TellsBeside :
    {A : Type 0} → Leadership → Looks → (ℕ → ℕ → ℕ → List Event → A) → ℕ → ℕ → A → Type 0
TellsBeside leading state of p i answer =
    (c : Config) → (r : ℕ) → (mine : List Event) → p < 7 → i ≤ row_count c + reserve c
    → StandsForLeadership r mine leading → StandsForLooks c r mine state → answer ≡ of r p i mine

-- what is held of the events adds one more, at the time `at`
abbrev pub AddsAt : {A : Type 0} → ℕ → (List Event → A) → Event → A → A → Type 0
AddsAt at of e held now =
    (mine : List Event) → at ≡ length mine + 1 → held ≡ of mine → now ≡ of (e ∷ mine)

-- the state of a region takes one more event, at the time `at`
abbrev pub RegionTakes : ℕ → ℕ → Event → RegionLooks → RegionLooks → Type 0
RegionTakes r at e before after =
    (c : Config) → (p : ℕ) → (mine : List Event) → 0 < c.ring → at ≡ length mine + 1
    → StandsForRegionLooks c r p mine before → StandsForRegionLooks c r p (e ∷ mine) after

-- the states of all regions take one more event, at the time `at`
abbrev pub RegionsTake : ℕ → ℕ → Event → List RegionLooks → List RegionLooks → Type 0
RegionsTake r at e before after =
    (c : Config) → (mine : List Event) → 0 < c.ring → at ≡ length mine + 1
    → HoldsEachRegion c r mine before → HoldsEachRegion c r (e ∷ mine) after
