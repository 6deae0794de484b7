-- tables, leads, level, behind, late: how far each region has what is known, and what holds while
-- members and late followers are brought up.
use Rattle.std.specs.Prelude.{Bool, List, None, Some, [], false, get_or, is_some, length, nat_lt, not, true, ℕ, ◌%◌, ◌&&◌, ◌++◌, ◌+◌, ◌<◌, ◌==◌, ◌||◌, ◌∷◌, ◌≡◌, ◌≢◌, ◌≤◌}
use Rattle.std.specs.declared.option.Option.{Option}
use Rattle.mu_model.specs.declared.config.Config.{Config}
use Rattle.mu_model.specs.declared.event.Answer.{Answer}
use Rattle.mu_model.specs.declared.event.Event.{Event}
use Rattle.mu_model.specs.declared.event.Target.{Target}
use Rattle.mu_model.specs.declared.event.Verb.{Verb}
use Rattle.mu_model.specs.Bounds.{is_at_most}
use Rattle.mu_model.specs.Contents.{row_count}
use Rattle.mu_model.specs.Entering.{has_read_min, last_opened, open_target}
use Rattle.mu_model.specs.Histories.{has}
use Rattle.mu_model.specs.Knowledge.{is_filled, known, wrote}
use Rattle.mu_model.specs.Leaderships.{begins_leadership, grant_at_joining, has_begun, has_quorum, is_member, is_over, leadership, noted_grant, proposal_number}
use Rattle.mu_model.specs.Picks.{first_value}
use Rattle.mu_model.specs.Placing.{fuo_read_or_raised, is_caught_up_at, is_within_ring, looked_before_entering, reaches_head, has_looked_since}
use Rattle.mu_model.specs.Room.{last_head, reserve}
use Rattle.mu_agree.specs.Agreement.{fuo_under, put_end}
use Rattle.mu_knowledge.specs.Offers.{IsFirst}
use Rattle.mu_leadership.specs.Leadership.{StandsForLeadership}
use Rattle.mu_leadership.specs.declared.leadership.Leadership.{Leadership}
use Rattle.mu_lead.specs.declared.place.Then.{Then}
use Rattle.mu_lead.specs.Confirming.{HoldsGrants, IsEnteredNow}
use Rattle.mu_agree.specs.Moments.{last_min}

-- the greatest number of replicas: each table of regions has as many places
abbrev pub most_replicas : ℕ
most_replicas = 7

-- the region is the first from `from` on, below n, that passes the test on the leader's events
abbrev pub FindsRegion :
    Leadership → (ℕ → List Event → ℕ → Bool) → ℕ → ℕ → Option ℕ → Type 0
FindsRegion leading test from n found =
    (r : ℕ) → (mine : List Event) → n ≤ 7 → StandsForLeadership r mine leading
    → IsFirst (test r mine) from n found

-- the first position that r does not know
abbrev pub end_of : Config → ℕ → List Event → ℕ
end_of c r mine = length (known c r mine)

-- the region p has what is known below u, and r knows that it is filled
pub record Brought (c : Config) (r : ℕ) (mine : List Event) (p u : ℕ) : Type 0 where
  pub caught_up : (j : ℕ) → j < u → is_caught_up_at c r p mine j ≡ true
  pub filled : (j : ℕ) → j < u → is_filled c r p mine j ≡ true

-- whatever position the FUO, if there is one, reaches, one that was read or raised of p in the
-- leadership reaches it too
abbrev pub IsReached : ℕ → List Event → ℕ → Option ℕ → Type 0
IsReached r mine p reach =
    (i ring : ℕ) → is_within_ring i ring reach ≡ true
    → has (λ e. is_within_ring i ring (fuo_read_or_raised r p e.by e.verb e.answer))
    (leadership r mine)
    ≡ true

-- what a leader keeps of regions and rows: up to which position each has what is known, its FUO,
-- the heads read last, and how many words of each row of its own are written
pub record HoldsTables (c : Config) (r : ℕ) (mine : List Event) (up : List ℕ)
    (reach : List (Option ℕ)) (heads written : List ℕ) : Type 0 where
  pub ups : length up ≡ most_replicas
  pub reaches : length reach ≡ most_replicas
  pub all_heads : length heads ≡ most_replicas
  pub rows : length written ≡ row_count c
  pub brought : (p : ℕ) → Brought c r mine p (get_or up p 0)
  pub within : (p : ℕ) → get_or up p 0 ≤ row_count c + reserve c + 1
  pub reached : (p : ℕ) → IsReached r mine p (get_or reach p None)
  pub read : (q : ℕ) → get_or heads q 0 ≤ last_head r q mine
  pub words :
      (j k : ℕ) → j < row_count c → k < 12 → wrote r j k mine ≡ nat_lt k (get_or written j 0)

-- members carry the leadership, which is not over, under the number b; nothing was put at what is
-- not known
pub record Leads (c : Config) (r b : ℕ) (mine : List Event) : Type 0 where
  pub begun : has_begun r mine ≡ true
  pub goes_on : is_over r mine ≡ false
  pub numbered : proposal_number r mine ≡ Some b
  pub carried : has_quorum c r mine ≡ true
  pub held : HoldsGrants c r mine
  pub unput : (i : ℕ) → end_of c r mine ≤ i → first_value r i mine ≡ None

-- the FUO of p is read or raised as far as p has what is known
abbrev pub IsRaised : List ℕ → List (Option ℕ) → ℕ → Type 0
IsRaised up reach p = reaches_head (get_or up p 0) (get_or reach p None) ≡ true

-- a FUO of p that was read under the noted grant is at most u
abbrev pub IsRead : ℕ → List Event → ℕ → ℕ → Type 0
IsRead r mine p u =
    (g : ℕ) → noted_grant r p mine ≡ Some g
    → is_at_most u (fuo_under r p g (leadership r mine)) ≡ true

-- the FUOs of the members below p were read, none above what the member has
abbrev pub ReadBelow : ℕ → List Event → List ℕ → ℕ → Type 0
ReadBelow r mine up p =
    (q : ℕ) → q < p → is_member r q mine ≡ true → IsRead r mine q (get_or up q 0)

-- the FUOs of the members below p were read, and are raised
abbrev pub RaisedBelow : ℕ → List Event → List ℕ → List (Option ℕ) → ℕ → Type 0
RaisedBelow r mine up reach p =
    (q : ℕ) → q < p → is_member r q mine ≡ true
    → IsRaised up reach q × IsRead r mine q (get_or up q 0)

-- the step of r reads a FUO
abbrev pub is_fuo_of : ℕ → ℕ → Verb → Bool
is_fuo_of r by (Verb.Fuo p) = by == r
is_fuo_of r by _ = false

-- p is a late follower: r read a FUO under the number of its leadership when p was no member
abbrev pub came_late : ℕ → ℕ → List Event → Bool
came_late r p [] = false
came_late r p (e ∷ past) =
    not (begins_leadership r e)
    && ((is_fuo_of r e.by e.verb && (is_some (proposal_number r past) && not (is_member r p past)))
    || came_late r p past)

-- r put no entry in its leadership
abbrev pub HasPutNone : ℕ → List Event → Type 0
HasPutNone r mine = (i : ℕ) → first_value r i mine ≡ None

-- the step of r puts an entry at position j of p
abbrev pub is_put_at : ℕ → ℕ → ℕ → ℕ → Verb → Bool
is_put_at r p j by (Verb.PutSlot q i b v) = (by == r) && ((q == p) && (i == j))
is_put_at r p j by _ = false

-- r put no entry in its leadership at a member beyond what the member has
abbrev pub IsClear : ℕ → List Event → List ℕ → Type 0
IsClear r mine up =
    (q j : ℕ) → is_member r q mine ≡ true → get_or up q 0 ≤ j
    → has (λ e. is_put_at r q j e.by e.verb) (leadership r mine) ≡ false

-- the members below p have all below u
abbrev pub HaveBelow : ℕ → List Event → List ℕ → ℕ → ℕ → Type 0
HaveBelow r mine up p u = (q : ℕ) → q < p → is_member r q mine ≡ true → u ≤ get_or up q 0

-- no member has more than what is below u
abbrev pub HaveAtMost : Config → ℕ → List Event → List ℕ → ℕ → Type 0
HaveAtMost c r mine up u =
    (q : ℕ) → q < c.replicas → is_member r q mine ≡ true → get_or up q 0 ≤ u

-- every member has what is known and no more, and its FUO
pub record Level (c : Config) (r b : ℕ) (mine : List Event) (up : List ℕ)
    (reach : List (Option ℕ)) : Type 0 where
  pub leads : Leads c r b mine
  pub have : HaveBelow r mine up c.replicas (end_of c r mine)
  pub raised : RaisedBelow r mine up reach c.replicas
  pub few : HaveAtMost c r mine up (end_of c r mine)

-- among the members below p the region, if there is one, has the most; if there is none, no member
-- is below p
abbrev pub HasMost : ℕ → List Event → List ℕ → ℕ → Option ℕ → Type 0
HasMost r mine up p None = (q : ℕ) → q < p → is_member r q mine ≡ false
HasMost r mine up p (Some s) =
    (s < p)
    × ((q : ℕ) → q < p → is_member r q mine ≡ true → get_or up q 0 ≤ get_or up s 0)

-- the region, if there is one, is a member
abbrev pub IsMember : Config → ℕ → List Event → Option ℕ → Type 0
IsMember c r mine None = Unit {0}
IsMember c r mine (Some q) = (q < c.replicas) × (is_member r q mine ≡ true)

pub record AtReadFuo (c : Config) (r b : ℕ) (mine : List Event) (up : List ℕ)
    (reach : List (Option ℕ)) (p : ℕ) (source : Option ℕ) : Type 0 where
  pub region : p < c.replicas
  pub member : is_member r p mine ≡ true
  pub leads : Leads c r b mine
  pub raised : RaisedBelow r mine up reach p
  pub unput : HasPutNone r mine
  pub from : IsMember c r mine source
  pub few : HasMost r mine up p source

pub record AtLearn (c : Config) (r b : ℕ) (mine : List Event) (up : List ℕ)
    (reach : List (Option ℕ)) (p : ℕ) : Type 0 where
  pub region : p < c.replicas
  pub member : is_member r p mine ≡ true
  pub leads : Leads c r b mine
  pub raised : RaisedBelow r mine up reach c.replicas
  pub unput : HasPutNone r mine
  pub lacks : end_of c r mine < get_or up p 0
  pub few : HaveAtMost c r mine up (get_or up p 0)

-- the member q has what is known, if that has to be so before p is brought up
abbrev pub IsDone : Then → ℕ → ℕ → Type 0
IsDone Then.Joined q p = Unit {0}
IsDone _ q p = q < p

-- members are brought up at one position, and q is at or after p
abbrev pub IsLeft : Then → ℕ → ℕ → Type 0
IsLeft Then.Position p q = p ≤ q
IsLeft _ p q = ⊥

-- no member has more than what is known, and those that are left don't have all of it
abbrev pub HaveFew : Config → ℕ → List Event → List ℕ → Then → ℕ → Type 0
HaveFew c r mine up then p =
    (q : ℕ) → q < c.replicas → is_member r q mine ≡ true
    → (get_or up q 0 ≤ end_of c r mine) × (IsLeft then p q → get_or up q 0 < end_of c r mine)

-- the member p is brought up
pub record Behind (c : Config) (r b : ℕ) (mine : List Event) (up : List ℕ) (reach : List (Option ℕ))
    (p : ℕ) (then : Then) : Type 0 where
  pub region : p < c.replicas
  pub member : is_member r p mine ≡ true
  pub leads : Leads c r b mine
  pub raised : (q : ℕ) → q < c.replicas → q ≢ p → is_member r q mine ≡ true → IsRaised up reach q
  pub read : ReadBelow r mine up c.replicas
  pub clear : IsClear r mine up
  pub have :
      (q : ℕ) → q < c.replicas → q ≢ p → is_member r q mine ≡ true → IsDone then q p
      → end_of c r mine ≤ get_or up q 0
  pub few : HaveFew c r mine up then (p + 1)
  pub late : then ≡ Then.Joined → came_late r p mine ≡ true

-- it lacks an entry
pub record AtWiden (c : Config) (r b : ℕ) (mine : List Event) (up : List ℕ)
    (reach : List (Option ℕ)) (p : ℕ) (then : Then) : Type 0 where
  pub behind : Behind c r b mine up reach p then
  pub lacks : get_or up p 0 < end_of c r mine

-- a FUO of p that was read or raised reaches what it lacks
pub record Near (c : Config) (r b : ℕ) (mine : List Event) (up : List ℕ) (reach : List (Option ℕ))
    (p : ℕ) (then : Then) : Type 0 where
  pub behind : Behind c r b mine up reach p then
  pub lacks : get_or up p 0 < end_of c r mine
  pub near : c.version ≡ 2 → is_within_ring (get_or up p 0) c.ring (get_or reach p None) ≡ true

pub record AtEnterBehind (c : Config) (r b : ℕ) (mine : List Event) (up : List ℕ)
    (reach : List (Option ℕ)) (p : ℕ) (then : Then) : Type 0 where
  pub near : Near c r b mine up reach p then
  pub looked : has_looked_since c r p (get_or up p 0) mine ≡ true

pub record AtPutBehind (c : Config) (r b : ℕ) (mine : List Event) (up : List ℕ)
    (reach : List (Option ℕ)) (p : ℕ) (then : Then) : Type 0 where
  pub near : Near c r b mine up reach p then
  pub entered : last_opened r p mine ≡ Some (Target.Place (get_or up p 0 % c.ring))
  pub under : IsEnteredNow r p mine
  pub looked : looked_before_entering c r p (get_or up p 0) mine ≡ true

-- r saw p past at position i; it had noted p and read its FUO, and had put no entry there from i on
pub record SawPast (r : ℕ) (mine : List Event) (p i : ℕ) : Type 0 where
  pub since : List Event
  pub before : List Event
  pub is :
      mine
      ≡ since ++ record { by = r; verb = Verb.Look p i; answer = Answer.Past } ∷ before
  pub grant : ℕ
  pub noted : noted_grant r p before ≡ Some grant
  pub joined : grant_at_joining r p mine ≡ Some (Some grant)
  pub read : is_at_most i (fuo_under r p grant (leadership r before)) ≡ true
  pub puts : put_end r p (leadership r before) ≤ i

-- a look found what p lacks overwritten
pub record AtFenceBehind (c : Config) (r b : ℕ) (mine : List Event) (up : List ℕ)
    (reach : List (Option ℕ)) (p : ℕ) (then : Then) : Type 0 where
  pub near : Near c r b mine up reach p then
  pub past : SawPast r mine p (get_or up p 0)

-- p has all that is known
pub record AtRaiseBehind (c : Config) (r b : ℕ) (mine : List Event) (up : List ℕ)
    (reach : List (Option ℕ)) (p : ℕ) (then : Then) : Type 0 where
  pub behind : Behind c r b mine up reach p then
  pub done : get_or up p 0 ≡ end_of c r mine

-- p is no member, and every member has what is known
pub record Late (c : Config) (r b : ℕ) (mine : List Event) (up : List ℕ) (reach : List (Option ℕ))
    (p : ℕ) : Type 0 where
  pub region : p < c.replicas
  pub stranger : is_member r p mine ≡ false
  pub level : Level c r b mine up reach

pub record AtLateMin (c : Config) (r b : ℕ) (mine : List Event) (up : List ℕ)
    (reach : List (Option ℕ)) (p : ℕ) : Type 0 where
  pub late : Late c r b mine up reach p
  pub granted : is_some (noted_grant r p mine) ≡ true

pub record AtLateFuo (c : Config) (r b : ℕ) (mine : List Event) (up : List ℕ)
    (reach : List (Option ℕ)) (p : ℕ) : Type 0 where
  pub late : Late c r b mine up reach p
  pub granted : is_some (noted_grant r p mine) ≡ true
  pub told : has_read_min r p mine ≡ true
  pub low : last_min r p mine ≤ b

pub record AtLateEnter (c : Config) (r b : ℕ) (mine : List Event) (up : List ℕ)
    (reach : List (Option ℕ)) (p : ℕ) : Type 0 where
  pub told : AtLateFuo c r b mine up reach p
  pub short : get_or up p 0 ≤ end_of c r mine
  pub raised : IsRaised up reach p
  pub read : IsRead r mine p (get_or up p 0)
  pub late : came_late r p mine ≡ true

pub record AtLatePut (c : Config) (r b : ℕ) (mine : List Event) (up : List ℕ)
    (reach : List (Option ℕ)) (p : ℕ) : Type 0 where
  pub entering : AtLateEnter c r b mine up reach p
  pub entered : open_target r p mine ≡ Some Target.Min
  pub under : IsEnteredNow r p mine

-- what was committed is raised at the members below p
pub record AtRaise (c : Config) (r b : ℕ) (mine : List Event) (up : List ℕ)
    (reach : List (Option ℕ)) (p : ℕ) : Type 0 where
  pub region : p < c.replicas
  pub member : is_member r p mine ≡ true
  pub leads : Leads c r b mine
  pub have : (q : ℕ) → q < c.replicas → is_member r q mine ≡ true → get_or up q 0 ≡ end_of c r mine
  pub raised : RaisedBelow r mine up reach p
  pub read : ReadBelow r mine up c.replicas
