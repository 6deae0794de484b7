-- fresh, telling, numbered, joined: what holds while a leader asks, reads fences and minima, and
-- puts its number.
use Rattle.std.specs.Prelude.{List, None, Some, false, is_some, true, ℕ, ◌++◌, ◌-◌, ◌<◌, ◌∷◌, ◌≡◌, ◌≤◌, ◌⊎◌}
use Rattle.mu_model.specs.declared.config.Config.{Config}
use Rattle.mu_model.specs.declared.event.Event.{Event}
use Rattle.mu_model.specs.declared.event.Target.{Target}
use Rattle.mu_model.specs.Points.{last_ask}
use Rattle.mu_model.specs.Entering.{any_min_read, has_read_min, number_allowed, open_target}
use Rattle.mu_model.specs.Histories.{count_below, greatest, newest}
use Rattle.mu_model.specs.Leaderships.{grant_at_joining, has_begun, is_member, is_over, leadership, majority_of, noted_grant, proposal_number}
use Rattle.mu_model.specs.Picks.{first_value}
use Rattle.mu_model.specs.Steps.{is_missed_at}
use Rattle.mu_agree.specs.Possible.{entered_under}
use Rattle.mu_agree.specs.Moments.{last_min}

-- the greatest minimum that r read in its leadership
abbrev pub greatest_min : ℕ → List Event → ℕ
greatest_min r mine = greatest (λ e. any_min_read r e.by e.verb e.answer) (leadership r mine)

-- a leadership in which nothing was put
pub record Fresh (r : ℕ) (mine : List Event) : Type 0 where
  pub begun : has_begun r mine ≡ true
  pub goes_on : is_over r mine ≡ false
  pub unnumbered : proposal_number r mine ≡ None
  pub alone : (p : ℕ) → is_member r p mine ≡ false
  pub unput : (i : ℕ) → first_value r i mine ≡ None

-- the noted regions are a majority with r
pub record Confirmed (c : Config) (r : ℕ) (mine : List Event) : Type 0 where
  pub own : is_some (noted_grant r r mine) ≡ true
  pub many : majority_of c.replicas ≤ count_below c.replicas (λ p. is_some (noted_grant r p mine))

-- the noted regions below p told their minimum
pub record Telling (c : Config) (r : ℕ) (mine : List Event) (p : ℕ) : Type 0 where
  pub fresh : Fresh r mine
  pub confirmed : Confirmed c r mine
  pub told : (q : ℕ) → q < p → is_some (noted_grant r q mine) ≡ true → has_read_min r q mine ≡ true
  pub low :
      (q : ℕ) → q < p → is_some (noted_grant r q mine) ≡ true
      → last_min r q mine ≤ greatest_min r mine

-- the number b was picked above all that was read
pub record Numbered (c : Config) (r b : ℕ) (mine : List Event) : Type 0 where
  pub begun : has_begun r mine ≡ true
  pub goes_on : is_over r mine ≡ false
  pub allowed : number_allowed r mine b (proposal_number r mine)
  pub confirmed : Confirmed c r mine
  pub told :
      (p : ℕ) → p < c.replicas → is_some (noted_grant r p mine) ≡ true
      → has_read_min r p mine ≡ true
  pub low : (p : ℕ) → p < c.replicas → is_some (noted_grant r p mine) ≡ true → last_min r p mine ≤ b
  pub unput : (i : ℕ) → first_value r i mine ≡ None

-- a grant of p is noted, and was at its joining
pub record HasGrant (r p : ℕ) (mine : List Event) : Type 0 where
  pub grant : ℕ
  pub noted : noted_grant r p mine ≡ Some grant
  pub joined : grant_at_joining r p mine ≡ Some (Some grant)

-- each member has the grant that was noted at its joining
abbrev pub HoldsGrants : Config → ℕ → List Event → Type 0
HoldsGrants c r mine = (p : ℕ) → p < c.replicas → is_member r p mine ≡ true → HasGrant r p mine

-- the members are noted regions, under the grants noted at their joining; of the noted regions
-- below p all are members
pub record JoinedBelow (c : Config) (r : ℕ) (mine : List Event) (p : ℕ) : Type 0 where
  pub joined : (q : ℕ) → q < p → is_some (noted_grant r q mine) ≡ true → is_member r q mine ≡ true
  pub held : HoldsGrants c r mine

pub record AtAsk (c : Config) (r : ℕ) (mine : List Event) (p : ℕ) : Type 0 where
  pub region : p < c.replicas
  pub asked : (p ≡ 0) ⊎ ((newest (λ e. last_ask r e.by e.verb) mine ≡ Some (p - 1)) × Fresh r mine)

pub record AtConfirm (c : Config) (r : ℕ) (mine : List Event) (p : ℕ) : Type 0 where
  pub region : p < c.replicas
  pub fresh : Fresh r mine

pub record AtReadMin (c : Config) (r : ℕ) (mine : List Event) (p : ℕ) : Type 0 where
  pub region : p < c.replicas
  pub granted : is_some (noted_grant r p mine) ≡ true
  pub telling : Telling c r mine p

pub record AtEnterMin (c : Config) (r b : ℕ) (mine : List Event) (p : ℕ) : Type 0 where
  pub region : p < c.replicas
  pub granted : is_some (noted_grant r p mine) ≡ true
  pub numbered : Numbered c r b mine
  pub below : JoinedBelow c r mine p

-- r entered p last under the grant that is noted
abbrev pub IsEnteredNow : ℕ → ℕ → List Event → Type 0
IsEnteredNow r p mine = entered_under r p mine ≡ noted_grant r p mine

pub record AtPutMin (c : Config) (r b : ℕ) (mine : List Event) (p : ℕ) : Type 0 where
  pub entering : AtEnterMin c r b mine p
  pub entered : open_target r p mine ≡ Some Target.Min
  pub under : IsEnteredNow r p mine

-- a put at p missed, and the grant under which r had entered it is still the noted one
pub record Missed (r : ℕ) (mine : List Event) (p : ℕ) : Type 0 where
  pub since : List Event
  pub put : Event
  pub before : List Event
  pub is : mine ≡ since ++ put ∷ before
  pub missed : is_missed_at p put ≡ true
  pub under : entered_under r p before ≡ noted_grant r p mine

-- a leadership is under way, and a put at the region p missed
pub record AtEvidence (c : Config) (r : ℕ) (mine : List Event) (p : ℕ) : Type 0 where
  pub region : p < c.replicas
  pub begun : has_begun r mine ≡ true
  pub missed : Missed r mine p
