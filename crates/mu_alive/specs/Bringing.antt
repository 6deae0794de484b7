-- leads on, is granted, most paid, bringing steps: no leadership of a replica ends, and it keeps a
-- leader's paces; each fence of a region that it reads grants to it; what it is paid at most; and so
-- the most replication events until its members are brought up.
use Rattle.std.specs.Prelude.{List, false, is_some, length, true, ℕ, ◌*◌, ◌++◌, ◌+◌, ◌<◌, ◌∷◌, ◌≡◌, ◌≤◌}
use Rattle.mu_model.specs.declared.config.Config.{Config}
use Rattle.mu_model.specs.declared.event.Event.{Event}
use Rattle.mu_model.specs.Bounds.{stays}
use Rattle.mu_model.specs.Contents.{IsConfig, row_count}
use Rattle.mu_model.specs.Histories.{greatest}
use Rattle.mu_model.specs.Knowledge.{known}
use Rattle.mu_model.specs.Leaderships.{is_over, noted_grant, proposal_number}
use Rattle.mu_model.specs.Parts.{IsPossible}
use Rattle.mu_model.specs.Placing.{fuo_read_or_raised}
use Rattle.mu_model.specs.Room.{reserve}
use Rattle.mu_model.specs.Steps.{has_min, is_fencing, is_named}
use Rattle.mu_pace.specs.Collecting.{LeaderKeeps}
use Rattle.mu_agree.specs.Moments.{AtEachMoment, AtEachStep}
use Rattle.mu_pace.specs.Watches.{limit}

-- no leadership of a is ever over; a names itself while it has a number, and keeps a leader's paces
pub record LeadsOn (c : Config) (a : ℕ) (mine : List Event) : Type 0 where
  pub inside : a < c.replicas
  pub possible : IsPossible c a mine
  pub on : AtEachMoment (λ now. is_over a now ≡ false) mine
  pub named :
      AtEachMoment
      (λ now. is_some (proposal_number a now) ≡ true → is_named c a now ≡ true)
      mine
  pub led : AtEachStep (LeaderKeeps c a) mine

-- over the window one leadership is under way, with a minimum and a number, and each fence of p
-- that is read in it grants to a
pub record IsGranted (c : Config) (a p : ℕ) (window base : List Event) : Type 0 where
  pub inside : p < c.replicas
  pub read : has_min a base ≡ true
  pub numbered : is_some (proposal_number a base) ≡ true
  pub same : stays a window ≡ true
  pub notes :
      (newer older : List Event) (e : Event) → window ≡ newer ++ e ∷ older
      → is_fencing p e ≡ true → is_some (noted_grant a p (e ∷ (older ++ base))) ≡ true

-- what a leadership is paid at most: for each member, and for each entry that is learnt or copied
abbrev pub most_paid : Config → ℕ
most_paid c =
    6 * c.replicas + 8 * ((row_count c + reserve c) + c.replicas * (row_count c + reserve c))

-- the most replication events that a leadership takes until its members are brought up: the bound,
-- and what is paid
abbrev pub bringing_steps : Config → ℕ
bringing_steps c = limit c c.replicas + most_paid c

-- twice as many until the fence of p is read, four until it is a member, and as many until it is
-- brought up: in steps
abbrev pub joining_steps : Config → ℕ
joining_steps c = 6 * bringing_steps c + 8

-- so the FUO of p that a has read or raised then covers what a knew
abbrev pub FollowersAreBroughtUp : Type 0
FollowersAreBroughtUp =
    (c : Config) (a p l : ℕ) (window base : List Event) → IsConfig c → LeadsOn c a (window ++ base)
    → IsGranted c a p window base → l ≤ length (known c a base)
    → joining_steps c ≤ length window
    → l ≤ greatest (λ e. fuo_read_or_raised a p e.by e.verb e.answer) (window ++ base)
