-- may go on, may bring up: the counts have room wherever the listing goes after a pass over the
-- regions, and at the first steps of bringing one up.
use Rattle.std.specs.Prelude.{List, None, Some, get_or, nat_lt, not, true, ℕ, ◌&&◌, ◌≡◌}
use Rattle.std.specs.declared.option.Option.{Option}
use Rattle.mu_model.specs.declared.config.Config.{Config}
use Rattle.mu_model.specs.declared.event.Event.{Event}
use Rattle.mu_model.specs.Contents.{holds_all}
use Rattle.mu_model.specs.Knowledge.{known}
use Rattle.mu_model.specs.Leaderships.{is_member}
use Rattle.mu_pace.specs.Weights.{AtRoom, Bringing, Stage, is_first}
use Rattle.mu_lead.specs.declared.place.Then.{Then}
use Rattle.mu_lead.specs.Leading.{end_of}
use Rattle.mu_lively.specs.Rooms.{IsLed, lag_of, sizes_of}
use Rattle.mu_knowledge.specs.Offers.{IsFirst}

-- the first region from p on that isn't a member
abbrev pub IsNextStranger : Config → ℕ → List Event → ℕ → Option ℕ → Type 0
IsNextStranger c r mine p q = IsFirst (λ k. not (is_member r k mine)) p c.replicas q

-- the first member from p on that is behind
abbrev pub IsNextBehind : Config → ℕ → List Event → List ℕ → ℕ → Option ℕ → Type 0
IsNextBehind c r mine up p q =
    IsFirst (λ k. is_member r k mine && nat_lt (get_or up k 0) (end_of c r mine)) p c.replicas q

-- the counts have room wherever the listing goes once the regions below p were gone through: to the
-- next late follower, to the first one again if all commands are known, or to heads, looks or rest
pub record MayGoOn (c : Config) (r : ℕ) (mine : List Event) (p : ℕ) : Type 0 where
  pub asks :
      (q : ℕ) → IsNextStranger c r mine p (Some q) → IsLed c r mine (Stage.LateFence q)
  pub again :
      (q : ℕ) → IsNextStranger c r mine p None → IsNextStranger c r mine 0 (Some q)
      → holds_all c (known c r mine) ≡ true → IsLed c r mine (Stage.LateFence q)
  pub beyond :
      (t : Stage) → IsNextStranger c r mine p None → AtRoom (sizes_of c r mine) t
      → IsLed c r mine t

-- they have room at the first steps of bringing up p
abbrev pub MayBringUp : Config → ℕ → List Event → ℕ → Then → Type 0
MayBringUp c r mine p then =
    (b : Bringing) → is_first b ≡ true → IsLed c r mine (Stage.Bring (lag_of c r mine p then) b)

-- the regions that aren't asked after once members were brought up: all of them, if each member was
-- brought up at one position
abbrev pub passed_over : Config → Then → ℕ
passed_over c Then.Late = 0
passed_over c _ = c.replicas
