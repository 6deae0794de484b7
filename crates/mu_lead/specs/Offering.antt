-- roomy, looking, writing, offering, rest, outrun: what holds at a new position, from the heads to
-- the looks and to the last put; and when nothing is due (at rest every member is level).
use Rattle.std.specs.Prelude.{Bool, List, None, Some, false, is_some, nat_lt, true, ℕ, ◌%◌, ◌*◌, ◌+◌, ◌<◌, ◌||◌, ◌≡◌, ◌≢◌, ◌≤◌}
use Rattle.std.specs.declared.option.Option.{Option}
use Rattle.mu_model.specs.declared.config.Config.{Config}
use Rattle.mu_model.specs.declared.event.Answer.{Answer}
use Rattle.mu_model.specs.declared.event.Event.{Event}
use Rattle.mu_model.specs.declared.event.Target.{Target}
use Rattle.mu_model.specs.Contents.{client_of, command_count, holds_all, is_batch, marked, number_of, rest_of, row_count}
use Rattle.mu_model.specs.Entering.{last_opened}
use Rattle.mu_model.specs.Histories.{all_below, has}
use Rattle.mu_model.specs.Knowledge.{known, lands_entry, wrote}
use Rattle.mu_model.specs.Leaderships.{has_begun, has_quorum, is_member, is_over, leadership, proposal_number}
use Rattle.mu_model.specs.Picks.{entry_of, first_value, highest_accepted, is_fresh_batch, is_past_look, last_look, look_answer, may_pick_at}
use Rattle.mu_model.specs.Placing.{looked_before_entering, has_looked_since}
use Rattle.mu_model.specs.Points.{AreMet, new_values}
use Rattle.mu_model.specs.Room.{is_mark_candidate, last_head, reserve}
use Rattle.mu_lead.specs.declared.place.Offer.{Offer}
use Rattle.mu_lead.specs.declared.place.Sight.{Sight}
use Rattle.mu_lead.specs.Confirming.{HoldsGrants, IsEnteredNow}
use Rattle.mu_lead.specs.Leading.{HaveAtMost, HaveBelow, Level, RaisedBelow, end_of}

-- a mark of q is known, or the head of q that was read last leaves room for position i and for
-- `free` more
abbrev pub leaves_room : Config → ℕ → List Event → ℕ → ℕ → ℕ → Bool
leaves_room c r mine i free q =
    marked c q (known c r mine) || nat_lt (i + free) (last_head r q mine + c.ring)

-- r may offer a mark of q
pub record IsCandidate (c : Config) (r : ℕ) (mine : List Event) (q : ℕ) : Type 0 where
  pub region : q < c.replicas
  pub other : q ≢ r
  pub version : c.version ≡ 2
  pub unmarked : marked c q (known c r mine) ≡ false
  pub stuck : is_mark_candidate c r q (end_of c r mine + reserve c) mine ≡ true

-- the replica, if there is one, may be marked
abbrev pub MayBeMarked : Config → ℕ → List Event → Option ℕ → Type 0
MayBeMarked c r mine None = Unit {0}
MayBeMarked c r mine (Some q) = IsCandidate c r mine q

-- some command isn't known, and the heads below q leave room, with the reserve if nobody is to be
-- marked
pub record Roomy (c : Config) (r : ℕ) (mine : List Event) (q : ℕ)
    (candidate : Option ℕ) : Type 0 where
  pub within : end_of c r mine < row_count c + reserve c
  pub lacks : holds_all c (known c r mine) ≡ false
  pub room : (k : ℕ) → k < q → leaves_room c r mine (end_of c r mine) 0 k ≡ true
  pub free :
      candidate ≡ None → (k : ℕ) → k < q
      → leaves_room c r mine (end_of c r mine) (reserve c) k ≡ true
  pub marks : MayBeMarked c r mine candidate

pub record AtReadHead (c : Config) (r b : ℕ) (mine : List Event) (up : List ℕ)
    (reach : List (Option ℕ)) (q : ℕ) (candidate : Option ℕ) : Type 0 where
  pub region : q < c.replicas
  pub unmarked : marked c q (known c r mine) ≡ false
  pub level : Level c r b mine up reach
  pub roomy : Roomy c r mine q candidate

-- a look of r at p in position i was past
abbrev pub has_seen_past : ℕ → ℕ → ℕ → List Event → Bool
has_seen_past r p i mine = has (λ e. is_past_look (look_answer r p i e.by e.verb e.answer)) mine

-- the look, if there is one, showed an entry
abbrev pub is_entry_look : Option Answer → Bool
is_entry_look o = is_some (entry_of o)

-- the look, if there is one, was not empty
abbrev pub is_full_look : Option Answer → Bool
is_full_look o = is_some (entry_of o) || is_past_look o

-- each look of the leadership at a member in position i was empty
abbrev pub LooksEmpty : Config → ℕ → List Event → ℕ → Type 0
LooksEmpty c r mine i =
    (p : ℕ) → p < c.replicas → is_member r p mine ≡ true
    → has (λ e. is_full_look (look_answer r p i e.by e.verb e.answer)) (leadership r mine) ≡ false

-- some look of the leadership at a member in position i showed an entry
pub record ShowsEntry (c : Config) (r : ℕ) (mine : List Event) (i : ℕ) : Type 0 where
  pub region : ℕ
  pub within : region < c.replicas
  pub member : is_member r region mine ≡ true
  pub shown :
      has (λ e. is_entry_look (look_answer r region i e.by e.verb e.answer)) (leadership r mine)
      ≡ true

-- whether the looks at position i showed an entry
abbrev pub LooksShow : Config → ℕ → List Event → ℕ → Bool → Type 0
LooksShow c r mine i true = ShowsEntry c r mine i
LooksShow c r mine i false = LooksEmpty c r mine i

-- what the looks at the member p in position i gave; if the last one is empty, all were
pub record Looked (c : Config) (r i : ℕ) (mine : List Event) (p : ℕ) : Type 0 where
  pub good : has_looked_since c r p i mine ≡ true
  pub last : is_some (last_look r p i mine) ≡ true
  pub clear : has_seen_past r p i (leadership r mine) ≡ false
  pub empty :
      entry_of (last_look r p i mine) ≡ None
      → has (λ e. is_full_look (look_answer r p i e.by e.verb e.answer)) (leadership r mine) ≡ false

-- the entry that a sight is
abbrev pub entry_in : Option Sight → Option (ℕ × ℕ)
entry_in None = None
entry_in (Some s) = Some (s.number, s.value)

-- the members below p were looked at in the next position, and showed this entry of the largest
-- number
pub record Looking (c : Config) (r b : ℕ) (mine : List Event) (up : List ℕ)
    (reach : List (Option ℕ)) (p : ℕ) (candidate : Option ℕ) (best : Option Sight) : Type 0 where
  pub level : Level c r b mine up reach
  pub roomy : Roomy c r mine c.replicas candidate
  pub looked : (q : ℕ) → q < p → is_member r q mine ≡ true → Looked c r (end_of c r mine) mine q
  pub shows : highest_accepted r (end_of c r mine) mine p ≡ entry_in best

pub record AtLook (c : Config) (r b : ℕ) (mine : List Event) (up : List ℕ) (reach : List (Option ℕ))
    (p i : ℕ) (candidate : Option ℕ) (best : Option Sight) : Type 0 where
  pub region : p < c.replicas
  pub member : is_member r p mine ≡ true
  pub position : i ≡ end_of c r mine
  pub looking : Looking c r b mine up reach p candidate best

-- row j of r begins the next batch of its client after those known
pub record IsNextBatch (c : Config) (r : ℕ) (mine : List Event) (j : ℕ) : Type 0 where
  pub batch : is_batch c (r * 4096 + j) ≡ true
  pub row : j < row_count c
  pub next : number_of c j ≡ command_count c (client_of c j) (known c r mine) + 1

-- the value may be offered: it is picked, and a batch is fresh only if the heads leave the reserve
pub record MayOffer (c : Config) (r : ℕ) (mine : List Event) (candidate : Option ℕ)
    (v : ℕ) : Type 0 where
  pub picked : may_pick_at c r mine (end_of c r mine) v ≡ true
  pub fresh : is_fresh_batch c r mine (end_of c r mine) v ≡ true → candidate ≡ None

-- the rows of r's own batch that begins with row `first` are written below row j
pub record Writing (c : Config) (r b : ℕ) (mine : List Event) (up : List ℕ)
    (reach : List (Option ℕ)) (j last : ℕ) (offer : Offer) : Type 0 where
  pub looking : Looking c r b mine up reach c.replicas None None
  pub first : ℕ
  pub value : offer.value ≡ r * 4096 + first
  pub own : offer.adopted ≡ false
  pub batch : IsNextBatch c r mine first
  pub last_row : last ≡ first + rest_of c first
  pub from : first ≤ j
  pub to : j ≤ last + 1
  pub below : (k : ℕ) → first ≤ k → k < j → all_below 12 (λ w. wrote r k w mine) ≡ true

pub record AtWrite (c : Config) (r b : ℕ) (mine : List Event) (up : List ℕ)
    (reach : List (Option ℕ)) (written : List ℕ) (j last : ℕ) (offer : Offer) : Type 0 where
  pub writing : Writing c r b mine up reach j last offer
  pub inside : j ≤ last

-- p took the value at position i under the number b in the leadership
abbrev pub took : ℕ → ℕ → ℕ → ℕ → ℕ → List Event → Bool
took r p i b v mine = has (lands_entry r p i b v) (leadership r mine)

-- the value may be put at the next position of each member; the members below p took it, and no
-- other region did
pub record Offering (c : Config) (r b v : ℕ) (mine : List Event) (up : List ℕ)
    (reach : List (Option ℕ)) (p : ℕ) : Type 0 where
  pub begun : has_begun r mine ≡ true
  pub goes_on : is_over r mine ≡ false
  pub numbered : proposal_number r mine ≡ Some b
  pub carried : has_quorum c r mine ≡ true
  pub held : HoldsGrants c r mine
  pub have : HaveBelow r mine up c.replicas (end_of c r mine)
  pub raised : RaisedBelow r mine up reach c.replicas
  pub few : HaveAtMost c r mine up (end_of c r mine)
  pub within : end_of c r mine ≤ row_count c + reserve c
  pub new : AreMet c r mine (new_values c r mine (end_of c r mine) v)
  pub below :
      (q : ℕ) → q < p → is_member r q mine ≡ true → took r q (end_of c r mine) b v mine ≡ true
  pub above : (q : ℕ) → p ≤ q → took r q (end_of c r mine) b v mine ≡ false
  pub unput : (i : ℕ) → end_of c r mine < i → first_value r i mine ≡ None

pub record AtEnter (c : Config) (r b v : ℕ) (mine : List Event) (up : List ℕ)
    (reach : List (Option ℕ)) (p : ℕ) : Type 0 where
  pub region : p < c.replicas
  pub member : is_member r p mine ≡ true
  pub offering : Offering c r b v mine up reach p
  pub looked :
      (q : ℕ) → p ≤ q → q < c.replicas → is_member r q mine ≡ true
      → has_looked_since c r q (end_of c r mine) mine ≡ true

pub record AtPut (c : Config) (r b v : ℕ) (mine : List Event) (up : List ℕ)
    (reach : List (Option ℕ)) (p : ℕ) : Type 0 where
  pub entering : AtEnter c r b v mine up reach p
  pub entered : last_opened r p mine ≡ Some (Target.Place (end_of c r mine % c.ring))
  pub under : IsEnteredNow r p mine
  pub looked_before : looked_before_entering c r p (end_of c r mine) mine ≡ true

-- nothing is due: all commands are known, and every region is a member
pub record AtRest (c : Config) (r : ℕ) (mine : List Event) : Type 0 where
  pub all : holds_all c (known c r mine) ≡ true
  pub members : (p : ℕ) → p < c.replicas → is_member r p mine ≡ true

-- nothing is due: a look at a member in the next position was past
pub record AtOutrun (c : Config) (r : ℕ) (mine : List Event) : Type 0 where
  pub region : ℕ
  pub within : region < c.replicas
  pub member : is_member r region mine ≡ true
  pub past : has_seen_past r region (end_of c r mine) mine ≡ true
