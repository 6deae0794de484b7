-- agreement: at most one value is chosen for each position; known lists are prefixes of one
-- another; FUOs and looks keep what they promise.
use Rattle.std.specs.Prelude.{Bool, List, None, Some, [], if◌then◌else◌, length, max, min, true, ℕ, ◌&&◌, ◌++◌, ◌+◌, ◌<◌, ◌==◌, ◌∷◌, ◌≡◌, ◌≢◌, ◌≤◌, ◌⊎◌}
use Rattle.std.specs.declared.option.Option.{Option}
use Rattle.std.specs.List.{slice_get}
use Rattle.mu_model.specs.declared.config.Config.{Config}
use Rattle.mu_model.specs.declared.event.Answer.{Answer}
use Rattle.mu_model.specs.declared.event.Event.{Event}
use Rattle.mu_model.specs.declared.event.Verb.{Verb}
use Rattle.mu_model.specs.Answers.{answer_of}
use Rattle.mu_model.specs.Chosen.{IsChosen}
use Rattle.mu_model.specs.Contents.{IsConfig, is_mark}
use Rattle.mu_model.specs.Entering.{grant_seen}
use Rattle.mu_model.specs.Histories.{greatest, has, history, part, IsPrefixOf}
use Rattle.mu_model.specs.Knowledge.{fuo_read, known}
use Rattle.mu_model.specs.Leaderships.{leadership}
use Rattle.mu_model.specs.Legal.{IsLegal}
use Rattle.mu_model.specs.Regions.{fence_grant, fence_owner, region_fuo, region_head, region_log}
use Rattle.mu_model.specs.Scores.{is_failed}

-- at most one value is chosen at a position
abbrev pub AtMostOneChosen : Type 0
AtMostOneChosen =
    (c : Config) (events : List Event) (i v w : ℕ) → IsLegal c events
    → IsChosen c (history events) i v → IsChosen c (history events) i w → v ≡ w

-- each known entry is chosen
abbrev pub KnownIsChosen : Type 0
KnownIsChosen =
    (c : Config) (events : List Event) (r i v : ℕ) → IsLegal c events
    → slice_get (known c r (part r (history events))) i ≡ Some v → IsChosen c (history events) i v

-- below the FUO of a region its log has chosen values
abbrev pub FuoIsChosen : Type 0
FuoIsChosen =
    (c : Config) (events : List Event) (p i : ℕ) (entry : ℕ × ℕ) → IsLegal c events
    → i < region_fuo p (history events) → slice_get (region_log p (history events)) i ≡ Some entry
    → IsChosen c (history events) i entry.1

-- of any two known lists one is a prefix of the other
abbrev pub KnownAgree : Type 0
KnownAgree =
    (c : Config) (events : List Event) (r s : ℕ) → IsLegal c events
    → IsPrefixOf (known c r (part r (history events))) (known c s (part s (history events)))
    ⊎ IsPrefixOf (known c s (part s (history events))) (known c r (part r (history events)))

-- below the FUO of a region its log holds the chosen value, now and after every legal continuation
abbrev pub FuoIsKept : Type 0
FuoIsKept =
    (c : Config) (earlier later : List Event) (p i : ℕ) → IsLegal c (earlier ++ later)
    → i < region_fuo p (history earlier)
    → (n : ℕ)
    × ((v : ℕ)
    × ((slice_get (region_log p (history (earlier ++ later))) i ≡ Some (n, v))
    × IsChosen c (history earlier) i v))

-- a mark of q is chosen
pub record IsMarked (c : Config) (q : ℕ) (past : List Event) : Type 0 where
  pub position : ℕ
  pub value : ℕ
  pub chosen : IsChosen c past position value
  pub mark : is_mark c q value ≡ true

-- at some moment another replica held q to be failed
pub record WasHeldFailed (c : Config) (q : ℕ) (past : List Event) : Type 0 where
  pub newer : List Event
  pub older : List Event
  pub is : past ≡ newer ++ older
  pub by : ℕ
  pub inside : by < c.replicas
  pub other : by ≢ q
  pub failed : is_failed by q (part by older) ≡ true

-- a mark of q is chosen only after another replica held q to be failed
abbrev pub MarksHaveCause : Type 0
MarksHaveCause =
    (c : Config) (events : List Event) (q : ℕ) → IsConfig c → IsLegal c events
    → IsMarked c q (history events) → WasHeldFailed c q (history events)

-- the head of a replica is at most the FUO of its region
abbrev pub HeadWithinFuo : Type 0
HeadWithinFuo =
    (c : Config) (events : List Event) (r : ℕ) → IsLegal c events
    → region_head r (history events) ≤ region_fuo r (history events)

-- a look by r at a position that it still has to read is `Past` only if a mark of r is chosen
abbrev pub LooksAreKept : Type 0
LooksAreKept =
    (c : Config) (earlier later : List Event) (e : Event) (p i : ℕ)
    → IsLegal c (earlier ++ e ∷ later) → e.verb ≡ Verb.Look p i → e.answer ≡ Answer.Past
    → (region_head e.by (history earlier) ≤ i) ⊎
    (length (known c e.by (part e.by (history earlier))) ≤ i)
    → IsMarked c e.by (history earlier)

-- the same of a look that isn't made
abbrev pub PlacesAreKept : Type 0
PlacesAreKept =
    (c : Config) (events : List Event) (r p i : ℕ) → IsLegal c events → r < c.replicas
    → region_head r (history events) ≤ i
    → answer_of c r (history events) (Verb.Look p i) ≡ Answer.Past → IsMarked c r (history events)

-- a log is never longer than its FUO and the ring
abbrev pub LogWithinFuo : Type 0
LogWithinFuo =
    (c : Config) (events : List Event) (p : ℕ) → IsLegal c events → p < c.replicas
    → length (region_log p (history events)) ≤ region_fuo p (history events) + c.ring

-- the answer, if the test holds
abbrev pub kept_if : Bool → Option ℕ → Option ℕ
kept_if t None = None
kept_if t (Some x) = if t then Some x else None

-- the lesser of two offsets, if there are any
abbrev pub lesser_or : Option ℕ → Option ℕ → Option ℕ
lesser_or None rest = rest
lesser_or (Some x) None = Some x
lesser_or (Some x) (Some y) = Some (min x y)

-- the least `Fuo(p)` answer of r after a `Fence(p)` answer with the grant g
abbrev pub fuo_under : ℕ → ℕ → ℕ → List Event → Option ℕ
fuo_under r p g [] = None
fuo_under r p g (e ∷ past) =
    lesser_or
    (kept_if (has (λ f. grant_seen r p g f.by f.verb f.answer) past)
    (fuo_read r p e.by e.verb e.answer))
    (fuo_under r p g past)

-- one more than the position of a put of r that landed at p
abbrev pub end_put : ℕ → ℕ → ℕ → Verb → Answer → Option ℕ
end_put r p by (Verb.PutSlot q j b v) Answer.Done =
    if (by == r) && (q == p) then Some (j + 1) else None
end_put r p by _ _ = None

-- one more than the greatest position of p at which a put of r landed
abbrev pub put_end : ℕ → ℕ → List Event → ℕ
put_end r p past = greatest (λ e. end_put r p e.by e.verb e.answer) past

-- while r owns p under the grant with which it read the FUO, the log reaches no further than the
-- ring beyond the least FUO that it read so, or r's own puts
abbrev pub LogWithinReach : Type 0
LogWithinReach =
    (c : Config) (events : List Event) (r p g u : ℕ) → IsLegal c events → p < c.replicas
    → g ≡ fence_grant p (history events) → fence_owner p (history events) ≡ Some r
    → fuo_under r p g (leadership r (history events)) ≡ Some u
    → length (region_log p (history events))
    ≤ max (u + c.ring) (put_end r p (leadership r (history events)))
