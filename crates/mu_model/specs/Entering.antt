-- entering: when a replica may enter a region, and when it may put its minimum.
use Rattle.std.specs.Prelude.{Bool, List, None, Some, [], false, if◌then◌else◌, is_some, nat_le, ℕ, ◌%◌, ◌&&◌, ◌<◌, ◌==◌, ◌||◌, ◌∷◌, ◌≡◌, ◌≤◌}
use Rattle.std.specs.declared.option.Option.{Option}
use Rattle.mu_model.specs.declared.config.Config.{Config}
use Rattle.mu_model.specs.declared.event.Answer.{Answer}
use Rattle.mu_model.specs.declared.event.Event.{Event}
use Rattle.mu_model.specs.declared.event.Target.{Target}
use Rattle.mu_model.specs.declared.event.Verb.{Verb}
use Rattle.mu_model.specs.Histories.{count_below, greatest, has, newest}
use Rattle.mu_model.specs.Leaderships.{leadership, majority_of, noted_grant, number_put}

-- the answer of a `Min(p)` of r
abbrev pub min_read : ℕ → ℕ → ℕ → Verb → Answer → Option ℕ
min_read r p by (Verb.Min q) (Answer.Number x) = if (by == r) && (q == p) then Some x else None
min_read r p by _ _ = None

-- the answer of a `Min` of r at any region
abbrev pub any_min_read : ℕ → ℕ → Verb → Answer → Option ℕ
any_min_read r by (Verb.Min q) (Answer.Number x) = if by == r then Some x else None
any_min_read r by _ _ = None

-- the step is a `Fence(p)` of r that showed the grant g
abbrev pub grant_seen : ℕ → ℕ → ℕ → ℕ → Verb → Answer → Bool
grant_seen r p g by (Verb.Fence q) (Answer.Seen f) = (by == r) && ((q == p) && (f.grant == g))
grant_seen r p g by _ _ = false

-- a `Min(p)` was answered since the first `Fence(p)` answer with the grant g
abbrev pub min_read_under : ℕ → ℕ → ℕ → List Event → Bool
min_read_under r p g [] = false
min_read_under r p g (e ∷ past) =
    (is_some (min_read r p e.by e.verb e.answer)
    && has (λ f. grant_seen r p g f.by f.verb f.answer) past)
    || min_read_under r p g past

-- the same of the noted grant, if there is one; both answers may be of an earlier leadership
abbrev pub min_read_since : ℕ → ℕ → List Event → Option ℕ → Bool
min_read_since r p past None = false
min_read_since r p past (Some g) = min_read_under r p g past

-- a `Min(p)` was answered since the first `Fence(p)` answer with the noted grant
abbrev pub has_read_min : ℕ → ℕ → List Event → Bool
has_read_min r p past = min_read_since r p past (noted_grant r p past)

-- the regions with such an answer are a majority with r
abbrev pub has_confirmed_majority : Config → ℕ → List Event → Bool
has_confirmed_majority c r past =
    has_read_min r r past
    && nat_le (majority_of c.replicas) (count_below c.replicas (λ p. has_read_min r p past))

-- what the step makes of the target that r has entered p with: an `Enter` names it, a lost one or a
-- put clears it
abbrev pub enter_open : ℕ → ℕ → ℕ → Verb → Answer → Option Target
enter_open r p by (Verb.Enter q t) Answer.Entered = if (by == r) && (q == p) then Some t else None
enter_open r p by (Verb.Enter q t) _ = if (by == r) && (q == p) then Some Target.None else None
enter_open r p by (Verb.PutMin q b) _ = if (by == r) && (q == p) then Some Target.None else None
enter_open r p by (Verb.PutSlot q i b v) _ =
    if (by == r) && (q == p) then Some Target.None else None
enter_open r p by _ _ = None

-- the target of the last `Enter` of r at p in the leadership, if it was `Entered` and no put of r
-- came there since
abbrev pub open_target : ℕ → ℕ → List Event → Option Target
open_target r p past = newest (λ e. enter_open r p e.by e.verb e.answer) (leadership r past)

-- the same over the whole part
abbrev pub last_opened : ℕ → ℕ → List Event → Option Target
last_opened r p past = newest (λ e. enter_open r p e.by e.verb e.answer) past

-- the number is the leadership's, or the least of r above all that it read and put
abbrev pub number_allowed : ℕ → List Event → ℕ → Option ℕ → Type 0
number_allowed r past b (Some first) = b ≡ first
number_allowed r past b None =
    (b % 8 ≡ r) × (8 ≤ b)
    × (greatest (λ e. any_min_read r e.by e.verb e.answer) (leadership r past) < b)
    × (greatest (λ e. number_put r e.by e.verb) past < b)
    × ((n : ℕ) → n % 8 ≡ r → 8 ≤ n
    → greatest (λ e. any_min_read r e.by e.verb e.answer) (leadership r past) < n
    → greatest (λ e. number_put r e.by e.verb) past < n → b ≤ n)
