-- How the room of a count changes by one step.
use Rattle.std.proofs.Common.{◌≡◌, ℕ, ◌+◌, ◌-◌, ◌*◌, ◌≤◌, Bool, true, false, cond, List, ◌∷◌, refl, sym, ◌∙◌, ap, arith, Some, None, subst, true≢false, ◌⊎◌, inl, inr, is_some, not}
use Rattle.std.specs.declared.option.Option.{Option}
use Rattle.std.specs.Prelude.{if◌then◌else◌, min, ◌&&◌, ◌||◌}
use Rattle.mu_model.specs.declared.config.Config.{Config}
use Rattle.mu_model.specs.declared.event.Event.{Event}
use Rattle.mu_model.specs.Bounds.{is_copying, is_learning, members}
use Rattle.mu_model.specs.Diligence.{is_milestone}
use Rattle.mu_model.specs.Ends.{outrun}
use Rattle.mu_model.specs.Histories.{has}
use Rattle.mu_model.specs.Leaderships.{begins_leadership, leadership}
use Rattle.mu_model.specs.Steps.{commits_more, is_lagging, is_min, is_named, is_over_after, knows_all}
use Rattle.mu_model.specs.Stretches.{is_replication}
use Rattle.mu_model.proofs.Basics.{none_some, same_some}
use Rattle.mu_pace.specs.Blocking.{is_blocking}
use Rattle.mu_pace.specs.Counters.{HasRoom, allowed_after, fewer, left_after, steps_left}
use Rattle.mu_pace.specs.Rooms.{ClosedHasRoom, CopyingEarnsEight, JoiningEarnsSix, KindsOfStep, LessRoom, ProgressAnew, ProgressBegins, ProgressBeside, ProgressGoesOn, ProgressWithCopying, ProgressWithJoining, RoomCloses, RoomGoesOn, RoomOpens, RoomOpensAnew, RoomOpensBeside, RoomOpensMore, RoomStays, RoomTakes, StaysClosed, StepsOfProgress}
use Rattle.mu_pace.specs.Watches.{limit_now, progressing_by}
use Rattle.mu_pace.proofs.Counting.{allowed_here}

-- what is open has at least so much left
abbrev pub AtLeast : ℕ → Option ℕ → Type 0
AtLeast n o = (left : ℕ) → o ≡ Some left → n ≤ left

-- the step itself, before the moment allows anything
after_step : (closes counts : Bool) (pays weight next : ℕ) (o : Option ℕ) → next + cond counts 1 0 ≤ weight + pays → AtLeast weight o → AtLeast next (left_after closes counts pays o)
after_step closes counts pays weight next None l h left is = absurd (none_some left is)
after_step true counts pays weight next (Some x) l h left is = absurd (none_some left is)
after_step false true pays weight next (Some x) l h left is = let a : weight ≤ x = h x refl in let e : x + pays - 1 ≡ left = same_some (x + pays - 1) left is in omega arith
after_step false false pays weight next (Some x) l h left is = let a : weight ≤ x = h x refl in let e : x + pays ≡ left = same_some (x + pays) left is in omega arith

-- and what the moment allows
with_allowed : (n a : ℕ) (o : Option ℕ) → n ≤ a → AtLeast n o → AtLeast n (fewer (Some a) o)
with_allowed n a None l h left is = let e : a ≡ left = same_some a left is in omega arith
with_allowed n a (Some x) l h left is = let e : min a x ≡ left = same_some (min a x) left is in let b : n ≤ x = h x refl in omega arith

without : (n : ℕ) (allowed o : Option ℕ) → allowed ≡ None → AtLeast n o → AtLeast n (fewer allowed o)
without n allowed o none h = subst (λ x. AtLeast n (fewer x o)) (sym none) h

with : (n a : ℕ) (allowed o : Option ℕ) → allowed ≡ Some a → n ≤ a → AtLeast n o → AtLeast n (fewer allowed o)
with n a allowed o is l h = subst (λ x. AtLeast n (fewer x o)) (sym is) (with_allowed n a o l h)

cost : (t : Bool) (n m : ℕ) → n + 1 ≤ m → n + cond t 1 0 ≤ m
cost true n m l = l
cost false n m l = omega arith

no_cost : (t : Bool) (n m : ℕ) → t ≡ false → n ≤ m → n + cond t 1 0 ≤ m
no_cost true n m f l = absurd (true≢false f)
no_cost false n m f l = omega arith

goes_on : RoomGoesOn
goes_on w weight next past e n l h =
    without next (w.allows (e ∷ past)) _ n (after_step (w.closes past e) (w.counts past e) (w.pays past e) weight next (steps_left w past) (cost (w.counts past e) next (weight + w.pays past e) l) h)

stays : RoomStays
stays w weight next past e n f l h =
    without next (w.allows (e ∷ past)) _ n (after_step (w.closes past e) (w.counts past e) (w.pays past e) weight next (steps_left w past) (no_cost (w.counts past e) next (weight + w.pays past e) f l) h)

-- a step that closes
closed_after : (next : ℕ) (closes counts : Bool) (pays : ℕ) (o : Option ℕ) → closes ≡ true → AtLeast next (left_after closes counts pays o)
closed_after next closes counts pays None c left is = absurd (none_some left is)
closed_after next true counts pays (Some x) c left is = absurd (none_some left is)
closed_after next false counts pays (Some x) c left is = absurd (true≢false (sym c))

closes : RoomCloses
closes w next past e n k = without next (w.allows (e ∷ past)) _ n (closed_after next (w.closes past e) (w.counts past e) (w.pays past e) (steps_left w past) k)

opens_anew : RoomOpensAnew
opens_anew w allowed next past e a k l = with next allowed (w.allows (e ∷ past)) _ a l (closed_after next (w.closes past e) (w.counts past e) (w.pays past e) (steps_left w past) k)

none_after : (closes counts : Bool) (pays : ℕ) (o : Option ℕ) → o ≡ None → left_after closes counts pays o ≡ None
none_after closes counts pays o n = subst (λ x. left_after closes counts pays x ≡ None) (sym n) refl

stays_closed : StaysClosed
stays_closed w past e n o = ap (λ x. fewer x (left_after (w.closes past e) (w.counts past e) (w.pays past e) (steps_left w past))) n ∙ none_after (w.closes past e) (w.counts past e) (w.pays past e) (steps_left w past) o

opens : RoomOpens
opens w allowed next past e a o l =
    with next allowed (w.allows (e ∷ past)) _ a l (λ left is. absurd (none_some left (sym (none_after (w.closes past e) (w.counts past e) (w.pays past e) (steps_left w past) o) ∙ is)))

opens_more : RoomOpensMore
opens_more w allowed weight next past e a l m h =
    with next allowed (w.allows (e ∷ past)) _ a l (after_step (w.closes past e) (w.counts past e) (w.pays past e) weight next (steps_left w past) (cost (w.counts past e) next (weight + w.pays past e) m) h)

opens_beside : RoomOpensBeside
opens_beside w allowed weight next past e a l f m h =
    with next allowed (w.allows (e ∷ past)) _ a l (after_step (w.closes past e) (w.counts past e) (w.pays past e) weight next (steps_left w past) (no_cost (w.counts past e) next (weight + w.pays past e) f m) h)

takes : RoomTakes
takes w weight next past e few l h = go (w.allows (e ∷ past)) refl
  where
    go : (a : Option ℕ) → w.allows (e ∷ past) ≡ a → HasRoom w next (e ∷ past)
    go None a = goes_on w weight next past e a l h
    go (Some x) a = opens_more w x weight next past e a (few x a) l h

closed : ClosedHasRoom
closed w weight past o left is = absurd (none_some left (sym o ∙ is))

less : LessRoom
less w weight n past l h left is = let k = h left is in omega arith

pub kinds_of_step : KindsOfStep
kinds_of_step = record {
  goes_on = goes_on;
  takes = takes;
  stays = stays;
  closes = closes;
  opens_anew = opens_anew;
  opens = opens;
  opens_more = opens_more;
  opens_beside = opens_beside;
  stays_closed = stays_closed;
  closed = closed;
  less = less;
}

-- what the steps of a leader earn
joining : JoiningEarnsSix
joining c r past e m = six (members c r past) (members c r (e ∷ past)) _ m
  where
    six : (a b x : ℕ) → b ≡ a + 1 → 6 ≤ 6 * (b - a) + x
    six a b x h = omega (arith, h)

copying : CopyingEarnsEight
copying c r past e k = eight (is_learning c r past e || is_copying c r past e) (6 * (members c r (e ∷ past) - members c r past)) k
  where
    eight : (t : Bool) (x : ℕ) → t ≡ true → 8 ≤ x + (if t then 8 else 0)
    eight true x h = omega arith
    eight false x h = absurd (true≢false (sym h))

-- no milestone, no count that it opens
no_milestone : (c : Config) (r : ℕ) (past : List Event) (e : Event) → is_milestone c r past e ≡ false → allowed_after (is_milestone c r) (limit_now c r) (e ∷ past) ≡ None
no_milestone c r past e m = go (is_milestone c r past e) m
  where
    go : (t : Bool) → t ≡ false → (if t then Some (limit_now c r (e ∷ past)) else None) ≡ None
    go true h = absurd (true≢false h)
    go false h = refl

progress_goes_on : ProgressGoesOn
progress_goes_on stops c r weight next past e m l h = goes_on (progressing_by stops c r) weight next past e (no_milestone c r past e m) (omega arith) h

progress_with_joining : ProgressWithJoining
progress_with_joining stops c r weight next past e m j l h = goes_on (progressing_by stops c r) weight next past e (no_milestone c r past e m) (let x = joining c r past e j in omega arith) h

progress_with_copying : ProgressWithCopying
progress_with_copying stops c r weight next past e m k l h = goes_on (progressing_by stops c r) weight next past e (no_milestone c r past e m) (let x = copying c r past e k in omega arith) h

progress_anew : ProgressAnew
progress_anew stops c r next past e m k l = opens_anew (progressing_by stops c r) (limit_now c r (e ∷ past)) next past e (allowed_here (is_milestone c r) (limit_now c r) past e m) k l

progress_begins : ProgressBegins
progress_begins stops c r next past e m o l = opens (progressing_by stops c r) (limit_now c r (e ∷ past)) next past e (allowed_here (is_milestone c r) (limit_now c r) past e m) o l

progress_beside : ProgressBeside
progress_beside stops c r weight past e t m h = stays (progressing_by stops c r) weight weight past e (no_milestone c r past e m) t (omega arith) h

-- a commit and a lagging head close the count as they open it
closed_by : (b t n k o g rest : Bool) → t ≡ true → (k ≡ true) ⊎ (g ≡ true) → (b || (t && (not n || (k || (o || (g || rest)))))) ≡ true
closed_by true t n k o g rest h j = refl
closed_by false false n k o g rest h j = absurd (true≢false (sym h))
closed_by false true false k o g rest h j = refl
closed_by false true true true o g rest h j = refl
closed_by false true true false true g rest h j = refl
closed_by false true true false false true rest h j = refl
closed_by false true true false false false rest h (inl j) = absurd (true≢false (sym j))
closed_by false true true false false false rest h (inr j) = absurd (true≢false (sym j))

opened_by : (f k t g : Bool) → t ≡ true → (k ≡ true) ⊎ (g ≡ true) → (f || (k || (t && g))) ≡ true
opened_by true k t g h j = refl
opened_by false true t g h j = refl
opened_by false false true true h j = refl
opened_by false false true false h (inl j) = absurd (true≢false (sym j))
opened_by false false true false h (inr j) = absurd (true≢false (sym j))
opened_by false false false g h j = absurd (true≢false (sym h))

milestone_closes : (stops : List Event → Event → Bool) (c : Config) (r : ℕ) (past : List Event) (e : Event) → is_replication past e ≡ true → (commits_more c r past e ≡ true) ⊎ (stops past e ≡ true) → (progressing_by stops c r).closes past e ≡ true
milestone_closes stops c r past e t j = closed_by (begins_leadership r e) (is_replication past e) (is_named c r past) (commits_more c r past e) (is_over_after r past e) (stops past e) (knows_all c r past || is_some (outrun c r (e ∷ past))) t j

milestone_opens : (c : Config) (r : ℕ) (past : List Event) (e : Event) → is_replication past e ≡ true → (commits_more c r past e ≡ true) ⊎ (is_lagging c r past e ≡ true) → is_milestone c r past e ≡ true
milestone_opens c r past e t j = opened_by (is_min e && not (has is_min (leadership r past))) (commits_more c r past e) (is_replication past e) (is_lagging c r past e) t j

pub steps_of_progress : StepsOfProgress
steps_of_progress = record {
  joining = joining;
  copying = copying;
  goes_on = progress_goes_on;
  with_joining = progress_with_joining;
  with_copying = progress_with_copying;
  anew = progress_anew;
  begins = progress_begins;
  beside = progress_beside;
  commit = λ stops c r past e t k. (milestone_opens c r past e t (inl k), milestone_closes stops c r past e t (inl k));
  lag = λ c r past e t k. (milestone_opens c r past e t (inr k), milestone_closes (is_lagging c r) c r past e t (inr k));
  block = λ c r past e t k. milestone_closes (is_blocking c r) c r past e t (inr k);
}
