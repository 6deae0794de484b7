-- The room at each place of a leader, step by step.
use Rattle.std.proofs.Common.{◌≡◌, ℕ, ◌+◌, ◌*◌, ◌<◌, ◌≤◌, ◌⊎◌, inl, inr, Bool, true, false, ◌&&◌, List, [], ◌∷◌, refl, sym, ◌∙◌, ap, arith, Some, None, true≢false}
use Rattle.std.specs.declared.option.Option.{Option}
use Rattle.std.specs.Prelude.{if◌then◌else◌, not, ◌||◌}
use Rattle.mu_model.specs.declared.config.Config.{Config}
use Rattle.mu_model.specs.declared.event.Event.{Event}
use Rattle.mu_model.specs.Bounds.{is_learning}
use Rattle.mu_model.specs.Diligence.{is_joining_step, is_milestone}
use Rattle.mu_model.specs.Leaderships.{begins_leadership, is_member, proposal_number}
use Rattle.mu_model.specs.Steps.{commits_more, is_fencing, is_lagging, is_named, is_over_after, knows_all, leads}
use Rattle.mu_model.specs.Stretches.{is_replication}
use Rattle.mu_pace.specs.Asking.{asking}
use Rattle.mu_pace.specs.Beside.{is_beside}
use Rattle.mu_pace.specs.Blocking.{is_blocking, is_progress_by}
use Rattle.mu_pace.specs.Counters.{HasRoom, Watch, allowed_after, allowed_while, fewer, left_after, steps_left}
use Rattle.mu_pace.specs.Placed.{AreInTime, FitsSizes, IsBrought, IsPlacedAt, PlacesLead, TakesCopy, TakesFirst, TakesJoin, TakesKnown, TakesLastJoin, TakesMilestone, TakesStep, is_level}
use Rattle.mu_pace.specs.Watches.{advancing, asking_after, bringing_up, earns, falls_behind, is_brought_up, leaves, limit_now, progressing}
use Rattle.mu_pace.specs.Weights.{GoesOn, IsSized, Sizes, Stage, joined, most, weight}
use Rattle.mu_pace.proofs.Asking.{asking_falls}
use Rattle.mu_pace.proofs.Beside.{IsQuiet, beside_keeps, quiet, unallowed}
use Rattle.mu_pace.proofs.Counting.{allowed_here, allowed_now}
use Rattle.mu_agree.proofs.Members.{member_on}
use Rattle.mu_pace.proofs.Rooms.{kinds_of_step, steps_of_progress}
use Rattle.mu_pace.proofs.Weights.{weights_fall}
use Rattle.mu_model.proofs.Basics.{true_or, or_true}

-- a step that closes a count, if none opens, leaves it closed
shut_after : (closes counts : Bool) (pays : ℕ) (o : Option ℕ) → closes ≡ true → left_after closes counts pays o ≡ None
shut_after closes counts pays None c = refl
shut_after true counts pays (Some x) c = refl
shut_after false counts pays (Some x) c = absurd (true≢false (sym c))

pub shut : (w : Watch) (past : List Event) (e : Event) → w.allows (e ∷ past) ≡ None → w.closes past e ≡ true → steps_left w (e ∷ past) ≡ None
shut w past e n k = ap (λ x. fewer x (left_after (w.closes past e) (w.counts past e) (w.pays past e) (steps_left w past))) n ∙ shut_after (w.closes past e) (w.counts past e) (w.pays past e) (steps_left w past) k

-- a replication event that meets what is waited for, or before which r isn't named, leaves
pub met_leaves : (c : Config) (r : ℕ) (met : List Event → Event → Bool) (past : List Event) (e : Event) → is_replication past e ≡ true → met past e ≡ true → leaves c r met past e ≡ true
met_leaves c r met past e t m = or_true (begins_leadership r e) (is_replication past e && (not (is_named c r past) || met past e)) (both (is_replication past e) (not (is_named c r past)) (met past e) t m)
  where
    both : (t u v : Bool) → t ≡ true → v ≡ true → (t && (u || v)) ≡ true
    both true true v t m = refl
    both true false v t m = m
    both false u v t m = absurd (true≢false (sym t))

pub unnamed_leaves : (c : Config) (r : ℕ) (met : List Event → Event → Bool) (past : List Event) (e : Event) → is_replication past e ≡ true → is_named c r past ≡ false → leaves c r met past e ≡ true
unnamed_leaves c r met past e t n = or_true (begins_leadership r e) (is_replication past e && (not (is_named c r past) || met past e)) (both (is_replication past e) (is_named c r past) (met past e) t n)
  where
    both : (t u v : Bool) → t ≡ true → u ≡ false → (t && (not u || v)) ≡ true
    both true true v t n = absurd (true≢false n)
    both true false v t n = refl
    both false u v t n = absurd (true≢false (sym t))

-- the asking count of a member is closed
asking_none : (c : Config) (r p : ℕ) (past : List Event) (e : Event) → is_member r p (e ∷ past) ≡ true → steps_left (asking_after c r p) (e ∷ past) ≡ None
asking_none c r p past e m =
    shut (asking_after c r p) past e (none (is_member r p (e ∷ past)) m)
    (true_or (is_member r p (e ∷ past)) (leaves c r (λ before f. not (leads r before) || is_fencing p f) past e) m)
  where
    none : (t : Bool) → t ≡ true → (if not t then Some (2 * limit_now c r (e ∷ past)) else None) ≡ None
    none true h = refl
    none false h = absurd (true≢false (sym h))

-- the count of bringing up one that is no member is closed
not_behind : (c : Config) (r p : ℕ) (past : List Event) (e : Event) → is_member r p (e ∷ past) ≡ false → falls_behind c r p past e ≡ false
not_behind c r p past e m = go (is_joining_step r past e || is_learning c r past e) (proposed (proposal_number r (e ∷ past))) (is_member r p (e ∷ past)) m
  where
    proposed : Option ℕ → Bool
    proposed None = false
    proposed (Some x) = true

    go : (a b m : Bool) → m ≡ false → (a && (b && (m && not (is_brought_up c r p (e ∷ past))))) ≡ false
    go true true true h = absurd (true≢false h)
    go true true false h = refl
    go true false m h = refl
    go false b m h = refl

bringing_none : (c : Config) (r p : ℕ) (now : List Event) → is_member r p now ≡ false → steps_left (bringing_up c r p) now ≡ None
bringing_none c r p [] m = refl
bringing_none c r p (e ∷ past) m = go (begins_leadership r e) refl (bringing_none c r p past)
  where
    none : allowed_after (falls_behind c r p) (limit_now c r) (e ∷ past) ≡ None
    none = unallowed (falls_behind c r p) (limit_now c r) past e (not_behind c r p past e m)

    before : begins_leadership r e ≡ false → (t : Bool) → is_member r p past ≡ t → is_member r p past ≡ false
    before b true k = absurd (true≢false (sym (member_on r p e past b k) ∙ m))
    before b false k = k

    go : (t : Bool) → begins_leadership r e ≡ t → (is_member r p past ≡ false → steps_left (bringing_up c r p) past ≡ None) → steps_left (bringing_up c r p) (e ∷ past) ≡ None
    go true b ih = shut (bringing_up c r p) past e none (or_true (is_brought_up c r p (e ∷ past)) (leaves c r (is_over_after r) past e) (true_or (begins_leadership r e) _ b))
    go false b ih = kinds_of_step.stays_closed (bringing_up c r p) past e none (ih (before b (is_member r p past) refl))

-- the count of one that is brought up is closed
brought_none : (c : Config) (r p : ℕ) (past : List Event) (e : Event) → is_brought_up c r p (e ∷ past) ≡ true → steps_left (bringing_up c r p) (e ∷ past) ≡ None
brought_none c r p past e b =
    shut (bringing_up c r p) past e (unallowed (falls_behind c r p) (limit_now c r) past e (none (is_joining_step r past e || is_learning c r past e) _ (is_member r p (e ∷ past)) (is_brought_up c r p (e ∷ past)) b))
    (true_or (is_brought_up c r p (e ∷ past)) (leaves c r (is_over_after r) past e) b)
  where
    none : (a b m k : Bool) → k ≡ true → (a && (b && (m && not k))) ≡ false
    none true true true true h = refl
    none true true false k h = refl
    none true false m k h = refl
    none false b m k h = refl
    none true true true false h = absurd (true≢false (sym h))

-- so at a level place
all_brought : (c : Config) (r p : ℕ) (past : List Event) (e : Event) → (is_member r p (e ∷ past) ≡ true → is_brought_up c r p (e ∷ past) ≡ true) → steps_left (bringing_up c r p) (e ∷ past) ≡ None
all_brought c r p past e h = go (is_member r p (e ∷ past)) refl
  where
    go : (t : Bool) → is_member r p (e ∷ past) ≡ t → steps_left (bringing_up c r p) (e ∷ past) ≡ None
    go true m = brought_none c r p past e (h m)
    go false m = bringing_none c r p (e ∷ past) m

-- from what a place says to room
brought_room : (level : Bool) (w : Watch) (n : ℕ) (now : List Event) → IsBrought level w n now → HasRoom w n now
brought_room true w n now h = kinds_of_step.closed w n now h
brought_room false w n now h = h

-- and back
room_brought : (level : Bool) (w : Watch) (n : ℕ) (now : List Event) → (level ≡ true → steps_left w now ≡ None) → (level ≡ false → HasRoom w n now) → IsBrought level w n now
room_brought true w n now a b = a refl
room_brought false w n now a b = b refl

pub closed_brought : (level : Bool) (w : Watch) (n : ℕ) (now : List Event) → steps_left w now ≡ None → IsBrought level w n now
closed_brought true w n now h = h
closed_brought false w n now h = kinds_of_step.closed w n now h

is_closed : (level : Bool) (w : Watch) (n : ℕ) (now : List Event) → level ≡ true → IsBrought level w n now → steps_left w now ≡ None
is_closed true w n now h b = b
is_closed false w n now h b = absurd (true≢false (sym h))

-- what the bound allows is what the sizes say
pub same_limit : (c : Config) (r : ℕ) (s : Sizes) (now : List Event) → FitsSizes c r s now → most s ≡ limit_now c r now
same_limit c r s now z = let a = z.replicas in let b = z.width in let d = z.members in omega arith

-- a step by an edge that the weights know: for a late follower
asks_on : (c : Config) (r p : ℕ) (s : Sizes) (past : List Event) (e : Event) (n u : ℕ) → is_replication past e ≡ true → u ≤ 2 * limit_now c r (e ∷ past) → HasRoom (asking_after c r p) n past
    → (is_member r p (e ∷ past) ≡ false → (u + 1 ≤ n + 2 * earns c r past e) ⊎ (is_fencing p e ≡ true)) → HasRoom (asking_after c r p) u (e ∷ past)
asks_on c r p s past e n u t l h step = go (is_member r p (e ∷ past)) refl
  where
    allowed : is_member r p (e ∷ past) ≡ false → allowed_while (λ now. not (is_member r p now)) (λ now. 2 * limit_now c r now) (e ∷ past) ≡ Some (2 * limit_now c r (e ∷ past))
    allowed m = allowed_now (λ now. not (is_member r p now)) (λ now. 2 * limit_now c r now) (e ∷ past) (ap not m)

    by_step : is_member r p (e ∷ past) ≡ false → (u + 1 ≤ n + 2 * earns c r past e) ⊎ (is_fencing p e ≡ true) → HasRoom (asking_after c r p) u (e ∷ past)
    by_step m (inl k) = kinds_of_step.opens_more (asking_after c r p) (2 * limit_now c r (e ∷ past)) n u past e (allowed m) l k h
    by_step m (inr f) =
        kinds_of_step.opens_anew (asking_after c r p) (2 * limit_now c r (e ∷ past)) u past e (allowed m)
        (or_true (is_member r p (e ∷ past)) (leaves c r (λ before g. not (leads r before) || is_fencing p g) past e)
        (met_leaves c r (λ before g. not (leads r before) || is_fencing p g) past e t (or_true (not (leads r past)) (is_fencing p e) f))) l

    go : (b : Bool) → is_member r p (e ∷ past) ≡ b → HasRoom (asking_after c r p) u (e ∷ past)
    go true m = kinds_of_step.closed (asking_after c r p) u (e ∷ past) (asking_none c r p past e m)
    go false m = by_step m (step m)

-- who isn't led any more is asked after anew
pub asks_anew : (c : Config) (r p : ℕ) (past : List Event) (e : Event) (u : ℕ) → u ≤ 2 * limit_now c r (e ∷ past) → leaves c r (λ before g. not (leads r before) || is_fencing p g) past e ≡ true → HasRoom (asking_after c r p) u (e ∷ past)
asks_anew c r p past e u l away = go (is_member r p (e ∷ past)) refl
  where
    go : (b : Bool) → is_member r p (e ∷ past) ≡ b → HasRoom (asking_after c r p) u (e ∷ past)
    go true m = kinds_of_step.closed (asking_after c r p) u (e ∷ past) (asking_none c r p past e m)
    go false m =
        kinds_of_step.opens_anew (asking_after c r p) (2 * limit_now c r (e ∷ past)) u past e (allowed_now (λ now. not (is_member r p now)) (λ now. 2 * limit_now c r now) (e ∷ past) (ap not m))
        (or_true (is_member r p (e ∷ past)) (leaves c r (λ before g. not (leads r before) || is_fencing p g) past e) away) l

-- bringing up, by a step that may open the count anew
brings_on : (c : Config) (r p : ℕ) (past : List Event) (e : Event) (n u : ℕ) → u ≤ limit_now c r (e ∷ past) → u + 1 ≤ n + earns c r past e → HasRoom (bringing_up c r p) n past → HasRoom (bringing_up c r p) u (e ∷ past)
brings_on c r p past e n u l k h = go (falls_behind c r p past e) refl
  where
    go : (t : Bool) → falls_behind c r p past e ≡ t → HasRoom (bringing_up c r p) u (e ∷ past)
    go true b = kinds_of_step.opens_more (bringing_up c r p) (limit_now c r (e ∷ past)) n u past e (allowed_here (falls_behind c r p) (limit_now c r) past e b) l k h
    go false b = kinds_of_step.goes_on (bringing_up c r p) n u past e (unallowed (falls_behind c r p) (limit_now c r) past e b) k h

brings_closed : (c : Config) (r p : ℕ) (past : List Event) (e : Event) (u : ℕ) → u ≤ limit_now c r (e ∷ past) → steps_left (bringing_up c r p) past ≡ None → HasRoom (bringing_up c r p) u (e ∷ past)
brings_closed c r p past e u l o = go (falls_behind c r p past e) refl
  where
    go : (t : Bool) → falls_behind c r p past e ≡ t → HasRoom (bringing_up c r p) u (e ∷ past)
    go true b = kinds_of_step.opens (bringing_up c r p) (limit_now c r (e ∷ past)) u past e (allowed_here (falls_behind c r p) (limit_now c r) past e b) o l
    go false b = kinds_of_step.closed (bringing_up c r p) u (e ∷ past) (kinds_of_step.stays_closed (bringing_up c r p) past e (unallowed (falls_behind c r p) (limit_now c r) past e b) o)

-- the two together, at a place that is level or not
brings : (c : Config) (r p : ℕ) (past : List Event) (e : Event) (level : Bool) (n u : ℕ) → u ≤ limit_now c r (e ∷ past) → u + 1 ≤ n + earns c r past e → IsBrought level (bringing_up c r p) n past → HasRoom (bringing_up c r p) u (e ∷ past)
brings c r p past e true n u l k h = brings_closed c r p past e u l h
brings c r p past e false n u l k h = brings_on c r p past e n u l k h

step : (c : Config) (r : ℕ) (s : Sizes) (t u : Stage) (past : List Event) (e : Event) → IsSized s → IsPlacedAt c r s t past → TakesStep c r s t u past e → IsPlacedAt c r s u (e ∷ past)
step c r s t u past e z at k = record {
  sizes = sizes;
  place = k.place;
  progressing = steps_of_progress.goes_on (is_lagging c r) c r (weight s t) (weight s u) past e k.no_milestone (weights_fall.goes_on s t u z k.edge) at.progressing;
  advancing = steps_of_progress.goes_on (is_blocking c r) c r (weight s t) (weight s u) past e k.no_milestone (weights_fall.goes_on s t u z k.edge) at.advancing;
  asking = λ p l.
      asks_on c r p s past e (asking s p t) (asking s p u) k.turn (let a = asking_falls.light s p u z (low l) k.place in let b = same_limit c r s (e ∷ past) sizes in omega arith) (at.asking p l)
      (λ m. elim (k.asks p l m) [ inl g ↦ inl (let a = asking_falls.goes_on s p t u z g in omega arith) | inr f ↦ inr f ]);
  bringing = λ p. room_brought (is_level u) (bringing_up c r p) (weight s u) (e ∷ past) (λ v. level p v (k.levels v))
      (λ v. brings c r p past e (is_level t) (weight s t) (weight s u) (let a = weights_fall.light s u z k.place in let b = same_limit c r s (e ∷ past) sizes in omega arith) (let a = weights_fall.goes_on s t u z k.edge in omega arith) (at.bringing p));
}
  where
    sizes : FitsSizes c r s (e ∷ past)
    sizes = record { replicas = at.sizes.replicas; width = at.sizes.width; members = at.sizes.members ∙ sym k.same }

    low : {p : ℕ} → p < c.replicas → p < s.replicas
    low l = let a = at.sizes.replicas in omega arith

    level : (p : ℕ) → is_level u ≡ true → (is_level t ≡ true) ⊎ ((q : ℕ) → is_member r q (e ∷ past) ≡ true → is_brought_up c r q (e ∷ past) ≡ true) → steps_left (bringing_up c r p) (e ∷ past) ≡ None
    level p v (inl b) = kinds_of_step.stays_closed (bringing_up c r p) past e (unallowed (falls_behind c r p) (limit_now c r) past e (k.none_behind p)) (is_closed (is_level t) (bringing_up c r p) (weight s t) past b (at.bringing p))
    level p v (inr b) = all_brought c r p past e (b p)

copy : (c : Config) (r : ℕ) (s : Sizes) (t u : Stage) (past : List Event) (e : Event) → IsSized s → IsPlacedAt c r s t past → TakesCopy c r s t u past e → IsPlacedAt c r s u (e ∷ past)
copy c r s t u past e z at k = record {
  sizes = sizes;
  place = k.place;
  progressing = steps_of_progress.with_copying (is_lagging c r) c r (weight s t) (weight s u) past e k.no_milestone k.copies (weights_fall.copies s t u z k.edge) at.progressing;
  advancing = steps_of_progress.with_copying (is_blocking c r) c r (weight s t) (weight s u) past e k.no_milestone k.copies (weights_fall.copies s t u z k.edge) at.advancing;
  asking = λ p l.
      asks_on c r p s past e (asking s p t) (asking s p u) k.turn (let a = asking_falls.light s p u z (low l) k.place in let b = same_limit c r s (e ∷ past) sizes in omega arith) (at.asking p l)
      (λ m. elim (k.asks p l m) [ inl g ↦ inl (let a = asking_falls.copies s p t u z g in let b = steps_of_progress.copying c r past e k.copies in omega arith) | inr f ↦ inr f ]);
  bringing = λ p. room_brought (is_level u) (bringing_up c r p) (weight s u) (e ∷ past) (λ v. all_brought c r p past e (k.levels v p))
      (λ v. brings c r p past e (is_level t) (weight s t) (weight s u) (let a = weights_fall.light s u z k.place in let b = same_limit c r s (e ∷ past) sizes in omega arith)
      (let a = weights_fall.copies s t u z k.edge in let b = steps_of_progress.copying c r past e k.copies in omega arith) (at.bringing p));
}
  where
    sizes : FitsSizes c r s (e ∷ past)
    sizes = record { replicas = at.sizes.replicas; width = at.sizes.width; members = at.sizes.members ∙ sym k.same }

    low : {p : ℕ} → p < c.replicas → p < s.replicas
    low l = let a = at.sizes.replicas in omega arith

join : (c : Config) (r : ℕ) (s : Sizes) (t u : Stage) (past : List Event) (e : Event) → IsSized s → IsPlacedAt c r s t past → TakesJoin c r s t u past e → IsPlacedAt c r (joined s) u (e ∷ past)
join c r s t u past e z at k = record {
  sizes = sizes;
  place = k.place;
  progressing = steps_of_progress.with_joining (is_lagging c r) c r (weight s t) (weight (joined s) u) past e k.no_milestone k.more (weights_fall.joins s t u z k.edge) at.progressing;
  advancing = steps_of_progress.with_joining (is_blocking c r) c r (weight s t) (weight (joined s) u) past e k.no_milestone k.more (weights_fall.joins s t u z k.edge) at.advancing;
  asking = λ p l.
      asks_on c r p (joined s) past e (asking s p t) (asking (joined s) p u) k.turn (let a = asking_falls.light (joined s) p u y (low l) k.place in let b = same_limit c r (joined s) (e ∷ past) sizes in omega arith) (at.asking p l)
      (λ m. elim (k.asks p l m) [ inl g ↦ inl (let a = asking_falls.joins s p t u z g in let b = steps_of_progress.joining c r past e k.more in omega arith) | inr f ↦ inr f ]);
  bringing = λ p. room_brought (is_level u) (bringing_up c r p) (weight (joined s) u) (e ∷ past) (λ v. all_brought c r p past e (k.levels v p))
      (λ v. brings c r p past e (is_level t) (weight s t) (weight (joined s) u) (let a = weights_fall.light (joined s) u y k.place in let b = same_limit c r (joined s) (e ∷ past) sizes in omega arith)
      (let a = weights_fall.joins s t u z k.edge in let b = steps_of_progress.joining c r past e k.more in omega arith) (at.bringing p));
}
  where
    sizes : FitsSizes c r (joined s) (e ∷ past)
    sizes = record { replicas = at.sizes.replicas; width = at.sizes.width; members = (let a = at.sizes.members in let b = k.more in omega arith) }

    y : IsSized (joined s)
    y = record { replicas = z.replicas; width = z.width }

    low : {p : ℕ} → p < c.replicas → p < s.replicas
    low l = let a = at.sizes.replicas in omega arith

milestone : (c : Config) (r : ℕ) (s : Sizes) (t u : Stage) (past : List Event) (e : Event) → IsSized s → IsPlacedAt c r s t past → TakesMilestone c r s t u past e → IsPlacedAt c r s u (e ∷ past)
milestone c r s t u past e z at k = record {
  sizes = sizes;
  place = k.place;
  progressing = steps_of_progress.anew (is_lagging c r) c r (weight s u) past e k.milestone k.progress light;
  advancing = advances k.advance;
  asking = λ p l.
      asks_on c r p s past e (asking s p t) (asking s p u) k.turn (let a = asking_falls.light s p u z (low l) k.place in let b = same_limit c r s (e ∷ past) sizes in omega arith) (at.asking p l)
      (λ m. elim (k.asks p l m) [ inl g ↦ inl (let a = asking_falls.goes_on s p t u z g in omega arith) | inr f ↦ inr f ]);
  bringing = λ p. closed_brought (is_level u) (bringing_up c r p) (weight s u) (e ∷ past)
      (kinds_of_step.stays_closed (bringing_up c r p) past e (unallowed (falls_behind c r p) (limit_now c r) past e (k.none_behind p)) (is_closed (is_level t) (bringing_up c r p) (weight s t) past k.from_level (at.bringing p)));
}
  where
    sizes : FitsSizes c r s (e ∷ past)
    sizes = record { replicas = at.sizes.replicas; width = at.sizes.width; members = at.sizes.members ∙ sym k.same }

    light : weight s u ≤ limit_now c r (e ∷ past)
    light = let a = weights_fall.light s u z k.place in let b = same_limit c r s (e ∷ past) sizes in omega arith

    advances : ((advancing c r).closes past e ≡ true) ⊎ GoesOn s t u → HasRoom (advancing c r) (weight s u) (e ∷ past)
    advances (inl closes) = steps_of_progress.anew (is_blocking c r) c r (weight s u) past e k.milestone closes light
    advances (inr edge) = kinds_of_step.opens_more (advancing c r) (limit_now c r (e ∷ past)) (weight s t) (weight s u) past e (allowed_here (is_milestone c r) (limit_now c r) past e k.milestone) light
        (let a = weights_fall.goes_on s t u z edge in omega arith) at.advancing

    low : {p : ℕ} → p < c.replicas → p < s.replicas
    low l = let a = at.sizes.replicas in omega arith

-- if every command is known each step is progress
known_progress : (stops : List Event → Event → Bool) (c : Config) (r : ℕ) (past : List Event) (e : Event) → knows_all c r past ≡ true → is_progress_by stops c r past e ≡ true
known_progress stops c r past e k = or_true (commits_more c r past e) _ (or_true (is_over_after r past e) _ (or_true (stops past e) _ (true_or (knows_all c r past) _ k)))

known : (c : Config) (r : ℕ) (s : Sizes) (t u : Stage) (past : List Event) (e : Event) → IsSized s → IsPlacedAt c r s t past → TakesKnown c r s t u past e → IsPlacedAt c r s u (e ∷ past)
known c r s t u past e z at k = record {
  sizes = sizes;
  place = k.place;
  progressing = kinds_of_step.closes (progressing c r) (weight s u) past e (unallowed (is_milestone c r) (limit_now c r) past e k.no_milestone) (met_leaves c r (is_progress_by (is_lagging c r) c r) past e k.turn (known_progress (is_lagging c r) c r past e k.known));
  advancing = kinds_of_step.closes (advancing c r) (weight s u) past e (unallowed (is_milestone c r) (limit_now c r) past e k.no_milestone) (met_leaves c r (is_progress_by (is_blocking c r) c r) past e k.turn (known_progress (is_blocking c r) c r past e k.known));
  asking = λ p l.
      asks_on c r p s past e (asking s p t) (asking s p u) k.turn (let a = asking_falls.light s p u z (low l) k.place in let b = same_limit c r s (e ∷ past) sizes in omega arith) (at.asking p l)
      (λ m. elim (k.asks p l m) [ inl g ↦ inl (let a = asking_falls.goes_on s p t u z g in omega arith) | inr f ↦ inr f ]);
  bringing = λ p. closed_brought (is_level u) (bringing_up c r p) (weight s u) (e ∷ past) (level p (k.levels k.to_level));
}
  where
    sizes : FitsSizes c r s (e ∷ past)
    sizes = record { replicas = at.sizes.replicas; width = at.sizes.width; members = at.sizes.members ∙ sym k.same }

    low : {p : ℕ} → p < c.replicas → p < s.replicas
    low l = let a = at.sizes.replicas in omega arith

    level : (p : ℕ) → (is_level t ≡ true) ⊎ ((q : ℕ) → is_member r q (e ∷ past) ≡ true → is_brought_up c r q (e ∷ past) ≡ true) → steps_left (bringing_up c r p) (e ∷ past) ≡ None
    level p (inl b) = kinds_of_step.stays_closed (bringing_up c r p) past e (unallowed (falls_behind c r p) (limit_now c r) past e (k.none_behind p)) (is_closed (is_level t) (bringing_up c r p) (weight s t) past b (at.bringing p))
    level p (inr b) = all_brought c r p past e (b p)

last_join : (c : Config) (r : ℕ) (s : Sizes) (t u : Stage) (past : List Event) (e : Event) → IsSized s → IsPlacedAt c r s t past → TakesLastJoin c r s t u past e → IsPlacedAt c r (joined s) u (e ∷ past)
last_join c r s t u past e z at k = record {
  sizes = sizes;
  place = k.place;
  progressing = kinds_of_step.closes (progressing c r) (weight (joined s) u) past e (unallowed (is_milestone c r) (limit_now c r) past e k.no_milestone) (met_leaves c r (is_progress_by (is_lagging c r) c r) past e k.turn (known_progress (is_lagging c r) c r past e k.known));
  advancing = kinds_of_step.closes (advancing c r) (weight (joined s) u) past e (unallowed (is_milestone c r) (limit_now c r) past e k.no_milestone) (met_leaves c r (is_progress_by (is_blocking c r) c r) past e k.turn (known_progress (is_blocking c r) c r past e k.known));
  asking = λ p l.
      asks_on c r p (joined s) past e (asking s p t) (asking (joined s) p u) k.turn (let a = asking_falls.light (joined s) p u y (low l) k.place in let b = same_limit c r (joined s) (e ∷ past) sizes in omega arith) (at.asking p l)
      (λ m. elim (k.asks p l m) [ inl g ↦ inl (let a = asking_falls.joins s p t u z g in let b = steps_of_progress.joining c r past e k.more in omega arith) | inr f ↦ inr f ]);
  bringing = λ p. closed_brought (is_level u) (bringing_up c r p) (weight (joined s) u) (e ∷ past) (all_brought c r p past e (k.levels p));
}
  where
    sizes : FitsSizes c r (joined s) (e ∷ past)
    sizes = record { replicas = at.sizes.replicas; width = at.sizes.width; members = (let a = at.sizes.members in let b = k.more in omega arith) }

    y : IsSized (joined s)
    y = record { replicas = z.replicas; width = z.width }

    low : {p : ℕ} → p < c.replicas → p < s.replicas
    low l = let a = at.sizes.replicas in omega arith

first : (c : Config) (r : ℕ) (s : Sizes) (u : Stage) (past : List Event) (e : Event) → IsSized s → TakesFirst c r s u past e → IsPlacedAt c r s u (e ∷ past)
first c r s u past e z k = record {
  sizes = k.sizes;
  place = k.place;
  progressing = steps_of_progress.begins (is_lagging c r) c r (weight s u) past e k.milestone k.quiet (let a = weights_fall.light s u z k.place in let b = same_limit c r s (e ∷ past) k.sizes in omega arith);
  advancing = steps_of_progress.begins (is_blocking c r) c r (weight s u) past e k.milestone k.quiet_advancing (let a = weights_fall.light s u z k.place in let b = same_limit c r s (e ∷ past) k.sizes in omega arith);
  asking = λ p l. asks_anew c r p past e (asking s p u) (let a = asking_falls.light s p u z (let a = k.sizes.replicas in omega arith) k.place in let b = same_limit c r s (e ∷ past) k.sizes in omega arith)
      (met_leaves c r (λ before g. not (leads r before) || is_fencing p g) past e k.turn (true_or (not (leads r past)) (is_fencing p e) (ap not k.not_led)));
  bringing = λ p. closed_brought (is_level u) (bringing_up c r p) (weight s u) (e ∷ past)
      (kinds_of_step.stays_closed (bringing_up c r p) past e (unallowed (falls_behind c r p) (limit_now c r) past e (k.none_behind p)) (k.quiet_bringing p));
}

beside : (c : Config) (r : ℕ) (s : Sizes) (t : Stage) (past : List Event) (e : Event) → is_replication past e ≡ false → is_beside e.verb ≡ true → IsPlacedAt c r s t past → IsPlacedAt c r s t (e ∷ past)
beside c r s t past e turn b at = go (quiet c r past e.by e.verb e.answer b)
  where
    keeps_bringing : (level : Bool) (p : ℕ) → falls_behind c r p past e ≡ false → IsBrought level (bringing_up c r p) (weight s t) past → IsBrought level (bringing_up c r p) (weight s t) (e ∷ past)
    keeps_bringing true p f h = kinds_of_step.stays_closed (bringing_up c r p) past e (unallowed (falls_behind c r p) (limit_now c r) past e f) h
    keeps_bringing false p f h = (beside_keeps c r past e turn b).bringing_up p (weight s t) h

    go : IsQuiet c r past e → IsPlacedAt c r s t (e ∷ past)
    go q = record {
      sizes = record { replicas = at.sizes.replicas; width = at.sizes.width; members = at.sizes.members ∙ sym q.members };
      place = at.place;
      progressing = (beside_keeps c r past e turn b).progressing (weight s t) at.progressing;
      advancing = (beside_keeps c r past e turn b).advancing (weight s t) at.advancing;
      asking = λ p l. (beside_keeps c r past e turn b).asking_after p (asking s p t) (at.asking p l);
      bringing = λ p. keeps_bringing (is_level t) p (q.behind p) (at.bringing p);
    }

in_time : (c : Config) (r : ℕ) (s : Sizes) (t : Stage) (now : List Event) → IsSized s → IsPlacedAt c r s t now → AreInTime c r now
in_time c r s t now z at = record {
  progressing = kinds_of_step.less (progressing c r) (weight s t) 1 now (weights_fall.heavy s t z at.place) at.progressing;
  advancing = kinds_of_step.less (advancing c r) (weight s t) 1 now (weights_fall.heavy s t z at.place) at.advancing;
  asking = λ p l. kinds_of_step.less (asking_after c r p) (asking s p t) 1 now (let a = asking_falls.heavy s p t z (let b = at.sizes.replicas in omega arith) at.place in omega arith) (at.asking p l);
  bringing = λ p. kinds_of_step.less (bringing_up c r p) (weight s t) 1 now (weights_fall.heavy s t z at.place) (brought_room (is_level t) (bringing_up c r p) (weight s t) now (at.bringing p));
}

-- a leadership that is over has made progress, and brings nobody up
pub over_progress : (stops : List Event → Event → Bool) (c : Config) (r : ℕ) (past : List Event) (e : Event) → is_over_after r past e ≡ true → is_progress_by stops c r past e ≡ true
over_progress stops c r past e o = or_true (commits_more c r past e) _ (true_or (is_over_after r past e) _ o)

over : (c : Config) (r : ℕ) (s : Sizes) (t : Stage) (past : List Event) (e : Event) → IsSized s → IsPlacedAt c r s t past → is_replication past e ≡ true → is_over_after r past e ≡ true
    → is_milestone c r past e ≡ false → ((p : ℕ) → falls_behind c r p past e ≡ false) → AreInTime c r (e ∷ past)
over c r s t past e z at turn o m b = record {
  progressing = kinds_of_step.closes (progressing c r) 1 past e (unallowed (is_milestone c r) (limit_now c r) past e m) (met_leaves c r (is_progress_by (is_lagging c r) c r) past e turn (over_progress (is_lagging c r) c r past e o));
  advancing = kinds_of_step.closes (advancing c r) 1 past e (unallowed (is_milestone c r) (limit_now c r) past e m) (met_leaves c r (is_progress_by (is_blocking c r) c r) past e turn (over_progress (is_blocking c r) c r past e o));
  asking = λ p l. asks_on c r p s past e (asking s p t) 1 turn (omega arith) (at.asking p l) (λ k. inl (let a = asking_falls.heavy s p t z (let d = at.sizes.replicas in omega arith) at.place in omega arith));
  bringing = λ p. kinds_of_step.closes (bringing_up c r p) 1 past e (unallowed (falls_behind c r p) (limit_now c r) past e (b p))
      (or_true (is_brought_up c r p (e ∷ past)) (leaves c r (is_over_after r) past e) (met_leaves c r (is_over_after r) past e turn o));
}

resigned : (c : Config) (r : ℕ) (past : List Event) (e : Event) → is_replication past e ≡ true → is_named c r past ≡ false → is_milestone c r past e ≡ false → ((p : ℕ) → falls_behind c r p past e ≡ false) → AreInTime c r (e ∷ past)
resigned c r past e turn n m b = record {
  progressing = kinds_of_step.closes (progressing c r) 1 past e (unallowed (is_milestone c r) (limit_now c r) past e m) (unnamed_leaves c r (is_progress_by (is_lagging c r) c r) past e turn n);
  advancing = kinds_of_step.closes (advancing c r) 1 past e (unallowed (is_milestone c r) (limit_now c r) past e m) (unnamed_leaves c r (is_progress_by (is_blocking c r) c r) past e turn n);
  asking = λ p l. asks_anew c r p past e 1 (omega arith) (unnamed_leaves c r (λ before g. not (leads r before) || is_fencing p g) past e turn n);
  bringing = λ p. kinds_of_step.closes (bringing_up c r p) 1 past e (unallowed (falls_behind c r p) (limit_now c r) past e (b p))
      (or_true (is_brought_up c r p (e ∷ past)) (leaves c r (is_over_after r) past e) (unnamed_leaves c r (is_over_after r) past e turn n));
}

pub places_lead : PlacesLead
places_lead = record { step = step; copy = copy; join = join; milestone = milestone; known = known; last_join = last_join; first = first; beside = beside; in_time = in_time; over = over; resigned = resigned }
