-- While a replica doesn't lead, its counts are closed, or opened only by a background look.
use Rattle.std.proofs.Common.{◌≡◌, ℕ, ◌*◌, inl, inr, Bool, true, false, ◌&&◌, List, [], ◌∷◌, refl, sym, ap, arith, None, subst, true≢false, is_some, length}
use Rattle.std.specs.Prelude.{not, ◌||◌}
use Rattle.mu_model.specs.declared.config.Config.{Config}
use Rattle.mu_model.specs.declared.event.Answer.{Answer}
use Rattle.mu_model.specs.declared.event.Event.{Event}
use Rattle.mu_model.specs.declared.event.Verb.{Verb}
use Rattle.mu_model.specs.Bounds.{is_learning, members}
use Rattle.mu_model.specs.Diligence.{is_joining_step, is_milestone}
use Rattle.mu_model.specs.Knowledge.{commits}
use Rattle.mu_model.specs.Leaderships.{begins_leadership, is_member, proposal_number}
use Rattle.mu_model.specs.Steps.{commits_more, is_fencing, is_lagging, is_named, is_over_after, leads}
use Rattle.mu_model.specs.Stretches.{is_replication}
use Rattle.mu_model.proofs.Basics.{true_or, or_true}
use Rattle.mu_model.specs.Histories.{event_by}
use Rattle.mu_pace.specs.Away.{AwayIsInTime, EndsStretch, IsAway, IsFresh, LooksBeside, TakesIdleStep}
use Rattle.mu_pace.specs.Beside.{is_beside}
use Rattle.mu_pace.specs.Blocking.{is_blocking, is_progress_by}
use Rattle.mu_pace.specs.Counters.{IsInTime, steps_left}
use Rattle.mu_pace.specs.Placed.{AreInTime, IsPlacedAt}
use Rattle.mu_pace.specs.Watches.{advancing, asking_after, bringing_up, falls_behind, is_brought_up, leaves, limit_now, progressing, progressing_by, turns_away}
use Rattle.mu_pace.specs.Weights.{IsSized, Sizes, Stage}
use Rattle.mu_pace.proofs.Beside.{asked_on, beside_keeps, no_milestone, not_more, quiet, unallowed}
use Rattle.mu_pace.proofs.Counting.{allowed_here}
use Rattle.mu_pace.proofs.Placed.{asks_anew, met_leaves, over_progress, places_lead, shut, unnamed_leaves}
use Rattle.mu_pace.proofs.Rooms.{kinds_of_step}

start : (c : Config) (r : ℕ) → IsFresh c r []
start c r = record { progressing = refl; advancing = refl; asking = λ p l left is. let e : 2 * limit_now c r [] ≡ left = cc in omega arith; bringing = λ p. refl }

in_time : (c : Config) (r : ℕ) (now : List Event) → IsAway c r now → AreInTime c r now
in_time c r now a = record { progressing = kinds_of_step.closed (progressing c r) 1 now a.progressing; advancing = kinds_of_step.closed (advancing c r) 1 now a.advancing; asking = a.asking; bringing = a.bringing }

fresh_is_away : (c : Config) (r : ℕ) (now : List Event) → IsFresh c r now → IsAway c r now
fresh_is_away c r now f = record { progressing = f.progressing; advancing = f.advancing; asking = f.asking; bringing = λ p. kinds_of_step.closed (bringing_up c r p) 1 now (f.bringing p) }

-- the counts that an event closes
no_progress : (stops : List Event → Event → Bool) (c : Config) (r : ℕ) (past : List Event) (e : Event) → is_milestone c r past e ≡ false → steps_left (progressing_by stops c r) past ≡ None → steps_left (progressing_by stops c r) (e ∷ past) ≡ None
no_progress stops c r past e m o = kinds_of_step.stays_closed (progressing_by stops c r) past e (unallowed (is_milestone c r) (limit_now c r) past e m) o

shut_bringing : (c : Config) (r p : ℕ) (past : List Event) (e : Event) → falls_behind c r p past e ≡ false → leaves c r (is_over_after r) past e ≡ true → steps_left (bringing_up c r p) (e ∷ past) ≡ None
shut_bringing c r p past e f l = shut (bringing_up c r p) past e (unallowed (falls_behind c r p) (limit_now c r) past e f) (or_true (is_brought_up c r p (e ∷ past)) (leaves c r (is_over_after r) past e) l)

ends_leaves : (c : Config) (r : ℕ) (past : List Event) (e : Event) → is_replication past e ≡ true → EndsStretch c r past e → leaves c r (is_over_after r) past e ≡ true
ends_leaves c r past e t (inl b) = true_or (begins_leadership r e) (turns_away c r (is_over_after r) past e) b
ends_leaves c r past e t (inr (inl o)) = met_leaves c r (is_over_after r) past e t o
ends_leaves c r past e t (inr (inr n)) = unnamed_leaves c r (is_over_after r) past e t n

unled_asks : (c : Config) (r p : ℕ) (past : List Event) (e : Event) → is_replication past e ≡ true → leads r past ≡ false → IsInTime (asking_after c r p) (e ∷ past)
unled_asks c r p past e t n = asks_anew c r p past e 1 (omega arith) (met_leaves c r (λ before g. not (leads r before) || is_fencing p g) past e t (true_or (not (leads r past)) (is_fencing p e) (ap not n)))

over : (c : Config) (r : ℕ) (s : Sizes) (t : Stage) (past : List Event) (e : Event) → IsSized s → IsPlacedAt c r s t past → is_replication past e ≡ true → is_over_after r past e ≡ true
    → is_milestone c r past e ≡ false → ((p : ℕ) → falls_behind c r p past e ≡ false) → IsAway c r (e ∷ past)
over c r s t past e z at turn o m b = record {
  progressing = shut (progressing c r) past e (unallowed (is_milestone c r) (limit_now c r) past e m) (met_leaves c r (is_progress_by (is_lagging c r) c r) past e turn (over_progress (is_lagging c r) c r past e o));
  advancing = shut (advancing c r) past e (unallowed (is_milestone c r) (limit_now c r) past e m) (met_leaves c r (is_progress_by (is_blocking c r) c r) past e turn (over_progress (is_blocking c r) c r past e o));
  asking = (places_lead.over c r s t past e z at turn o m b).asking;
  bringing = (places_lead.over c r s t past e z at turn o m b).bringing;
}

resigned : (c : Config) (r : ℕ) (past : List Event) (e : Event) → is_replication past e ≡ true → is_named c r past ≡ false → is_milestone c r past e ≡ false → ((p : ℕ) → falls_behind c r p past e ≡ false) → IsAway c r (e ∷ past)
resigned c r past e turn n m b = record {
  progressing = shut (progressing c r) past e (unallowed (is_milestone c r) (limit_now c r) past e m) (unnamed_leaves c r (is_progress_by (is_lagging c r) c r) past e turn n);
  advancing = shut (advancing c r) past e (unallowed (is_milestone c r) (limit_now c r) past e m) (unnamed_leaves c r (is_progress_by (is_blocking c r) c r) past e turn n);
  asking = (places_lead.resigned c r past e turn n m b).asking;
  bringing = (places_lead.resigned c r past e turn n m b).bringing;
}

away_step : (c : Config) (r : ℕ) (past : List Event) (e : Event) → IsAway c r past → TakesIdleStep c r past e → EndsStretch c r past e → IsAway c r (e ∷ past)
away_step c r past e a k ends = record {
  progressing = no_progress (is_lagging c r) c r past e k.no_milestone a.progressing;
  advancing = no_progress (is_blocking c r) c r past e k.no_milestone a.advancing;
  asking = λ p l. unled_asks c r p past e k.turn k.not_led;
  bringing = λ p. kinds_of_step.closed (bringing_up c r p) 1 (e ∷ past) (shut_bringing c r p past e (k.none_behind p) (ends_leaves c r past e k.turn ends));
}

begins : (c : Config) (r : ℕ) (past : List Event) (e : Event) → begins_leadership r e ≡ true → is_milestone c r past e ≡ false → ((p : ℕ) → falls_behind c r p past e ≡ false) → IsFresh c r (e ∷ past)
begins c r past e b m n = record {
  progressing = shut (progressing c r) past e (unallowed (is_milestone c r) (limit_now c r) past e m) (true_or (begins_leadership r e) (turns_away c r (is_progress_by (is_lagging c r) c r) past e) b);
  advancing = shut (advancing c r) past e (unallowed (is_milestone c r) (limit_now c r) past e m) (true_or (begins_leadership r e) (turns_away c r (is_progress_by (is_blocking c r) c r) past e) b);
  asking = λ p l. asks_anew c r p past e 1 (omega arith) (true_or (begins_leadership r e) (turns_away c r (λ before g. not (leads r before) || is_fencing p g) past e) b);
  bringing = λ p. shut_bringing c r p past e (n p) (true_or (begins_leadership r e) (turns_away c r (is_over_after r) past e) b);
}

fresh_step : (c : Config) (r : ℕ) (past : List Event) (e : Event) → IsFresh c r past → TakesIdleStep c r past e → IsFresh c r (e ∷ past)
fresh_step c r past e f k = record {
  progressing = no_progress (is_lagging c r) c r past e k.no_milestone f.progressing;
  advancing = no_progress (is_blocking c r) c r past e k.no_milestone f.advancing;
  asking = λ p l. unled_asks c r p past e k.turn k.not_led;
  bringing = λ p. kinds_of_step.stays_closed (bringing_up c r p) past e (unallowed (falls_behind c r p) (limit_now c r) past e (k.none_behind p)) (f.bringing p);
}

away_beside : (c : Config) (r : ℕ) (past : List Event) (e : Event) → IsAway c r past → is_replication past e ≡ false → is_beside e.verb ≡ true → IsAway c r (e ∷ past)
away_beside c r past e a t b = record {
  progressing = no_progress (is_lagging c r) c r past e ((quiet c r past e.by e.verb e.answer b).milestone t) a.progressing;
  advancing = no_progress (is_blocking c r) c r past e ((quiet c r past e.by e.verb e.answer b).milestone t) a.advancing;
  asking = λ p l. (beside_keeps c r past e t b).asking_after p 1 (a.asking p l);
  bringing = λ p. (beside_keeps c r past e t b).bringing_up p 1 (a.bringing p);
}

fresh_beside : (c : Config) (r : ℕ) (past : List Event) (e : Event) → IsFresh c r past → is_replication past e ≡ false → is_beside e.verb ≡ true → IsFresh c r (e ∷ past)
fresh_beside c r past e f t b = record {
  progressing = no_progress (is_lagging c r) c r past e ((quiet c r past e.by e.verb e.answer b).milestone t) f.progressing;
  advancing = no_progress (is_blocking c r) c r past e ((quiet c r past e.by e.verb e.answer b).milestone t) f.advancing;
  asking = λ p l. (beside_keeps c r past e t b).asking_after p 1 (f.asking p l);
  bringing = λ p. kinds_of_step.stays_closed (bringing_up c r p) past e (unallowed (falls_behind c r p) (limit_now c r) past e ((quiet c r past e.by e.verb e.answer b).behind p)) (f.bringing p);
}

-- a look in the background commits nothing, and leaves the members
record IsLook (c : Config) (r : ℕ) (past : List Event) (e : Event) : Type 0 where
  pub milestone : is_replication past e ≡ false → is_milestone c r past e ≡ false
  pub member : (p : ℕ) → is_member r p (e ∷ past) ≡ is_member r p past
  pub members : members c r (e ∷ past) ≡ members c r past

look_at : (c : Config) (r : ℕ) (past : List Event) (by p i : ℕ) (a : Answer) → IsLook c r past (event_by by (Verb.Look p i) a)
look_at c r past by p i a = record {
  milestone = λ t. no_milestone c r past (event_by by (Verb.Look p i) a) (commits_more c r past (event_by by (Verb.Look p i) a)) (is_replication past (event_by by (Verb.Look p i) a)) (is_lagging c r past (event_by by (Verb.Look p i) a)) (not_more (length (commits c r past))) t;
  member = λ q. refl;
  members = refl;
}

looks : (c : Config) (r : ℕ) (past : List Event) (e : Event) → LooksBeside past e → IsLook c r past e
looks c r past e l = subst (λ v. IsLook c r past (event_by e.by v e.answer)) (sym l.verb) (look_at c r past e.by l.region l.position e.answer)

-- bringing up may be opened by it
look_brings : (c : Config) (r p : ℕ) (past : List Event) (e : Event) → is_replication past e ≡ false → IsInTime (bringing_up c r p) past → IsInTime (bringing_up c r p) (e ∷ past)
look_brings c r p past e t h = go (falls_behind c r p past e) refl
  where
    go : (b : Bool) → falls_behind c r p past e ≡ b → IsInTime (bringing_up c r p) (e ∷ past)
    go true b = kinds_of_step.opens_beside (bringing_up c r p) (limit_now c r (e ∷ past)) 1 1 past e (allowed_here (falls_behind c r p) (limit_now c r) past e b) (omega arith) t (omega arith) h
    go false b = kinds_of_step.stays (bringing_up c r p) 1 1 past e (unallowed (falls_behind c r p) (limit_now c r) past e b) t (omega arith) h

away_look : (c : Config) (r : ℕ) (past : List Event) (e : Event) → IsAway c r past → LooksBeside past e → IsAway c r (e ∷ past)
away_look c r past e a l = record {
  progressing = no_progress (is_lagging c r) c r past e ((looks c r past e l).milestone l.beside) a.progressing;
  advancing = no_progress (is_blocking c r) c r past e ((looks c r past e l).milestone l.beside) a.advancing;
  asking = λ p low. asked_on c r p past e l.beside ((looks c r past e l).member p) (looks c r past e l).members 1 (a.asking p low);
  bringing = λ p. look_brings c r p past e l.beside (a.bringing p);
}

fresh_look : (c : Config) (r : ℕ) (past : List Event) (e : Event) → IsFresh c r past → LooksBeside past e → is_some (proposal_number r (e ∷ past)) ≡ false → IsFresh c r (e ∷ past)
fresh_look c r past e f l n = record {
  progressing = no_progress (is_lagging c r) c r past e ((looks c r past e l).milestone l.beside) f.progressing;
  advancing = no_progress (is_blocking c r) c r past e ((looks c r past e l).milestone l.beside) f.advancing;
  asking = λ p low. asked_on c r p past e l.beside ((looks c r past e l).member p) (looks c r past e l).members 1 (f.asking p low);
  bringing = λ p. kinds_of_step.stays_closed (bringing_up c r p) past e (unallowed (falls_behind c r p) (limit_now c r) past e (none (is_joining_step r past e || is_learning c r past e) (is_some (proposal_number r (e ∷ past))) (is_member r p (e ∷ past) && not (is_brought_up c r p (e ∷ past))) n)) (f.bringing p);
}
  where
    none : (a b d : Bool) → b ≡ false → (a && (b && d)) ≡ false
    none true true d h = absurd (true≢false h)
    none true false d h = refl
    none false b d h = refl

pub away_is_in_time : AwayIsInTime
away_is_in_time = record {
  start = start;
  in_time = in_time;
  fresh_is_away = fresh_is_away;
  over = over;
  resigned = resigned;
  away_step = away_step;
  away_beside = away_beside;
  away_look = away_look;
  begins = begins;
  fresh_step = fresh_step;
  fresh_beside = fresh_beside;
  fresh_look = fresh_look;
}
