-- Tests along a stretch.
use Rattle.std.proofs.Common.{◌≡◌, ℕ, Bool, true, false, List, [], ◌∷◌, ◌++◌, length, refl, sym, arith, true≢false}
use Rattle.std.specs.Prelude.{if◌then◌else◌, not, ◌||◌, ◌&&◌}
use Rattle.mu_model.specs.declared.config.Config.{Config}
use Rattle.mu_model.specs.declared.event.Event.{Event}
use Rattle.mu_model.specs.Bounds.{stays}
use Rattle.mu_model.specs.Histories.{has}
use Rattle.mu_model.specs.Leaderships.{begins_leadership}
use Rattle.mu_model.specs.Steps.{is_named, named_throughout, replicates}
use Rattle.mu_model.specs.Stretches.{each_step, is_replication, some_step, steps}
use Rattle.mu_pace.specs.Counters.{paid}
use Rattle.mu_pace.specs.Watches.{every, leaves, nothing, turns_away}
use Rattle.std.proofs.lemmas.Bool.{not-true}

-- a stretch gives no more steps if none of its steps gives any
pub unpaid : (window older : List Event) → paid nothing window older ≡ 0
unpaid [] older = refl
unpaid (e ∷ window) older = let ih = unpaid window older in omega arith

-- if each event counts a stretch has as many steps as events
pub all_count : (window older : List Event) → steps every window older ≡ length window
all_count [] older = refl
all_count (e ∷ window) older = let ih = all_count window older in omega arith

-- if no event passes none of the steps does
pub none_passes : (test : Event → Bool) (window older : List Event) → has test window ≡ false → each_step (λ past e. not (test e)) window older ≡ true
none_passes test [] older h = refl
none_passes test (e ∷ window) older h = go (test e) h (none_passes test window older)
  where
    go : (t : Bool) → (if t then true else has test window) ≡ false → (has test window ≡ false → each_step (λ past e. not (test e)) window older ≡ true) → (if not t then each_step (λ past e. not (test e)) window older else false) ≡ true
    go true h ih = absurd (true≢false h)
    go false h ih = ih h

-- the same of a test that sees what came before
pub no_step_passes : (test : List Event → Event → Bool) (window older : List Event) → some_step test window older ≡ false → each_step (λ past e. not (test past e)) window older ≡ true
no_step_passes test [] older h = refl
no_step_passes test (e ∷ window) older h = go (test (window ++ older) e) h (no_step_passes test window older)
  where
    go : (t : Bool) → (if t then true else some_step test window older) ≡ false → (some_step test window older ≡ false → each_step (λ past e. not (test past e)) window older ≡ true)
        → (if not t then each_step (λ past e. not (test past e)) window older else false) ≡ true
    go true h ih = absurd (true≢false h)
    go false h ih = ih h

-- if no step passes either of two tests
pub neither : (a b : List Event → Event → Bool) (window older : List Event) → each_step (λ past e. not (a past e)) window older ≡ true → each_step (λ past e. not (b past e)) window older ≡ true
    → each_step (λ past e. not (a past e || b past e)) window older ≡ true
neither a b [] older h k = refl
neither a b (e ∷ window) older h k = go (a (window ++ older) e) (b (window ++ older) e) h k (neither a b window older)
  where
    go : (t u : Bool) → (if not t then each_step (λ past e. not (a past e)) window older else false) ≡ true → (if not u then each_step (λ past e. not (b past e)) window older else false) ≡ true
        → (each_step (λ past e. not (a past e)) window older ≡ true → each_step (λ past e. not (b past e)) window older ≡ true → each_step (λ past e. not (a past e || b past e)) window older ≡ true)
        → (if not (t || u) then each_step (λ past e. not (a past e || b past e)) window older else false) ≡ true
    go true u h k ih = absurd (true≢false (sym h))
    go false true h k ih = absurd (true≢false (sym k))
    go false false h k ih = ih h k

-- no replication event turns away if r is named before each and none meets what is waited for
pub none_turns_away : (c : Config) (r : ℕ) (met : List Event → Event → Bool) (window older : List Event) → named_throughout c r window older ≡ true → replicates met window older ≡ false
    → each_step (λ past e. not (turns_away c r met past e)) window older ≡ true
none_turns_away c r met [] older n m = refl
none_turns_away c r met (e ∷ window) older n m = go (is_replication (window ++ older) e) (is_named c r (window ++ older)) (met (window ++ older) e) n m (none_turns_away c r met window older)
  where
    go : (t u v : Bool) → (if not t || u then named_throughout c r window older else false) ≡ true → (if t && v then true else replicates met window older) ≡ false
        → (named_throughout c r window older ≡ true → replicates met window older ≡ false → each_step (λ past e. not (turns_away c r met past e)) window older ≡ true)
        → (if not (t && (not u || v)) then each_step (λ past e. not (turns_away c r met past e)) window older else false) ≡ true
    go true false v n m ih = absurd (true≢false (sym n))
    go true true true n m ih = absurd (true≢false m)
    go true true false n m ih = ih n m
    go false u v n m ih = ih n m

-- and none leaves if the stretch is of one leadership too
pub none_leaves : (c : Config) (r : ℕ) (met : List Event → Event → Bool) (window older : List Event) → stays r window ≡ true → named_throughout c r window older ≡ true → replicates met window older ≡ false
    → each_step (λ past e. not (leaves c r met past e)) window older ≡ true
none_leaves c r met window older s n m =
    neither (λ past e. begins_leadership r e) (turns_away c r met) window older (none_passes (begins_leadership r) window older (not-true (has (begins_leadership r) window) s)) (none_turns_away c r met window older n m)
