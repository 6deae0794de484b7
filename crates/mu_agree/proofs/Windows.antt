-- From the form that a machine keeps to the form by stretches.
use Rattle.std.proofs.Common.{◌≡◌, ℕ, suc, ◌+◌, ◌*◌, ◌<◌, ◌≤◌, Bool, true, false, cond, List, [], ◌∷◌, ◌++◌, length, refl, sym, arith, subst, true≢false}
use Rattle.std.specs.Prelude.{if◌then◌else◌, not, ◌||◌, ◌&&◌}
use Rattle.std.proofs.lemmas.List.{append_assoc}
use Rattle.mu_model.specs.declared.config.Config.{Config}
use Rattle.mu_model.specs.declared.event.Event.{Event}
use Rattle.mu_agree.specs.Paces.{AsksRecently, IsRecent, IsRecentStep, IsSpaced, ReadsRecently, asks_or_rests, steps_since}
use Rattle.mu_model.specs.Bounds.{cycle}
use Rattle.mu_model.specs.Diligence.{AsksInTime, ReadsInTime, has_to_ask}
use Rattle.mu_model.specs.Histories.{has, since}
use Rattle.mu_model.specs.Steps.{is_ask_read, is_asking, is_beat, is_beat_read, is_fencing, replicates}
use Rattle.mu_model.specs.Stretches.{IsStretch, each_step, is_replication, replications, some_step}

recent_older : (test : Event → Bool) (k : ℕ) (newer older : List Event) → IsRecent test k (newer ++ older) → IsRecent test k older
recent_older test k [] older h = h
recent_older test k (e ∷ newer) older h = recent_older test k newer older h.0

-- a stretch in which nothing passes lies since the last that passes
since_long : (test : Event → Bool) (window older : List Event) → has test window ≡ false → length window ≤ length (since test (window ++ older))
since_long test [] older h = omega arith
since_long test (e ∷ window) older h = go (test e) h (since_long test window older)
  where
    go : (t : Bool) → cond t true (has test window) ≡ false → (has test window ≡ false → length window ≤ length (since test (window ++ older))) → suc (length window) ≤ length (cond t [] (e ∷ since test (window ++ older)))
    go true h ih = absurd (true≢false h)
    go false h ih = let l = ih h in omega arith

recent_last : (test : Event → Bool) (k : ℕ) (past : List Event) → 0 < k → IsRecent test k past → length (since test past) < k
recent_last test k [] l h = l
recent_last test k (e ∷ past) l h = h.1

pub recent_window : (test : Event → Bool) (k : ℕ) (past window older : List Event) → 0 < k → IsRecent test k past → IsStretch past window older → length window ≡ k → has test window ≡ true
recent_window test k past window older l h s e = go (has test window) refl
  where
    here : IsRecent test k (window ++ older)
    here = recent_older test k s.newer (window ++ older) (subst (IsRecent test k) s.is h)

    go : (t : Bool) → has test window ≡ t → t ≡ true
    go true _ = refl
    go false f = let m = since_long test window older f in let n = recent_last test k (window ++ older) l here in absurd (omega arith)

spaced_older : (test : Event → Bool) (k : ℕ) (newer older : List Event) → IsSpaced test k (newer ++ older) → IsSpaced test k older
spaced_older test k [] older h = h
spaced_older test k (e ∷ newer) older h = spaced_older test k newer older h.0

since_reach : (test : Event → Bool) (between older : List Event) (e : Event) → test e ≡ true → (has test (between ++ e ∷ older) ≡ true) × (length (since test (between ++ e ∷ older)) ≤ length between)
since_reach test [] older e h = (rw h refl, rw h (omega arith))
since_reach test (f ∷ between) older e h = go (test f) (since_reach test between older e h)
  where
    go : (t : Bool) → (has test (between ++ e ∷ older) ≡ true) × (length (since test (between ++ e ∷ older)) ≤ length between)
        → (cond t true (has test (between ++ e ∷ older)) ≡ true) × (length (cond t [] (f ∷ since test (between ++ e ∷ older))) ≤ suc (length between))
    go true ih = (refl, omega arith)
    go false ih = (ih.0, let l = ih.1 in omega arith)

pub spaced_apart : (test : Event → Bool) (k : ℕ) (past : List Event) (later earlier : Event) (between older : List Event) → IsSpaced test k past → IsStretch past (later ∷ between ++ earlier ∷ []) older
    → test later ≡ true → test earlier ≡ true → k ≤ length between
spaced_apart test k past later earlier between older h s a b =
    let here : IsSpaced test k (later ∷ (between ++ earlier ∷ older)) =
    spaced_older test k s.newer (later ∷ (between ++ earlier ∷ older))
    (subst (λ x. IsSpaced test k (s.newer ++ later ∷ x)) (append_assoc between (earlier ∷ []) older) (subst (IsSpaced test k) s.is h)) in
    let r = since_reach test between older earlier b in
    let l = here.1 a r.0 in
    let m = r.1 in omega arith

-- reads that are recent at each moment are made in each stretch of one cycle
pub reads_in_time : (c : Config) (r : ℕ) (past : List Event) → ReadsRecently c r past → ((q : ℕ) → IsSpaced (is_beat_read q) (4 * c.replicas + 43) past) → ReadsInTime c r past
reads_in_time c r past h sp = record {
  beat = λ window older s e. recent_window is_beat (cycle c) past window older (omega arith) h.beat s e;
  beats = λ q window older l d s e. recent_window (is_beat_read q) (cycle c) past window older (omega arith) (h.beats q l d) s e;
  asks = λ w window older l s e. recent_window (is_ask_read w) (cycle c) past window older (omega arith) (h.asks w l) s e;
  apart = λ q later earlier between older s a b. spaced_apart (is_beat_read q) (4 * c.replicas + 43) past later earlier between older (sp q) s a b;
}

-- the same over replication events
recent_step_older : (held : List Event → Event → Bool) (k : ℕ) (newer older : List Event) → IsRecentStep held k (newer ++ older) → IsRecentStep held k older
recent_step_older held k [] older h = h
recent_step_older held k (e ∷ newer) older h = recent_step_older held k newer older h.0

steps_long : (held : List Event → Event → Bool) (window older : List Event) → some_step held window older ≡ false → replications window older ≤ steps_since held (window ++ older)
steps_long held [] older h = omega arith
steps_long held (e ∷ window) older h = go (held (window ++ older) e) (is_replication (window ++ older) e) h (steps_long held window older)
  where
    go : (t u : Bool) → (if t then true else some_step held window older) ≡ false → (some_step held window older ≡ false → replications window older ≤ steps_since held (window ++ older))
        → (if u then replications window older + 1 else replications window older) ≤ (if t then 0 else (if u then steps_since held (window ++ older) + 1 else steps_since held (window ++ older)))
    go true u h ih = absurd (true≢false h)
    go false true h ih = let l = ih h in omega arith
    go false false h ih = ih h

recent_step_last : (held : List Event → Event → Bool) (k : ℕ) (past : List Event) → 0 < k → IsRecentStep held k past → steps_since held past < k
recent_step_last held k [] l h = l
recent_step_last held k (e ∷ past) l h = h.1

pub stretch_has : (held : List Event → Event → Bool) (k : ℕ) (past window older : List Event) → 0 < k → IsRecentStep held k past → IsStretch past window older → replications window older ≡ k → some_step held window older ≡ true
stretch_has held k past window older l h s e = go (some_step held window older) refl
  where
    here : IsRecentStep held k (window ++ older)
    here = recent_step_older held k s.newer (window ++ older) (subst (IsRecentStep held k) s.is h)

    go : (t : Bool) → some_step held window older ≡ t → t ≡ true
    go true _ = refl
    go false f = let m = steps_long held window older f in let n = recent_step_last held k (window ++ older) l here in absurd (omega arith)

-- if the need holds throughout, the step that held is the wanted one
replicated : (c : Config) (r : ℕ) (test : Event → Bool) (window older : List Event) → each_step (λ before e. not (is_replication before e) || has_to_ask c r before) window older ≡ true
    → some_step (asks_or_rests c r test) window older ≡ true → replicates (λ before e. test e) window older ≡ true
replicated c r test [] older n h = absurd (true≢false (sym h))
replicated c r test (e ∷ window) older n h = go (is_replication (window ++ older) e) (test e) (has_to_ask c r (window ++ older)) n h (replicated c r test window older)
  where
    go : (t u w : Bool) → (if not t || w then each_step (λ before e. not (is_replication before e) || has_to_ask c r before) window older else false) ≡ true
        → (if t && (u || not w) then true else some_step (asks_or_rests c r test) window older) ≡ true
        → (each_step (λ before e. not (is_replication before e) || has_to_ask c r before) window older ≡ true → some_step (asks_or_rests c r test) window older ≡ true → replicates (λ before e. test e) window older ≡ true)
        → (if t && u then true else replicates (λ before e. test e) window older) ≡ true
    go true true w n h ih = refl
    go true false true n h ih = ih n h
    go true false false n h ih = absurd (true≢false (sym n))
    go false u w n h ih = ih n h

pub asks_in_time : (c : Config) (r : ℕ) (past : List Event) → AsksRecently c r past → AsksInTime c r past
asks_in_time c r past h = record {
  asks = λ p window older l s e n. replicated c r (is_asking p) window older n (stretch_has (asks_or_rests c r (is_asking p)) (17 * c.replicas + 1) past window older (omega arith) (h.asks p l) s e);
  fences = λ p window older l s e n. replicated c r (is_fencing p) window older n (stretch_has (asks_or_rests c r (is_fencing p)) (17 * c.replicas + 1) past window older (omega arith) (h.fences p l) s e);
}
