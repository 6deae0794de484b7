-- Grants and evidence: the paces without a leadership.
use Rattle.std.proofs.Common.{◌≡◌, ℕ, ◌+◌, Bool, true, false, List, [], ◌∷◌, ◌++◌, refl, arith}
use Rattle.std.specs.Prelude.{if◌then◌else◌, not, ◌||◌, ◌&&◌}
use Rattle.std.proofs.lemmas.Bool.{and_from}
use Rattle.mu_model.specs.declared.config.Config.{Config}
use Rattle.mu_model.specs.declared.event.Event.{Event}
use Rattle.mu_model.specs.Bounds.{cycle}
use Rattle.mu_model.specs.Histories.{has}
use Rattle.mu_model.specs.Serving.{has_unserved_ask}
use Rattle.mu_model.specs.Steps.{is_ask_read, is_fencing, is_granting, is_missed_at, is_named, named_throughout, replicates}
use Rattle.mu_model.specs.Stretches.{is_replication, replications}
use Rattle.mu_pace.specs.Paces.{GrantsComeInTime, MissesAreExplained}
use Rattle.mu_pace.specs.Watches.{explaining, granting}
use Rattle.mu_pace.proofs.Counting.{allowed_here, shorter}
use Rattle.mu_pace.proofs.Stretched.{all_count, none_passes, none_turns_away, unpaid}

-- a test that can't fail passes
pub by_failing : (t : Bool) → (t ≡ false → ⊥) → t ≡ true
by_failing true h = refl
by_failing false h = absurd (h refl)

pub grants_come : GrantsComeInTime
grants_come c r past h w e window older s a u l =
    by_failing (has is_granting window) (λ none.
    let k = shorter (granting c r w) (cycle c) past window (e ∷ older) (h w) s
    (allowed_here (λ past e. is_ask_read w e && has_unserved_ask r (e ∷ past) w) (λ now. cycle c) older e (and_from (is_ask_read w e) (has_unserved_ask r (e ∷ older) w) a u))
    (none_passes is_granting window (e ∷ older) none) in
    let m = all_count window (e ∷ older) in let n = unpaid window (e ∷ older) in absurd (omega arith))

-- nothing is waited for in a stretch without replication events
quiet : (c : Config) (r : ℕ) (met : List Event → Event → Bool) (window older : List Event) → replications window older ≡ 0 → (named_throughout c r window older ≡ true) × (replicates met window older ≡ false)
quiet c r met [] older z = (refl, refl)
quiet c r met (e ∷ window) older z = go (is_replication (window ++ older) e) z (quiet c r met window older)
  where
    go : (t : Bool) → (if t then replications window older + 1 else replications window older) ≡ 0 → (replications window older ≡ 0 → (named_throughout c r window older ≡ true) × (replicates met window older ≡ false))
        → ((if not t || is_named c r (window ++ older) then named_throughout c r window older else false) ≡ true) × ((if t && met (window ++ older) e then true else replicates met window older) ≡ false)
    go true z ih = absurd (omega arith)
    go false z ih = ih z

pub misses_explained : MissesAreExplained
misses_explained c r past h p e next between older s m z t n =
    by_failing (is_fencing p next) (λ other.
    let met : List Event → Event → Bool = (λ past e. is_fencing p e) in
    let q = quiet c r met between (e ∷ older) z in
    let named : named_throughout c r (next ∷ between) (e ∷ older) ≡ true = rw (t, n) q.0 in
    let unmet : replicates met (next ∷ between) (e ∷ older) ≡ false = rw (t, other) q.1 in
    let count : replications (next ∷ between) (e ∷ older) ≡ 1 = rw t (omega (arith, z)) in
    let k = shorter (explaining c r p) 1 past (next ∷ between) (e ∷ older) (h p) s (allowed_here (λ past e. is_missed_at p e) (λ now. 1) older e m) (none_turns_away c r met (next ∷ between) (e ∷ older) named unmet) in
    let u = unpaid (next ∷ between) (e ∷ older) in absurd (omega arith))
