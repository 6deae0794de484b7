-- The paces of the replayer and of heads.
use Rattle.std.proofs.Common.{◌≡◌, ℕ, ◌+◌, ◌*◌, Bool, true, false, List, [], ◌∷◌, ◌++◌, length, refl, sym, arith, true≢false}
use Rattle.std.specs.Prelude.{if◌then◌else◌, min, not, ◌||◌, ◌&&◌}
use Rattle.std.proofs.Math.Nat.{mul-pos}
use Rattle.std.proofs.lemmas.Bool.{lt-ltb}
use Rattle.mu_agree.proofs.Windows.{recent_window}
use Rattle.mu_model.specs.declared.config.Config.{Config}
use Rattle.mu_model.specs.declared.event.Event.{Event}
use Rattle.mu_model.specs.Bounds.{cycle}
use Rattle.mu_model.specs.Diligence.{completes_row}
use Rattle.mu_model.specs.Histories.{greatest, has}
use Rattle.mu_model.specs.Knowledge.{applied, greatest_fuo_read}
use Rattle.mu_model.specs.Placing.{fuo_read_or_raised}
use Rattle.mu_model.specs.Regions.{region_head}
use Rattle.mu_model.specs.Steps.{is_fuo_of, is_head_of, is_head_raise, is_named, knows_more, unnamed_throughout}
use Rattle.mu_model.specs.Stretches.{each_step, is_replication, some_step}
use Rattle.mu_pace.specs.Paces.{HeadsAreTold, ReplayGoesOn}
use Rattle.mu_pace.specs.Watches.{is_head_due, is_replay_due, raising_head, reading_own, replaying}
use Rattle.mu_agree.specs.Moments.{is_named_turn}
use Rattle.mu_pace.proofs.Counting.{allowed_now, shorter}
use Rattle.mu_pace.proofs.Hosts.{by_failing}
use Rattle.mu_pace.proofs.Stretched.{all_count, neither, no_step_passes, none_passes, unpaid}

-- if r is never named there is no turn at which it is
no_named_turn : (c : Config) (r : ℕ) (window older : List Event) → unnamed_throughout c r window older ≡ true → each_step (λ past e. not (is_named_turn c r past e)) window older ≡ true
no_named_turn c r [] older u = refl
no_named_turn c r (e ∷ window) older u = go (is_replication (window ++ older) e) (is_named c r (window ++ older)) u (no_named_turn c r window older)
  where
    go : (t n : Bool) → (if not t || not n then unnamed_throughout c r window older else false) ≡ true → (unnamed_throughout c r window older ≡ true → each_step (λ past e. not (is_named_turn c r past e)) window older ≡ true)
        → (if not (t && n) then each_step (λ past e. not (is_named_turn c r past e)) window older else false) ≡ true
    go true true u ih = absurd (true≢false (sym u))
    go true false u ih = ih u
    go false n u ih = ih u

pub replay_goes_on : ReplayGoesOn
replay_goes_on c r past own rows = record {
  reads = λ window older s l u. by_failing (has (is_fuo_of r) window) (λ none.
      let k = shorter (reading_own c r) (8 * c.replicas + 88) past window older own s (allowed_now (λ now. true) (λ now. 8 * c.replicas + 88) older refl)
      (neither (λ past e. is_fuo_of r e) (is_named_turn c r) window older (none_passes (is_fuo_of r) window older none) (no_named_turn c r window older u)) in
      let m = all_count window older in let n = unpaid window older in absurd (omega arith));
  learns = λ window older s l u low. by_failing (some_step (λ before e. knows_more c r before e || completes_row c r before e) window older) (λ none.
      let k = shorter (replaying c r) (8 * c.replicas + 88) past window older rows s
      (allowed_now (is_replay_due c r) (λ now. 8 * c.replicas + 88) older (lt-ltb (length (applied c r older)) (greatest_fuo_read r r older) low))
      (neither (λ past e. knows_more c r past e || completes_row c r past e) (is_named_turn c r) window older (no_step_passes (λ past e. knows_more c r past e || completes_row c r past e) window older none) (no_named_turn c r window older u)) in
      let m = all_count window older in let n = unpaid window older in absurd (omega arith));
}

pub heads_told : HeadsAreTold
heads_told c r past own others = record {
  raises = λ window older s low l. by_failing (has is_head_raise window) (λ none.
      let k = shorter (raising_head c r) (cycle c) past window older own s
      (allowed_now (is_head_due c r) (λ now. cycle c) older (lt-ltb (region_head r older) (min (length (applied c r older)) (greatest (λ e. fuo_read_or_raised r r e.by e.verb e.answer) older)) low))
      (none_passes is_head_raise window older none) in
      let m = all_count window older in let n = unpaid window older in absurd (omega arith));
  reads = λ q window older low other s l. recent_window (is_head_of q) (c.replicas * cycle c) past window older (mul-pos (omega arith) (omega arith)) (others q low other) s l;
}
