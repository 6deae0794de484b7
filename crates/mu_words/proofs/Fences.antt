-- The law of word steps for fences.
use Rattle.std.proofs.Common.{◌≡◌, ℕ, ◌+◌, ◌*◌, ◌/◌, ◌%◌, ◌<◌, ◌≤◌, Bool, true, false, cond, ◌==◌, List, ◌∷◌, refl, sym, ◌∙◌, ap, arith, Some, eqb-true, true≢false}
use Rattle.std.specs.Int.Bits.{bit_or, bit_and, or_add_and}
use Rattle.std.specs.Int.{bit_at}
use Rattle.std.specs.declared.option.Option.{Option}
use Rattle.std.proofs.lemmas.Bool.{eqb-false}
use Rattle.std.proofs.lemmas.Nat.Bits.{and_pow}
use Rattle.mu_model.specs.declared.config.Config.{Config}
use Rattle.mu_model.specs.declared.event.Answer.{Answer}
use Rattle.mu_model.specs.declared.event.Event.{Event}
use Rattle.mu_model.specs.declared.event.Target.{Target}
use Rattle.mu_model.specs.declared.event.Verb.{Verb}
use Rattle.mu_model.specs.Allowed.{Needs}
use Rattle.mu_model.specs.Answers.{entered_or_lost}
use Rattle.mu_model.specs.Histories.{part}
use Rattle.mu_model.specs.Leaderships.{noted_grant}
use Rattle.mu_model.specs.Legal.{IsLegalHistory}
use Rattle.mu_model.specs.Regions.{fence, fence_closing, fence_grant, fence_owner, fence_target}
use Rattle.mu_model.proofs.Basics.{same_number}
use Rattle.mu_agree.proofs.Legal.{legal_induction, event_after}
use Rattle.mu_words.specs.Words.{owner_code, target_code, closing_code, OwnerFits, TargetFits, fence_in}
use Rattle.mu_words.specs.Standing.{fence_word}
use Rattle.mu_words.specs.Steps.{StepsByWord}
use Rattle.mu_words.proofs.Limits.{Limits}
use Rattle.mu_words.proofs.Others.{others_keep}
use Rattle.mu_words.proofs.Ranges.{grant_fits}
use Rattle.mu_words.proofs.Packing.{owner_small, target_small, bits_grant, bits_closing, fence_back}
use Rattle.mu_model.proofs.Putting.{MayEnter}

-- the fields of fences are in their ranges, and an owner was granted
pub record FenceFits (p : ℕ) (owner : Option ℕ) (grant : ℕ) (target : Target) : Type 0 where
  pub by_owner : OwnerFits owner
  pub with_target : TargetFits target
  pub granted : (w : ℕ) → owner ≡ Some w → 1 ≤ grant

abbrev pub Fitting : ℕ → List Event → Type 0
Fitting p past = FenceFits p (fence_owner p past) (fence_grant p past) (fence_target p past)

pub enter_fits : (c : Config) (r : ℕ) (past : List Event) (p : ℕ) (t : Target) → Limits c → MayEnter c r past p t → TargetFits t
enter_fits c r past p Target.None l h = tt
enter_fits c r past p Target.Min l h = tt
enter_fits c r past p (Target.Place s) l h = let i = l.ring_most in let j = h.1.1.0 in omega arith

fits_enter : (p by q : ℕ) (t : Target) (past : List Event) → TargetFits t → Fitting p past → (a : Answer) → (y : Bool) → (q == p) ≡ y
    → Fitting p (record { by = by; verb = Verb.Enter q t; answer = a } ∷ past)
fits_enter p by q t past h s Answer.Entered true hy = rw hy (record { by_owner = s.by_owner; with_target = h; granted = s.granted })
fits_enter p by q t past h s Answer.Entered false hy = rw hy s
fits_enter p by q t past h s a y hy = s

fits_grant : (c : Config) (p by w : ℕ) (past : List Event) → w < 7 → Fitting p past → (t : Bool) → (by == p) ≡ t → Fitting p (event_after c past by (Verb.Grant w) ∷ past)
fits_grant c p by w past h s true k = rw k (record { by_owner = h; with_target = tt; granted = λ x e. omega arith })
fits_grant c p by w past h s false k = rw k s

fits_step : (c : Config) (p by : ℕ) (v : Verb) (past : List Event) → Limits c → Needs c by (part by past) v → Fitting p past → Fitting p (event_after c past by v ∷ past)
fits_step c p by (Verb.Enter q t) past l may s = fits_enter p by q t past (enter_fits c by (part by past) q t l may.1) s (entered_or_lost (noted_grant by q past) (fence q past)) (q == p) refl
fits_step c p by (Verb.Grant w) past l may s = fits_grant c p by w past (let i = l.replicas in let j = may.0 in omega arith) s (by == p) refl
fits_step c p by v past l may s = s

pub fitting : (c : Config) (p : ℕ) (past : List Event) → Limits c → IsLegalHistory c past → Fitting p past
fitting c p past l h = legal_induction c (Fitting p) (record { by_owner = tt; with_target = tt; granted = λ w e. cc }) (λ past by v h may s. fits_step c p by v past l may.may s) past h

pub fence_read : (c : Config) (p : ℕ) (past : List Event) → Limits c → IsLegalHistory c past → fence_in (fence_word (fence p past)) ≡ fence p past
fence_read c p past l h = let s = fitting c p past l h in fence_back (fence p past) (grant_fits c p past l h) s.by_owner s.with_target

pub fence_step : (c : Config) (past : List Event) (r p : ℕ) → Limits c → IsLegalHistory c past → StepsByWord c r past (Verb.Fence p)
fence_step c past r p l h = record { answer = ap Answer.Seen (fence_read c p past l h); here = refl; others = others_keep c past r (Verb.Fence p) }

-- a `Close` is a fetch-or
closed_cases : (w d : ℕ) → bit_at w 14 ≡ d → d < 2 → bit_or w 16384 ≡ cond (w / 16384 % 2 == 1) w (w + 16384)
closed_cases w d e h = go (w / 16384 % 2 == 1) refl
  where
    anded : bit_and w 16384 ≡ bit_at w 14 * 16384
    anded = and_pow w 14

    go : (t : Bool) → (w / 16384 % 2 == 1) ≡ t → bit_or w 16384 ≡ cond t w (w + 16384)
    go true k = let i = eqb-true (w / 16384 % 2) 1 k in let j : bit_at w 14 ≡ 1 = i in omega (arith, or_add_and w 16384, anded)
    go false k = let i = eqb-false (w / 16384 % 2) 1 k in let j : bit_at w 14 ≡ 0 = zero_bit i in omega (arith, or_add_and w 16384, anded)
      where
        zero_bit : (w / 16384 % 2 ≡ 1 → ⊥) → w / 16384 % 2 ≡ 0
        zero_bit n = grind (arith, n)

closed_or : (w : ℕ) → bit_or w 16384 ≡ cond (w / 16384 % 2 == 1) w (w + 16384)
closed_or w = closed_cases w (bit_at w 14) refl (let k : w / 16384 % 2 < 2 = omega arith in k)

close_word : (g : ℕ) (b : Bool) (o t : ℕ) → o < 8 → t < 2048 → (d : Bool) → ((g * 32768 + closing_code b + o * 2048 + t) / 16384 % 2 == 1) ≡ d → d ≡ b
    → g * 32768 + 16384 + o * 2048 + t ≡ cond d (g * 32768 + closing_code b + o * 2048 + t) (g * 32768 + closing_code b + o * 2048 + t + 16384)
close_word g true o t h k true e f = refl
close_word g true o t h k false e f = absurd (true≢false (sym f))
close_word g false o t h k true e f = absurd (true≢false f)
close_word g false o t h k false e f = omega arith

pub close_step : (c : Config) (past : List Event) (r : ℕ) → Limits c → IsLegalHistory c past → StepsByWord c r past Verb.Close
close_step c past r l h =
    let s = fitting c r past l h in
    let o = owner_small (fence_owner r past) s.by_owner in
    let t = target_small (fence_target r past) s.with_target in
    record {
      answer = ap Answer.Seen (fence_read c r past l h);
      here = rw (same_number r) (close_word (fence_grant r past) (fence_closing r past) (owner_code (fence_owner r past)) (target_code (fence_target r past)) o t (fence_word (fence r past) / 16384 % 2 == 1) refl
          (bits_closing (fence_grant r past) (fence_closing r past) (owner_code (fence_owner r past)) (target_code (fence_target r past)) o t)
          ∙ sym (closed_or (fence_word (fence r past))));
      others = others_keep c past r Verb.Close;
    }

pub grant_step : (c : Config) (past : List Event) (r w : ℕ) → Limits c → IsLegalHistory c past → StepsByWord c r past (Verb.Grant w)
grant_step c past r w l h =
    let s = fitting c r past l h in
    let k = bits_grant (fence_grant r past) (fence_closing r past) (owner_code (fence_owner r past)) (target_code (fence_target r past)) (grant_fits c r past l h) (owner_small (fence_owner r past) s.by_owner) (target_small (fence_target r past) s.with_target) in
    record {
      answer = refl;
      here = rw (same_number r) (omega (arith, k));
      others = others_keep c past r (Verb.Grant w);
    }
