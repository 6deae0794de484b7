-- What is read off a packed fence, minimum or slot word.
use Rattle.std.proofs.Common.{◌≡◌, ℕ, suc, ◌+◌, ◌*◌, ◌/◌, ◌%◌, ◌<◌, Bool, true, false, ◌==◌, refl, sym, ◌∙◌, ap, arith, Some, None}
use Rattle.std.specs.declared.option.Option.{Option}
use Rattle.std.proofs.lemmas.Bool.{ne_eqb}
use Rattle.mu_model.specs.declared.event.Fence.{Fence}
use Rattle.mu_model.specs.declared.event.Target.{Target}
use Rattle.mu_words.specs.Words.{owner_code, target_code, closing_code, OwnerFits, TargetFits, owner_from, target_from, fence_in}
use Rattle.mu_words.specs.Standing.{fence_word}

pub owner_small : (o : Option ℕ) → OwnerFits o → owner_code o < 8
owner_small None h = omega arith
owner_small (Some w) h = omega arith

pub target_small : (t : Target) → TargetFits t → target_code t < 2048
target_small Target.None h = omega arith
target_small Target.Min h = omega arith
target_small (Target.Place s) h = omega arith

owner_back : (o : Option ℕ) → OwnerFits o → owner_from (owner_code o) ≡ o
owner_back None h = refl
owner_back (Some w) h = rw (ne_eqb w 7 (λ e. omega arith)) refl

target_back : (t : Target) → target_from (target_code t) ≡ t
target_back Target.None = refl
target_back Target.Min = refl
target_back (Target.Place s) = ap target_from (let e : s + 2 ≡ suc (suc s) = omega arith in e)

pub bits_grant : (g : ℕ) (b : Bool) (o t : ℕ) → g < 131072 → o < 8 → t < 2048 → (g * 32768 + closing_code b + o * 2048 + t) / 32768 % 131072 ≡ g
bits_grant g true o t i h k = omega arith
bits_grant g false o t i h k = omega arith

pub bits_closing : (g : ℕ) (b : Bool) (o t : ℕ) → o < 8 → t < 2048 → ((g * 32768 + closing_code b + o * 2048 + t) / 16384 % 2 == 1) ≡ b
bits_closing g true o t h k = rw (let e : (g * 32768 + 16384 + o * 2048 + t) / 16384 % 2 ≡ 1 = omega arith in e) refl
bits_closing g false o t h k = rw (let e : (g * 32768 + 0 + o * 2048 + t) / 16384 % 2 ≡ 0 = omega arith in e) refl

pub bits_owner : (g : ℕ) (b : Bool) (o t : ℕ) → o < 8 → t < 2048 → (g * 32768 + closing_code b + o * 2048 + t) / 2048 % 8 ≡ o
bits_owner g true o t h k = omega arith
bits_owner g false o t h k = omega arith

pub bits_target : (g : ℕ) (b : Bool) (o t : ℕ) → o < 8 → t < 2048 → (g * 32768 + closing_code b + o * 2048 + t) % 2048 ≡ t
bits_target g true o t h k = omega arith
bits_target g false o t h k = omega arith

abbrev fence_with : Option ℕ → ℕ → Bool → Target → Fence
fence_with o g b t = record { owner = o; grant = g; closing = b; target = t }

-- the fence of a packed word
pub fence_back : (f : Fence) → f.grant < 131072 → OwnerFits f.owner → TargetFits f.target → fence_in (fence_word f) ≡ f
fence_back f m h k =
    let o = owner_small f.owner h in
    let t = target_small f.target k in
    let w = fence_word f in
    ap (λ x. fence_with (owner_from x) (w / 32768 % 131072) (w / 16384 % 2 == 1) (target_from (w % 2048))) (bits_owner f.grant f.closing (owner_code f.owner) (target_code f.target) o t)
    ∙ ap (λ x. fence_with x (w / 32768 % 131072) (w / 16384 % 2 == 1) (target_from (w % 2048))) (owner_back f.owner h)
    ∙ ap (λ x. fence_with f.owner x (w / 16384 % 2 == 1) (target_from (w % 2048))) (bits_grant f.grant f.closing (owner_code f.owner) (target_code f.target) m o t)
    ∙ ap (λ x. fence_with f.owner f.grant x (target_from (w % 2048))) (bits_closing f.grant f.closing (owner_code f.owner) (target_code f.target) o t)
    ∙ ap (λ x. fence_with f.owner f.grant f.closing (target_from x)) (bits_target f.grant f.closing (owner_code f.owner) (target_code f.target) o t)
    ∙ ap (fence_with f.owner f.grant f.closing) (target_back f.target)

-- packed words that are equal have equal fields
pub bits_same : (g h : ℕ) (b d : Bool) (o p t u : ℕ) → g < 131072 → h < 131072 → o < 8 → t < 2048 → p < 8 → u < 2048 → g * 32768 + closing_code b + o * 2048 + t ≡ h * 32768 + closing_code d + p * 2048 + u → (g ≡ h) × (b ≡ d)
bits_same g h b d o p t u m n i j k l e =
    (sym (bits_grant g b o t m i j) ∙ ap (λ x. x / 32768 % 131072) e ∙ bits_grant h d p u n k l, sym (bits_closing g b o t i j) ∙ ap (λ x. (x / 16384 % 2 == 1)) e ∙ bits_closing h d p u k l)
