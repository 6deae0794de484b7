-- The law of word steps for `Enter`.
use Rattle.std.proofs.Common.{◌≡◌, ℕ, ◌+◌, ◌*◌, ◌/◌, ◌<◌, ◌≤◌, Bool, true, false, ◌&&◌, ◌==◌, List, ◌∷◌, refl, sym, ◌∙◌, ap, arith, Some, None, subst, eqb-true, true≢false}
use Rattle.std.specs.declared.option.Option.{Option}
use Rattle.std.proofs.lemmas.Bool.{eqb-false, ne_eqb}
use Rattle.mu_model.specs.declared.config.Config.{Config}
use Rattle.mu_model.specs.declared.event.Answer.{Answer}
use Rattle.mu_model.specs.declared.event.Event.{Event}
use Rattle.mu_model.specs.declared.event.Fence.{Fence}
use Rattle.mu_model.specs.declared.event.Target.{Target}
use Rattle.mu_model.specs.declared.event.Verb.{Verb}
use Rattle.mu_model.specs.Allowed.{Needs}
use Rattle.mu_model.specs.Answers.{entered_or_lost}
use Rattle.mu_model.specs.Histories.{part}
use Rattle.mu_model.specs.Leaderships.{is_first_ask, noted_grant}
use Rattle.mu_model.specs.Legal.{IsLegalHistory}
use Rattle.mu_model.specs.Regions.{fence, fence_closing, fence_grant, fence_owner, fence_target, or_no_target}
use Rattle.mu_model.proofs.Basics.{same_number}
use Rattle.mu_model.proofs.Owned.{IsOwn, newest-part, noted-part}
use Rattle.mu_agree.proofs.Access.{entered_holds, noted_grant_is_owned}
use Rattle.mu_agree.proofs.Legal.{legal_induction, event_after}
use Rattle.mu_agree.proofs.Minimum.{one_owner}
use Rattle.mu_words.specs.Words.{fence_bits, owner_code, target_code, closing_code, TargetFits, fence_in}
use Rattle.mu_words.specs.Standing.{fence_word}
use Rattle.mu_words.specs.Finding.{open_word, known_target, target_told}
use Rattle.mu_words.specs.Steps.{event_of, StepsByWord}
use Rattle.mu_words.specs.Verbs.{answer_from, word_after}
use Rattle.mu_words.proofs.Limits.{Limits}
use Rattle.mu_words.proofs.Others.{others_keep}
use Rattle.mu_words.proofs.Ranges.{grant_fits}
use Rattle.mu_words.proofs.Packing.{owner_small, target_small, bits_same}
use Rattle.mu_words.proofs.Fences.{fitting, enter_fits, fence_read}

-- the target that r keeps of p is in its range
abbrev pub KnownFits : ℕ → ℕ → List Event → Type 0
KnownFits r p past = TargetFits (known_target r p past)

known_fence : (c : Config) (r p by q : ℕ) (past : List Event) → Limits c → IsLegalHistory c past → KnownFits r p past → (t : Bool) → ((by == r) && (q == p)) ≡ t → KnownFits r p (event_after c past by (Verb.Fence q) ∷ past)
known_fence c r p by q past l h s true k = rw k ((fitting c q past l h).with_target)
known_fence c r p by q past l h s false k = rw k s

known_enter : (r p by q : ℕ) (t : Target) (past : List Event) → TargetFits t → KnownFits r p past → (a : Answer) → (y : Bool) → ((by == r) && (q == p)) ≡ y
    → KnownFits r p (record { by = by; verb = Verb.Enter q t; answer = a } ∷ past)
known_enter r p by q t past h s Answer.Entered true hy = rw hy h
known_enter r p by q t past h s Answer.Entered false hy = rw hy s
known_enter r p by q t past h s a y hy = s

known_step : (c : Config) (r p by : ℕ) (v : Verb) (past : List Event) → Limits c → IsLegalHistory c past → Needs c by (part by past) v → KnownFits r p past → KnownFits r p (event_after c past by v ∷ past)
known_step c r p by (Verb.Fence q) past l h may s = known_fence c r p by q past l h s ((by == r) && (q == p)) refl
known_step c r p by (Verb.Enter q t) past l h may s = known_enter r p by q t past (enter_fits c by (part by past) q t l may.1) s (entered_or_lost (noted_grant by q past) (fence q past)) ((by == r) && (q == p)) refl
known_step c r p by v past l h may s = s

pub known_fits : (c : Config) (r p : ℕ) (past : List Event) → Limits c → IsLegalHistory c past → KnownFits r p past
known_fits c r p past l h = legal_induction c (KnownFits r p) tt (λ past by v h may s. known_step c r p by v past l h may.may s) past h

-- while the noted grant stands, the target that r keeps is that of the fence
abbrev pub KnowsTarget : ℕ → ℕ → List Event → Type 0
KnowsTarget r p past = (g : ℕ) → noted_grant r p past ≡ Some g → g ≡ fence_grant p past → known_target r p past ≡ fence_target p past

knows_ask : (c : Config) (r p by q : ℕ) (past : List Event) → KnowsTarget r p past → (t : Bool) → is_first_ask r by (Verb.Ask q) ≡ t → KnowsTarget r p (event_after c past by (Verb.Ask q) ∷ past)
knows_ask c r p by q past s true h = rw h (λ g e. cc)
knows_ask c r p by q past s false h = rw h s

knows_fence : (c : Config) (r p by q : ℕ) (past : List Event) → KnowsTarget r p past → (x : Bool) → (by == r) ≡ x → (y : Bool) → (q == p) ≡ y → KnowsTarget r p (event_after c past by (Verb.Fence q) ∷ past)
knows_fence c r p by q past s true hx true hy = rw (hx, hy) (λ g e k. ap (λ z. fence_target z past) (eqb-true q p hy))
knows_fence c r p by q past s true hx false hy = rw (hx, hy) s
knows_fence c r p by q past s false hx y hy = rw hx s

knows_grant : (c : Config) (r p by w : ℕ) (past : List Event) → IsLegalHistory c past → KnowsTarget r p past → (t : Bool) → (by == p) ≡ t → KnowsTarget r p (event_after c past by (Verb.Grant w) ∷ past)
knows_grant c r p by w past h s true k = rw k (λ g e i. absurd (let n = (noted_grant_is_owned c r p past h g e).0 in omega arith))
knows_grant c r p by w past h s false k = rw k s

knows_enter : (c : Config) (r p by q : ℕ) (t : Target) (past : List Event) → IsLegalHistory c past → KnowsTarget r p past
    → (a : Answer) → entered_or_lost (noted_grant by q past) (fence q past) ≡ a → (x : Bool) → (by == r) ≡ x → (y : Bool) → (q == p) ≡ y
    → KnowsTarget r p (record { by = by; verb = Verb.Enter q t; answer = a } ∷ past)
knows_enter c r p by q t past h s Answer.Entered e true hx true hy = rw (hx, hy) (λ g n k. refl)
knows_enter c r p by q t past h s Answer.Entered e true hx false hy = rw (hx, hy) s
knows_enter c r p by q t past h s Answer.Entered e false hx true hy =
    let at_p = subst (λ z. entered_or_lost (noted_grant by z past) (fence z past) ≡ Answer.Entered) (eqb-true q p hy) e in
    let o = entered_holds by p past (noted_grant_is_owned c by p past h) at_p in
    rw (hx, hy) (λ g n k. absurd (one_owner r by (fence_owner p past) ((noted_grant_is_owned c r p past h g n).1 k) o.0 hx))
knows_enter c r p by q t past h s Answer.Entered e false hx false hy = rw (hx, hy) s
knows_enter c r p by q t past h s a e x hx y hy = s

knows_step : (c : Config) (r p by : ℕ) (v : Verb) (past : List Event) → IsLegalHistory c past → KnowsTarget r p past → KnowsTarget r p (event_after c past by v ∷ past)
knows_step c r p by (Verb.Ask q) past h s = knows_ask c r p by q past s (is_first_ask r by (Verb.Ask q)) refl
knows_step c r p by (Verb.Fence q) past h s = knows_fence c r p by q past s (by == r) refl (q == p) refl
knows_step c r p by (Verb.Grant w) past h s = knows_grant c r p by w past h s (by == p) refl
knows_step c r p by (Verb.Enter q t) past h s = knows_enter c r p by q t past h s (entered_or_lost (noted_grant by q past) (fence q past)) refl (by == r) refl (q == p) refl
knows_step c r p by v past h s = s

pub knows_target : (c : Config) (r p : ℕ) (past : List Event) → IsLegalHistory c past → KnowsTarget r p past
knows_target c r p = legal_induction c (KnowsTarget r p) (λ g e. cc) (λ past by v h may s. knows_step c r p by v past h s)

target_told-own : (r p : ℕ) → IsOwn r (λ e. target_told r p e.by e.verb e.answer)
target_told-own r p = record { own = λ e h. go e.by e.verb e.answer h }
  where
    go : (by : ℕ) (v : Verb) (a : Answer) → (by == r) ≡ false → target_told r p by v a ≡ None
    go by (Verb.Fence q) (Answer.Seen f) h = rw h refl
    go by (Verb.Enter q t) Answer.Entered h = rw h refl
    go by v a h = refl

pub known_target-part : (r p : ℕ) (past : List Event) → known_target r p (part r past) ≡ known_target r p past
known_target-part r p past = ap or_no_target (newest-part (λ e. target_told r p e.by e.verb e.answer) r (target_told-own r p) past)

-- what `Enter` does to the fence word
record Enters (c : Config) (past : List Event) (r p : ℕ) (t : Target) (x w : ℕ) : Type 0 where
  answers : answer_from c.ring (Verb.Enter p t) x w ≡ entered_or_lost (noted_grant r p past) (fence p past)
  leaves : fence_word (fence p (event_of c r past (Verb.Enter p t) ∷ past)) ≡ word_after c.ring (Verb.Enter p t) x w

abbrev entered_event : ℕ → ℕ → Target → Answer → Event
entered_event r p t a = record { by = r; verb = Verb.Enter p t; answer = a }

-- the exchange takes if the words are equal, and else doesn't
enters_lost : (c : Config) (past : List Event) (r p : ℕ) (t : Target) (x : ℕ) → fence_in (fence_word (fence p past)) ≡ fence p past → (x ≡ fence_word (fence p past) → ⊥) → entered_or_lost (noted_grant r p past) (fence p past) ≡ Answer.Lost (fence p past)
    → Enters c past r p t x (fence_word (fence p past))
enters_lost c past r p t x back d e = record {
  answers = rw (ne_eqb x (fence_word (fence p past)) d) (ap Answer.Lost back ∙ sym e);
  leaves = ap (λ a. fence_word (fence p (entered_event r p t a ∷ past))) e ∙ rw (ne_eqb x (fence_word (fence p past)) d) refl;
}

retarget : (g : ℕ) (b : Bool) (o t u : ℕ) → t < 2048 → g * 32768 + closing_code b + o * 2048 + u ≡ (g * 32768 + closing_code b + o * 2048 + t) / 2048 * 2048 + u
retarget g true o t u h = omega arith
retarget g false o t u h = omega arith

enters_took : (c : Config) (past : List Event) (r p : ℕ) (t : Target) (x : ℕ) → TargetFits (fence_target p past) → x ≡ fence_word (fence p past) → entered_or_lost (noted_grant r p past) (fence p past) ≡ Answer.Entered
    → Enters c past r p t x (fence_word (fence p past))
enters_took c past r p t x k d e = record {
  answers = rw (d, same_number (fence_word (fence p past))) (sym e);
  leaves =
      ap (λ a. fence_word (fence p (entered_event r p t a ∷ past))) e
      ∙ rw (d, same_number (fence_word (fence p past)), same_number p) (retarget (fence_grant p past) (fence_closing p past) (owner_code (fence_owner p past)) (target_code (fence_target p past)) (target_code t) (target_small (fence_target p past) k));
}

none_expected : (g : ℕ) (b : Bool) (o : Option ℕ) (t : ℕ) → ((w : ℕ) → o ≡ Some w → 1 ≤ g) → 0 ≡ g * 32768 + closing_code b + owner_code o * 2048 + t → ⊥
none_expected g b None t f e = omega arith
none_expected g b (Some w) t f e = let k = f w refl in omega arith

same_word : (g : ℕ) (r : ℕ) (f : Fence) (t : Target) → f.closing ≡ false → f.grant ≡ g → f.owner ≡ Some r → t ≡ f.target → fence_bits g false (Some r) t ≡ fence_word f
same_word g r f t h k o e =
    ap (λ x. fence_bits x false (Some r) t) (sym k) ∙ ap (λ x. fence_bits f.grant x (Some r) t) (sym h) ∙ ap (λ x. fence_bits f.grant f.closing x t) (sym o) ∙ ap (fence_bits f.grant f.closing f.owner) e

enters_cases : (c : Config) (past : List Event) (r p : ℕ) (t : Target) (o : Option ℕ) → Limits c → IsLegalHistory c past → r < 7 → noted_grant r p past ≡ o
    → Enters c past r p t (open_word r (known_target r p past) o) (fence_word (fence p past))
enters_cases c past r p t None l h m n =
    let s = fitting c p past l h in
    enters_lost c past r p t 0 (fence_read c p past l h) (none_expected (fence_grant p past) (fence_closing p past) (fence_owner p past) (target_code (fence_target p past)) s.granted) (rw n refl)
enters_cases c past r p t (Some g) l h m n = go (fence_closing p past) refl (fence_grant p past == g) refl
  where
    go : (b : Bool) → fence_closing p past ≡ b → (y : Bool) → (fence_grant p past == g) ≡ y → Enters c past r p t (fence_bits g false (Some r) (known_target r p past)) (fence_word (fence p past))
    go false hb true hy =
        let is = eqb-true (fence_grant p past) g hy in
        let k = same_word g r (fence p past) (known_target r p past) hb is ((noted_grant_is_owned c r p past h g n).1 (sym is)) (knows_target c r p past h g n (sym is)) in
        enters_took c past r p t (fence_bits g false (Some r) (known_target r p past)) (fitting c p past l h).with_target k (rw (n, hb, hy) refl)
    go false hb false hy =
        let s = fitting c p past l h in
        enters_lost c past r p t (fence_bits g false (Some r) (known_target r p past)) (fence_read c p past l h)
        (λ e. eqb-false (fence_grant p past) g hy (sym (bits_same g (fence_grant p past) false (fence_closing p past) r (owner_code (fence_owner p past)) (target_code (known_target r p past)) (target_code (fence_target p past)) (let i = grant_fits c p past l h in let j = (noted_grant_is_owned c r p past h g n).0 in omega arith) (grant_fits c p past l h) (omega arith) (target_small (known_target r p past) (known_fits c r p past l h)) (owner_small (fence_owner p past) s.by_owner) (target_small (fence_target p past) s.with_target) e).0))
        (rw (n, hb, hy) refl)
    go true hb y hy =
        let s = fitting c p past l h in
        enters_lost c past r p t (fence_bits g false (Some r) (known_target r p past)) (fence_read c p past l h)
        (λ e. true≢false (sym hb ∙ sym (bits_same g (fence_grant p past) false (fence_closing p past) r (owner_code (fence_owner p past)) (target_code (known_target r p past)) (target_code (fence_target p past)) (let i = grant_fits c p past l h in let j = (noted_grant_is_owned c r p past h g n).0 in omega arith) (grant_fits c p past l h) (omega arith) (target_small (known_target r p past) (known_fits c r p past l h)) (owner_small (fence_owner p past) s.by_owner) (target_small (fence_target p past) s.with_target) e).1))
        (rw (n, hb) refl)

pub enter_step : (c : Config) (past : List Event) (r p : ℕ) (t : Target) → Limits c → IsLegalHistory c past → r < c.replicas → StepsByWord c r past (Verb.Enter p t)
enter_step c past r p t l h m =
    let i : r < 7 = (let k = l.replicas in omega arith) in
    let k = enters_cases c past r p t (noted_grant r p past) l h i refl in
    let e : open_word r (known_target r p (part r past)) (noted_grant r p (part r past)) ≡ open_word r (known_target r p past) (noted_grant r p past) = ap (λ x. open_word r x (noted_grant r p (part r past))) (known_target-part r p past) ∙ ap (open_word r (known_target r p past)) (noted-part r p past) in
    record {
      answer = subst (λ x. answer_from c.ring (Verb.Enter p t) x (fence_word (fence p past)) ≡ entered_or_lost (noted_grant r p past) (fence p past)) (sym e) k.answers;
      here = subst (λ x. fence_word (fence p (event_of c r past (Verb.Enter p t) ∷ past)) ≡ word_after c.ring (Verb.Enter p t) x (fence_word (fence p past))) (sym e) k.leaves;
      others = others_keep c past r (Verb.Enter p t);
    }
