-- Each step that is allowed is prepared: its region and its place are there, and a put is for what was entered last.
use Rattle.std.proofs.Common.{◌≡◌, ℕ, ◌%◌, Bool, true, false, cond, ◌&&◌, ◌==◌, List, [], ◌∷◌, refl, Some}
use Rattle.mu_model.specs.declared.config.Config.{Config}
use Rattle.mu_model.specs.declared.event.Answer.{Answer}
use Rattle.mu_model.specs.declared.event.Event.{Event}
use Rattle.mu_model.specs.declared.event.Target.{Target}
use Rattle.mu_model.specs.declared.event.Verb.{Verb}
use Rattle.mu_model.specs.Entering.{open_target}
use Rattle.mu_model.specs.Histories.{part}
use Rattle.mu_model.specs.Leaderships.{is_first_ask}
use Rattle.mu_model.specs.Serving.{has_target}
use Rattle.mu_agree.proofs.Access.{no_target}
use Rattle.mu_agree.proofs.Entering.{slot_entered}
use Rattle.mu_words.specs.Founds.{AllowedArePrepared, IsInRing, last_entered}
use Rattle.mu_model.proofs.Putting.{MayEnter, put_facts, min_facts}

-- an open `Enter` is the last one
open_ask : (r p q : ℕ) (t : Target) (mine : List Event) (by : ℕ) (a : Answer) → (x : Bool) → is_first_ask r by (Verb.Ask q) ≡ x → (open_target r p mine ≡ Some t → last_entered p mine ≡ Some t)
    → open_target r p (record { by = by; verb = Verb.Ask q; answer = a } ∷ mine) ≡ Some t → last_entered p mine ≡ Some t
open_ask r p q t mine by a true h ih = rw h (λ o. cc)
open_ask r p q t mine by a false h ih = rw h (λ o. ih o)

open_enter : (r p q : ℕ) (u t : Target) (mine : List Event) (by : ℕ) (a : Answer) → has_target t ≡ true → (by == r) ≡ true → (y : Bool) → (q == p) ≡ y → (open_target r p mine ≡ Some t → last_entered p mine ≡ Some t)
    → open_target r p (record { by = by; verb = Verb.Enter q u; answer = a } ∷ mine) ≡ Some t → last_entered p (record { by = by; verb = Verb.Enter q u; answer = a } ∷ mine) ≡ Some t
open_enter r p q u t mine by Answer.Entered g h true k ih = rw (h, k) (λ o. o)
open_enter r p q u t mine by Answer.Entered g h false k ih = rw (h, k) (λ o. ih o)
open_enter r p q u t mine by a g h true k ih = rw (h, k) (λ o. absurd (no_target t o g))
open_enter r p q u t mine by a g h false k ih = rw (h, k) (λ o. ih o)

open_put : (r p q b : ℕ) (t : Target) (mine : List Event) (by : ℕ) (a : Answer) → has_target t ≡ true → (y : Bool) → ((by == r) && (q == p)) ≡ y → (open_target r p mine ≡ Some t → last_entered p mine ≡ Some t)
    → open_target r p (record { by = by; verb = Verb.PutMin q b; answer = a } ∷ mine) ≡ Some t → last_entered p mine ≡ Some t
open_put r p q b t mine by a g true k ih = rw k (λ o. absurd (no_target t o g))
open_put r p q b t mine by a g false k ih = rw k (λ o. ih o)

open_slot : (r p q i b v : ℕ) (t : Target) (mine : List Event) (by : ℕ) (a : Answer) → has_target t ≡ true → (y : Bool) → ((by == r) && (q == p)) ≡ y → (open_target r p mine ≡ Some t → last_entered p mine ≡ Some t)
    → open_target r p (record { by = by; verb = Verb.PutSlot q i b v; answer = a } ∷ mine) ≡ Some t → last_entered p mine ≡ Some t
open_slot r p q i b v t mine by a g true k ih = rw k (λ o. absurd (no_target t o g))
open_slot r p q i b v t mine by a g false k ih = rw k (λ o. ih o)

open_step : (r p : ℕ) (t : Target) (mine : List Event) (by : ℕ) (v : Verb) (a : Answer) → has_target t ≡ true → (by == r) ≡ true → (open_target r p mine ≡ Some t → last_entered p mine ≡ Some t)
    → open_target r p (record { by = by; verb = v; answer = a } ∷ mine) ≡ Some t → last_entered p (record { by = by; verb = v; answer = a } ∷ mine) ≡ Some t
open_step r p t mine by (Verb.Ask q) a g h ih o = open_ask r p q t mine by a (is_first_ask r by (Verb.Ask q)) refl ih o
open_step r p t mine by (Verb.Enter q u) a g h ih o = open_enter r p q u t mine by a g h (q == p) refl ih o
open_step r p t mine by (Verb.PutMin q b) a g h ih o = open_put r p q b t mine by a g ((by == r) && (q == p)) refl ih o
open_step r p t mine by (Verb.PutSlot q i b v) a g h ih o = open_slot r p q i b v t mine by a g ((by == r) && (q == p)) refl ih o
open_step r p t mine by v a g h ih o = ih o

pub open_entered : (r p : ℕ) (t : Target) → has_target t ≡ true → (past : List Event) → open_target r p (part r past) ≡ Some t → last_entered p (part r past) ≡ Some t
open_entered r p t g [] o = cc
open_entered r p t g (e ∷ past) o = go (e.by == r) refl o (open_entered r p t g past)
  where
    go : (x : Bool) → (e.by == r) ≡ x → open_target r p (cond x (e ∷ part r past) (part r past)) ≡ Some t → (open_target r p (part r past) ≡ Some t → last_entered p (part r past) ≡ Some t) → last_entered p (cond x (e ∷ part r past) (part r past)) ≡ Some t
    go true h o ih = open_step r p t (part r past) e.by e.verb e.answer g h ih o
    go false h o ih = ih o

-- the place that is entered is one of the ring
pub enter_ring : (c : Config) (r : ℕ) (past : List Event) (p : ℕ) (t : Target) → MayEnter c r past p t → IsInRing c.ring t
enter_ring c r past p Target.None may = tt
enter_ring c r past p Target.Min may = tt
enter_ring c r past p (Target.Place s) may = may.1.1.0

pub allowed_are_prepared_law : AllowedArePrepared
allowed_are_prepared_law c r past (Verb.Enter p t) may = (may.may.0, enter_ring c r (part r past) p t may.may.1)
allowed_are_prepared_law c r past (Verb.PutMin p b) may = (may.may.0, open_entered r p Target.Min refl past (min_facts c r (part r past) p b may.may).entered)
allowed_are_prepared_law c r past (Verb.PutSlot p i b v) may =
    (may.may.0, open_entered r p (Target.Place (i % c.ring)) refl past (slot_entered c r p i b v (part r past) (put_facts c r (part r past) p i b v may.may)))
allowed_are_prepared_law c r past v may = tt
