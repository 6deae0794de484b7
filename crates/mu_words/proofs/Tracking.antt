-- What a replica keeps, as functions of the whole history.
use Rattle.std.proofs.Common.{◌≡◌, ℕ, Bool, true, false, cond, ◌&&◌, ◌==◌, ◌%◌, List, [], ◌∷◌, refl, ◌∙◌, ap}
use Rattle.mu_model.specs.declared.config.Config.{Config}
use Rattle.mu_model.specs.declared.event.Answer.{Answer}
use Rattle.mu_model.specs.declared.event.Event.{Event}
use Rattle.mu_model.specs.declared.event.Target.{Target}
use Rattle.mu_model.specs.declared.event.Verb.{Verb}
use Rattle.mu_model.specs.Histories.{part}
use Rattle.mu_words.specs.Standing.{standing_word, target_word, is_same_target, close_target}
use Rattle.mu_words.specs.Finding.{found_word, sights, kept_after, kept, loaded_after, loaded}
use Rattle.mu_words.specs.Verbs.{target_name, with_content}

abbrev pub track : Config → ℕ → ℕ → Target → List Event → ℕ → Verb → Answer → ℕ × ℕ → ℕ × ℕ
track c r p t past by (Verb.Min q) a k = cond (is_same_target t Target.Min && ((by == r) && (q == p))) (target_word c q Target.Min past, k.1) k
track c r p t past by (Verb.Look q i) a k = cond (is_same_target t (Target.Place (i % c.ring)) && ((by == r) && (q == p))) (target_word c q (Target.Place (i % c.ring)) past, k.1) k
track c r p t past by (Verb.PutMin q b) Answer.Done k = cond (is_same_target t Target.Min && ((by == r) && (q == p))) (with_content k.1 b, k.1) k
track c r p t past by (Verb.Enter q u) a k = cond ((by == r) && (q == p)) (k.0, k.0) k
track c r p t past by _ a k = k

-- the pair of `kept`, over the history
abbrev pub kept_in_history : Config → ℕ → ℕ → Target → List Event → ℕ × ℕ
kept_in_history c r p t [] = (0, 0)
kept_in_history c r p t (e ∷ past) = track c r p t past e.by e.verb e.answer (kept_in_history c r p t past)

own_track : (c : Config) (r p : ℕ) (t : Target) (past : List Event) (by : ℕ) (v : Verb) (a : Answer) (k : ℕ × ℕ) → (by == r) ≡ true → kept_after c p t v a (found_word c r past v) k ≡ track c r p t past by v a k
own_track c r p t past by (Verb.Min q) a k h = rw h refl
own_track c r p t past by (Verb.Look q i) a k h = rw h refl
own_track c r p t past by (Verb.PutMin q b) Answer.Done k h = rw h refl
own_track c r p t past by (Verb.Enter q u) a k h = rw h refl
own_track c r p t past by v a k h = refl

never : (x : Bool) (k l : ℕ × ℕ) → l ≡ cond (x && false) k l
never true k l = refl
never false k l = refl

other_track : (c : Config) (r p : ℕ) (t : Target) (past : List Event) (by : ℕ) (v : Verb) (a : Answer) (k : ℕ × ℕ) → (by == r) ≡ false → k ≡ track c r p t past by v a k
other_track c r p t past by (Verb.Min q) a k h = rw h (never (is_same_target t Target.Min) (target_word c q Target.Min past, k.1) k)
other_track c r p t past by (Verb.Look q i) a k h = rw h (never (is_same_target t (Target.Place (i % c.ring))) (target_word c q (Target.Place (i % c.ring)) past, k.1) k)
other_track c r p t past by (Verb.PutMin q b) Answer.Done k h = rw h (never (is_same_target t Target.Min) (with_content k.1 b, k.1) k)
other_track c r p t past by (Verb.Enter q u) a k h = rw h refl
other_track c r p t past by v a k h = refl

pub kept_is_in_history : (c : Config) (r p : ℕ) (t : Target) (past : List Event) → kept c p t (sights c r past) ≡ kept_in_history c r p t past
kept_is_in_history c r p t [] = refl
kept_is_in_history c r p t (e ∷ past) = go (e.by == r) refl (kept_is_in_history c r p t past)
  where
    go : (x : Bool) → (e.by == r) ≡ x → kept c p t (sights c r past) ≡ kept_in_history c r p t past → kept c p t (cond x ((e, found_word c r past e.verb) ∷ sights c r past) (sights c r past)) ≡ track c r p t past e.by e.verb e.answer (kept_in_history c r p t past)
    go true h ih = ap (kept_after c p t e.verb e.answer (found_word c r past e.verb)) ih ∙ own_track c r p t past e.by e.verb e.answer (kept_in_history c r p t past) h
    go false h ih = ih ∙ other_track c r p t past e.by e.verb e.answer (kept_in_history c r p t past) h

abbrev pub loads : Config → ℕ → List Event → ℕ → Verb → ℕ → ℕ
loads c r past by Verb.LookTarget k = cond (by == r) (standing_word c past (target_name r (close_target r (part r past)))) k
loads c r past by _ k = k

abbrev pub load_of : Config → ℕ → List Event → ℕ
load_of c r [] = 0
load_of c r (e ∷ past) = loads c r past e.by e.verb (load_of c r past)

own_load : (c : Config) (r : ℕ) (past : List Event) (by : ℕ) (v : Verb) (k : ℕ) → (by == r) ≡ true → loaded_after v (found_word c r past v) k ≡ loads c r past by v k
own_load c r past by Verb.LookTarget k h = rw h refl
own_load c r past by v k h = refl

other_load : (c : Config) (r : ℕ) (past : List Event) (by : ℕ) (v : Verb) (k : ℕ) → (by == r) ≡ false → k ≡ loads c r past by v k
other_load c r past by Verb.LookTarget k h = rw h refl
other_load c r past by v k h = refl

pub loaded_load : (c : Config) (r : ℕ) (past : List Event) → loaded (sights c r past) ≡ load_of c r past
loaded_load c r [] = refl
loaded_load c r (e ∷ past) = go (e.by == r) refl (loaded_load c r past)
  where
    go : (x : Bool) → (e.by == r) ≡ x → loaded (sights c r past) ≡ load_of c r past → loaded (cond x ((e, found_word c r past e.verb) ∷ sights c r past) (sights c r past)) ≡ loads c r past e.by e.verb (load_of c r past)
    go true h ih = ap (loaded_after e.verb (found_word c r past e.verb)) ih ∙ own_load c r past e.by e.verb (load_of c r past) h
    go false h ih = ih ∙ other_load c r past e.by e.verb (load_of c r past) h
