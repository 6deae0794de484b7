-- While a host drains, the word that it looked at stands exactly if nothing changed it since.
use Rattle.std.proofs.Common.{◌≡◌, ℕ, ◌+◌, ◌*◌, ◌%◌, Bool, true, false, cond, ◌&&◌, not, ◌==◌, List, [], ◌∷◌, refl, sym, ◌∙◌, ap, arith, Some, None, subst, eqb-true, true≢false}
use Rattle.std.specs.declared.option.Option.{Option}
use Rattle.std.proofs.lemmas.Bool.{and_parts, eqb-false}
use Rattle.mu_model.specs.declared.config.Config.{Config}
use Rattle.mu_model.specs.declared.event.Answer.{Answer}
use Rattle.mu_model.specs.declared.event.Event.{Event}
use Rattle.mu_model.specs.declared.event.Fence.{Fence}
use Rattle.mu_model.specs.declared.event.Target.{Target}
use Rattle.mu_model.specs.declared.event.Verb.{Verb}
use Rattle.mu_model.specs.Allowed.{Needs}
use Rattle.mu_model.specs.Answers.{drained, put_answer}
use Rattle.mu_model.specs.Entering.{open_target}
use Rattle.mu_model.specs.Histories.{has, newer_or, part, since}
use Rattle.mu_model.specs.Legal.{IsLegalHistory}
use Rattle.mu_model.specs.Regions.{fence, fence_closing, is_close_of, is_drain_of}
use Rattle.mu_model.specs.Serving.{drained_since_close, has_target, is_target_look, looked_since_close, must_drain, names_target}
use Rattle.mu_agree.proofs.Access.{last_close, must_drain-part, open_target-part, put_done_undrained}
use Rattle.mu_agree.proofs.Entering.{slot_entered}
use Rattle.mu_agree.proofs.Legal.{legal_induction, event_after}
use Rattle.mu_words.specs.Standing.{content, stamp, target_word, leaves, changed_since_look, is_unlike, close_target, named_target, standing_word, is_same_target, fields}
use Rattle.mu_words.specs.Verbs.{target_name}
use Rattle.mu_words.proofs.Limits.{Limits}
use Rattle.mu_words.proofs.Others.{close_target-part}
use Rattle.mu_words.proofs.Tracking.{load_of}
use Rattle.mu_words.proofs.Opening.{single}
use Rattle.mu_words.proofs.Contents.{or_old, content_after}
use Rattle.mu_model.proofs.Putting.{put_facts, min_facts}

-- the word looked at, against the word that stands
abbrev pub LoadedWord : Bool → ℕ → ℕ → Type 0
LoadedWord changed_since_look loaded word = (changed_since_look ≡ false → loaded ≡ word) × (changed_since_look ≡ true → loaded ≡ word → ⊥)

abbrev pub Loading : Config → ℕ → List Event → Type 0
Loading c p past =
    fence_closing p past ≡ true → looked_since_close p past ≡ true → drained_since_close p past ≡ false
    → LoadedWord (changed_since_look c p past) (load_of c p past) (target_word c p (close_target p past) past)

-- a put that lands on the word
loaded_put : (old now loaded st : ℕ) (o : Option ℕ) (ch : Bool) → now ≡ or_old o old → ((y : ℕ) → o ≡ Some y → ch ≡ true → ⊥) → LoadedWord ch loaded (st * 140737488355328 + old)
    → LoadedWord (cond (is_unlike o old) true ch) loaded (st * 140737488355328 + now)
loaded_put old now loaded st None ch e f s = subst (λ x. LoadedWord ch loaded (st * 140737488355328 + x)) (sym e) s
loaded_put old now loaded st (Some y) ch e f s = go (y == old) refl ch refl
  where
    go : (t : Bool) → (y == old) ≡ t → (d : Bool) → ch ≡ d → LoadedWord (cond (not t) true ch) loaded (st * 140737488355328 + now)
    go true k d m = subst (λ x. LoadedWord ch loaded (st * 140737488355328 + x)) (sym (e ∙ eqb-true y old k)) s
    go false k true m = absurd (f y refl m)
    go false k false m = (λ z. absurd (true≢false z), λ z w. (let i = eqb-false y old k in let j : loaded ≡ st * 140737488355328 + old = s.0 m in i (omega (arith, e, w, j))))

quiet_word : (old now loaded st : ℕ) (ch : Bool) → now ≡ old → LoadedWord ch loaded (st * 140737488355328 + old) → LoadedWord ch loaded (st * 140737488355328 + now)
quiet_word old now loaded st ch e s = subst (λ x. LoadedWord ch loaded (st * 140737488355328 + x)) (sym e) s

leaves_done : (c : Config) (p : ℕ) (t : Target) (q b y : ℕ) (a : Answer) → leaves c p t (Verb.PutMin q b) a ≡ Some y → (a ≡ Answer.Done) × (q ≡ p)
leaves_done c p t q b y Answer.Done e = go (q == p) refl e
  where
    go : (x : Bool) → (q == p) ≡ x → cond (x && is_same_target t Target.Min) (Some b) None ≡ Some y → (Answer.Done ≡ Answer.Done) × (q ≡ p)
    go true h k = (refl, eqb-true q p h)
    go false h k = cc
leaves_done c p t q b y a e = cc

leaves_slot : (c : Config) (p : ℕ) (t : Target) (q i b v y : ℕ) (a : Answer) → leaves c p t (Verb.PutSlot q i b v) a ≡ Some y → (a ≡ Answer.Done) × (q ≡ p)
leaves_slot c p t q i b v y Answer.Done e = go (q == p) refl (is_same_target t (Target.Place (i % c.ring))) e
  where
    go : (x : Bool) → (q == p) ≡ x → (z : Bool) → cond (x && z) (Some (fields c.ring i b v)) None ≡ Some y → (Answer.Done ≡ Answer.Done) × (q ≡ p)
    go true h z k = (refl, eqb-true q p h)
    go false h z k = cc
leaves_slot c p t q i b v y a e = cc

loading_min : (c : Config) (p by q b : ℕ) (past : List Event) → Limits c → IsLegalHistory c past → Needs c by (part by past) (Verb.PutMin q b) → Loading c p past → Loading c p (event_after c past by (Verb.PutMin q b) ∷ past)
loading_min c p by q b past l h may s k m n =
    loaded_put (content c p (close_target p past) past) (content c p (close_target p past) (event_after c past by (Verb.PutMin q b) ∷ past)) (load_of c p past) (stamp c p (close_target p past) past)
    (leaves c p (close_target p past) (Verb.PutMin q b) (put_answer (drained by q past))) (changed_since_look c p past)
    (content_after c p by (close_target p past) (Verb.PutMin q b) past l h may)
    (λ y e x.
    let d = leaves_done c p (close_target p past) q b y (put_answer (drained by q past)) e in
    let o : open_target by q past ≡ Some Target.Min = sym (open_target-part by q past) ∙ (min_facts c by (part by past) q b may).entered in
    single c by p past h k m x Target.Min (subst (λ z. open_target by z past ≡ Some Target.Min) d.1 o) refl (subst (λ z. drained by z past ≡ false) d.1 (put_done_undrained (drained by q past) d.0)))
    (s k m n)

loading_slot : (c : Config) (p by q i b v : ℕ) (past : List Event) → Limits c → IsLegalHistory c past → Needs c by (part by past) (Verb.PutSlot q i b v) → Loading c p past → Loading c p (event_after c past by (Verb.PutSlot q i b v) ∷ past)
loading_slot c p by q i b v past l h may s k m n =
    loaded_put (content c p (close_target p past) past) (content c p (close_target p past) (event_after c past by (Verb.PutSlot q i b v) ∷ past)) (load_of c p past) (stamp c p (close_target p past) past)
    (leaves c p (close_target p past) (Verb.PutSlot q i b v) (put_answer (drained by q past))) (changed_since_look c p past)
    (content_after c p by (close_target p past) (Verb.PutSlot q i b v) past l h may)
    (λ y e x.
    let d = leaves_slot c p (close_target p past) q i b v y (put_answer (drained by q past)) e in
    let o : open_target by q past ≡ Some (Target.Place (i % c.ring)) = sym (open_target-part by q past) ∙ slot_entered c by q i b v (part by past) (put_facts c by (part by past) q i b v may) in
    single c by p past h k m x (Target.Place (i % c.ring)) (subst (λ z. open_target by z past ≡ Some (Target.Place (i % c.ring))) d.1 o) refl (subst (λ z. drained by z past ≡ false) d.1 (put_done_undrained (drained by q past) d.0)))
    (s k m n)

loading_close : (c : Config) (p by : ℕ) (past : List Event) → Limits c → IsLegalHistory c past → Needs c by (part by past) Verb.Close → Loading c p past → (t : Bool) → (by == p) ≡ t → Loading c p (event_after c past by Verb.Close ∷ past)
loading_close c p by past l h may s true x = rw x (λ k m. absurd (true≢false (sym m)))
loading_close c p by past l h may s false x =
    let ev = event_after c past by Verb.Close in
    let named : close_target p (ev ∷ past) ≡ close_target p past = ap (λ t. named_target (newer_or (cond t (Some (fence by past)) None) (last_close p past))) x in
    let closing : fence_closing p (ev ∷ past) ≡ fence_closing p past = ap (λ t. cond t true (fence_closing p past)) x in
    let looked : looked_since_close p (ev ∷ past) ≡ looked_since_close p past = ap (λ t. has (λ e. is_target_look p e.by e.verb) (cond t [] (ev ∷ since (is_close_of p) past))) x in
    let drains_since : drained_since_close p (ev ∷ past) ≡ drained_since_close p past = ap (λ t. has (is_drain_of p) (cond t [] (ev ∷ since (is_close_of p) past))) x in
    λ k m n.
    subst (λ t. LoadedWord (changed_since_look c p past) (load_of c p past) (stamp c p t past * 140737488355328 + content c p t (ev ∷ past))) (sym named)
    (quiet_word (content c p (close_target p past) past) (content c p (close_target p past) (ev ∷ past)) (load_of c p past) (stamp c p (close_target p past) past) (changed_since_look c p past) (content_after c p by (close_target p past) Verb.Close past l h may) (s (sym closing ∙ k) (sym looked ∙ m) (sym drains_since ∙ n)))

loading_grant : (c : Config) (p by w : ℕ) (past : List Event) → Limits c → IsLegalHistory c past → Needs c by (part by past) (Verb.Grant w) → Loading c p past → (t : Bool) → (by == p) ≡ t → Loading c p (event_after c past by (Verb.Grant w) ∷ past)
loading_grant c p by w past l h may s true x = rw x (λ k. absurd (true≢false (sym k)))
loading_grant c p by w past l h may s false x = rw x (λ k m n. quiet_word (content c p (close_target p past) past) (content c p (close_target p past) (event_after c past by (Verb.Grant w) ∷ past)) (load_of c p past) (stamp c p (close_target p past) past) (changed_since_look c p past) (content_after c p by (close_target p past) (Verb.Grant w) past l h may) (s k m n))

loading_drain : (c : Config) (p by : ℕ) (past : List Event) → Limits c → IsLegalHistory c past → Needs c by (part by past) Verb.Drain → Loading c p past → (t : Bool) → (by == p) ≡ t → Loading c p (event_after c past by Verb.Drain ∷ past)
loading_drain c p by past l h may s true x = rw x (λ k m n. absurd (true≢false n))
loading_drain c p by past l h may s false x = rw x (λ k m n. quiet_word (content c p (close_target p past) past) (content c p (close_target p past) (event_after c past by Verb.Drain ∷ past)) (load_of c p past) (stamp c p (close_target p past) past) (changed_since_look c p past) (content_after c p by (close_target p past) Verb.Drain past l h may) (s k m n))

-- a `LookTarget` finds the word that the closed fence names
pub named_word : (c : Config) (p : ℕ) (t : Target) (past : List Event) → has_target t ≡ true → standing_word c past (target_name p t) ≡ target_word c p t past
named_word c p Target.None past h = absurd (true≢false (sym h))
named_word c p Target.Min past h = refl
named_word c p (Target.Place s) past h = refl

target_named : (o : Option Fence) → names_target o ≡ true → has_target (named_target o) ≡ true
target_named None h = absurd (true≢false (sym h))
target_named (Some f) h = h

pub drain_target : (p : ℕ) (past : List Event) → must_drain p (part p past) ≡ true → (fence_closing p past ≡ true) × (has_target (close_target p past) ≡ true)
drain_target p past m =
    let k = and_parts (fence_closing p past) (names_target (last_close p past)) (sym (must_drain-part p past) ∙ m) in
    (k.0, target_named (last_close p past) k.1)

loading_look : (c : Config) (p by : ℕ) (past : List Event) → Limits c → IsLegalHistory c past → Needs c by (part by past) Verb.LookTarget → Loading c p past → (t : Bool) → (by == p) ≡ t → Loading c p (event_after c past by Verb.LookTarget ∷ past)
loading_look c p by past l h may s true x =
    let at_p = subst (λ z. must_drain z (part z past) ≡ true) (eqb-true by p x) may.0 in
    rw x (λ k m n. quiet_word (content c p (close_target p past) past) (content c p (close_target p past) (event_after c past by Verb.LookTarget ∷ past)) (standing_word c past (target_name p (close_target p (part p past)))) (stamp c p (close_target p past) past) false (content_after c p by (close_target p past) Verb.LookTarget past l h may)
    (λ _. ap (λ t. standing_word c past (target_name p t)) (close_target-part p past) ∙ named_word c p (close_target p past) past (drain_target p past at_p).1, λ e. absurd (true≢false (sym e))))
loading_look c p by past l h may s false x = rw x (λ k m n. quiet_word (content c p (close_target p past) past) (content c p (close_target p past) (event_after c past by Verb.LookTarget ∷ past)) (load_of c p past) (stamp c p (close_target p past) past) (changed_since_look c p past) (content_after c p by (close_target p past) Verb.LookTarget past l h may) (s k m n))

loading_step : (c : Config) (p by : ℕ) (v : Verb) (past : List Event) → Limits c → IsLegalHistory c past → Needs c by (part by past) v → Loading c p past → Loading c p (event_after c past by v ∷ past)
loading_step c p by (Verb.PutMin q b) past l h may s = loading_min c p by q b past l h may s
loading_step c p by (Verb.PutSlot q i b v) past l h may s = loading_slot c p by q i b v past l h may s
loading_step c p by Verb.Close past l h may s = loading_close c p by past l h may s (by == p) refl
loading_step c p by (Verb.Grant w) past l h may s = loading_grant c p by w past l h may s (by == p) refl
loading_step c p by Verb.Drain past l h may s = loading_drain c p by past l h may s (by == p) refl
loading_step c p by Verb.LookTarget past l h may s = loading_look c p by past l h may s (by == p) refl
loading_step c p by v past l h may s = λ k m n. quiet_word (content c p (close_target p past) past) (content c p (close_target p past) (event_after c past by v ∷ past)) (load_of c p past) (stamp c p (close_target p past) past) (changed_since_look c p past) (content_after c p by (close_target p past) v past l h may) (s k m n)

pub loading : (c : Config) (p : ℕ) (past : List Event) → Limits c → IsLegalHistory c past → Loading c p past
loading c p past l h = legal_induction c (Loading c p) (λ k m n. cc) (λ past by v h may s. loading_step c p by v past l h may.may s) past h
