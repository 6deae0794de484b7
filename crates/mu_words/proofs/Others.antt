-- A step leaves every other word as it is.
use Rattle.std.proofs.Common.{◌≡◌, ℕ, ◌+◌, ◌*◌, Bool, true, false, ◌&&◌, not, ◌==◌, List, ◌∷◌, refl, sym, ◌∙◌, ap, subst, eqb-true, true≢false}
use Rattle.std.specs.Prelude.{◌≢◌}
use Rattle.std.proofs.lemmas.Bool.{and_parts, false_from_ne_true, ne_eqb}
use Rattle.mu_model.specs.declared.config.Config.{Config}
use Rattle.mu_model.specs.declared.event.Answer.{Answer}
use Rattle.mu_model.specs.declared.event.Event.{Event}
use Rattle.mu_model.specs.declared.event.Target.{Target}
use Rattle.mu_model.specs.declared.event.Verb.{Verb}
use Rattle.mu_model.specs.Answers.{drained, entered_or_lost, put_answer}
use Rattle.mu_model.specs.Histories.{part}
use Rattle.mu_model.specs.Leaderships.{noted_grant}
use Rattle.mu_model.specs.Regions.{fence, region_log}
use Rattle.mu_agree.proofs.Access.{last_close-part}
use Rattle.mu_words.specs.declared.layout.Name.{Name}
use Rattle.mu_words.specs.Standing.{standing_word, fence_word, target_word, stamp, close_target, named_target, is_same_target, changed_since_look, drain_took}
use Rattle.mu_words.specs.Finding.{name_of}
use Rattle.mu_words.specs.Steps.{event_of}
use Rattle.mu_words.specs.Verbs.{target_name}
use Rattle.mu_words.proofs.Logs.{shown_elsewhere}

pub close_target-part : (r : ℕ) (past : List Event) → close_target r (part r past) ≡ close_target r past
close_target-part r past = ap named_target (last_close-part r past)

pub fence_others : (c : Config) (past : List Event) (r : ℕ) (v : Verb) (p : ℕ) → Name.Fence p ≢ name_of c r (part r past) v → standing_word c (event_of c r past v ∷ past) (Name.Fence p) ≡ standing_word c past (Name.Fence p)
fence_others c past r (Verb.Enter q t) p d = go (entered_or_lost (noted_grant r q past) (fence q past))
  where
    go : (a : Answer) → fence_word (fence p (record { by = r; verb = Verb.Enter q t; answer = a } ∷ past)) ≡ fence_word (fence p past)
    go Answer.Entered = rw (ne_eqb q p (λ e. d (ap Name.Fence (sym e)))) refl
    go a = refl
fence_others c past r Verb.Close p d = rw (ne_eqb r p (λ e. d (ap Name.Fence (sym e)))) refl
fence_others c past r (Verb.Grant w) p d = rw (ne_eqb r p (λ e. d (ap Name.Fence (sym e)))) refl
fence_others c past r v p d = refl

-- a `Drain` of another word leaves the stamp
not_named : (c : Config) (past : List Event) (r p : ℕ) (t : Target) → (r ≡ p → is_same_target t (close_target r past) ≡ true → ⊥) → drain_took c p t past r Verb.Drain ≡ false
not_named c past r p t d = false_from_ne_true (drain_took c p t past r Verb.Drain) (λ e.
    let a = and_parts (r == p) (is_same_target t (close_target p past) && not (changed_since_look c p past)) e in
    let b = and_parts (is_same_target t (close_target p past)) (not (changed_since_look c p past)) a.1 in
    d (eqb-true r p a.0) (subst (λ x. is_same_target t (close_target x past) ≡ true) (sym (eqb-true r p a.0)) b.0))

pub same_target : (t u : Target) → is_same_target t u ≡ true → t ≡ u
same_target Target.Min Target.Min h = refl
same_target (Target.Place s) (Target.Place x) h = ap Target.Place (eqb-true s x h)
same_target Target.Min Target.None h = absurd (true≢false (sym h))
same_target Target.Min (Target.Place s) h = absurd (true≢false (sym h))
same_target (Target.Place s) Target.None h = absurd (true≢false (sym h))
same_target (Target.Place s) Target.Min h = absurd (true≢false (sym h))
same_target Target.None u h = absurd (true≢false (sym h))

pub drain_others : (c : Config) (past : List Event) (r p : ℕ) (t : Target) → target_name p t ≢ target_name r (close_target r (part r past)) → target_word c p t (event_of c r past Verb.Drain ∷ past) ≡ target_word c p t past
drain_others c past r p Target.None d =
    rw (not_named c past r p Target.None (λ e h. true≢false (sym h))) refl
drain_others c past r p Target.Min d =
    rw (not_named c past r p Target.Min (λ e h. d (ap (target_name p) (same_target Target.Min (close_target r past) h) ∙ ap (λ x. target_name x (close_target r past)) (sym e) ∙ ap (target_name r) (sym (close_target-part r past))))) refl
drain_others c past r p (Target.Place s) d =
    rw (not_named c past r p (Target.Place s) (λ e h. d (ap (target_name p) (same_target (Target.Place s) (close_target r past) h) ∙ ap (λ x. target_name x (close_target r past)) (sym e) ∙ ap (target_name r) (sym (close_target-part r past))))) refl

pub min_others : (c : Config) (past : List Event) (r : ℕ) (v : Verb) (p : ℕ) → Name.Min p ≢ name_of c r (part r past) v → standing_word c (event_of c r past v ∷ past) (Name.Min p) ≡ standing_word c past (Name.Min p)
min_others c past r (Verb.PutMin q b) p d = go (put_answer (drained r q past))
  where
    go : (a : Answer) → target_word c p Target.Min (record { by = r; verb = Verb.PutMin q b; answer = a } ∷ past) ≡ target_word c p Target.Min past
    go Answer.Done = rw (ne_eqb q p (λ e. d (ap Name.Min (sym e)))) refl
    go a = refl
min_others c past r Verb.Drain p d = drain_others c past r p Target.Min d
min_others c past r v p d = refl

pub slot_others : (c : Config) (past : List Event) (r : ℕ) (v : Verb) (p s : ℕ) → Name.Slot p s ≢ name_of c r (part r past) v → standing_word c (event_of c r past v ∷ past) (Name.Slot p s) ≡ standing_word c past (Name.Slot p s)
slot_others c past r (Verb.PutSlot q i b v) p s d = go (put_answer (drained r q past)) (q == p) refl
  where
    go : (a : Answer) (t : Bool) → (q == p) ≡ t → target_word c p (Target.Place s) (record { by = r; verb = Verb.PutSlot q i b v; answer = a } ∷ past) ≡ target_word c p (Target.Place s) past
    go Answer.Done true h =
        rw h (ap (λ x. stamp c p (Target.Place s) past * 140737488355328 + x)
        (shown_elsewhere c.ring s (region_log p past) i (b, v) (λ e. d (ap (λ x. Name.Slot x s) (sym (eqb-true q p h)) ∙ ap (Name.Slot q) (sym e)))))
    go Answer.Done false h = rw h refl
    go a t h = refl
slot_others c past r Verb.Drain p s d = drain_others c past r p (Target.Place s) d
slot_others c past r v p s d = refl

pub fuo_others : (c : Config) (past : List Event) (r : ℕ) (v : Verb) (p : ℕ) → Name.Fuo p ≢ name_of c r (part r past) v → standing_word c (event_of c r past v ∷ past) (Name.Fuo p) ≡ standing_word c past (Name.Fuo p)
fuo_others c past r (Verb.RaiseFuo q u) p d = rw (ne_eqb q p (λ e. d (ap Name.Fuo (sym e)))) refl
fuo_others c past r v p d = refl

pub head_others : (c : Config) (past : List Event) (r : ℕ) (v : Verb) (p : ℕ) → Name.Head p ≢ name_of c r (part r past) v → standing_word c (event_of c r past v ∷ past) (Name.Head p) ≡ standing_word c past (Name.Head p)
head_others c past r (Verb.RaiseHead h) p d = rw (ne_eqb r p (λ e. d (ap Name.Head (sym e)))) refl
head_others c past r v p d = refl

pub beat_others : (c : Config) (past : List Event) (r : ℕ) (v : Verb) (p : ℕ) → Name.Beat p ≢ name_of c r (part r past) v → standing_word c (event_of c r past v ∷ past) (Name.Beat p) ≡ standing_word c past (Name.Beat p)
beat_others c past r Verb.Beat p d = rw (ne_eqb r p (λ e. d (ap Name.Beat (sym e)))) refl
beat_others c past r v p d = refl

pub ask_others : (c : Config) (past : List Event) (r : ℕ) (v : Verb) (p w : ℕ) → Name.Ask p w ≢ name_of c r (part r past) v → standing_word c (event_of c r past v ∷ past) (Name.Ask p w) ≡ standing_word c past (Name.Ask p w)
ask_others c past r (Verb.Ask q) p w d = rw (false_from_ne_true ((r == w) && (q == p)) (λ e. let k = and_parts (r == w) (q == p) e in d (ap (λ x. Name.Ask x w) (sym (eqb-true q p k.1)) ∙ ap (Name.Ask q) (sym (eqb-true r w k.0))))) refl
ask_others c past r v p w d = refl

pub row_others : (c : Config) (past : List Event) (r : ℕ) (v : Verb) (p j k : ℕ) → Name.Row p j k ≢ name_of c r (part r past) v → standing_word c (event_of c r past v ∷ past) (Name.Row p j k) ≡ standing_word c past (Name.Row p j k)
row_others c past r (Verb.WriteRow i m x) p j k d = rw (false_from_ne_true ((r == p) && ((i == j) && (m == k))) (λ e. let a = and_parts (r == p) ((i == j) && (m == k)) e in let b = and_parts (i == j) (m == k) a.1 in d (ap (λ z. Name.Row z j k) (sym (eqb-true r p a.0)) ∙ ap (λ z. Name.Row r z k) (sym (eqb-true i j b.0)) ∙ ap (Name.Row r i) (sym (eqb-true m k b.1))))) refl
row_others c past r v p j k d = refl

-- every other name keeps its word
pub others_keep : (c : Config) (past : List Event) (r : ℕ) (v : Verb) (m : Name) → m ≢ name_of c r (part r past) v → standing_word c (event_of c r past v ∷ past) m ≡ standing_word c past m
others_keep c past r v (Name.Fence p) d = fence_others c past r v p d
others_keep c past r v (Name.Min p) d = min_others c past r v p d
others_keep c past r v (Name.Fuo p) d = fuo_others c past r v p d
others_keep c past r v (Name.Head p) d = head_others c past r v p d
others_keep c past r v (Name.Beat p) d = beat_others c past r v p d
others_keep c past r v (Name.Ask p w) d = ask_others c past r v p w d
others_keep c past r v (Name.Slot p s) d = slot_others c past r v p s d
others_keep c past r v (Name.Row p j k) d = row_others c past r v p j k d
