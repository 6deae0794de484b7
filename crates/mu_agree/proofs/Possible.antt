-- The laws for a possible part of one replica.
use Rattle.std.proofs.Common.{◌≡◌, ℕ, ◌+◌, ◌<◌, ◌≤◌, inl, inr, Bool, true, false, cond, ◌==◌, List, [], ◌∷◌, ◌++◌, length, refl, sym, ◌∙◌, ap, arith, Some, None, subst, eqb-true}
use Rattle.std.specs.declared.option.Option.{Option}
use Rattle.std.specs.Prelude.{nat_lt, if◌then◌else◌, not, ◌&&◌}
use Rattle.std.specs.List.{slice_get}
use Rattle.std.proofs.lemmas.Bool.{cases_eq}
use Rattle.std.proofs.lemmas.List.{append_assoc}
use Rattle.mu_model.specs.declared.config.Config.{Config}
use Rattle.mu_model.specs.declared.event.Event.{Event}
use Rattle.mu_model.specs.declared.event.Verb.{Verb}
use Rattle.mu_model.specs.declared.event.Answer.{Answer}
use Rattle.mu_agree.specs.Agreement.{end_put, fuo_under, kept_if, lesser_or, put_end}
use Rattle.mu_agree.specs.Possible.{PartLooksFind, PartsInSession, PartLooksAreKept, PartsMarkOnce, PartGrantsMove, PartRowsReadRight, PartsShorten, PartEntriesStand, PartsTrustSelf}
use Rattle.mu_model.specs.Allowed.{Allowed, Needs}
use Rattle.mu_model.specs.Answers.{answer_of, shown}
use Rattle.mu_model.specs.Contents.{IsInSession}
use Rattle.mu_model.specs.Entering.{grant_seen}
use Rattle.mu_model.specs.Histories.{has, newest, or_zero, part}
use Rattle.mu_model.specs.Knowledge.{fuo_read, greatest_fuo_read, known}
use Rattle.mu_model.specs.Leaderships.{leadership, noted_grant}
use Rattle.mu_model.specs.Legal.{IsLegalHistory, MayFollow}
use Rattle.mu_model.specs.Parts.{IsPossible}
use Rattle.mu_model.specs.Regions.{fence, fence_grant, is_grant_of, region_fuo, region_log}
use Rattle.mu_model.specs.Scores.{beat_read, score, score_after_read}
use Rattle.mu_model.specs.declared.event.Fence.{Fence}
use Rattle.mu_agree.proofs.Landings.{at_part, no_gaps}
use Rattle.mu_agree.proofs.Legal.{event_after, legal_induction}
use Rattle.mu_model.proofs.Lists.{item_below}
use Rattle.mu_agree.proofs.Room.{look_kept, mark_version, past_long}
use Rattle.mu_model.proofs.Owned.{IsOwn, has-part, greatest-part, noted-part}
use Rattle.mu_agree.proofs.Access.{noted_grant_is_owned}
use Rattle.mu_agree.proofs.Minimum.{leadership-part, grant_seen-own}
use Rattle.mu_agree.proofs.Reach.{log_under}
use Rattle.mu_agree.proofs.Sound.{chosen_sound}
use Rattle.mu_agree.proofs.Sessions.{known_in_session, known_are_chosen, marked_once, fits_stands, rows_read}

-- where the last event of a part stands in the history
pub record Stands (c : Config) (r : ℕ) (past mine : List Event) (e : Event) : Type 0 where
  pub newer : List Event
  pub older : List Event
  pub is : past ≡ newer ++ e ∷ older
  pub part_is : part r older ≡ mine
  pub own : e.by ≡ r
  pub legal : IsLegalHistory c older
  pub follows : MayFollow c older e

head_is : (x y : Event) (xs ys : List Event) → x ∷ xs ≡ y ∷ ys → (x ≡ y) × (xs ≡ ys)
head_is x y xs ys e = (cc, cc)

pub stands : (c : Config) (r : ℕ) (past mine : List Event) (e : Event) → IsLegalHistory c past → part r past ≡ e ∷ mine → Stands c r past mine e
stands c r [] mine e h k = cc
stands c r (f ∷ past) mine e h k = go (f.by == r) refl k (stands c r past mine e h.0)
  where
    go : (t : Bool) → (f.by == r) ≡ t → cond t (f ∷ part r past) (part r past) ≡ e ∷ mine → (part r past ≡ e ∷ mine → Stands c r past mine e) → Stands c r (f ∷ past) mine e
    go true o k ih =
        let x = head_is f e (part r past) mine k in
        record {
          newer = [];
          older = past;
          is = ap (λ z. z ∷ past) x.0;
          part_is = x.1;
          own = ap (λ z. z.by) (sym x.0) ∙ eqb-true f.by r o;
          legal = h.0;
          follows = subst (MayFollow c past) x.0 h.1;
        }
    go false o k ih =
        let s = ih k in
        record { newer = f ∷ s.newer; older = s.older; is = ap (λ z. f ∷ z) s.is; part_is = s.part_is; own = s.own; legal = s.legal; follows = s.follows }

-- where an earlier event of a part stands in the history
pub earlier : (c : Config) (r : ℕ) (past between mine : List Event) (e : Event) → IsLegalHistory c past → part r past ≡ between ++ e ∷ mine → Stands c r past mine e
earlier c r past [] mine e h k = stands c r past mine e h k
earlier c r past (b ∷ between) mine e h k =
    let s = stands c r past (between ++ e ∷ mine) b h k in
    let t = earlier c r s.older between mine e s.legal s.part_is in
    record {
      newer = s.newer ++ b ∷ t.newer;
      older = t.older;
      is = s.is ∙ ap (λ z. s.newer ++ b ∷ z) t.is ∙ sym (append_assoc s.newer (b ∷ t.newer) (e ∷ t.older));
      part_is = t.part_is;
      own = t.own;
      legal = t.legal;
      follows = t.follows;
    }

pub at_event : (c : Config) (r : ℕ) (mine : List Event) (e : Event) (p : IsPossible c r (e ∷ mine)) → Stands c r p.past mine e
at_event c r mine e p = stands c r p.past mine e p.legal p.is

pub parts_shorten_law : PartsShorten
parts_shorten_law c r mine e p =
    let s = at_event c r mine e p in
    record {
      before = record { past = s.older; legal = s.legal; is = s.part_is };
      by_own = s.own;
      allowed = subst (λ z. Allowed c r z e.verb) s.part_is (subst (λ z. Allowed c z (part z s.older) e.verb) s.own s.follows.allowed);
    }

pub parts_in_session_law : PartsInSession
parts_in_session_law c r mine g p = subst (λ z. IsInSession c (known c r z)) p.is (known_in_session c r p.past g p.legal)

known_of : (c : Config) (r i v : ℕ) (mine : List Event) (p : IsPossible c r mine) → slice_get (known c r mine) i ≡ Some v → slice_get (known c r (part r p.past)) i ≡ Some v
known_of c r i v mine p k = subst (λ z. slice_get (known c r z) i ≡ Some v) (sym p.is) k

pub part_entries_stand_law : PartEntriesStand
part_entries_stand_law c r i v mine p k =
    let s = chosen_sound c i v p.past p.legal (known_are_chosen c r p.past p.legal i v (known_of c r i v mine p k)) in
    fits_stands c v s.values p.past s.fits

pub parts_mark_once_law : PartsMarkOnce
parts_mark_once_law c r q i j v w mine g p a b m n =
    marked_once c q i j v w p.past g p.legal (known_are_chosen c r p.past p.legal i v (known_of c r i v mine p a)) (known_are_chosen c r p.past p.legal j w (known_of c r j w mine p b)) m n

pub part_rows_read_right_law : PartRowsReadRight
part_rows_read_right_law c r i v t k mine e g p kn b l m ev =
    let s = at_event c r mine e p in
    rows_read c r i v t k e s.newer s.older p.past s.is g p.legal (subst (λ z. slice_get (known c r z) i ≡ Some v) (sym s.part_is) kn) b l m ev

-- a look below a FUO that was read
not_empty : (ring i : ℕ) (log : List (ℕ × ℕ)) → i < length log → (if nat_lt (i + ring) (length log) then Answer.Past else shown (slice_get log i)) ≡ Answer.Empty → ⊥
not_empty ring i log l e = go (nat_lt (i + ring) (length log)) (item_below log i l) e
  where
    go : (t : Bool) → (x : ℕ × ℕ) × (slice_get log i ≡ Some x) → (if t then Answer.Past else shown (slice_get log i)) ≡ Answer.Empty → ⊥
    go true x e = cc
    go false x e = no_entry x.0 (sym (ap shown x.1) ∙ e)
      where
        no_entry : (x : ℕ × ℕ) → shown (Some x) ≡ Answer.Empty → ⊥
        no_entry x e = cc

pub part_looks_find_law : PartLooksFind
part_looks_find_law c r p i mine e poss ev l none =
    let s = at_event c r mine e poss in
    let g = no_gaps c p s.older s.legal in
    let read : greatest_fuo_read r p mine ≤ region_fuo p s.older = subst (λ z. greatest_fuo_read r p z ≤ region_fuo p s.older) s.part_is (g.read r) in
    let low = g.fuo in
    not_empty c.ring i (region_log p s.older) (omega arith) (ap (λ z. answer_of c e.by s.older z) (sym ev) ∙ sym s.follows.answer ∙ none)

pub part_looks_are_kept_law : PartLooksAreKept
part_looks_are_kept_law c r p i mine e poss ev l a =
    let s = at_event c r mine e poss in
    let m = look_kept c p i e s.older s.legal s.follows ev a (inr (subst (λ z. length (known c z (part z s.older)) ≤ i) (sym s.own) (subst (λ z. length (known c r z) ≤ i) (sym s.part_is) l))) in
    mark_version c e.by m.value m.mark

-- a fence that was seen after a `Past` look at what its owner still has to bring
fuo_read-own : (r p : ℕ) → IsOwn r (λ e. fuo_read r p e.by e.verb e.answer)
fuo_read-own r p = record { own = λ e h. go e.by e.verb e.answer h }
  where
    go : (by : ℕ) (v : Verb) (a : Answer) → (by == r) ≡ false → fuo_read r p by v a ≡ None
    go by (Verb.Fuo q) (Answer.Number x) h = rw h refl
    go by v a h = refl

end_put-own : (r p : ℕ) → IsOwn r (λ e. end_put r p e.by e.verb e.answer)
end_put-own r p = record { own = λ e h. go e.by e.verb e.answer h }
  where
    go : (by : ℕ) (v : Verb) (a : Answer) → (by == r) ≡ false → end_put r p by v a ≡ None
    go by (Verb.PutSlot q j b v) Answer.Done h = rw h refl
    go by v a h = refl

kept_none : (t : Bool) (o x : Option ℕ) → o ≡ None → lesser_or (kept_if t o) x ≡ x
kept_none t o x e = rw e refl

fuo_under-part : (r p g : ℕ) (past : List Event) → fuo_under r p g (part r past) ≡ fuo_under r p g past
fuo_under-part r p g [] = refl
fuo_under-part r p g (e ∷ past) = go (e.by == r) refl (fuo_under-part r p g past)
  where
    go : (t : Bool) → (e.by == r) ≡ t → fuo_under r p g (part r past) ≡ fuo_under r p g past → fuo_under r p g (cond t (e ∷ part r past) (part r past)) ≡ fuo_under r p g (e ∷ past)
    go true h ih =
        ap (λ x. lesser_or (kept_if x (fuo_read r p e.by e.verb e.answer)) (fuo_under r p g (part r past))) (has-part (λ f. grant_seen r p g f.by f.verb f.answer) r (grant_seen-own r p g) past)
        ∙ ap (λ x. lesser_or (kept_if (has (λ f. grant_seen r p g f.by f.verb f.answer) past) (fuo_read r p e.by e.verb e.answer)) x) ih
    go false h ih = ih ∙ sym (kept_none (has (λ f. grant_seen r p g f.by f.verb f.answer) past) (fuo_read r p e.by e.verb e.answer) (fuo_under r p g past) ((fuo_read-own r p).own e h))

grant_rises : (p : ℕ) (newer older : List Event) → fence_grant p older ≤ fence_grant p (newer ++ older)
grant_rises p [] older = omega arith
grant_rises p (e ∷ newer) older = go (is_grant_of p e) (grant_rises p newer older)
  where
    go : (t : Bool) → fence_grant p older ≤ fence_grant p (newer ++ older) → fence_grant p older ≤ cond t (fence_grant p (newer ++ older) + 1) (fence_grant p (newer ++ older))
    go true l = omega arith
    go false l = l

-- two fences seen that are the same answer are the same
pub same_fence : (x y : Fence) → Answer.Seen x ≡ Answer.Seen y → x ≡ y
same_fence x y e = cc

grant_lost : (c : Config) (r p j g u : ℕ) (past : List Event) → IsLegalHistory c past → p < c.replicas → noted_grant r p (part r past) ≡ Some g → fuo_under r p g (leadership r (part r past)) ≡ Some u
    → u ≤ j → put_end r p (leadership r (part r past)) ≤ j + c.ring → answer_of c r past (Verb.Look p j) ≡ Answer.Past → g < fence_grant p past
grant_lost c r p j g u past h l n f ul pl a =
    let note = noted_grant_is_owned c r p past h g (sym (noted-part r p past) ∙ n) in
    let low = note.0 in
    elim (cases_eq g (fence_grant p past)) [
      | inr d ↦ omega arith
      | inl e ↦ absurd (
          let same : fuo_under r p g (leadership r past) ≡ Some u = sym (fuo_under-part r p g (leadership r past)) ∙ ap (fuo_under r p g) (sym (leadership-part r past)) ∙ f in
          let ends_leadership : put_end r p (leadership r (part r past)) ≡ put_end r p (leadership r past) = ap (put_end r p) (leadership-part r past) ∙ greatest-part (λ x. end_put r p x.by x.verb x.answer) r (end_put-own r p) (leadership r past) in
          let reach = log_under c r p past l h g u e (note.1 e) same in
          let long = past_long c.ring j (region_log p past) (nat_lt (j + c.ring) (length (region_log p past))) refl a in omega arith)
    ]

pub part_grants_move_law : PartGrantsMove
part_grants_move_law c r p j g u mine between e f x poss l ev ea n fu ul pl fv fa same =
    let s = at_event c r (between ++ e ∷ mine) f poss in
    let t = earlier c r s.older between mine e s.legal s.part_is in
    let past_look : answer_of c r t.older (Verb.Look p j) ≡ Answer.Past = ap (λ z. answer_of c z t.older (Verb.Look p j)) (sym t.own) ∙ ap (λ z. answer_of c e.by t.older z) (sym ev) ∙ sym t.follows.answer ∙ ea in
    let lost = grant_lost c r p j g u t.older t.legal l (subst (λ z. noted_grant r p z ≡ Some g) (sym t.part_is) n) (subst (λ z. fuo_under r p g (leadership r z) ≡ Some u) (sym t.part_is) fu) ul (subst (λ z. put_end r p (leadership r z) ≤ j + c.ring) (sym t.part_is) pl) past_look in
    let up : fence_grant p t.older ≤ fence_grant p s.older = subst (λ z. fence_grant p t.older ≤ fence_grant p z) (sym t.is) (let a = grant_rises p (e ∷ []) t.older in let b = grant_rises p t.newer (e ∷ t.older) in omega arith) in
    let seen : Answer.Seen x ≡ Answer.Seen (fence p s.older) = sym fa ∙ s.follows.answer ∙ ap (λ z. answer_of c f.by s.older z) fv in
    let is : x.grant ≡ fence_grant p s.older = ap (λ z. z.grant) (same_fence x (fence p s.older) seen) in omega arith

-- what the last event of a possible part was answered
pub answered : (c : Config) (r : ℕ) (mine : List Event) (e : Event) (v : Verb) (p : IsPossible c r (e ∷ mine)) → e.verb ≡ v → e.answer ≡ answer_of c r (at_event c r mine e p).older v
answered c r mine e v p is =
    let s = at_event c r mine e p in s.follows.answer ∙ ap (λ z. answer_of c z s.older e.verb) s.own ∙ ap (answer_of c r s.older) is

-- nobody reads its own beats, and so each trusts itself
abbrev TrustsSelf : ℕ → List Event → Type 0
TrustsSelf r past = score r r (part r past) ≡ (15, true)

no_own_beat : (c : Config) (r by q : ℕ) (a : Answer) (past : List Event) → Needs c by (part by past) (Verb.ReadBeat q) → (by == r) ≡ true → beat_read r r by (Verb.ReadBeat q) a ≡ None
no_own_beat c r by q (Answer.Number x) past may own = go (by == r) (q == r) refl
  where
    go : (t u : Bool) → (q == r) ≡ u → (if t && u then Some x else None) ≡ None
    go true true e = absurd (may.1.0 (eqb-true q r e ∙ sym (eqb-true by r own)))
    go true false e = refl
    go false u e = refl
no_own_beat c r by q a past may own = refl

trusts_step : (c : Config) (r by : ℕ) (v : Verb) (past : List Event) → Needs c by (part by past) v → TrustsSelf r past → TrustsSelf r (event_after c past by v ∷ past)
trusts_step c r by (Verb.ReadBeat q) past may s = at_part (λ J. score r r J ≡ (15, true)) r (event_after c past by (Verb.ReadBeat q)) past s
    (λ own. ap (score_after_read (score r r (part r past)) (or_zero (newest (λ f. beat_read r r f.by f.verb f.answer) (part r past)))) (no_own_beat c r by q (answer_of c by past (Verb.ReadBeat q)) past may own) ∙ s)
trusts_step c r by v past may s = at_part (λ J. score r r J ≡ (15, true)) r (event_after c past by v) past s (λ _. s)

pub parts_trust_self_law : PartsTrustSelf
parts_trust_self_law c r mine p =
    let s = legal_induction c (TrustsSelf r) refl (λ past by v h may s. trusts_step c r by v past may.may s) p.past p.legal in
    ap (λ z. not z.1) (ap (score r r) (sym p.is) ∙ s)
