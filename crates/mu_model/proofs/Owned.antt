-- What looks only at the events of r says the same of the part of r.
use Rattle.std.proofs.Common.{◌≡◌, ℕ, ◌+◌, Bool, true, false, cond, ◌==◌, List, [], ◌∷◌, refl, sym, ◌∙◌, ap, None, true≢false}
use Rattle.std.specs.declared.option.Option.{Option}
use Rattle.mu_model.specs.declared.event.Event.{Event}
use Rattle.mu_model.specs.declared.event.Answer.{Answer}
use Rattle.mu_model.specs.declared.event.Verb.{Verb}
use Rattle.mu_model.specs.Histories.{before, earlier_or, greatest, has, how_many, max_with, newer_or, newest, oldest, part, since}
use Rattle.mu_model.specs.Regions.{is_ask_by, is_beat_by}
use Rattle.mu_model.specs.Leaderships.{begins_leadership, fence_seen, grant_for, is_first_ask, noted_grant}

-- the test passes no event of another replica
pub record IsOwnTest (r : ℕ) (test : Event → Bool) : Type 0 where
  pub own : (e : Event) → (e.by == r) ≡ false → test e ≡ false

pub record IsOwn {A : Type 0} (r : ℕ) (tells : Event → Option A) : Type 0 where
  pub own : (e : Event) → (e.by == r) ≡ false → tells e ≡ None

pub newest-part : {A : Type 0} (tells : Event → Option A) (r : ℕ) → IsOwn r tells → (past : List Event) → newest tells (part r past) ≡ newest tells past
newest-part tells r o [] = refl
newest-part tells r o (e ∷ past) = go (e.by == r) refl (newest-part tells r o past)
  where
    go : (t : Bool) → (e.by == r) ≡ t → newest tells (part r past) ≡ newest tells past → newest tells (cond t (e ∷ part r past) (part r past)) ≡ newest tells (e ∷ past)
    go true h ih = ap (newer_or (tells e)) ih
    go false h ih = ih ∙ sym (ap (λ x. newer_or x (newest tells past)) (o.own e h))

pub oldest-part : {A : Type 0} (tells : Event → Option A) (r : ℕ) → IsOwn r tells → (past : List Event) → oldest tells (part r past) ≡ oldest tells past
oldest-part tells r o [] = refl
oldest-part tells r o (e ∷ past) = go (e.by == r) refl (oldest-part tells r o past)
  where
    go : (t : Bool) → (e.by == r) ≡ t → oldest tells (part r past) ≡ oldest tells past → oldest tells (cond t (e ∷ part r past) (part r past)) ≡ oldest tells (e ∷ past)
    go true h ih = ap (earlier_or (tells e)) ih
    go false h ih = ih ∙ sym (ap (λ x. earlier_or x (oldest tells past)) (o.own e h))

pub greatest-part : (tells : Event → Option ℕ) (r : ℕ) → IsOwn r tells → (past : List Event) → greatest tells (part r past) ≡ greatest tells past
greatest-part tells r o [] = refl
greatest-part tells r o (e ∷ past) = go (e.by == r) refl (greatest-part tells r o past)
  where
    go : (t : Bool) → (e.by == r) ≡ t → greatest tells (part r past) ≡ greatest tells past → greatest tells (cond t (e ∷ part r past) (part r past)) ≡ greatest tells (e ∷ past)
    go true h ih = ap (max_with (tells e)) ih
    go false h ih = ih ∙ sym (ap (λ x. max_with x (greatest tells past)) (o.own e h))

pub how_many-part : (test : Event → Bool) (r : ℕ) → IsOwnTest r test → (past : List Event) → how_many test (part r past) ≡ how_many test past
how_many-part test r o [] = refl
how_many-part test r o (e ∷ past) = go (e.by == r) refl (how_many-part test r o past)
  where
    go : (t : Bool) → (e.by == r) ≡ t → how_many test (part r past) ≡ how_many test past → how_many test (cond t (e ∷ part r past) (part r past)) ≡ how_many test (e ∷ past)
    go true h ih = ap (λ n. cond (test e) (n + 1) n) ih
    go false h ih = ih ∙ sym (ap (λ t. cond t (how_many test past + 1) (how_many test past)) (o.own e h))

pub has-part : (test : Event → Bool) (r : ℕ) → IsOwnTest r test → (past : List Event) → has test (part r past) ≡ has test past
has-part test r o [] = refl
has-part test r o (e ∷ past) = go (e.by == r) refl (has-part test r o past)
  where
    go : (t : Bool) → (e.by == r) ≡ t → has test (part r past) ≡ has test past → has test (cond t (e ∷ part r past) (part r past)) ≡ has test (e ∷ past)
    go true h ih = ap (λ b. cond (test e) true b) ih
    go false h ih = ih ∙ sym (ap (λ t. cond t true (has test past)) (o.own e h))

-- the part of what came since is what came since in the part
pub since-part : (test : Event → Bool) (r : ℕ) → IsOwnTest r test → (past : List Event) → since test (part r past) ≡ part r (since test past)
since-part test r o [] = refl
since-part test r o (e ∷ past) = go (e.by == r) refl (test e) refl (since-part test r o past)
  where
    go : (t : Bool) → (e.by == r) ≡ t → (u : Bool) → test e ≡ u → since test (part r past) ≡ part r (since test past)
        → since test (cond t (e ∷ part r past) (part r past)) ≡ part r (cond u [] (e ∷ since test past))
    go true h true k ih = rw k refl
    go true h false k ih = rw (k, h) (ap (λ x. e ∷ x) ih)
    go false h true k ih = absurd (true≢false (sym k ∙ o.own e h))
    go false h false k ih = rw h ih

pub before-part : (test : Event → Bool) (r : ℕ) → IsOwnTest r test → (past : List Event) → before test (part r past) ≡ part r (before test past)
before-part test r o [] = refl
before-part test r o (e ∷ past) = go (e.by == r) refl (test e) refl (before-part test r o past)
  where
    go : (t : Bool) → (e.by == r) ≡ t → (u : Bool) → test e ≡ u → before test (part r past) ≡ part r (before test past)
        → before test (cond t (e ∷ part r past) (part r past)) ≡ part r (cond u past (before test past))
    go true h true k ih = rw k refl
    go true h false k ih = rw k ih
    go false h true k ih = absurd (true≢false (sym k ∙ o.own e h))
    go false h false k ih = ih

-- only r's own first asks begin its leaderships
begins-own_at : (r by : ℕ) (v : Verb) → (by == r) ≡ false → is_first_ask r by v ≡ false
begins-own_at r by (Verb.Ask p) h = rw h refl
begins-own_at r by _ h = refl

pub begins-own : (r : ℕ) → IsOwnTest r (begins_leadership r)
begins-own r = record { own = λ e h. begins-own_at r e.by e.verb h }

-- and only its own reads of fences note a grant
fence_seen-own : (r p : ℕ) → IsOwn r (λ e. fence_seen r p e.by e.verb e.answer)
fence_seen-own r p = record { own = λ e h. go e.by e.verb e.answer h }
  where
    go : (by : ℕ) (v : Verb) (a : Answer) → (by == r) ≡ false → fence_seen r p by v a ≡ None
    go by (Verb.Fence q) (Answer.Seen f) h = rw h refl
    go by v a h = refl

pub noted-part : (r p : ℕ) (past : List Event) → noted_grant r p (part r past) ≡ noted_grant r p past
noted-part r p past =
    ap (λ l. grant_for r (newest (λ e. fence_seen r p e.by e.verb e.answer) l)) (since-part (begins_leadership r) r (begins-own r) past)
    ∙ ap (grant_for r) (newest-part (λ e. fence_seen r p e.by e.verb e.answer) r (fence_seen-own r p) (since (begins_leadership r) past))

-- only its own beats are its beats
pub beats-own : (q : ℕ) → IsOwnTest q (λ e. is_beat_by q e.by e.verb)
beats-own q = record { own = λ e h. go e.by e.verb h }
  where
    go : (by : ℕ) (v : Verb) → (by == q) ≡ false → is_beat_by q by v ≡ false
    go by Verb.Beat h = h
    go by v h = refl

-- and its own asks its asks
pub asks-own : (w p : ℕ) → IsOwnTest w (λ e. is_ask_by w p e.by e.verb)
asks-own w p = record { own = λ e h. go e.by e.verb h }
  where
    go : (by : ℕ) (v : Verb) → (by == w) ≡ false → is_ask_by w p by v ≡ false
    go by (Verb.Ask q) h = rw h refl
    go by v h = refl
