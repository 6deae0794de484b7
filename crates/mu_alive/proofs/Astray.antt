-- No region goes astray of a leadership that the least begins once it owns each region that goes on:
-- each is its own, or its host is held to be failed.
use Rattle.std.proofs.Common.{◌≡◌, ◌≢◌, ◌⊎◌, ℕ, ◌<◌, ◌≤◌, ◌==◌, ◌&&◌, not, inl, inr, Bool, true, false, cond, Some, None, List, [], ◌∷◌, ◌++◌, length, refl, sym, ◌∙◌, ap, arith, subst, eqb-true, true≢false, append_assoc, nat_le}
use Rattle.std.specs.Prelude.{is_some, nat_lt}
use Rattle.std.proofs.lemmas.Bool.{eq-eqb, ltb-true}
use Rattle.std.proofs.lemmas.List.{length-append}
use Rattle.mu_model.specs.declared.config.Config.{Config}
use Rattle.mu_model.specs.declared.event.Event.{Event}
use Rattle.mu_model.specs.declared.event.Verb.{Verb}
use Rattle.mu_model.specs.Again.{asks_again, foreign_row, is_astray, is_foreign, is_numbered, one_more, owner_is_other, row_with}
use Rattle.mu_model.specs.Histories.{count_below, part}
use Rattle.mu_model.specs.Leaderships.{fence_seen, is_first_ask, is_member, proposal_number}
use Rattle.mu_model.specs.Regions.{fence, fence_closing, fence_owner}
use Rattle.mu_model.specs.Scores.{is_failed}
use Rattle.mu_model.proofs.Basics.{same_number}
use Rattle.mu_model.proofs.Parts.{filter-append}
use Rattle.mu_agree.proofs.Counting.{Member, some_below}
use Rattle.mu_agree.proofs.Legal.{event_after}
use Rattle.mu_alive.specs.Failing.{failing_steps}
use Rattle.mu_alive.proofs.Beginning.{begins_now}
use Rattle.mu_alive.proofs.Enduring.{Begins, begins_before, grants_stay, legal_of, upto, whole_of}
use Rattle.mu_alive.proofs.Failing.{held_failed}
use Rattle.mu_alive.proofs.Settling.{score-part}

-- the fence of a region that a owns isn't foreign to it
own_fence : (a p : ℕ) (past : List Event) → fence_owner p past ≡ Some a → is_foreign a (fence p past) ≡ false
own_fence a p past owns = shut (fence_closing p past) (owner_is_other a (fence_owner p past)) (ap (owner_is_other a) owns ∙ ap not (same_number a))
  where
    shut : (t o : Bool) → o ≡ false → (not t && o) ≡ false
    shut true o h = refl
    shut false o h = h

-- so while a owns it the row stays 0
row_after : (c : Config) (a p by : ℕ) (v : Verb) (past mine : List Event) → fence_owner p past ≡ Some a → foreign_row a p mine ≡ 0 → foreign_row a p (event_after c past by v ∷ mine) ≡ 0
row_after c a p by (Verb.Ask q) past mine owns none = asked (is_first_ask a by (Verb.Ask q))
  where
    asked : (t : Bool) → cond t 0 (foreign_row a p mine) ≡ 0
    asked true = refl
    asked false = none
row_after c a p by (Verb.Fence q) past mine owns none = seen (by == a) (q == p) refl (is_some (proposal_number a mine))
  where
    seen : (t u : Bool) → (q == p) ≡ u → (n : Bool) → row_with a n (cond (t && u) (Some (fence q past)) None) (foreign_row a p mine) ≡ 0
    seen true true hu true =
        ap (λ x. cond (is_foreign a (fence x past)) (one_more (foreign_row a p mine)) 0) (eqb-true q p hu)
        ∙ ap (λ t. cond t (one_more (foreign_row a p mine)) 0) (own_fence a p past owns)
    seen true true hu false = none
    seen true false hu n = none
    seen false u hu n = none
row_after c a p by v past mine owns none = none

own_row : (c : Config) (live : ℕ → Bool) (a : ℕ) (latest : List Event) (e : Event) (later newer older : List Event) → Begins c live a latest e later newer older → (p : ℕ) → p < c.replicas → live p ≡ true → foreign_row a p (part a (upto latest e later newer older)) ≡ 0
own_row c live a [] e later newer older k p low lives =
    ap (λ t. foreign_row a p (cond t (e ∷ base) base)) (eq-eqb e.by a k.own)
    ∙ ap (λ t. cond t 0 (row_with a (is_some (proposal_number a base)) (fence_seen a p e.by e.verb e.answer) (foreign_row a p base))) (begins_now a e k.own k.asks)
  where
    base : List Event
    base = part a (later ++ (newer ++ older))
own_row c live a (f ∷ latest) e later newer older k p low lives = go (f.by == a) (own_row c live a latest e later newer older before p low lives)
  where
    before : Begins c live a latest e later newer older
    before = begins_before c live a (f ∷ []) latest e later newer older k

    past : List Event
    past = upto latest e later newer older

    go : (t : Bool) → foreign_row a p (part a past) ≡ 0 → foreign_row a p (cond t (f ∷ part a past) (part a past)) ≡ 0
    go true none =
        subst (λ y. foreign_row a p (record { by = f.by; verb = f.verb; answer = y } ∷ part a past) ≡ 0) (sym (legal_of c live a (f ∷ latest) e later newer older k).1.answer)
        (row_after c a p f.by f.verb past (part a past) (grants_stay c live a latest e later newer older before p low lives).0 none)
    go false none = none

-- and the host of a region that doesn't go on is held to be failed
gone_failed : (c : Config) (live : ℕ → Bool) (a : ℕ) (latest : List Event) (e : Event) (later newer older : List Event) → Begins c live a latest e later newer older → (p : ℕ) → p < c.replicas → live p ≡ false → is_failed a p (part a (upto latest e later newer older)) ≡ true
gone_failed c live a latest e later newer older k p low gone =
    ap (λ s. not s.1) (score-part a p (upto latest e later newer older))
    ∙ ap (is_failed a p) (sym (whole_of latest e later newer older))
    ∙ held_failed c p a (latest ++ (e ∷ (later ++ newer))) older low differ k.on.legal (k.on.quiet p low gone) (k.on.reads a k.on.inside k.on.lives) long
  where
    differ : p ≢ a
    differ same = true≢false (sym k.on.lives ∙ ap live (sym same) ∙ gone)

    long : failing_steps c ≤ length (part a (latest ++ (e ∷ (later ++ newer))))
    long =
        let taken = (k.clear a k.on.inside k.on.lives).taken a k.on.inside k.on.lives in
        let sum = ap (λ l. length (part a l)) (sym (append_assoc latest (e ∷ later) newer)) ∙ ap length (filter-append (λ f. f.by == a) (latest ++ (e ∷ later)) newer) ∙ length-append (part a (latest ++ (e ∷ later))) (part a newer) in
        omega (arith, taken, sum)

none_astray : (c : Config) (live : ℕ → Bool) (a : ℕ) (latest : List Event) (e : Event) (later newer older : List Event) → Begins c live a latest e later newer older → (p : ℕ) → p < c.replicas → is_astray a (part a (upto latest e later newer older)) p ≡ false
none_astray c live a latest e later newer older k p low = apart (is_member a p mine) (is_failed a p mine) (nat_le 16 (foreign_row a p mine)) (go (live p) refl)
  where
    mine : List Event
    mine = part a (upto latest e later newer older)

    go : (t : Bool) → live p ≡ t → (is_failed a p mine ≡ true) ⊎ (nat_le 16 (foreign_row a p mine) ≡ false)
    go true lives = inr (ap (nat_le 16) (own_row c live a latest e later newer older k p low lives))
    go false gone = inl (gone_failed c live a latest e later newer older k p low gone)

    apart : (m f x : Bool) → (f ≡ true) ⊎ (x ≡ false) → (not m && (not f && x)) ≡ false
    apart true f x h = refl
    apart false true x h = refl
    apart false false x (inl h) = absurd (true≢false (sym h))
    apart false false x (inr h) = h

-- so a doesn't ask again
pub never_astray : (c : Config) (live : ℕ → Bool) (a : ℕ) (latest : List Event) (e : Event) (later newer older : List Event) → Begins c live a latest e later newer older → asks_again c a (part a (upto latest e later newer older)) ≡ false
never_astray c live a latest e later newer older k = shut (is_numbered a mine) (nat_lt 0 (count_below c.replicas (λ p. is_astray a mine p))) (go (nat_lt 0 (count_below c.replicas (λ p. is_astray a mine p))) refl)
  where
    mine : List Event
    mine = part a (upto latest e later newer older)

    found : Member c.replicas (λ p. is_astray a mine p) → ⊥
    found m = true≢false (sym m.passes ∙ none_astray c live a latest e later newer older k m.who m.below)

    go : (t : Bool) → nat_lt 0 (count_below c.replicas (λ p. is_astray a mine p)) ≡ t → t ≡ false
    go true some = absurd (found (some_below c.replicas (λ p. is_astray a mine p) (ltb-true 0 (count_below c.replicas (λ p. is_astray a mine p)) some)))
    go false none = refl

    shut : (n s : Bool) → s ≡ false → (n && s) ≡ false
    shut true s h = h
    shut false s h = refl
