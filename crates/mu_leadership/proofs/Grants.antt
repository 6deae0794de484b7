-- The grants of a region that a replica sees never go down.
use Rattle.std.proofs.Common.{◌≡◌, ◌≢◌, ℕ, ◌≤◌, Bool, true, false, cond, ◌==◌, ◌&&◌, List, [], ◌∷◌, refl, sym, ◌∙◌, ap, arith, Some, None, eqb-true}
use Rattle.std.proofs.lemmas.Bool.{eq-eqb}
use Rattle.std.specs.Prelude.{is_some, not}
use Rattle.std.specs.declared.option.Option.{Option}
use Rattle.mu_model.specs.declared.config.Config.{Config}
use Rattle.mu_model.specs.declared.event.Answer.{Answer}
use Rattle.mu_model.specs.declared.event.Event.{Event}
use Rattle.mu_model.specs.declared.event.Fence.{Fence}
use Rattle.mu_model.specs.declared.event.Verb.{Verb}
use Rattle.mu_model.specs.Answers.{answer_of}
use Rattle.mu_model.specs.Entering.{grant_seen, has_read_min, min_read_since, min_read_under}
use Rattle.mu_model.specs.Histories.{has, newer_or, newest}
use Rattle.mu_model.specs.Leaderships.{begins_leadership, fence_seen, grant_for, leadership, noted_grant, owner_is}
use Rattle.mu_model.specs.Parts.{IsPossible}
use Rattle.mu_model.specs.Regions.{fence, fence_grant}
use Rattle.mu_agree.proofs.Minimum.{grant_seen-own, read_under_seen, seen_law}
use Rattle.mu_model.proofs.Owned.{has-part}
use Rattle.mu_agree.proofs.Possible.{at_event, parts_shorten_law, same_fence}
use Rattle.mu_leadership.specs.Leadership.{grant_of, last_grant}
use Rattle.mu_model.proofs.Basics.{same_number, same_some}

-- r saw the grant g of p
abbrev pub saw : ℕ → ℕ → ℕ → List Event → Bool
saw r p g mine = has (λ e. grant_seen r p g e.by e.verb e.answer) mine

-- the grant that r saw last is the greatest that it saw
abbrev pub LastIsGreatest : ℕ → ℕ → List Event → Type 0
LastIsGreatest r p mine = (g : ℕ) → saw r p g mine ≡ true → (h : ℕ) × (last_grant r p mine ≡ Some h) × (saw r p h mine ≡ true) × (g ≤ h)

-- a fence shows no lower grant than r saw before
pub shows_no_lower : (c : Config) (r p g : ℕ) (mine : List Event) (e : Event) (f : Fence) → IsPossible c r (e ∷ mine) → e.verb ≡ Verb.Fence p → e.answer ≡ Answer.Seen f → saw r p g mine ≡ true → g ≤ f.grant
shows_no_lower c r p g mine e f possible verb answer seen =
    let s = at_event c r mine e possible in
    let here : answer_of c e.by s.older e.verb ≡ Answer.Seen f = sym s.follows.answer ∙ answer in
    let shown : Answer.Seen (fence p s.older) ≡ Answer.Seen f = sym (ap (λ v. answer_of c e.by s.older v) verb) ∙ here in
    let is : fence p s.older ≡ f = same_fence (fence p s.older) f shown in
    let grant : fence_grant p s.older ≡ f.grant = ap (λ x. x.grant) is in
    let whole : saw r p g s.older ≡ true = sym (has-part (λ x. grant_seen r p g x.by x.verb x.answer) r (grant_seen-own r p g) s.older) ∙ ap (λ l. saw r p g l) s.part_is ∙ seen in
    let low : g ≤ fence_grant p s.older = seen_law c r p s.older s.legal g whole in
    omega arith

-- the greatest after a fence answer of p
greatest_now : (r p : ℕ) (f : Fence) (mine : List Event) → ((g : ℕ) → saw r p g mine ≡ true → g ≤ f.grant) → (g : ℕ) → cond (f.grant == g) true (saw r p g mine) ≡ true
    → (h : ℕ) × (Some f.grant ≡ Some h) × (cond (f.grant == h) true (saw r p h mine) ≡ true) × (g ≤ h)
greatest_now r p f mine low g seen = (f.grant, refl, rw (same_number f.grant) refl, go (f.grant == g) refl seen)
  where
    go : (t : Bool) → (f.grant == g) ≡ t → cond t true (saw r p g mine) ≡ true → g ≤ f.grant
    go true is k = let e : f.grant ≡ g = eqb-true f.grant g is in omega arith
    go false is k = low g k

greatest_by : (c : Config) (r p by : ℕ) (verb : Verb) (answer : Answer) (mine : List Event) → IsPossible c r (record { by = by; verb = verb; answer = answer } ∷ mine) → LastIsGreatest r p mine → LastIsGreatest r p (record { by = by; verb = verb; answer = answer } ∷ mine)
greatest_by c r p by (Verb.Fence q) (Answer.Seen f) mine possible last = go (by == r) refl (q == p) refl
  where
    go : (t : Bool) → (by == r) ≡ t → (u : Bool) → (q == p) ≡ u → LastIsGreatest r p (record { by = by; verb = Verb.Fence q; answer = Answer.Seen f } ∷ mine)
    go true h true k =
        let there : Verb.Fence q ≡ Verb.Fence p = ap (λ x. Verb.Fence x) (eqb-true q p k) in
        let low : (g : ℕ) → saw r p g mine ≡ true → g ≤ f.grant = λ g seen. shows_no_lower c r p g mine (record { by = by; verb = Verb.Fence q; answer = Answer.Seen f }) f possible there refl seen in
        rw (h, k) (greatest_now r p f mine low)
    go true h false k = rw (h, k) last
    go false h u k = rw h last
greatest_by c r p by verb answer mine possible last = last

last_is_greatest : (c : Config) (r p : ℕ) (mine : List Event) → IsPossible c r mine → LastIsGreatest r p mine
last_is_greatest c r p [] possible = λ g seen. cc
last_is_greatest c r p (e ∷ mine) possible = greatest_by c r p e.by e.verb e.answer mine possible (last_is_greatest c r p mine (parts_shorten_law c r mine e possible).before)

-- under a grant that r has just seen first it has read no minimum
pub no_read_before : (c : Config) (r p : ℕ) (mine : List Event) (e : Event) (f : Fence) → IsPossible c r (e ∷ mine) → e.verb ≡ Verb.Fence p → e.answer ≡ Answer.Seen f → last_grant r p mine ≢ Some f.grant → min_read_under r p f.grant mine ≡ false
no_read_before c r p mine e f possible verb answer other = go (min_read_under r p f.grant mine) refl
  where
    go : (t : Bool) → min_read_under r p f.grant mine ≡ t → t ≡ false
    go false is = refl
    go true is =
        let seen = read_under_seen r p f.grant mine is in
        let last = last_is_greatest c r p mine (parts_shorten_law c r mine e possible).before f.grant seen in
        let low = shows_no_lower c r p last.0 mine e f possible verb answer last.2 in
        let high = last.3 in
        let same : last.0 ≡ f.grant = omega arith in
        absurd (other (last.1 ∙ ap Some same))

-- the grant that r saw last was seen
last_was_seen : (r p g : ℕ) (mine : List Event) → last_grant r p mine ≡ Some g → saw r p g mine ≡ true
last_was_seen r p g [] is = cc
last_was_seen r p g (e ∷ mine) is = by_event e.by e.verb e.answer is (last_was_seen r p g mine)
  where
    by_event : (by : ℕ) (verb : Verb) (answer : Answer) → last_grant r p (record { by = by; verb = verb; answer = answer } ∷ mine) ≡ Some g → (last_grant r p mine ≡ Some g → saw r p g mine ≡ true)
        → saw r p g (record { by = by; verb = verb; answer = answer } ∷ mine) ≡ true
    by_event by (Verb.Fence q) (Answer.Seen f) is before = go (by == r) refl (q == p) refl is
      where
        go : (t : Bool) → (by == r) ≡ t → (u : Bool) → (q == p) ≡ u → grant_of (newer_or (cond (t && u) (Some f) None) (newest (λ x. fence_seen r p x.by x.verb x.answer) mine)) ≡ Some g
            → cond (t && (u && (f.grant == g))) true (saw r p g mine) ≡ true
        go true h true k is = let same : f.grant ≡ g = same_some f.grant g is in rw (eq-eqb f.grant g same) refl
        go true h false k is = before is
        go false h u k is = before is
    by_event by verb answer is before = before is

-- a fence of p was seen exactly if a grant of it was
pub seen_granted : (r p : ℕ) (mine : List Event) → is_some (newest (λ e. fence_seen r p e.by e.verb e.answer) mine) ≡ is_some (last_grant r p mine)
seen_granted r p mine = go (newest (λ e. fence_seen r p e.by e.verb e.answer) mine)
  where
    go : (o : Option Fence) → is_some o ≡ is_some (grant_of o)
    go None = refl
    go (Some f) = refl

-- whether the minimum was read since the first answer with the last grant, after a minimum was read of p
pub min_read_now : (r p : ℕ) (mine : List Event) (e : Event) (q x : ℕ) (result : Bool) → e.verb ≡ Verb.Min q → e.answer ≡ Answer.Number x → (e.by == r) ≡ true → (q == p) ≡ true → result ≡ is_some (last_grant r p mine) → min_read_since r p mine (last_grant r p mine) ≡ false → result ≡ min_read_since r p (e ∷ mine) (last_grant r p (e ∷ mine))
min_read_now r p mine e q x result verb answer own here is none = is ∙ step (last_grant r p mine) refl ∙ ap (λ o. min_read_since r p (e ∷ mine) o) same_last
  where
    same_last : last_grant r p mine ≡ last_grant r p (e ∷ mine)
    same_last = rw verb refl

    step : (o : Option ℕ) → last_grant r p mine ≡ o → is_some o ≡ min_read_since r p (e ∷ mine) o
    step None h = refl
    step (Some g) h = rw (verb, answer, own, here, last_was_seen r p g mine h) refl

-- the last fence seen in the leadership is the last seen
last_since : (r p : ℕ) (mine : List Event) (f : Fence) → newest (λ e. fence_seen r p e.by e.verb e.answer) (leadership r mine) ≡ Some f → newest (λ e. fence_seen r p e.by e.verb e.answer) mine ≡ Some f
last_since r p [] f is = is
last_since r p (e ∷ mine) f is = go (begins_leadership r e) is (last_since r p mine f)
  where
    go : (t : Bool) → newest (λ x. fence_seen r p x.by x.verb x.answer) (cond t [] (e ∷ leadership r mine)) ≡ Some f
        → (newest (λ x. fence_seen r p x.by x.verb x.answer) (leadership r mine) ≡ Some f → newest (λ x. fence_seen r p x.by x.verb x.answer) mine ≡ Some f)
        → newer_or (fence_seen r p e.by e.verb e.answer) (newest (λ x. fence_seen r p x.by x.verb x.answer) mine) ≡ Some f
    go true is before = cc
    go false is before = newer (fence_seen r p e.by e.verb e.answer) is before
      where
        newer : (o : Option Fence) → newer_or o (newest (λ x. fence_seen r p x.by x.verb x.answer) (leadership r mine)) ≡ Some f
            → (newest (λ x. fence_seen r p x.by x.verb x.answer) (leadership r mine) ≡ Some f → newest (λ x. fence_seen r p x.by x.verb x.answer) mine ≡ Some f)
            → newer_or o (newest (λ x. fence_seen r p x.by x.verb x.answer) mine) ≡ Some f
        newer None is before = before is
        newer (Some g) is before = is

-- the noted grant, if there is one, is the one that r saw last
noted_is_last : (r p g : ℕ) (mine : List Event) → noted_grant r p mine ≡ Some g → last_grant r p mine ≡ Some g
noted_is_last r p g mine is = go (newest (λ e. fence_seen r p e.by e.verb e.answer) (leadership r mine)) refl is
  where
    go : (o : Option Fence) → newest (λ e. fence_seen r p e.by e.verb e.answer) (leadership r mine) ≡ o → grant_for r o ≡ Some g → last_grant r p mine ≡ Some g
    go None here is = cc
    go (Some f) here is = ap grant_of (last_since r p mine f here) ∙ named (not f.closing && owner_is r f.owner) is
      where
        named : (t : Bool) → cond t (Some f.grant) None ≡ Some g → Some f.grant ≡ Some g
        named true is = is
        named false is = cc

-- the minimum was read under the noted grant: there is one, and it was read under the last grant
pub read_of_noted : (r p : ℕ) (mine : List Event) → has_read_min r p mine ≡ (is_some (noted_grant r p mine) && min_read_since r p mine (last_grant r p mine))
read_of_noted r p mine = go (noted_grant r p mine) refl
  where
    go : (o : Option ℕ) → noted_grant r p mine ≡ o → min_read_since r p mine o ≡ (is_some o && min_read_since r p mine (last_grant r p mine))
    go None is = refl
    go (Some g) is = ap (λ o. min_read_since r p mine o) (sym (noted_is_last r p g mine is))
