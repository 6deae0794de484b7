-- Counts that were opened since a base, and what they brought.
use Rattle.std.proofs.Common.{append-nil, ◌≡◌, ℕ, ◌≤◌, not, inl, inr, Bool, true, false, Some, List, [], ◌∷◌, ◌++◌, length, refl, sym, ◌∙◌, ap, arith, subst, true≢false, append_assoc, ◌||◌}
use Rattle.std.specs.Prelude.{if◌then◌else◌}
use Rattle.std.proofs.lemmas.Bool.{leb-true}
use Rattle.mu_model.specs.declared.config.Config.{Config}
use Rattle.mu_model.specs.declared.event.Event.{Event}
use Rattle.mu_model.specs.Bounds.{stays}
use Rattle.mu_model.specs.Histories.{greatest}
use Rattle.mu_model.specs.Knowledge.{known}
use Rattle.mu_model.specs.Leaderships.{begins_leadership, is_member, leadership}
use Rattle.mu_model.specs.Placing.{fuo_read_or_raised}
use Rattle.mu_model.specs.Steps.{is_named, is_over_after}
use Rattle.mu_model.specs.Stretches.{each_step, is_replication}
use Rattle.mu_agree.proofs.Landings.{greatest_since}
use Rattle.mu_agree.proofs.Prefixes.{greatest_along}
use Rattle.mu_pace.specs.Counters.{Watch, paid}
use Rattle.mu_agree.specs.Moments.{AtEachStep}
use Rattle.mu_pace.specs.Watches.{bringing_up, earns, is_brought_up, is_full_raise, leaves, limit, raising}
use Rattle.mu_pace.proofs.Counting.{steps_before}
use Rattle.mu_pace.proofs.Growing.{known_grows, member_stays, stays_less}
use Rattle.mu_alive.proofs.Bringing.{BroughtBy, brought_next}
use Rattle.mu_alive.proofs.Steady.{Steady, away_by, member_numbered, not_away, raises_brought}
use Rattle.mu_alive.proofs.Waiting.{Closed, paid_both, stays_older}

-- since the base the count was opened, and it isn't closed yet
pub record Since (c : Config) (a : ℕ) (w : Watch) (n base : List Event) : Type 0 where
  pub window : List Event
  pub mid : List Event
  pub amount : ℕ
  pub is : n ≡ window ++ mid
  pub allows : w.allows (mid ++ base) ≡ Some amount
  pub few : amount ≤ limit c c.replicas
  pub unclosed : each_step (λ past e. not (w.closes past e)) window (mid ++ base) ≡ true

pub since_here : (c : Config) (a : ℕ) (w : Watch) (amount : ℕ) (e : Event) (n base : List Event) → w.allows (e ∷ (n ++ base)) ≡ Some amount → amount ≤ limit c c.replicas → Since c a w (e ∷ n) base
since_here c a w amount e n base allows few = record { window = []; mid = e ∷ n; amount = amount; is = refl; allows = allows; few = few; unclosed = refl }

pub flat : (c : Config) (a : ℕ) (w : Watch) (n base : List Event) → (k : Since c a w n base) → n ++ base ≡ k.window ++ (k.mid ++ base)
flat c a w n base k = ap (λ l. l ++ base) k.is ∙ append_assoc k.window k.mid base

pub since_on : (c : Config) (a : ℕ) (w : Watch) (e : Event) (n base : List Event) → w.closes (n ++ base) e ≡ false → Since c a w n base → Since c a w (e ∷ n) base
since_on c a w e n base open_yet k = record {
  window = e ∷ k.window;
  mid = k.mid;
  amount = k.amount;
  is = ap (λ l. e ∷ l) k.is;
  allows = k.allows;
  few = k.few;
  unclosed = ap (λ t. if not t then each_step (λ past e. not (w.closes past e)) k.window (k.mid ++ base) else false) (ap (λ l. w.closes l e) (sym (flat c a w n base k)) ∙ open_yet) ∙ k.unclosed;
}

-- what was paid grows
pub paid_on : (c : Config) (a : ℕ) (v n base : List Event) → paid (earns c a) n base ≤ paid (earns c a) (v ++ n) base
paid_on c a v n base = let both = paid_both (earns c a) v n base in omega (arith, both)

-- a member is brought up, or a count was opened since that waits for it
abbrev pub BroughtSince : Config → ℕ → ℕ → List Event → List Event → Type 0
BroughtSince c a p n base = is_member a p (n ++ base) ≡ true → BroughtBy (λ w. Since c a w n base) c a p (n ++ base)

pub brought_since : (c : Config) (a p : ℕ) (v n base : List Event) → AtEachStep (Steady c a) ((v ++ n) ++ base) → BroughtSince c a p n base → BroughtSince c a p (v ++ n) base
brought_since c a p [] n base steady before = before
brought_since c a p (e ∷ v) n base steady before =
    brought_next (λ w. Since c a w (v ++ n) base) (λ w. Since c a w (e ∷ (v ++ n)) base) c a p e ((v ++ n) ++ base) steady.1 (λ w amount allows few. since_here c a w amount e (v ++ n) base allows few)
    (λ w same open_yet k. since_on c a w e (v ++ n) base open_yet k) (brought_since c a p v n base steady.0 before)

-- so once it is brought up its FUO covers what was known
pub covers_by : (Holds : Watch → Type 0) (c : Config) (a p l : ℕ) (v n base : List Event) → AtEachStep (Steady c a) ((v ++ n) ++ base) → stays a v ≡ true → is_member a p (n ++ base) ≡ true → BroughtBy Holds c a p (n ++ base) → l ≤ length (known c a (n ++ base))
    → (Holds (bringing_up c a p) → Closed (bringing_up c a p) v (n ++ base)) → (Holds (raising c a p) → Closed (raising c a p) v (n ++ base)) → l ≤ greatest (λ e. fuo_read_or_raised a p e.by e.verb e.answer) (v ++ (n ++ base))
covers_by Holds c a p l v n base steady same member before knows brings raises = go before
  where
    steady' : AtEachStep (Steady c a) (v ++ (n ++ base))
    steady' = subst (AtEachStep (Steady c a)) (append_assoc v n base) steady

    -- brought up at some moment of the stretch
    at : (newer older : List Event) → v ≡ newer ++ older → is_brought_up c a p (older ++ (n ++ base)) ≡ true → l ≤ greatest (λ e. fuo_read_or_raised a p e.by e.verb e.answer) (v ++ (n ++ base))
    at newer older is up =
        let covers = leb-true (length (known c a (older ++ (n ++ base)))) (greatest (λ f. fuo_read_or_raised a p f.by f.verb f.answer) (leadership a (older ++ (n ++ base)))) up in
        let grows = known_grows c a older (n ++ base) in
        let all = greatest_since (λ f. fuo_read_or_raised a p f.by f.verb f.answer) (begins_leadership a) (older ++ (n ++ base)) in
        let along = greatest_along (λ f. fuo_read_or_raised a p f.by f.verb f.answer) newer (older ++ (n ++ base)) in
        let split = ap (greatest (λ f. fuo_read_or_raised a p f.by f.verb f.answer)) (ap (λ z. z ++ (n ++ base)) is ∙ append_assoc newer older (n ++ base)) in
        omega (arith, covers, grows, all, along, split, knows)

    here : (newer older : List Event) (e : Event) → v ≡ newer ++ e ∷ older → Steady c a (older ++ (n ++ base)) e
    here newer older e is = (steps_before (Steady c a) newer (e ∷ (older ++ (n ++ base))) (subst (AtEachStep (Steady c a)) (ap (λ z. z ++ (n ++ base)) is ∙ append_assoc newer (e ∷ older) (n ++ base)) steady')).1

    parts : (newer older : List Event) (e : Event) → v ≡ newer ++ e ∷ older → (begins_leadership a e ≡ false) × (is_member a p (older ++ (n ++ base)) ≡ true)
    parts newer older e is = let less = stays_less a e older (stays_older a newer (e ∷ older) (subst (λ z. stays a z ≡ true) is same)) in (less.0, member_stays a p older (n ++ base) less.1 member)

    up_by : (t u : Bool) → u ≡ false → (t || u) ≡ true → t ≡ true
    up_by true u h is = refl
    up_by false u h is = absurd (true≢false (sym is ∙ h))

    go : BroughtBy Holds c a p (n ++ base) → l ≤ greatest (λ e. fuo_read_or_raised a p e.by e.verb e.answer) (v ++ (n ++ base))
    go (inl up) = at v [] (sym (append-nil v)) up
    go (inr (inl k)) = shut (brings k)
      where
        shut : Closed (bringing_up c a p) v (n ++ base) → l ≤ greatest (λ e. fuo_read_or_raised a p e.by e.verb e.answer) (v ++ (n ++ base))
        shut z =
            let s = here z.newer z.older z.event z.is in
            let q = parts z.newer z.older z.event z.is in
            at z.newer (z.event ∷ z.older) z.is
            (up_by (is_brought_up c a p (z.event ∷ (z.older ++ (n ++ base)))) (leaves c a (is_over_after a) (z.older ++ (n ++ base)) z.event) (not_away (begins_leadership a z.event) (is_replication (z.older ++ (n ++ base)) z.event) (is_named c a (z.older ++ (n ++ base))) (is_over_after a (z.older ++ (n ++ base)) z.event) q.0 (s.named (member_numbered a p (z.older ++ (n ++ base)) q.1)) s.on) z.closes)
    go (inr (inr k)) = shut (raises k)
      where
        shut : Closed (raising c a p) v (n ++ base) → l ≤ greatest (λ e. fuo_read_or_raised a p e.by e.verb e.answer) (v ++ (n ++ base))
        shut z =
            let s = here z.newer z.older z.event z.is in
            let q = parts z.newer z.older z.event z.is in
            let raise = away_by (begins_leadership a z.event) (is_replication (z.older ++ (n ++ base)) z.event) (is_named c a (z.older ++ (n ++ base))) (is_full_raise c a p (z.older ++ (n ++ base)) z.event) q.0 (s.named (member_numbered a p (z.older ++ (n ++ base)) q.1)) z.closes in
            at z.newer (z.event ∷ z.older) z.is (raises_brought c a p z.event.by z.event.verb z.event.answer (z.older ++ (n ++ base)) s.own raise.1)
