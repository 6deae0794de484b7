-- A confirmed leadership reads a minimum in time, and asks have their cause.
use Rattle.std.proofs.Common.{◌≡◌, ℕ, ◌+◌, Bool, true, false, List, [], ◌∷◌, ◌++◌, ◌==◌, refl, sym, ◌∙◌, arith, subst, true≢false, Some, eq-eqb}
use Rattle.std.specs.Prelude.{if◌then◌else◌, not, ◌||◌, ◌&&◌}
use Rattle.mu_model.specs.declared.config.Config.{Config}
use Rattle.mu_model.specs.declared.event.Answer.{Answer}
use Rattle.mu_model.specs.declared.event.Event.{Event}
use Rattle.mu_model.specs.declared.event.Verb.{Verb}
use Rattle.mu_model.specs.Diligence.{is_confirmed}
use Rattle.mu_model.specs.Leaderships.{begins_leadership, has_begun, leaderships}
use Rattle.mu_model.specs.Steps.{has_min, is_any_fencing, is_min, is_named, named_throughout, replicates}
use Rattle.mu_model.specs.Stretches.{IsStretch, each_step, is_replication}
use Rattle.mu_model.proofs.Basics.{none_some}
use Rattle.mu_model.specs.Histories.{event_by}
use Rattle.mu_pace.specs.Counters.{IsInTime}
use Rattle.mu_agree.specs.Moments.{AtEachMoment, AtEachStep}
use Rattle.mu_pace.specs.Keeping.{ConfirmsInTime, HasCauseBy}
use Rattle.mu_pace.specs.Paces.{AsksHaveCause, ConfirmedBeginInTime}
use Rattle.mu_pace.specs.Watches.{confirming, is_confirming, turns_away}
use Rattle.mu_pace.proofs.Counting.{allowed_here, remains, shorter, steps_before}
use Rattle.mu_pace.proofs.Hosts.{by_failing}
use Rattle.mu_pace.proofs.Stretched.{unpaid}

-- each event of a journal had its cause
step_of : (P : List Event → Event → Type 0) (past older : List Event) (e : Event) → AtEachStep P past → IsStretch past (e ∷ []) older → P older e
step_of P past older e h s = (steps_before P s.newer (e ∷ older) (subst (AtEachStep P) s.is h)).1

pub asks_have_cause : AsksHaveCause
asks_have_cause again c r past h =
    record { named = λ p e older s a. (step_of (HasCauseBy again c r) past older e h s).named p a; anew = λ e older s a. (step_of (HasCauseBy again c r) past older e h s).anew a }

-- the count of a confirmed leadership is in time at each moment
in_time : (c : Config) (r : ℕ) (past : List Event) → AtEachStep (ConfirmsInTime c r) past → AtEachMoment (IsInTime (confirming c r)) past
in_time c r [] h = λ left is. absurd (none_some left is)
in_time c r (e ∷ past) h = (in_time c r past h.0, h.1.in_time)

-- the `Min` of the leadership, or a fence by which it is confirmed no longer
abbrev answers : Config → ℕ → ℕ → List Event → Event → Bool
answers c r count before f = (is_min f && (leaderships r before == count)) || (is_any_fencing f && not (is_confirmed c r (f ∷ before)))

abbrev met : Config → ℕ → List Event → Event → Bool
met c r past e = is_min e || (is_any_fencing e && not (is_confirmed c r (e ∷ past)))

-- along a stretch in which neither comes no leadership begins, so a `Min` would be the leadership's
pub record Waits (c : Config) (r : ℕ) (window older : List Event) : Type 0 where
  pub unmet : each_step (λ past e. not (turns_away c r (met c r) past e)) window older ≡ true
  pub same : leaderships r (window ++ older) ≡ leaderships r older

waits : (c : Config) (r : ℕ) (window older : List Event) → AtEachStep (ConfirmsInTime c r) (window ++ older) → (confirming c r).allows older ≡ Some c.replicas
    → named_throughout c r window older ≡ true → replicates (answers c r (leaderships r older)) window older ≡ false → Waits c r window older
waits c r [] older h a n w = record { unmet = refl; same = refl }
waits c r (e ∷ window) older h a n w =
    one_more (go (is_replication (window ++ older) e) (is_named c r (window ++ older)) (is_min e) (is_any_fencing e && not (is_confirmed c r (e ∷ (window ++ older)))) (leaderships r (window ++ older) == leaderships r older)
    (λ s. eq-eqb (leaderships r (window ++ older)) (leaderships r older) s) n w (waits c r window older h.0 a))
  where
    by_test : (t : Bool) → begins_leadership r e ≡ t → Waits c r window older → (if t then leaderships r (window ++ older) + 1 else leaderships r (window ++ older)) ≡ leaderships r older
    by_test true b k = let o = remains (confirming c r) c.replicas window older (in_time c r (window ++ older) h.0) a k.unmet in absurd (none_some o.left (sym (h.1.anew b) ∙ o.is))
    by_test false b k = k.same

    one_more : Waits c r window older × (each_step (λ past e. not (turns_away c r (met c r) past e)) (e ∷ window) older ≡ true) → Waits c r (e ∷ window) older
    one_more k = record { unmet = k.1; same = by_test (begins_leadership r e) refl k.0 }

    go : (t u v x q : Bool) → (leaderships r (window ++ older) ≡ leaderships r older → q ≡ true) → (if not t || u then named_throughout c r window older else false) ≡ true
        → (if t && ((v && q) || x) then true else replicates (answers c r (leaderships r older)) window older) ≡ false
        → (named_throughout c r window older ≡ true → replicates (answers c r (leaderships r older)) window older ≡ false → Waits c r window older)
        → Waits c r window older × ((if not (t && (not u || (v || x))) then each_step (λ past e. not (turns_away c r (met c r) past e)) window older else false) ≡ true)
    go true false v x q d n w ih = absurd (true≢false (sym n))
    go true true true x true d n w ih = absurd (true≢false w)
    go true true true true false d n w ih = absurd (true≢false w)
    go true true true false false d n w ih = absurd (let k = ih n w in true≢false (sym (d k.same)))
    go true true false true q d n w ih = absurd (true≢false w)
    go true true false false q d n w ih = let k = ih n w in (k, k.unmet)
    go false u v x q d n w ih = let k = ih n w in (k, k.unmet)

all_four : (a b m d : Bool) → a ≡ true → b ≡ true → m ≡ false → d ≡ true → (a && (b && (not m && d))) ≡ true
all_four a b m d begun fence none now = rw (begun, fence, none, now) refl

pub confirmed_begin : ConfirmedBeginInTime
confirmed_begin c r past h e window older s begun fence none now l n =
    by_failing (replicates (answers c r (leaderships r older)) window (e ∷ older)) (λ unmet.
    let open_now = allowed_here (is_confirming c r) (λ now. c.replicas) older e (all_four (has_begun r older) (is_any_fencing e) (has_min r older) (is_confirmed c r (e ∷ older)) begun fence none now) in
    let here : AtEachStep (ConfirmsInTime c r) (window ++ e ∷ older) = steps_before (ConfirmsInTime c r) s.newer (window ++ e ∷ older) (subst (AtEachStep (ConfirmsInTime c r)) s.is h) in
    let same : leaderships r (e ∷ older) ≡ leaderships r older = no_ask e.by e.verb e.answer fence in
    let w = waits c r window (e ∷ older) here open_now n (subst (λ k. replicates (answers c r k) window (e ∷ older) ≡ false) (sym same) unmet) in
    let k = shorter (confirming c r) c.replicas past window (e ∷ older) (in_time c r past h) s open_now w.unmet in
    let u = unpaid window (e ∷ older) in absurd (omega arith))
  where
    no_ask : (by : ℕ) (v : Verb) (a : Answer) → is_any_fencing (event_by by v a) ≡ true → leaderships r (event_by by v a ∷ older) ≡ leaderships r older
    no_ask by (Verb.Fence p) a f = refl
    no_ask by v a f = absurd (true≢false (sym f))
