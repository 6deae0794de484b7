-- A leader that no head blocks knows one entry more in time.
use Rattle.std.proofs.Common.{◌≡◌, ℕ, ◌+◌, ◌≤◌, ◌&&◌, ◌||◌, not, inl, inr, Bool, true, false, Some, List, [], ◌∷◌, ◌++◌, length, refl, sym, ◌∙◌, ap, arith, subst, true≢false, append_assoc}
use Rattle.std.proofs.lemmas.Bool.{cases_lt}
use Rattle.mu_model.specs.declared.config.Config.{Config}
use Rattle.mu_model.specs.declared.event.Event.{Event}
use Rattle.mu_model.specs.Contents.{marked}
use Rattle.mu_model.specs.Diligence.{is_milestone}
use Rattle.mu_model.specs.Histories.{all_below}
use Rattle.mu_model.specs.Knowledge.{known}
use Rattle.mu_model.specs.Room.{head_read, lacks_room, reserve}
use Rattle.mu_model.specs.Steps.{commits_more, has_min, is_lagging}
use Rattle.mu_model.specs.Stretches.{is_replication}
use Rattle.mu_model.proofs.Scans.{all_at, each_all}
use Rattle.mu_pace.specs.Blocking.{can_be_marked, is_blocking}
use Rattle.mu_agree.specs.Moments.{AtEachMoment, AtEachStep}
use Rattle.mu_pace.specs.Watches.{advancing, limit_now}
use Rattle.mu_pace.proofs.Counting.{allowed_here, last_moment, moments_before, steps_before}
use Rattle.mu_pace.proofs.Growing.{known_grows}
use Rattle.mu_pace.proofs.Leading.{commit_known}
use Rattle.mu_alive.proofs.Calm.{limit_fits}
use Rattle.mu_alive.proofs.Enough.{FirstMin, IsFine, Leads, first_is_milestone}
use Rattle.mu_alive.proofs.Opening.{closing_by, closing_opens}
use Rattle.mu_alive.proofs.Started.{one_leads}
use Rattle.mu_alive.proofs.Since.{Since, since_here, since_on}
use Rattle.mu_alive.proofs.Waiting.{Closed}

-- a head that blocks lags
blocks_lags : (c : Config) (a : ℕ) (past : List Event) (e : Event) → is_blocking c a past e ≡ true → is_lagging c a past e ≡ true
blocks_lags c a past e is = go (all_below c.replicas lags) refl
  where
    lags : ℕ → Bool
    lags q = not (not (marked c q (known c a past)) && lacks_room c (length (known c a past) + reserve c) (head_read a q e.by e.verb e.answer))

    blocked : ℕ → Bool
    blocked q = not (not (marked c q (known c a past)) && (lacks_room c (length (known c a past) + reserve c) (head_read a q e.by e.verb e.answer) && not (can_be_marked c a q (e ∷ past))))

    less : (m l f : Bool) → not (m && l) ≡ true → not (m && (l && f)) ≡ true
    less false l f h = refl
    less true false f h = refl
    less true true f h = absurd (true≢false (sym h))

    go : (t : Bool) → all_below c.replicas lags ≡ t → not t ≡ true
    go false is = refl
    go true all = absurd (true≢false (sym is ∙ ap not (each_all c.replicas blocked (λ q low. less (not (marked c q (known c a past))) (lacks_room c (length (known c a past) + reserve c) (head_read a q e.by e.verb e.answer)) (not (can_be_marked c a q (e ∷ past))) (all_at c.replicas lags all q low)))))

-- what closes the count opens it anew
closing_opens_it : (c : Config) (a : ℕ) (past : List Event) (e : Event) → (is_replication past e ≡ true) × ((commits_more c a past e || is_blocking c a past e) ≡ true) → is_milestone c a past e ≡ true
closing_opens_it c a past e is = closing_opens c a past e (is.0, more (commits_more c a past e) (is_blocking c a past e) (is_lagging c a past e) (blocks_lags c a past e) is.1)
  where
    more : (m b l : Bool) → (b ≡ true → l ≡ true) → (m || b) ≡ true → (m || l) ≡ true
    more true b l lags is = refl
    more false b l lags is = lags is

-- the count is open
abbrev pub IsAdvancing : Config → ℕ → List Event → List Event → Type 0
IsAdvancing c a n base = Since c a (advancing c a) n base

-- a milestone opens it
opened_by : (c : Config) (a : ℕ) (e : Event) (n base : List Event) → is_milestone c a (n ++ base) e ≡ true → IsAdvancing c a (e ∷ n) base
opened_by c a e n base milestone = since_here c a (advancing c a) (limit_now c a (e ∷ (n ++ base))) e n base (allowed_here (is_milestone c a) (limit_now c a) (n ++ base) e milestone) (limit_fits c a (e ∷ (n ++ base)))

-- so from the first minimum on it is open
advancing_step : (c : Config) (a : ℕ) (e : Event) (n base : List Event) → Leads c a (n ++ base) e → IsFine c a (n ++ base) → IsFine c a (e ∷ (n ++ base)) → has_min a (n ++ base) ≡ true → IsAdvancing c a n base → IsAdvancing c a (e ∷ n) base
advancing_step c a e n base leads was fine read k = go ((advancing c a).closes (n ++ base) e) refl
  where
    go : (t : Bool) → (advancing c a).closes (n ++ base) e ≡ t → IsAdvancing c a (e ∷ n) base
    go true closes = opened_by c a e n base (closing_opens_it c a (n ++ base) e (closing_by (is_blocking c a) c a (n ++ base) e (leads.same read) (leads.named read) fine.on was.lacks fine.going closes))
    go false open_yet = since_on c a (advancing c a) e n base open_yet k

pub advancing_on : (c : Config) (a : ℕ) (v n base : List Event) → AtEachStep (Leads c a) ((v ++ n) ++ base) → AtEachMoment (IsFine c a) ((v ++ n) ++ base) → has_min a (n ++ base) ≡ true → IsAdvancing c a n base → IsAdvancing c a (v ++ n) base
advancing_on c a [] n base leads fine read k = k
advancing_on c a (e ∷ v) n base leads fine read k =
    advancing_step c a e (v ++ n) base leads.1 (last_moment (IsFine c a) ((v ++ n) ++ base) fine.0) fine.1 (subst (λ l. has_min a l ≡ true) (sym (append_assoc v n base)) (one_leads c a v (n ++ base) (subst (AtEachStep (Leads c a)) (append_assoc v n base) leads.0) read).1) (advancing_on c a v n base leads.0 fine.0 read k)

-- the first minimum does, wherever since the base it comes
pub advancing_first : (c : Config) (a : ℕ) (mine n base : List Event) (m : FirstMin a mine) → m.first ∷ m.older ≡ n ++ base → IsAdvancing c a n base
advancing_first c a mine n base m is = record {
  window = [];
  mid = n;
  amount = limit_now c a (n ++ base);
  is = refl;
  allows = subst (λ l. (advancing c a).allows l ≡ Some (limit_now c a l)) is (allowed_here (is_milestone c a) (limit_now c a) m.older m.first (first_is_milestone c a m.first m.older m.min m.begun (last_moment (λ now. has_min a now ≡ false) m.older m.none)));
  few = limit_fits c a (n ++ base);
  unclosed = refl;
}

-- no head blocks while k entries are known
abbrev pub NoneBlocks : Config → ℕ → ℕ → List Event → List Event → Type 0
NoneBlocks c a k window base = (newer older : List Event) (e : Event) → window ≡ newer ++ e ∷ older → length (known c a (older ++ base)) ≡ k → is_blocking c a (older ++ base) e ≡ false

-- then one entry more is known once the count is closed
pub advances : (c : Config) (a k : ℕ) (v n base : List Event) → AtEachStep (Leads c a) ((v ++ n) ++ base) → AtEachMoment (IsFine c a) ((v ++ n) ++ base) → has_min a (n ++ base) ≡ true → k ≤ length (known c a (n ++ base)) → NoneBlocks c a k v (n ++ base) → Closed (advancing c a) v (n ++ base) → k + 1 ≤ length (known c a (v ++ (n ++ base)))
advances c a k v n base leads fine read knew free z = let along = known_grows c a z.newer (z.event ∷ past) in let same = ap (λ l. length (known c a l)) split in let more = here (commits_more c a past z.event) refl closing.1 in omega (arith, along, same, more)
  where
    past : List Event
    past = z.older ++ (n ++ base)

    split : v ++ (n ++ base) ≡ z.newer ++ z.event ∷ past
    split = ap (λ l. l ++ (n ++ base)) z.is ∙ append_assoc z.newer (z.event ∷ z.older) (n ++ base)

    leads_here : AtEachStep (Leads c a) (z.event ∷ past)
    leads_here = steps_before (Leads c a) z.newer (z.event ∷ past) (subst (AtEachStep (Leads c a)) (append_assoc v n base ∙ split) leads)

    fine_here : AtEachMoment (IsFine c a) (z.event ∷ past)
    fine_here = moments_before (IsFine c a) z.newer (z.event ∷ past) (subst (AtEachMoment (IsFine c a)) (append_assoc v n base ∙ split) fine)

    read_here : has_min a past ≡ true
    read_here = (one_leads c a z.older (n ++ base) leads_here.0 read).1

    closing : (is_replication past z.event ≡ true) × ((commits_more c a past z.event || is_blocking c a past z.event) ≡ true)
    closing = closing_by (is_blocking c a) c a past z.event (leads_here.1.same read_here) (leads_here.1.named read_here) fine_here.1.on (last_moment (IsFine c a) past fine_here.0).lacks fine_here.1.going z.closes

    here : (m : Bool) → commits_more c a past z.event ≡ m → (m || is_blocking c a past z.event) ≡ true → k + 1 ≤ length (known c a (z.event ∷ past))
    here true commits is = let more = commit_known c a past z.event.by z.event.verb z.event.answer commits in let grows = known_grows c a z.older (n ++ base) in omega (arith, more, grows, knew)
    here false none is = elim (cases_lt k (length (known c a past))) [
      | inl more ↦ (let grows = known_grows c a (z.event ∷ []) past in omega (arith, more, grows))
      | inr few ↦ absurd (true≢false (sym is ∙ free z.newer z.older z.event z.is (let grows = known_grows c a z.older (n ++ base) in omega (arith, few, grows, knew))))
    ]
