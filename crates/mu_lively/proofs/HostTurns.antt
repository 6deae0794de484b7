-- What one event of a host changes.
use Rattle.std.proofs.Common.{Bool, List, false, not, true, suc, zero, ℕ, ◌&&◌, ◌<◌, ◌==◌, ◌∷◌, ◌≡◌, ap, arith, refl, subst, sym, ◌∙◌, true≢false, eqb-true}
use Rattle.mu_model.specs.declared.event.Answer.{Answer}
use Rattle.mu_model.specs.declared.event.Event.{Event}
use Rattle.mu_model.specs.declared.event.Verb.{Verb}
use Rattle.mu_model.specs.Histories.{all_below, has, event_by}
use Rattle.mu_model.specs.Regions.{fence_closing}
use Rattle.mu_model.specs.Serving.{has_unserved_ask}
use Rattle.mu_model.specs.Steps.{is_ask_read_verb, is_granting, is_granting_verb}
use Rattle.mu_lively.specs.Order.{is_host_verb}
use Rattle.mu_grant.specs.Stands.{is_of_place}
use Rattle.mu_grant.proofs.Waiting.{one_passes, opposite}

-- who waits still does after an event that neither grants nor reads its asks
pub waits_on : (r w by : ℕ) (verb : Verb) (answer : Answer) (past : List Event) → (by == r) ≡ true → is_granting_verb verb ≡ false → is_ask_read_verb w verb ≡ false → has_unserved_ask r (event_by by verb answer ∷ past) w ≡ has_unserved_ask r past w
waits_on r w by (Verb.Grant q) answer past own keeps other = cc
waits_on r w by (Verb.ReadAsk q) (Answer.Number x) past own keeps other = rw (own, other) refl
waits_on r w by (Verb.ReadAsk q) answer past own keeps other = refl
waits_on r w by verb answer past own keeps other = refl

-- a pending `Close` stays pending if nothing is granted
pub closing_on : (r by : ℕ) (verb : Verb) (answer : Answer) (past : List Event) → (by == r) ≡ true → is_granting_verb verb ≡ false → fence_closing r past ≡ true → fence_closing r (event_by by verb answer ∷ past) ≡ true
closing_on r by (Verb.Grant q) answer past own keeps is = cc
closing_on r by Verb.Close answer past own keeps is = rw own refl
closing_on r by verb answer past own keeps is = is

-- a `Close` is pending at once
pub closes : (r by : ℕ) (verb : Verb) (answer : Answer) (past : List Event) → (by == r) ≡ true → is_of_place 0 verb ≡ true → fence_closing r (event_by by verb answer ∷ past) ≡ true
closes r by Verb.Close answer past own is = rw own refl
closes r by _ answer past own is = cc

-- a verb of a place of the host is one of the host
pub of_host : (d : ℕ) (verb : Verb) → is_of_place d verb ≡ true → is_host_verb verb ≡ true
of_host d Verb.Close is = refl
of_host d Verb.LookTarget is = refl
of_host d Verb.Drain is = refl
of_host d (Verb.Grant w) is = refl
of_host d _ is = cc

-- the verb of the place of grants grants
pub of_grants : (verb : Verb) → is_of_place 3 verb ≡ true → is_granting_verb verb ≡ true
of_grants (Verb.Grant w) is = refl
of_grants _ is = cc

-- a verb that reads the asks of w
pub reads_ask : (w : ℕ) (verb : Verb) → is_ask_read_verb w verb ≡ true → verb ≡ Verb.ReadAsk w
reads_ask w (Verb.ReadAsk q) is = ap Verb.ReadAsk (eqb-true q w is)
reads_ask w _ is = cc

-- one more event that grants, or an older one
pub granted_now : (e : Event) (window : List Event) → is_granting e ≡ true → has is_granting (e ∷ window) ≡ true
granted_now e window is = rw is refl

pub granted_before : (e : Event) (window : List Event) → has is_granting window ≡ true → has is_granting (e ∷ window) ≡ true
granted_before e window is = go (is_granting e) refl
  where
    go : (t : Bool) → is_granting e ≡ t → has is_granting (e ∷ window) ≡ true
    go true now = rw now refl
    go false now = rw now is

-- of the numbers below n that not all fail, one is the least that passes
pub least : (n : ℕ) (test : ℕ → Bool) → all_below n (λ q. not (test q)) ≡ false → (w : ℕ) × (w < n) × (test w && all_below w (λ q. not (test q)) ≡ true)
least zero test some = absurd (true≢false some)
least (suc n) test some = go (least n test) (all_below n (λ q. not (test q))) refl (test n) refl
  where
    go : (all_below n (λ q. not (test q)) ≡ false → (w : ℕ) × (w < n) × (test w && all_below w (λ q. not (test q)) ≡ true)) → (t : Bool) → all_below n (λ q. not (test q)) ≡ t → (u : Bool) → test n ≡ u
        → (w : ℕ) × (w < suc n) × (test w && all_below w (λ q. not (test q)) ≡ true)
    go lower false is u last = let low = lower is in (low.0, (let below = low.1 in omega arith), low.2)
    go lower true is true last = (n, omega arith, rw (last, is) refl)
    go lower true is false last = absurd (true≢false (sym (subst (λ u. not u && all_below n (λ q. not (test q)) ≡ true) (sym last) is) ∙ some))

-- if one passes, not all fail
pub not_all : (n w : ℕ) (test : ℕ → Bool) → w < n → test w ≡ true → all_below n (λ q. not (test q)) ≡ false
not_all n w test low is = go (all_below n (λ q. not (test q))) refl
  where
    go : (t : Bool) → all_below n (λ q. not (test q)) ≡ t → t ≡ false
    go false some = refl
    go true none = opposite (test w) is (one_passes n w (λ q. not (test q)) none low)
