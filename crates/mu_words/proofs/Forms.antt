-- The law of word steps in the forms that a table of words uses.
use Rattle.std.proofs.Common.{◌≡◌, ℕ, Bool, true, false, cond, ◌==◌, List, ◌∷◌, refl, sym, ap, arith, eqb-true, true≢false}
use Rattle.std.proofs.lemmas.Bool.{eqb-false, ne_eqb}
use Rattle.mu_model.specs.declared.config.Config.{Config}
use Rattle.mu_model.specs.declared.event.Event.{Event}
use Rattle.mu_model.specs.declared.event.Verb.{Verb}
use Rattle.mu_model.specs.Histories.{part}
use Rattle.mu_model.specs.Allowed.{Allowed}
use Rattle.mu_model.specs.Legal.{IsLegalHistory}
use Rattle.mu_model.specs.Regions.{fence_closing, fence_grant, fence_owner, fence_target}
use Rattle.mu_model.proofs.Basics.{same_number}
use Rattle.mu_agree.proofs.Legal.{legal_induction, event_after}
use Rattle.mu_agree.proofs.Access.{grant_needs, last_close-part}
use Rattle.mu_words.specs.declared.layout.Name.{Name}
use Rattle.mu_words.specs.Words.{owner_code, target_code}
use Rattle.mu_words.specs.Standing.{close_grant, named_grant, standing_word}
use Rattle.mu_words.specs.Stands.{StepsInTableForms}
use Rattle.mu_words.specs.Verbs.{exchanged, granted, is_exchange, word_after}
use Rattle.mu_words.proofs.Limits.{Limits, config_is_limited}
use Rattle.mu_words.proofs.Packing.{owner_small, target_small, bits_grant}
use Rattle.mu_words.proofs.Ranges.{grant_fits}
use Rattle.mu_words.proofs.Fences.{fitting}

either_side : (x new w : ℕ) → cond (x == w) new w ≡ cond (w == x) new w
either_side x new w = go (x == w) refl
  where
    go : (t : Bool) → (x == w) ≡ t → cond t new w ≡ cond (w == x) new w
    go true k = rw (eqb-true x w k, same_number w) refl
    go false k = rw (ne_eqb w x (λ e. eqb-false x w k (sym e))) refl

-- an exchange: the new word is made from the expected one
pub exchange_is : (ring : ℕ) (v : Verb) (x w : ℕ) → is_exchange v ≡ true → word_after ring v x w ≡ cond (w == x) (exchanged ring v x) w
exchange_is ring (Verb.Enter p t) x w is = either_side x (exchanged ring (Verb.Enter p t) x) w
exchange_is ring (Verb.PutMin p b) x w is = either_side x (exchanged ring (Verb.PutMin p b) x) w
exchange_is ring (Verb.PutSlot p i b v) x w is = either_side x (exchanged ring (Verb.PutSlot p i b v) x) w
exchange_is ring Verb.Drain x w is = either_side x (exchanged ring Verb.Drain x) w
exchange_is ring v x w is = absurd (true≢false (sym is))

-- while a fence is closing, it has the grant that the last `Close` found
abbrev ClosedAt : ℕ → List Event → Type 0
ClosedAt p past = fence_closing p past ≡ true → close_grant p past ≡ fence_grant p past

closed_at_close : (c : Config) (p by : ℕ) (past : List Event) → ClosedAt p past → (t : Bool) → (by == p) ≡ t → ClosedAt p (event_after c past by Verb.Close ∷ past)
closed_at_close c p by past s true k = rw k (λ is. ap (λ z. fence_grant z past) (eqb-true by p k))
closed_at_close c p by past s false k = rw k s

closed_at_grant : (c : Config) (p by q : ℕ) (past : List Event) → ClosedAt p past → (t : Bool) → (by == p) ≡ t → ClosedAt p (event_after c past by (Verb.Grant q) ∷ past)
closed_at_grant c p by q past s true k = rw k (λ is. absurd (true≢false (sym is)))
closed_at_grant c p by q past s false k = rw k s

closed_at_step : (c : Config) (p by : ℕ) (v : Verb) (past : List Event) → ClosedAt p past → ClosedAt p (event_after c past by v ∷ past)
closed_at_step c p by Verb.Close past s = closed_at_close c p by past s (by == p) refl
closed_at_step c p by (Verb.Grant q) past s = closed_at_grant c p by q past s (by == p) refl
closed_at_step c p by v past s = s

closed_at : (c : Config) (p : ℕ) (past : List Event) → IsLegalHistory c past → ClosedAt p past
closed_at c p = legal_induction c (ClosedAt p) (λ is. refl) (λ past by v h may s. closed_at_step c p by v past s)

-- a `Grant` is a swap: the new word is made from the own events
pub grant_is : (c : Config) (r : ℕ) (past : List Event) (q x : ℕ) → Limits c → IsLegalHistory c past → Allowed c r (part r past) (Verb.Grant q)
    → word_after c.ring (Verb.Grant q) x (standing_word c past (Name.Fence r)) ≡ granted (close_grant r (part r past)) q
grant_is c r past q x l h may =
    let s = fitting c r past l h in
    let k = bits_grant (fence_grant r past) (fence_closing r past) (owner_code (fence_owner r past)) (target_code (fence_target r past)) (grant_fits c r past l h) (owner_small (fence_owner r past) s.by_owner) (target_small (fence_target r past) s.with_target) in
    let own : close_grant r (part r past) ≡ close_grant r past = ap named_grant (last_close-part r past) in
    let same : close_grant r past ≡ fence_grant r past = closed_at c r past h (grant_needs c r q past may.may).0 in
    omega (arith, k, own, same)

pub steps_in_table_forms_law : StepsInTableForms
steps_in_table_forms_law c r past given legal = record {
  exchange = λ v x w is. exchange_is c.ring v x w is;
  close = λ x w. refl;
  grant = λ q x may. grant_is c r past q x (config_is_limited c given) legal may;
}
