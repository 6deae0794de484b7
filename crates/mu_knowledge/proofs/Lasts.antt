-- One more than the greatest client.
use Rattle.std.proofs.Common.{◌≡◌, ℕ, ◌+◌, ◌<◌, inl, inr, Bool, true, false, ap, refl, suc, zero, arith}
use Rattle.std.specs.Prelude.{if◌then◌else◌, nat_lt}
use Rattle.std.proofs.lemmas.Bool.{cases_eq, ltb-false, ltb-true}
use Rattle.mu_model.specs.declared.config.Config.{Config}
use Rattle.mu_model.specs.Contents.{client_of}
use Rattle.mu_knowledge.specs.Offers.{clients_below}

-- the client of each row is below the count of clients
pub below_clients : (c : Config) (n j : ℕ) → j < n → client_of c j < clients_below c n
below_clients c zero j low = absurd (omega (arith, low))
below_clients c (suc n) j low = elim (cases_eq j n) [
  | inl same ↦ here (nat_lt (clients_below c n) (client_of c n + 1)) refl (ap (client_of c) same)
  | inr other ↦ before (nat_lt (clients_below c n) (client_of c n + 1)) refl (below_clients c n j (omega (arith, low, other)))
]
  where
    here : (t : Bool) → nat_lt (clients_below c n) (client_of c n + 1) ≡ t → client_of c j ≡ client_of c n → client_of c j < (if t then client_of c n + 1 else clients_below c n)
    here true is same = omega (arith, same)
    here false is same = (let high = ltb-false (clients_below c n) (client_of c n + 1) is in omega (arith, same, high))

    before : (t : Bool) → nat_lt (clients_below c n) (client_of c n + 1) ≡ t → client_of c j < clients_below c n → client_of c j < (if t then client_of c n + 1 else clients_below c n)
    before true is low = (let more = ltb-true (clients_below c n) (client_of c n + 1) is in omega (arith, more, low))
    before false is low = low
