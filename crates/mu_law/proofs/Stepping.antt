-- What the first events of a legal list come to, one event more at a time.
use Rattle.std.proofs.Common.{◌≡◌, ◌≢◌, ℕ, ◌<◌, ◌≤◌, ◌^◌, List, [], ◌∷◌, ◌==◌, false, length, refl, sym, arith, subst}
use Rattle.std.proofs.lemmas.Bool.{ne_eqb}
use Rattle.mu_model.specs.declared.config.Config.{Config}
use Rattle.mu_model.specs.declared.event.Event.{Event}
use Rattle.mu_model.specs.Contents.{IsConfig}
use Rattle.mu_model.specs.Histories.{part}
use Rattle.mu_model.specs.Legal.{IsLegalHistory}
use Rattle.mu_model.specs.Parts.{IsPossible}
use Rattle.mu_model.proofs.Budgets.{short_history}
use Rattle.mu_replicas.specs.Stands.{StandsForReplica}
use Rattle.mu_replicas.specs.declared.replica.Replica.{Replica}
use Rattle.mu_model.proofs.Parts.{part_of_maker, possible_for_maker}

-- a legal history is short
pub legal_is_short : (c : Config) (past : List Event) → IsConfig c → IsLegalHistory c past → length past < 2 ^ 20
legal_is_short c past is legal = let most = short_history c past legal is.replicas.1 is.budget.1 in omega (arith, most)

-- a replica that isn't there makes nothing
pub nothing_made : (c : Config) (r : ℕ) (past : List Event) → IsLegalHistory c past → c.replicas ≤ r → part r past ≡ []
nothing_made c r [] legal above = refl
nothing_made c r (e ∷ past) legal above =
    let low = legal.1.allowed.replica in
    let other : (e.by == r) ≡ false = ne_eqb e.by r (λ same. absurd (omega arith)) in
    rw other (nothing_made c r past legal.0 above)

-- the state of a replica after an event of its own
pub after_own : (c : Config) (r : ℕ) (e : Event) (past : List Event) (old new : Replica) → e.by ≡ r → IsLegalHistory c (e ∷ past)
    → ((mine : List Event) → IsPossible c e.by (e ∷ mine) → StandsForReplica c e.by mine old → StandsForReplica c e.by (e ∷ mine) new)
    → StandsForReplica c r (part r past) old → StandsForReplica c r (part r (e ∷ past)) new
after_own c r e past old new is legal step =
    subst (λ q. StandsForReplica c q (part q past) old → StandsForReplica c q (part q (e ∷ past)) new) is
    (λ held. subst (λ l. StandsForReplica c e.by l new) (sym (part_of_maker e past)) (step (part e.by past) (possible_for_maker c e past legal) held))

-- and after one of another
pub after_other : (c : Config) (r : ℕ) (e : Event) (past : List Event) (state : Replica) → e.by ≢ r → StandsForReplica c r (part r past) state → StandsForReplica c r (part r (e ∷ past)) state
after_other c r e past state differ held =
    let other : (e.by == r) ≡ false = ne_eqb e.by r differ in
    let same : part r (e ∷ past) ≡ part r past = rw other refl in
    subst (λ l. StandsForReplica c r l state) (sym same) held
