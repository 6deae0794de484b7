-- The states of all replicas and the parts of a history.
use Rattle.std.proofs.Common.{ℕ, List, ◌∷◌, Some, ◌≡◌, ◌≢◌, inl, inr, refl, sym, ◌∙◌, set, subst}
use Rattle.std.specs.List.{slice_get}
use Rattle.std.proofs.lemmas.Bool.Decides.{eqb_tells}
use Rattle.mu_model.specs.declared.config.Config.{Config}
use Rattle.mu_model.specs.declared.event.Event.{Event}
use Rattle.mu_model.specs.Histories.{part}
use Rattle.mu_model.specs.Legal.{IsLegalHistory}
use Rattle.mu_model.specs.Parts.{IsPossible}
use Rattle.mu_replicas.specs.declared.replica.Replica.{Replica}
use Rattle.mu_replicas.specs.Stands.{StandsForReplica}
use Rattle.mu_model.proofs.Lists.{set_get}
use Rattle.mu_model.proofs.Parts.{part_of_maker, part_is_possible}

-- each state of the list, counted from 0, stands for the part of its replica
abbrev pub HoldsEach : Config → List Event → List Replica → Type 0
HoldsEach c past replicas = (r : ℕ) (state : Replica) → slice_get replicas r ≡ Some state → StandsForReplica c r (part r past) state

other_part : (r : ℕ) (e : Event) (past : List Event) → r ≢ e.by → part r (e ∷ past) ≡ part r past
other_part r e past differ = elim (eqb_tells e.by r) [ inl same ↦ absurd (differ (sym same.1)) | inr off ↦ rw off.0 refl ]

-- the states after an event, which its own replica's state has taken
pub each_next : (c : Config) (past : List Event) (e : Event) (k : ℕ) (replicas : List Replica) (was new : Replica) → k ≡ e.by → slice_get replicas k ≡ Some was → IsLegalHistory c (e ∷ past)
    → (IsPossible c e.by (e ∷ part e.by past) → StandsForReplica c e.by (part e.by past) was → StandsForReplica c e.by (e ∷ part e.by past) new) → HoldsEach c past replicas → HoldsEach c (e ∷ past) (set replicas k new)
each_next c past e k replicas was new by at legal step held r state there = elim (set_get replicas k new r state there) [
  | inl here ↦
      let own = part_of_maker e past in
      let possible = subst (λ l. IsPossible c e.by l) own (part_is_possible c e.by (e ∷ past) legal) in
      let taken = step possible (held e.by was (subst (λ q. slice_get replicas q ≡ Some was) by at)) in
      let mine = subst (λ l. StandsForReplica c e.by l new) (sym own) taken in
      subst (λ q. StandsForReplica c q (part q (e ∷ past)) state) (sym (here.0 ∙ by)) (subst (λ s. StandsForReplica c e.by (part e.by (e ∷ past)) s) here.1 mine)
  | inr other ↦ subst (λ l. StandsForReplica c r l state) (sym (other_part r e past (λ is. other.0 (is ∙ sym by)))) (held r state other.1)
]
