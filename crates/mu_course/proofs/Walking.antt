-- What an event leaves of the parts of the replicas, and of a state for each; no event at fault may
-- follow.
use Rattle.std.proofs.Common.{◌≡◌, ◌≢◌, ℕ, ap, ◌∙◌, ◌<◌, ◌∷◌, List, Some, length, refl, sym, get_or, subst, set, inl, inr}
use Rattle.std.proofs.lemmas.Option.{slice_get-get_or}
use Rattle.std.specs.List.{slice_get}
use Rattle.std.proofs.lemmas.Bool.Decides.{eqb_tells}
use Rattle.mu_model.specs.declared.event.Event.{Event}
use Rattle.mu_model.specs.Histories.{part}
use Rattle.mu_model.specs.Legal.{MayFollow}
use Rattle.mu_model.specs.declared.config.Config.{Config}
use Rattle.mu_model.proofs.Lists.{set_get}
use Rattle.mu_model.proofs.Parts.{part_of_maker}
use Rattle.mu_model.proofs.Reasons.{reason_denies}
use Rattle.mu_outcome.specs.Breaks.{IsFault}
use Rattle.mu_outcome.specs.declared.fault.Fault.{Fault}

-- the part of a replica that did not make the event stays
other_part : (r : ℕ) (e : Event) (past : List Event) → r ≢ e.by → part r (e ∷ past) ≡ part r past
other_part r e past differ = elim (eqb_tells e.by r) [ inl same ↦ absurd (differ (sym same.1)) | inr off ↦ rw off.0 refl ]

-- what is found at an index stands there
pub found_there : {A : Type 0} (all items : List A) (k r : ℕ) (x : A) → items ≡ all → k ≡ r → x ≡ get_or items k x → k < length items → slice_get all r ≡ Some x
found_there all items k r x same at found low =
    subst (λ xs. slice_get xs r ≡ Some x) same (subst (λ q. slice_get items q ≡ Some x) at (slice_get-get_or items k x low ∙ ap Some (sym found)))

-- each state stands for the part of its replica, and that of the replica that makes an event has taken it
pub each_part_next : {A : Type 0} (P : ℕ → List Event → A → Type 0) (past : List Event) (e : Event) (k : ℕ) (items : List A) (was new : A) → k ≡ e.by → slice_get items k ≡ Some was
    → (P e.by (part e.by past) was → P e.by (e ∷ part e.by past) new) → ((r : ℕ) (x : A) → slice_get items r ≡ Some x → P r (part r past) x)
    → (r : ℕ) (x : A) → slice_get (set items k new) r ≡ Some x → P r (part r (e ∷ past)) x
each_part_next P past e k items was new by at step held r x there = elim (set_get items k new r x there) [
  | inl here ↦
      let taken = step (held e.by was (subst (λ q. slice_get items q ≡ Some was) by at)) in
      let mine = subst (λ l. P e.by l new) (sym (part_of_maker e past)) taken in
      subst (λ q. P q (part q (e ∷ past)) x) (sym (here.0 ∙ by)) (subst (λ s. P e.by (part e.by (e ∷ past)) s) here.1 mine)
  | inr other ↦ subst (λ l. P r l x) (sym (other_part r e past (λ is. other.0 (is ∙ sym by)))) (held r x other.1)
]

-- no event with which something is wrong may follow
pub fault_denies : (c : Config) (past : List Event) (e : Event) (fault : Fault) → IsFault c past e fault → MayFollow c past e → ⊥
fault_denies c past e (Fault.NotAllowed reason) is follows = reason_denies c e.by (part e.by past) e.verb reason is follows.allowed
fault_denies c past e (Fault.WrongAnswer expected) is follows = is.2 (follows.answer ∙ sym is.1)
