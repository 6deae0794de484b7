-- The journals, read off what is kept of the events.
use Rattle.std.proofs.Common.{◌≡◌, ◌∙◌, ℕ, suc, zero, ◌<◌, false, List, [], ◌∷◌, ◌++◌, Some, ap, arith, inl, inr, length, map, refl, subst, sym}
use Rattle.std.specs.Prelude.{nat_lt, not, slice_index}
use Rattle.std.specs.List.{slice_get}
use Rattle.std.proofs.lemmas.Bool.{cases_lt}
use Rattle.std.proofs.lemmas.List.{length_push, length-reverse}
use Rattle.mu_model.specs.declared.event.Event.{Event}
use Rattle.mu_model.specs.Histories.{has, history, part}
use Rattle.mu_model.specs.Journals.{Record}
use Rattle.mu_model.specs.Parts.{HasParts}
use Rattle.mu_model.proofs.Basics.{same_some}
use Rattle.mu_model.proofs.Lists.{get_front, get_push_here}
use Rattle.mu_model.proofs.Parts.{history-part}
use Rattle.mu_outcome.specs.declared.outcome.Outcome.{Outcome}
use Rattle.mu_outcome.specs.Outcomes.{journal_of, journals_of, kept_events, or_empty, parts_below}

parts_count : (n : ℕ) (events : List Event) → length (parts_below n events) ≡ n
parts_count zero events = refl
parts_count (suc n) events = let long = length_push (parts_below n events) (part n events) in let rest = parts_count n events in omega (arith, long, rest)

part_at : (n r : ℕ) (events : List Event) → r < n → slice_get (parts_below n events) r ≡ Some (part r events)
part_at zero r events low = absurd (omega (arith, low))
part_at (suc n) r events low = elim (cases_lt r n) [
  | inl below ↦ get_front (parts_below n events) (part n events ∷ []) r (part r events) (part_at n r events below)
  | inr above ↦
      let same : n ≡ r = omega (arith, low, above) in
      subst (λ i. slice_get (parts_below n events ++ part n events ∷ []) i ≡ Some (part i events)) same (get_push_here (parts_below n events) n (part n events) (sym (parts_count n events)))
]

-- the order of a replay has the journals as its parts
pub order_parts : (o : Outcome) (order : Record) → o.order ≡ Some order → has (λ e. not (nat_lt e.by o.job.config.replicas)) (history order.events) ≡ false → HasParts o.job.config order.events (journals_of o)
order_parts o order given whole = record {
  count = ap length is ∙ parts_count o.job.config.replicas order.events;
  each = λ r low. ap (λ l. slice_get l r) is ∙ part_at o.job.config.replicas r order.events low;
  whole = whole;
}
  where
    is : journals_of o ≡ parts_below o.job.config.replicas order.events
    is = ap (λ x. kept_events o.job.config.replicas x o.gathered) given

-- the journal of a replica is its part of the list
pub journal_is : (o : Outcome) (events : List Event) → HasParts o.job.config events (journals_of o) → (r : ℕ) → r < o.job.config.replicas → history (journal_of o r) ≡ part r (history events)
journal_is o events parts r low = ap (λ l. history (or_empty l)) (parts.each r low) ∙ history-part r events

-- and as long
pub length_at : (journals : List (List Event)) (r : ℕ) (events : List Event) → slice_get journals r ≡ Some events → slice_index (map length journals) r ≡ length events
length_at [] r events at = cc
length_at (journal ∷ journals) zero events at = ap length (same_some journal events at)
length_at (journal ∷ journals) (suc r) events at = length_at journals r events at

pub length_of_part : (r : ℕ) (events : List Event) → length (part r events) ≡ length (part r (history events))
length_of_part r events = sym (length-reverse (part r events)) ∙ ap length (history-part r events)
