-- If a look showed an entry, the log has one for good.
use Rattle.std.proofs.Common.{◌≡◌, ℕ, ◌+◌, ◌<◌, Bool, true, false, ◌==◌, ◌&&◌, List, ◌∷◌, length, refl, sym, ◌∙◌, ap, arith, Some, None, subst, eqb-true, true≢false, inl, inr}
use Rattle.std.specs.declared.option.Option.{Option}
use Rattle.std.specs.Prelude.{nat_lt, if◌then◌else◌}
use Rattle.std.specs.List.{slice_get}
use Rattle.std.proofs.lemmas.Bool.{and_parts}
use Rattle.std.proofs.lemmas.Option.{slice_get_within}
use Rattle.mu_model.specs.declared.config.Config.{Config}
use Rattle.mu_model.specs.declared.event.Answer.{Answer}
use Rattle.mu_model.specs.declared.event.Event.{Event}
use Rattle.mu_model.specs.declared.event.Verb.{Verb}
use Rattle.mu_model.specs.Answers.{answer_of, shown}
use Rattle.mu_model.specs.Histories.{has, part}
use Rattle.mu_model.specs.Knowledge.{entry_seen, is_entry_seen}
use Rattle.mu_model.specs.Legal.{IsLegalHistory}
use Rattle.mu_model.specs.Regions.{region_log}
use Rattle.mu_agree.proofs.Landings.{at_part, has_cases}
use Rattle.mu_agree.proofs.Legal.{legal_induction, event_after}
use Rattle.mu_agree.proofs.Possible.{answered, at_event}
use Rattle.mu_model.proofs.Lists.{item_below}
use Rattle.mu_agree.proofs.Readings.{log_grows}
use Rattle.mu_agree.specs.Possible.{PartLooksStayFilled}

-- if a look showed an entry the log reaches beyond it
abbrev Shown : ℕ → ℕ → ℕ → List Event → Type 0
Shown r p j past = has (entry_seen r p j) (part r past) ≡ true → j < length (region_log p past)

-- an answer that is an entry
abbrev is_entry : Answer → Bool
is_entry (Answer.Entry b v) = true
is_entry _ = false

entry_within : (ring i : ℕ) (log : List (ℕ × ℕ)) (t : Bool) → is_entry (if t then Answer.Past else shown (slice_get log i)) ≡ true → i < length log
entry_within ring i log true h = absurd (true≢false (sym h))
entry_within ring i log false h = by_item (slice_get log i) refl h
  where
    by_item : (o : Option (ℕ × ℕ)) → slice_get log i ≡ o → is_entry (shown o) ≡ true → i < length log
    by_item None k h = absurd (true≢false (sym h))
    by_item (Some x) k h = slice_get_within log i x k

entry_answer : (r p j by q k : ℕ) (a : Answer) → is_entry_seen r p j by (Verb.Look q k) a ≡ true → (is_entry a ≡ true) × (q ≡ p) × (k ≡ j)
entry_answer r p j by q k (Answer.Entry b v) h =
    let m = and_parts (q == p) (k == j) (and_parts (by == r) ((q == p) && (k == j)) h).1 in (refl, eqb-true q p m.0, eqb-true k j m.1)
entry_answer r p j by q k a h = absurd (true≢false (sym h))

entry_step : (c : Config) (r p j by : ℕ) (v : Verb) (past : List Event) → Shown r p j past → Shown r p j (event_after c past by v ∷ past)
entry_step c r p j by (Verb.Look q i) past s = at_part (λ J. has (entry_seen r p j) J ≡ true → j < length (region_log p past)) r (event_after c past by (Verb.Look q i)) past s (λ _. here)
  where
    here : has (entry_seen r p j) (event_after c past by (Verb.Look q i) ∷ part r past) ≡ true → j < length (region_log p past)
    here m = elim (has_cases (is_entry_seen r p j by (Verb.Look q i) (answer_of c by past (Verb.Look q i))) (has (entry_seen r p j) (part r past)) m) [
      | inl new ↦
          let f = entry_answer r p j by q i (answer_of c by past (Verb.Look q i)) new in
          let low = entry_within c.ring i (region_log q past) (nat_lt (i + c.ring) (length (region_log q past))) f.0 in
          let same : length (region_log q past) ≡ length (region_log p past) = ap (λ z. length (region_log z past)) f.1 in let at = f.2 in omega arith
      | inr old ↦ s old
    ]
entry_step c r p j by v past s =
    let up = log_grows p v (answer_of c by past v) (region_log p past) in
    let on : has (entry_seen r p j) (part r past) ≡ true → j < length (region_log p (event_after c past by v ∷ past)) = (λ k. let l = s k in omega arith) in
    at_part (λ J. has (entry_seen r p j) J ≡ true → j < length (region_log p (event_after c past by v ∷ past))) r (event_after c past by v) past on (λ _. keep)
  where
    keep : has (entry_seen r p j) (event_after c past by v ∷ part r past) ≡ true → j < length (region_log p (event_after c past by v ∷ past))
    keep k = let up = log_grows p v (answer_of c by past v) (region_log p past) in let l = s k in omega arith

entries_shown : (c : Config) (r p j : ℕ) (past : List Event) → IsLegalHistory c past → Shown r p j past
entries_shown c r p j = legal_induction c (Shown r p j) (λ k. absurd (true≢false (sym k))) (λ past by v h may s. entry_step c r p j by v past s)

is_empty : (t : Bool) (o : Option (ℕ × ℕ)) (x : ℕ × ℕ) → o ≡ Some x → (if t then Answer.Past else shown o) ≡ Answer.Empty → ⊥
is_empty true o x k h = cc
is_empty false None x k h = cc
is_empty false (Some y) x k h = cc

pub part_looks_stay_filled_law : PartLooksStayFilled
part_looks_stay_filled_law c r p i j mine e poss seen l v none =
    let s = at_event c r mine e poss in
    let long : j < length (region_log p s.older) = entries_shown c r p j s.older s.legal (subst (λ z. has (entry_seen r p j) z ≡ true) (sym s.part_is) seen) in
    let there = item_below (region_log p s.older) i (omega arith) in
    is_empty (nat_lt (i + c.ring) (length (region_log p s.older))) (slice_get (region_log p s.older) i) there.0 there.1 (sym (answered c r mine e (Verb.Look p i) poss v) ∙ none)
