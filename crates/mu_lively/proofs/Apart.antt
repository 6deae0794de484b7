-- Between the first asks of a leader.
use Rattle.std.proofs.Common.{Bool, List, None, Some, arith, false, true, ℕ, ◌+◌, ◌∷◌, ◌≤◌}
use Rattle.std.specs.Prelude.{[], if◌then◌else◌, is_some, nat_lt, ◌&&◌}
use Rattle.std.specs.declared.option.Option.{Option}
use Rattle.std.proofs.lemmas.Bool.{ltb-true}
use Rattle.mu_model.specs.declared.event.Event.{Event}
use Rattle.mu_model.specs.declared.event.Fence.{Fence}
use Rattle.mu_model.specs.Again.{foreign_row, is_astray, is_foreign, one_more, row_with}
use Rattle.mu_model.specs.Histories.{count_below}
use Rattle.mu_model.specs.Leaderships.{begins_leadership, fence_seen, proposal_number}
use Rattle.mu_agree.proofs.Counting.{some_below}
use Rattle.mu_lead.proofs.Astray.{long_row, some_astray}
use Rattle.mu_lively.specs.Again.{AsksAreApart, fences_numbered}

-- a row counts no more than the fences that were seen under the number
row_few : (r p : ℕ) (mine : List Event) → foreign_row r p mine ≤ fences_numbered r p mine
row_few r p [] = omega arith
row_few r p (e ∷ past) = go (begins_leadership r e) (row_few r p past)
  where
    step : (t : Bool) → foreign_row r p past ≤ fences_numbered r p past → (if t then foreign_row r p past + 1 else foreign_row r p past) ≤ fences_numbered r p past + 1
    step true few = omega (arith, few)
    step false few = omega (arith, few)

    risen : (t : Bool) → foreign_row r p past ≤ fences_numbered r p past → (if t then one_more (foreign_row r p past) else 0) ≤ fences_numbered r p past + 1
    risen true few = step (nat_lt (foreign_row r p past) 16) few
    risen false few = omega arith

    more : (numbered : Bool) (o : Option Fence) → foreign_row r p past ≤ fences_numbered r p past → row_with r numbered o (foreign_row r p past) ≤ (if numbered && is_some o then fences_numbered r p past + 1 else fences_numbered r p past)
    more true None few = few
    more false None few = few
    more true (Some f) few = risen (is_foreign r f) few
    more false (Some f) few = few

    go : (t : Bool) → foreign_row r p past ≤ fences_numbered r p past → (if t then 0 else row_with r (is_some (proposal_number r past)) (fence_seen r p e.by e.verb e.answer) (foreign_row r p past))
        ≤ (if t then 0 else (if is_some (proposal_number r past) && is_some (fence_seen r p e.by e.verb e.answer) then fences_numbered r p past + 1 else fences_numbered r p past))
    go true few = omega arith
    go false few = more (is_some (proposal_number r past)) (fence_seen r p e.by e.verb e.answer) few

-- so 16 fences of one region were seen before a leader asks again
pub asks_are_apart : AsksAreApart
asks_are_apart c r mine asks =
    let m = some_below c.replicas (λ p. is_astray r mine p) (ltb-true 0 (count_below c.replicas (λ p. is_astray r mine p)) (some_astray c r mine asks)) in
    let long = long_row r m.who mine m.passes in
    let few = row_few r m.who mine in
    (m.who, m.below, omega (arith, long, few))
