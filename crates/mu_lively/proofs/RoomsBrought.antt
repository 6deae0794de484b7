-- Members that have what is known, with their FUOs, are brought up.
use Rattle.std.proofs.Common.{◌≡◌, ℕ, zero, suc, ◌+◌, ◌<◌, ◌≤◌, Bool, true, false, List, [], ◌∷◌, None, Some, get_or, refl, sym, arith, true≢false}
use Rattle.std.specs.Prelude.{if◌then◌else◌, nat_le}
use Rattle.std.specs.declared.option.Option.{Option}
use Rattle.std.proofs.lemmas.Bool.{le-leb, leb-true, lt-ltb, ltb-true}
use Rattle.mu_model.specs.declared.config.Config.{Config}
use Rattle.mu_model.specs.declared.event.Event.{Event}
use Rattle.mu_model.specs.Histories.{greatest, has, max_with}
use Rattle.mu_model.specs.Leaderships.{is_member, leadership}
use Rattle.mu_model.specs.Parts.{IsPossible}
use Rattle.mu_model.specs.Placing.{fuo_read_or_raised, is_within_ring, reaches_head}
use Rattle.mu_agree.proofs.Prefixes.{greatest_along}
use Rattle.mu_pace.specs.Watches.{is_brought_up}
use Rattle.mu_lead.specs.Leading.{HaveBelow, HoldsTables, IsRaised, Level, RaisedBelow, end_of}
use Rattle.mu_lead.proofs.Puts.{member_within}

-- a FUO that reaches above i without a ring is above it
above_ring : (i x : ℕ) (o : Option ℕ) → is_within_ring i 0 o ≡ true → i < max_with o x
above_ring i x None h = absurd (true≢false (sym h))
above_ring i x (Some u) h = let low = ltb-true i (u + 0) h in omega (arith, low)

above_told : (tells : Event → Option ℕ) (i : ℕ) (past : List Event) → has (λ e. is_within_ring i 0 (tells e)) past ≡ true → i < greatest tells past
above_told tells i [] h = absurd (true≢false (sym h))
above_told tells i (e ∷ past) h = go (is_within_ring i 0 (tells e)) refl h (above_told tells i past)
  where
    go : (t : Bool) → is_within_ring i 0 (tells e) ≡ t → (if t then true else has (λ f. is_within_ring i 0 (tells f)) past) ≡ true
        → (has (λ f. is_within_ring i 0 (tells f)) past ≡ true → i < greatest tells past) → i < greatest tells (e ∷ past)
    go true here all before = above_ring i (greatest tells past) (tells e) here
    go false here all before = let low = before all in let more = greatest_along tells (e ∷ []) past in omega (arith, low, more)

reaches_below : (u i : ℕ) (o : Option ℕ) → i < u → reaches_head u o ≡ true → is_within_ring i 0 o ≡ true
reaches_below u i None low h = absurd (true≢false (sym h))
reaches_below u i (Some x) low h = let high = leb-true u x h in lt-ltb i (x + 0) (omega (arith, low, high))

-- a member is brought up
pub brought_up : (c : Config) (r p : ℕ) (mine : List Event) (up : List ℕ) (reach : List (Option ℕ)) (heads written : List ℕ) → HoldsTables c r mine up reach heads written → end_of c r mine ≤ get_or up p 0 → IsRaised up reach p → is_brought_up c r p mine ≡ true
brought_up c r p mine up reach heads written tables has_all raised = go (end_of c r mine) has_all
  where
    go : (n : ℕ) → n ≤ get_or up p 0 → nat_le n (greatest (λ e. fuo_read_or_raised r p e.by e.verb e.answer) (leadership r mine)) ≡ true
    go zero low = le-leb 0 (greatest (λ e. fuo_read_or_raised r p e.by e.verb e.answer) (leadership r mine)) (omega arith)
    go (suc i) low =
        let above = above_told (λ e. fuo_read_or_raised r p e.by e.verb e.answer) i (leadership r mine) (tables.reached p i 0 (reaches_below (get_or up p 0) i (get_or reach p None) (omega (arith, low)) raised)) in
        le-leb (suc i) (greatest (λ e. fuo_read_or_raised r p e.by e.verb e.answer) (leadership r mine)) (omega (arith, above))

-- each member is, if each has what is known and its FUO is raised
pub none_brought : (c : Config) (r : ℕ) (mine : List Event) (up : List ℕ) (reach : List (Option ℕ)) (heads written : List ℕ) → IsPossible c r mine → HoldsTables c r mine up reach heads written → HaveBelow r mine up c.replicas (end_of c r mine) → RaisedBelow r mine up reach c.replicas
    → (k : ℕ) → is_member r k mine ≡ true → is_brought_up c r k mine ≡ true
none_brought c r mine up reach heads written possible tables have raised k member =
    let low = member_within c r k mine possible member in
    brought_up c r k mine up reach heads written tables (have k low member) (raised k low member).0

pub level_brought : (c : Config) (r b : ℕ) (mine : List Event) (up : List ℕ) (reach : List (Option ℕ)) (heads written : List ℕ) → IsPossible c r mine → HoldsTables c r mine up reach heads written → Level c r b mine up reach
    → (k : ℕ) → is_member r k mine ≡ true → is_brought_up c r k mine ≡ true
level_brought c r b mine up reach heads written possible tables level = none_brought c r mine up reach heads written possible tables level.have level.raised
