-- Which moment opened a count, and so: grants that come within a round are in time at each moment.
use Rattle.std.proofs.Common.{◌≡◌, ℕ, ◌+◌, ◌-◌, ◌≤◌, inl, inr, Bool, true, false, cond, List, [], ◌∷◌, ◌++◌, refl, sym, ◌∙◌, ap, arith, Some, None, subst, true≢false}
use Rattle.std.specs.declared.option.Option.{Option}
use Rattle.std.specs.Prelude.{if◌then◌else◌, min, not, ◌&&◌}
use Rattle.std.proofs.lemmas.Bool.{and_parts, cases_lt}
use Rattle.std.proofs.lemmas.List.{append_assoc}
use Rattle.mu_model.specs.declared.event.Event.{Event}
use Rattle.mu_model.specs.Bounds.{cycle}
use Rattle.mu_model.specs.Histories.{has}
use Rattle.mu_model.specs.Serving.{has_unserved_ask}
use Rattle.mu_model.specs.Steps.{is_ask_read, is_granting}
use Rattle.mu_model.specs.Stretches.{IsStretch, each_step, steps}
use Rattle.mu_model.proofs.Basics.{none_some, same_some}
use Rattle.mu_pace.specs.Counters.{Watch, allowed_after, fewer, left_after, paid, steps_left}
use Rattle.mu_pace.specs.Paces.{GrantsAreCounted}
use Rattle.mu_pace.specs.Watches.{granting}
use Rattle.mu_pace.proofs.Stretched.{all_count, unpaid}
use Rattle.mu_pace.proofs.Pasts.{cut}

-- the moment that opened the count, and what was spent since
pub record Opened (w : Watch) (past : List Event) (left : ℕ) : Type 0 where
  pub window : List Event
  pub older : List Event
  pub allowed : ℕ
  pub is : past ≡ window ++ older
  pub allows : w.allows older ≡ Some allowed
  pub unclosed : each_step (λ before e. not (w.closes before e)) window older ≡ true
  pub spent : allowed + paid w.pays window older ≤ left + steps w.counts window older

at_once : (w : Watch) (past : List Event) (a left : ℕ) → w.allows past ≡ Some a → a ≤ left → Opened w past left
at_once w past a left h l = record { window = []; older = past; allowed = a; is = refl; allows = h; unclosed = refl; spent = omega arith }

-- one step more of a count that goes on
one_more : (w : Watch) (past : List Event) (e : Event) (x left : ℕ) → Opened w past x → w.closes past e ≡ false → x + w.pays past e ≤ left + cond (w.counts past e) 1 0 → Opened w (e ∷ past) left
one_more w past e x left o n l = record {
  window = e ∷ o.window;
  older = o.older;
  allowed = o.allowed;
  is = ap (λ z. e ∷ z) o.is;
  allows = o.allows;
  unclosed = go (w.closes (o.window ++ o.older) e) (subst (λ z. w.closes z e ≡ false) o.is n) o.unclosed;
  spent = sum (w.counts (o.window ++ o.older) e) (subst (λ z. x + w.pays z e ≤ left + cond (w.counts z e) 1 0) o.is l) o.spent;
}
  where
    go : (t : Bool) → t ≡ false → each_step (λ before e. not (w.closes before e)) o.window o.older ≡ true → (if not t then each_step (λ before e. not (w.closes before e)) o.window o.older else false) ≡ true
    go true h k = absurd (true≢false h)
    go false h k = k

    sum : (t : Bool) → x + w.pays (o.window ++ o.older) e ≤ left + cond t 1 0 → o.allowed + paid w.pays o.window o.older ≤ x + steps w.counts o.window o.older
        → o.allowed + (paid w.pays o.window o.older + w.pays (o.window ++ o.older) e) ≤ left + (if t then steps w.counts o.window o.older + 1 else steps w.counts o.window o.older)
    sum true a b = omega arith
    sum false a b = omega arith

-- what goes on was open
record Going (closes counts : Bool) (pays left : ℕ) (o : Option ℕ) : Type 0 where
  pub before : ℕ
  pub is : o ≡ Some before
  pub unclosed : closes ≡ false
  pub spent : before + pays ≤ left + cond counts 1 0

going : (closes counts : Bool) (pays left : ℕ) (o : Option ℕ) → left_after closes counts pays o ≡ Some left → Going closes counts pays left o
going closes counts pays left None h = absurd (none_some left h)
going true counts pays left (Some x) h = absurd (none_some left h)
going false true pays left (Some x) h = let e = same_some (x + pays - 1) left h in record { before = x; is = refl; unclosed = refl; spent = omega arith }
going false false pays left (Some x) h = let e = same_some (x + pays) left h in record { before = x; is = refl; unclosed = refl; spent = omega arith }

pub opened_by : (w : Watch) (past : List Event) (left : ℕ) → steps_left w past ≡ Some left → Opened w past left
opened_by w [] left h = at_once w [] left left h (omega arith)
opened_by w (e ∷ past) left h = go (w.allows (e ∷ past)) refl (left_after (w.closes past e) (w.counts past e) (w.pays past e) (steps_left w past)) refl h (λ x k. opened_by w past x k)
  where
    goes : (y : ℕ) → left_after (w.closes past e) (w.counts past e) (w.pays past e) (steps_left w past) ≡ Some y → y ≤ left → ((x : ℕ) → steps_left w past ≡ Some x → Opened w past x) → Opened w (e ∷ past) left
    goes y k l ih =
        let g = going (w.closes past e) (w.counts past e) (w.pays past e) y (steps_left w past) k in
        one_more w past e g.before left (ih g.before g.is) g.unclosed (let a = g.spent in omega arith)

    go : (a : Option ℕ) → w.allows (e ∷ past) ≡ a → (o : Option ℕ) → left_after (w.closes past e) (w.counts past e) (w.pays past e) (steps_left w past) ≡ o → fewer a o ≡ Some left
        → ((x : ℕ) → steps_left w past ≡ Some x → Opened w past x) → Opened w (e ∷ past) left
    go None a o k f ih = goes left (k ∙ f) (omega arith) ih
    go (Some x) a None k f ih = at_once w (e ∷ past) x left a (let z = same_some x left f in omega arith)
    go (Some x) a (Some y) k f ih =
        let z = same_some (min x y) left f in
        elim (cases_lt y x) [ inl l ↦ goes y k (omega arith) ih | inr l ↦ at_once w (e ∷ past) x left a (omega arith) ]

none_of_older : (test : Event → Bool) (newer rest older : List Event) → each_step (λ before e. not (test e)) (newer ++ rest) older ≡ true → has test rest ≡ false
none_of_older test [] [] older h = refl
none_of_older test [] (e ∷ rest) older h = go (test e) h (none_of_older test [] rest older)
  where
    go : (t : Bool) → (if not t then each_step (λ before e. not (test e)) rest older else false) ≡ true → (each_step (λ before e. not (test e)) rest older ≡ true → has test rest ≡ false) → (if t then true else has test rest) ≡ false
    go true h ih = absurd (true≢false (sym h))
    go false h ih = ih h
none_of_older test (e ∷ newer) rest older h = go (test e) h (none_of_older test newer rest older)
  where
    go : (t : Bool) → (if not t then each_step (λ before e. not (test e)) (newer ++ rest) older else false) ≡ true → (each_step (λ before e. not (test e)) (newer ++ rest) older ≡ true → has test rest ≡ false) → has test rest ≡ false
    go true h ih = absurd (true≢false (sym h))
    go false h ih = ih h

-- an event opened a count that waits for one
record OpenedAfter (test : List Event → Event → Bool) (amount : List Event → ℕ) (past : List Event) (a : ℕ) : Type 0 where
  pub event : Event
  pub before : List Event
  pub is : past ≡ event ∷ before
  pub passes : test before event ≡ true
  pub allowed : amount (event ∷ before) ≡ a

opened_after : (test : List Event → Event → Bool) (amount : List Event → ℕ) (past : List Event) (a : ℕ) → allowed_after test amount past ≡ Some a → OpenedAfter test amount past a
opened_after test amount [] a h = absurd (none_some a h)
opened_after test amount (e ∷ past) a h = go (test past e) refl h
  where
    go : (t : Bool) → test past e ≡ t → (if t then Some (amount (e ∷ past)) else None) ≡ Some a → OpenedAfter test amount (e ∷ past) a
    go true k m = record { event = e; before = past; is = refl; passes = k; allowed = same_some (amount (e ∷ past)) a m }
    go false k m = absurd (none_some a m)

pub grants_counted : GrantsAreCounted
grants_counted c r past h w left is = elim (cases_lt 0 left) [ inl l ↦ l | inr l ↦ absurd (late (opened_by (granting c r w) past left is) (omega arith)) ]
  where
    late : Opened (granting c r w) past left → left ≡ 0 → ⊥
    late o z =
        let k = opened_after (λ before e. is_ask_read w e && has_unserved_ask r (e ∷ before) w) (λ now. cycle c) o.older o.allowed o.allows in
        let both = and_parts (is_ask_read w k.event) (has_unserved_ask r (k.event ∷ k.before) w) k.passes in
        let long = all_count o.window o.older in let few = unpaid o.window o.older in
        let a = k.allowed in let sp = o.spent in
        let split = cut (cycle c) o.window (omega arith) in
        let stretch : IsStretch past split.rest (k.event ∷ k.before) = record {
          newer = split.newer;
          is = o.is ∙ ap (λ z. z ++ o.older) split.is ∙ append_assoc split.newer split.rest o.older ∙ ap (λ z. split.newer ++ (split.rest ++ z)) k.is;
        } in
        let none = none_of_older is_granting split.newer split.rest o.older (subst (λ z. each_step (λ before e. not (is_granting e)) z o.older ≡ true) split.is o.unclosed) in
        true≢false (sym (h w k.event split.rest k.before stretch both.0 both.1 split.count) ∙ none)
