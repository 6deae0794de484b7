-- How many steps of a picture have no mark.
use Rattle.std.proofs.Common.{◌≡◌, ℕ, suc, ◌+◌, ◌-◌, ◌≤◌, Bool, true, false, List, [], ◌∷◌, ◌++◌, refl, sym, ◌∙◌, subst, arith, None, Some, length, take}
use Rattle.std.specs.Prelude.{IfSome, if◌then◌else◌, nat_le}
use Rattle.std.specs.declared.option.Option.{Option}
use Rattle.std.proofs.lemmas.Bool.{leb-true, leb-false, lt-leb}
use Rattle.std.proofs.lemmas.List.{length-reverse, length-take-le}
use Rattle.mu_model.specs.declared.config.Config.{Config}
use Rattle.mu_model.specs.declared.event.Event.{Event}
use Rattle.mu_model.specs.declared.script.Script.{Script}
use Rattle.mu_model.specs.Histories.{history}
use Rattle.mu_picture.specs.Marks.{hidden_from, is_kept, kept, made_of, mark_of, marks_of, with_mark}
use Rattle.mu_picture.specs.declared.deeds.Deed.{Deed}
use Rattle.mu_course.specs.declared.halts.Halt.{Halt}
use Rattle.mu_picture.specs.declared.marks.Mark.{Mark}
use Rattle.mu_picture.specs.declared.standings.Resumed.{Resumed}

-- the marks are of steps from `at` on and before `end`, each of a later step than the one before
abbrev AreWithin : ℕ → ℕ → List Mark → Type 0
AreWithin at end [] = at ≤ end
AreWithin at end (mark ∷ marks) = (at ≤ mark.step) × AreWithin (mark.step + 1) end marks

in_order : (at end : ℕ) (marks : List Mark) → AreWithin at end marks → at ≤ end
in_order at end [] within = within
in_order at end (mark ∷ marks) within = let rest = in_order (mark.step + 1) end marks within.1 in omega (arith, rest, within.0)

-- steps with a mark and steps without are all
counted : (at end : ℕ) (marks : List Mark) → AreWithin at end marks → hidden_from end at marks + length marks ≡ end - at
counted at end [] within = omega arith
counted at end (mark ∷ marks) within =
    let rest = counted (mark.step + 1) end marks within.1 in
    let order = in_order (mark.step + 1) end marks within.1 in
    omega (arith, rest, order, within.0)

later : (at end : ℕ) (marks : List Mark) → AreWithin at end marks → AreWithin at (suc end) marks
later at end [] within = omega (arith, within)
later at end (mark ∷ marks) within = (within.0, later (mark.step + 1) end marks within.1)

one_more : (at end : ℕ) (marks : List Mark) (mark : Mark) → mark.step ≡ end → AreWithin at end marks → AreWithin at (suc end) (marks ++ mark ∷ [])
one_more at end [] mark is within = (omega (arith, is, within), omega (arith, is))
one_more at end (first ∷ marks) mark is within = (within.0, one_more (first.step + 1) end marks mark is within.1)

with_within : (at end : ℕ) (marks : List Mark) (mark : Option Mark) → IfSome mark (λ m. m.step ≡ end) → AreWithin at end marks → AreWithin at (suc end) (with_mark marks mark)
with_within at end marks None is within = later at end marks within
with_within at end marks (Some mark) is within = one_more at end marks mark is within

-- a mark is of its step, and so is one that is kept
pub made_there : (step : ℕ) (e : Event) (resumed : Option Resumed) (deed : Option Deed) (halt : Option Halt) → IfSome (made_of step e resumed deed halt) (λ m. m.step ≡ step)
made_there step e None None None = tt
made_there step e None None (Some halt) = refl
made_there step e None (Some deed) halt = refl
made_there step e (Some resumed) deed halt = refl

pub kept_there : (brief : Bool) (step : ℕ) (mark : Option Mark) → IfSome mark (λ m. m.step ≡ step) → IfSome (kept brief mark) (λ m. m.step ≡ step)
kept_there brief step None is = tt
kept_there brief step (Some mark) is = by_test (is_kept brief mark)
  where
    by_test : (t : Bool) → IfSome (if t then Some mark else None) (λ m. m.step ≡ step)
    by_test true = is
    by_test false = tt

pub none_before : (c : Config) (script : Script) (brief : Bool) (first : ℕ) (past : List Event) → length past ≤ first → marks_of c script brief first past ≡ []
none_before c script brief first [] low = refl
none_before c script brief first (e ∷ past) low =
    subst (λ t. (if t then with_mark (marks_of c script brief first past) (kept brief (mark_of c script past e)) else marks_of c script brief first past) ≡ [])
    (sym (lt-leb first (length past) (omega (arith, low)))) (none_before c script brief first past (omega (arith, low)))

marks_within : (c : Config) (script : Script) (brief : Bool) (first : ℕ) (past : List Event) → first ≤ length past → AreWithin first (length past) (marks_of c script brief first past)
marks_within c script brief first [] low = low
marks_within c script brief first (e ∷ past) low = go (nat_le first (length past)) refl (marks_within c script brief first past)
  where
    go : (t : Bool) → nat_le first (length past) ≡ t → (first ≤ length past → AreWithin first (length past) (marks_of c script brief first past))
        → AreWithin first (suc (length past)) (if t then with_mark (marks_of c script brief first past) (kept brief (mark_of c script past e)) else marks_of c script brief first past)
    go true is before =
        with_within first (length past) _ (kept brief (mark_of c script past e)) (kept_there brief (length past) (mark_of c script past e) (made_there (length past) e _ _ _))
        (before (leb-true first (length past) is))
    go false is before =
        let below = leb-false first (length past) is in
        subst (λ l. AreWithin first (suc (length past)) l) (sym (none_before c script brief first past (omega (arith, below)))) low

-- of the steps of a picture, those with a mark and those that stretches hide are all
pub hidden_marks : (c : Config) (script : Script) (brief : Bool) (events : List Event) (start end : ℕ) (marks : List Mark) → start ≤ end → end ≤ length events
    → marks ≡ marks_of c script brief start (history (take end events)) → hidden_from end start marks + length marks ≡ end - start
hidden_marks c script brief events start end marks low within are =
    let past = history (take end events) in
    let size : length past ≡ end = length-reverse (take end events) ∙ length-take-le end events within in
    let order : AreWithin start (length past) (marks_of c script brief start past) = marks_within c script brief start past (omega (arith, low, size)) in
    subst (λ ms. hidden_from end start ms + length ms ≡ end - start) (sym are)
    (counted start end (marks_of c script brief start past) (subst (λ n. AreWithin start n (marks_of c script brief start past)) size order))
