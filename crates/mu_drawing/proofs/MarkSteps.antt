-- Each mark of a picture is of the event at its step.
use Rattle.std.proofs.Common.{◌≡◌, ℕ, zero, suc, Bool, true, false, List, [], ◌∷◌, ◌++◌, None, Some, length, take, drop, refl, sym, subst}
use Rattle.std.specs.Prelude.{IfSome, if◌then◌else◌, nat_le, reverse}
use Rattle.std.specs.List.{slice_get}
use Rattle.std.specs.declared.option.Option.{Option}
use Rattle.std.proofs.lemmas.List.{length-reverse, reverse-append, reverse-reverse, take-append-drop}
use Rattle.mu_model.specs.declared.config.Config.{Config}
use Rattle.mu_model.specs.declared.event.Event.{Event}
use Rattle.mu_model.specs.declared.script.Script.{Script}
use Rattle.mu_model.specs.Histories.{history}
use Rattle.mu_course.specs.declared.halts.Halt.{Halt}
use Rattle.mu_picture.specs.Marks.{IsPictureOf, is_kept, kept, made_of, mark_of, marks_of, with_mark}
use Rattle.mu_picture.specs.declared.deeds.Deed.{Deed}
use Rattle.mu_picture.specs.declared.marks.Mark.{Mark}
use Rattle.mu_picture.specs.declared.pictures.Picture.{Picture}
use Rattle.mu_picture.specs.declared.standings.Resumed.{Resumed}
use Rattle.mu_drawing.specs.Answers.{AreOfTheirSteps}

-- a mark, if it is there, is of the event at its step
abbrev IsOfItsStep : List Event → Option Mark → Type 0
IsOfItsStep events mark = IfSome mark (λ m. slice_get events m.step ≡ Some m.event)

get_in_front : (xs more : List Event) (i : ℕ) (e : Event) → slice_get xs i ≡ Some e → slice_get (xs ++ more) i ≡ Some e
get_in_front [] more i e is = absurd (let clash : None ≡ Some e = is in cc)
get_in_front (x ∷ xs) more zero e is = is
get_in_front (x ∷ xs) more (suc i) e is = get_in_front xs more i e is

get_last : (xs : List Event) (e : Event) → slice_get (xs ++ e ∷ []) (length xs) ≡ Some e
get_last [] e = refl
get_last (x ∷ xs) e = get_last xs e

in_front : (events more : List Event) (marks : List Mark) → AreOfTheirSteps events marks → AreOfTheirSteps (events ++ more) marks
in_front events more [] are = tt
in_front events more (mark ∷ marks) are = (get_in_front events more mark.step mark.event are.0, in_front events more marks are.1)

one_more : (events : List Event) (marks : List Mark) (mark : Mark) → slice_get events mark.step ≡ Some mark.event → AreOfTheirSteps events marks → AreOfTheirSteps events (marks ++ mark ∷ [])
one_more events [] mark is are = (is, tt)
one_more events (first ∷ marks) mark is are = (are.0, one_more events marks mark is are.1)

with_more : (events : List Event) (marks : List Mark) (mark : Option Mark) → IsOfItsStep events mark → AreOfTheirSteps events marks → AreOfTheirSteps events (with_mark marks mark)
with_more events marks None is are = are
with_more events marks (Some mark) is are = one_more events marks mark is are

made_there : (events : List Event) (step : ℕ) (e : Event) (resumed : Option Resumed) (deed : Option Deed) (halt : Option Halt) → slice_get events step ≡ Some e → IsOfItsStep events (made_of step e resumed deed halt)
made_there events step e None None None is = tt
made_there events step e None None (Some halt) is = is
made_there events step e None (Some deed) halt is = is
made_there events step e (Some resumed) deed halt is = is

kept_there : (events : List Event) (brief : Bool) (mark : Option Mark) → IsOfItsStep events mark → IsOfItsStep events (kept brief mark)
kept_there events brief None is = tt
kept_there events brief (Some mark) is = by_test (is_kept brief mark)
  where
    by_test : (t : Bool) → IsOfItsStep events (if t then Some mark else None)
    by_test true = is
    by_test false = tt

of_history : (c : Config) (script : Script) (brief : Bool) (first : ℕ) (past : List Event) → AreOfTheirSteps (reverse past) (marks_of c script brief first past)
of_history c script brief first [] = tt
of_history c script brief first (e ∷ past) =
    subst (λ l. AreOfTheirSteps l (marks_of c script brief first (e ∷ past))) (sym (reverse-append (e ∷ []) past))
    (by_test (in_front (reverse past) (e ∷ []) (marks_of c script brief first past) (of_history c script brief first past)) (nat_le first (length past)))
  where
    there : slice_get (reverse past ++ e ∷ []) (length past) ≡ Some e
    there = subst (λ n. slice_get (reverse past ++ e ∷ []) n ≡ Some e) (length-reverse past) (get_last (reverse past) e)

    by_test : AreOfTheirSteps (reverse past ++ e ∷ []) (marks_of c script brief first past) → (t : Bool)
        → AreOfTheirSteps (reverse past ++ e ∷ []) (if t then with_mark (marks_of c script brief first past) (kept brief (mark_of c script past e)) else marks_of c script brief first past)
    by_test before true =
        with_more (reverse past ++ e ∷ []) _ (kept brief (mark_of c script past e))
        (kept_there (reverse past ++ e ∷ []) brief (mark_of c script past e) (made_there (reverse past ++ e ∷ []) (length past) e _ _ _ there)) before
    by_test before false = before

-- what holds of the first events holds of all
pub of_first : (n : ℕ) (events : List Event) (marks : List Mark) → AreOfTheirSteps (take n events) marks → AreOfTheirSteps events marks
of_first n events marks are = subst (λ l. AreOfTheirSteps l marks) (take-append-drop n events) (in_front (take n events) (drop n events) marks are)

-- each mark of a picture is of the event at its step
pub marks_are_of_their_steps : (c : Config) (script : Script) (events : List Event) (brief : Bool) (first last : ℕ) (picture : Picture) → IsPictureOf c script events brief first last picture → AreOfTheirSteps events picture.marks.items
marks_are_of_their_steps c script events brief first last picture is =
    let drawn = take picture.end events in
    subst (λ ms. AreOfTheirSteps events ms) (sym is.marks)
    (of_first picture.end events (marks_of c script brief picture.first (history drawn))
    (subst (λ l. AreOfTheirSteps l (marks_of c script brief picture.first (history drawn))) (reverse-reverse drawn) (of_history c script brief picture.first (history drawn))))
