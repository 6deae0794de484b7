-- The steps that are asked for have one picture.
use Rattle.std.proofs.Common.{◌≡◌, ◌<◌, ◌≤◌, ℕ, suc, Bool, true, false, inl, inr, List, [], ◌∷◌, ◌++◌, None, Some, length, take, drop, sym, ap, ◌∙◌, subst, arith}
use Rattle.std.specs.Prelude.{if◌then◌else◌, is_some, nat_le}
use Rattle.std.specs.List.{slice_get}
use Rattle.std.specs.declared.option.Option.{Option}
use Rattle.std.proofs.lemmas.Bool.{cases_lt, le-leb}
use Rattle.std.proofs.lemmas.List.{length-reverse, length-take-le}
use Rattle.std.proofs.lemmas.Option.{slice_get_within}
use Rattle.mu_model.specs.declared.config.Config.{Config}
use Rattle.mu_model.specs.declared.event.Event.{Event}
use Rattle.mu_model.specs.declared.script.Script.{Script}
use Rattle.mu_model.specs.Histories.{history}
use Rattle.mu_outcome.proofs.Places.{history_at, slice_get-take, take-take}
use Rattle.mu_picture.specs.Layout.{HaveRows, after, after_marks, top}
use Rattle.mu_picture.specs.Marks.{EndsInPlace, HasMark, IsPictureOf, kept, lowest, mark_of, marks_of, with_mark}
use Rattle.mu_picture.specs.Openings.{openings_of}
use Rattle.mu_picture.specs.Pages.{ShowTheSame}
use Rattle.mu_picture.specs.declared.layout.Cursor.{Cursor}
use Rattle.mu_picture.specs.declared.marks.Mark.{Mark}
use Rattle.mu_picture.specs.declared.pictures.Picture.{Picture}

-- of marks that have rows the first ones do, and the last of them isn't too low
first_have : (cursor : Cursor) (marks more : List Mark) → HaveRows cursor (marks ++ more) → HaveRows cursor marks
first_have cursor [] more rows = tt
first_have cursor (mark ∷ marks) more rows = (rows.0, first_have (after cursor mark.step) marks more rows.1)

last_has : (cursor : Cursor) (marks : List Mark) (mark : Mark) → HaveRows cursor (marks ++ mark ∷ []) → (after_marks cursor marks).y ≤ 32500
last_has cursor [] mark rows = rows.0
last_has cursor (first ∷ marks) mark rows = last_has (after cursor first.step) marks mark rows.1

-- if the marks of a history have rows, so have those of its older events
older_have : (c : Config) (script : Script) (brief : Bool) (first : ℕ) (cursor : Cursor) (newer past : List Event)
    → HaveRows cursor (marks_of c script brief first (newer ++ past)) → HaveRows cursor (marks_of c script brief first past)
older_have c script brief first cursor [] past rows = rows
older_have c script brief first cursor (e ∷ newer) past rows =
    older_have c script brief first cursor newer past (by_test (nat_le first (length (newer ++ past))) (kept brief (mark_of c script (newer ++ past) e)) rows)
  where
    before : List Mark
    before = marks_of c script brief first (newer ++ past)

    by_test : (t : Bool) (mark : Option Mark) → HaveRows cursor (if t then with_mark before mark else before) → HaveRows cursor before
    by_test true None rows = rows
    by_test true (Some mark) rows = first_have cursor before (mark ∷ []) rows
    by_test false mark rows = rows

-- how long the history before a step is, and the history around a step
pub length_before : (events : List Event) (n : ℕ) → n ≤ length events → length (history (take n events)) ≡ n
length_before events n low = length-reverse (take n events) ∙ length-take-le n events low

pub history_around : (events : List Event) (step end : ℕ) (e : Event) → slice_get events step ≡ Some e → step < end
    → history (take end events) ≡ history (drop (suc step) (take end events)) ++ (e ∷ history (take step events))
history_around events step end e there less =
    history_at (take end events) step e (slice_get-take events end step less ∙ there)
    ∙ ap (λ l. history (drop (suc step) (take end events)) ++ (e ∷ history l)) (take-take events end step (omega (arith, less)))

-- if the marks before `end` have rows, a mark before `end` has one
has_row : (c : Config) (script : Script) (brief : Bool) (first : ℕ) (cursor : Cursor) (events : List Event) (step end : ℕ) → first ≤ step → step < end → HasMark c script events brief step
    → HaveRows cursor (marks_of c script brief first (history (take end events))) → (after_marks cursor (marks_of c script brief first (history (take step events)))).y ≤ 32500
has_row c script brief first cursor events step end low less marked rows =
    by_mark (kept brief (mark_of c script past e)) marked.drawn
    (subst (λ t. HaveRows cursor (if t then with_mark before (kept brief (mark_of c script past e)) else before)) (le-leb first (length past) (omega (arith, low, size)))
    (older_have c script brief first cursor newer (e ∷ past) (subst (λ l. HaveRows cursor (marks_of c script brief first l)) (history_around events step end e marked.there less) rows)))
  where
    e : Event
    e = marked.event

    past : List Event
    past = history (take step events)

    newer : List Event
    newer = history (drop (suc step) (take end events))

    before : List Mark
    before = marks_of c script brief first past

    within : step < length events
    within = slice_get_within events step e marked.there

    size : length past ≡ step
    size = length_before events step (omega (arith, within))

    by_mark : (mark : Option Mark) → is_some mark ≡ true → HaveRows cursor (with_mark before mark) → (after_marks cursor before).y ≤ 32500
    by_mark None some rows = cc
    by_mark (Some mark) some rows = last_has cursor before mark rows

-- no picture ends before another of the same steps
not_before : (c : Config) (script : Script) (events : List Event) (short : Bool) (from last : ℕ) (one other : Picture) → IsPictureOf c script events short from last one
    → IsPictureOf c script events short from last other → one.end < other.end → ⊥
not_before c script events short from last one other is that less = by_end is.ends
  where
    marks_before : ℕ → ℕ → List Mark
    marks_before first end = marks_of c script short first (history (take end events))

    rows : HaveRows (top one.first) (marks_before one.first other.end)
    rows = subst (λ f. HaveRows (top f) (marks_before f other.end)) (that.first ∙ sym is.first) (subst (HaveRows (top other.first)) that.marks that.rows)

    by_end : EndsInPlace c script events short one.asked (lowest one) one.end → ⊥
    by_end (inl all) = let asked = is.asked in let other_asked = that.asked in let order = that.end in omega (arith, all, asked, other_asked, order, less)
    by_end (inr (full, marked)) =
        let room : (after_marks (top one.first) (marks_before one.first one.end)).y ≤ 32500 = has_row c script short one.first (top one.first) events one.end other.end is.order less marked rows in
        let low : lowest one ≤ 32500 = subst (λ ms. (after_marks (top one.first) ms).y ≤ 32500) (sym is.marks) room in
        omega (arith, full, low)

pub one_picture : (c : Config) (script : Script) (events : List Event) (short : Bool) (from last : ℕ) (one other : Picture) → IsPictureOf c script events short from last one
    → IsPictureOf c script events short from last other → ShowTheSame one other
one_picture c script events short from last one other is that = record {
  brief = is.brief ∙ sym that.brief;
  first = first;
  asked = is.asked ∙ sym that.asked;
  end = end;
  openings = is.openings ∙ (ap (λ n. openings_of c script c.replicas (history (take n events))) first ∙ sym that.openings);
  marks = is.marks
      ∙ (ap (λ n. marks_of c script short n (history (take one.end events))) first
      ∙ (ap (λ n. marks_of c script short other.first (history (take n events))) end ∙ sym that.marks));
}
  where
    first : one.first ≡ other.first
    first = is.first ∙ sym that.first

    end : one.end ≡ other.end
    end = elim (cases_lt one.end other.end) [
      | inl less ↦ absurd (not_before c script events short from last one other is that less)
      | inr above ↦ elim (cases_lt other.end one.end) [
        | inl less ↦ absurd (not_before c script events short from last other one that is less)
        | inr below ↦ omega (arith, above, below)
      ]
    ]
