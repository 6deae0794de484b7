-- A picture that has no room for all steps goes on in the next one.
use Rattle.std.proofs.Common.{◌≡◌, ◌<◌, ◌≤◌, ◌+◌, ℕ, suc, Bool, true, false, inl, inr, List, [], ◌∷◌, ◌++◌, None, Some, length, take, drop, sym, ap, ◌∙◌, subst, arith}
use Rattle.std.specs.Prelude.{IfSome, if◌then◌else◌, is_some, nat_le}
use Rattle.std.specs.declared.option.Option.{Option}
use Rattle.std.proofs.Math.Nat.{min-eq_left, min-le_right}
use Rattle.std.proofs.lemmas.Bool.{cases_lt, le-leb}
use Rattle.std.proofs.lemmas.List.{append-nil, append_assoc, length-append}
use Rattle.std.proofs.lemmas.Option.{slice_get_within}
use Rattle.mu_model.specs.declared.config.Config.{Config}
use Rattle.mu_model.specs.declared.event.Event.{Event}
use Rattle.mu_model.specs.declared.script.Script.{Script}
use Rattle.mu_model.specs.Histories.{history}
use Rattle.mu_picture.specs.Layout.{after_marks, top}
use Rattle.mu_picture.specs.Marks.{EndsInPlace, HasMark, IsPictureOf, kept, lowest, mark_of, marks_of, with_mark}
use Rattle.mu_picture.specs.Pages.{BeginWith, GoesOnFrom}
use Rattle.mu_picture.specs.declared.marks.Mark.{Mark}
use Rattle.mu_picture.specs.declared.pictures.Picture.{Picture}
use Rattle.mu_picture.proofs.OnePicture.{history_around, length_before}
use Rattle.mu_picture.proofs.Unmarked.{kept_there, made_there, none_before}

longer : (newer past : List Event) → length past ≤ length (newer ++ past)
longer newer past = let size = length-append newer past in omega (arith, size)

one_more : (before later whole : List Mark) (mark : Option Mark) → before ++ later ≡ whole → before ++ with_mark later mark ≡ with_mark whole mark
one_more before later whole None older = older
one_more before later whole (Some mark) older = sym (append_assoc before later (mark ∷ [])) ∙ ap (λ l. l ++ mark ∷ []) older

-- the marks before a step, and those from it on, are all
all_marks : (c : Config) (script : Script) (brief : Bool) (first : ℕ) (newer past : List Event) → first ≤ length past
    → marks_of c script brief first past ++ marks_of c script brief (length past) (newer ++ past) ≡ marks_of c script brief first (newer ++ past)
all_marks c script brief first [] past low =
    ap (λ l. marks_of c script brief first past ++ l) (none_before c script brief (length past) past (omega arith)) ∙ append-nil (marks_of c script brief first past)
all_marks c script brief first (e ∷ newer) past low =
    let above = longer newer past in
    subst (λ t. before ++ marks_of c script brief (length past) (e ∷ (newer ++ past)) ≡ (if t then with_mark whole mark else whole)) (sym (le-leb first (length (newer ++ past)) (omega (arith, low, above))))
    (subst (λ t. before ++ (if t then with_mark later mark else later) ≡ with_mark whole mark) (sym (le-leb (length past) (length (newer ++ past)) above))
    (one_more before later whole mark (all_marks c script brief first newer past low)))
  where
    before : List Mark
    before = marks_of c script brief first past

    later : List Mark
    later = marks_of c script brief (length past) (newer ++ past)

    whole : List Mark
    whole = marks_of c script brief first (newer ++ past)

    mark : Option Mark
    mark = kept brief (mark_of c script (newer ++ past) e)

begin_still : (step : ℕ) (marks : List Mark) (mark : Option Mark) → BeginWith step marks → BeginWith step (with_mark marks mark)
begin_still step [] mark begin = absurd begin
begin_still step (first ∷ marks) None begin = begin
begin_still step (first ∷ marks) (Some mark) begin = begin

begin_here : (step : ℕ) (mark : Option Mark) → IfSome mark (λ m. m.step ≡ step) → is_some mark ≡ true → BeginWith step (with_mark [] mark)
begin_here step None is some = cc
begin_here step (Some mark) is some = is

-- the marks from a step on that has one begin with that
begin_there : (c : Config) (script : Script) (brief : Bool) (newer : List Event) (e : Event) (past : List Event) → is_some (kept brief (mark_of c script past e)) ≡ true
    → BeginWith (length past) (marks_of c script brief (length past) (newer ++ (e ∷ past)))
begin_there c script brief [] e past some =
    subst (λ t. BeginWith step (if t then with_mark (marks_of c script brief step past) mark else marks_of c script brief step past)) (sym (le-leb step step (omega arith)))
    (subst (λ l. BeginWith step (with_mark l mark)) (sym (none_before c script brief step past (omega arith)))
    (begin_here step mark (kept_there brief step (mark_of c script past e) (made_there step e _ _ _)) some))
  where
    step : ℕ
    step = length past

    mark : Option Mark
    mark = kept brief (mark_of c script past e)
begin_there c script brief (last ∷ newer) e past some =
    by_test (nat_le (length past) (length (newer ++ (e ∷ past)))) (begin_there c script brief newer e past some)
  where
    older : List Mark
    older = marks_of c script brief (length past) (newer ++ (e ∷ past))

    by_test : (t : Bool) → BeginWith (length past) older → BeginWith (length past) (if t then with_mark older (kept brief (mark_of c script (newer ++ (e ∷ past)) last)) else older)
    by_test true begin = begin_still (length past) older (kept brief (mark_of c script (newer ++ (e ∷ past)) last)) begin
    by_test false begin = begin

-- a picture that has a step at all ends after its first
goes_further : (c : Config) (script : Script) (events : List Event) (short : Bool) (from last : ℕ) (picture : Picture) → IsPictureOf c script events short from last picture
    → picture.end ≤ length events → picture.first < picture.asked → picture.first < picture.end
goes_further c script events short from last picture is within some = by_end is.ends
  where
    by_end : EndsInPlace c script events short picture.asked (lowest picture) picture.end → picture.first < picture.end
    by_end (inl all) = omega (arith, all, some)
    by_end (inr (full, marked)) = elim (cases_lt picture.first picture.end) [
      | inl less ↦ less
      | inr above ↦
          let none : picture.marks.items ≡ [] =
          is.marks ∙ none_before c script short picture.first (history (take picture.end events)) (omega (arith, above, length_before events picture.end within)) in
          let low : lowest picture ≡ 92 = ap (λ ms. (after_marks (top picture.first) ms).y) none in
          absurd (omega (arith, full, low))
    ]

-- before a mark that has no row
goes_on_before : (c : Config) (script : Script) (events : List Event) (short : Bool) (from last : ℕ) (one next : Picture) → IsPictureOf c script events short from last one
    → one.end < one.asked → IsPictureOf c script events short one.end last next → HasMark c script events short one.end → GoesOnFrom c script events short one next
goes_on_before c script events short from last one next is more that marked = record {
  begins = subst (BeginWith one.end) (sym (later_are (newer ++ (marked.event ∷ past)) parts))
      (subst (λ n. BeginWith n (marks_of c script short n (newer ++ (marked.event ∷ past)))) size (begin_there c script short newer marked.event past marked.drawn));
  marks =
      ap (λ l. l ++ next.marks.items) is.marks
      ∙ (ap (λ l. marks_of c script short one.first past ++ l) (later_are ((newer ++ marked.event ∷ []) ++ past) parts_before ∙ ap (λ n. marks_of c script short n ((newer ++ marked.event ∷ []) ++ past)) (sym size))
      ∙ (all_marks c script short one.first (newer ++ marked.event ∷ []) past (omega (arith, is.order, size))
      ∙ ap (marks_of c script short one.first) (sym parts_before)));
}
  where
    past : List Event
    past = history (take one.end events)

    newer : List Event
    newer = history (drop (suc one.end) (take next.end events))

    size : length past ≡ one.end
    size = length_before events one.end (let low = slice_get_within events one.end marked.event marked.there in omega (arith, low))

    first : next.first ≡ one.end
    first = that.first ∙ min-eq_left (let asked = is.asked in omega (arith, asked, more))

    further : one.end < next.end
    further =
        let asked = is.asked in
        let same = that.asked in
        let end = that.end in
        let most = min-le_right (last + 1) (length events) in
        let step = goes_further c script events short one.end last next that (omega (arith, same, end, most)) (omega (arith, first, asked, same, more)) in
        omega (arith, first, step)

    parts : history (take next.end events) ≡ newer ++ (marked.event ∷ past)
    parts = history_around events one.end next.end marked.event marked.there further

    parts_before : history (take next.end events) ≡ (newer ++ marked.event ∷ []) ++ past
    parts_before = parts ∙ sym (append_assoc newer (marked.event ∷ []) past)

    later_are : (l : List Event) → history (take next.end events) ≡ l → next.marks.items ≡ marks_of c script short one.end l
    later_are l same = that.marks ∙ (ap (λ n. marks_of c script short n (history (take next.end events))) first ∙ ap (marks_of c script short one.end) same)

pub goes_on : (c : Config) (script : Script) (events : List Event) (short : Bool) (from last : ℕ) (one next : Picture) → IsPictureOf c script events short from last one
    → one.end < one.asked → IsPictureOf c script events short one.end last next → GoesOnFrom c script events short one next
goes_on c script events short from last one next is more that = elim is.ends [
  | inl all ↦ absurd (omega (arith, all, more))
  | inr cut ↦ goes_on_before c script events short from last one next is more that cut.1
]
