-- What a step adds to the rows of a picture.
use Rattle.std.proofs.Common.{◌≡◌, ◌≢◌, ◌<◌, ◌≤◌, ◌+◌, ◌∙◌, ◌⊎◌, ℕ, Bool, true, List, None, Some, inl, inr, refl, sym, ap, subst, arith, length, take}
use Rattle.std.specs.Prelude.{if◌then◌else◌, is_some, min, nat_le}
use Rattle.std.specs.List.{slice_get}
use Rattle.std.specs.declared.option.Option.{Option}
use Rattle.std.proofs.lemmas.Bool.{cases_lt, false≢true, le-leb}
use Rattle.std.proofs.lemmas.List.{length-reverse, length-take-le}
use Rattle.std.proofs.lemmas.Option.{slice_get_within}
use Rattle.mu_model.specs.Histories.{history}
use Rattle.mu_model.specs.declared.config.Config.{Config}
use Rattle.mu_model.specs.declared.event.Event.{Event}
use Rattle.mu_model.specs.declared.script.Script.{Script}
use Rattle.mu_outcome.proofs.Places.{history_next, slice_get-take, take-take}
use Rattle.mu_outcome.specs.declared.fault.Broken.{Broken}
use Rattle.mu_picture.specs.Marks.{EndsInPlace, HasMark, kept, legal_front, mark_of, marks_of, with_mark}
use Rattle.mu_picture.specs.Rows.{AddsStep, AsksAlike, HoldsRows, HoldsSteps, IsFresh}
use Rattle.mu_picture.specs.Trails.{HasPassed, HasTaken}
use Rattle.mu_picture.specs.declared.marks.Mark.{Mark}
use Rattle.mu_picture.specs.declared.pictures.Rows.{Rows}
use Rattle.mu_picture.specs.declared.trail.Trail.{Trail}
use Rattle.mu_picture.proofs.Steps.{marks_next}
use Rattle.mu_picture.proofs.Unmarked.{none_before}

pub more_rows : (n m : ℕ) (rows : Rows) → n ≤ m → HoldsRows n rows → HoldsRows m rows
more_rows n m rows low held = record { cursor = held.cursor; placed = held.placed; low = held.low; few = omega (arith, held.few, low); count = omega (arith, held.count, low) }

-- rows without a step hold those of events that end before the first that they ask for
pub fresh_steps : (c : Config) (script : Script) (events : List Event) (rows : Rows) → IsFresh rows.brief rows.first rows.asked rows → rows.first ≤ rows.asked → length events ≡ rows.first → HoldsSteps c script events rows
fresh_steps c script events rows fresh order size =
    let past = history (take rows.end events) in
    let low : length past ≤ rows.first = omega (arith, length-reverse (take rows.end events), length-take-le rows.end events (omega (arith, fresh.end, size)), fresh.end) in
    record {
      held = more_rows 0 (length events) rows (omega arith) fresh.held;
      order = omega (arith, fresh.end);
      within = omega (arith, fresh.end, order, size);
      marks = fresh.marks ∙ sym (none_before c script rows.brief rows.first past low);
      ends = inl (omega (arith, fresh.end, order, size));
    }

-- a step that has a mark in a beginning of a list has it in a longer one
has_mark_in : (c : Config) (script : Script) (events : List Event) (n : ℕ) (brief : Bool) (step : ℕ) → n ≤ length events → HasMark c script (take n events) brief step → HasMark c script events brief step
has_mark_in c script events n brief step low has =
    let here : step < n = omega (arith, slice_get_within (take n events) step has.event has.there, length-take-le n events low) in
    record {
      event = has.event;
      there = sym (slice_get-take events n step here) ∙ has.there;
      drawn = subst (λ l. is_some (kept brief (mark_of c script (history l) has.event)) ≡ true) (take-take events n step (omega (arith, here))) has.drawn;
    }

-- and in each beginning that reaches it
has_mark_of : (c : Config) (script : Script) (events : List Event) (n : ℕ) (brief : Bool) (step : ℕ) → step < n → HasMark c script events brief step → HasMark c script (take n events) brief step
has_mark_of c script events n brief step here has =
    record {
      event = has.event;
      there = slice_get-take events n step here ∙ has.there;
      drawn = subst (λ l. is_some (kept brief (mark_of c script (history l) has.event)) ≡ true) (sym (take-take events n step (omega (arith, here)))) has.drawn;
    }

-- rows that stay, since the next step isn't asked for or comes after their end, hold the steps with it
stays : (c : Config) (script : Script) (events : List Event) (i : ℕ) (rows : Rows) → i < length events → (rows.asked ≤ i) ⊎ (rows.end ≢ i) → HoldsSteps c script (take i events) rows → HoldsSteps c script (take (i + 1) events) rows
stays c script events i rows low apart held =
    let long = length-take-le i events (omega (arith, low)) in
    let more = length-take-le (i + 1) events (omega (arith, low)) in
    let inside : rows.end ≤ i = omega (arith, held.within, long) in
    record {
      held = more_rows (length (take i events)) (length (take (i + 1) events)) rows (omega (arith, long, more)) held.held;
      order = held.order;
      within = omega (arith, held.within, long, more);
      marks = held.marks ∙ ap (λ l. marks_of c script rows.brief rows.first (history l)) (take-take events i rows.end inside ∙ sym (take-take events (i + 1) rows.end (omega (arith, inside))));
      ends = go long more held.ends apart;
    }
  where
    go : length (take i events) ≡ i → length (take (i + 1) events) ≡ i + 1 → EndsInPlace c script (take i events) rows.brief (min rows.asked (length (take i events))) rows.cursor.y rows.end → (rows.asked ≤ i) ⊎ (rows.end ≢ i)
        → EndsInPlace c script (take (i + 1) events) rows.brief (min rows.asked (length (take (i + 1) events))) rows.cursor.y rows.end
    go long more (inr full) apart =
        let here = slice_get_within (take i events) rows.end full.1.event full.1.there in
        inr (full.0, has_mark_of c script events (i + 1) rows.brief rows.end (omega (arith, here, long)) (has_mark_in c script events i rows.brief rows.end (omega (arith, low)) full.1))
    go long more (inl done) (inl over) = inl (omega (arith, done, over, long, more))
    go long more (inl done) (inr other) = elim (cases_lt i rows.asked) [
      | inl asked ↦ absurd (other (omega (arith, done, asked, long)))
      | inr over ↦ inl (omega (arith, done, over, long, more))
    ]

-- the rows with the next step, or where they end before it, hold the steps with it
pub adds : (c : Config) (script : Script) (events : List Event) (i : ℕ) (trail : Trail) (mark : Option Mark) (rows more : Rows) → i < length events → HasTaken c script events i trail mark → AsksAlike rows more → AddsStep i (kept rows.brief mark) rows more
    → HoldsRows (i + 1) more → HoldsSteps c script (take i events) rows → HoldsSteps c script (take (i + 1) events) more
adds c script events i trail mark rows more low taken alike (inl beyond) placed held = subst (HoldsSteps c script (take (i + 1) events)) (sym beyond.0) (stays c script events i rows low beyond.1 held)
adds c script events i trail mark rows more low taken alike (inr (inl full)) placed held =
    subst (HoldsSteps c script (take (i + 1) events)) (sym full.0) (record {
      held = more_rows (length (take i events)) (length (take (i + 1) events)) rows (omega (arith, long, longer)) held.held;
      order = held.order;
      within = omega (arith, full.1, full.2, longer);
      marks = held.marks ∙ ap (λ l. marks_of c script rows.brief rows.first (history l)) (take-take events i rows.end (omega (arith, full.1)) ∙ sym (take-take events (i + 1) rows.end (omega (arith, full.1))));
      ends = inr (full.3, subst (HasMark c script (take (i + 1) events) rows.brief) (sym full.1) (has_mark_of c script events (i + 1) rows.brief i (omega arith) here));
    })
  where
    long : length (take i events) ≡ i
    long = length-take-le i events (omega (arith, low))

    longer : length (take (i + 1) events) ≡ i + 1
    longer = length-take-le (i + 1) events (omega (arith, low))

    here : HasMark c script events rows.brief i
    here = record { event = taken.event; there = taken.there; drawn = subst (λ m. is_some (kept rows.brief m) ≡ true) taken.mark full.4 }
adds c script events i trail mark rows more low taken alike (inr (inr grown)) placed held =
    record {
      held = more_rows (i + 1) (length (take (i + 1) events)) more (omega (arith, longer)) placed;
      order = omega (arith, held.order, grown.0, grown.2, alike.first);
      within = omega (arith, grown.2, grown.1, longer, alike.asked);
      marks = grown.3
          ∙ (sym (ap (λ t. if t then with_mark rows.marks.items (kept rows.brief mark) else rows.marks.items) (le-leb rows.first i (omega (arith, held.order, grown.0))))
          ∙ (marks_next c script rows.brief rows.first i (history (take i events)) taken.event rows.marks.items (kept rows.brief mark) (ap (kept rows.brief) taken.mark) (sym (length-reverse (take i events) ∙ length-take-le i events (omega (arith, low)))) before
          ∙ (ap (marks_of c script rows.brief rows.first) (sym (history_next events i taken.event taken.there))
          ∙ (ap (λ l. marks_of c script rows.brief rows.first (history l)) (sym (take-take events (i + 1) (i + 1) (omega arith)))
          ∙ (ap (λ n. marks_of c script rows.brief rows.first (history (take n (take (i + 1) events)))) (sym grown.2)
          ∙ (ap (λ b. marks_of c script b rows.first (history (take more.end (take (i + 1) events)))) (sym alike.brief)
          ∙ ap (λ f. marks_of c script more.brief f (history (take more.end (take (i + 1) events)))) (sym alike.first)))))));
      ends = inl (omega (arith, grown.2, grown.1, longer, alike.asked));
    }
  where
    longer : length (take (i + 1) events) ≡ i + 1
    longer = length-take-le (i + 1) events (omega (arith, low))

    before : rows.marks.items ≡ marks_of c script rows.brief rows.first (history (take i events))
    before = held.marks ∙ ap (λ l. marks_of c script rows.brief rows.first (history l)) (take-take events i rows.end (omega (arith, grown.0)) ∙ ap (λ n. take n events) grown.0)

-- rows that a list broke before hold the steps before that
pub early_steps : (c : Config) (script : Script) (events : List Event) (trail : Trail) (before : Option Broken) (rows : Rows) → IsFresh rows.brief rows.first rows.asked rows → rows.first ≤ rows.asked → HasPassed c script events rows.first trail before → is_some before ≡ true
    → HoldsSteps c script (legal_front events before) rows
early_steps c script events trail None rows fresh order passed some = absurd (false≢true some)
early_steps c script events trail (Some b) rows fresh order passed some =
    let within = slice_get_within events b.index b.event passed.breaks.0.there in
    fresh_steps c script (take b.index events) rows fresh order (length-take-le b.index events (omega (arith, within)) ∙ passed.breaks.1)

pub same_asked : (rows more others : Rows) → AsksAlike rows more → AsksAlike more others → AsksAlike rows others
same_asked rows more others one two = record { brief = two.brief ∙ one.brief; first = two.first ∙ one.first; asked = two.asked ∙ one.asked }
