-- Moments go on, and what holds of a reply stays.
use Rattle.std.proofs.Common.{◌≡◌, ◌∙◌, ℕ, zero, suc, ◌<◌, ◌≤◌, List, [], ◌∷◌, ◌++◌, length, Some, refl, sym, ap, append-nil, append_assoc, arith, inl, inr}
use Rattle.std.specs.List.{slice_get}
use Rattle.std.proofs.lemmas.Bool.{cases_lt}
use Rattle.std.proofs.lemmas.List.{length-append}
use Rattle.std.proofs.lemmas.Option.{slice_get_within}
use Rattle.kv_store.specs.Commands.{Request}
use Rattle.kv_store.specs.Tables.{empty_table, replies, replies_from, store}
use Rattle.kv_store.specs.declared.store.Reply.{Reply}
use Rattle.kv_store.specs.declared.command.Op.{Op}
use Rattle.kv_store.proofs.Runs.{replies_from-append}
use Rattle.ordered_store.specs.Laws.{AnswersComeInTime, AnswersStay, MomentsGoOn}
use Rattle.ordered_store.specs.Moments.{Begins, GoesOn, Moment, Takes, with_more, with_row}

-- what stands in front still does if more follows
pub get_front : {A : Type 0} (xs ys : List A) (i : ℕ) (x : A) → slice_get xs i ≡ Some x → slice_get (xs ++ ys) i ≡ Some x
get_front [] ys i x at = cc
get_front (y ∷ xs) ys zero x at = at
get_front (y ∷ xs) ys (suc i) x at = get_front xs ys i x at

-- and nothing else stands there
front_get : {A : Type 0} (xs ys : List A) (i : ℕ) (x : A) → i < length xs → slice_get (xs ++ ys) i ≡ Some x → slice_get xs i ≡ Some x
front_get [] ys i x below at = absurd (omega arith)
front_get (y ∷ xs) ys zero x below at = at
front_get (y ∷ xs) ys (suc i) x below at = front_get xs ys i x (omega (arith, below)) at

pub begins-get : (whole front : List Request) (i : ℕ) (x : Request) → Begins whole front → slice_get front i ≡ Some x → slice_get whole i ≡ Some x
begins-get whole front i x begins at = ap (λ l. slice_get l i) begins.is ∙ get_front front begins.rest i x at

get-begins : (whole front : List Request) (i : ℕ) (x : Request) → Begins whole front → i < length front → slice_get whole i ≡ Some x → slice_get front i ≡ Some x
get-begins whole front i x begins below at = front_get front begins.rest i x below (ap (λ l. slice_get l i) (sym begins.is) ∙ at)

pub begins-length : (whole front : List Request) → Begins whole front → length front ≤ length whole
begins-length whole front begins = omega (arith, ap length begins.is, length-append front begins.rest)

begins-same : (whole : List Request) → Begins whole whole
begins-same whole = record { rest = []; is = sym (append-nil whole) }

begins-along : (a b c : List Request) → Begins b a → Begins c b → Begins c a
begins-along a b c ab bc = record {
  rest = ab.rest ++ bc.rest;
  is = bc.is ∙ ap (λ l. l ++ bc.rest) ab.is ∙ append_assoc a ab.rest bc.rest;
}

pub goes_on-same : (moment : Moment) → GoesOn moment moment
goes_on-same moment = record {
  submitted = begins-same moment.submitted;
  order = begins-same moment.order;
  in_time = λ row place command past at there. absurd (omega (arith, past, slice_get_within moment.submitted row command at));
}

pub goes_on-along : (before between after : Moment) → GoesOn before between → GoesOn between after → GoesOn before after
goes_on-along before between after first second = record {
  submitted = begins-along before.submitted between.submitted after.submitted first.submitted second.submitted;
  order = begins-along before.order between.order after.order first.order second.order;
  in_time = time;
}
  where
    time : (row place : ℕ) (command : Request) → length before.submitted ≤ row → slice_get after.submitted row ≡ Some command → slice_get after.order place ≡ Some command → length before.order ≤ place
    time row place command past at there = elim (cases_lt row (length between.submitted)) [ inl sooner ↦ elim (cases_lt place (length between.order)) [ inl low ↦ first.in_time row place command past (get-begins after.submitted between.submitted row command second.submitted sooner at) (get-begins after.order between.order place command second.order low there) | inr high ↦ omega (arith, high, begins-length between.order before.order first.order) ] | inr later ↦ omega (arith, second.in_time row place command later at there, begins-length between.order before.order first.order) ]

pub moments_go_on : MomentsGoOn
moments_go_on = record { same = goes_on-same; along = goes_on-along }

-- a row more is a later moment
pub goes_on-row : (stands : Moment → Type 0) (moment : Moment) (op : Op) (row : ℕ) → (takes : Takes stands moment op row) → GoesOn moment (with_row moment takes.command)
goes_on-row stands moment op row takes = record {
  submitted = record { rest = takes.command ∷ []; is = refl };
  order = begins-same moment.order;
  in_time = λ row place command past at there. absurd (takes.new place (there ∙ ap Some (last moment.submitted row command past at)));
}
  where
    last : (rows : List Request) (row : ℕ) (command : Request) → length rows ≤ row → slice_get (rows ++ takes.command ∷ []) row ≡ Some command → command ≡ takes.command
    last [] zero command past at = cc
    last [] (suc row) command past at = cc
    last (r ∷ rows) zero command past at = absurd (omega arith)
    last (r ∷ rows) (suc row) command past at = last rows row command (omega (arith, past)) at

-- so is a longer order
pub goes_on-more : (moment : Moment) (more : List Request) → GoesOn moment (with_more moment more)
goes_on-more moment more = record {
  submitted = begins-same moment.submitted;
  order = record { rest = more; is = refl };
  in_time = λ row place command past at there. absurd (omega (arith, past, slice_get_within moment.submitted row command at));
}

replies-begin : (order more : List Request) (place : ℕ) (reply : Reply) → slice_get (replies order) place ≡ Some reply → slice_get (replies (order ++ more)) place ≡ Some reply
replies-begin order more place reply at = ap (λ l. slice_get l place) (replies_from-append empty_table order more) ∙ get_front (replies order) (replies_from (store order) more) place reply at

pub answers_stay : AnswersStay
answers_stay before after goes row reply answer = record {
  place = answer.place;
  command = answer.command;
  submitted = begins-get after.submitted before.submitted row answer.command goes.submitted answer.submitted;
  ordered = begins-get after.order before.order answer.place answer.command goes.order answer.ordered;
  replied = ap (λ l. slice_get (replies l) answer.place) goes.order.is ∙ replies-begin before.order goes.order.rest answer.place reply answer.replied;
}

pub answers_come_in_time : AnswersComeInTime
answers_come_in_time before after goes sooner newer told reply first second past =
    omega (arith, slice_get_within before.order first.place first.command first.ordered, goes.in_time newer second.place second.command past second.submitted second.ordered)
