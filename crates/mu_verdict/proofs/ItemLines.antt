-- What the next line gives of the items.
use Rattle.std.proofs.Common.{◌≡◌, ℕ, ◌+◌, Bool, true, List, [], ◌∷◌, ◌++◌, refl, sym, ap, ◌∙◌, None, Some, Ok, Err, append_assoc}
use Rattle.std.specs.Prelude.{codes, if◌then◌else◌, IfOk, IfSome}
use Rattle.std.specs.Option.{option_map_or}
use Rattle.std.specs.Str.{bytes_eq}
use Rattle.std.specs.declared.option.Option.{Option}
use Rattle.std.specs.declared.result.Result.{Result}
use Rattle.mu_verdict.specs.Traces.{EndsItems, GivesItem, items_from, items_with}
use Rattle.mu_verdict.specs.Attests.{GivesMore}
use Rattle.mu_verdict.specs.declared.finding.Found.{Found}
use Rattle.mu_clients.specs.declared.items.Flawed.{Flawed}
use Rattle.mu_clients.specs.Items.{item_of}
use Rattle.mu_clients.specs.declared.items.Item.{Item}
use Rattle.mu_input.specs.Readings.{Begins, Breaks, whole}
use Rattle.mu_input.specs.declared.cause.TheConstants.{EVENT}
use Rattle.mu_input.specs.declared.job.InputEnd.{InputEnd}
use Rattle.mu_input.specs.declared.job.InputEnd.TheVariants.{Refused, NoMemory}
use Rattle.mu_text.specs.Lines.{Left, words}

-- what the items are with a line in front
from_line : (n rows : ℕ) (items : List Item) (left next : Left) (line : List ℕ) → left.lines ≡ line ∷ next.lines → next.number ≡ left.number + 1 → (t : Bool) → bytes_eq line (codes "end") ≡ t
    → items_with n rows items left
    ≡ whole (if t then Begins items next
    else option_map_or (λ item. items_from n rows (items ++ item ∷ []) next.number next.lines) (item_of n rows (words line)) (Breaks left.number EVENT))
from_line n rows items left next line is count t end =
    ap (λ l. whole (items_from n rows items left.number l)) is
    ∙ ap (λ x. whole (if x then Begins items (record { number = left.number + 1; lines = next.lines })
    else option_map_or (λ item. items_from n rows (items ++ item ∷ []) (left.number + 1) next.lines) (item_of n rows (words line)) (Breaks left.number EVENT))) end
    ∙ ap (λ k. whole (if t then Begins items (record { number = k; lines = next.lines })
    else option_map_or (λ item. items_from n rows (items ++ item ∷ []) k next.lines) (item_of n rows (words line)) (Breaks left.number EVENT))) (sym count)

pub at_end : (n rows : ℕ) (items : List Item) (left next later : Left) (line : List ℕ) (result : Result (Option Item) InputEnd) → left.lines ≡ line ∷ next.lines → next.number ≡ left.number + 1 → bytes_eq line (codes "end") ≡ true
    → EndsItems items next result → GivesItem n rows items left result later
at_end n rows items left next later line result is count end ends = go result ends
  where
    front : items_with n rows items left ≡ whole (Begins items next)
    front = from_line n rows items left next line is count true end

    go : (result : Result (Option Item) InputEnd) → EndsItems items next result → GivesItem n rows items left result later
    go (Ok None) ends = front ∙ ends
    go (Ok (Some item)) ends = absurd ends
    go (Err (Refused at cause)) ends = front ∙ ends
    go (Err NoMemory) ends = ends

-- some more items were taken
pub record HasMore (n rows : ℕ) (items : List Item) (old now : Left) : Type 0 where
  pub more : List Item
  pub is : items_with n rows items old ≡ items_with n rows (items ++ more) now

pub more_step : (n rows : ℕ) (items : List Item) (old left next : Left) (item : Item) → (held : HasMore n rows items old left) → GivesItem n rows (items ++ held.more) left (Ok (Some item)) next → HasMore n rows items old next
more_step n rows items old left next item held gives = record {
  more = held.more ++ item ∷ [];
  is = held.is ∙ gives ∙ ap (λ l. items_with n rows l next) (append_assoc items held.more (item ∷ []));
}

pub more_end : (n rows : ℕ) (items : List Item) (old left next : Left) (flawed : Flawed) → (held : HasMore n rows items old left) → GivesItem n rows (items ++ held.more) left (Ok None) next
    → GivesMore n rows items old flawed (Ok (Found.Wrong flawed))
more_end n rows items old left next flawed held gives = (refl, held.more, held.is ∙ gives)

pub more_refused : (n rows : ℕ) (items : List Item) (old left next : Left) (flawed : Flawed) (end : InputEnd) → (held : HasMore n rows items old left) → GivesItem n rows (items ++ held.more) left (Err end) next
    → GivesMore n rows items old flawed (Err end)
more_refused n rows items old left next flawed (Refused line cause) held gives = held.is ∙ gives
more_refused n rows items old left next flawed NoMemory held gives = gives

-- what is never an item is as any item
pub never_some : (P : Item → Type 0) (result : Result (Option Item) InputEnd) → IfOk result (λ found. found ≡ None) → IfOk result (λ found. IfSome found P)
never_some P (Ok None) none = tt
never_some P (Ok (Some item)) none = cc
never_some P (Err end) none = tt
