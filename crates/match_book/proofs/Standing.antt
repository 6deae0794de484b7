-- A book goes on standing for its commands, step by step.
use Rattle.std.proofs.Common.{◌≡◌, ℕ, ◌+◌, ◌≤◌, not, List, [], ◌∷◌, ◌++◌, None, refl, sym, ap, subst, ◌∙◌}
use Rattle.std.specs.declared.option.Option.{Option}
use Rattle.std.specs.List.{position_or_len, remove}
use Rattle.kv_store.specs.Commands.{Request, key_of}
use Rattle.kv_store.specs.declared.command.Op.{Op}
use Rattle.kv_store.specs.declared.command.Op.TheVariants.{Put}
use Rattle.match_book.specs.declared.instruction.Instruction.{Instruction}
use Rattle.match_book.specs.declared.order.Id.{Id}
use Rattle.match_book.specs.declared.order.Resting.{Resting}
use Rattle.match_book.specs.Filling.{before_others, filled, from_others, rested}
use Rattle.match_book.specs.Ledgers.{HaveDifferentIds, IsMatched, IsObeyed, IsStep, Ledger, after_cancel, after_other, after_trades, asked_by, empty_ledger, id_of, is_named}
use Rattle.match_book.specs.Orders.{instruction_of}
use Rattle.match_book.specs.Places.{IsInOrder, arranged}
use Rattle.match_book.specs.Stands.{Held, StandsFor}
use Rattle.match_book.proofs.Arranging.{arranged_filtered, arranged_in_order}
use Rattle.match_book.proofs.Ledgers.{leads_on}
use Rattle.match_book.proofs.Naming.{filter_named}
use Rattle.match_book.proofs.Remaining.{IsApart}
use Rattle.match_book.proofs.Sound.{all_arranged, apart_new, different_book, ledger_is_sound}
use Rattle.match_book.proofs.Steps.{filled_in, filled_matches, matched_arranged}

pub other_stands : (commands : List Request) (command : Request) (old new : Held) → ((before : Ledger) → IsStep command before (after_other before)) → StandsFor commands old → new.applied ≡ old.applied + 1 → new.trades ≡ old.trades → new.resting ≡ old.resting → StandsFor (commands ++ command ∷ []) new
other_stands commands command old new step stands applied trades resting =
    let before = stands.ledger in
    record {
      ledger = after_other before;
      is_ledger = leads_on commands command empty_ledger before (after_other before) stands.is_ledger (step before);
      applied = applied ∙ ap (λ n. n + 1) stands.applied;
      trades = trades ∙ stands.trades;
      resting = resting ∙ stands.resting;
    }

pub cancel_stands : (commands : List Request) (command : Request) (id : Id) (symbol : List ℕ) (old new : Held) → ((before : Ledger) → IsStep command before (after_cancel id symbol before)) → HaveDifferentIds (commands ++ command ∷ []) → StandsFor commands old → new.applied ≡ old.applied + 1 → new.trades ≡ old.trades →
    (IsInOrder old.resting → new.resting ≡ remove old.resting (position_or_len (is_named id symbol) old.resting)) →
    StandsFor (commands ++ command ∷ []) new
cancel_stands commands command id symbol old new step once stands applied trades resting =
    let before = stands.ledger in
    let p = λ (o : Resting). not (is_named id symbol o) in
    let is : IsInOrder old.resting = subst IsInOrder (sym stands.resting) (arranged_in_order before.book) in
    let different = different_book commands command before once (ledger_is_sound commands before stands.is_ledger) in
    record {
      ledger = after_cancel id symbol before;
      is_ledger = leads_on commands command empty_ledger before (after_cancel id symbol before) stands.is_ledger (step before);
      applied = applied ∙ ap (λ n. n + 1) stands.applied;
      trades = trades ∙ stands.trades;
      resting = resting is
          ∙ ap (λ orders. remove orders (position_or_len (is_named id symbol) orders)) stands.resting
          ∙ sym (filter_named id symbol (arranged before.book) different)
          ∙ sym (arranged_filtered p before.book);
    }

pub order_stands : (commands : List Request) (command : Request) (order : Resting) (old new : Held) → order.id ≡ id_of command → ((before after : Ledger) → IsMatched order before after → IsStep command before after) → HaveDifferentIds (commands ++ command ∷ []) → StandsFor commands old → new.applied ≡ old.applied + 1 →
    (IsInOrder old.resting → new.trades ≡ old.trades ++ (filled old.applied order order.left (from_others order old.resting)).trades) →
    (IsInOrder old.resting → new.resting ≡ rested order (filled old.applied order order.left (from_others order old.resting)).left (before_others order old.resting ++ (filled old.applied order order.left (from_others order old.resting)).queue)) →
    StandsFor (commands ++ command ∷ []) new
order_stands commands command order old new mine step once stands applied trades resting =
    let before = stands.ledger in
    let sound = ledger_is_sound commands before stands.is_ledger in
    let f = filled_in before.applied order before.book in
    let after = after_trades order f.trades before in
    let is : IsInOrder old.resting = subst IsInOrder (sym stands.resting) (arranged_in_order before.book) in
    let own = subst (λ id. IsApart id (arranged before.book)) (sym mine) (apart_new commands command before once sound) in
    let different = different_book commands command before once sound in
    let some = all_arranged (λ (o : Resting). 1 ≤ o.left) before.book sound.some in
    let same = λ (n : ℕ) (orders : List Resting). filled n order order.left (from_others order orders) in
    let fill : same old.applied old.resting ≡ f = ap (λ n. same n old.resting) stands.applied ∙ ap (λ orders. same before.applied orders) stands.resting in
    record {
      ledger = after;
      is_ledger = leads_on commands command empty_ledger before after stands.is_ledger (step before after (filled_matches order before sound.some));
      applied = applied ∙ ap (λ n. n + 1) stands.applied;
      trades = trades is ∙ ap (λ ts. ts ++ (same old.applied old.resting).trades) stands.trades ∙ ap (λ g. before.trades ++ g.trades) fill;
      resting = resting is
          ∙ ap (λ g. rested order g.left (before_others order old.resting ++ g.queue)) fill
          ∙ ap (λ orders. rested order f.left (before_others order orders ++ f.queue)) stands.resting
          ∙ sym (matched_arranged before.applied order before.book own different some);
    }

-- the step of a put, by what its text asks for
pub put_steps : (command : Request) (symbol text : List ℕ) (asked : Option Instruction) → command.op ≡ Put symbol text → asked ≡ instruction_of text → (before after : Ledger) → IsObeyed (id_of command) symbol asked before after → IsStep command before after
put_steps command symbol text asked op is before after step =
    subst (λ o. IsObeyed (id_of command) (key_of o) (asked_by o) before after) (sym op) (subst (λ i. IsObeyed (id_of command) symbol i before after) is step)

asks_nothing : (op : Op) → ((symbol text : List ℕ) → op ≡ Put symbol text → ⊥) → asked_by op ≡ None
asks_nothing (Put symbol text) none = absurd (none symbol text refl)
asks_nothing op none = refl

-- the step of a command that isn't a put
pub other_steps : (command : Request) → ((symbol text : List ℕ) → command.op ≡ Put symbol text → ⊥) → (before : Ledger) → IsStep command before (after_other before)
other_steps command none before = subst (λ asked. IsObeyed (id_of command) (key_of command.op) asked before (after_other before)) (sym (asks_nothing command.op none)) refl
