-- Ledgers are determined, and go on command by command.
use Rattle.std.proofs.Common.{◌≡◌, ℕ, List, [], ◌∷◌, ◌++◌, None, Some, refl, sym, ap, subst, ◌∙◌}
use Rattle.std.specs.declared.option.Option.{Option}
use Rattle.kv_store.specs.Commands.{Request, key_of}
use Rattle.match_book.specs.declared.instruction.Instruction.{Instruction}
use Rattle.match_book.specs.declared.instruction.Instruction.TheVariants.{Order, Cancel}
use Rattle.match_book.specs.declared.order.Id.{Id}
use Rattle.match_book.specs.declared.order.Resting.{Resting}
use Rattle.match_book.specs.Ledgers.{IsMatched, IsObeyed, IsStep, LeadsTo, Ledger, after_trades, asked_by, id_of, queue_for, trades_with}
use Rattle.match_book.proofs.Trading.{amounts_are_all}

pub matched_determined : (order : Resting) (before one another : Ledger) → IsMatched order before one → IsMatched order before another → one ≡ another
matched_determined order before one another first second =
    let queue = queue_for order before.book in
    let same = amounts_are_all order.left queue first.quantities first.are_traded ∙ sym (amounts_are_all order.left queue second.quantities second.are_traded) in
    first.is ∙ ap (λ quantities. after_trades order (trades_with before.applied order queue quantities) before) same ∙ sym second.is

obeyed_determined : (id : Id) (symbol : List ℕ) (asked : Option Instruction) (before one another : Ledger) → IsObeyed id symbol asked before one → IsObeyed id symbol asked before another → one ≡ another
obeyed_determined id symbol (Some (Order side price quantity)) before one another first second = matched_determined (record { id = id; symbol = symbol; side = side; price = price; left = quantity }) before one another first second
obeyed_determined id symbol (Some (Cancel number)) before one another first second = first ∙ sym second
obeyed_determined id symbol None before one another first second = first ∙ sym second

-- commands lead from one ledger to only one other
pub leads_determined : (commands : List Request) (before one another : Ledger) → LeadsTo before commands one → LeadsTo before commands another → one ≡ another
leads_determined [] before one another first second = first ∙ sym second
leads_determined (command ∷ commands) before one another first second =
    let same = obeyed_determined (id_of command) (key_of command.op) (asked_by command.op) before first.0 second.0 first.1 second.1 in
    leads_determined commands second.0 one another (subst (λ middle. LeadsTo middle commands one) same first.2) second.2

-- one more command
pub leads_on : (commands : List Request) (command : Request) (before middle after : Ledger) → LeadsTo before commands middle → IsStep command middle after → LeadsTo before (commands ++ command ∷ []) after
leads_on [] command before middle after leads step = (after, subst (λ ledger. IsStep command ledger after) leads step, refl)
leads_on (first ∷ commands) command before middle after leads step = (leads.0, leads.1, leads_on commands command leads.0 middle after leads.2 step)
