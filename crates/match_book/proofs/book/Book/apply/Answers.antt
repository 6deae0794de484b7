use Rattle.std.proofs.Common.{◌≡◌, ◌+◌, ◌-◌, ◌++◌, ◌∷◌, [], None, Some, refl, sym, ap, subst, ◌∙◌}
use Rattle.match_book.specs.declared.instruction.Instruction.TheVariants.{Order, Cancel}
use Rattle.match_book.specs.declared.order.Id.{Id}
use Rattle.match_book.specs.declared.order.Resting.{Resting}
use Rattle.match_book.specs.Ledgers.{HaveDifferentIds, after_cancel, after_other}
use Rattle.match_book.specs.Orders.{instruction_of}
use Rattle.match_book.specs.Stands.{StandsFor}
use Rattle.match_book.specs.contracts.book.Book as book
use Rattle.kv_store.specs.contracts.command.Command as command
use Rattle.match_book.proofs.Standing.{cancel_stands, order_stands, other_stands, other_steps, put_steps}
use Rattle.match_book.proofs.book.Book.apply.Goals as goal
use Rattle.match_book.proofs.book.Book.apply.Goals.{in-Put+in-Some-Order, in-Put+in-Some-Cancel, in-Put+in-None, in_default}

pub returns-clause-stands : goal.returns-clause-stands
returns-clause-stands c = λ commands once stands.
    let request = command.the_view c.command.inside in
    let once' = subst (λ k. HaveDifferentIds (commands ++ k ∷ [])) (sym c.command.view_is) once in
    let stands' = subst (StandsFor commands) (sym c.self.view_is) stands in
    elim c.match-command.branch [
      | in-Put+in-Some-Order w ↦
          let order : Resting = record { id = record { client = c.command.inside.client; number = c.command.inside.number }; symbol = w.in-Put.symbol; side = w.in-Some-Order.side; price = w.in-Some-Order.price; left = w.in-Some-Order.left } in
          let is : Some (Order w.in-Some-Order.side w.in-Some-Order.price w.in-Some-Order.left) ≡ instruction_of w.in-Put.text = sym (ap Some w.in-Some-Order.field-0-is) ∙ w.in-Some-Order.ensures ∙ ap instruction_of w.as_bytes.ensures.bytes in
          subst (λ k. StandsFor (commands ++ k ∷ []) (book.the_view (record { resting = c.match-command.self-inside.resting; trades = c.match-command.self-inside.trades; applied = c.match-command.self-inside.applied + 1; room = c.match-command.self-inside.room - 1 }))) c.command.view_is
          (subst (λ x. StandsFor (commands ++ request ∷ []) (book.the_view (record { resting = x.resting; trades = x.trades; applied = x.applied + 1; room = x.room - 1 }))) (sym w.self-inside-is)
          (order_stands commands request order (book.the_view c.self.inside) (book.the_view (record { resting = w.take_order.new.resting; trades = w.take_order.new.trades; applied = c.self.inside.applied + 1; room = c.self.inside.room - 1 })) refl
          (put_steps request w.in-Put.symbol w.in-Put.text (Some (Order w.in-Some-Order.side w.in-Some-Order.price w.in-Some-Order.left)) w.in-Put.is is) once' stands' refl w.take_order.ensures.trades w.take_order.ensures.items))
      | in-Put+in-Some-Cancel w ↦
          let id : Id = record { client = c.command.inside.client; number = w.in-Some-Cancel.number } in
          let is : Some (Cancel w.in-Some-Cancel.number) ≡ instruction_of w.in-Put.text = sym (ap Some w.in-Some-Cancel.field-0-is) ∙ w.in-Some-Cancel.ensures ∙ ap instruction_of w.as_bytes.ensures.bytes in
          subst (λ k. StandsFor (commands ++ k ∷ []) (book.the_view (record { resting = c.match-command.self-inside.resting; trades = c.match-command.self-inside.trades; applied = c.match-command.self-inside.applied + 1; room = c.match-command.self-inside.room - 1 }))) c.command.view_is
          (subst (λ x. StandsFor (commands ++ request ∷ []) (book.the_view (record { resting = x.resting; trades = x.trades; applied = x.applied + 1; room = x.room - 1 }))) (sym w.self-inside-is)
          (cancel_stands commands request id w.in-Put.symbol (book.the_view c.self.inside) (book.the_view (record { resting = w.cancel.new.resting; trades = c.self.inside.trades; applied = c.self.inside.applied + 1; room = c.self.inside.room - 1 }))
          (λ before. put_steps request w.in-Put.symbol w.in-Put.text (Some (Cancel w.in-Some-Cancel.number)) w.in-Put.is is before (after_cancel id w.in-Put.symbol before) refl) once' stands' refl refl w.cancel.ensures.items))
      | in-Put+in-None w ↦
          let is : None ≡ instruction_of w.in-Put.text = w.in-None.ensures ∙ ap instruction_of w.as_bytes.ensures.bytes in
          subst (λ k. StandsFor (commands ++ k ∷ []) (book.the_view (record { resting = c.match-command.self-inside.resting; trades = c.match-command.self-inside.trades; applied = c.match-command.self-inside.applied + 1; room = c.match-command.self-inside.room - 1 }))) c.command.view_is
          (subst (λ x. StandsFor (commands ++ request ∷ []) (book.the_view (record { resting = x.resting; trades = x.trades; applied = x.applied + 1; room = x.room - 1 }))) (sym w.self-inside-is)
          (other_stands commands request (book.the_view c.self.inside) (book.the_view (record { resting = c.self.inside.resting; trades = c.self.inside.trades; applied = c.self.inside.applied + 1; room = c.self.inside.room - 1 }))
          (λ before. put_steps request w.in-Put.symbol w.in-Put.text None w.in-Put.is is before (after_other before) refl) stands' refl refl refl))
      | in_default w ↦
          subst (λ k. StandsFor (commands ++ k ∷ []) (book.the_view (record { resting = c.match-command.self-inside.resting; trades = c.match-command.self-inside.trades; applied = c.match-command.self-inside.applied + 1; room = c.match-command.self-inside.room - 1 }))) c.command.view_is
          (subst (λ x. StandsFor (commands ++ request ∷ []) (book.the_view (record { resting = x.resting; trades = x.trades; applied = x.applied + 1; room = x.room - 1 }))) (sym w.self-inside-is)
          (other_stands commands request (book.the_view c.self.inside) (book.the_view (record { resting = c.self.inside.resting; trades = c.self.inside.trades; applied = c.self.inside.applied + 1; room = c.self.inside.room - 1 }))
          (λ before. other_steps request w.in_default.not-Put before) stands' refl refl refl))
    ]
