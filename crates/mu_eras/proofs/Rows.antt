-- Rows among all commands, and the replies to them, as eras follow.
use Rattle.std.proofs.Common.{◌∙◌, ℕ, ◌+◌, List, ◌∷◌, ◌++◌, ap, append_assoc, inl, inr, length, map, sym}
use Rattle.std.specs.List.{slice_get}
use Rattle.kv_store.specs.Tables.{replies, replies_from, store}
use Rattle.kv_store.specs.declared.store.Reply.{Reply}
use Rattle.mu_model.proofs.Lists.{get_front}
use Rattle.mu_engine.specs.Laws.{order_after}
use Rattle.mu_engine.proofs.Going.{goes_further_law}
use Rattle.mu_eras.specs.Eras.{Era, ErasGoFurther, IsReplyOver, IsReplyTo, order_of, submitted_over}
use Rattle.mu_eras.specs.Orders.{numbered_after}
use Rattle.mu_eras.proofs.Applying.{get_behind}
use Rattle.mu_eras.proofs.Linear.{get_numbered}
use Rattle.mu_eras.proofs.Orders.{replies_going_on}

-- the reply to a row of an era is that to its row behind those of the eras before
pub reply_over_rows : (past : List Era) (era : Era) (row : ℕ) (reply : Reply) → IsReplyOver past era row reply → IsReplyTo (era ∷ past) (length (submitted_over past) + row) reply
reply_over_rows past era row reply is = record {
  place = is.place;
  command = numbered_after (order_of past) is.command;
  submitted =
      get_behind (submitted_over past) (map (numbered_after (order_of past)) era.job.commands) row ∙ get_numbered (order_of past) era.job.commands row is.command is.submitted;
  ordered = is.ordered;
  replied = is.replied;
}

-- and stays when an era follows
pub reply_stays_over : (past : List Era) (era : Era) (row : ℕ) (reply : Reply) → IsReplyTo past row reply → IsReplyTo (era ∷ past) row reply
reply_stays_over past era row reply is =
    let order = order_after era.job era.events in
    record {
      place = is.place;
      command = is.command;
      submitted = get_front (submitted_over past) (map (numbered_after (order_of past)) era.job.commands) row is.command is.submitted;
      ordered = get_front (order_of past) (map (numbered_after (order_of past)) order) is.place is.command is.ordered;
      replied =
          ap (λ l. slice_get l is.place) (replies_going_on (order_of past) order)
          ∙ get_front (replies (order_of past)) (replies_from (store (order_of past)) order) is.place reply is.replied;
    }

-- a moment goes on from one that goes on
pub eras_go_further_law : ErasGoFurther
eras_go_further_law past era later_past later last_past last (inl one) (inl two) =
    inl (two.0 ∙ one.0, goes_further_law era.job era.events later.job later.events last.job last.events one.1 two.1)
eras_go_further_law past era later_past later last_past last (inl one) (inr two) =
    inr (
      two.0,
      two.1,
      two.2 ∙ ap (λ l. two.0 ++ two.1 ∷ l) one.0,
      goes_further_law era.job era.events later.job later.events (two.1).job (two.1).events one.1 two.3,
    )
eras_go_further_law past era later_past later last_past last (inr one) (inl two) = inr (one.0, one.1, two.0 ∙ one.2, one.3)
eras_go_further_law past era later_past later last_past last (inr one) (inr two) =
    inr (
      two.0 ++ two.1 ∷ one.0,
      one.1,
      two.2 ∙ ap (λ l. two.0 ++ two.1 ∷ l) one.2 ∙ sym (append_assoc two.0 (two.1 ∷ one.0) (one.1 ∷ past)),
      one.3,
    )
