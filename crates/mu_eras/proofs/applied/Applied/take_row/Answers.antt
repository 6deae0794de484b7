use Rattle.std.proofs.Common.{◌≡◌, ◌∙◌, ◌<◌, Some, ap, arith, length, set, slice_set, sym}
use Rattle.std.specs.List.{slice_get}
use Rattle.std.proofs.lemmas.List.{length-set}
use Rattle.std.proofs.lemmas.Option.{slice_get-get_or}
use Rattle.kv_store.specs.Commands.{Request}
use Rattle.kv_store.specs.Tables.{reply_to, table_after}
use Rattle.mu_model.proofs.Basics.{same_some}
use Rattle.mu_model.proofs.Lists.{get_set_here}
use Rattle.mu_eras.proofs.Applying.{applies_one}
use Rattle.mu_eras.proofs.applied.Applied.take_row.Goals as goal

pub returns-clause-kept : goal.returns-clause-kept
returns-clause-kept c =
    let replies = c.args.replies.now in
    let put = Some c.apply-reply.result in
    record {
      reply = c.apply-reply.result;
      at =
          ap (slice_get (set replies c.from-2.result put)) (sym c.from-2.ensures)
          ∙ get_set_here replies c.from-2.result put (omega (arith, c.from-2.ensures, c.requires.row, c.requires.count));
    }

pub returns-clause-applies : goal.returns-clause-applies
returns-clause-applies c command at =
    let commands = c.args.commands.now in
    let replies = c.args.replies.now in
    let table = c.args.self.now.store.table in
    let found : Request = c.index-commands-from.result in
    let low : c.from.result < length commands = omega (arith, c.from.ensures, c.requires.row) in
    let there : slice_get commands c.from.result ≡ Some found = slice_get-get_or commands c.from.result found low ∙ ap (λ x. Some x) (sym c.index-commands-from.is) in
    let same : found ≡ command = same_some found command (sym there ∙ ap (slice_get commands) c.from.ensures ∙ at) in
    let put = ap (λ n. set replies n (Some c.apply-reply.result)) c.from-2.ensures ∙ ap (λ x. set replies c.args.row (Some x)) (c.apply-reply.ensures.reply ∙ ap (λ (x : Request). reply_to table x.op) same) in
    applies_one commands command c.args.row c.args.self.now c.apply-reply.new.self replies (slice_set replies c.from-2.result (Some c.apply-reply.result)) at (omega (arith, c.requires.row, c.requires.count)) put
    (length-set replies c.from-2.result (Some c.apply-reply.result)) (c.apply-reply.ensures.table ∙ ap (λ (x : Request). table_after table x.op) same) c.apply-reply.ensures.room c.apply-reply.ensures.commands
