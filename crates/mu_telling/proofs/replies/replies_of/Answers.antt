use Rattle.std.proofs.Common.{◌+◌, ◌∷◌, ◌++◌, ◌∙◌, ap, append-nil, arith, drop, length, sym}
use Rattle.std.proofs.lemmas.List.{drop_all, drop_more, length_push}
use Rattle.kv_store.specs.Tables.{replies_from}
use Rattle.mu_telling.proofs.Reaching.{answered_next}
use Rattle.mu_telling.proofs.replies.replies_of.Goals as goal

pub apply-requires : goal.apply-requires
apply-requires c = omega (arith, c.loop-command.invariant.room, c.loop-command-test.true)

pub loop-command-preserved : goal.loop-command-preserved
loop-command-preserved c =
    let commands = c.args.commands.now in
    let i = c.loop-command.command-index in
    let had = c.loop-command.replies.items in
    let command = c.command-item.result in
    let room = c.apply.ensures.room in
    let long = ap length c.push_reserved.ensures.items in
    let one = length_push had c.apply.result in
    record {
      told = answered_next c.loop-command.store.table c.apply.new.self.table had c.push_reserved.new.self.items c.apply.result command (drop (i + 1) commands) c.push_reserved.ensures.items c.apply.ensures.reply c.apply.ensures.table
          ∙ (ap (λ l. had ++ replies_from c.loop-command.store.table l) (sym (drop_more commands i command c.loop-command-test.true ∙ ap (λ x. x ∷ drop (i + 1) commands) (sym c.command-item.is))) ∙ c.loop-command.invariant.told);
      room = omega (arith, c.loop-command.invariant.room, room);
      space = omega (arith, c.loop-command.invariant.space, long, one, c.push_reserved.ensures.capacity);
    }

pub returns : goal.returns
returns c =
    let commands = c.args.commands.now in
    let i = c.loop-command.command-index in
    let had = c.loop-command.replies.items in
    c.from_vec.ensures
    ∙ (sym (append-nil had) ∙ (ap (λ l. had ++ replies_from c.loop-command.store.table l) (sym (drop_all i commands (omega (arith, c.loop-command-test.false)))) ∙ c.loop-command.invariant.told))
