use Rattle.std.proofs.Common.{◌≡◌, ◌≢◌, ◌+◌, ◌++◌, [], ◌∷◌, arith, ap, sym, subst, ◌∙◌, append-nil, length, length-append, take}
use Rattle.kv_store.specs.Commands.{Request}
use Rattle.crossbeam_queue.specs.Passes.{view}
use Rattle.front_desk.specs.Arrivals.{commands_by}
use Rattle.front_desk.specs.Line.{sending_hand}
use Rattle.front_desk.specs.Sendings.{Sends, sent_by}
use Rattle.front_desk.proofs.Clients.{commands_by-next, commands_by-own, commands_by-other}
use Rattle.front_desk.proofs.sending.send.Goals as goal
use Rattle.front_desk.proofs.sending.send.Goals.{then-command-client, else-command-client}

pub loop-command-preserved : goal.loop-command-preserved
loop-command-preserved g c =
    let l = c.loop-command in
    let x = c.command-item.result in
    let mine : Request = record { client = c.command.inside.client; number = c.command.inside.number; op = c.command.inside.op } in
    let client = c.args.client in
    let before = commands_by client (take l.command-index c.args.commands.now) in
    let after = commands_by client (take (l.command-index + 1) c.args.commands.now) in
    let next : after ≡ before ++ commands_by client (x ∷ []) = commands_by-next client l.command-index c.args.commands.now x c.loop-command-test.true c.command-item.is in
    elim c.if-command-client.branch [
      | then-command-client w ↦
          let own : x.client ≡ client = ap (λ (command : Request). command.client) (sym c.command.view_is) ∙ w.if-command-client.true in
          record {
            hand = subst (λ pass. Sends c.args.line.now client after pass) (sym w.pass-is) (
              w.send_one.ensures.hand.0,
              w.send_one.ensures.hand.1
                  ∙ (ap (λ k. sending_hand k (sent_by (view l.pass) ++ mine ∷ [])) w.if-command-client.true
                  ∙ (ap (λ y. sending_hand client (sent_by (view l.pass) ++ y ∷ [])) c.command.view_is
                  ∙ ap (sending_hand client) (ap (λ hand. sent_by hand ++ x ∷ []) l.invariant.hand.1 ∙ (ap (λ more. before ++ more) (sym (commands_by-own client x [] own)) ∙ sym next)))),
            );
            count = omega (arith, w.count-is, l.invariant.count);
            sent = omega (arith, w.count-is, l.invariant.sent, ap length next, length-append before (commands_by client (x ∷ [])), ap length (commands_by-own client x [] own));
          }
      | else-command-client w ↦
          let other : x.client ≢ client = λ e. w.if-command-client.false (ap (λ (command : Request). command.client) c.command.view_is ∙ e) in
          record {
            hand = subst (λ pass. Sends c.args.line.now client after pass) (sym w.pass-is) (
              l.invariant.hand.0,
              l.invariant.hand.1
                  ∙ ap (sending_hand client) (sym (next ∙ (ap (λ more. before ++ more) (commands_by-other client x [] other) ∙ append-nil before))),
            );
            count = omega (arith, w.count-is, l.invariant.count);
            sent = omega (arith, w.count-is, l.invariant.sent, ap length next, length-append before (commands_by client (x ∷ [])), ap length (commands_by-other client x [] other));
          }
    ]
