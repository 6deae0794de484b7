use Rattle.std.proofs.Common.{◌≡◌, ◌∙◌, [], ◌++◌, ap, drop, refl, subst, sym}
use Rattle.mu_redis.specs.Refusals.{no_reply}
use Rattle.mu_redis.specs.Wordings.{told}
use Rattle.mu_resp.specs.Answers.{refusal}
use Rattle.mu_server.specs.Holding.{rows_so_far}
use Rattle.mu_server.specs.Serving.{MovesTo}
use Rattle.mu_server.specs.Sessions.{Late, Replied}
use Rattle.mu_server.proofs.Slots.{to-same}
use Rattle.mu_server.proofs.Steps.{moves-told}
use Rattle.mu_server.proofs.telling.tell_next.Goals as goal
use Rattle.mu_server.proofs.telling.tell_next.Goals.{in-Some-reply_to+in_ok-put_reply-in-Some-reply_to, in-None+else-saturating_sub-le-WAIT_ROUNDS+in_ok-put_no_reply-in-None}

pub returns : goal.returns
returns g c = λ life number session now holds.
    let first = c.in-Some.first in
    let old = c.args.connection.now in
    let told_now = c.in_ok-tell.ensures in
    elim c.match-reply_to.branch [
      | in-Some-reply_to+in_ok-put_reply-in-Some-reply_to w ↦
          let text : c.as_slice.result.now ≡ told first.wording w.in-Some-reply_to.reply =
          c.as_slice.ensures.value ∙ ap (λ t. t.items) w.text-is ∙ w.in_ok-put_reply-in-Some-reply_to.ensures ∙ ap (λ l. l ++ told first.wording w.in-Some-reply_to.reply) c.new-text.ensures.items in
          moves-told life number session old c.tell.new.self first (drop 1 old.waiting.items) (Replied first.row first.wording w.in-Some-reply_to.reply) c.in-Some.ensures told_now.waiting told_now.input
          (told_now.output ∙ ap (λ l. old.output ++ l) text) told_now.ending told_now.read refl (λ words has. (has, w.in-Some-reply_to.ensures life.moment now.now)) holds
      | in-None+else-saturating_sub-le-WAIT_ROUNDS+in_ok-put_no_reply-in-None w ↦
          let text : c.as_slice.result.now ≡ refusal no_reply =
          c.as_slice.ensures.value ∙ ap (λ t. t.items) w.text-is ∙ w.in_ok-put_no_reply-in-None.ensures ∙ ap (λ l. l ++ refusal no_reply) c.new-text.ensures.items in
          moves-told life number session old c.tell.new.self first (drop 1 old.waiting.items) (Late first.row) c.in-Some.ensures told_now.waiting told_now.input
          (told_now.output ∙ ap (λ l. old.output ++ l) text) told_now.ending told_now.read refl (λ words has. (first.wording, has)) holds
    ]

pub returns-in_default : goal.returns-in_default
returns-in_default g c = λ life number session now holds. to-same life number session c.args.connection.now holds

pub returns-in_err-put_reply-in-Some-reply_to : goal.returns-in_err-put_reply-in-Some-reply_to
returns-in_err-put_reply-in-Some-reply_to g c = λ life number session now holds. to-same life number session c.args.connection.now holds

pub returns-then-saturating_sub-le-WAIT_ROUNDS : goal.returns-then-saturating_sub-le-WAIT_ROUNDS
returns-then-saturating_sub-le-WAIT_ROUNDS g c = λ life number session now holds. to-same life number session c.args.connection.now holds

pub returns-in_err-put_no_reply-in-None : goal.returns-in_err-put_no_reply-in-None
returns-in_err-put_no_reply-in-None g c = λ life number session now holds. to-same life number session c.args.connection.now holds

pub returns-in_err-tell : goal.returns-in_err-tell
returns-in_err-tell g c = λ life number session now holds.
    subst (MovesTo (rows_so_far life) life number [] [] session) (sym c.in_err-tell.ensures.same) (to-same life number session c.args.connection.now holds)
