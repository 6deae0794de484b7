use Rattle.mu_server.proofs.Slots.{to-along, to-same}
use Rattle.mu_server.proofs.telling.tell_replies.Goals as goal

pub returns-in_err-tell_next : goal.returns-in_err-tell_next
returns-in_err-tell_next g c = λ life number session now holds. to-along life number session _ _ (c.replies.invariant life number session now holds) (λ next held. c.tell_next.ensures life number next now held)

pub returns-then-not-branch : goal.returns-then-not-branch
returns-then-not-branch g c = λ life number session now holds. to-along life number session _ _ (c.replies.invariant life number session now holds) (λ next held. c.tell_next.ensures life number next now held)

pub replies-preserved : goal.replies-preserved
replies-preserved g c = λ life number session now holds. to-along life number session _ _ (c.replies.invariant life number session now holds) (λ next held. c.tell_next.ensures life number next now held)

pub replies-init : goal.replies-init
replies-init g c = λ life number session now holds. to-same life number session c.args.connection.now holds
