-- A later time in the life of a server: what a connection holds of its session, it still holds.
use Rattle.std.proofs.Common.{◌≡◌, ◌∙◌, ℕ, ◌≤◌, List, [], ◌∷◌, ◌++◌, Some, append-nil, append_assoc, ap, arith, length, refl, subst, sym}
use Rattle.std.specs.List.{AllByRecursion, slice_get}
use Rattle.kv_store.specs.declared.command.Op.{Op}
use Rattle.mu_redis.specs.Asking.{asks}
use Rattle.mu_redis.specs.declared.asked.Asked.{Asked}
use Rattle.mu_redis.specs.declared.wording.Wording.{Wording}
use Rattle.kv_store.specs.Commands.{Request}
use Rattle.ordered_store.specs.Moments.{Moment, with_more}
use Rattle.ordered_store.proofs.Going.{answers_stay, begins-get, begins-length, get_front, goes_on-along, goes_on-more, goes_on-same}
use Rattle.mu_server.specs.Holding.{AreOwn, AsksStore, HasRow, HoldsLife, HoldsSession, IsAnswered, IsExchange, IsQuestion, IsRowOf, Life, TellsAlone, rows_so_far}
use Rattle.mu_server.specs.Serving.{LifeGoesOn, Moves}
use Rattle.mu_server.specs.Sessions.{Alone, Answer, Exchange, Late, ManyKeys, NoRoom, Question, Replied, Session, rows_of}
use Rattle.mu_server.specs.declared.connection.Connection.{Connection}
use Rattle.mu_server.proofs.Lists.{all-append, all-weaker, ascend-more}

pub life-same : (life : Life) → LifeGoesOn life life
life-same life = record {
  replicas = refl;
  moment = goes_on-same life.moment;
  new_askers = [];
  askers = sym (append-nil life.askers);
}

pub life-along : (before between after : Life) → LifeGoesOn before between → LifeGoesOn between after → LifeGoesOn before after
life-along before between after first second = record {
  replicas = second.replicas ∙ first.replicas;
  moment = goes_on-along before.moment between.moment after.moment first.moment second.moment;
  new_askers = first.new_askers ++ second.new_askers;
  askers = second.askers ∙ ap (λ l. l ++ second.new_askers) first.askers ∙ append_assoc before.askers first.new_askers second.new_askers;
}

asks-goes : (before after : Life) (words : List (List ℕ)) (op : Op) (wording : Wording) → LifeGoesOn before after → AsksStore before words op wording → AsksStore after words op wording
asks-goes before after words op wording goes asked = record { is = ap (λ n. asks n words) goes.replicas ∙ asked.is }

row-goes : (before after : Life) (words : List (List ℕ)) (row : ℕ) (wording : Wording) → LifeGoesOn before after → HasRow before words row wording → HasRow after words row wording
row-goes before after words row wording goes has = record {
  op = has.op;
  asked = asks-goes before after words has.op wording goes has.asked;
  row_is = record {
    command = has.row_is.command;
    submitted = begins-get after.moment.submitted before.moment.submitted row has.row_is.command goes.moment.submitted has.row_is.submitted;
    op_is = has.row_is.op_is;
  };
}

answered-goes : (before after : Life) (words : List (List ℕ)) (answer : Answer) → LifeGoesOn before after → IsAnswered before words answer → IsAnswered after words answer
answered-goes before after words (Replied row wording reply) goes is = (row-goes before after words row wording goes is.0, answers_stay before.moment after.moment goes.moment row reply is.1)
answered-goes before after words (Late row) goes is = (is.0, row-goes before after words row is.0 goes is.1)
answered-goes before after words ManyKeys goes is = (is.0, (is.1.0, asks-goes before after words is.0 is.1.0 goes is.1.1))
answered-goes before after words NoRoom goes is = (is.0, (is.1.0, asks-goes before after words is.0 is.1.0 goes is.1.1))
answered-goes before after words (Alone text) goes is = subst (λ n. TellsAlone (asks n words) words text) (sym goes.replicas) is

own-goes : (before after : Life) (number : ℕ) → LifeGoesOn before after → (rows : List ℕ) → AreOwn before number rows → AreOwn after number rows
own-goes before after number goes = all-weaker (λ row. slice_get before.askers row ≡ Some number) (λ row. slice_get after.askers row ≡ Some number) (λ row at. ap (λ l. slice_get l row) goes.askers ∙ get_front before.askers goes.new_askers row number at)

pub session-goes : (before after : Life) (number : ℕ) (session : Session) (c : Connection) → LifeGoesOn before after → HoldsSession before number session c → HoldsSession after number session c
session-goes before after number session c goes holds = record {
  came = holds.came;
  gave = holds.gave;
  waiting = holds.waiting;
  exchanges = all-weaker (IsExchange before) (IsExchange after) (λ exchange is. answered-goes before after exchange.words exchange.answer goes is) session.answered holds.exchanges;
  questions = all-weaker (IsQuestion before) (IsQuestion after) (λ question is. row-goes before after question.words question.waits.row question.waits.wording goes is) session.pending holds.questions;
  ascend = ascend-more session.since (rows_of session) (length before.moment.submitted) (length after.moment.submitted) (begins-length after.moment.submitted before.moment.submitted goes.moment.submitted) holds.ascend;
  own = own-goes before after number goes (rows_of session) holds.own;
  last = holds.last;
  read_up = holds.read_up;
}

pub moves-same : (taken : ℕ) (session : Session) → Moves taken [] [] session session
moves-same taken session = record {
  since = refl;
  came_is = sym (append-nil session.came);
  gave_is = sym (append-nil session.gave);
  newly = [];
  answered = sym (append-nil session.answered);
  new_rows = [];
  rows = sym (append-nil (rows_of session));
  later = tt;
}

pub moves-along : (taken more_taken : ℕ) (came gave more_came more_gave : List ℕ) (a b d : Session) → taken ≤ more_taken → Moves taken came gave a b → Moves more_taken more_came more_gave b d
    → Moves taken (came ++ more_came) (gave ++ more_gave) a d
moves-along taken more_taken came gave more_came more_gave a b d le first second = record {
  since = second.since ∙ first.since;
  came_is = second.came_is ∙ ap (λ l. l ++ more_came) first.came_is ∙ append_assoc a.came came more_came;
  gave_is = second.gave_is ∙ ap (λ l. l ++ more_gave) first.gave_is ∙ append_assoc a.gave gave more_gave;
  newly = first.newly ++ second.newly;
  answered = second.answered ∙ ap (λ l. l ++ second.newly) first.answered ∙ append_assoc a.answered first.newly second.newly;
  new_rows = first.new_rows ++ second.new_rows;
  rows = second.rows ∙ ap (λ l. l ++ second.new_rows) first.rows ∙ append_assoc (rows_of a) first.new_rows second.new_rows;
  later = all-append (λ row. taken ≤ row) first.new_rows second.new_rows first.later (all-weaker (λ row. more_taken ≤ row) (λ row. taken ≤ row) (λ row high. omega (arith, le, high)) second.new_rows second.later);
}

-- no row is taken back
pub rows-grow : (before after : Life) → LifeGoesOn before after → rows_so_far before ≤ rows_so_far after
rows-grow before after goes = begins-length after.moment.submitted before.moment.submitted goes.moment.submitted

-- the store is at the same moment
pub life-kept : (stands later : Moment → Type 0) (replicas more : ℕ) (life : Life) → (stands life.moment → later life.moment) → more ≡ replicas → HoldsLife stands replicas life → HoldsLife later more life
life-kept stands later replicas more life kept same holds = record {
  now = kept holds.now;
  replicas_are = same ∙ holds.replicas_are;
  known = holds.known;
}

-- a longer order is later
abbrev pub with_order : Life → List Request → Life
with_order life more = record {
  replicas = life.replicas;
  moment = with_more life.moment more;
  askers = life.askers;
}

pub life-more : (life : Life) (more : List Request) → LifeGoesOn life (with_order life more)
life-more life more = record {
  replicas = refl;
  moment = goes_on-more life.moment more;
  new_askers = [];
  askers = sym (append-nil life.askers);
}
