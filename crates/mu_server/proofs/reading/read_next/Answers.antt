use Rattle.std.proofs.Common.{◌∙◌, ap, inl, refl, subst, sym}
use Rattle.mu_resp.specs.Readings.{request_at}
use Rattle.mu_server.specs.Looking.{Sees}
use Rattle.mu_server.specs.Serving.{ServesOne}
use Rattle.mu_server.proofs.Slots.{one-now, one-same}
use Rattle.mu_server.proofs.Steps.{moves-ended, moves-parts}
use Rattle.mu_server.proofs.reading.read_next.Goals as goal

pub returns-in_err-look_at : goal.returns-in_err-look_at
returns-in_err-look_at g c = λ life number now. one-same _ _ life number c.args.connection.now now

pub returns-in-Short : goal.returns-in-Short
returns-in-Short g c = λ life number now.
    let sees = subst (λ look. Sees c.replicas.result c.as_slice.result.now look c.look_at.new.text.items) c.in-Short.is c.in_ok-look_at.ensures in
    one-now _ _ life number _ _ now (λ session holds. moves-parts life number session _ _ refl refl refl refl (λ read. inl (ap request_at (sym c.as_slice.ensures) ∙ sees)) holds)

pub returns-then-is_waiting : goal.returns-then-is_waiting
returns-then-is_waiting g c = λ life number now. one-same _ _ life number c.args.connection.now now

pub returns-in_err-put_fault-in-Wrong : goal.returns-in_err-put_fault-in-Wrong
returns-in_err-put_fault-in-Wrong g c = λ life number now. one-same _ _ life number c.args.connection.now now

pub returns-in_err-end-in-Wrong : goal.returns-in_err-end-in-Wrong
returns-in_err-end-in-Wrong g c = λ life number now.
    subst (λ k. ServesOne (g.S.OrderedStore.stands c.args.store.now) (g.S.OrderedStore.replicas c.args.store.now) life number c.args.connection.now k) (sym c.in_err-end-in-Wrong.ensures.same)
    (one-same _ _ life number c.args.connection.now now)

pub returns-in-Wrong : goal.returns-in-Wrong
returns-in-Wrong g c = λ life number now.
    let done = c.in_ok-end-in-Wrong.ensures.ended in
    one-now _ _ life number _ _ now
    (λ session holds. moves-ended life number session c.args.connection.now c.end.new.self c.as_slice-in-Wrong.result.now c.requires (c.is_waiting.ensures c.if-is_waiting.false)
    (ap (λ k. k.input) done) (ap (λ k. k.output) done) (ap (λ k. k.waiting.items) done) (ap (λ k. k.is_ending) done) holds)
