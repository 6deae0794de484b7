use Rattle.std.proofs.Common.{◌∙◌, [], ◌∷◌, ◌++◌, ap, arith, inl, inr, refl, subst, sym}
use Rattle.std.proofs.lemmas.List.{length-append}
use Rattle.mu_redis.specs.declared.asked.Asked.{Asked}
use Rattle.ordered_store.specs.Moments.{Takes}
use Rattle.mu_server.specs.Holding.{IsReadUp}
use Rattle.mu_server.specs.Looking.{SeesRequest}
use Rattle.mu_server.specs.Sessions.{ManyKeys, NoRoom}
use Rattle.mu_server.specs.declared.connection.Waiting.{Waiting}
use Rattle.mu_server.proofs.Lives.{life-kept}
use Rattle.mu_server.proofs.Slots.{one-now}
use Rattle.mu_server.proofs.Steps.{life-taken, moves-answered, moves-parts, moves-waits, with_asker}
use Rattle.mu_server.proofs.reading.submit.Goals as goal

pub returns-in_err-reserve : goal.returns-in_err-reserve
returns-in_err-reserve g c = λ life number now.
    one-now _ _ life number _ _ now (λ session holds. moves-parts life number session _ _ refl refl c.reserve.ensures.items refl holds.read_up holds)

pub returns-in-Err-NoRoom : goal.returns-in-Err-NoRoom
returns-in-Err-NoRoom g c = λ life number now.
    let sees = subst (λ n. SeesRequest n c.args.connection.now.input (Asked.Operation c.args.op c.args.wording) c.args.count c.requires.sees.0) now.replicas_are c.requires.sees.1 in
    one-now _ _ life number _ _ (life-kept _ _ _ _ life (c.in-Err-NoRoom.ensures.taken life.moment) c.in-Err-NoRoom.ensures.replicas now)
    (λ session holds. elim c.refuse_late.ensures [
      | inl same ↦ moves-parts life number session _ _ (ap (λ k. k.input) same) (ap (λ k. k.output) same) (ap (λ k. k.waiting.items) same ∙ c.reserve.ensures.items) (ap (λ k. k.is_ending) same)
          (λ read. subst (λ k. IsReadUp k.input k.is_ending) (sym same) (holds.read_up (sym (ap (λ k. k.is_read) same) ∙ read))) holds
      | inr done ↦ moves-answered life number session c.args.connection.now c.refuse_late.new.connection (Asked.Operation c.args.op c.args.wording) c.args.count c.requires.sees.0 NoRoom sees c.requires.going (sym c.reserve.ensures.items ∙ done.0)
          (ap (λ k. k.input) done.1) (ap (λ k. k.output) done.1) (ap (λ k. k.waiting.items) done.1 ∙ c.reserve.ensures.items) (ap (λ k. k.is_read) done.1) refl
          (c.args.op, (c.args.wording, record { is = sym sees.asked_is })) holds
    ])

pub returns-in-Err-NoMemory : goal.returns-in-Err-NoMemory
returns-in-Err-NoMemory g c = λ life number now.
    one-now _ _ life number _ _ (life-kept _ _ _ _ life (c.in-Err-NoMemory.ensures.taken life.moment) c.in-Err-NoMemory.ensures.replicas now)
    (λ session holds. moves-parts life number session _ _ refl refl c.reserve.ensures.items refl holds.read_up holds)

pub returns-in-Err-Keys : goal.returns-in-Err-Keys
returns-in-Err-Keys g c = λ life number now.
    let sees = subst (λ n. SeesRequest n c.args.connection.now.input (Asked.Operation c.args.op c.args.wording) c.args.count c.requires.sees.0) now.replicas_are c.requires.sees.1 in
    one-now _ _ life number _ _ (life-kept _ _ _ _ life (c.in-Err-Keys.ensures.taken life.moment) c.in-Err-Keys.ensures.replicas now)
    (λ session holds. elim c.refuse_key.ensures [
      | inl same ↦ moves-parts life number session _ _ (ap (λ k. k.input) same) (ap (λ k. k.output) same) (ap (λ k. k.waiting.items) same ∙ c.reserve.ensures.items) (ap (λ k. k.is_ending) same)
          (λ read. subst (λ k. IsReadUp k.input k.is_ending) (sym same) (holds.read_up (sym (ap (λ k. k.is_read) same) ∙ read))) holds
      | inr done ↦ moves-answered life number session c.args.connection.now c.refuse_key.new.connection (Asked.Operation c.args.op c.args.wording) c.args.count c.requires.sees.0 ManyKeys sees c.requires.going (sym c.reserve.ensures.items ∙ done.0)
          (ap (λ k. k.input) done.1) (ap (λ k. k.output) done.1) (ap (λ k. k.waiting.items) done.1 ∙ c.reserve.ensures.items) (ap (λ k. k.is_read) done.1) refl
          (c.args.op, (c.args.wording, record { is = sym sees.asked_is })) holds
    ])

pub returns-in-Ok : goal.returns-in-Ok
returns-in-Ok g c = λ life number now.
    let sees = subst (λ n. SeesRequest n c.args.connection.now.input (Asked.Operation c.args.op c.args.wording) c.args.count c.requires.sees.0) now.replicas_are c.requires.sees.1 in
    let takes : Takes (g.S.OrderedStore.stands c.submit.new.self) life.moment c.args.op c.in-Ok.row = c.in-Ok.ensures.taken life.moment now.now in
    let waits : Waiting = record { row = c.in-Ok.row; wording = c.args.wording; since = c.args.pass.round } in
    record {
      after = with_asker life takes.command number;
      goes = life-taken (g.S.OrderedStore.stands c.submit.new.self) life number c.args.op c.in-Ok.row takes;
      now = record {
        now = takes.now;
        replicas_are = c.in-Ok.ensures.replicas ∙ now.replicas_are;
        known = omega (arith, length-append life.askers (number ∷ []), length-append life.moment.submitted (takes.command ∷ []), now.known);
      };
      moves = λ session holds.
          moves-waits (g.S.OrderedStore.stands c.submit.new.self) life number session c.args.connection.now c.wait.new.self c.args.op c.args.wording c.args.count c.requires.sees.0 waits sees takes refl now.known c.requires.going
          c.wait.ensures.input c.wait.ensures.output (c.wait.ensures.waiting ∙ ap (λ l. l ++ waits ∷ []) c.reserve.ensures.items) c.wait.ensures.read holds;
    }
