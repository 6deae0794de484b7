use Rattle.std.proofs.Common.{◌≡◌, ◌∙◌, [], ◌++◌, ap, refl, subst, sym}
use Rattle.mu_server.specs.Holding.{TellsAlone}
use Rattle.mu_server.specs.Looking.{SeesRequest}
use Rattle.mu_server.specs.Serving.{ServesOne}
use Rattle.mu_server.specs.Sessions.{Alone}
use Rattle.mu_server.proofs.Slots.{one-now, one-same}
use Rattle.mu_server.proofs.Steps.{moves-answered}
use Rattle.mu_server.proofs.reading.answer.Goals as goal

pub returns-then-is_waiting : goal.returns-then-is_waiting
returns-then-is_waiting g c = λ life number now. one-same _ _ life number c.args.connection.now now

pub returns-in_err-put_of_replicas : goal.returns-in_err-put_of_replicas
returns-in_err-put_of_replicas g c = λ life number now. one-same _ _ life number c.args.connection.now (c.put_of_replicas.ensures.lives life now)

pub returns-in_err-answer : goal.returns-in_err-answer
returns-in_err-answer g c = λ life number now.
    subst (λ k. ServesOne (g.S.OrderedStore.stands c.put_of_replicas.new.store) (g.S.OrderedStore.replicas c.put_of_replicas.new.store) life number c.args.connection.now k) (sym c.in_err-answer.ensures.same)
    (one-same _ _ life number c.args.connection.now (c.put_of_replicas.ensures.lives life now))

pub returns : goal.returns
returns g c = λ life number now.
    let text = c.as_slice.result.now in
    let done = c.in_ok-answer.ensures.answered in
    let told = c.in_ok-put_of_replicas.ensures.told in
    let sees = subst (λ n. SeesRequest n c.args.connection.now.input c.args.asked.now c.args.count c.args.text.now.items) now.replicas_are c.requires.sees in
    let tells : TellsAlone c.args.asked.now sees.words text = record {
      alone = c.requires.alone;
      of_replicas = told.told;
      tells = told.tells_so;
      is = c.as_slice.ensures.value ∙ told.is ∙ ap (λ l. l ++ told.told) sees.told;
    } in
    one-now _ _ life number _ _ (c.put_of_replicas.ensures.lives life now)
    (λ session holds. moves-answered life number session c.args.connection.now c.answer.new.self c.args.asked.now c.args.count c.args.text.now.items (Alone text) sees c.requires.going (c.is_waiting.ensures c.if-is_waiting.false)
    (ap (λ k. k.input) done) (ap (λ k. k.output) done) (ap (λ k. k.waiting.items) done) (ap (λ k. k.is_read) done) refl (subst (λ a. TellsAlone a sees.words text) sees.asked_is tells) holds)
