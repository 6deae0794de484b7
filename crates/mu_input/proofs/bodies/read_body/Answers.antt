use Rattle.std.proofs.Common.{◌≡◌, ◌<◌, ◌+◌, ◌-◌, ◌∙◌, [], ◌∷◌, ◌++◌, length, sym, ap, subst, arith, length-append}
use Rattle.kv_store.specs.Commands.{Request}
use Rattle.mu_input.specs.Bodies.{body_from}
use Rattle.mu_input.specs.Readings.{Says}
use Rattle.mu_input.specs.declared.bodies.BodyLine.TheVariants.{Client, Operation}
use Rattle.mu_input.proofs.BodyReadings.{step}
use Rattle.mu_input.proofs.Clients.{IsBody, IsBody-client, IsBody-operation, next_command-is, next_command-allowed}
use Rattle.mu_input.proofs.bodies.read_body.Goals as goal

pub next-requires : goal.next-requires
next-requires c = omega (arith, c.loop-line.invariant.body.few, c.loop-line.invariant.body.few_clients)

pub loop-line-smaller-in-Ok-Client : goal.loop-line-smaller-in-Ok-Client
loop-line-smaller-in-Ok-Client c = omega (arith, ap length c.in-Some.ensures.0)

pub loop-line-preserved-in-Ok-Client : goal.loop-line-preserved-in-Ok-Client
loop-line-preserved-in-Ok-Client c =
    let l = c.loop-line in
    let room = rw c.in-Ok-Client.field-0-is at c.in-Ok-Client.ensures.room in
    let all : c.len.result ≡ length l.commands.items = omega (arith, c.len.ensures) in
    let says = c.in-Ok-Client.ensures.reading ∙ ap Says c.in-Ok-Client.field-0-is in
    let here = step l.clients l.commands.items l.lines c.next.new.self c.in-Some.line.now c.len.result (Says Client) c.in-Some.ensures.0 c.in-Some.ensures.1 all says in
    record {
      reading = sym here ∙ l.invariant.reading;
      body = IsBody-client l.clients l.count l.commands.items l.invariant.body room;
      number = omega (arith, l.invariant.number, c.in-Some.ensures.1);
    }

pub overflow_add-count : goal.overflow_add-count
overflow_add-count c =
    let l = c.loop-line in
    let room = rw c.in-Ok-Operation.field-0-is at c.in-Ok-Operation.ensures.room in
    let few : length l.commands.items < 1500 = omega (arith, c.len.ensures, room.1) in
    let allowed = next_command-allowed l.clients l.count l.commands.items c.in-Ok-Operation.op l.invariant.body few room.2 in
    omega (arith, allowed.number_fits)

pub invariant_of-push : goal.invariant_of-push
invariant_of-push c =
    let l = c.loop-line in
    let room = rw c.in-Ok-Operation.field-0-is at c.in-Ok-Operation.ensures.room in
    let few : length l.commands.items < 1500 = omega (arith, c.len.ensures, room.1) in
    next_command-allowed l.clients l.count l.commands.items c.in-Ok-Operation.op l.invariant.body few room.2

pub loop-line-preserved : goal.loop-line-preserved
loop-line-preserved c =
    let l = c.loop-line in
    let op = c.in-Ok-Operation.op in
    let room = rw c.in-Ok-Operation.field-0-is at c.in-Ok-Operation.ensures.room in
    let few : length l.commands.items < 1500 = omega (arith, c.len.ensures, room.1) in
    let all : c.len.result ≡ length l.commands.items = omega (arith, c.len.ensures) in
    let says = c.in-Ok-Operation.ensures.reading ∙ ap Says c.in-Ok-Operation.field-0-is in
    let here = step l.clients l.commands.items l.lines c.next.new.self c.in-Some.line.now c.len.result (Says (Operation op)) c.in-Some.ensures.0 c.in-Some.ensures.1 all says in
    let next : Request = record { client = l.clients - 1; number = l.count + 1; op = op } in
    let pushed : c.push.new.self.items ≡ l.commands.items ++ next ∷ [] = c.in_ok-push-in-Ok-Operation.ensures.items in
    let next_is = next_command-is l.clients l.count l.commands.items op l.invariant.body in
    record {
      reading = ap (λ commands. body_from l.clients commands c.next.new.self.number c.next.new.self.lines) (pushed ∙ ap (λ (command : Request). l.commands.items ++ command ∷ []) (sym next_is))
          ∙ sym here ∙ l.invariant.reading;
      body = subst (IsBody l.clients (l.count + 1)) (sym pushed) (IsBody-operation l.clients l.count l.commands.items op l.invariant.body room.0 few);
      number = omega (arith, l.invariant.number, c.in-Some.ensures.1, ap length pushed, length-append l.commands.items (next ∷ []));
    }
