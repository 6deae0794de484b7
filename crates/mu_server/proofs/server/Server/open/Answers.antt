use Rattle.std.proofs.Common.{◌≡◌, ◌∙◌, ◌++◌, ◌<◌, inl, ap, arith, drop, length, subst, sym, take}
use Rattle.std.proofs.lemmas.Result.{OkIff-at_ok}
use Rattle.mu_resp.specs.Readings.{request_at}
use Rattle.mu_server.specs.Opening.{Opens}
use Rattle.mu_server.proofs.Lists.{written}
use Rattle.mu_server.proofs.Slots.{opens-pushed}
use Rattle.mu_server.proofs.Steps.{holds-first, short-empty}
use Rattle.mu_server.proofs.server.Server.open.Goals as goal

pub returns-clause-opens : goal.returns-clause-opens
returns-clause-opens g c = λ life.
    let old = c.args.self.now.connections.items in
    let fresh = c.new.result in
    let count : c.len-count.result ≡ length old = omega arith in
    subst (λ l. Opens life c.len-count.result old l) (sym c.in_ok-push.ensures.items)
    (opens-pushed life c.len-count.result old fresh count (holds-first life c.len-count.result fresh c.new.ensures.input c.new.ensures.output c.new.ensures.waiting (λ read. inl (ap request_at c.new.ensures.input ∙ short-empty))))

pub returns-in-Some-clause-opens : goal.returns-in-Some-clause-opens
returns-in-Some-clause-opens g c = λ life.
    let old = c.args.self.now.connections.items in
    let new = c.reopen_at.new.connections in
    let place = c.in-Some.place in
    let whole : c.args.self.now.connections.len ≡ length new = omega arith in
    let same : c.in-Ok.number ≡ place = (OkIff-at_ok c.try_from.result (place < 4294967296) place c.in-Ok.number c.try_from.ensures c.in-Ok.is).1 in
    let opened : Opens life place old new = subst (λ l. Opens life place l new) c.as_mut_slice.ensures.value (c.reopen_at.ensures life) in
    subst (λ n. Opens life n old (take c.args.self.now.connections.len (new ++ drop (length new) old))) (sym same)
    (subst (Opens life place old) (sym (written c.args.self.now.connections.len new old whole)) opened)
