use Rattle.std.proofs.Common.{◌∙◌, ◌++◌, ap, arith, length, map}
use Rattle.std.proofs.lemmas.List.{length-append}
use Rattle.mu_resp.specs.Requests.{request}
use Rattle.mu_redis.specs.Alone.{told_alone}
use Rattle.mu_redis.specs.Asking.{asks}
use Rattle.mu_server.proofs.Lists.{drop-front}
use Rattle.mu_server.proofs.looking.look_at.Goals as goal

pub overflow_sub-result : goal.overflow_sub-result
overflow_sub-result c =
    let spelled = c.what_is_read_is_spelled_so.ensures c.args.bytes.now c.in-Ok.words c.in-Ok.rest.now c.in-Ok.ensures in
    omega (arith, ap length spelled.1, length-append (request c.in-Ok.words) c.in-Ok.rest.now)

pub returns-in_ok-put_alone-in-Ok : goal.returns-in_ok-put_alone-in-Ok
returns-in_ok-put_alone-in-Ok c =
    let spelled = c.what_is_read_is_spelled_so.ensures c.args.bytes.now c.in-Ok.words c.in-Ok.rest.now c.in-Ok.ensures in
    record {
      words = c.in-Ok.words;
      rest = c.in-Ok.rest.now;
      is = c.in-Ok.ensures;
      spelled = spelled.1;
      asked_is = c.asking_of-asked.ensures.asks ∙ ap (asks c.args.replicas) c.as_slice.ensures;
      can = c.asking_of-asked.ensures.done;
      within = omega arith;
      left = drop-front c.args.bytes.now (request c.in-Ok.words) c.in-Ok.rest.now spelled.1;
      told = c.in_ok-put_alone-in-Ok.ensures ∙ ap (λ l. l ++ told_alone c.asking_of-asked.result (map (λ word. word.now) c.as_slice-in-Ok.result.now)) c.requires ∙ ap (told_alone c.asking_of-asked.result) c.as_slice-in-Ok.ensures;
    }
