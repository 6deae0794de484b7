use Rattle.std.proofs.Common.{◌∙◌, inl, ap}
use Rattle.std.proofs.lemmas.Option.{slice_get_within}
use Rattle.mu_resp.specs.Readings.{request_at}
use Rattle.mu_server.proofs.Slots.{get_set_here, get_set_other}
use Rattle.mu_server.proofs.Steps.{holds-first, short-empty}
use Rattle.mu_server.proofs.single.reopen_at.Goals as goal

pub returns : goal.returns
returns c = λ life.
    let all = c.args.connections.now in
    let at = c.args.at in
    let new = c.reopen.new.self in
    record {
      connection = new;
      there = get_set_here all at new (slice_get_within all at c.requires.connection c.requires.there);
      holds = holds-first life at new c.reopen.ensures.input c.reopen.ensures.output c.reopen.ensures.waiting (λ read. inl (ap request_at c.reopen.ensures.input ∙ short-empty));
      others = λ k other_than other here. get_set_other all k at new other_than ∙ here;
    }
