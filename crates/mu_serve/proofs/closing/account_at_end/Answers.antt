use Rattle.std.proofs.lemmas.Result.{IfOk-weaker}
use Rattle.mu_serve.specs.Closing.{ClosesLive, ComesTo}
use Rattle.mu_serve.proofs.closing.account_at_end.Goals as goal

pub returns-clause-closes : goal.returns-clause-closes
returns-clause-closes c =
    let after = c.play_out.new.engine in
    IfOk-weaker c.account_of_engine.result (ComesTo after) (ClosesLive c.args.engine) (λ account comes_to. record {
      after = after;
      rounds = c.play_out.ensures;
      comes_to = comes_to;
    }) c.account_of_engine.ensures.comes_to
