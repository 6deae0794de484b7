use Rattle.std.proofs.Common.{◌∙◌, take}
use Rattle.mu_model.specs.Histories.{history}
use Rattle.mu_telling.proofs.FactLists.{few_of}
use Rattle.mu_telling.proofs.showing.moment_of.Goals as goal

pub returns-clause-few : goal.returns-clause-few
returns-clause-few c =
    let past = history (take c.args.count c.args.events.now) in
    few_of c.args.config.now past _ c.requires.config (c.from_vec.ensures ∙ c.in_ok-facts.ensures past c.requires.stands)
