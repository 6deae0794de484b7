use Rattle.mu_words.proofs.Fields.{fields_always_fit}
use Rattle.mu_words.proofs.fields_fit.Goals as goal

pub returns : goal.returns
returns c = fields_always_fit
