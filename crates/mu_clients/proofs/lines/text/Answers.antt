use Rattle.mu_clients.proofs.Texts.{text_made}
use Rattle.mu_clients.proofs.lines.text.Goals as goal

pub returns : goal.returns
returns c = text_made c.args.word.now _ c.new.ensures.allowed c.new.ensures.same
