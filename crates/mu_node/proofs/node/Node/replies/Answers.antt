use Rattle.std.proofs.Common.{◌∙◌}
use Rattle.mu_node.proofs.node.Node.replies.Goals as goal

pub returns : goal.returns
returns c k r mine commands are held = c.replies.ensures ∙ (held.answers commands are).replies
