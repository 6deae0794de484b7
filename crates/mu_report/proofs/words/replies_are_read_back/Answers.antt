use Rattle.mu_report.proofs.RepliesBack.{replies-back}
use Rattle.mu_report.proofs.words.replies_are_read_back.Goals as goal

pub returns : goal.returns
returns c = replies-back
