use Rattle.std.proofs.Common.{inr}
use Rattle.mu_library.proofs.Waiting.{tells_row}
use Rattle.mu_library.proofs.telling.reply_of.Goals as goal

pub returns-in-None : goal.returns-in-None
returns-in-None c =
    inr (c.in-None.ensures, c.reply_to.result, tells_row c.args.row c.reply_to.result c.args.eras.now c.reply_to.ensures.untold c.reply_to.ensures.told, c.put_told.ensures)
