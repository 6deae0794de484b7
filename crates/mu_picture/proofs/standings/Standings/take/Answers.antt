use Rattle.std.proofs.Common.{◌∙◌, sym}
use Rattle.mu_picture.proofs.StandingsTaken.{standings_next}
use Rattle.mu_picture.proofs.standings.Standings.take.Goals as goal

pub returns-then-r-lt7 : goal.returns-then-r-lt7
returns-then-r-lt7 c = λ k script past e by low is held. record {
  few = held.few;
  each = standings_next k script past e c.from.result c.args.self.now.lanes c.args.standing (c.from.ensures ∙ sym by) is held.each;
}
