use Rattle.std.proofs.Common.{[]}
use Rattle.mu_leadership.specs.Leadership.{StandsForRegionNotes}
use Rattle.mu_model.proofs.Lists.{all_copies}
use Rattle.mu_leadership.proofs.region_notes.no_notes.Goals as goal

pub returns : goal.returns
returns c r p notes there = all_copies (λ q d. StandsForRegionNotes r q [] d) 7 c.new.result (λ q. c.new.ensures r q) p notes there
