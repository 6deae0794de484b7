use Rattle.std.proofs.Common.{sym, ◌∙◌}
use Rattle.mu_leadership.proofs.Fences.{still_seen}
use Rattle.mu_leadership.proofs.region_notes.RegionNotes.after.Goals as goal

pub returns : goal.returns
returns c mine other held = record {
  noted = c.noted_after.ensures c.args.p mine other held.noted;
  joined = c.joined_after.ensures mine held.noted held.joined;
  entered = c.entered_after.ensures mine held.entered;
  opened = c.opened_after.ensures.whole mine held.opened;
  minimum = c.minimum_after.ensures mine held.minimum;
  seen = held.seen ∙ sym (still_seen c.args.r c.args.p mine c.args.event.now other);
  has_read = c.has_read_after.ensures mine other held.seen held.has_read;
  foreign = c.foreign_after.ensures c.args.p mine other held.foreign;
}
