use Rattle.std.proofs.Common.{◌∙◌, sym}
use Rattle.mu_leadership.proofs.Elsewhere.{notes_left}
use Rattle.mu_leadership.proofs.region_notes.take_at_regions.Goals as goal

pub returns-in-Some : goal.returns-in-Some
returns-in-Some c mine other held = c.take_at.ensures mine other (sym c.region_of.ensures ∙ c.in-Some.is) held

pub returns-else-begins : goal.returns-else-begins
returns-else-begins c mine other held k notes there =
    notes_left c.args.r k c.args.event.now mine notes other (sym c.region_of.ensures ∙ c.in-None.is) (sym c.begins.ensures ∙ c.if-begins.false) (held k notes there)
