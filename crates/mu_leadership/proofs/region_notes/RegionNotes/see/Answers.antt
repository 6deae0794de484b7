use Rattle.std.proofs.Common.{Some, ap, ◌∙◌}
use Rattle.std.specs.Prelude.{is_some}
use Rattle.mu_model.specs.Again.{row_with}
use Rattle.mu_model.specs.Leaderships.{proposal_number}
use Rattle.mu_agree.proofs.Possible.{parts_shorten_law}
use Rattle.mu_leadership.specs.Leadership.{grant_of}
use Rattle.mu_leadership.proofs.Fences.{seen_notes}
use Rattle.mu_leadership.proofs.Grants.{no_read_before}
use Rattle.mu_leadership.proofs.region_notes.RegionNotes.see.Goals as goal

pub returns : goal.returns
returns c c' p e mine possible is seen numbered held =
    let r = c.args.r in
    let f = c.args.fence in
    let notes = c.args.self.now in
    let own = (parts_shorten_law c' r mine e possible).by_own in
    let since = c.has_read_under-self.ensures r p mine (c.grant_in.ensures ∙ ap grant_of held.seen) held.has_read (no_read_before c' r p mine e f possible is seen) in
    let counted = c.row_with-self.ensures ∙ ap (λ t. row_with r t (Some f) notes.foreign) numbered ∙ ap (row_with r (is_some (proposal_number r mine)) (Some f)) held.foreign in
    seen_notes r p e f mine notes c.grant_named-self.result c.has_read_under-self.result c.row_with-self.result own is seen c.grant_named-self.ensures since counted held
