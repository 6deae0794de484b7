use Rattle.std.proofs.Common.{ap, refl, subst, ◌<◌, ◌≡◌, ◌∙◌}
use Rattle.std.specs.Prelude.{is_some}
use Rattle.mu_model.specs.Leaderships.{ends_leadership, is_changed}
use Rattle.mu_model.proofs.Basics.{same_number}
use Rattle.mu_agree.proofs.Possible.{parts_shorten_law}
use Rattle.mu_leadership.specs.Leadership.{ReadsWithin}
use Rattle.mu_leadership.proofs.Entries.{ended_stands}
use Rattle.mu_leadership.proofs.Fences.{fence_shown}
use Rattle.mu_leadership.proofs.Within.{reads_within}
use Rattle.mu_leadership.proofs.leadership.Leadership.take_fence.Goals as goal

pub returns-in-Seen : goal.returns-in-Seen
returns-in-Seen c c' mine few is possible held =
    let r = c.args.r in
    let p = c.args.p in
    let e = c.args.event.now in
    let f = c.in-Seen.fence in
    let own : e.by ≡ r = (parts_shorten_law c' r mine e possible).by_own in
    let low : p < 7 = subst (ReadsWithin 7) is (reads_within c' r mine e few possible) in
    let changed = c.is_fence_changed.ensures ∙ ap (λ j. is_changed j f) (c.joined.ensures r mine low held) in
    let ends : c.is_fence_changed.result ≡ ends_leadership r mine e.by e.verb e.answer = rw (own, is, c.in-Seen.is, same_number r) changed in
    let notes = c.see_at.ensures c' e mine possible is c.in-Seen.is (c.is_some-numbered.ensures ∙ ap is_some held.number) held.notes in
    ended_stands r e mine c.args.self.now c.is_fence_changed.result c.see_at.new.notes (rw is refl) ends notes held

pub returns-in_default : goal.returns-in_default
returns-in_default c c' mine few is possible held =
    let seen = fence_shown c' c.args.r c.args.p mine c.args.event.now possible is in
    absurd (c.in_default.not-Seen seen.0 seen.1)
